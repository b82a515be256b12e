-- `past_marks` gives up where what is left can't lift the score over the best, and else looks at it. Assumes nothing.
use mathlib.Core.Path.{◌≡◌}
use mir.Syntax.{w32}
use mir.Val.{to_z, of_z}
use Rattle.beyond.proofs.Standing.{given_up_lem}
use Rattle.beyond.proofs.Grid.{after_lines_lem, after_columns_lem}
use borrow.Author.Rules.{rules}
use Rattle.beyond.proofs.parts.past_marks.Goals as goal

pub returns-then-outdone : goal.returns-then-outdone
returns-then-outdone c =
    let b : to_z w32 (of_z w32 c.args.best) ≡ c.args.best = search rules in
    rw b
    (given_up_lem c.args.best (after_lines_lem _ _ _ c.args.c c.args.size c.requires.fact_1) _ _ _
    (rw (c.plus-lines.ensures.is, c.fitness_timing.ensures.is, c.requires.fact_2.is))
    (rw (c.after_lines.ensures.0, c.count-n.ensures.0))
    (rw b at c.outdone.ensures)
    c.if-outdone.true)

pub returns-then-outdone-2 : goal.returns-then-outdone-2
returns-then-outdone-2 c =
    let b : to_z w32 (of_z w32 c.args.best) ≡ c.args.best = search rules in
    rw b
    (given_up_lem c.args.best (after_columns_lem _ _ _ c.args.c c.args.size c.requires.fact_1) _ _ _
    (rw (c.plus-seen.ensures.is, c.fitness_columns.ensures.is, c.plus-lines.ensures.is, c.fitness_timing.ensures.is, c.requires.fact_2.is))
    (rw (c.after_columns.ensures.0, c.count-n.ensures.0))
    (rw b at c.outdone-2.ensures)
    c.if-outdone-2.true)

pub completed-requires : goal.completed-requires
completed-requires c =
    record {
      fact_1 = c.requires.fact_1;
      fact_2 = record {
        is = rw (c.plus-seen.ensures.is, c.fitness_columns.ensures.is, c.plus-lines.ensures.is, c.fitness_timing.ensures.is, c.requires.fact_2.is);
        small = search rules;
      };
    }

pub returns : goal.returns
returns c = rw c.completed.ensures
