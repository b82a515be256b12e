-- `by_parts` gives up before it looks at a mark, and after each, where what is left can't lift the score over the best. Assumes nothing.
use native.Mathlib.Omega.{arith}
use mathlib.Core.Path.{◌≡◌, refl}
use mir.Syntax.{w32}
use mir.Val.{to_z, of_z}
use Rattle.cell_fitness.specs.Score.{extent}
use Rattle.beyond.proofs.Standing.{given_up_lem}
use Rattle.beyond.proofs.Grid.{at_start, after_right, after_marks_lem}
use borrow.Author.Rules.{rules}
use Rattle.beyond.proofs.parts.by_parts.Goals as goal

pub returns-then-outdone : goal.returns-then-outdone
returns-then-outdone c =
    let b : to_z w32 (of_z w32 c.args.best) ≡ c.args.best = search rules in
    rw b
    (given_up_lem c.args.best (at_start _ _ _ c.args.c c.args.size c.requires) _ _ _
    refl
    (rw (c.after_marks-left.ensures.0, c.count.ensures.0) (omega arith))
    (rw b at c.outdone.ensures)
    c.if-outdone.true)

pub returns-then-outdone-2 : goal.returns-then-outdone-2
returns-then-outdone-2 c =
    let b : to_z w32 (of_z w32 c.args.best) ≡ c.args.best = search rules in
    rw b
    (given_up_lem c.args.best (after_right _ _ _ c.args.c c.args.size c.requires) _ _ _
    c.fitness_capstone-right.ensures.is
    (rw (c.after_marks-left.ensures.0, c.count.ensures.0))
    (rw b at c.outdone-2.ensures)
    c.if-outdone-2.true)

pub returns-then-outdone-3 : goal.returns-then-outdone-3
returns-then-outdone-3 c =
    let b : to_z w32 (of_z w32 c.args.best) ≡ c.args.best = search rules in
    rw b
    (given_up_lem c.args.best (after_marks_lem _ _ _ c.args.c c.args.size c.requires) _ _ _
    (rw (c.plus-marks.ensures.is, c.fitness_capstone.ensures.is, c.fitness_capstone-right.ensures.is))
    (rw (c.after_marks-left.ensures.0, c.count.ensures.0))
    (rw b at c.outdone-3.ensures)
    c.if-outdone-3.true)

pub past_marks-requires : goal.past_marks-requires
past_marks-requires c =
    record {
      fact_1 = c.requires;
      fact_2 = record {
        is = rw (c.plus-marks.ensures.is, c.fitness_capstone.ensures.is, c.fitness_capstone-right.ensures.is);
        small = search rules;
      };
    }

pub returns : goal.returns
returns c =
    let b : to_z w32 (of_z w32 c.args.best) ≡ c.args.best = search rules in
    rw b at c.past_marks.ensures

pub outdone-requires-clause-fact_1 : goal.outdone-requires-clause-fact_1
unfolding extent
outdone-requires-clause-fact_1 c = search rules
