-- `fitness_beyond` may give up only where every cell is placed. Assumes nothing.
use mathlib.Core.Path.{◌≡◌, sym, ◌∙◌}
use mir.Syntax.{w32}
use mir.Val.{to_z, of_z}
use borrow.Author.Rules.{rules}
use Rattle.beyond.proofs.fitness_beyond.Goals as goal

pub by_parts-requires : goal.by_parts-requires
by_parts-requires c =
    record { picture = c.requires.fact_1; grid = c.requires.fact_2; perspective = sym c.is_tame.ensures ∙ c.if-is_tame.true }

pub returns-then-is_tame : goal.returns-then-is_tame
returns-then-is_tame c =
    let b : to_z w32 (of_z w32 c.args.best) ≡ c.args.best = search rules in
    rw b at c.by_parts.ensures

pub returns : goal.returns
returns c = rw c.fitness_all.ensures.is
