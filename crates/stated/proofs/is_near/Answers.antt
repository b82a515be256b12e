-- `is_near` asks for each coordinate. Assumes nothing.
use mathlib.Core.Path.{◌≡◌, sym, ◌∙◌}
use borrow.Author.Rules.{rules}
use mir.Syntax.{w32}
use mir.Val.{to_z, of_z}
use Rattle.stated.specs.Stated.{near}
use Rattle.stated.proofs.is_near.Goals as goal

pub returns-then-not-is_within : goal.returns-then-not-is_within
unfolding near
returns-then-not-is_within c =
    let same : to_z w32 (of_z w32 c.args.p.x) ≡ c.args.p.x = search rules in
    rw (rw same at (sym c.is_within.ensures ∙ c.if-not-is_within.true))

pub returns : goal.returns
unfolding near
returns c =
    let same_x : to_z w32 (of_z w32 c.args.p.x) ≡ c.args.p.x = search rules in
    let same_y : to_z w32 (of_z w32 c.args.p.y) ≡ c.args.p.y = search rules in
    let x-is = rw same_x at (sym c.is_within.ensures ∙ c.if-not-is_within.false) in
    rw x-is (rw same_y at c.is_within-2.ensures)
