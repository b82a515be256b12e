-- `sides` answers the first of 1 and 2 that applies. The product is taken of two sides, so it fits. Assumes nothing.
use Prim.Native.Nat.{◌*◌}
use mathlib.Core.Path.{◌≡◌, sym, ◌∙◌}
use mathlib.Core.Bool.{true}
use native.Mathlib.Omega.{arith}
use native.Mathlib.Nat.{mul-le-mul}
use borrow.Author.Tests.{eq-eqb, ne_eqb}
use Rattle.picture.specs.Sides.{side}
use Rattle.picture.proofs.Passed.{side_true}
use Rattle.picture.proofs.ladder.sides.Goals as goal

pub returns-then-not-is_side : goal.returns-then-not-is_side
returns-then-not-is_side c = rw (sym c.is_side.ensures ∙ c.if-not-is_side.true)

pub returns-then-not-is_side-2 : goal.returns-then-not-is_side-2
returns-then-not-is_side-2 c =
    let wide : side c.args.width ≡ true = sym c.is_side.ensures ∙ c.if-not-is_side.false in
    rw (wide, sym c.is_side-2.ensures ∙ c.if-not-is_side-2.true)

pub overflow_mul-width : goal.overflow_mul-width
overflow_mul-width c =
    let wide : side c.args.width ≡ true = sym c.is_side.ensures ∙ c.if-not-is_side.false in
    let tall : side c.args.height ≡ true = sym c.is_side-2.ensures ∙ c.if-not-is_side-2.false in
    let w = side_true c.args.width (wide) in
    let h = side_true c.args.height (tall) in
    omega (arith, mul-le-mul w.1 h.1)

pub returns-then-len-width : goal.returns-then-len-width
returns-then-len-width c =
    let wide : side c.args.width ≡ true = sym c.is_side.ensures ∙ c.if-not-is_side.false in
    let tall : side c.args.height ≡ true = sym c.is_side-2.ensures ∙ c.if-not-is_side-2.false in
    rw (wide, tall, ne_eqb c.args.len (c.args.width * c.args.height) c.if-len-width.true)

pub returns : goal.returns
returns c =
    let wide : side c.args.width ≡ true = sym c.is_side.ensures ∙ c.if-not-is_side.false in
    let tall : side c.args.height ≡ true = sym c.is_side-2.ensures ∙ c.if-not-is_side-2.false in
    rw (wide, tall, eq-eqb c.args.len (c.args.width * c.args.height) c.if-len-width.false)
