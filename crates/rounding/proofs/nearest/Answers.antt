-- `rounding::nearest` meets its contract, by its tests (`proofs/Cases.antt`). Assumes nothing.
use Rattle.std.specs.Prelude.{Some}
use mathlib.Core.Path.{ap, ◌∙◌, sym}
use lib.Ieee.{of_bits, neg}
use Prim.Native.Nat.{ℕ}
use lib.IntN.{pos, neg_ℤ}
use mir.Syntax.{w32}
use mir.Facts.{to_z-of_z}
use Rattle.rounding.proofs.Cases.{Up, up_at, up_off, Down, down_at_lem, down_off, rest_nan, rest_zero}
use Rattle.rounding.proofs.nearest.Goals as goal

pub half_up-requires : goal.half_up-requires
unfolding neg of_bits
half_up-requires c =
    let ups : Up c.args.x = up_at c.args.x c.if-x.true c.if-x-2.true in
    record { fact_1 = (ups).low; fact_2 = (ups).high }

pub plus-requires : goal.plus-requires
unfolding neg of_bits
plus-requires c =
    let ups : Up c.args.x = up_at c.args.x c.if-x.true c.if-x-2.true in
    rw c.half_up.ensures (ups).small

pub returns-then-x-2 : goal.returns-then-x-2
unfolding neg of_bits
returns-then-x-2 c =
    let ups : Up c.args.x = up_at c.args.x c.if-x.true c.if-x-2.true in
    ap Some (to_z-of_z {w = w32} (record { sfits = c.plus.type_inv }) ∙ c.plus.ensures ∙ ap pos c.half_up.ensures)
    ∙ sym (ups).at

pub returns-then-x : goal.returns-then-x
unfolding of_bits neg
returns-then-x c = sym (up_off _ c.if-x.true c.if-x-2.false)

pub half_up-requires-then-x-4 : goal.half_up-requires-then-x-4
unfolding neg of_bits
half_up-requires-then-x-4 c =
    let downs : Down c.args.x = down_at_lem c.args.x c.if-x-3.true c.if-x-4.true in
    record { fact_1 = (downs).low; fact_2 = (downs).high }

pub minus-requires : goal.minus-requires
unfolding neg of_bits
minus-requires c =
    let downs : Down c.args.x = down_at_lem c.args.x c.if-x-3.true c.if-x-4.true in
    rw c.half_up-then-x-4.ensures (downs).small

pub returns-then-x-4 : goal.returns-then-x-4
unfolding neg of_bits
returns-then-x-4 c =
    let downs : Down c.args.x = down_at_lem c.args.x c.if-x-3.true c.if-x-4.true in
    ap Some (to_z-of_z {w = w32} (record { sfits = c.minus.type_inv }) ∙ c.minus.ensures ∙ ap (λ (n : ℕ). neg_ℤ (pos n)) c.half_up-then-x-4.ensures)
    ∙ sym (downs).at

pub returns-then-x-3 : goal.returns-then-x-3
unfolding of_bits neg
returns-then-x-3 c = sym (down_off _ c.if-x-3.true c.if-x-4.false)

pub returns-then-x-5 : goal.returns-then-x-5
returns-then-x-5 c = sym (rest_nan _ c.if-x-5.true)

pub returns : goal.returns
unfolding of_bits
returns c = sym (rest_zero _ c.if-x.false c.if-x-3.false c.if-x-5.false)
