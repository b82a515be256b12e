-- `place_at` goes by the signs, and then by the sides. Assumes nothing.
use Prim.Native.Nat.{◌≤◌, ◌<◌}
use native.Mathlib.Omega.{arith}
use mathlib.Core.Path.{◌≡◌, sym, ap, ◌∙◌}
use lib.IntN.{pos, nat_abs}
use mir.Syntax.{w32}
use mir.Val.{to_z, of_z}
use mir.Facts.{to_z-of_z}
use Rattle.sizes.proofs.Size.{from_zero, size_fits}
use Rattle.alignment.specs.Visit.{place_at}
use Rattle.alignment.proofs.Places.{left_of, above, right_of, under, on_picture_lem}
use Rattle.alignment.proofs.visit.place_at.Goals as goal

pub returns-then-x-lt0 : goal.returns-then-x-lt0
returns-then-x-lt0 c = sym (left_of _ _ _ _ (rw (to_z-of_z c.ranges.x) at c.if-x-lt0.true))

pub returns-then-y-lt0 : goal.returns-then-y-lt0
returns-then-y-lt0 c = sym (above _ _ _ _ (rw (to_z-of_z c.ranges.y) at c.if-y-lt0.true))

pub overflow_cast-column : goal.overflow_cast-column
overflow_cast-column c =
    let x_size : c.args.x ≡ pos (nat_abs c.args.x) = from_zero _ (rw (to_z-of_z c.ranges.x) at c.if-x-lt0.false) in
    let x_read : to_z w32 (of_z w32 c.args.x) ≡ pos (nat_abs c.args.x) = to_z-of_z c.ranges.x ∙ x_size in
    let few = size_fits c.ranges.x in rw (x_read) (tt, record { fits = omega arith })

pub overflow_cast-line : goal.overflow_cast-line
overflow_cast-line c =
    let y_size : c.args.y ≡ pos (nat_abs c.args.y) = from_zero _ (rw (to_z-of_z c.ranges.y) at c.if-y-lt0.false) in
    let y_read : to_z w32 (of_z w32 c.args.y) ≡ pos (nat_abs c.args.y) = to_z-of_z c.ranges.y ∙ y_size in
    let few = size_fits c.ranges.y in rw (y_read) (tt, record { fits = omega arith })

pub returns-then-column-width : goal.returns-then-column-width
returns-then-column-width c =
    let x_size : c.args.x ≡ pos (nat_abs c.args.x) = from_zero _ (rw (to_z-of_z c.ranges.x) at c.if-x-lt0.false) in
    let x_read : to_z w32 (of_z w32 c.args.x) ≡ pos (nat_abs c.args.x) = to_z-of_z c.ranges.x ∙ x_size in
    let y_size : c.args.y ≡ pos (nat_abs c.args.y) = from_zero _ (rw (to_z-of_z c.ranges.y) at c.if-y-lt0.false) in
    let e = ap nat_abs (x_read) in
    let far : c.args.width ≤ nat_abs c.args.x = omega arith in
    sym (ap (λ z. place_at c.args.width c.args.height z c.args.y) (x_size) ∙ ap (place_at c.args.width c.args.height (pos (nat_abs c.args.x))) (y_size) ∙ right_of _ _ _ _ far)

pub returns-then-line-height : goal.returns-then-line-height
returns-then-line-height c =
    let x_size : c.args.x ≡ pos (nat_abs c.args.x) = from_zero _ (rw (to_z-of_z c.ranges.x) at c.if-x-lt0.false) in
    let x_read : to_z w32 (of_z w32 c.args.x) ≡ pos (nat_abs c.args.x) = to_z-of_z c.ranges.x ∙ x_size in
    let y_size : c.args.y ≡ pos (nat_abs c.args.y) = from_zero _ (rw (to_z-of_z c.ranges.y) at c.if-y-lt0.false) in
    let y_read : to_z w32 (of_z w32 c.args.y) ≡ pos (nat_abs c.args.y) = to_z-of_z c.ranges.y ∙ y_size in
    let e = ap nat_abs (x_read) in
    let g = ap nat_abs (y_read) in
    let low : nat_abs c.args.x < c.args.width = omega arith in
    let far : c.args.height ≤ nat_abs c.args.y = omega arith in
    sym (ap (λ z. place_at c.args.width c.args.height z c.args.y) (x_size) ∙ ap (place_at c.args.width c.args.height (pos (nat_abs c.args.x))) (y_size) ∙ under _ _ _ _ low far)

pub returns : goal.returns
returns c =
    let x_size : c.args.x ≡ pos (nat_abs c.args.x) = from_zero _ (rw (to_z-of_z c.ranges.x) at c.if-x-lt0.false) in
    let x_read : to_z w32 (of_z w32 c.args.x) ≡ pos (nat_abs c.args.x) = to_z-of_z c.ranges.x ∙ x_size in
    let y_size : c.args.y ≡ pos (nat_abs c.args.y) = from_zero _ (rw (to_z-of_z c.ranges.y) at c.if-y-lt0.false) in
    let y_read : to_z w32 (of_z w32 c.args.y) ≡ pos (nat_abs c.args.y) = to_z-of_z c.ranges.y ∙ y_size in
    let e = ap nat_abs (x_read) in
    let g = ap nat_abs (y_read) in
    let low : nat_abs c.args.x < c.args.width = omega arith in
    let high : nat_abs c.args.y < c.args.height = omega arith in
    rw (e, g) (sym (ap (λ z. place_at c.args.width c.args.height z c.args.y) (x_size) ∙ ap (place_at c.args.width c.args.height (pos (nat_abs c.args.x))) (y_size) ∙ on_picture_lem _ _ _ _ low high))
