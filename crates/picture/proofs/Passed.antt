-- What the tests of sides, length, room and seed show where none of them applies, and what 1 says where it does. Assumes nothing.
use Prim.Native.Nat.{ℕ, ◌*◌, ◌≤◌, ◌<◌}
use mathlib.Core.Path.{◌≡◌, refl, sym}
use mathlib.Core.Logic.{◌⊎◌, inl, inr, ⊎_elim}
use mathlib.Core.Bool.{Bool, true, false, not, ◌&&◌, true≢false}
use native.Mathlib.Omega.{arith}
use lib.Dec.{ltb, leb}
use borrow.Author.Tests.{eqb-true, ltb-true, ltb-false, leb-true, leb-false, not-false, not-true, eq-eqb, lt-ltb, le-leb}
use Rattle.refusals.specs.Limits.{longest_side}
use Rattle.refusals.specs.First.{first, sound}
use Rattle.refusals.proofs.First.{Clear, clear}
use Rattle.picture.specs.Sides.{side, Unsized, side_tests, room_tests, seed_tests, Sized, Roomy, Seeded}

-- two tests that hold together hold
pub both : (a b : Bool) → (a && b) ≡ true → (a ≡ true) × (b ≡ true)
both true b e = (refl, e)
both false b e = absurd (true≢false (sym e))

pub side_true : (n : ℕ) → side n ≡ true → (0 < n) × (n ≤ longest_side)
unfolding side
side_true n e = let t = both (ltb 0 n) (leb n longest_side) e in (ltb-true 0 n t.0, leb-true n longest_side t.1)

pub clear_sized : (width height len : ℕ) → Clear (side_tests width height len) → Sized width height len
clear_sized width height len c =
    let t = both (side width) (side height) (not-false _ c.0) in
    let w = side_true width t.0 in
    let h = side_true height t.1 in
    record { some_width = w.0; wide = w.1; some_height = h.0; tall = h.1; whole = eqb-true len (width * height) (not-false _ c.1.0) }

pub clear_roomy : (width height len lent : ℕ) → Clear (room_tests width height len lent) → Roomy width height len lent
clear_roomy width height len lent c = record {
  sized = clear_sized width height len (c.0, (c.1.0, tt));
  room = ltb-false lent (width * height) c.1.1.0;
}

pub clear_seeded : (width height len lent x y : ℕ) → Clear (seed_tests width height len lent x y) → Seeded width height len lent x y
clear_seeded width height len lent x y c =
    let r = clear_roomy width height len lent (c.0, (c.1.0, (c.1.1.0, tt))) in
    let t = both (ltb x width) (ltb y height) (not-false _ c.1.1.1.0) in
    record { sized = r.sized; room = r.room; in_x = ltb-true x width t.0; in_y = ltb-true y height t.1 }

-- and the other way: such a picture passes
pub sized_clear : (width height len : ℕ) → Sized width height len → Clear (side_tests width height len)
unfolding side
sized_clear width height len z = (
  rw (lt-ltb 0 width z.some_width, le-leb width longest_side z.wide, lt-ltb 0 height z.some_height, le-leb height longest_side z.tall),
  (rw (eq-eqb len (width * height) z.whole), tt),
)

-- the same from a verdict
pub sized : (width height len : ℕ) → first (side_tests width height len) sound ≡ sound → Sized width height len
sized width height len e = clear_sized width height len (clear (side_tests width height len) e)

pub roomy : (width height len lent : ℕ) → first (room_tests width height len lent) sound ≡ sound → Roomy width height len lent
roomy width height len lent e = clear_roomy width height len lent (clear (room_tests width height len lent) e)

pub seeded : (width height len lent x y : ℕ) → first (seed_tests width height len lent x y) sound ≡ sound → Seeded width height len lent x y
seeded width height len lent x y e = clear_seeded width height len lent x y (clear (seed_tests width height len lent x y) e)

-- one of two tests that fail together fails
neither : (a b : Bool) → (a && b) ≡ false → (a ≡ false) ⊎ (b ≡ false)
neither true b e = inr e
neither false b e = inl refl

side_false : (n : ℕ) → side n ≡ false → (n ≡ 0) ⊎ (longest_side < n)
unfolding side
side_false n e = ⊎_elim (λ z. inl (let h = ltb-false 0 n z in omega arith)) (λ z. inr (leb-false n longest_side z)) (neither (ltb 0 n) (leb n longest_side) e)

pub unsized : (width height : ℕ) → not (side width && side height) ≡ true → Unsized width height
unsized width height e =
    ⊎_elim
    (λ z. ⊎_elim (λ a. inl a) (λ a. inr (inl a)) (side_false width z))
    (λ z. ⊎_elim (λ a. inr (inr (inl a))) (λ a. inr (inr (inr a))) (side_false height z))
    (neither (side width) (side height) (not-true _ e))
