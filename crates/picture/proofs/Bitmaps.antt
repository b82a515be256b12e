-- A bitmap, byte by byte: what the test of the whole says of each, and the test as a run through the bytes makes it. Assumes nothing.
use Prim.Native.Nat.{ℕ, zero, suc, ◌≤◌, ◌<◌, max}
use mathlib.Core.Path.{◌≡◌, refl, sym, ◌∙◌}
use mathlib.Core.Bool.{Bool, true, false, ◌&&◌, and_assoc, and-true}
use mathlib.Core.List.{List, [], ◌∷◌, ◌++◌}
use native.Mathlib.Omega.{arith}
use lib.Dec.{leb}
use lib.ListN.{length, get_or}
use Rattle.std.specs.List.{fold}
use borrow.Author.Tests.{leb-true, leb-false, le-leb, lt-leb, not-false}
use Rattle.refusals.specs.First.{first, sound}
use Rattle.refusals.proofs.First.{clear, first_clear}
use Rattle.picture.specs.Bitmap.{bitmap, accept_tests, Accepted}
use Rattle.picture.proofs.Passed.{both, clear_sized, sized_clear}

pub bitmap_at : (p : List ℕ) → bitmap p ≡ true → (i : ℕ) → get_or p i 0 ≤ 1
unfolding bitmap
bitmap_at [] e i = omega arith
bitmap_at (b ∷ p) e zero = leb-true b 1 (both (leb b 1) (bitmap p) e).0
bitmap_at (b ∷ p) e (suc i) = bitmap_at p (both (leb b 1) (bitmap p) e).1 i

pub at_bitmap : (p : List ℕ) → ((i : ℕ) → i < length p → get_or p i 0 ≤ 1) → bitmap p ≡ true
unfolding bitmap
at_bitmap [] h = refl
at_bitmap (b ∷ p) h = rw (le-leb b 1 (h 0 (omega arith)), at_bitmap p (λ i k. h (suc i) (omega arith)))

leb_max : (a b : ℕ) → leb (max a b) 1 ≡ (leb a 1 && leb b 1)
leb_max a b = go (leb a 1) refl (leb b 1) refl
  where
    go : (s : Bool) → leb a 1 ≡ s → (t : Bool) → leb b 1 ≡ t → leb (max a b) 1 ≡ (s && t)
    go true d true e = let x = leb-true a 1 d in let y = leb-true b 1 e in le-leb (max a b) 1 (omega arith)
    go true d false e = let y = leb-false b 1 e in lt-leb (max a b) 1 (omega arith)
    go false d t e = let x = leb-false a 1 d in lt-leb (max a b) 1 (omega arith)

-- the largest of a and some bytes
pub largest_low : (p : List ℕ) (a : ℕ) → leb (fold max a p) 1 ≡ (leb a 1 && bitmap p)
unfolding bitmap
largest_low [] a = sym (and-true (leb a 1))
largest_low (b ∷ p) a = largest_low p (max a b) ∙ rw (leb_max, and_assoc)

-- what accept takes, and the other way
pub accepted : (pic : List ℕ) (width height : ℕ) → first (accept_tests pic width height) sound ≡ sound → Accepted pic width height
accepted pic width height e =
    let c = clear (accept_tests pic width height) e in
    record { sized = clear_sized width height (length pic) (c.0, (c.1.0, tt)); bits = not-false _ c.1.1.0 }

pub accepts : (pic : List ℕ) (width height : ℕ) → Accepted pic width height → first (accept_tests pic width height) sound ≡ sound
accepts pic width height a =
    let c = sized_clear width height (length pic) a.sized in
    first_clear (accept_tests pic width height) sound (c.0, (c.1.0, (rw a.bits, tt)))

pub bitmap_append : (p q : List ℕ) → bitmap p ≡ true → bitmap q ≡ true → bitmap (p ++ q) ≡ true
unfolding bitmap
bitmap_append [] q e f = f
bitmap_append (b ∷ p) q e f = let t = both (leb b 1) (bitmap p) e in rw (t.0, bitmap_append p q t.1 f)
