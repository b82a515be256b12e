-- A bitmap that was painted and kept its white pixels is itself again without its paint. Assumes nothing.
use Prim.Native.Nat.{ℕ, zero, suc, ◌+◌, ◌*◌, ◌≤◌}
use native.Mathlib.Omega.{arith}
use mathlib.Core.Path.{◌≡◌, refl, sym, ◌∙◌}
use mathlib.Core.List.{List, [], ◌∷◌, map}
use mathlib.Core.Logic.{◌↔◌, ⊎_elim}
use lib.ListN.{length, get_or}
use borrow.Author.Tests.{le-leb, lt-leb}
use Rattle.picture.specs.Bitmap.{Accepted}
use Rattle.picture.proofs.Bitmaps.{bitmap_at}
use Rattle.pieces.specs.Picture.{px}
use Rattle.pieces.proofs.Numbers.{split, same}
use Rattle.pieces.proofs.Counting.{map_length}
use Rattle.pieces.proofs.Index.{same_picture}
use Rattle.fitness.specs.Fitness.{SameWhite}
use Rattle.rollback.specs.Unpainted.{unpainted}

-- a byte of what has no paint is the byte without its paint
unpainted_at : (p : List ℕ) (i : ℕ) → get_or (map unpainted p) i 0 ≡ unpainted (get_or p i 0)
unfolding unpainted
unpainted_at [] i = refl
unpainted_at (b ∷ p) zero = refl
unpainted_at (b ∷ p) (suc i) = unpainted_at p i

one_of : (k : ℕ) → k ≤ 1 → (k ≡ 0 → ⊥) → k ≡ 1
one_of zero low not = absurd (not refl)
one_of (suc k) low not = omega arith

-- a bit is white exactly where the byte is: then it is the byte without its paint
bit_back : (bit byte : ℕ) → bit ≤ 1 → (bit ≡ 0) ↔ (byte ≡ 0) → bit ≡ unpainted byte
unfolding unpainted
bit_back bit byte low alike =
    ⊎_elim
    (λ z. rw z (alike.1 z))
    (λ n.
    let black : bit ≡ 1 = one_of bit low (λ e. n (alike.0 e)) in
    ⊎_elim (λ few. rw (le-leb byte 1 few) (black ∙ sym (one_of byte few n))) (λ more. rw (lt-leb byte 1 more) black) (split byte 1))
    (same byte 0)

pub blackened_back : (B q : List ℕ) (w h : ℕ) → Accepted B w h → length q ≡ length B → SameWhite w h B q → map unpainted q ≡ B
blackened_back B q w h A len white =
    sym
    (same_picture w h B A.sized.whole (map unpainted q) (map_length unpainted q ∙ len) A.sized.some_width
    (λ x y hx hy. bit_back (px B w x y) (px q w x y) (bitmap_at B A.bits (y * w + x)) (white x y hx hy) ∙ sym (unpainted_at q (y * w + x))))
