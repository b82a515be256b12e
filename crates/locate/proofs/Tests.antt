-- Of the tests that detect starts with, only 1 can apply to a picture that a file shows: `locate` has room for it, its length is exact, and it is a bitmap. Assumes nothing.
use Prim.Native.Nat.{ℕ, ◌-◌, ◌*◌}
use native.Mathlib.Omega.{arith}
use mathlib.Core.Path.{◌≡◌, refl, sym, ap, subst, ◌∙◌}
use mathlib.Core.Bool.{Bool, true, false, not, cond, ◌&&◌, ◌||◌}
use mathlib.Core.List.{List, [], ◌∷◌}
use lib.Dec.{leb}
use lib.ListN.{length}
use borrow.Author.Tests.{leb-true, le-leb, le-ltb, eq-eqb}
use Rattle.refusals.specs.Finding.{found, refused, refused_by}
use Rattle.refusals.specs.First.{Test, first, sound}
use Rattle.refusals.specs.declared.Refusal.TheVariants as refusal
use Rattle.refusals.proofs.First.{first_clear}
use Rattle.picture.specs.Sides.{side, length_test, room_test}
use Rattle.picture.specs.Bitmap.{bitmap, byte_test}
use Rattle.picture.proofs.Passed.{both}
use Rattle.netpbm.specs.Form.{most_pixels, space, bit, all, white_or_bit, pixels_in, Picture, Form}
use Rattle.detect.specs.Detect.{detect_tests}

-- a digit 0 or 1 shows a pixel 0 or 1
bit_low : (b : ℕ) → bit b ≡ true → leb (b - 48) 1 ≡ true
unfolding bit
bit_low b e =
    let t = both (leb 48 b) (leb b 49) e in
    let high = leb-true b 49 t.1 in
    le-leb (b - 48) 1 (omega arith)

shown_bits : (body : List ℕ) → all white_or_bit body ≡ true → bitmap (pixels_in body) ≡ true
unfolding all pixels_in bitmap
shown_bits [] e = refl
shown_bits (b ∷ s) e =
    let t = both (white_or_bit b) (all white_or_bit s) e in
    go (space b) t.0 (shown_bits s t.1)
  where
    go : (white : Bool) → (white || bit b) ≡ true → bitmap (pixels_in s) ≡ true → bitmap (cond white (pixels_in s) ((b - 48) ∷ pixels_in s)) ≡ true
    go true h rest = rest
    go false h rest = rw (bit_low b h, rest)

module _ {file : List ℕ} {p : Picture} (F : Form file p) where
  -- the tests after the first
  abbrev later : List Test
  later = length_test p.width p.height (length p.pixels) ∷ room_test p.width p.height most_pixels ∷ room_test p.width p.height most_pixels ∷ byte_test p.pixels ∷ []

  later_clear : first later sound ≡ sound
  later_clear =
      let exact = eq-eqb (length p.pixels) (p.width * p.height) F.exact in
      let room = le-ltb most_pixels (p.width * p.height) F.few in
      let bits = subst (λ (l : List ℕ). bitmap l ≡ true) F.shows (shown_bits F.body F.plain) in
      first_clear later sound (ap not exact, (room, (room, (ap not bits, tt))))

  pub only_size : (n : ℕ) → first (detect_tests p.pixels p.width p.height most_pixels most_pixels) sound ≡ refused n → n ≡ 1
  only_size n e = go (not (side p.width && side p.height)) e
    where
      go : (t : Bool) → cond t (refused_by refusal.Size) (first later sound) ≡ refused n → n ≡ 1
      go true h = sym (cc)
      go false h = let s : found tt ≡ refused n = sym later_clear ∙ h in let z : ◌≡◌ {A = ℕ} 0 1 = cc in absurd (omega arith)
