-- Where a pixel stands in the list that a picture is. Assumes nothing.
use Prim.Native.Nat.{ℕ, ◌+◌, ◌*◌, ◌/◌, ◌%◌, ◌<◌, ◌≤◌}
use native.Mathlib.Nat.{mul_comm, suc-mul, mul-le-mul_right, div-add-mod', div-lt_iff_lt-mul, mod-lt}
use native.Mathlib.Omega.{arith}
use mathlib.Core.Path.{◌≡◌, sym, ap, ◌∙◌, subst}
use mathlib.Core.List.{List, map}
use lib.ListN.{length, get_or}
use lib.Seq.{ext_get_or}
use lib.Arith.{digits_lt, digits_div}
use Rattle.pieces.specs.Picture.{px, Pixel}
use Rattle.pieces.specs.Count.{Mem, Distinct}
use Rattle.pieces.proofs.Counting.{below_length, map_mem, map_length, map_distinct}

-- two pixels that stand at one place are on one line
pub line_inj : (w x y a b : ℕ) → x < w → a < w → y * w + x ≡ b * w + a → y ≡ b
line_inj w x y a b hx ha e = sym (digits_div y hx) ∙ ap (λ (k : ℕ). k / w) e ∙ digits_div b ha

-- an earlier line ends before a later one starts
pub line_below : (w y b x : ℕ) → y < b → x < w → y * w + x < b * w
line_below w y b x l h = digits_lt l h

module _ (w h : ℕ) (p : List ℕ) (size : length p ≡ w * h) where
  pub in_picture : (x y : ℕ) → x < w → y < h → y * w + x < length p
  in_picture x y hx hy = omega (arith, digits_lt hy hx, mul_comm w h)

  pub line_fits : (y : ℕ) → y < h → y * w + w ≤ length p
  line_fits y hy = omega (arith, suc-mul y w, mul-le-mul_right w hy, mul_comm w h)

  -- pictures that show the same bytes are the same
  pub same_picture : (q : List ℕ) → length q ≡ length p → 0 < w → ((a b : ℕ) → a < w → b < h → px p w a b ≡ px q w a b) → p ≡ q
  same_picture q e pos g =
      ext_get_or 0 p q (sym e) (λ i hi.
      let at : i / w * w + i % w ≡ i = div-add-mod' i w in
      let hb : i / w < h = (div-lt_iff_lt-mul pos).1 (omega (arith, size, mul_comm w h)) in
      subst (λ (k : ℕ). get_or p k 0 ≡ get_or q k 0) at (g (i % w) (i / w) (mod-lt i pos) hb))

-- a picture has room for w * h pixels
pub pixels_below : (w h : ℕ) (l : List Pixel) → Distinct l → ((a : Pixel) → Mem a l → (a.col < w) × (a.line < h)) → length l ≤ h * w
pixels_below w h l once within =
    let at : Pixel → ℕ = λ a. a.line * w + a.col in
    let apart : (a c : Pixel) → Mem a l → Mem c l → at a ≡ at c → a ≡ c = λ a c u v e.
    let line : a.line ≡ c.line = line_inj w a.col a.line c.col c.line (within a u).0 (within c v).0 e in
    let col : a.col ≡ c.col = omega (arith, ap (λ (k : ℕ). k * w) line, e) in
    λ i. record { col = col i; line = line i } in
    let low : (k : ℕ) → Mem k (map at l) → k < h * w = λ k m.
    let r = map_mem at l k m in
    let i = within r.0 r.1 in
    omega (arith, r.2, digits_lt i.1 i.0) in
    omega (arith, below_length (h * w) (map at l) (map_distinct at l once apart) low, map_length at l)
