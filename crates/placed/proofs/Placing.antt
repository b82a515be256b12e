-- A tame perspective places every point that lies in the grid. Assumes nothing.
use Rattle.std.specs.Prelude.{Some}
use Prim.Native.Nat.{ℕ, ◌+◌, ◌*◌, ◌^◌, ◌≤◌, ◌<◌}
use native.Mathlib.Nat.{le_refl, mul-pos, div-lt_iff_lt-mul}
use native.Mathlib.Omega.{arith}
use mathlib.Core.Path.{◌≡◌, refl, sym}
use mathlib.Core.Bool.{Bool, true, false, ◌&&◌, true≢false}
use lib.Dec.{leb, lit<, lit≤}
use lib.IntN.{ℤ, pos, negsuc, neg_ℤ}
use lib.Ieee.{Float, nan, inf, fin, binary64, up, down, round, of_int, lt, neg}
use lib.Ieee.Back.{round_whole}
use lib.Ieee.Fits.{down_pos}
use borrow.Author.Tests.{leb-true, lt-ltb, le-leb}
use Rattle.refusals.specs.Finding.{found}
use Rattle.rounding.specs.Nearest.{half_up, held, nearest_of}
use Rattle.floats.specs.Float64.{◌⊕◌, ◌⊗◌, ◌⊘◌, float, one}
use Rattle.points.specs.declared.Point.{Point}
use Rattle.geometry.specs.Map.{placed, map_den, map_x, map_y, mapped}
use Rattle.geometry.specs.declared.Perspective.{Perspective}
use Rattle.placed.specs.Tame.{within, slant, near, tame}
use Rattle.placed.proofs.Under.{Under, Over, Exact, weaker, value_under, add_under, mul_under, div_under, half_exact, one_over, between_under}

-- ---- what the test says of the coefficients
-- two tests that both pass
both : (a b : Bool) → a && b ≡ true → (a ≡ true) × (b ≡ true)
both true b e = (refl, e)
both false b e = absurd (true≢false (sym e))

-- and three
three : (a b c : Bool) → a && b && c ≡ true → (a ≡ true) × (b ≡ true) × (c ≡ true)
three true b c e = let t = both b c e in (refl, t.0, t.1)
three false b c e = absurd (true≢false (sym e))

-- what lies strictly between a limit and its opposite is bounded by it
within_under : (n : ℕ) (k : ℤ) (x : Float) → within (fin false n k) x ≡ true → Under x (n * up k) (down k)
unfolding within
within_under n k x e = let t = both (lt x (fin false n k)) (lt (neg (fin false n k)) x) e in between_under x n k t.0 t.1

-- the limit of a numerator's coefficients
abbrev far : Float
far = fin false 1 (pos 18)

-- the test, one part at a time
record Tamed (size : ℕ) (c : Perspective) : Type 0 where
  first : within (slant size) c.c6 ≡ true
  second : within (slant size) c.c7 ≡ true
  across : near c.c0 c.c1 c.c2 ≡ true
  down : near c.c3 c.c4 c.c5 ≡ true

-- what passes the whole passes each part
tamed : (size : ℕ) (c : Perspective) → tame size c ≡ true → Tamed size c
unfolding tame
tamed size c e =
    let t = both (within (slant size) c.c6 && within (slant size) c.c7 && near c.c0 c.c1 c.c2) (near c.c3 c.c4 c.c5) e in
    let s = three (within (slant size) c.c6) (within (slant size) c.c7) (near c.c0 c.c1 c.c2) t.0 in
    record { first = s.0; second = s.1; across = s.2; down = t.1 }

-- a number of cells, no fewer than a grid's size, such that c6 and c7 are at most a quarter of its inverse
record Reach (size : ℕ) : Type 0 where
  cells : ℕ
  few : cells ≤ 256
  covers : size ≤ cells
  some : 0 < cells
  limits : (x : Float) → within (slant size) x ≡ true → Under x 1 (4 * cells)

-- up to 256 cells there is such a number
reach : (size : ℕ) → size ≤ 256 → Reach size
unfolding slant
reach size most = go (leb size 32) (leb size 64) (leb size 128) refl refl refl
  where
    go : (a b c : Bool) → leb size 32 ≡ a → leb size 64 ≡ b → leb size 128 ≡ c → Reach size
    go true b c p q r = record { cells = 32; few = lit≤ tt; covers = leb-true size 32 p; some = lit< tt; limits = λ x e. within_under 1 (negsuc 6) x (rw p at e) }
    go false true c p q r = record { cells = 64; few = lit≤ tt; covers = leb-true size 64 q; some = lit< tt; limits = λ x e. within_under 1 (negsuc 7) x (rw (p, q) at e) }
    go false false true p q r = record { cells = 128; few = lit≤ tt; covers = leb-true size 128 r; some = lit< tt; limits = λ x e. within_under 1 (negsuc 8) x (rw (p, q, r) at e) }
    go false false false p q r = record { cells = 256; few = lit≤ tt; covers = most; some = lit< tt; limits = λ x e. within_under 1 (negsuc 9) x (rw (p, q, r) at e) }

-- ---- the float steps of a mapped point
-- a whole number up to 2 ^ 53 is a float
whole_exact : (n : ℕ) → n ≤ 2 ^ 53 → Exact n 1
whole_exact n h = round_whole binary64 false n h

-- so is a quarter
quarter_exact : Exact 1 4
unfolding round
quarter_exact = (refl, refl)

-- a coordinate: a whole number, and a part of a cell more
coordinate : (x : ℕ) (part : Float) → x < 2 ^ 53 → Under part 1 1 → Under (float (pos x) ⊕ part) (x + 1) 1
unfolding of_int
coordinate x part h v =
    let low : x + 1 ≤ 2 ^ 53 = omega arith in
    let low' : x ≤ 2 ^ 53 = omega arith in
    add_under (float (pos x)) part x 1 1 (x + 1) 1 (value_under (float (pos x)) false x 1 (round_whole binary64 false x low')) v (lit< tt) (lit< tt) (whole_exact (x + 1) low) (le_refl ((x + 1) * 1))

-- a numerator is at most 2 ^ 28
numerator : (a b c u v : Float) → near a b c ≡ true → Under u 256 1 → Under v 256 1 → Under (a ⊗ u ⊕ b ⊗ v ⊕ c) (2 ^ 28) 1
unfolding near
numerator a b c u v t p q =
    let each = three (within far a) (within far b) (within far c) t in
    let a' : Under a (2 ^ 18) 1 = within_under 1 (pos 18) a each.0 in
    let b' : Under b (2 ^ 18) 1 = within_under 1 (pos 18) b each.1 in
    let c' : Under c (2 ^ 18) 1 = within_under 1 (pos 18) c each.2 in
    let au : Under (a ⊗ u) (2 ^ 26) 1 = mul_under a u (2 ^ 18) 1 256 1 (2 ^ 26) 1 a' p (lit< tt) (lit< tt) (lit< tt) (whole_exact (2 ^ 26) (lit≤ tt)) (lit≤ tt) in
    let bv : Under (b ⊗ v) (2 ^ 26) 1 = mul_under b v (2 ^ 18) 1 256 1 (2 ^ 26) 1 b' q (lit< tt) (lit< tt) (lit< tt) (whole_exact (2 ^ 26) (lit≤ tt)) (lit≤ tt) in
    let two : Under (a ⊗ u ⊕ b ⊗ v) (2 ^ 27) 1 = add_under (a ⊗ u) (b ⊗ v) (2 ^ 26) (2 ^ 26) 1 (2 ^ 27) 1 au bv (lit< tt) (lit< tt) (whole_exact (2 ^ 27) (lit≤ tt)) (lit≤ tt) in
    add_under (a ⊗ u ⊕ b ⊗ v) c (2 ^ 27) (2 ^ 18) 1 (2 ^ 28) 1 two c' (lit< tt) (lit< tt) (whole_exact (2 ^ 28) (lit≤ tt)) (lit≤ tt)

-- the denominator is a half at least
denominator : (a b u v : Float) (n : ℕ) → 0 < n → Under a 1 (4 * n) → Under b 1 (4 * n) → Under u n 1 → Under v n 1 → Over (a ⊗ u ⊕ b ⊗ v ⊕ one) 1 2
denominator a b u v n some p q r s =
    let four : 0 < 4 * n = omega arith in
    let au : Under (a ⊗ u) 1 4 = mul_under a u 1 (4 * n) n 1 1 4 p r four (lit< tt) (lit< tt) quarter_exact (omega arith) in
    let bv : Under (b ⊗ v) 1 4 = mul_under b v 1 (4 * n) n 1 1 4 q s four (lit< tt) (lit< tt) quarter_exact (omega arith) in
    one_over (a ⊗ u ⊕ b ⊗ v) (add_under (a ⊗ u) (b ⊗ v) 1 1 4 1 2 au bv (lit< tt) (lit< tt) half_exact (lit≤ tt))

-- ---- what is at most 2 ^ 29 rounds to an `i32`
-- rounding half up adds less than 1
half_up_low : (a b : ℕ) → 0 < b → a * 1 ≤ 2 ^ 29 * b → half_up a b < 2 ^ 31
unfolding half_up
half_up_low a b p h = (div-lt_iff_lt-mul (mul-pos (lit< tt) p)).1 (omega arith)

-- with either sign
rounded : (x : Float) → Under x (2 ^ 29) 1 → (z : ℤ) × (nearest_of x ≡ Some z)
unfolding nearest_of held
rounded nan v = absurd v
rounded (inf s) v = absurd v
rounded (fin false m e) v =
    let n = half_up (m * up e) (down e) in
    (pos n, rw (lt-ltb n (2 ^ 31) (half_up_low (m * up e) (down e) (down_pos e) v)))
rounded (fin true m e) v =
    let n = half_up (m * up e) (down e) in
    let low = half_up_low (m * up e) (down e) (down_pos e) v in
    (neg_ℤ (pos n), rw (le-leb n (2 ^ 31) (omega arith)))

-- a numerator over a denominator
quotient : (x y : Float) → Under x (2 ^ 28) 1 → Over y 1 2 → (z : ℤ) × (nearest_of (x ⊘ y) ≡ Some z)
quotient x y p q = rounded (x ⊘ y) (div_under x y (2 ^ 28) 1 1 2 (2 ^ 29) 1 p q (lit< tt) (lit< tt) (lit< tt) (whole_exact (2 ^ 29) (lit≤ tt)) (lit≤ tt))

-- ---- the point at two parts of the cell in column x of line y
pub tame_point : (size : ℕ) (c : Perspective) → tame size c ≡ true → size ≤ 177 → (x y : ℕ) → x < size → y < size → (r s : Float) → Under r 1 1 → Under s 1 1 → (p : Point) × (mapped c (float (pos x) ⊕ r) (float (pos y) ⊕ s) ≡ found p)
unfolding mapped placed map_x map_y map_den
tame_point size c t most x y hx hy r s R S =
    let in_reach = reach size (omega arith) in
    let n = in_reach.cells in
    let few = in_reach.few in
    let covers = in_reach.covers in
    let parts = tamed size c t in
    let u = float (pos x) ⊕ r in
    let v = float (pos y) ⊕ s in
    let un : Under u n 1 = weaker u (x + 1) 1 n 1 (lit< tt) (omega arith) (coordinate x r (omega arith) R) in
    let vn : Under v n 1 = weaker v (y + 1) 1 n 1 (lit< tt) (omega arith) (coordinate y s (omega arith) S) in
    let u' : Under u 256 1 = weaker u n 1 256 1 (lit< tt) (omega arith) un in
    let v' : Under v 256 1 = weaker v n 1 256 1 (lit< tt) (omega arith) vn in
    let den = denominator c.c6 c.c7 u v n in_reach.some (in_reach.limits c.c6 parts.first) (in_reach.limits c.c7 parts.second) un vn in
    let across = quotient (c.c0 ⊗ u ⊕ c.c1 ⊗ v ⊕ c.c2) (c.c6 ⊗ u ⊕ c.c7 ⊗ v ⊕ one) (numerator c.c0 c.c1 c.c2 u v parts.across u' v') den in
    let down = quotient (c.c3 ⊗ u ⊕ c.c4 ⊗ v ⊕ c.c5) (c.c6 ⊗ u ⊕ c.c7 ⊗ v ⊕ one) (numerator c.c3 c.c4 c.c5 u v parts.down u' v') den in
    (record { x = across.0; y = down.0 }, rw (across.1, down.1))
