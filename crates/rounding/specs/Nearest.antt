-- The whole number nearest to a float, a half away from zero (document 01, "Points"). Arithmetic decides it, on the exact fraction that the float stands for. Assumes nothing.
use Rattle.std.specs.Prelude.{ℕ, ◌+◌, ◌*◌, ◌/◌, ◌^◌, ◌≤◌, ◌<◌, ◌≡◌, Bool, true, false, cond, ltb, leb, ℤ, pos, neg_ℤ, Float, Option, Some, None}
use Rattle.std.specs.Float.{nan, inf, fin}
use Rattle.std.specs.Float.Ieee.{up, down}

-- n is the whole number nearest to the fraction a / b, the larger one at a half: at most a half above it, and less than a half below
pub record NearestTo (a b n : ℕ) : Type 0 where
  pub not_above : 2 * b * n ≤ 2 * a + b
  pub not_below : 2 * a < 2 * b * n + b

-- n with a sign, true for minus
abbrev pub signed_by : Bool → ℕ → ℤ
signed_by false n = pos n
signed_by true n = neg_ℤ (pos n)

-- z is the whole number nearest to the float x: that of x's size, with x's sign. A NaN and an infinity have none.
abbrev pub Rounds : Float → ℤ → Type 0
Rounds nan z = ⊥
Rounds (inf s) z = ⊥
Rounds (fin s m e) z = (n : ℕ) × NearestTo (m * up e) (down e) n × (z ≡ signed_by s n)

-- the number nearest to a / b, computed
unfoldable pub half_up : ℕ → ℕ → ℕ
half_up a b = (2 * a + b) / (2 * b)

-- n with a sign, where an `i32` holds it
unfoldable pub held : Bool → ℕ → Option ℤ
held false n = cond (ltb n (2 ^ 31)) (Some (signed_by false n)) None
held true n = cond (leb n (2 ^ 31)) (Some (signed_by true n)) None

-- the number nearest to x, where an `i32` holds it
unfoldable pub nearest_of : Float → Option ℤ
nearest_of nan = None
nearest_of (inf s) = None
nearest_of (fin s m e) = held s (half_up (m * up e) (down e))

-- the number nearest to x's size
unfoldable pub size_of : Float → ℕ
size_of nan = 0
size_of (inf s) = 0
size_of (fin s m e) = half_up (m * up e) (down e)
