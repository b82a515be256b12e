-- A whole formula in floats: where no step can go beyond 2 ^ 53, every step is exact; and in signed whole numbers it comes to the integers' result. Assumes nothing.
use Prim.Native.Nat.{ℕ, ◌+◌, ◌-◌, ◌^◌, ◌≤◌}
use native.Mathlib.Nat.{le_refl, le_trans, mul-le-mul}
use native.Mathlib.Omega.{arith}
use mathlib.Core.Path.{◌≡◌, refl, ap, ap₂, ◌∙◌}
use mathlib.Core.Bool.{Bool, true, false, ◌&&◌, beq, cond}
use lib.Dec.{ltb}
use lib.IntN.{neg_ℤ, ◌+ℤ◌, ◌-ℤ◌, ◌*ℤ◌}
use lib.Ieee.{Float}
use Rattle.exact.specs.Signed.{Signed, IsWhole, value, plus, minus, times, negate}
use Rattle.exact.specs.Formula.{Formula, unknown, ◌:+◌, ◌:-◌, ◌:*◌, negated, worth, floats, integers, signeds, sizes, Exact}
use Rattle.exact.proofs.Value.{value_plus, value_minus, value_times, value_negate}
use Rattle.exact.proofs.Step.{whole_plus, whole_minus, whole_times, whole_negate}

-- ---- sizes
pub size_plus : (a b : Signed) → (plus a b).size ≤ a.size + b.size
unfolding plus
size_plus a b = go (beq a.negative b.negative) (ltb a.size b.size)
  where
    go : (w u : Bool) →
        (cond {A = Signed} w (record { negative = a.negative; size = a.size + b.size })
        (cond u (record { negative = b.negative; size = b.size - a.size }) (record { negative = a.negative && ltb b.size a.size; size = a.size - b.size }))).size
        ≤ a.size + b.size
    go true u = le_refl (a.size + b.size)
    go false true = omega arith
    go false false = omega arith

pub size_minus : (a b : Signed) → (minus a b).size ≤ a.size + b.size
unfolding minus negate
size_minus a b = size_plus a (negate b)

-- ---- in the integers
-- the integer that a formula's signed result is, is what the formula comes to in the integers
pub worth_value : {U : Type 0} (is : U → Signed) (t : Formula U) → value (worth signeds is t) ≡ worth integers (λ v. value (is v)) t
unfolding worth
worth_value is (unknown v) = refl
worth_value is (a :+ b) = value_plus (worth signeds is a) (worth signeds is b) ∙ ap₂ ◌+ℤ◌ (worth_value is a) (worth_value is b)
worth_value is (a :- b) = value_minus (worth signeds is a) (worth signeds is b) ∙ ap₂ ◌-ℤ◌ (worth_value is a) (worth_value is b)
worth_value is (a :* b) = value_times (worth signeds is a) (worth signeds is b) ∙ ap₂ ◌*ℤ◌ (worth_value is a) (worth_value is b)
worth_value is (negated a) = value_negate (worth signeds is a) ∙ ap neg_ℤ (worth_value is a)

-- ---- no step is larger than it can get
pub worth_size : {U : Type 0} (is : U → Signed) (most : U → ℕ) → ((v : U) → (is v).size ≤ most v) → (t : Formula U) → (worth signeds is t).size ≤ worth sizes most t
unfolding worth times negate
worth_size is most low (unknown v) = low v
worth_size is most low (a :+ b) =
    let h = size_plus (worth signeds is a) (worth signeds is b) in
    let p = worth_size is most low a in
    let q = worth_size is most low b in
    omega arith
worth_size is most low (a :- b) =
    let h = size_minus (worth signeds is a) (worth signeds is b) in
    let p = worth_size is most low a in
    let q = worth_size is most low b in
    omega arith
worth_size is most low (a :* b) = let h = mul-le-mul (worth_size is most low a) (worth_size is most low b) in omega arith
worth_size is most low (negated a) = worth_size is most low a

-- ---- in floats
pub last_step : {U : Type 0} (at : U → Float) (is : U → Signed) (t : Formula U) → Exact at is t → IsWhole (worth floats at t) (worth signeds is t)
unfolding worth
last_step at is (unknown v) e = e
last_step at is (a :+ b) e = e.2
last_step at is (a :- b) e = e.2
last_step at is (a :* b) e = e.2
last_step at is (negated a) e = e.1

module _ {U : Type 0} (at : U → Float) (is : U → Signed) (most : U → ℕ) (all : (v : U) → IsWhole (at v) (is v)) (low : (v : U) → (is v).size ≤ most v) where
  pub exact_steps : (t : Formula U) → worth sizes most t ≤ 2 ^ 53 → Exact at is t
  unfolding worth
  exact_steps (unknown v) h = all v
  exact_steps (a :+ b) h =
      let p = exact_steps a (omega arith) in
      let q = exact_steps b (omega arith) in
      (p, q, whole_plus (last_step at is a p) (last_step at is b q) (le_trans (worth_size is most low (a :+ b)) h))
  exact_steps (a :- b) h =
      let p = exact_steps a (omega arith) in
      let q = exact_steps b (omega arith) in
      (p, q, whole_minus (last_step at is a p) (last_step at is b q) (le_trans (worth_size is most low (a :- b)) h))
  exact_steps (a :* b) h =
      let p = exact_steps a (omega arith) in
      let q = exact_steps b (omega arith) in
      (p, q, whole_times (last_step at is a p) (last_step at is b q) (le_trans (worth_size is most low (a :* b)) h))
  exact_steps (negated a) h = let p = exact_steps a h in (p, whole_negate (last_step at is a p))
