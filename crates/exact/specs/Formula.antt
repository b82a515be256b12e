-- Formulas of sums, differences and products, worked out step by step in one order in any arithmetic. Assumes nothing.
use Rattle.std.specs.Prelude.{ℕ, ◌+◌, ◌*◌, max, ℤ, neg_ℤ, ◌+ℤ◌, ◌-ℤ◌, ◌*ℤ◌, Float}
use Rattle.std.specs.Float.Ieee as Ieee
use Rattle.std.specs.Float.{binary64}
use Rattle.exact.specs.Signed as Signed
use Rattle.exact.specs.Signed.{Signed, IsWhole}

-- a formula over unknowns of the type U
infixl 6 ◌:+◌
infixl 6 ◌:-◌
infixl 7 ◌:*◌
pub data Formula (U : Type 0) : Type 0 where
  unknown : U → Formula U
  ◌:+◌ : Formula U → Formula U → Formula U
  ◌:-◌ : Formula U → Formula U → Formula U
  ◌:*◌ : Formula U → Formula U → Formula U
  negated : Formula U → Formula U

-- what a formula is worked out in
pub record Arithmetic (A : Type 0) : Type 0 where
  pub plus : A → A → A
  pub minus : A → A → A
  pub times : A → A → A
  pub negate : A → A

-- what the formula comes to, where each unknown is what `at` says
unfoldable pub worth : {A U : Type 0} → Arithmetic A → (U → A) → Formula U → A
worth r at (unknown v) = at v
worth r at (a :+ b) = r.plus (worth r at a) (worth r at b)
worth r at (a :- b) = r.minus (worth r at a) (worth r at b)
worth r at (a :* b) = r.times (worth r at a) (worth r at b)
worth r at (negated a) = r.negate (worth r at a)

-- binary64, each step rounded
abbrev pub floats : Arithmetic Float
floats = record { plus = Ieee.add binary64; minus = Ieee.sub binary64; times = Ieee.mul binary64; negate = Ieee.neg }

-- the integers
abbrev pub integers : Arithmetic ℤ
integers = record { plus = ◌+ℤ◌; minus = ◌-ℤ◌; times = ◌*ℤ◌; negate = neg_ℤ }

-- whole numbers with a signed zero
abbrev pub signeds : Arithmetic Signed
signeds = record { plus = Signed.plus; minus = Signed.minus; times = Signed.times; negate = Signed.negate }

-- how large any step can get, by how large each unknown can be: no part of a formula reaches farther than the whole
abbrev pub sizes : Arithmetic ℕ
sizes = record { plus = ◌+◌; minus = ◌+◌; times = λ m n. max (m * n) (max m n); negate = λ n. n }

-- every step of the formula in floats, from the unknowns on, is the whole number that the same step in signed whole numbers gives
abbrev pub Exact : {U : Type 0} → (U → Float) → (U → Signed) → Formula U → Type 0
Exact at is (unknown v) = IsWhole (at v) (is v)
Exact at is (a :+ b) = Exact at is a × Exact at is b × IsWhole (worth floats at (a :+ b)) (worth signeds is (a :+ b))
Exact at is (a :- b) = Exact at is a × Exact at is b × IsWhole (worth floats at (a :- b)) (worth signeds is (a :- b))
Exact at is (a :* b) = Exact at is a × Exact at is b × IsWhole (worth floats at (a :* b)) (worth signeds is (a :* b))
Exact at is (negated a) = Exact at is a × IsWhole (worth floats at (negated a)) (worth signeds is (negated a))
