-- What an answer says of the tests before it: none applied, or which was the first, and that the later ones don't matter. Assumes nothing.
use Prim.Native.Nat.{ℕ}
use mathlib.Core.Path.{◌≡◌, refl}
use mathlib.Core.Bool.{true, false}
use mathlib.Core.List.{List, [], ◌∷◌, ◌++◌}
use mathlib.Core.Logic.{◌⊎◌, inl, inr}
use native.Mathlib.Omega.{arith}
use Rattle.refusals.specs.Numbers.{number_of}
use Rattle.refusals.specs.Finding.{Finding, refused}
use Rattle.refusals.specs.First.{Test, ◌when◌, first, sound}

-- none of the tests applies, test by test
abbrev pub Clear : List Test → Type 0
Clear [] = Unit {0}
Clear ((r when applies) ∷ tests) = (applies ≡ false) × Clear tests

pub clear : (tests : List Test) → first tests sound ≡ sound → Clear tests
clear [] e = tt
clear ((r when true) ∷ tests) e = let z : ◌≡◌ {A = ℕ} 0 1 = cc in absurd (omega arith)
clear ((r when false) ∷ tests) e = (refl, clear tests e)

-- tests of which none applies hand over to the tests after them
pub first_after : {A : Type 0} (tests more : List Test) (answer : Finding A) → Clear tests → first (tests ++ more) answer ≡ first more answer
first_after [] more answer c = refl
first_after ((r when true) ∷ tests) more answer c = let z : ◌≡◌ {A = ℕ} 0 1 = cc in absurd (omega arith)
first_after ((r when false) ∷ tests) more answer c = first_after tests more answer c.1

pub first_clear : {A : Type 0} (tests : List Test) (answer : Finding A) → Clear tests → first tests answer ≡ answer
first_clear [] answer c = refl
first_clear ((r when true) ∷ tests) answer c = let z : ◌≡◌ {A = ℕ} 0 1 = cc in absurd (omega arith)
first_clear ((r when false) ∷ tests) answer c = first_clear tests answer c.1

-- a refusal stands, whatever is tested or answered after it
pub first_stands : {A : Type 0} (tests more : List Test) (answer : Finding A) {n : ℕ} → first tests sound ≡ refused n → first (tests ++ more) answer ≡ refused n
first_stands [] more answer e = let z : ◌≡◌ {A = ℕ} 0 1 = cc in absurd (omega arith)
first_stands ((r when true) ∷ tests) more answer e = cc
first_stands ((r when false) ∷ tests) more answer e = first_stands tests more answer e

-- n is the number of a test that applies, and no test before it does
abbrev pub Told : List Test → ℕ → Type 0
Told [] n = ⊥
Told ((r when applies) ∷ tests) n = ((applies ≡ true) × (number_of r ≡ n)) ⊎ ((applies ≡ false) × Told tests n)

pub told : (tests : List Test) {n : ℕ} → first tests sound ≡ refused n → Told tests n
told [] e = let z : ◌≡◌ {A = ℕ} 0 1 = cc in omega arith
told ((r when true) ∷ tests) e = inl (refl, (cc))
told ((r when false) ∷ tests) e = inr (refl, told tests e)
