-- What an operation answers, in document 01's terms. Assumes nothing.
use Rattle.std.specs.Prelude.{ℕ}
use Rattle.refusals.specs.Numbers.{number_of}
use Rattle.refusals.specs.declared.Refusal.{Refusal}

-- what was found, or the number of a refusal and nothing else
pub data Finding (A : Type 0) : Type 0 where
  found : A → Finding A
  refused : ℕ → Finding A

-- a refusal, by its number
abbrev pub refused_by : {A : Type 0} → Refusal → Finding A
refused_by r = refused (number_of r)
