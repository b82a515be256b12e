-- The first refusal that applies: document 01, "First that applies". Assumes nothing.
use Rattle.std.specs.Prelude.{Bool, cond, List, [], ◌∷◌}
use Rattle.refusals.specs.Finding.{Finding, found, refused_by}
use Rattle.refusals.specs.declared.Refusal.{Refusal}

infix 40 ◌when◌
-- a refusal, and whether it applies
pub data Test : Type 0 where
  ◌when◌ : Refusal → Bool → Test

-- the first refusal that applies, and the answer where none does
abbrev pub first : {A : Type 0} → List Test → Finding A → Finding A
first [] answer = answer
first ((r when applies) ∷ tests) answer = cond applies (refused_by r) (first tests answer)

-- the answer of an operation that has nothing to tell beside its refusals
abbrev pub sound : Finding (Unit {0})
sound = found tt
