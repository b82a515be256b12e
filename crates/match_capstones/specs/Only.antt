-- A list of at most one element. Assumes nothing.
use Rattle.std.specs.Prelude.{Bool, cond, List, [], ◌∷◌}

-- x where the test holds, else nothing
abbrev pub only : {A : Type 0} → Bool → A → List A
only test x = cond test (x ∷ []) []
