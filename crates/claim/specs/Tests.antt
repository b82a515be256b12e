-- The tests before a claim, in order: document 01, refusals 1, 2, 3, 5, 8, 6, 7.
use Rattle.std.specs.Prelude.{ℕ, List, [], ◌∷◌, ◌++◌, Bool, not, ◌&&◌, eqb, leb, length}
use Rattle.refusals.specs.First.{Test, ◌when◌}
use Rattle.refusals.specs.declared.Refusal.TheVariants.{Target, Same}
use Rattle.picture.specs.Sides.{seed_tests, white_test}
use Rattle.pieces.specs.Picture.{px}

-- a byte that a claim may paint: capstone, alignment or temporary
abbrev pub claimable : ℕ → Bool
claimable target = leb 2 target && leb target 4

-- 8: the target is not 2, 3 or 4
abbrev pub target_test : ℕ → Test
target_test target = Target when not (claimable target)

-- 7: the seed already has the target colour
abbrev pub same_test : ℕ → ℕ → Test
same_test byte target = Same when eqb byte target

-- what is tested of the seed's byte and the target: 8, 6, 7
abbrev pub paint_tests : ℕ → ℕ → List Test
paint_tests byte target = target_test target ∷ white_test byte ∷ same_test byte target ∷ []

-- all that a claim tests: 1, 2, 3, 5, 8, 6, 7
abbrev pub claim_tests : List ℕ → ℕ → ℕ → ℕ → ℕ → ℕ → ℕ → List Test
claim_tests pic width height lent x y target = seed_tests width height (length pic) lent x y ++ paint_tests (px pic width x y) target
