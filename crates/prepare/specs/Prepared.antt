-- What prepare promises: document 01, "First that applies: prepare 1, 2", and "A refused call leaves picture and table as at entry". Assumes nothing.
use Rattle.std.specs.Prelude.{ℕ, ◌≡◌, List, length, Result}
use Rattle.refusals.specs.declared.Refusal.{Refusal}
use Rattle.refusals.specs.Finding.{Finding, found, refused}
use Rattle.refusals.specs.First.{first, sound}
use Rattle.picture.specs.Sides.{side_tests}
use Rattle.picture.specs.Verdict.{judged}
use Rattle.prepare.specs.Threshold.{thresholded}

-- what prepare answers
abbrev pub prepare_of : ℕ → ℕ → List ℕ → Finding (Unit {0})
prepare_of width height pic = first (side_tests width height (length pic)) sound

-- what the picture holds then: as it was after a refusal, else black and white
abbrev pub picture_after : Finding (Unit {0}) → ℕ → ℕ → List ℕ → List ℕ
picture_after (found u) width height pic = thresholded width height pic
picture_after (refused n) width height pic = pic

-- an answer of prepare, and the picture that it leaves
pub record Prepared (width height : ℕ) (pic : List ℕ) (answer : Result (Unit {0}) Refusal) (left : List ℕ) : Type 0 where
  pub answers : judged answer ≡ prepare_of width height pic
  pub paints : left ≡ picture_after (prepare_of width height pic) width height pic
