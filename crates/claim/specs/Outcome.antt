-- What a claim promises: of its answer and of the picture, for every input.
use Rattle.std.specs.Prelude.{ℕ, ◌≡◌, List, Result, Ok, Err}
use Rattle.refusals.specs.declared.Refusal.{Refusal}
use Rattle.refusals.specs.Finding.{Finding, found, refused, refused_by}
use Rattle.refusals.specs.First.{first, sound}
use Rattle.pieces.specs.Piece.{Piece, Pixels}
use Rattle.pieces.specs.Row.{Rows}
use Rattle.pieces.specs.Pairs.{Pushes}
use Rattle.pieces.specs.Paint.{Paints}
use Rattle.fill.specs.declared.paint.Counts.{Counts}
use Rattle.claim.specs.Tests.{claim_tests}

-- the counts, or a refusal by its number
abbrev pub claimed : Result Counts Refusal → Finding Counts
claimed (Ok counts) = found counts
claimed (Err why) = refused_by why

-- an accepted claim of the piece of (x, y): its pixels show the target and every other pixel is as it was; and the counts are of its rows, its pixels and its pushes
pub record ClaimsPiece (pic : List ℕ) (width height x y target : ℕ) (pic' : List ℕ) (counts : Counts) : Type 0 where
  pub paints : Paints pic width height x y target pic'
  pub rows : Rows (Piece pic width height x y) counts.rows
  pub pixels : Pixels (Piece pic width height x y) counts.pixels
  pub pushes : Pushes (Piece pic width height x y) counts.pushes

-- a claim leaves the picture pic' and answers: where no test applies, as above; else the first that applies, and the picture is as at entry
abbrev pub Outcome : List ℕ → ℕ → ℕ → ℕ → ℕ → ℕ → ℕ → List ℕ → Finding Counts → Type 0
Outcome pic width height lent x y target pic' (found counts) = (first (claim_tests pic width height lent x y target) sound ≡ sound) × ClaimsPiece pic width height x y target pic' counts
Outcome pic width height lent x y target pic' (refused n) = (first (claim_tests pic width height lent x y target) sound ≡ refused n) × (pic' ≡ pic)
