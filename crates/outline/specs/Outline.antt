-- A group's outline: document 01, "Groups and grids"; which lines meet at the fourth corner is taken from the Rust, `from_group`. Definitions alone.
use Rattle.std.specs.Prelude.{ℕ, List, [], ◌∷◌, Option, Some, None, Result, Ok, Err}
use Rattle.refusals.specs.declared.Refusal.{Refusal}
use Rattle.refusals.specs.Finding.{Finding, found, refused, refused_by}
use Rattle.points.specs.Range.{Near}
use Rattle.points.specs.declared.Point.{Point}
use Rattle.stated.specs.Stated.{judged}
use Rattle.lines.specs.Meet.{meet_of}
use Rattle.corners.specs.Scores.{Direction}
use Rattle.grids.specs.Grid.{Modules}
use Rattle.groups.specs.Group.{Cornered}
use Rattle.groups.specs.Orient.{oriented}
use Rattle.groups.specs.Rotate.{rotated_group}
use Rattle.groups.specs.declared.CapStoneGroup.{CapStoneGroup}
use Rattle.timing.specs.Measure.{measured_of}
use Rattle.outline.specs.declared.Outline.{Outline}

-- an answer in document 01's terms: the outline, or none, where there is no grid, or a refusal's number
abbrev pub meaning : Result (Option Outline) Refusal → Finding (List Outline)
meaning (Ok (Some o)) = found (o ∷ [])
meaning (Ok None) = found []
meaning (Err why) = refused_by why

abbrev pub outlined : CapStoneGroup → Point → ℕ → Point → Outline
outlined g hd size corner = record { group = g; hd = hd; size = size; corner = corner }

module _ (g : CapStoneGroup) (hd : Point) where
  -- the outline with the corner that was found
  unfoldable pub cornered : ℕ → Finding Point → Finding (List Outline)
  cornered size (found corner) = found (outlined g hd size corner ∷ [])
  cornered size (refused n) = refused n

  -- 12 is tested for the intersection, whatever the size
  unfoldable pub judged_outline : ℕ → Point → Finding (List Outline)
  judged_outline size corner = cornered size (judged corner)

  -- no grid where the lines stay apart
  unfoldable pub met_outline : ℕ → Option Point → Finding (List Outline)
  met_outline size (Some corner) = judged_outline size corner
  met_outline size None = found []

  -- the first stone's upper side, drawn on, meets the third's left side
  unfoldable pub crossed_outline : ℕ → Finding (List Outline)
  crossed_outline size = met_outline size (meet_of g.first.corner0 g.first.corner1 g.third.corner0 g.third.corner3)

  -- with the size that the timing pattern tells
  unfoldable pub measured_outline : Finding ℕ → Finding (List Outline)
  measured_outline (found size) = crossed_outline size
  measured_outline (refused n) = refused n

module _ (pic : List ℕ) (width height : ℕ) where
  -- the outline of stones in order and turned
  unfoldable pub sized_outline : CapStoneGroup → Point → Finding (List Outline)
  sized_outline g hd = measured_outline g hd (measured_of pic width height g.first.c g.second.c g.third.c)

  unfoldable pub turned_outline : Point → Finding CapStoneGroup → Finding (List Outline)
  turned_outline hd (found g) = sized_outline g hd
  turned_outline hd (refused n) = refused n

  -- the stones are put in order, then turned
  unfoldable pub outline_of : CapStoneGroup → Finding (List Outline)
  outline_of g = turned_outline (oriented g).hd (rotated_group (oriented g))

-- what is known of an outline that is drawn: its corners are a picture's, its direction and its fourth corner are in the range of 12, and its size is some version's
pub record Sketched (o : Outline) : Type 0 where
  pub cornered : Cornered o.group
  pub direction : Direction o.hd
  pub corner : Near o.corner
  pub modules : Modules o.size
