-- A picture in work: what a search for marks starts from, and what it keeps. Definitions alone.
use Rattle.std.specs.Prelude.{ℕ, ◌*◌, ◌<◌, List, length}
use Rattle.picture.specs.Sides.{Roomy}
use Rattle.table.specs.declared.Table.{Table}
use Rattle.demand.specs.Run.{Event}
use Rattle.demand.proofs.Kept.{Kept}
use Rattle.scanner.specs.declared.LinePosition.{LinePosition}
use Rattle.scanner.proofs.Dark.{OnDark}

-- p and T are as calls of lookup and claim leave an accepted bitmap and its table, and the caller lends an entry a pixel
pub record InWork (p : List ℕ) (w h lent : ℕ) (T : Table) : Type 0 where
  pub bitmap : List ℕ
  pub calls : List Event
  pub kept : Kept bitmap w h calls p T
  pub roomy : Roomy w h (length p) lent

-- such a picture, with a cut of its line y, whose three columns are dark
pub record AtCut (p : List ℕ) (w h lent : ℕ) (T : Table) (y : ℕ) (cut : LinePosition) : Type 0 where
  pub work : InWork p w h lent T
  pub in_y : y < h
  pub columns : OnDark p (y * w) w cut
