-- A group on trial: document 01, "the copy's age order is turned round"; that the picture is copied for each trial is taken from the Rust, `find_groupings`. Definitions alone.
use Rattle.std.specs.Prelude.{ℕ, List}
use Rattle.refusals.specs.Finding.{Finding}
use Rattle.table.specs.Table.{copy_of}
use Rattle.table.specs.declared.Table.{Table}
use Rattle.groups.specs.declared.CapStoneGroup.{CapStoneGroup}
use Rattle.grids.specs.declared.SkewedGridLocation.{SkewedGridLocation}
use Rattle.fit.specs.Fit.{Fits}

-- a group is fitted on a copy of the picture, with a copy of the table; what that leaves is thrown away
pub record Trial (p : List ℕ) (w h : ℕ) (T : Table) (g : CapStoneGroup) (f : Finding (List SkewedGridLocation)) : Type 0 where
  pub picture : List ℕ
  pub table : Table
  pub fits : Fits p w h (copy_of T) g f picture table
