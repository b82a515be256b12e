-- Document 01, "The contract of each public operation determines its finding, picture and table for all inputs, refusals too; show that two outcomes allowed by it coincide": one law for each operation of the face, of two answers a and b to the same call, with what each leaves. Assumes nothing.
-- q and r are the pictures that the two leave, U and Z the tables; an operation that only reads a picture leaves it by its type. Each law is its layer's.
use Rattle.std.specs.Prelude.{Option, Result}
use Rattle.grids.specs.declared.SkewedGridLocation.{SkewedGridLocation}
use Rattle.fill.specs.declared.paint.Counts.{Counts}
use Rattle.refusals.specs.declared.Refusal.{Refusal}
use Prim.Native.Nat.{ℕ}
use mathlib.Core.Path.{◌≡◌, sym, ◌∙◌}
use mathlib.Core.List.{List}
use lib.ListN.{length}
use Rattle.refusals.specs.First.{first, sound}
use Rattle.picture.specs.Verdict.{judged}
use Rattle.picture.specs.Bitmap.{accept_tests}
use Rattle.picture.proofs.Judged.{judged_only}
use Rattle.prepare.specs.Prepared.{Prepared}
use Rattle.prepare.proofs.Promise.{prepared_only}
use Rattle.table.specs.Table.{empty_table}
use Rattle.table.specs.declared.Table.{Table}
use Rattle.claim.specs.Outcome.{Outcome, claimed}
use Rattle.claim.proofs.Determined.{claim_only}
use Rattle.regions.specs.Found as found
use Rattle.regions.specs.Lookup.{LookPost}
use Rattle.regions.specs.declared.ColoredRegion.{ColoredRegion}
use Rattle.regions.proofs.Unique.{look_unique}
use Rattle.capstones.specs.declared.CapStone.{CapStone}
use Rattle.match_capstones.specs.Answer.{ranking, Tells}
use Rattle.match_capstones.specs.declared.Ranked.{Ranked}
use Rattle.neighbors.proofs.Lent.{lent_once}
use Rattle.groups.specs.declared.CapStoneGroup.{CapStoneGroup}
use Rattle.grids.specs.Grid as grid
use Rattle.fit.specs.Fit.{FitPost}
use Rattle.fit.proofs.Determined as fitted
use Rattle.geometry.specs.declared.Perspective.{Perspective}
use Rattle.cells.specs.Cell as cell
use Rattle.cells.specs.declared.Cell.{Cell}
use Rattle.cells.proofs.Determined.{cell_only}
use Rattle.detect.specs.Telling.{outcome, LaidOut}
use Rattle.detect.specs.Detect.{DetectPost}
use Rattle.detect.specs.declared.Findings.{Findings}
use Rattle.detect.proofs.Determined as detected

module _ (p : List ℕ) (w h : ℕ) where
  pub prepare_determined : (a b : Result (Unit {0}) Refusal) (q r : List ℕ) → Prepared w h p a q → Prepared w h p b r → (a ≡ b) × (q ≡ r)
  prepare_determined a b q r X Y = prepared_only X Y

  pub accept_determined : (a b : Result (Unit {0}) Refusal) → judged a ≡ first (accept_tests p w h) sound → judged b ≡ first (accept_tests p w h) sound → a ≡ b
  accept_determined a b = judged_only a b (first (accept_tests p w h) sound)

  pub read_cell_determined : (size : ℕ) (c : Perspective) (y x : ℕ) (a b : Result Cell Refusal) → cell.meaning a ≡ cell.cell_of p w h size c y x → cell.meaning b ≡ cell.cell_of p w h size c y x → a ≡ b
  read_cell_determined size c y x a b = cell_only a b (cell.cell_of p w h size c y x)

  -- so much room is lent in the stack, and in the scratch
  module _ (lent scratch : ℕ) where
    pub claim_determined : (x y target : ℕ) (a b : Result Counts Refusal) (q r : List ℕ) → Outcome p w h lent x y target q (claimed a) → Outcome p w h lent x y target r (claimed b) → (a ≡ b) × (q ≡ r)
    claim_determined x y target a b q r = claim_only p w h lent x y target q r a b

    pub look_up_determined : (T : Table) (x y : ℕ) (a b : Result ColoredRegion Refusal) (q r : List ℕ) (U Z : Table)
        → LookPost p w h lent T x y (found.meaning a) q U → LookPost p w h lent T x y (found.meaning b) r Z → (a ≡ b) × (q ≡ r) × (U ≡ Z)
    look_up_determined T x y a b q r U Z X Y = look_unique a b X Y

    -- that its arrays have 251 places a table has by its type
    pub fit_group_determined : (T : Table) → fitted.Arrays T → (k : CapStoneGroup) (a b : Result (Option SkewedGridLocation) Refusal) (q r : List ℕ) (U Z : Table)
        → FitPost p w h lent scratch T k (grid.meaning a) q U → FitPost p w h lent scratch T k (grid.meaning b) r Z → (a ≡ b) × (q ≡ r) × (U ≡ Z)
    fit_group_determined T arrays k a b q r U Z X Y = fitted.fit_determined arrays a b X Y

    pub detect_determined : (T : Table) (a b : Result Findings Refusal) (q r : List ℕ) (U Z : Table)
        → DetectPost p w h lent scratch T (outcome a) q U × LaidOut a → DetectPost p w h lent scratch T (outcome b) r Z × LaidOut b → (a ≡ b) × (q ≡ r) × (U ≡ Z)
    detect_determined T a b q r U Z X Y = detected.detect_determined a b X Y

pub empty_determined : (a b : Table) → a ≡ empty_table → b ≡ empty_table → a ≡ b
empty_determined a b e d = e ∙ sym d

pub rank_neighbors_determined : (stones : List CapStone) (idx : ℕ) (a b : Ranked) → Tells (ranking stones (length stones) idx) a → Tells (ranking stones (length stones) idx) b → a ≡ b
rank_neighbors_determined = lent_once
