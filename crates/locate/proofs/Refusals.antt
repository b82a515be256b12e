-- Which refusals `locate` can tell of a picture: 1, by its sides, and those met on the way. So it never answers 2, 3 or 4. Assumes nothing.
use Prim.Native.Nat.{ℕ}
use mathlib.Core.Path.{◌≡◌, ◌∙◌}
use mathlib.Core.List.{List, [], ◌∷◌}
use mathlib.Core.Logic.{◌⊎◌, inl, inr}
use Rattle.refusals.specs.Finding.{Finding, found, refused}
use Rattle.table.specs.Table.{empty_table}
use Rattle.table.specs.declared.Table.{Table}
use Rattle.capstones.specs.declared.CapStone.{CapStone}
use Rattle.grids.specs.declared.SkewedGridLocation.{SkewedGridLocation}
use Rattle.bounds.specs.Bounds.{bounded_of}
use Rattle.bounds.specs.declared.Grid.{Grid}
use Rattle.bounded.specs.All.{joined, bounded_all}
use Rattle.groupings.specs.declared.Trio.{Trio}
use Rattle.met.specs.Met.{OnTheWay, Met}
use Rattle.met.proofs.Fits.{met_is, met_same}
use Rattle.met.proofs.Stages.{search_met, groups_met, pass_met, bounds_met}
use Rattle.detect.specs.Telling.{Telling, tells, tells_located}
use Rattle.detect.specs.Stages.{Finishes, ungrouped, fitted, Gathers, unmarked, grouped, Finds}
use Rattle.detect.specs.Detect.{DetectsWhole, finds, puts_back, DetectPost, refuses, detects}
use Rattle.netpbm.specs.Form.{most_pixels, Picture, Form}
use Rattle.locate.specs.Prints.{Tells}
use Rattle.locate.proofs.Tests.{only_size}

all_met : (l : List SkewedGridLocation) → Met (bounded_all l)
unfolding bounded_all joined
all_met [] = tt
all_met (g ∷ more) = go (bounded_of g) (bounded_all more) (bounds_met g) (all_met more)
  where
    go : (f : Finding Grid) (rest : Finding (List Grid)) → Met f → Met rest → Met (joined f rest)
    go (found b) (found l) k m = tt
    go (found b) (refused n) k m = m
    go (refused n) rest k m = k

told_met : (count : ℕ) (f : Finding (List SkewedGridLocation)) → Met f → Met (tells_located count f)
unfolding tells_located tells
told_met count (found l) m = go (bounded_all l) (all_met l)
  where
    go : (f : Finding (List Grid)) → Met f → Met (tells count f)
    go (found grids) k = tt
    go (refused n) k = k
told_met count (refused n) m = m

finish_met : {w h : ℕ} {stones : List CapStone} {p : List ℕ} {T : Table} {groups : Finding (List Trio)} {f : Finding Telling} {q : List ℕ} {U : Table} → Met groups → Finishes w h stones p T groups f q U → Met f
finish_met m (ungrouped n e d is same) = met_same e d m
finish_met m (fitted l e located X is) = met_is is (told_met _ located (pass_met X))

gather_met : {w h : ℕ} {p : List ℕ} {T : Table} {stones : Finding (List CapStone)} {f : Finding Telling} {q : List ℕ} {U : Table} → Met stones → Gathers w h p T stones f q U → Met f
gather_met m (unmarked n e d is same) = met_same e d m
gather_met m (grouped l e groups G F) = finish_met (groups_met G) F

finds_met : {p : List ℕ} {w h : ℕ} {f : Finding Telling} {q : List ℕ} {U : Table} → Finds p w h f q U → Met f
finds_met F = gather_met (search_met F.searches) F.gathers

whole_met : {p : List ℕ} {w h : ℕ} {T : Table} {f : Finding Telling} {q : List ℕ} {U : Table} → DetectsWhole p w h T f q U → Met f
whole_met (finds t F e) = met_is e tt
whole_met (puts_back n m Left F e same table) = met_is e (finds_met F)

pub told_refusals : {file : List ℕ} {p : Picture} {n : ℕ} → Form file p → Tells p (refused n) → (n ≡ 1) ⊎ OnTheWay n
told_refusals {file} {p} {n} F D = go D.detects
  where
    go : {q : List ℕ} {U : Table} → DetectPost p.pixels p.width p.height most_pixels most_pixels empty_table (refused n) q U → (n ≡ 1) ⊎ OnTheWay n
    go (refuses m e is same table) = let one : n ≡ m = cc in inl (one ∙ only_size F m e)
    go (detects e X) = inr (whole_met X)
