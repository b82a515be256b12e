-- What each stage of detect hands on, and what the stages keep: the picture's length, its white pixels, a sound table. Assumes nothing.
use Prim.Native.Nat.{ℕ, ◌≤◌}
use native.Mathlib.Nat.{le_refl}
use mathlib.Core.Path.{◌≡◌, sym, ap, ◌∙◌, subst}
use mathlib.Core.List.{List, []}
use lib.ListN.{length}
use lib.Seq.{length-take-le}
use Rattle.refusals.specs.Finding.{Finding, found}
use Rattle.picture.specs.Sides.{Roomy}
use Rattle.pieces.specs.Count.{Mem}
use Rattle.table.specs.declared.Table.{Table}
use Rattle.table.specs.Table.{empty_table}
use Rattle.table.proofs.Kept.{Proper}
use Rattle.capstones.specs.declared.CapStone.{CapStone}
use Rattle.marks.specs.InWork.{InWork}
use Rattle.marks.specs.Search.{all_cuts, Searches, stones_of}
use Rattle.marks.specs.declared.search.Marks.{Marks}
use Rattle.found_stones.proofs.Keeps.{search_keeps}
use Rattle.alignment.proofs.Kept.{Kept, kept_on, kept_still}
use Rattle.alignment.proofs.Spiralling.{still_roomy}
use Rattle.alignment.proofs.Visiting.{proper_test}
use Rattle.fourth_corner.specs.Corner.{Workable}
use Rattle.grids.specs.declared.SkewedGridLocation.{SkewedGridLocation}
use Rattle.groupings.specs.Groups.{Grouped}
use Rattle.groupings.specs.Held.{Stones}
use Rattle.groupings.specs.declared.Trio.{Trio}
use Rattle.groupings.proofs.Few.{groups_low}
use Rattle.locations.specs.Pass.{Ready, FitsAll}
use Rattle.locations.proofs.Front.{pass_front}
use Rattle.locations.proofs.Kept.{all_keeps}
use Rattle.detect.specs.Telling.{Telling, tells_located}
use Rattle.detect.specs.Stages.{Named, Finishes, ungrouped, fitted, Gathers, unmarked, grouped, Finds}
use Rattle.detect.proofs.Ready.{found_stones, ready_of}

-- a pass over the stones of an array is one over the marks
pub finish_fits : {w h : ℕ} (m : Marks) {p : List ℕ} {T : Table} {groups : Finding (List Trio)} {f : Finding Telling} {q : List ℕ} {U : Table} (l : List Trio) {located : Finding (List SkewedGridLocation)}
    → m.n ≤ length m.stones → groups ≡ found l → Named m.n l → FitsAll w h m.stones l p T [] located q U → f ≡ tells_located m.n located → Finishes w h (stones_of m) p T groups f q U
finish_fits m l {located} whole e N X is =
    fitted l e located (pass_front m.stones m.n N X) (is ∙ ap (λ (k : ℕ). tells_located k located) (sym (length-take-le m.n m.stones whole)))

-- after the search there is room for a fill, and the table is sound
pub then_workable : {p : List ℕ} {w h lent room : ℕ} {q : List ℕ} {U : Table} → Roomy w h (length p) lent → Kept p w h q U → lent ≤ room → Workable q w h room U
then_workable R K enough = record { roomy = still_roomy R K.len enough; sound = proper_test K.proper }

-- the groups of stones that were found can be fitted
pub then_ready : {p : List ℕ} {w h : ℕ} {T : Table} {stones : List CapStone} {groups : List Trio} → Stones stones (length stones) → Grouped p w h T stones (found groups) → (t : Trio) → Mem t groups → Ready stones t
then_ready S G t m = ready_of t S (groups_low G t m)

module _ {w h lent : ℕ} {p : List ℕ} {T : Table} (R : Roomy w h (length p) lent) (P : Proper T w h) where
  finish_keeps : {stones : List CapStone} {groups : Finding (List Trio)} {f : Finding Telling} {q : List ℕ} {U : Table} → Stones stones (length stones) → Grouped p w h T stones groups → Finishes w h stones p T groups f q U → Kept p w h q U
  finish_keeps S G (ungrouped n e is same table) = kept_still P same table
  finish_keeps {stones} S G (fitted l e located X is) =
      all_keeps R P (then_ready S (subst (Grouped p w h T stones) e G)) X

  gather_keeps : {stones : Finding (List CapStone)} {f : Finding Telling} {q : List ℕ} {U : Table} → ((l : List CapStone) → stones ≡ found l → Stones l (length l)) → Gathers w h p T stones f q U → Kept p w h q U
  gather_keeps each (unmarked n e is same table) = kept_still P same table
  gather_keeps each (grouped l e groups G F) = finish_keeps (each l e) G F

-- the stones of a search that found some
pub then_stones : {p : List ℕ} {w h lent : ℕ} {T : Table} {f : Finding (List CapStone)} {q : List ℕ} {U : Table}
    → InWork p w h lent T → Searches w h (all_cuts p w h) p T [] f q U → (l : List CapStone) → f ≡ found l → Stones l (length l)
then_stones {p} {w} {h} {T = T} {q = q} {U = U} W S l e = found_stones W (subst (λ (f : Finding (List CapStone)). Searches w h (all_cuts p w h) p T [] f q U) e S)

pub finds_keeps : {p : List ℕ} {w h lent : ℕ} {f : Finding Telling} {q : List ℕ} {U : Table} → InWork p w h lent empty_table → Finds p w h f q U → Kept p w h q U
finds_keeps {lent = lent} W F =
    let K = search_keeps W F.searches in
    kept_on K (gather_keeps (still_roomy W.roomy K.len (le_refl lent)) K.proper (then_stones W F.searches) F.gathers)
