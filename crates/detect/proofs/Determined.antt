-- Determined: two outcomes that detect's contract allows coincide, for every input. Assumes nothing.
use Rattle.std.specs.Prelude.{Result}
use Prim.Native.Nat.{ℕ}
use native.Mathlib.Nat.{le_refl}
use native.Mathlib.Omega.{arith}
use mathlib.Core.Path.{◌≡◌, sym, ap, ◌∙◌, subst}
use mathlib.Core.List.{List, []}
use lib.ListN.{length}
use Rattle.refusals.specs.Finding.{Finding, found, refused}
use Rattle.refusals.specs.declared.Refusal.{Refusal}
use Rattle.picture.specs.Sides.{Roomy}
use Rattle.table.specs.Table.{empty_table}
use Rattle.table.specs.declared.Table.{Table}
use Rattle.table.proofs.Kept.{Proper}
use Rattle.regions.proofs.Unique.{Alike}
use Rattle.capstones.specs.declared.CapStone.{CapStone}
use Rattle.marks.specs.InWork.{InWork}
use Rattle.marks.proofs.Determined.{searches_same}
use Rattle.found_stones.proofs.Keeps.{search_keeps}
use Rattle.alignment.proofs.Spiralling.{still_roomy}
use Rattle.groupings.specs.Groups.{Grouped}
use Rattle.groupings.specs.Held.{Stones}
use Rattle.groupings.specs.declared.Trio.{Trio}
use Rattle.groupings.proofs.Determined.{grouped_same}
use Rattle.locations.specs.Pass.{FitsAll}
use Rattle.locations.proofs.Determined.{pass_same}
use Rattle.detect.specs.Telling.{Telling, tells_located, outcome, LaidOut}
use Rattle.detect.specs.Stages.{Finishes, ungrouped, fitted, Gathers, unmarked, grouped, Finds}
use Rattle.detect.specs.Detect.{DetectsWhole, finds, puts_back, DetectPost, refuses, detects}
use Rattle.detect.specs.declared.Findings.{Findings}
use Rattle.detect.proofs.Told.{same_findings}
use Rattle.detect.proofs.Staged.{then_ready, then_stones}
use Rattle.detect.proofs.Accepted.{starts_work}

-- one refusal, which leaves all as it was
same_refusal : {f g : Finding Telling} {p q r : List ℕ} {T U Z : Table} {m n : ℕ} → m ≡ n → f ≡ refused m → g ≡ refused n → q ≡ p → r ≡ p → U ≡ T → Z ≡ T → Alike f q U g r Z
same_refusal one e d q r U Z = (e ∙ ap refused one ∙ sym d, q ∙ sym r, U ∙ sym Z)

module _ {w h lent : ℕ} {p : List ℕ} {T : Table} (R : Roomy w h (length p) lent) (P : Proper T w h) {f g : Finding Telling} {q r : List ℕ} {U Z : Table} where
  finish_same : {stones : List CapStone} {groups : Finding (List Trio)} → Stones stones (length stones) → Grouped p w h T stones groups → Finishes w h stones p T groups f q U → Finishes w h stones p T groups g r Z → Alike f q U g r Z
  finish_same S G (ungrouped m e is same table) (ungrouped n d is' same' table') = let one : m ≡ n = cc in same_refusal one is is' same same' table table'
  finish_same S G (ungrouped m e is same table) (fitted k d located Y is') = let z : ◌≡◌ {A = ℕ} 0 1 = cc in absurd (omega arith)
  finish_same S G (fitted l e located X is) (ungrouped n d is' same' table') = let z : ◌≡◌ {A = ℕ} 0 1 = cc in absurd (omega arith)
  finish_same {stones} S G (fitted l e located X is) (fitted k d other Y is') =
      let one : k ≡ l = cc in
      let a = pass_same R P (then_ready S (subst (Grouped p w h T stones) e G)) X (subst (λ (v : List Trio). FitsAll w h stones v p T [] other r Z) one Y) in
      (is ∙ ap (tells_located (length stones)) a.0 ∙ sym is', a.1, a.2)

  gather_same : {stones : Finding (List CapStone)} → ((l : List CapStone) → stones ≡ found l → Stones l (length l)) → Gathers w h p T stones f q U → Gathers w h p T stones g r Z → Alike f q U g r Z
  gather_same each (unmarked m e is same table) (unmarked n d is' same' table') = let one : m ≡ n = cc in same_refusal one is is' same same' table table'
  gather_same each (unmarked m e is same table) (grouped k d groups G F) = let z : ◌≡◌ {A = ℕ} 0 1 = cc in absurd (omega arith)
  gather_same each (grouped l e groups G F) (unmarked n d is' same' table') = let z : ◌≡◌ {A = ℕ} 0 1 = cc in absurd (omega arith)
  gather_same each (grouped l e groups G F) (grouped k d others H E) =
      let one : k ≡ l = cc in
      let H' : Grouped p w h T l others = subst (λ (v : List CapStone). Grouped p w h T v others) one H in
      let same : others ≡ groups = grouped_same R P (each l e) H' G in
      let E' : Finishes w h l p T others g r Z = subst (λ (v : List CapStone). Finishes w h v p T others g r Z) one E in
      finish_same (each l e) G F (subst (λ (v : Finding (List Trio)). Finishes w h l p T v g r Z) same E')

module _ {p : List ℕ} {w h lent : ℕ} (W : InWork p w h lent empty_table) where
  pub finds_same : {f g : Finding Telling} {q r : List ℕ} {U Z : Table} → Finds p w h f q U → Finds p w h g r Z → Alike f q U g r Z
  finds_same {f} {g} {q} {r} {U} {Z} F G =
      let a = searches_same W F.searches G.searches in
      let K = search_keeps W F.searches in
      let X1 : Gathers w h G.marked G.among F.stones g r Z = subst (λ (v : Finding (List CapStone)). Gathers w h G.marked G.among v g r Z) (sym a.0) G.gathers in
      let X2 : Gathers w h F.marked G.among F.stones g r Z = subst (λ (v : List ℕ). Gathers w h v G.among F.stones g r Z) (sym a.1) X1 in
      let X3 : Gathers w h F.marked F.among F.stones g r Z = subst (λ (v : Table). Gathers w h F.marked v F.stones g r Z) (sym a.2) X2 in
      gather_same (still_roomy W.roomy K.len (le_refl lent)) K.proper (then_stones W F.searches) F.gathers X3

  whole_same : {T : Table} {f g : Finding Telling} {q r : List ℕ} {U Z : Table} → DetectsWhole p w h T f q U → DetectsWhole p w h T g r Z → Alike f q U g r Z
  whole_same (finds s F e) (finds t G d) = let a = finds_same F G in (e ∙ a.0 ∙ sym d, a.1, a.2)
  whole_same (finds s F e) (puts_back n m Left G d same table) = let a = finds_same F G in let z : ◌≡◌ {A = ℕ} 0 1 = cc in absurd (omega arith)
  whole_same (puts_back n m Left F e same table) (finds t G d) = let a = finds_same F G in let z : ◌≡◌ {A = ℕ} 0 1 = cc in absurd (omega arith)
  whole_same (puts_back n m Left F e same table) (puts_back k m' Left' G d same' table') =
      let a = finds_same F G in
      let one : n ≡ k = cc in
      same_refusal one e d same same' table table'

-- detect's finding, the picture and the table after it
pub detect_same : {p : List ℕ} {w h lent scratch : ℕ} {T : Table} {f g : Finding Telling} {q r : List ℕ} {U Z : Table} → DetectPost p w h lent scratch T f q U → DetectPost p w h lent scratch T g r Z → Alike f q U g r Z
detect_same (refuses m e is same table) (refuses n d is' same' table') = let one : m ≡ n = cc in same_refusal one is is' same same' table table'
detect_same (refuses m e is same table) (detects d Y) = let z : ◌≡◌ {A = ℕ} 0 1 = cc in absurd (omega arith)
detect_same (detects e X) (refuses n d is' same' table') = let z : ◌≡◌ {A = ℕ} 0 1 = cc in absurd (omega arith)
detect_same {p} {w} {h} {lent} {scratch} (detects e X) (detects d Y) = whole_same (starts_work p w h lent scratch e) X Y

-- and so what it answers, in its array
pub detect_determined : {p : List ℕ} {w h lent scratch : ℕ} {T : Table} {q r : List ℕ} {U Z : Table} (s t : Result Findings Refusal)
    → DetectPost p w h lent scratch T (outcome s) q U × LaidOut s → DetectPost p w h lent scratch T (outcome t) r Z × LaidOut t → (s ≡ t) × (q ≡ r) × (U ≡ Z)
detect_determined s t X Y = let a = detect_same X.0 Y.0 in (same_findings s t a.0 X.1 Y.1, a.1, a.2)
