-- The stones that a search finds can be grouped, and the groups of such stones fitted. Assumes nothing.
use Rattle.std.specs.Prelude.{Result, Ok, Err}
use Rattle.refusals.specs.declared.Refusal.{Refusal}
use Prim.Native.Nat.{ℕ, zero, suc, ◌-◌, ◌≤◌, ◌<◌}
use native.Mathlib.Omega.{arith}
use mathlib.Core.Path.{◌≡◌, refl, sym, ap, ◌∙◌}
use mathlib.Core.List.{List, [], ◌∷◌}
use mathlib.Core.Logic.{inl, inr}
use lib.ListN.{length, length-append, get_or, take, replicate}
use lib.Seq.{get_or-take, length-take-le}
use Rattle.refusals.specs.Limits.{most_stones}
use Rattle.refusals.specs.Finding.{Finding, found, refused}
use Rattle.laid.specs.Laid as laid
use Rattle.pieces.specs.Count.{Mem}
use Rattle.table.specs.declared.Table.{Table}
use Rattle.capstones.specs.Blank.{no_stone}
use Rattle.capstones.specs.declared.CapStone.{CapStone}
use Rattle.marks.specs.InWork.{InWork}
use Rattle.marks.specs.Search.{all_cuts, Searches}
use Rattle.marks.specs.Search as search
use Rattle.marks.specs.declared.search.Marks.{Marks}
use Rattle.found_stones.proofs.Stones.{stones_framed}
use Rattle.found_stones.proofs.Few.{stones_few}
use Rattle.groupings.specs.Groups.{Grouped}
use Rattle.groupings.specs.Held.{most_groups, no_trio, groups_of, outcome, Laid, Stones, Low}
use Rattle.groupings.specs.declared.Trio.{Trio}
use Rattle.groupings.specs.declared.Groupings.{Groupings}
use Rattle.groupings.proofs.Few.{groups_low}
use Rattle.groupings.proofs.Front.{group_placed}
use Rattle.locations.specs.Pass.{Ready, AllReady}
use Rattle.detect.specs.Stages.{Named}

mem_at : {A : Type 0} (l : List A) (k : ℕ) (d : A) → k < length l → Mem (get_or l k d) l
mem_at [] k d low = absurd (omega arith)
mem_at (a ∷ l) zero d low = inl refl
mem_at (a ∷ l) (suc k) d low = inr (mem_at l k d (omega arith))

-- a list that is told as found
stands : {A : Type 0} (v : Result (Unit {0}) Refusal) (k l : List A) → laid.told v k ≡ found l → k ≡ l
unfolding laid.told
stands (Ok u) k l e = cc
stands (Err why) k l e = let z : ◌≡◌ {A = ℕ} 0 1 = cc in absurd (omega arith)

-- what is laid out is of its array: the marks, and the groups
laid_long : {A : Type 0} (most : ℕ) (blank : A) {v : (Result (Unit {0}) Refusal)} {n : ℕ} {array : List A} → laid.Laid most blank v n array → n ≤ length array
unfolding laid.laid_out laid.count_in
laid_long {A} most blank {v} {n} {array} L = long (laid.outcome most blank v n array) L.count L.is
  where
    long : (f : Finding (List A)) → n ≡ laid.count_in f → array ≡ laid.laid_out most blank f → n ≤ length array
    long (found l) count is = omega (arith, count, ap length is, length-append l (replicate (most - length l) blank))
    long (refused k) count is = omega (arith, count)

pub marks_long : (s : Marks) → search.Laid s → s.n ≤ length s.stones
marks_long s L = laid_long most_stones no_stone L

pub groups_long : (s : Groupings) → Laid s → s.n ≤ length s.groups
groups_long s L = laid_long most_groups no_trio L

-- the stones that are found, as a list
pub found_stones : {p : List ℕ} {w h lent : ℕ} {T : Table} {l : List CapStone} {q : List ℕ} {U : Table}
    → InWork p w h lent T → Searches w h (all_cuts p w h) p T [] (found l) q U → Stones l (length l)
found_stones {l = l} W S =
    record {
      few = stones_few S;
      each = λ k low. let s = stones_framed W S (get_or l k no_stone) (mem_at l k no_stone low) in record { framed = s.0; near = s.1 };
    }

-- and in their array; after a refusal there are none
module _ {p : List ℕ} {w h lent : ℕ} {T : Table} (W : InWork p w h lent T) (s : Marks) (L : search.Laid s) {q : List ℕ} where
  placed : (f : Finding (List CapStone)) → search.outcome s ≡ f → Searches w h (all_cuts p w h) p T [] f q s.table → Stones s.stones s.n
  unfolding laid.count_in
  placed (found l) e S =
      let F = found_stones W S in
      let n : s.n ≡ length l = L.count ∙ ap laid.count_in e in
      let is : take s.n s.stones ≡ l = stands s.verdict (take s.n s.stones) l e in
      record {
        few = L.few;
        each = λ k low. rw (sym (get_or-take s.n s.stones k no_stone low) ∙ ap (λ (v : List CapStone). get_or v k no_stone) is) (F.each k (omega (arith, n)));
      }
  placed (refused n) e S = let none : s.n ≡ 0 = L.count ∙ ap laid.count_in e in record { few = L.few; each = λ k low. absurd (omega (arith, none)) }

  pub array_stones : Searches w h (all_cuts p w h) p T [] (search.outcome s) q s.table → Stones s.stones s.n
  array_stones = placed (search.outcome s) refl

-- a group of placed stones can be fitted
pub ready_of : {stones : List CapStone} {n : ℕ} (t : Trio) → Stones stones n → Low n t → Ready stones t
ready_of t S L =
    let fit = group_placed t S L in
    record {
      low = record { first = omega (arith, L.first, S.few); second = omega (arith, L.second, S.few); third = omega (arith, L.third, S.few) };
      centred = fit.0;
      cornered = fit.1;
    }

pub all_ready : {stones : List CapStone} {n : ℕ} (groups : List Trio) (m : ℕ) → m ≤ length groups → Stones stones n → Named n (take m groups) → AllReady stones groups m
all_ready groups m whole S N k low =
    let there : Mem (get_or (take m groups) k no_trio) (take m groups) = mem_at (take m groups) k no_trio (omega (arith, length-take-le m groups whole)) in
    rw (sym (get_or-take m groups k no_trio low)) (ready_of _ S (N _ there))

-- the groups found name stones of the list; after a refusal there are none
module _ {p : List ℕ} {w h : ℕ} {T : Table} {stones : List CapStone} (s : Groupings) (L : Laid s) where
  named : (f : Finding (List Trio)) → outcome s ≡ f → Grouped p w h T stones f → Named (length stones) (groups_of s)
  unfolding laid.count_in
  named (found l) e G t m = groups_low G t (rw (sym (stands s.verdict (groups_of s) l e)) m)
  named (refused n) e G t m = let none : s.n ≡ 0 = L.count ∙ ap laid.count_in e in absurd (rw none at m)

  pub array_named : Grouped p w h T stones (outcome s) → Named (length stones) (groups_of s)
  array_named = named (outcome s) refl
