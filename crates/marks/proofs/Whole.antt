-- A whole search: it keeps the picture in work, and finds at most 64 stones. Assumes nothing.
use Prim.Native.Nat.{ℕ, zero, suc, ◌+◌, ◌*◌, ◌≤◌}
use native.Mathlib.Omega.{arith}
use mathlib.Core.Path.{◌≡◌, ap, ◌∙◌}
use mathlib.Core.List.{List, []}
use mathlib.Core.Logic.{⊎_elim}
use lib.ListN.{length}
use Rattle.refusals.specs.Limits.{most_stones}
use Rattle.refusals.specs.Finding.{Finding, found}
use Rattle.laid.specs.Laid.{count_in}
use Rattle.pieces.specs.Count.{Mem}
use Rattle.pieces.proofs.Counting.{mem_either}
use Rattle.table.specs.declared.Table.{Table}
use Rattle.scanner.specs.Cuts.{line_cuts}
use Rattle.capstones.specs.declared.CapStone.{CapStone}
use Rattle.marks.specs.InWork.{InWork}
use Rattle.marks.specs.Cuts.{Place, places_on, cuts_from, all_cuts}
use Rattle.marks.specs.Search.{Searches, outcome, Laid}
use Rattle.marks.specs.declared.search.Marks.{Marks}
use Rattle.marks.proofs.Work.{Goes}
use Rattle.marks.proofs.Searching.{Stands, line_stands, search_goes}

-- each of a picture's cuts stands on it
cuts_stand : (p : List ℕ) (w h n y : ℕ) → y + n ≤ h → (at : Place) → Mem at (cuts_from p w n y) → Stands p w h at
unfolding cuts_from
cuts_stand p w h zero y low at m = absurd m
cuts_stand p w h (suc n) y low at m =
    ⊎_elim (λ k. line_stands (omega arith) at k) (λ k. cuts_stand p w h n (suc y) (omega arith) at k) (mem_either (places_on y (line_cuts p (y * w) w)) (cuts_from p w n (suc y)) at m)

pub all_stand : (p : List ℕ) (w h : ℕ) (at : Place) → Mem at (all_cuts p w h) → Stands p w h at
all_stand p w h at m = cuts_stand p w h h 0 (omega arith) at m

-- the picture and the table that a search leaves are in work
pub marks_go : {p : List ℕ} {w h lent : ℕ} {T : Table} {f : Finding (List CapStone)} {q : List ℕ} {U : Table} {room : ℕ} → InWork p w h lent T → lent ≤ room → Searches w h (all_cuts p w h) p T [] f q U → Goes p w h q room U
marks_go {p} {w} {h} W more S = search_goes W more (all_stand p w h) S

-- at most 64 stones
pub most_stones_lem : (s : Marks) (l : List CapStone) → Laid s → outcome s ≡ found l → length l ≤ most_stones
unfolding count_in
most_stones_lem s l L e = let n : s.n ≡ length l = L.count ∙ ap count_in e in omega (arith, L.few)
