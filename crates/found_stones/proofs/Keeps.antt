-- A search for marks keeps the picture's length and what is white, and leaves a sound table: also where it is refused. Assumes nothing.
use Prim.Native.Nat.{ℕ}
use native.Mathlib.Omega.{arith}
use mathlib.Core.Path.{sym, ◌∙◌}
use mathlib.Core.List.{List, []}
use Rattle.refusals.specs.Finding.{Finding}
use Rattle.table.specs.declared.Table.{Table}
use Rattle.alignment.proofs.Kept.{Kept}
use Rattle.capstones.specs.declared.CapStone.{CapStone}
use Rattle.marks.specs.InWork.{InWork}
use Rattle.marks.specs.Search.{all_cuts, Searches}
use Rattle.marks.proofs.Whole.{marks_go}

pub search_keeps : {p : List ℕ} {w h lent : ℕ} {T : Table} {f : Finding (List CapStone)} {q : List ℕ} {U : Table}
    → InWork p w h lent T → Searches w h (all_cuts p w h) p T [] f q U → Kept p w h q U
search_keeps {lent = lent} W S =
    let G = marks_go {room = lent} W (omega arith) S in
    record {
      len = G.work.roomy.sized.whole ∙ sym W.roomy.sized.whole;
      proper = G.work.kept.table;
      white = λ x y hx hy. let z = G.white x y hx hy in (z.1, z.0);
    }
