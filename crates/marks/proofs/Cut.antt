-- At a cut both lookups can be made, one after the other, and what they answer can be compared. Assumes nothing.
use Prim.Native.Nat.{ℕ, ◌<◌, ◌≤◌}
use native.Mathlib.Omega.{arith}
use mathlib.Core.Path.{◌≡◌, refl, sym, ◌∙◌, subst}
use mathlib.Core.Bool.{Bool, true, not}
use mathlib.Core.List.{List}
use lib.Dec.{eqb}
use borrow.Author.Tests.{not-true, eqb-false}
use Rattle.refusals.specs.Finding.{Finding, found}
use Rattle.pieces.specs.Picture.{px}
use Rattle.table.specs.declared.Table.{Table}
use Rattle.regions.specs.Found.{Answer}
use Rattle.regions.specs.Tests.{Lookable}
use Rattle.regions.specs.Lookup.{Answered, Looks}
use Rattle.scanner.specs.declared.LinePosition.{LinePosition}
use Rattle.marks.specs.InWork.{AtCut}
use Rattle.capstones.specs.declared.CapStone.{CapStone}
use Rattle.marks.specs.Ring.{Countable, passes, Tests}
use Rattle.marks.specs.Stone.{Ringed}
use Rattle.marks.specs.Search.{Tries, no_ring, ring, Markable, Marked, no_mark, a_mark}
use Rattle.marks.proofs.Plain.{look_plain, claim_answers, ring_unclaimed}
use Rattle.marks.proofs.Work.{Goes, goes_on, can_look, look_goes, look_counted}

-- a pixel that is dark is not white
not_white : (byte : ℕ) → not (eqb byte 0) ≡ true → byte ≡ 0 → ⊥
not_white byte e = eqb-false byte 0 (not-true _ e)

-- an answer that was found is the one that was found
only_found : {a b : Answer} → found a ≡ found b → a ≡ b
only_found e = cc

module _ {p : List ℕ} {w h lent : ℕ} {T : Table} {y : ℕ} {cut : LinePosition} (C : AtCut p w h lent T y cut) where
  pub on_right : cut.right < w
  on_right = C.columns.right_on

  pub on_stone : cut.stone < w
  on_stone = omega (arith, C.columns.stone_next, C.columns.right_on)

  pub on_left : cut.left < w
  on_left = omega (arith, C.columns.left_first, on_stone)

  right_shows : px p w cut.right y ≡ 0 → ⊥
  right_shows = not_white _ C.columns.right_dark

  stone_shows : px p w cut.stone y ≡ 0 → ⊥
  stone_shows = not_white _ C.columns.stone_dark

  pub ring_lookable : Lookable p w h lent T cut.right y
  ring_lookable = can_look C.work on_right C.in_y right_shows

  -- after the ring was looked up
  module _ {f : Finding Answer} {m : List ℕ} {Between : Table} {room : ℕ} (more : lent ≤ room) (outer : Answered f (λ a. Looks p w h cut.right y T a m Between)) where
    ring_goes : Goes p w h m room Between
    ring_goes = look_goes C.work on_right C.in_y right_shows outer.2 more

    stone_still : px m w cut.stone y ≡ 0 → ⊥
    stone_still z = stone_shows ((ring_goes.white _ _ on_stone C.in_y).0 z)

    pub stone_lookable : Lookable m w h room Between cut.stone y
    stone_lookable = can_look ring_goes.work on_stone C.in_y stone_still

    pub ring_countable : Countable f
    ring_countable r e = look_counted C.work on_right C.in_y right_shows outer.2 r (only_found (sym outer.1 ∙ e))

    -- and then the stone
    module _ {g : Finding Answer} {q : List ℕ} {U : Table} {space : ℕ} (yet : room ≤ space) (inner : Answered g (λ a. Looks m w h cut.stone y Between a q U)) where
      pub both_go : Goes p w h q space U
      both_go = goes_on ring_goes (look_goes ring_goes.work on_stone C.in_y stone_still inner.2 yet)

      pub stone_countable : Countable g
      stone_countable r e = look_counted ring_goes.work on_stone C.in_y stone_still inner.2 r (only_found (sym inner.1 ∙ e))

-- the ring test keeps the picture in work, and leaves a ring that passes free to fill
module _ {p : List ℕ} {w h lent : ℕ} {T : Table} {y : ℕ} {cut : LinePosition} (C : AtCut p w h lent T y cut) {room : ℕ} (more : lent ≤ room) where
  pub tests_go : {verdict : Bool} {q : List ℕ} {U : Table} → Tests p w h y cut T verdict q U → Goes p w h q room U
  tests_go X = both_go C more (X.ring, refl, X.ring_first) (omega arith) (X.stone, refl, X.stone_then)

  pub tests_ringed : {q : List ℕ} {U : Table} → Tests p w h y cut T true q U → Ringed q w h room cut.right y
  tests_ringed {q} X =
      let G = tests_go X in
      let r = ring_unclaimed X.ring X.stone (eqb (px q w cut.left y) (px q w cut.right y)) X.is in
      record {
        seeded = record { sized = G.work.roomy.sized; room = G.work.roomy.room; in_x = on_right C; in_y = C.in_y };
        dark = λ z. right_shows C ((G.white _ _ (on_right C) C.in_y).0 z);
        unclaimed = λ low high.
            claim_answers X.ring_first (look_plain (on_right C) C.in_y X.ring_first (look_plain (on_right C) C.in_y X.stone_then (low, high))) r.0 r.1;
      }

-- after both lookups the cut can be tested; with what it comes to, it is tried
module _ {p : List ℕ} {w h : ℕ} {T : Table} {y : ℕ} {cut : LinePosition} {f : Finding Answer} {m : List ℕ} {Between : Table} {g : Finding Answer} {q : List ℕ} {U : Table} (outer : Answered f (λ a. Looks p w h cut.right y T a m Between)) (inner : Answered g (λ a. Looks m w h cut.stone y Between a q U)) where
  tested : {verdict : Bool} → passes q w y cut f g ≡ verdict → Tests p w h y cut T verdict q U
  tested e = record { ring = outer.0; between = m; among = Between; ring_first = outer.2; stone = inner.0; stone_then = inner.2; is = sym e ∙ rw (outer.1, inner.1) }

  pub markable : {lent room space : ℕ} → AtCut p w h lent T y cut → lent ≤ room → room ≤ space → Markable q w h space y cut f g
  markable C more yet =
      let G = both_go C more outer yet inner in
      record {
        testable = record {
          sized = G.work.roomy.sized;
          left_on = on_left C;
          right_on = on_right C;
          in_y = C.in_y;
          ring_counted = ring_countable C more outer;
          stone_counted = stone_countable C more outer yet inner;
        };
        ringed = λ e. tests_ringed C (omega arith) (tested e);
      }

  pub tries_of : {n : ℕ} {k : Finding (List CapStone)} {u : List ℕ} → Marked q w h y cut f g n k u → Tries p w h y cut T n k u U
  tries_of {n} {k} (no_mark e none same) = subst (λ (v : List ℕ). Tries p w h y cut T n k v U) (sym same) (no_ring (tested e) none)
  tries_of (a_mark e made) = ring q (tested e) made
