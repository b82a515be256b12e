-- An unclaimed piece's number, entered and brought to the front, is what a lookup promises. Assumes nothing.
use Prim.Native.Nat.{ℕ, ◌<◌}
use native.Mathlib.Omega.{arith}
use mathlib.Core.Path.{◌≡◌, ap, ◌∙◌}
use mathlib.Core.List.{List}
use lib.ListN.{length}
use Rattle.pieces.specs.Picture.{px}
use Rattle.table.specs.Table.{most, entry_of}
use Rattle.table.specs.Sound.{Ordered}
use Rattle.table.specs.declared.Entry.{Entry}
use Rattle.table.specs.declared.Table.{Table}
use Rattle.table.proofs.Exact.{test_few, test_seeds, test_oldest, test_ordered}
use Rattle.table.proofs.Kept.{number_stands}
use Rattle.table.proofs.Written.{written, newest_written, added_written, replaced_written}
use Rattle.regions.specs.Found.{unclaimed, region}
use Rattle.regions.specs.Tests.{Lookable}
use Rattle.regions.specs.Lookup.{Looks, at_known, at_fresh, at_again}
use Rattle.regions.specs.Numbers.{Choosable, Chosen, its_own, the_next, the_oldest, Enterable, Entered}

module _ {p : List ℕ} {w h lent : ℕ} {T : Table} {x y : ℕ} (L : Lookable p w h lent T x y) (A : length T.age ≡ most) where
  -- the age order lists the numbers
  ordered : Ordered T
  ordered = test_ordered T w h L.table (omega arith)

  -- a number can be chosen where the byte is no claimed piece's
  pub choosable : (px p w x y < 5 → px p w x y < 2) → Choosable T.age T.n (px p w x y)
  choosable free =
      record {
        size = A;
        few = test_few T w h L.table;
        black = λ low. omega (arith, free low, L.dark);
        listed = λ k shows. number_stands T A ordered k (L.listed k shows);
      }

  -- the number has room for an entry
  pub chosen_low : {k i count : ℕ} → Chosen T.age T.n (px p w x y) k i count → px p w x y < 256 → k < most
  chosen_low (its_own shows first same) byte = omega arith
  chosen_low (the_next black few is place more) byte = omega arith
  chosen_low (the_oldest black full is place same) byte = omega (arith, test_oldest T w h L.table (omega arith))

  -- its place is one of the age order
  pub chosen_place : {k i count : ℕ} → Chosen T.age T.n (px p w x y) k i count → i < length T.age
  chosen_place (its_own shows first same) = first.inside
  chosen_place (the_next black few is place more) = omega arith
  chosen_place (the_oldest black full is place same) = omega arith

  -- the piece can be entered for it
  pub enterable : (k : ℕ) → (px p w x y < 5 → px p w x y < 2) → k < most → Enterable p w h lent x y (entry_of T k) k (px p w x y) T.n
  enterable k free low =
      record {
        seeded = L.seeded;
        low = low;
        black = λ b. omega (arith, free b, L.dark);
        old_inside = λ b full. test_seeds T w h L.table k (omega arith);
      }

  -- what is then written is what the lookup leaves
  pub numbered_looks : {k i count : ℕ} {e : Entry} {q : List ℕ}
      → Chosen T.age T.n (px p w x y) k i count
      → Entered p w h x y (entry_of T k) k (px p w x y) T.n e q
      → Looks p w h x y T (unclaimed (region k e)) q (written T k i e count)
  numbered_looks {k} {i} {count} {e} (its_own shows first same) E =
      let kept = E.kept (omega arith) in
      at_known
      (record {
        number = k;
        shows = shows;
        answer = ap (λ (v : Entry). unclaimed (region k v)) kept.0;
        picture = kept.1;
        table = (λ j. written T k i (kept.0 j) (same j)) ∙ newest_written T k i first;
      })
  numbered_looks {k} {i} {count} {e} (the_next black few is place more) E =
      let painted = E.fresh (omega arith) few in
      at_fresh
      (record {
        black = black;
        few = few;
        entry = e;
        measures = painted.0;
        paint = rw is at painted.1;
        answer = ap (λ (j : ℕ). unclaimed (region j e)) is;
        table = (λ j. written T (is j) (place j) e (more j)) ∙ added_written T A ordered e few;
      })
  numbered_looks {k} {i} {count} {e} (the_oldest black full is place same) E =
      let painted = E.again (omega arith) (omega arith) in
      at_again
      (record {
        black = black;
        full = full;
        between = painted.0;
        back = rw is at painted.1;
        entry = e;
        measures = painted.2;
        paint = rw is at painted.3;
        answer = ap (λ (j : ℕ). unclaimed (region j e)) is;
        table = (λ j. written T (is j) (place j) e (same j)) ∙ replaced_written T A ordered e (omega arith);
      })
