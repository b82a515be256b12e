-- The tests of a lookup pass just where it is lookable. Assumes nothing.
use Prim.Native.Nat.{ℕ, ◌+◌, ◌*◌, ◌-◌, ◌<◌}
use native.Mathlib.Decide.{dec_le}
use native.Mathlib.Omega.{arith}
use mathlib.Core.Path.{◌≡◌}
use mathlib.Core.Bool.{false}
use mathlib.Core.List.{List, [], ◌∷◌, ◌++◌}
use mathlib.Core.Logic.{by_cases}
use lib.Dec.{leb}
use lib.ListN.{length}
use borrow.Author.Tests.{eqb-false, ne_eqb, le-ltb, lt-ltb, le-leb, lt-leb, leb-false, not-false}
use Rattle.refusals.specs.First.{Test, ◌when◌, first, sound}
use Rattle.refusals.proofs.First.{Clear, clear, first_clear}
use Rattle.picture.specs.Sides.{seed_tests, Seeded}
use Rattle.picture.proofs.Passed.{clear_seeded, sized_clear}
use Rattle.pieces.specs.Picture.{px}
use Rattle.table.specs.declared.Table.{Table}
use Rattle.regions.specs.Tests.{unlisted, own_tests, look_tests, Lookable}

-- what the test of refusal 10 passes: a number that has an entry
pub below : (byte n k : ℕ) → unlisted byte n ≡ false → byte ≡ 5 + k → k < n
unfolding unlisted
below byte n k e is = let e' : leb n (byte - 5) ≡ false = rw (le-leb 5 byte (omega arith)) at e in let l = leb-false n (byte - 5) e' in omega arith

below_passes : (byte n : ℕ) → ((k : ℕ) → byte ≡ 5 + k → k < n) → unlisted byte n ≡ false
unfolding unlisted
below_passes byte n h =
    by_cases (dec_le 5 byte)
    (λ l. rw (le-leb 5 byte l) (lt-leb n (byte - 5) (h (byte - 5) (omega arith))))
    (λ m. rw (lt-leb 5 byte (omega arith)))

seeded_clear : (w h len lent x y : ℕ) → Seeded w h len lent x y → Clear (seed_tests w h len lent x y)
seeded_clear w h len lent x y S =
    let c = sized_clear w h len S.sized in
    (c.0, (c.1.0, (le-ltb lent (w * h) S.room, (rw (lt-ltb x w S.in_x, lt-ltb y h S.in_y), tt))))

clear_both : (tests more : List Test) → Clear tests → Clear more → Clear (tests ++ more)
clear_both [] more c d = d
clear_both ((r when applies) ∷ tests) more c d = (c.0, clear_both tests more c.1 d)

module _ (p : List ℕ) (w h lent : ℕ) (T : Table) (x y : ℕ) where
  pub lookable : first (look_tests p w h lent T x y) sound ≡ sound → Lookable p w h lent T x y
  lookable e =
      let c = clear (look_tests p w h lent T x y) e in
      record {
        seeded = clear_seeded w h (length p) lent x y (c.0, (c.1.0, (c.1.1.0, (c.1.1.1.0, tt))));
        table = not-false _ c.1.1.1.1.0;
        dark = eqb-false (px p w x y) 0 c.1.1.1.1.1.0;
        listed = λ k is. below (px p w x y) T.n k c.1.1.1.1.1.1.0 is;
      }

  pub lookable_passes : Lookable p w h lent T x y → first (look_tests p w h lent T x y) sound ≡ sound
  lookable_passes L =
      let own : Clear (own_tests p w h T x y) = (rw L.table, (ne_eqb (px p w x y) 0 L.dark, (below_passes (px p w x y) T.n L.listed, tt))) in
      first_clear (look_tests p w h lent T x y) sound (clear_both (seed_tests w h (length p) lent x y) (own_tests p w h T x y) (seeded_clear w h (length p) lent x y L.seeded) own)
