-- A second lookup right after the first changes nothing at all: it answers the same, and picture and table stay. Assumes nothing.
use Prim.Native.Nat.{ℕ, ◌+◌, ◌<◌}
use native.Mathlib.Omega.{arith}
use mathlib.Core.Path.{◌≡◌, refl, sym, ap, ◌∙◌}
use mathlib.Core.List.{List}
use lib.ListN.{length}
use Rattle.refusals.specs.Finding.{Finding, found}
use Rattle.picture.specs.Sides.{Seeded}
use Rattle.pieces.specs.Picture.{px}
use Rattle.pieces.specs.Chain.{start}
use Rattle.pieces.specs.Paint.{Paints}
use Rattle.table.specs.Table.{most, entry_of, newest}
use Rattle.table.specs.Sound.{Inside}
use Rattle.table.proofs.Entries.{added_here, replaced_here, newest_again}
use Rattle.table.proofs.Exact.{sound_exact, test_oldest}
use Rattle.table.proofs.Kept.{Proper, proper_newest, proper_added, proper_replaced}
use Rattle.table.specs.declared.Entry.{Entry}
use Rattle.table.specs.declared.Table.{Table}
use Rattle.regions.specs.Found.{Answer, unclaimed, region}
use Rattle.regions.specs.Tests.{Lookable}
use Rattle.regions.specs.Lookup.{Measures, given_up, at_claimed, at_known, at_fresh, at_again, LookPost, refuses, answers}
use Rattle.regions.proofs.Accepted.{lookable, lookable_passes}
use Rattle.regions.proofs.Unique.{Alike, back_length, post_unique}

-- a table that passed the test, with its arrays whole
pub proper : {p : List ℕ} {w h lent : ℕ} {T : Table} {x y : ℕ} → Lookable p w h lent T x y → length T.entries ≡ most → length T.age ≡ most → Proper T w h
proper {w = w} {h = h} {T = T} L entries age = record { entries = entries; age = age; sound = (sound_exact T w h (omega arith)).0 L.table }

-- a lookup of a pixel that shows the newest number leaves all as it is
settled : {q : List ℕ} {w h lent : ℕ} {U : Table} {x y : ℕ} {f : Finding Answer} (k : ℕ)
    → Seeded w h (length q) lent x y → Proper U w h → k < U.n → px q w x y ≡ 5 + k → f ≡ found (unclaimed (region k (entry_of U k))) → U ≡ newest U k → LookPost q w h lent U x y f q U
settled {q} {w} {h} {lent} {U} {x} {y} k S P low shows is newest =
    let L : Lookable q w h lent U x y =
    record { seeded = S; table = (sound_exact U w h (omega (arith, P.age))).1 P.sound; dark = λ e. omega arith; listed = λ j e. omega arith } in
    answers (unclaimed (region k (entry_of U k))) is (lookable_passes q w h lent U x y L)
    (at_known (record { number = k; shows = shows; answer = refl; picture = refl; table = newest }))

-- the seed of a piece that is painted shows the paint
pub seed_shows : {p : List ℕ} {w h x y t : ℕ} {q : List ℕ} → x < w → y < h → Paints p w h x y t q → px q w x y ≡ t
seed_shows {x = x} {y = y} hx hy P = P.piece x y (start (hx, hy, refl))

-- an entry for the piece of a pixel of the picture has its seed inside
pub measured_inside : {p : List ℕ} {w h x y : ℕ} {e : Entry} → x < w → y < h → Measures p w h x y e → Inside e w h
measured_inside hx hy M = record { in_x = omega (arith, M.seed_x); in_y = omega (arith, M.seed_y) }

pub settles : {p : List ℕ} {w h lent : ℕ} {T : Table} {x y : ℕ} {f : Finding Answer} {q : List ℕ} {U : Table} → length T.entries ≡ most → length T.age ≡ most
    → LookPost p w h lent T x y f q U → LookPost q w h lent U x y f q U
settles entries age (refuses n e s q-is u-is) = refuses n e (rw (q-is, u-is) s) refl refl
settles entries age (answers a e s (at_claimed C)) =
    answers a e (rw (C.picture, C.table) s)
    (at_claimed (record { low = rw C.picture C.low; high = rw C.picture C.high; answer = rw C.picture C.answer; picture = refl; table = refl }))
settles {p} {w} {h} {lent} {T} {x} {y} entries age (answers a e s (at_known K)) =
    let L = lookable p w h lent T x y s in
    let k = K.number in
    let low = L.listed k K.shows in
    rw (K.picture, K.table) (settled k L.seeded (proper_newest (proper L entries age) k low) low K.shows (e ∙ ap found K.answer) (sym (newest_again T k)))
settles {p} {w} {h} {lent} {T} {x} {y} {f} {q} {U} entries age (answers a e s (at_fresh F)) =
    let L = lookable p w h lent T x y s in
    let S = L.seeded in
    let P = proper_added (proper L entries age) F.entry F.few (measured_inside S.in_x S.in_y F.measures) in
    rw F.table
    (settled T.n (rw F.paint.len S) P (omega arith) (seed_shows S.in_x S.in_y F.paint)
    (e ∙ ap found (F.answer ∙ ap (λ (v : Entry). unclaimed (region T.n v)) (sym (added_here T entries F.entry F.few))))
    (sym (newest_again _ T.n)))
settles {p} {w} {h} {lent} {T} {x} {y} {f} {q} {U} entries age (answers a e s (at_again G)) =
    let L = lookable p w h lent T x y s in
    let S = L.seeded in
    let k = given_up T in
    let low : k < T.n = test_oldest T w h L.table (omega (arith, G.full)) in
    let P = proper_replaced (proper L entries age) k G.entry low (measured_inside S.in_x S.in_y G.measures) in
    rw G.table
    (settled k (rw (G.paint.len, back_length G.back) S) P low (seed_shows S.in_x S.in_y G.paint)
    (e ∙ ap found (G.answer ∙ ap (λ (v : Entry). unclaimed (region k v)) (sym (replaced_here T entries G.entry k (omega (arith, G.full))))))
    (sym (newest_again _ k)))

pub twice : {p : List ℕ} {w h lent : ℕ} {T : Table} {x y : ℕ} {f g : Finding Answer} {q r : List ℕ} {U W : Table} → length T.entries ≡ most → length T.age ≡ most
    → LookPost p w h lent T x y f q U → LookPost q w h lent U x y g r W → Alike g r W f q U
twice entries age M N = post_unique N (settles entries age M)
