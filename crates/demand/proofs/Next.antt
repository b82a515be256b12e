-- Every call that its contract allows keeps what is kept; and an accepted lookup of a piece that is not claimed answers its count. Assumes nothing.
use Prim.Native.Nat.{ℕ, ◌<◌, ◌≤◌}
use native.Mathlib.Omega.{arith}
use mathlib.Core.Path.{◌≡◌, refl, subst}
use mathlib.Core.List.{List, ◌∷◌}
use mathlib.Core.Logic.{◌⊎◌, inl, inr}
use Rattle.refusals.specs.Finding.{Finding, found, refused}
use Rattle.refusals.specs.First.{first, sound}
use Rattle.pieces.specs.Picture.{px}
use Rattle.pieces.proofs.Chains.{pixels_from}
use Rattle.table.specs.Table.{entry_of}
use Rattle.table.proofs.Entries.{added_here, added_other, replaced_here, replaced_other}
use Rattle.table.proofs.Exact.{test_oldest}
use Rattle.table.proofs.Kept.{proper_added, proper_replaced}
use Rattle.table.specs.declared.Table.{Table}
use Rattle.regions.specs.Found.{Answer, unclaimed, region}
use Rattle.regions.specs.Tests.{look_tests, Lookable}
use Rattle.regions.specs.Lookup.{given_up, Fresh, Again, Looks, at_claimed, at_known, at_fresh, at_again, refuses, answers}
use Rattle.regions.specs.declared.Region.{Region}
use Rattle.regions.proofs.Accepted.{lookable}
use Rattle.regions.proofs.Asks.{still_black}
use Rattle.regions.proofs.Twice.{measured_inside}
use Rattle.demand.specs.Run.{Event, look, claim, Allowed, OwnSides}
use Rattle.demand.specs.Reached.{Holds}
use Rattle.demand.proofs.Accepted.{Repaints, repaints}
use Rattle.demand.proofs.Kept.{Kept, kept_spares, kept_newest, kept_claim, kept_back, kept_number}

-- a region is answered, whose entry holds the piece's count
abbrev pub Counts : List ℕ → ℕ → ℕ → ℕ → ℕ → Answer → Type 0
Counts B w h x y a = (r : Region) × (a ≡ unclaimed r) × Holds B w h x y r.entry

module _ {B : List ℕ} {w h : ℕ} {E : List Event} {p : List ℕ} {T : Table} (K : Kept B w h E p T) {lent x y : ℕ} (L : Lookable p w h lent T x y) {a : Answer} {q : List ℕ} {U : Table} where
  look_fresh : Fresh p w h x y T a q U → Kept B w h E q U × Counts B w h x y a
  look_fresh F =
      let S = L.seeded in
      let e = F.entry in
      let n =
      kept_number K T.n (λ a b ha hb g. let low = (K.home a b T.n ha hb g).below in omega arith) S.in_x S.in_y F.black F.measures F.paint
      (proper_added K.table e F.few (measured_inside S.in_x S.in_y F.measures))
      (omega arith) (added_here T K.table.entries e F.few) (λ j other low. (omega arith, added_other T K.table.entries e j other)) in
      (rw F.table n.0, (region T.n e, F.answer, n.1))

  look_again : Again p w h x y T a q U → Kept B w h E q U × Counts B w h x y a
  look_again G =
      let S = L.seeded in
      let e = G.entry in
      let k = given_up T in
      let low : k < T.n = test_oldest T w h L.table (omega (arith, G.full)) in
      let back = kept_back K k low G.back in
      let n =
      kept_number back.0 k back.1 S.in_x S.in_y (still_black G.back S.in_x S.in_y G.black) G.measures G.paint
      (proper_replaced K.table k e low (measured_inside S.in_x S.in_y G.measures))
      low (replaced_here T K.table.entries e k (omega (arith, G.full))) (λ j other l. (l, replaced_other T K.table.entries e k j other)) in
      (rw G.table n.0, (region k e, G.answer, n.1))

  -- an accepted lookup: the piece shows a claim, or its count is answered
  pub look_keeps : Looks p w h x y T a q U → Kept B w h E q U × (((2 ≤ px p w x y) × (px p w x y ≤ 4)) ⊎ Counts B w h x y a)
  look_keeps (at_claimed C) = (rw (C.picture, C.table) K, inl (C.low, C.high))
  look_keeps (at_known N) =
      let k = N.number in
      let H = K.home x y k L.seeded.in_x L.seeded.in_y N.shows in
      (rw (N.picture, N.table) (kept_newest k H.below K), inr (region k (entry_of T k), N.answer, record { pixels = pixels_from H.seed H.holds.pixels }))
  look_keeps (at_fresh F) = let r = look_fresh F in (r.0, inr r.1)
  look_keeps (at_again G) = let r = look_again G in (r.0, inr r.1)

-- any call
module _ {B : List ℕ} {w h : ℕ} {E : List Event} {p : List ℕ} {T : Table} (K : Kept B w h E p T) where
  stays : {q : List ℕ} {U : Table} → q ≡ p → U ≡ T → Kept B w h E q U
  stays e g = rw (e, g) K

  pub kept_next : (e : Event) {q : List ℕ} {U : Table} → OwnSides w h e → Allowed p T e q U → Kept B w h (e ∷ E) q U
  kept_next (look v g lent x y f) own (refuses n e s q-is u-is) = kept_spares (look v g lent x y f) (λ a b c z. z) (stays q-is u-is)
  kept_next (look v g lent x y f) {q} {U} own (answers a e s L) =
      let o : (v ≡ w) × (g ≡ h) = subst (λ (i : Finding Answer). OwnSides w h (look v g lent x y i)) e own in
      let s' : first (look_tests p w h lent T x y) sound ≡ sound = rw (o.0, o.1) at s in
      let L' : Looks p w h x y T a q U = rw (o.0, o.1) at L in
      kept_spares (look v g lent x y f) (λ a b c z. z) (look_keeps K (lookable p w h lent T x y s') L').0
  kept_next (claim v g lent x y target (found c)) {q} {U} own A =
      let R : Repaints p w h x y target q c.pixels = rw (own.0, own.1) at (repaints p v g lent x y target A.0.0 A.0.1) in
      rw A.1 (kept_claim K (claim v g lent x y target (found c)) (λ a b c z. z) (λ a b z. (z, refl)) R)
  kept_next (claim v g lent x y target (refused n)) own A = kept_spares (claim v g lent x y target (refused n)) (λ a b c z. z) (stays A.0.1 A.1)
