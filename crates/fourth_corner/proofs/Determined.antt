-- The fourth corner, the picture and the table after it are determined. Assumes nothing.
use Prim.Native.Nat.{ℕ}
use native.Mathlib.Nat.{le_refl}
use native.Mathlib.Omega.{arith}
use mathlib.Core.Path.{◌≡◌, sym, ap, ◌∙◌}
use mathlib.Core.List.{List, [], ◌∷◌}
use lib.ListN.{length}
use Rattle.refusals.specs.Finding.{Finding, found, refused}
use Rattle.points.specs.declared.Point.{Point}
use Rattle.picture.specs.Sides.{Roomy}
use Rattle.corners.specs.Scores.{Direction}
use Rattle.table.specs.declared.Table.{Table}
use Rattle.table.proofs.Kept.{Proper}
use Rattle.regions.proofs.Unique.{Alike}
use Rattle.alignment.specs.Pattern.{Aligns}
use Rattle.alignment.proofs.Spiralling.{still_roomy}
use Rattle.alignment.proofs.Sighted.{Sighted, search_keeps, search_sights}
use Rattle.alignment.proofs.Determined.{search_same}
use Rattle.alignment.proofs.Aligned.{sighted_claimable, claim_determined}
use Rattle.outline.specs.declared.Outline.{Outline}
use Rattle.fourth_corner.specs.Corner.{Takes, nowhere, stopped, claimed, Seeks, Corners, plain, unguessed, sought}

-- what is found twice is the same
abbrev Same : Finding (List Point) → List ℕ → Finding (List Point) → List ℕ → Type 0
Same f q g r = (f ≡ g) × (q ≡ r)

module _ {m : List ℕ} {w h lent : ℕ} {hd : Point} (R : Roomy w h (length m) lent) (D : Direction hd) {sight : Finding (List Point)} (seen : (at : Point) → sight ≡ found (at ∷ []) → Sighted m w h at) where
  takes_same : {f g : Finding (List Point)} {q r : List ℕ} → Takes m w h hd sight f q → Takes m w h hd sight g r → Same f q g r
  takes_same (nowhere s e same) (nowhere t g other) = (e ∙ sym g, same ∙ sym other)
  takes_same (nowhere s e same) (stopped n t g other) = let z : ◌≡◌ {A = ℕ} 0 1 = cc in absurd (omega arith)
  takes_same (nowhere s e same) (claimed at corner t A g) = let z : ◌≡◌ {A = ℕ} 0 1 = cc in absurd (omega arith)
  takes_same (stopped n s e same) (nowhere t g other) = let z : ◌≡◌ {A = ℕ} 0 1 = cc in absurd (omega arith)
  takes_same (stopped n s e same) (stopped k t g other) = (e ∙ sym s ∙ t ∙ sym g, same ∙ sym other)
  takes_same (stopped n s e same) (claimed at corner t A g) = let z : ◌≡◌ {A = ℕ} 0 1 = cc in absurd (omega arith)
  takes_same (claimed at corner s A e) (nowhere t g other) = let z : ◌≡◌ {A = ℕ} 0 1 = cc in absurd (omega arith)
  takes_same (claimed at corner s A e) (stopped n t g other) = let z : ◌≡◌ {A = ℕ} 0 1 = cc in absurd (omega arith)
  takes_same {q = q} {r = r} (claimed at corner s A e) (claimed bt other t B g) =
      let here : bt ≡ at = cc in
      let B' : Aligns m w h at hd other r = rw here at B in
      let d = claim_determined (sighted_claimable R (seen at s) D) A B' in
      (e ∙ ap (λ (x : Point). found (x ∷ [])) d.0 ∙ sym g, d.1)

module _ {p : List ℕ} {w h lent : ℕ} {T : Table} (R : Roomy w h (length p) lent) (P : Proper T w h) where
  seeks_same : {corner hd : Point} {estimate : ℕ} {f g : Finding (List Point)} {q r : List ℕ} {U Z : Table} → Direction hd → Seeks p w h T corner hd estimate f q U → Seeks p w h T corner hd estimate g r Z → Alike f q U g r Z
  seeks_same {hd = hd} {g = g} {r = r} D S X =
      let K = search_keeps R P S.spirals in
      let e = search_same R P S.spirals X.spirals in
      let Y : Takes S.between w h hd S.sight g r = rw (e.0, e.1) X.takes in
      let t = takes_same (still_roomy R K.len (le_refl lent)) D (λ at i. search_sights i S.spirals) S.takes Y in
      (t.0, t.1, e.2)

  pub corner_determined : {o : Outline} {f g : Finding (List Point)} {q r : List ℕ} {U Z : Table} → Direction o.hd → Corners p w h T o f q U → Corners p w h T o g r Z → Alike f q U g r Z
  corner_determined D (plain low e same table) (plain l g other t) = (e ∙ sym g, same ∙ sym other, table ∙ sym t)
  corner_determined D (plain low e same table) (unguessed high n i g other t) = absurd (omega arith)
  corner_determined D (plain low e same table) (sought high estimate i S) = absurd (omega arith)
  corner_determined D (unguessed high n i e same table) (plain low g other t) = absurd (omega arith)
  corner_determined D (unguessed high n i e same table) (unguessed l k j g other t) = let number : n ≡ k = cc in (e ∙ ap refused number ∙ sym g, same ∙ sym other, table ∙ sym t)
  corner_determined D (unguessed high n i e same table) (sought l estimate j S) = let z : ◌≡◌ {A = ℕ} 0 1 = cc in absurd (omega arith)
  corner_determined D (sought high estimate i S) (plain low g other t) = absurd (omega arith)
  corner_determined D (sought high estimate i S) (unguessed l k j g other t) = let z : ◌≡◌ {A = ℕ} 0 1 = cc in absurd (omega arith)
  corner_determined {o = o} {g = g} {r = r} {Z = Z} D (sought high estimate i S) (sought l other j X) =
      let same : other ≡ estimate = cc in
      let X' : Seeks p w h T o.corner o.hd estimate g r Z = rw same at X in
      seeks_same D S X'
