-- What a group comes to, the picture and the table after it are determined, for every input. Assumes nothing.
use Rattle.std.specs.Prelude.{Option, Result}
use Rattle.refusals.specs.declared.Refusal.{Refusal}
use Prim.Native.Nat.{ℕ}
use native.Mathlib.Omega.{arith}
use mathlib.Core.Path.{◌≡◌, sym, ap, ◌∙◌}
use mathlib.Core.Bool.{true, false}
use mathlib.Core.List.{List}
use lib.ListN.{length}
use Rattle.refusals.specs.Finding.{Finding, refused}
use Rattle.picture.specs.Sides.{Roomy}
use Rattle.table.specs.Table.{most}
use Rattle.table.specs.declared.Table.{Table}
use Rattle.table.proofs.Exact.{sound_exact}
use Rattle.table.proofs.Kept.{Proper}
use Rattle.regions.proofs.Unique.{Alike}
use Rattle.groups.specs.Group.{Centred, Cornered}
use Rattle.groups.specs.declared.CapStoneGroup.{CapStoneGroup}
use Rattle.outline.specs.declared.Outline.{Outline}
use Rattle.outline.proofs.Drawn.{outline_drawn}
use Rattle.grids.specs.Grid.{meaning}
use Rattle.grids.specs.declared.SkewedGridLocation.{SkewedGridLocation}
use Rattle.grids.proofs.Determined.{meaning_only}
use Rattle.corners.specs.Scores.{Direction}
use Rattle.fourth_corner.proofs.Determined.{corner_determined}
use Rattle.fit.specs.Fit.{located_by, Completes, Fits, not_outlined, apart, outlined, FitsWhole, put_back, stands, FitPost, refuses, fits}
use Rattle.fit.proofs.Taken.{fittable}

module _ {p : List ℕ} {w h lent : ℕ} {T : Table} (R : Roomy w h (length p) lent) (P : Proper T w h) {f g : Finding (List SkewedGridLocation)} {q r : List ℕ} {U Z : Table} where
  completes_same : {o : Outline} → Direction o.hd → Completes p w h T o f q U → Completes p w h T o g r Z → Alike f q U g r Z
  completes_same {o} D X Y =
      let d = corner_determined R P D X.corners Y.corners in
      let there = ap (λ (m : List ℕ). located_by m w h o X.corner) d.1 ∙ ap (located_by r w h o) d.0 in
      (X.is ∙ there ∙ sym Y.is, d.1, d.2)

  pub fits_same : {k : CapStoneGroup} → Centred k → Cornered k → Fits p w h T k f q U → Fits p w h T k g r Z → Alike f q U g r Z
  fits_same A C (not_outlined n e i same table) (not_outlined m j l other t) = let number : n ≡ m = cc in (i ∙ ap refused number ∙ sym l, same ∙ sym other, table ∙ sym t)
  fits_same A C (not_outlined n e i same table) (apart j l other t) = let z : ◌≡◌ {A = ℕ} 0 1 = cc in absurd (omega arith)
  fits_same A C (not_outlined n e i same table) (outlined o j Y) = let z : ◌≡◌ {A = ℕ} 0 1 = cc in absurd (omega arith)
  fits_same A C (apart e i same table) (not_outlined m j l other t) = let z : ◌≡◌ {A = ℕ} 0 1 = cc in absurd (omega arith)
  fits_same A C (apart e i same table) (apart j l other t) = (i ∙ sym l, same ∙ sym other, table ∙ sym t)
  fits_same A C (apart e i same table) (outlined o j Y) = let z : ◌≡◌ {A = ℕ} 0 1 = cc in absurd (omega arith)
  fits_same A C (outlined o e X) (not_outlined m j l other t) = let z : ◌≡◌ {A = ℕ} 0 1 = cc in absurd (omega arith)
  fits_same A C (outlined o e X) (apart j l other t) = let z : ◌≡◌ {A = ℕ} 0 1 = cc in absurd (omega arith)
  fits_same {k} A C (outlined o e X) (outlined s j Y) =
      let same : s ≡ o = cc in
      let Y' : Completes p w h T o g r Z = rw same at Y in
      completes_same (outline_drawn p w h o k A C e).direction X Y'

module _ {p : List ℕ} {w h lent : ℕ} {T : Table} (R : Roomy w h (length p) lent) (P : Proper T w h) {k : CapStoneGroup} (A : Centred k) (C : Cornered k) {f g : Finding (List SkewedGridLocation)} {q r : List ℕ} {U Z : Table} where
  whole_same : FitsWhole p w h T k f q U → FitsWhole p w h T k g r Z → Alike f q U g r Z
  whole_same (put_back i m B X same table) (put_back j n D Y other t) = let d = fits_same R P A C X Y in (d.0, same ∙ sym other, table ∙ sym t)
  whole_same (put_back i m B X same table) (stands j Y) = let d = (fits_same R P A C X Y).0 in let b : true ≡ false = cc in let z : ◌≡◌ {A = ℕ} 0 1 = cc in absurd (omega arith)
  whole_same (stands i X) (put_back j n D Y other t) = let d = (fits_same R P A C X Y).0 in let b : true ≡ false = cc in let z : ◌≡◌ {A = ℕ} 0 1 = cc in absurd (omega arith)
  whole_same (stands i X) (stands j Y) = fits_same R P A C X Y

-- the arrays of a table have 251 places, by its type
pub record Arrays (T : Table) : Type 0 where
  pub entries : length T.entries ≡ most
  pub age : length T.age ≡ most

module _ {p : List ℕ} {w h lent room : ℕ} {T : Table} {k : CapStoneGroup} (long : Arrays T) {q r : List ℕ} {U Z : Table} where
  pub post_same : {f g : Finding (List SkewedGridLocation)} → FitPost p w h lent room T k f q U → FitPost p w h lent room T k g r Z → Alike f q U g r Z
  post_same (refuses n e i same table) (refuses m j l other t) = let number : n ≡ m = cc in (e ∙ ap refused number ∙ sym j, same ∙ sym other, table ∙ sym t)
  post_same (refuses n e i same table) (fits j Y) = let z : ◌≡◌ {A = ℕ} 0 1 = cc in absurd (omega arith)
  post_same (fits i X) (refuses m j l other t) = let z : ◌≡◌ {A = ℕ} 0 1 = cc in absurd (omega arith)
  post_same (fits i X) (fits j Y) =
      let F = fittable p w h lent room T k i in
      let P : Proper T w h = record { entries = long.entries; age = long.age; sound = (sound_exact T w h (omega (arith, long.age))).0 F.workable.sound } in
      whole_same F.workable.roomy P F.centred F.cornered X Y

  pub fit_determined : (a b : Result (Option SkewedGridLocation) Refusal) → FitPost p w h lent room T k (meaning a) q U → FitPost p w h lent room T k (meaning b) r Z → Alike a q U b r Z
  fit_determined a b X Y = let d = post_same X Y in (meaning_only a b d.0, d.1, d.2)
