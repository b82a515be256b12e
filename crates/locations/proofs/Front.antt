-- A pass over groups that name the first n stones looks at no other. Assumes nothing.
use Prim.Native.Nat.{ℕ}
use mathlib.Core.Path.{◌≡◌, refl, sym, subst}
use mathlib.Core.List.{List}
use mathlib.Core.Logic.{inl, inr}
use lib.ListN.{take}
use lib.Seq.{get_or-take}
use Rattle.refusals.specs.Finding.{Finding, found, refused}
use Rattle.pieces.specs.Count.{Mem}
use Rattle.table.specs.declared.Table.{Table}
use Rattle.capstones.specs.Blank.{no_stone}
use Rattle.capstones.specs.declared.CapStone.{CapStone}
use Rattle.groups.specs.declared.CapStoneGroup.{CapStoneGroup}
use Rattle.grids.specs.declared.SkewedGridLocation.{SkewedGridLocation}
use Rattle.fit.specs.Fit.{Fits}
use Rattle.groupings.specs.Used.{group_of}
use Rattle.groupings.specs.Held.{Low}
use Rattle.groupings.specs.declared.Trio.{Trio}
use Rattle.locations.specs.Pass.{FitsAll, finished, fitted, stopped}

pub front_group : (stones : List CapStone) (n : ℕ) {t : Trio} → Low n t → group_of stones t ≡ group_of (take n stones) t
front_group stones n {t} L =
    let a = get_or-take n stones t.first no_stone L.first in
    let b = get_or-take n stones t.second no_stone L.second in
    let c = get_or-take n stones t.third no_stone L.third in
    λ i. record { first = sym a i; second = sym b i; third = sym c i }

pub pass_front : {w h : ℕ} (stones : List CapStone) (n : ℕ) {groups : List Trio} {p : List ℕ} {T : Table} {l : List SkewedGridLocation} {f : Finding (List SkewedGridLocation)} {q : List ℕ} {U : Table}
    → ((t : Trio) → Mem t groups → Low n t) → FitsAll w h stones groups p T l f q U → FitsAll w h (take n stones) groups p T l f q U
pass_front stones n L finished = finished
pass_front {w} {h} stones n {p = p} {T = T} L (fitted {t = t} {new = new} {m = m} {Between = B} F X) =
    fitted (subst (λ (g : CapStoneGroup). Fits p w h T g (found new) m B) (front_group stones n (L t (inl refl))) F) (pass_front stones n (λ u m. L u (inr m)) X)
pass_front {w} {h} stones n {p = p} {T = T} {q = q} {U = U} L (stopped {t = t} {n = k} F) = stopped (subst (λ (g : CapStoneGroup). Fits p w h T g (refused k) q U) (front_group stones n (L t (inl refl))) F)
