-- What is known of an outline that is drawn, and that an answer is determined. Assumes nothing.
use Rattle.std.specs.Prelude.{Option, Some, None, Result, Ok, Err}
use Rattle.refusals.specs.declared.Refusal.{Refusal}
use Prim.Native.Nat.{ℕ}
use native.Mathlib.Omega.{arith}
use mathlib.Core.Path.{◌≡◌, refl, ap}
use mathlib.Core.List.{List, [], ◌∷◌}
use Rattle.refusals.specs.Finding.{Finding, found, refused}
use Rattle.refusals.proofs.Distinct.{refusal_only}
use Rattle.points.specs.Range.{Near}
use Rattle.points.specs.declared.Point.{Point}
use Rattle.stated.specs.Stated.{judged}
use Rattle.stated.proofs.Reach.{judged_near}
use Rattle.lines.specs.Meet.{meet_of}
use Rattle.corners.specs.Scores.{Direction}
use Rattle.groups.specs.Group.{Centred, Cornered}
use Rattle.groups.specs.Orient.{oriented}
use Rattle.groups.specs.Rotate.{rotated_group}
use Rattle.groups.specs.declared.CapStoneGroup.{CapStoneGroup}
use Rattle.groups.proofs.Orientation.{oriented_cornered, oriented_direction}
use Rattle.groups.proofs.Rotations.{rotated_cornered}
use Rattle.timing.specs.Measure.{measured_of}
use Rattle.timing.proofs.Measures.{measured_size}
use Rattle.version_db.specs.AnnexE.{version_of}
use Rattle.outline.specs.Outline.{meaning, outlined, cornered, judged_outline, met_outline, crossed_outline, measured_outline, sized_outline, turned_outline, outline_of, Sketched}
use Rattle.outline.specs.declared.Outline.{Outline}

module _ (g : CapStoneGroup) (hd : Point) (o : Outline) where
  -- an outline of this group, direction and size, with a corner that is near
  pub record Of (size : ℕ) : Type 0 where
    pub corner : Point
    pub is : outlined g hd size corner ≡ o
    pub near : Near corner

  cornered_drawn : (size : ℕ) (p : Point) (f : Finding Point) → judged p ≡ f → cornered g hd size f ≡ found (o ∷ []) → Of size
  unfolding cornered
  cornered_drawn size p (found corner) e d =
      let j = judged_near p corner e in
      record { corner = corner; is = cc; near = rw j.0 at j.1 }
  cornered_drawn size p (refused n) e d = let z : ◌≡◌ {A = ℕ} 0 1 = cc in absurd (omega arith)

  met_drawn : (size : ℕ) (m : Option Point) → met_outline g hd size m ≡ found (o ∷ []) → Of size
  unfolding met_outline judged_outline
  met_drawn size (Some corner) d = cornered_drawn size corner (judged corner) refl d
  met_drawn size None d = let z : ◌≡◌ {A = ℕ} 0 1 = cc in absurd (omega arith)

  measured_drawn : (f : Finding ℕ) → measured_outline g hd f ≡ found (o ∷ []) → (size : ℕ) × (f ≡ found size) × Of size
  unfolding measured_outline crossed_outline
  measured_drawn (found size) d = (size, refl, met_drawn size (meet_of g.first.corner0 g.first.corner1 g.third.corner0 g.third.corner3) d)
  measured_drawn (refused n) d = let z : ◌≡◌ {A = ℕ} 0 1 = cc in absurd (omega arith)

module _ (pic : List ℕ) (width height : ℕ) (o : Outline) where
  sized_drawn : (g : CapStoneGroup) (hd : Point) → Cornered g → Direction hd → sized_outline pic width height g hd ≡ found (o ∷ []) → Sketched o
  unfolding sized_outline
  sized_drawn g hd C D d =
      let m = measured_drawn g hd o (measured_of pic width height g.first.c g.second.c g.third.c) d in
      let n = measured_size pic width height m.0 g.first.c g.second.c g.third.c m.1 in
      rw (← m.2.is)
      (record { cornered = C; direction = D; corner = m.2.near; modules = record { version = version_of m.0; is = n.whole; few = omega (arith, n.most) } })

  turned_drawn : (hd : Point) (f : Finding CapStoneGroup) → ((g : CapStoneGroup) → f ≡ found g → Cornered g) → Direction hd → turned_outline pic width height hd f ≡ found (o ∷ []) → Sketched o
  unfolding turned_outline
  turned_drawn hd (found g) C D d = sized_drawn g hd (C g refl) D d
  turned_drawn hd (refused n) C D d = let z : ◌≡◌ {A = ℕ} 0 1 = cc in absurd (omega arith)

  pub outline_drawn : (g : CapStoneGroup) → Centred g → Cornered g → outline_of pic width height g ≡ found (o ∷ []) → Sketched o
  unfolding outline_of
  outline_drawn g A C d =
      turned_drawn (oriented g).hd (rotated_group (oriented g)) (λ t e. rotated_cornered (oriented g) t e (oriented_cornered g C)) (oriented_direction g A) d

pub meaning_only : (a b : Result (Option Outline) Refusal) → meaning a ≡ meaning b → a ≡ b
meaning_only (Ok (Some o)) (Ok (Some p)) e = cc
meaning_only (Ok (Some o)) (Ok None) e = cc
meaning_only (Ok (Some o)) (Err why) e = cc
meaning_only (Ok None) (Ok (Some p)) e = cc
meaning_only (Ok None) (Ok None) e = refl
meaning_only (Ok None) (Err why) e = cc
meaning_only (Err why) (Ok (Some p)) e = cc
meaning_only (Err why) (Ok None) e = cc
meaning_only (Err why) (Err other) e = ap Err (refusal_only {a = why} {b = other} e)
