-- Determined: two outcomes that the contract of the search allows coincide. Assumes nothing.
use Rattle.std.specs.Prelude.{Option, Some, None, Result, Ok, Err}
use Rattle.std.proofs.lemmas.Option.{some_pair_parts}
use Rattle.refusals.specs.declared.Refusal.{Refusal}
use Prim.Native.Nat.{ℕ, ◌*◌, ◌≤◌, ◌<◌}
use native.Mathlib.Nat.{le_refl}
use native.Mathlib.Omega.{arith}
use mathlib.Core.Path.{◌≡◌, refl, sym, ap, ◌∙◌, subst}
use mathlib.Core.List.{List, [], ◌∷◌}
use lib.ListN.{length}
use Rattle.refusals.specs.Finding.{Finding, found, refused_by}
use Rattle.refusals.proofs.Distinct.{refusal_only}
use Rattle.picture.specs.Sides.{Roomy}
use Rattle.points.specs.declared.Point.{Point}
use Rattle.table.specs.declared.Table.{Table}
use Rattle.table.proofs.Kept.{Proper}
use Rattle.regions.proofs.Unique.{Alike, looks_unique}
use Rattle.alignment.specs.Spiral.{first_pass, next_pass, moved}
use Rattle.alignment.specs.Visit.{visit_of, VisitsPixel, white, not_listed, looked, Visits, beside, at_pixel}
use Rattle.alignment.specs.Search.{meaning, Spirals, too_far, moves, stays, here, stops}
use Rattle.alignment.specs.declared.spiral.Pass.{Pass}
use Rattle.alignment.specs.declared.visit.Visit.{Visit}
use Rattle.alignment.specs.declared.visit.Visit.TheVariants.{Moves, Stays, Here}
use Rattle.alignment.specs.declared.search.Sought.{Sought}
use Rattle.alignment.proofs.Places.{pixel_in}
use Rattle.alignment.proofs.Visiting.{can_look, visit_keeps}
use Rattle.alignment.proofs.Spiralling.{still_roomy}

one_place : (x y a b : ℕ) {o : Option (ℕ × ℕ)} → o ≡ Some (x, y) → o ≡ Some (a, b) → (a ≡ x) × (b ≡ y)
one_place x y a b e f = some_pair_parts a x b y (sym f ∙ e)

module _ {p : List ℕ} {w h lent : ℕ} {T : Table} {estimate : ℕ} (R : Roomy w h (length p) lent) (P : Proper T w h) where
  module _ {x y : ℕ} (hx : x < w) (hy : y < h) {v u : Result Visit Refusal} {q r : List ℕ} {U Z : Table} where
    pixel_same : VisitsPixel p w h T estimate x y v q U → VisitsPixel p w h T estimate x y u r Z → Alike v q U u r Z
    pixel_same (white z e s t) (white y f m n) = (e ∙ sym f, s ∙ sym m, t ∙ sym n)
    pixel_same (white z e s t) (not_listed d i f m n) = absurd (d z)
    pixel_same (white z e s t) (looked d i b L f) = absurd (d z)
    pixel_same (not_listed d i e s t) (white z f m n) = absurd (d z)
    pixel_same (not_listed d i e s t) (not_listed c j f m n) = (e ∙ sym f, s ∙ sym m, t ∙ sym n)
    pixel_same (not_listed d i e s t) (looked c j b L f) = let z : ◌≡◌ {A = ℕ} 0 1 = cc in absurd (omega arith)
    pixel_same (looked d i a L e) (white z f m n) = absurd (d z)
    pixel_same (looked d i a L e) (not_listed c j f m n) = let z : ◌≡◌ {A = ℕ} 0 1 = cc in absurd (omega arith)
    pixel_same (looked d i a L e) (looked c j b M f) =
        let s = looks_unique (can_look R P hx hy d i) L M in
        (e ∙ ap (visit_of estimate) s.0 ∙ sym f, s.1, s.2)

  visit_same : {at : Point} {v u : Result Visit Refusal} {q r : List ℕ} {U Z : Table} → Visits p w h T estimate at v q U → Visits p w h T estimate at u r Z → Alike v q U u r Z
  visit_same (beside o e s t) (beside g f m n) = (e ∙ sym f, s ∙ sym m, t ∙ sym n)
  visit_same (beside o e s t) (at_pixel a b g Y) = let z : ◌≡◌ {A = ℕ} 0 1 = cc in absurd (omega arith)
  visit_same (at_pixel x y o X) (beside g f m n) = let z : ◌≡◌ {A = ℕ} 0 1 = cc in absurd (omega arith)
  visit_same {at} {u = u} {r = r} {Z = Z} (at_pixel x y o X) (at_pixel a b g Y) =
      let i = pixel_in w h at.x at.y x y o in
      let e = one_place x y a b o g in
      let Y1 : VisitsPixel p w h T estimate x b u r Z = subst (λ (k : ℕ). VisitsPixel p w h T estimate k b u r Z) e.0 Y in
      let Y2 : VisitsPixel p w h T estimate x y u r Z = subst (λ (k : ℕ). VisitsPixel p w h T estimate x k u r Z) e.1 Y1 in
      pixel_same i.2 i.3 X Y2

-- what is left of a search after a visit, by what the visit comes to
module _ (w h estimate : ℕ) (s : Pass) (at : Point) (f : Finding (List Point)) (q : List ℕ) (U : Table) where
  abbrev Left : Result Visit Refusal → List ℕ → Table → Type 0
  Left (Ok Moves) m B = Spirals w h estimate (next_pass s) (moved s at) m B f q U
  Left (Ok Stays) m B = Spirals w h estimate (next_pass s) at m B f q U
  Left (Ok Here) m B = Alike (found (at ∷ [])) m B f q U
  Left (Err why) m B = Alike (refused_by why) m B f q U

  carried : {v u : Result Visit Refusal} {m n : List ℕ} {B C : Table} → Alike v m B u n C → Left v m B → Left u n C
  carried {v} {u} {m} {n} {B} {C} e L =
      let L1 : Left u m B = subst (λ (k : Result Visit Refusal). Left k m B) e.0 L in
      let L2 : Left u n B = subst (λ (k : List ℕ). Left u k B) e.1 L1 in
      subst (λ (k : Table). Left u n k) e.2 L2

-- of any search after a visit, just that is left
module _ {w h estimate : ℕ} {s : Pass} {at : Point} {p : List ℕ} {lent : ℕ} {T : Table} (R : Roomy w h (length p) lent) (P : Proper T w h) where
  after_visit : {v : Result Visit Refusal} {m : List ℕ} {B : Table} {f : Finding (List Point)} {q : List ℕ} {U : Table}
      → s.step * s.step < estimate * 100 → Visits p w h T estimate at v m B → Spirals w h estimate s at p T f q U → Left w h estimate s at f q U v m B
  after_visit low O (too_far far) = absurd (omega arith)
  after_visit {f = f} {q = q} {U = U} low O (moves l X S) = carried w h estimate s at f q U (visit_same R P X O) S
  after_visit {f = f} {q = q} {U = U} low O (stays l X S) = carried w h estimate s at f q U (visit_same R P X O) S
  after_visit {f = f} {q = q} {U = U} low O (here l X) = carried w h estimate s at f q U (visit_same R P X O) (refl, refl, refl)
  after_visit {f = f} {q = q} {U = U} low O (stops l X) = carried w h estimate s at f q U (visit_same R P X O) (refl, refl, refl)

-- a leg that is too long ends the search
far_ends : {w h estimate : ℕ} {s : Pass} {at : Point} {p : List ℕ} {T : Table} {f : Finding (List Point)} {q : List ℕ} {U : Table}
    → estimate * 100 ≤ s.step * s.step → Spirals w h estimate s at p T f q U → Alike (found []) p T f q U
far_ends far (too_far g) = (refl, refl, refl)
far_ends far (moves low X S) = absurd (omega arith)
far_ends far (stays low X S) = absurd (omega arith)
far_ends far (here low X) = absurd (omega arith)
far_ends far (stops low X) = absurd (omega arith)

pub search_same : {w h estimate : ℕ} {s : Pass} {at : Point} {p : List ℕ} {lent : ℕ} {T : Table} {f g : Finding (List Point)} {q r : List ℕ} {U Z : Table}
    → Roomy w h (length p) lent → Proper T w h → Spirals w h estimate s at p T f q U → Spirals w h estimate s at p T g r Z → Alike f q U g r Z
search_same R P (too_far far) Y = far_ends far Y
search_same {lent = lent} R P (moves low X S) Y = let K = visit_keeps R P X in search_same (still_roomy R K.len (le_refl lent)) K.proper S (after_visit R P low X Y)
search_same {lent = lent} R P (stays low X S) Y = let K = visit_keeps R P X in search_same (still_roomy R K.len (le_refl lent)) K.proper S (after_visit R P low X Y)
search_same R P (here low X) Y = after_visit R P low X Y
search_same R P (stops low X) Y = after_visit R P low X Y

-- an answer that means the same is the same
meaning_only : (a b : Result (Option Point) Refusal) → meaning a ≡ meaning b → a ≡ b
meaning_only (Ok (Some p)) (Ok (Some q)) e = cc
meaning_only (Ok (Some p)) (Ok None) e = let z : ◌≡◌ {A = ℕ} 0 1 = cc in absurd (omega arith)
meaning_only (Ok (Some p)) (Err v) e = let z : ◌≡◌ {A = ℕ} 0 1 = cc in absurd (omega arith)
meaning_only (Ok None) (Ok (Some q)) e = let z : ◌≡◌ {A = ℕ} 0 1 = cc in absurd (omega arith)
meaning_only (Ok None) (Ok None) e = refl
meaning_only (Ok None) (Err v) e = let z : ◌≡◌ {A = ℕ} 0 1 = cc in absurd (omega arith)
meaning_only (Err u) (Ok (Some q)) e = let z : ◌≡◌ {A = ℕ} 0 1 = cc in absurd (omega arith)
meaning_only (Err u) (Ok None) e = let z : ◌≡◌ {A = ℕ} 0 1 = cc in absurd (omega arith)
meaning_only (Err u) (Err v) e = ap Err (refusal_only {a = u} {b = v} e)

-- the answer, the table and the picture are determined
pub search_determined : {w h estimate : ℕ} {seed : Point} {p : List ℕ} {lent : ℕ} {T : Table} {q r : List ℕ} (s t : Sought) → Roomy w h (length p) lent → Proper T w h
    → Spirals w h estimate first_pass seed p T (meaning s.place) q s.table → Spirals w h estimate first_pass seed p T (meaning t.place) r t.table → (s ≡ t) × (q ≡ r)
search_determined s t R P X Y =
    let e = search_same R P X Y in
    let place = meaning_only s.place t.place e.0 in
    ((λ i. record { place = place i; table = e.2 i }), e.1)
