-- The entries pushed: the seed's and one for each joint that was touched. So they are never more than the picture has pixels, and as many turns empty the stack. Assumes nothing.
use Prim.Native.Nat.{ℕ, zero, suc, ◌+◌, ◌*◌, ◌≤◌}
use native.Mathlib.Omega.{arith}
use mathlib.Core.Path.{◌≡◌, refl, sym, ap, ◌∙◌, subst}
use mathlib.Core.List.{List, [], ◌∷◌}
use mathlib.Core.Logic.{◌⊎◌, inl, inr, ⊎_elim}
use lib.ListN.{length}
use Rattle.pieces.specs.Picture.{px, Pixel}
use Rattle.pieces.specs.declared.Row.{Row}
use Rattle.pieces.proofs.Numbers.{same}
use Rattle.fill.specs.Order.{row_at, paint_row, Turned, meet, turn, State, state, after, turns, begun}
use Rattle.fill.proofs.Lines.{seeded_grows}
use Rattle.fill.proofs.Underway.{Task, Valid, f, Underway}
use Rattle.fill.proofs.Turns.{painted, turn_none, turn_passed, turn_met, entry_row, entry_hit, turns_of, underway}
use Rattle.fill.proofs.Joints.{Joints, joints_few, joints_met}

-- n turns on: the joints that were touched; and each entry that was pushed was taken by a turn or waits
pub record Tally (T : Task) (s : State) (n : ℕ) : Type 0 where
  pub joints : List Pixel
  pub listed : Joints T s.rows joints
  pub count : s.pushed ≡ suc (length joints)
  pub taken : (s.stack ≡ []) ⊎ (s.pushed ≡ n + length s.stack)

cons_nil : {A : Type 0} {a : A} {l : List A} → ◌≡◌ {A = List A} (a ∷ l) [] → ⊥
cons_nil z = let y = ap length z in omega arith

-- a turn takes one entry and loses no other
pub turn_grows : (w h from to : ℕ) (p : List ℕ) (e : Pixel) (st : List Pixel) → length st ≤ length (turn w h from to p (e ∷ st)).stack
unfolding meet
turn_grows w h from to p e st =
    let r = row_at w from p e.col e.line in
    ⊎_elim
    (λ g. omega (arith, ap (λ (d : Turned). length d.stack) (turn_met w h from to p e st g), seeded_grows w h from (paint_row w to p r) r st))
    (λ g. omega (arith, ap (λ (d : Turned). length d.stack) (turn_passed w h from to p e st g)))
    (same (px p w e.col e.line) from)

-- a turn that meets no row pushes none
pub turn_empty : (w h from to : ℕ) (p : List ℕ) (e : Pixel) (st : List Pixel) → (turn w h from to p (e ∷ st)).met ≡ [] → (turn w h from to p (e ∷ st)).stack ≡ st
unfolding meet
turn_empty w h from to p e st none =
    ⊎_elim
    (λ g. absurd (cons_nil (sym (ap (λ (d : Turned). d.met) (turn_met w h from to p e st g)) ∙ none)))
    (λ g. ap (λ (d : Turned). d.stack) (turn_passed w h from to p e st g))
    (same (px p w e.col e.line) from)

module _ (T : Task) where
  tally_begun : Tally T (begun T.P T.x T.y) 0
  tally_begun =
      record {
        joints = [];
        listed = record { once = tt; sound = λ j m. absurd m; whole = λ c b j t. ⊎_elim (λ q. q) (λ q. q) t };
        count = refl;
        taken = inr (omega arith);
      }

  -- a turn
  tally_turn : (n : ℕ) (p : List ℕ) (st : List Pixel) (R : List Row) (k : ℕ) → Underway T p st R → Tally T (state p st R k) n → Tally T (after (state p st R k) (turn T.w T.h (f T) T.t p st)) (suc n)
  unfolding meet
  tally_turn n p [] R k G Y =
      subst (λ (d : Turned). Tally T (after (state p [] R k) d) (suc n)) (sym (turn_none T.w T.h (f T) T.t p))
      (record { joints = Y.joints; listed = Y.listed; count = omega (arith, Y.count); taken = inl refl })
  tally_turn n p (e ∷ st) R k G Y =
      let rest : k ≡ n + suc (length st) = ⊎_elim (λ z. absurd (cons_nil z)) (λ z. z) Y.taken in
      ⊎_elim
      (λ g.
      let r = row_at T.w (f T) p e.col e.line in
      let m = joints_met G (entry_row T G g) (entry_hit T G) Y.listed in
      let grow = seeded_grows T.w T.h (f T) (painted T p r) r st in
      let c = Y.count in
      subst (λ (d : Turned). Tally T (after (state p (e ∷ st) R k) d) (suc n)) (sym (turn_met T.w T.h (f T) T.t p e st g))
      (record { joints = m.0; listed = m.1; count = omega (arith, m.2); taken = inr (omega arith) }))
      (λ g.
      subst (λ (d : Turned). Tally T (after (state p (e ∷ st) R k) d) (suc n)) (sym (turn_passed T.w T.h (f T) T.t p e st g))
      (record { joints = Y.joints; listed = Y.listed; count = omega (arith, Y.count); taken = inr (omega arith) }))
      (same (px p T.w e.col e.line) (f T))

  pub tally : Valid T → (n : ℕ) → Tally T (turns_of T n) n
  unfolding turns
  tally ok zero = tally_begun
  tally ok (suc n) = let s = turns_of T n in tally_turn n s.pic s.stack s.rows s.pushed (underway T ok n) (tally ok n)

  pub pushed_few : Valid T → (n : ℕ) → (turns_of T n).pushed ≤ T.w * T.h
  pushed_few ok n = let Y = tally ok n in omega (arith, Y.count, joints_few ok Y.listed)

  -- as many turns as the picture has pixels empty the stack
  pub emptied : Valid T → (turns_of T (T.w * T.h)).stack ≡ []
  emptied ok =
      let n = T.w * T.h in
      ⊎_elim (λ z. z) (λ z. nil_of (turns_of T n).stack (omega (arith, pushed_few ok n))) (tally ok n).taken
    where
      nil_of : (l : List Pixel) → length l ≡ 0 → l ≡ []
      nil_of [] z = refl
      nil_of (a ∷ l) z = absurd (omega arith)
