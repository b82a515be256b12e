-- A fill for any purpose: what its loop has gathered is the fold of its rule over the rows met so far. A purpose adds its rule and cites these laws. Assumes nothing.
use Prim.Native.Nat.{ℕ, ◌+◌, ◌-◌, ◌<◌}
use mathlib.Core.Path.{◌≡◌, refl, sym, ap, ◌∙◌, subst}
use mathlib.Core.List.{List, [], ◌∷◌}
use lib.ListN.{length}
use Rattle.pieces.specs.Picture.{px, pixel}
use Rattle.pieces.specs.Paint.{Paints}
use Rattle.pieces.specs.declared.Row.{Row}
use Rattle.fill.specs.Order.{rows_met}
use Rattle.fill.specs.Stack.{held}
use Rattle.fill.specs.Fill.{Fillable, Steppable, Steps}
use Rattle.fill.specs.Fold.{folded}
use Rattle.fill.specs.declared.step.Stepped.{Stepped}
use Rattle.fill.specs.declared.step.Stepped.TheVariants.{Met, Passed}
use Rattle.fill.proofs.Underway.{Task}
use Rattle.fill.proofs.Filling.{Filling, task_of, filling_begun, filling_asks, filling_step, filling_less, end_paints, end_rows}
use Rattle.fill.proofs.Measure.{to_do}

pub folded_none : {A : Type 0} (g : A → Row → A) (z : A) → folded g z [] ≡ z
unfolding folded
folded_none g z = refl

pub folded_more : {A : Type 0} (g : A → Row → A) (z : A) (r : Row) (R : List Row) → folded g z (r ∷ R) ≡ g (folded g z R) r
unfolding folded
folded_more g z r R = refl

-- a step whose answer is known
pub steps_as : {w h f t : ℕ} {p s : List ℕ} {sp : ℕ} {p' s' : List ℕ} {a b : Stepped} → a ≡ b → Steps w h f t p s sp p' s' a → Steps w h f t p s sp p' s' b
steps_as {w} {h} {f} {t} {p} {s} {sp} {p'} {s'} e D = subst (Steps w h f t p s sp p' s') e D

-- the invariant of a loop with the rule g from z, which has gathered acc
pub record Folding {A : Type 0} (g : A → Row → A) (z : A) (T : Task) (room from : ℕ) (p s : List ℕ) (sp : ℕ) (acc : A) : Type 0 where
  pub rows : List Row
  pub pushed : ℕ
  pub filling : Filling T room from p s sp rows pushed
  pub gathered : acc ≡ folded g z rows

-- where it begins
pub fold_begun : {A : Type 0} (g : A → Row → A) (z : A) {p : List ℕ} {w h x y t room : ℕ} → Fillable p w h x y t room → {from : ℕ} → from ≡ px p w x y → {s : List ℕ} → length s ≡ room → held s 1 ≡ pixel x y ∷ [] → Folding g z (task_of p w h x y t) (length s) from p s 1 z
fold_begun g z A e len seed = record { rows = []; pushed = 1; filling = filling_begun A e len seed; gathered = sym (folded_none g z) }

module _ {A : Type 0} {g : A → Row → A} {z : A} {T : Task} {room from : ℕ} {p s : List ℕ} {sp : ℕ} {acc : A} (F : Folding g z T room from p s sp acc) where
  -- the step may be called
  pub fold_asks : 0 < sp → Steppable p T.w T.h from T.t s sp
  fold_asks some = filling_asks F.filling some

  module _ (some : 0 < sp) {p' s' : List ℕ} {a : Stepped} (D : Steps T.w T.h from T.t p s sp p' s' a) where
    -- it met the row r: the rule is applied, and less is left to do
    module _ {r : Row} {sp' : ℕ} (e : a ≡ Met r sp') where
      pub fold_met : length p' ≡ length p → length s' ≡ length s → {acc' : A} → acc' ≡ g acc r → Folding g z T room from p' s' sp' acc'
      fold_met len-p len-s q =
          record {
            rows = r ∷ F.rows;
            pushed = F.pushed + (sp' - (sp - 1));
            filling = filling_step F.filling some (steps_as e D) len-p len-s;
            gathered = q ∙ ap (λ (u : A). g u r) F.gathered ∙ sym (folded_more g z r F.rows);
          }

      pub fold_met_less : to_do from p' sp' < to_do from p sp
      fold_met_less = filling_less F.filling some (steps_as e D)

    -- it met none
    module _ {sp' : ℕ} (e : a ≡ Passed sp') where
      pub fold_passed : length p' ≡ length p → length s' ≡ length s → Folding g z T room from p' s' sp' acc
      fold_passed len-p len-s =
          record {
            rows = F.rows;
            pushed = F.pushed + (sp' - (sp - 1));
            filling = filling_step F.filling some (steps_as e D) len-p len-s;
            gathered = F.gathered;
          }

      pub fold_passed_less : to_do from p' sp' < to_do from p sp
      fold_passed_less = filling_less F.filling some (steps_as e D)

  -- the stack is empty: the piece is painted, and the rule went over its rows
  pub fold_end : sp ≡ 0 → Paints T.P T.w T.h T.x T.y T.t p × (acc ≡ folded g z (rows_met T.P T.w T.h T.x T.y T.t))
  fold_end none = (end_paints F.filling none, F.gathered ∙ ap (folded g z) (end_rows F.filling none))
