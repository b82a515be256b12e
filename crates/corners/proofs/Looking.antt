-- What the loop of a fill that looks for corners knows at its head, and what each turn makes of it: one invariant and a law for each place of the loop, for any finder. Assumes nothing.
use Prim.Native.Nat.{ℕ, ◌<◌}
use native.Mathlib.Omega.{arith}
use mathlib.Core.Path.{◌≡◌, refl, sym, subst}
use mathlib.Core.List.{List, [], ◌∷◌}
use mathlib.Core.Logic.{inl}
use lib.ListN.{length}
use Rattle.pieces.specs.Picture.{px, pixel}
use Rattle.pieces.specs.Paint.{Paints}
use Rattle.pieces.specs.declared.Row.{Row}
use Rattle.pieces.proofs.Chains.{last_of}
use Rattle.fill.specs.Order.{rows_met}
use Rattle.fill.specs.Stack.{held}
use Rattle.fill.specs.Fill.{Fillable, Steppable, Steps}
use Rattle.fill.specs.Fold.{folded}
use Rattle.fill.specs.declared.step.Stepped.{Stepped}
use Rattle.fill.specs.declared.step.Stepped.TheVariants.{Met, Passed}
use Rattle.fill.proofs.Underway.{Task}
use Rattle.fill.proofs.Filling.{task_of, filling_step, filling_underway}
use Rattle.fill.proofs.Folding.{Folding, steps_as, fold_begun, fold_asks, fold_met, fold_met_less, fold_passed, fold_passed_less, fold_end}
use Rattle.fill.proofs.Measure.{to_do}
use Rattle.corners.specs.Rows.{Sides, Drawn}

-- a finder that starts as z, adds a row by g and is `Ready` for the next has come to `found`
pub record Looking {A : Type 0} (Ready : A → Type 0) (g : A → Row → A) (z : A) (T : Task) (room from : ℕ) (p s : List ℕ) (sp : ℕ) (found : A) : Type 0 where
  pub folding : Folding g z T room from p s sp found
  pub sides : Sides T.w T.h
  pub ready : Ready found

-- where the loop begins
pub looking-begun :
    {A : Type 0} {Ready : A → Type 0} (g : A → Row → A) {z : A} {p : List ℕ} {w h x y t room : ℕ} → Fillable p w h x y t room → Sides w h → Ready z
    → {from : ℕ} → from ≡ px p w x y → {s : List ℕ} → length s ≡ room → held s 1 ≡ pixel x y ∷ [] → Looking Ready g z (task_of p w h x y t) (length s) from p s 1 z
looking-begun g {z} F S ready e len seed = record { folding = fold_begun g z F e len seed; sides = S; ready = ready }

module _ {A : Type 0} {Ready : A → Type 0} {g : A → Row → A} {z : A} {T : Task} {room from : ℕ} {p s : List ℕ} {sp : ℕ} {found : A} (L : Looking Ready g z T room from p s sp found) where
  -- the step may be called
  pub looking_asks : 0 < sp → Steppable p T.w T.h from T.t s sp
  looking_asks = fold_asks L.folding

  module _ (some : 0 < sp) {p' s' : List ℕ} {a : Stepped} (D : Steps T.w T.h from T.t p s sp p' s' a) where
    -- it met the row r
    module _ {r : Row} {sp' : ℕ} (e : a ≡ Met r sp') where
      -- which is one of the picture
      pub looking_row : length p' ≡ length p → length s' ≡ length s → Drawn r
      looking_row len-p len-s =
          let Q = (filling_underway (filling_step L.folding.filling some (steps_as e D) len-p len-s)).rows_of r (inl refl) in
          let left = last_of (Q.all r.left (omega arith) Q.order) in
          let right = last_of (Q.all r.right Q.order (omega arith)) in
          let S = L.sides in
          record { left_low = omega (arith, left.0); right_low = omega (arith, right.0); y_low = omega (arith, left.1) }

      pub looking_met : ((f : A) (row : Row) → Ready f → Ready (g f row)) → length p' ≡ length p → length s' ≡ length s → {found' : A} → found' ≡ g found r → Looking Ready g z T room from p' s' sp' found'
      looking_met keeps len-p len-s q =
          record { folding = fold_met L.folding some D e len-p len-s q; sides = L.sides; ready = subst Ready (sym q) (keeps found r L.ready) }

      pub looking_met_less : to_do from p' sp' < to_do from p sp
      looking_met_less = fold_met_less L.folding some D e

    -- it met none
    module _ {sp' : ℕ} (e : a ≡ Passed sp') where
      pub looking_passed : length p' ≡ length p → length s' ≡ length s → Looking Ready g z T room from p' s' sp' found
      looking_passed len-p len-s = record { folding = fold_passed L.folding some D e len-p len-s; sides = L.sides; ready = L.ready }

      pub looking_passed_less : to_do from p' sp' < to_do from p sp
      looking_passed_less = fold_passed_less L.folding some D e

  -- the stack is empty: the piece is painted, and the finder has seen all its rows
  pub looking_end : sp ≡ 0 → Paints T.P T.w T.h T.x T.y T.t p × (found ≡ folded g z (rows_met T.P T.w T.h T.x T.y T.t))
  looking_end = fold_end L.folding
