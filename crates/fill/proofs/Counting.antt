-- What the loop that counts knows, beside what every fill's loop does. Assumes nothing.
use Prim.Native.Nat.{ℕ, ◌+◌, ◌*◌, ◌-◌, ◌<◌, ◌≤◌}
use native.Mathlib.Omega.{arith}
use native.Mathlib.Nat.{mul-le-mul}
use mathlib.Core.Path.{◌≡◌, refl, sym, ap, ◌∙◌, subst}
use mathlib.Core.List.{List, [], ◌∷◌}
use mathlib.Core.Logic.{inl}
use lib.ListN.{length}
use Rattle.pieces.specs.Picture.{px, pixel}
use Rattle.pieces.specs.declared.Row.{Row}
use Rattle.pieces.proofs.Chains.{last_of}
use Rattle.fill.specs.Order.{width_of}
use Rattle.fill.specs.Stack.{widest, held}
use Rattle.fill.specs.Fill.{Fillable, Steps}
use Rattle.fill.specs.Fold.{folded, one_more, width_more, Counted}
use Rattle.fill.specs.declared.step.Stepped.{Stepped}
use Rattle.fill.specs.declared.step.Stepped.TheVariants.{Met, Passed}
use Rattle.fill.specs.declared.paint.Counts.{Counts}
use Rattle.fill.proofs.Underway.{Task}
use Rattle.fill.proofs.Filling.{Filling, task_of, filling_begun, filling_underway, filling_few, filling_kept, filling_passed, filling_step, end_rows, end_pushed}
use Rattle.fill.proofs.Folding.{folded_none, folded_more, steps_as}

-- the loop's invariant: the counts are those of the rows met, and small. Each row was met by a turn of its own
pub record Counting (T : Task) (room from : ℕ) (p s : List ℕ) (sp rows pixels pushes : ℕ) : Type 0 where
  pub met : List Row
  pub filling : Filling T room from p s sp met pushes
  pub rows_are : rows ≡ folded one_more 0 met
  pub pixels_are : pixels ≡ folded width_more 0 met
  pub rows_few : rows + sp ≤ pushes
  pub pixels_few : pixels ≤ widest * (pushes - sp)

pub counting_begun : {p : List ℕ} {w h x y t room : ℕ} → Fillable p w h x y t room → {from : ℕ} → from ≡ px p w x y → {s : List ℕ} → length s ≡ room → held s 1 ≡ pixel x y ∷ [] → Counting (task_of p w h x y t) (length s) from p s 1 0 0 1
counting_begun A e len seed =
    record {
      met = [];
      filling = filling_begun A e len seed;
      rows_are = sym (folded_none one_more 0);
      pixels_are = sym (folded_none width_more 0);
      rows_few = omega arith;
      pixels_few = omega arith;
    }

module _ {T : Task} {room from : ℕ} {p s : List ℕ} {sp rows pixels pushes : ℕ} (C : Counting T room from p s sp rows pixels pushes) where
  -- no count is near the largest number
  pub pushes_low : pushes ≤ widest * widest
  pushes_low = omega (arith, filling_few C.filling, mul-le-mul C.filling.wide C.filling.tall)

  module _ (some : 0 < sp) {p' s' : List ℕ} {a : Stepped} (D : Steps T.w T.h from T.t p s sp p' s' a) where
    module _ {r : Row} {sp' : ℕ} (e : a ≡ Met r sp') where
      -- the stack lost no more than an entry
      pub met_kept : sp - 1 ≤ sp'
      met_kept = filling_kept C.filling some (steps_as e D)

      module _ (len-p : length p' ≡ length p) (len-s : length s' ≡ length s) where
        filling' : Filling T room from p' s' sp' (r ∷ C.met) (pushes + (sp' - (sp - 1)))
        filling' = filling_step C.filling some (steps_as e D) len-p len-s

        -- the row is within its line
        pub met_in : (r.left ≤ r.right) × (r.right < T.w)
        met_in =
            let Q = (filling_underway filling').rows_of r (inl refl) in
            (Q.order, (last_of (Q.all r.right Q.order (omega arith))).0)

        pub counting_met : Counting T room from p' s' sp' (rows + 1) (pixels + width_of r) (pushes + (sp' - (sp - 1)))
        counting_met =
            let m = met_in in
            let g = C.pixels_few in
            let k = C.rows_few in
            let up = met_kept in
            record {
              met = r ∷ C.met;
              filling = filling';
              rows_are = ap (λ (n : ℕ). n + 1) C.rows_are ∙ sym (folded_more one_more 0 r C.met);
              pixels_are = ap (λ (n : ℕ). n + width_of r) C.pixels_are ∙ sym (folded_more width_more 0 r C.met);
              rows_few = omega arith;
              pixels_few = omega (arith, m.0, m.1, C.filling.wide);
            }

    module _ {sp' : ℕ} (e : a ≡ Passed sp') where
      pub counting_passed : length p' ≡ length p → length s' ≡ length s → Counting T room from p' s' sp' rows pixels pushes
      counting_passed len-p len-s =
          let q = filling_passed C.filling some (steps_as e D) refl in
          let same-pushes : pushes + (sp' - (sp - 1)) ≡ pushes = omega arith in
          let g = C.pixels_few in
          let k = C.rows_few in
          record {
            met = C.met;
            filling = subst (Filling T room from p' s' sp' C.met) same-pushes (filling_step C.filling some (steps_as e D) len-p len-s);
            rows_are = C.rows_are;
            pixels_are = C.pixels_are;
            rows_few = omega arith;
            pixels_few = omega arith;
          }

  -- the stack is empty
  pub counting_end : sp ≡ 0 → (c : Counts) → c.rows ≡ rows → c.pixels ≡ pixels → c.pushes ≡ pushes → Counted T.P T.w T.h T.x T.y T.t c
  counting_end none c er ep eq =
      let e = end_rows C.filling none in
      record {
        rows = er ∙ C.rows_are ∙ ap (folded one_more 0) e;
        pixels = ep ∙ C.pixels_are ∙ ap (folded width_more 0) e;
        pushes = eq ∙ end_pushed C.filling none;
      }
