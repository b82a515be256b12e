-- A fill that lists the rows that it meets, one behind the other, in a lent slice. Assumes nothing.
use Prim.Native.Nat.{ℕ, suc, ◌+◌, ◌-◌, ◌*◌, ◌≤◌, ◌<◌}
use native.Mathlib.Omega.{arith}
use mathlib.Core.Path.{◌≡◌, refl, ap, ◌∙◌}
use mathlib.Core.List.{List, [], ◌∷◌, ◌++◌}
use lib.ListN.{length, drop, set, length-append, length-drop}
use Rattle.pieces.specs.declared.Row.{Row}
use Rattle.pieces.specs.Picture.{px, pixel}
use Rattle.fill.specs.Stack.{held}
use Rattle.fill.specs.Fill.{Fillable, Steppable, Steps}
use Rattle.fill.specs.Fold.{folded}
use Rattle.fill.specs.declared.step.Stepped.{Stepped}
use Rattle.fill.specs.declared.step.Stepped.TheVariants.{Met, Passed}
use Rattle.fill.proofs.Underway.{Task}
use Rattle.fill.proofs.Filling.{Filling, task_of, filling_begun, filling_asks, filling_step, filling_less, filling_few, filling_kept, filling_passed, end_rows, end_paints}
use Rattle.fill.proofs.Measure.{to_do}
use Rattle.fill.proofs.Folding.{steps_as}
use Rattle.told_claims.specs.Rows.{listed, row_numbers, Listed}
use Rattle.told.proofs.Tell.{stored_three}

-- the loop's invariant: the numbers of the rows met stand in the first places, and each row was met by a turn of its own
pub record Listing (T : Task) (room from : ℕ) (p s : List ℕ) (sp : ℕ) (before after : List ℕ) (at : ℕ) : Type 0 where
  pub met : List Row
  pub pushed : ℕ
  pub filling : Filling T room from p s sp met pushed
  pub put : after ≡ folded listed [] met ++ drop (length (folded listed [] met)) before
  pub places : at ≡ length (folded listed [] met)
  pub few : at + 3 * sp ≤ 3 * pushed
  pub enough : 3 * (T.w * T.h) ≤ length before

pub listing_begun : {p : List ℕ} {w h x y t room : ℕ} → Fillable p w h x y t room → {from : ℕ} → from ≡ px p w x y → {s : List ℕ} → length s ≡ room → held s 1 ≡ pixel x y ∷ [] → (before : List ℕ) → 3 * (w * h) ≤ length before → Listing (task_of p w h x y t) (length s) from p s 1 before before 0
unfolding folded
listing_begun A e len seed before enough =
    record { met = []; pushed = 1; filling = filling_begun A e len seed; put = refl; places = refl; few = omega arith; enough = enough }

module _ {T : Task} {room from : ℕ} {p s : List ℕ} {sp : ℕ} {before after : List ℕ} {at : ℕ} (L : Listing T room from p s sp before after at) where
  pub listing_asks : 0 < sp → Steppable p T.w T.h from T.t s sp
  listing_asks some = filling_asks L.filling some

  within : at + 3 * sp ≤ length before
  within = let few = L.few in let enough = L.enough in omega (arith, filling_few L.filling)

  -- the slice keeps its length
  pub listing_length : length after ≡ length before
  listing_length =
      let held = ap length L.put ∙ length-append (folded listed [] L.met) (drop (length (folded listed [] L.met)) before) in
      let rest = length-drop (length (folded listed [] L.met)) before in
      let places = L.places in
      omega (arith, within)

  -- there are places for a row
  pub listing_room : 0 < sp → at + 3 ≤ length after
  listing_room some = omega (arith, within, listing_length)

  module _ (some : 0 < sp) {p' s' : List ℕ} {a : Stepped} (D : Steps T.w T.h from T.t p s sp p' s' a) where
    module _ {r : Row} {sp' : ℕ} (e : a ≡ Met r sp') where
      pub listing_met : length p' ≡ length p → length s' ≡ length s → Listing T room from p' s' sp' before (set (set (set after at r.left) (at + 1) r.right) (at + 2) r.y) (at + 3)
      unfolding folded
      listing_met len-p len-s =
          let seen = folded listed [] L.met in
          let places = L.places in
          let three = stored_three seen r.left r.right r.y before (omega (arith, within)) in
          let one : at + 1 ≡ suc (length seen) = omega arith in
          let two : at + 2 ≡ suc (suc (length seen)) = omega arith in
          let more = length-append seen (r.left ∷ r.right ∷ r.y ∷ []) in
          let wider : suc (suc (suc (length seen))) ≡ length (listed seen r) = omega arith in
          let few = L.few in
          record {
            met = r ∷ L.met;
            pushed = L.pushed + (sp' - (sp - 1));
            filling = filling_step L.filling some (steps_as e D) len-p len-s;
            put = rw (one, two, L.places, L.put) (three ∙ rw wider refl);
            places = omega arith;
            few = omega (arith, filling_kept L.filling some (steps_as e D));
            enough = L.enough;
          }

      pub listing_met_less : to_do from p' sp' < to_do from p sp
      listing_met_less = filling_less L.filling some (steps_as e D)

    module _ {sp' : ℕ} (e : a ≡ Passed sp') where
      pub listing_passed : length p' ≡ length p → length s' ≡ length s → Listing T room from p' s' sp' before after at
      listing_passed len-p len-s =
          let few = L.few in
          record {
            met = L.met;
            pushed = L.pushed + (sp' - (sp - 1));
            filling = filling_step L.filling some (steps_as e D) len-p len-s;
            put = L.put;
            places = L.places;
            few = omega (arith, filling_passed L.filling some (steps_as e D) refl);
            enough = L.enough;
          }

      pub listing_passed_less : to_do from p' sp' < to_do from p sp
      listing_passed_less = filling_less L.filling some (steps_as e D)

  -- the stack is empty: the piece is painted, and its rows are listed
  pub listing_end : sp ≡ 0 → Listed T.P T.w T.h T.x T.y T.t p before at after
  unfolding row_numbers
  listing_end none =
      let all = ap (folded listed []) (end_rows L.filling none) in
      record { paints = end_paints L.filling none; numbers = L.places ∙ ap length all; after_is = rw all at L.put }

-- three numbers a row
pub listed_length : (R : List Row) → length (folded listed [] R) ≡ 3 * length R
unfolding folded
listed_length [] = refl
listed_length (r ∷ R) = let h = listed_length R in let more = length-append (folded listed [] R) (r.left ∷ r.right ∷ r.y ∷ []) in omega arith
