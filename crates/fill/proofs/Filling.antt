-- What every fill's loop knows at its head, and what each turn makes of it. Assumes nothing.
use Prim.Native.Nat.{ℕ, zero, suc, ◌+◌, ◌*◌, ◌-◌, ◌<◌, ◌≤◌}
use native.Mathlib.Omega.{arith}
use native.Mathlib.Nat.{add-zero, add-suc}
use mathlib.Core.Path.{◌≡◌, refl, sym, ap, ◌∙◌, subst}
use mathlib.Core.List.{List, [], ◌∷◌, ◌++◌}
use mathlib.Core.Logic.{⊎_elim}
use lib.ListN.{get_or, length}
use Rattle.pieces.specs.Picture.{px, Pixel, pixel}
use Rattle.pieces.specs.Pairs.{Pushes}
use Rattle.pieces.specs.Paint.{Paints}
use Rattle.pieces.specs.declared.Row.{Row}
use Rattle.pieces.proofs.Chains.{last_of}
use Rattle.fill.specs.Order.{Turned, turn, State, state, after, turns, begun, filled, rows_met, entries_pushed}
use Rattle.fill.specs.Stack.{widest, entry_of, held}
use Rattle.fill.specs.Fill.{Fillable, Steppable, Steps, size_of, met_by}
use Rattle.fill.specs.declared.step.Stepped.{Stepped}
use Rattle.fill.proofs.Underway.{Task, Valid, f, PieceOf, Underway}
use Rattle.fill.proofs.Turns.{turn_none, turns_of, underway}
use Rattle.fill.proofs.Tally.{Tally, tally, turn_grows, turn_empty, pushed_few, emptied}
use Rattle.fill.proofs.Whole.{whole_paints, whole_pairs}
use Rattle.fill.proofs.Entries.{held_none, held_top, held_length}
use Rattle.fill.proofs.Measure.{to_do, turn_less}

abbrev pub task_of : List ℕ → ℕ → ℕ → ℕ → ℕ → ℕ → Task
task_of p w h x y t = record { P = p; w = w; h = h; x = x; y = y; t = t }

pub can_fill : {p : List ℕ} {w h x y t room : ℕ} → Fillable p w h x y t room → Valid (task_of p w h x y t)
can_fill A = record { size = A.sized.size; in_x = A.in_x; in_y = A.in_y; other = A.other }

-- turns past the end change nothing
module _ (w h from to : ℕ) where
  after_end : (s : State) → s.stack ≡ [] → after s (turn w h from to s.pic s.stack) ≡ s
  after_end s e =
      let stay = ap (turn w h from to s.pic) e ∙ turn_none w h from to s.pic in
      let none : s.pushed + (0 - (0 - 1)) ≡ s.pushed = omega arith in
      ap (after s) stay ∙ (λ i. state s.pic (sym e i) s.rows ((ap (λ (st : List Pixel). s.pushed + (0 - (length st - 1))) e ∙ none) i))

  turns_end : (n d : ℕ) (s : State) → (turns w h from to n s).stack ≡ [] → turns w h from to (n + d) s ≡ turns w h from to n s
  unfolding turns
  turns_end n zero s e = ap (λ (k : ℕ). turns w h from to k s) (add-zero n)
  turns_end n (suc d) s e =
      let ih = turns_end n d s e in
      let next : State → State = λ v. after v (turn w h from to v.pic v.stack) in
      ap (λ (k : ℕ). turns w h from to k s) (add-suc n d) ∙ ap next ih ∙ after_end (turns w h from to n s) e

  -- and no turn takes a push back
  turns_grow : (n d : ℕ) (s : State) → (turns w h from to n s).pushed ≤ (turns w h from to (n + d) s).pushed
  unfolding turns
  turns_grow n zero s = omega (arith, ap (λ (k : ℕ). (turns w h from to k s).pushed) (add-zero n))
  turns_grow n (suc d) s = omega (arith, ap (λ (k : ℕ). (turns w h from to k s).pushed) (add-suc n d), turns_grow n d s)

module _ (T : Task) (ok : Valid T) where
  pub filled_is : filled T.P T.w T.h T.x T.y T.t ≡ turns_of T (T.w * T.h)
  unfolding filled
  filled_is = refl

  -- where it ends
  pub underway_end : let s = turns_of T (T.w * T.h) in Underway T s.pic [] s.rows
  underway_end =
      let s = turns_of T (T.w * T.h) in
      subst (λ (st : List Pixel). Underway T s.pic st s.rows) (emptied T ok) (underway T ok (T.w * T.h))

  -- the entries pushed are 1 more than the pairs of overlapping rows
  pub pushes_end : Pushes (PieceOf T) (turns_of T (T.w * T.h)).pushed
  pushes_end = let Y = tally T ok (T.w * T.h) in record { pairs = length Y.joints; number = whole_pairs underway_end Y.listed; is = omega (arith, Y.count) }

-- the loop's invariant. The task, the stack's length and the seed's byte; then, as they are at the loop's head, the picture, the array, the stack's size,
-- the rows met with the latest first, and the number of entries pushed
pub record Filling (T : Task) (room from : ℕ) (p s : List ℕ) (sp : ℕ) (R : List Row) (k : ℕ) : Type 0 where
  pub ok : Valid T
  pub wide : T.w ≤ widest
  pub tall : T.h ≤ widest
  pub enough : (turns_of T (T.w * T.h)).pushed ≤ room
  pub seen : from ≡ f T
  pub taken : ℕ
  pub is : turns_of T taken ≡ state p (held s sp) R k
  pub count : k ≡ taken + sp
  pub pic_len : length p ≡ length T.P
  pub stack_len : length s ≡ room

-- a fill has at least the seed to push
pub room_some : {p : List ℕ} {w h x y t room : ℕ} → Fillable p w h x y t room → 0 < room
room_some {p} {w} {h} {x} {y} {t} {room} A =
    let P = pushes_end (task_of p w h x y t) (can_fill A) in
    omega (arith, P.is, A.enough (turns_of (task_of p w h x y t) (w * h)).pushed P)

-- where the loop begins
pub filling_begun : {p : List ℕ} {w h x y t room : ℕ} → Fillable p w h x y t room → {from : ℕ} → from ≡ px p w x y → {s : List ℕ} → length s ≡ room → held s 1 ≡ pixel x y ∷ [] → Filling (task_of p w h x y t) (length s) from p s 1 [] 1
unfolding turns
filling_begun {p} {w} {h} {x} {y} {t} {room} A e len seed =
    let T = task_of p w h x y t in
    record {
      ok = can_fill A;
      wide = A.sized.wide;
      tall = A.sized.tall;
      enough = omega (arith, A.enough (turns_of T (w * h)).pushed (pushes_end T (can_fill A)));
      seen = e;
      taken = 0;
      is = λ i. state p (sym seed i) [] 1;
      count = refl;
      pic_len = refl;
      stack_len = refl;
    }

module _ {T : Task} {room from : ℕ} {p s : List ℕ} {sp : ℕ} {R : List Row} {k : ℕ} (F : Filling T room from p s sp R k) where
  pub filling_underway : Underway T p (held s sp) (R)
  filling_underway = subst (λ (v : State). Underway T v.pic v.stack v.rows) F.is (underway T F.ok F.taken)

  pub filling_few : k ≤ T.w * T.h
  filling_few = omega (arith, ap (λ (v : State). v.pushed) F.is, pushed_few T F.ok F.taken)

  abbrev next : Turned
  next = turn T.w T.h from T.t p (held s sp)

  next_is : turns_of T (suc F.taken) ≡ after (state p (held s sp) (R) (k)) next
  unfolding turns
  next_is =
      let go : ℕ → State → State = λ b v. after v (turn T.w T.h b T.t v.pic v.stack) in
      ap (go (f T)) F.is ∙ ap (λ (b : ℕ). go b (state p (held s sp) (R) (k))) (sym F.seen)

  next_tally : Tally T (after (state p (held s sp) (R) (k)) next) (suc F.taken)
  next_tally = subst (λ (v : State). Tally T v (suc F.taken)) next_is (tally T F.ok (suc F.taken))

  module _ (some : 0 < sp) where
    -- the pushes of a turn are among those of the whole fill
    within : (after (state p (held s sp) (R) (k)) next).pushed ≤ room
    within =
        let W = T.w * T.h in
        let d = W - suc F.taken in
        let e : suc F.taken + d ≡ W = omega (arith, F.count, filling_few) in
        omega (
          arith,
          F.enough,
          ap (λ (v : State). v.pushed) next_is,
          turns_grow T.w T.h (f T) T.t (suc F.taken) d (begun T.P T.x T.y),
          ap (λ (k : ℕ). (turns_of T k).pushed) e,
        )

    -- the step may be called
    pub filling_asks : Steppable p T.w T.h from T.t s sp
    filling_asks =
        let G = filling_underway in
        record {
          sized = record { size = G.len ∙ F.ok.size; wide = F.wide; tall = F.tall };
          some = some;
          fits = omega (arith, F.count, within, F.stack_len);
          entries = λ e m. let q = last_of (G.stack_of e m) in (q.0, q.1);
          room = ⊎_elim (λ z. omega (arith, ap length z)) (λ z. omega (arith, within, F.stack_len)) next_tally.taken;
        }

    -- the step left the picture p' and the array s', and answered a
    module _ {p' s' : List ℕ} {a : Stepped} (D : Steps T.w T.h from T.t p s sp p' s' a) where
      top : held s sp ≡ entry_of (get_or s (sp - 1) 0) ∷ held s (sp - 1)
      top = held_top s sp (sp - 1) (omega arith)

      -- one entry was taken, and no other was lost
      pub filling_kept : sp - 1 ≤ size_of a
      filling_kept =
          let g = turn_grows T.w T.h from T.t p (entry_of (get_or s (sp - 1) 0)) (held s (sp - 1)) in
          omega (arith, ap (λ (st : List Pixel). length (turn T.w T.h from T.t p st).stack) top, ap (λ (d : Turned). length d.stack) D.is, held_length s (sp - 1), held_length s' (size_of a))

      -- where no row was met, none was pushed
      pub filling_passed : met_by a ≡ [] → size_of a ≡ sp - 1
      filling_passed none =
          let go : List Pixel → Turned = turn T.w T.h from T.t p in
          let kept = turn_empty T.w T.h from T.t p (entry_of (get_or s (sp - 1) 0)) (held s (sp - 1)) (ap (λ (st : List Pixel). (go st).met) (sym top) ∙ ap (λ (d : Turned). d.met) D.is ∙ none) in
          omega (arith, ap length kept, ap (λ (st : List Pixel). length (go st).stack) top, ap (λ (d : Turned). length d.stack) D.is, held_length s (sp - 1), held_length s' (size_of a))

      -- the loop goes on
      pub filling_step : length p' ≡ length p → length s' ≡ length s → Filling T room from p' s' (size_of a) (met_by a ++ R) (k + (size_of a - (sp - 1)))
      filling_step len-p len-s =
          let sp' = size_of a in
          let k' = k + (sp' - (sp - 1)) in
          let old = state p (held s sp) (R) (k) in
          let e : k + (length (held s' sp') - (length (held s sp) - 1)) ≡ k' = omega (arith, held_length s sp, held_length s' sp') in
          let is' : turns_of T (suc F.taken) ≡ state p' (held s' sp') (met_by a ++ R) k' = next_is ∙ ap (after old) D.is ∙ (λ i. state p' (held s' sp') (met_by a ++ R) (e i)) in
          let Y = subst (λ (v : State). Tally T v (suc F.taken)) is' (tally T F.ok (suc F.taken)) in
          let g = held_length s' sp' in
          let c = F.count in
          let up = filling_kept in
          record {
            ok = F.ok;
            wide = F.wide;
            tall = F.tall;
            enough = F.enough;
            seen = F.seen;
            taken = suc F.taken;
            is = is';
            count = ⊎_elim (λ z. omega (arith, ap length z)) (λ z. omega arith) Y.taken;
            pic_len = len-p ∙ F.pic_len;
            stack_len = len-s ∙ F.stack_len;
          }

      -- there is less left to do
      pub filling_less : to_do from p' (size_of a) < to_do from p sp
      filling_less =
          let G = subst (λ (st : List Pixel). Underway T p st (R)) top filling_underway in
          let same_turn = ap (λ (b : ℕ). turn T.w T.h b T.t p (held s sp)) (sym F.seen) ∙ D.is in
          let left = ap (turn T.w T.h (f T) T.t p) (sym top) ∙ same_turn in
          let size : suc (length (held s (sp - 1))) ≡ sp = omega (arith, held_length s (sp - 1)) in
          rw F.seen (omega (arith, turn_less G, ap (λ (d : Turned). to_do (f T) d.pic (length d.stack)) left, ap (to_do (f T) p') (held_length s' (size_of a)), ap (to_do (f T) p) size))

  -- the stack is empty: the fill has ended
  module _ (none : sp ≡ 0) where
    end_is : filled T.P T.w T.h T.x T.y T.t ≡ state p [] (R) (k)
    end_is =
        let W = T.w * T.h in
        let d = W - F.taken in
        let e : W ≡ F.taken + d = omega (arith, filling_few, F.count) in
        let nil : held s sp ≡ [] = ap (held s) none ∙ held_none s in
        filled_is T F.ok
        ∙ ap (turns_of T) e
        ∙ turns_end T.w T.h (f T) T.t F.taken d (begun T.P T.x T.y) (ap (λ (v : State). v.stack) F.is ∙ nil)
        ∙ F.is
        ∙ (λ i. state p (nil i) (R) (k))

    pub end_paints : Paints T.P T.w T.h T.x T.y T.t p
    end_paints = whole_paints (subst (λ (st : List Pixel). Underway T p st (R)) (ap (held s) none ∙ held_none s) filling_underway)

    pub end_rows : R ≡ rows_met T.P T.w T.h T.x T.y T.t
    end_rows = sym (ap (λ (v : State). v.rows) end_is)

    pub end_pushed : k ≡ entries_pushed T.P T.w T.h T.x T.y T.t
    end_pushed = sym (ap (λ (v : State). v.pushed) end_is)
