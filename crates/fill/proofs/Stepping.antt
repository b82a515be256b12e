-- What a step knows, place by place, and that it does a turn. Assumes nothing.
use Prim.Native.Nat.{ℕ, ◌+◌, ◌*◌, ◌-◌, ◌/◌, ◌%◌, ◌<◌, ◌≤◌}
use native.Mathlib.Omega.{arith}
use mathlib.Core.Path.{◌≡◌, refl, sym, ap, ◌∙◌, subst}
use mathlib.Core.List.{List, [], ◌∷◌}
use mathlib.Core.Logic.{inl}
use lib.ListN.{get_or, length}
use Rattle.pieces.specs.Picture.{px, Pixel, pixel}
use Rattle.pieces.specs.Count.{Mem}
use Rattle.pieces.specs.Piece.{Same}
use Rattle.pieces.specs.Row.{RowOf}
use Rattle.pieces.specs.declared.Row.{Row}
use Rattle.fill.specs.Order.{width_of, row_at, paint_run, paint_row, above, below, seeded, Turned, turned, meet, turn}
use Rattle.fill.specs.Stack.{widest, held}
use Rattle.fill.specs.Fill.{Sized, Meetable, Meets, Steppable, Steps}
use Rattle.fill.specs.declared.step.Stepped.TheVariants.{Met, Passed}
use Rattle.fill.proofs.Inside.{pixel_inside, line_inside}
use Rattle.fill.proofs.Painted.{length_paint}
use Rattle.fill.proofs.RowAt.{row_at_lem}
use Rattle.fill.proofs.Lines.{below_grows}
use Rattle.fill.proofs.Turns.{turn_passed, turn_met}
use Rattle.fill.proofs.Entries.{held_top}

-- a row is met
module _ {p : List ℕ} {w h : ℕ} {r : Row} {f t : ℕ} {s : List ℕ} {sp : ℕ} (A : Meetable p w h r f t s sp) where
  pub row_fits : r.y * w + r.left + width_of r ≤ length p
  row_fits = omega (arith, A.order, A.wide, line_inside A.sized r.y A.deep)

  pub row_wide : r.left + width_of r ≤ w
  row_wide = omega (arith, A.order, A.wide)

  -- once it is painted, in the picture p₁
  module _ {p₁ : List ℕ} (painted : p₁ ≡ paint_run p (r.y * w + r.left) (width_of r) t) where
    pub painted_sized : Sized p₁ w h
    painted_sized = record { size = ap length painted ∙ length_paint p (r.y * w + r.left) (width_of r) t ∙ A.sized.size; wide = A.sized.wide; tall = A.sized.tall }

    abbrev upper : List Pixel
    upper = above w f pixel p₁ r.left (width_of r) r.y (held s sp)

    abbrev both : List Pixel
    both = below w h f pixel p₁ r.left (width_of r) r.y upper

    meet_is : meet w h f t p r (held s sp) ≡ turned p₁ both (r ∷ [])
    unfolding meet paint_row seeded
    meet_is = λ i. turned (sym painted i) (below w h f pixel (sym painted i) r.left (width_of r) r.y (above w f pixel (sym painted i) r.left (width_of r) r.y (held s sp))) (r ∷ [])

    room_both : length both ≤ length s
    room_both = omega (arith, ap (λ (d : Turned). length d.stack) meet_is, A.room)

    pub room_above : length upper ≤ length s
    room_above = omega (arith, room_both, below_grows w h f p₁ r.left (width_of r) pixel pixel r.y upper)

    -- the stack st after the line above, and the array's length n then
    pub room_below : (st : List Pixel) (n : ℕ) → st ≡ upper → n ≡ length s → length (below w h f pixel p₁ r.left (width_of r) r.y st) ≤ n
    room_below st n e z = omega (arith, ap (λ (q : List Pixel). length (below w h f pixel p₁ r.left (width_of r) r.y q)) e, room_both)

    -- and the stack held s₂ sp₂ after the line below
    pub row_met : (st : List Pixel) (s₂ : List ℕ) (sp₂ : ℕ) → st ≡ upper → held s₂ sp₂ ≡ below w h f pixel p₁ r.left (width_of r) r.y st → Meets w h f t p s sp r p₁ s₂ sp₂
    row_met st s₂ sp₂ e q = record { is = meet_is ∙ (λ i. turned p₁ (sym (q ∙ ap (below w h f pixel p₁ r.left (width_of r) r.y) e) i) (r ∷ [])) }

-- a step is taken
module _ {p : List ℕ} {w h f t : ℕ} {s : List ℕ} {sp : ℕ} (A : Steppable p w h f t s sp) where
  -- the entry's column and line
  abbrev col : ℕ
  col = get_or s (sp - 1) 0 % widest

  abbrev line : ℕ
  line = get_or s (sp - 1) 0 / widest

  top_is : held s sp ≡ pixel col line ∷ held s (sp - 1)
  top_is = held_top s sp (sp - 1) (omega (arith, A.some))

  pub entry_in : (col < w) × (line < h)
  entry_in = A.entries (pixel col line) (subst (Mem (pixel col line)) (sym top_is) (inl refl))

  pub entry_fits : line * w + col < length p
  entry_fits = pixel_inside A.sized col line entry_in.0 entry_in.1

  pub entry_line : line * w + w ≤ length p
  entry_line = line_inside A.sized line entry_in.1

  -- its pixel is painted by now
  pub step_passed : (px p w col line ≡ f → ⊥) → Steps w h f t p s sp p s (Passed (sp - 1))
  step_passed n = record { is = ap (turn w h f t p) top_is ∙ turn_passed w h f t p (pixel col line) (held s (sp - 1)) n }

  -- it is not: its row r is found
  module _ (hit : px p w col line ≡ f) {r : Row} (found : r ≡ row_at w f p col line) where
    turn_is : turn w h f t p (held s sp) ≡ meet w h f t p r (held s (sp - 1))
    turn_is = ap (turn w h f t p) top_is ∙ turn_met w h f t p (pixel col line) (held s (sp - 1)) hit ∙ ap (λ (q : Row). meet w h f t p q (held s (sp - 1))) (sym found)

    pub found_meetable : Meetable p w h r f t s (sp - 1)
    found_meetable =
        let i = entry_in in
        let Q : RowOf (Same p w h f) r = subst (RowOf (Same p w h f)) (sym found) (row_at_lem p w f line h col i.0 i.1 hit) in
        let e = Q.all r.right Q.order (omega arith) in
        record {
          sized = A.sized;
          order = Q.order;
          wide = e.0;
          deep = e.1;
          room = omega (arith, ap (λ (d : Turned). length d.stack) turn_is, A.room);
        }

    -- and met
    pub step_met : {p' s' : List ℕ} {sp' : ℕ} → Meets w h f t p s (sp - 1) r p' s' sp' → Steps w h f t p s sp p' s' (Met r sp')
    step_met M = record { is = turn_is ∙ M.is }
