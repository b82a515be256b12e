-- A cut's three columns are on the line, in order, and dark. Assumes nothing.
use Prim.Native.Nat.{ℕ, zero, suc, ◌+◌, ◌-◌, ◌≤◌, ◌<◌}
use native.Mathlib.Omega.{arith}
use mathlib.Core.Path.{◌≡◌, refl, sym, ◌∙◌}
use mathlib.Core.Bool.{Bool, true, false, not, cond, ◌&&◌}
use mathlib.Core.List.{List, [], ◌∷◌}
use mathlib.Core.Logic.{◌⊎◌, inl, inr, ⊎_elim}
use Rattle.pieces.specs.Count.{Mem}
use Rattle.pieces.proofs.Numbers.{split}
use Rattle.runs.specs.Mark.{mark_like}
use Rattle.scanner.specs.Edges.{dark, run_end, edges_after}
use Rattle.scanner.specs.Cuts.{is_cut, lengths, position, cut_at, cuts, line_cuts}
use Rattle.scanner.specs.declared.LinePosition.{LinePosition}
use Rattle.scanner.proofs.Ahead.{run_bounds, run_stops, next_edge, none_after}

module _ (p : List ℕ) (base w : ℕ) where
  -- the three columns of a cut
  pub record OnDark (c : LinePosition) : Type 0 where
    pub left_first : c.left < c.stone
    pub stone_next : c.stone < c.right
    pub right_on : c.right < w
    pub left_dark : dark p base c.left ≡ true
    pub stone_dark : dark p base c.stone ≡ true
    pub right_dark : dark p base c.right ≡ true

  -- from one edge to the next: further on, on the line, and of the other shade unless it is the end
  record Turn (a b : ℕ) : Type 0 where
    up : a < b
    on : b ≤ w
    shade : b < w → dark p base b ≡ not (dark p base a)

  -- edges in a row
  InRow : List ℕ → Type 0
  InRow [] = Unit
  InRow (a ∷ []) = Unit
  InRow (a ∷ b ∷ more) = Turn a b × InRow (b ∷ more)

  turn : (e : ℕ) → e < w → Turn e (run_end (dark p base e) p base (w - (e + 1)) (e + 1))
  turn e on =
      let b = run_bounds p base (dark p base e) (w - (e + 1)) (e + 1) in
      record {
        up = omega (arith, b.0);
        on = omega (arith, b.1);
        shade = λ h. run_stops p base (dark p base e) (w - (e + 1)) (e + 1) (omega arith);
      }

  -- the edges of a line are, from any of them on
  in_row : (n e : ℕ) → w ≤ e + n → InRow (e ∷ edges_after p base w e)
  unfolding InRow
  in_row zero e h = rw (none_after p base w e (omega arith)) tt
  in_row (suc n) e h =
      ⊎_elim
      (λ off. rw (none_after p base w e off) tt)
      (λ on. rw (next_edge p base w e on) (let t = turn e on in (t, in_row n (run_end (dark p base e) p base (w - (e + 1)) (e + 1)) (omega (arith, t.up)))))
      (split w e)

  both_true : (a b : Bool) → (a && b) ≡ true → a ≡ true
  both_true true b e = refl
  both_true false b e = e

  -- the shade comes back with every second edge
  back : {a b : ℕ} → Turn a b → b < w → dark p base b ≡ false → dark p base a ≡ true
  back t on e = twice (dark p base _) (sym (t.shade on) ∙ e)
    where
      twice : (s : Bool) → not s ≡ false → s ≡ true
      twice true e = refl
      twice false e = sym e

  forth : {a b : ℕ} → Turn a b → b < w → dark p base b ≡ true → dark p base a ≡ false
  forth t on e = twice (dark p base _) (sym (t.shade on) ∙ e)
    where
      twice : (s : Bool) → not s ≡ true → s ≡ false
      twice true e = sym e
      twice false e = refl

  window : (a b c d e f : ℕ) → Turn a b → Turn b c → Turn c d → Turn d e → Turn e f → dark p base e ≡ true → OnDark (position a c e)
  window a b c d e f ab bc cd de ef last =
      let e-on : e < w = omega (arith, ef.up, ef.on) in
      let d-on : d < w = omega (arith, de.up) in
      let c-on : c < w = omega (arith, cd.up) in
      let b-on : b < w = omega (arith, bc.up) in
      let mid = back cd d-on (forth de e-on last) in
      record {
        left_first = omega (arith, ab.up, bc.up);
        stone_next = omega (arith, cd.up, de.up);
        right_on = e-on;
        left_dark = back ab b-on (forth bc c-on mid);
        stone_dark = mid;
        right_dark = last;
      }

  cut_dark : (a : ℕ) (l : List ℕ) (later : List LinePosition) → InRow (a ∷ l) → (at : LinePosition) → Mem at (cut_at p base a l later) → OnDark at ⊎ Mem at later
  unfolding InRow cut_at
  cut_dark a [] later r at m = inr m
  cut_dark a (b ∷ []) later r at m = inr m
  cut_dark a (b ∷ c ∷ []) later r at m = inr m
  cut_dark a (b ∷ c ∷ d ∷ []) later r at m = inr m
  cut_dark a (b ∷ c ∷ d ∷ e ∷ []) later r at m = inr m
  cut_dark a (b ∷ c ∷ d ∷ e ∷ f ∷ more) later r at m = go (is_cut p base a b c d e f) refl m
    where
      go : (t : Bool) → is_cut p base a b c d e f ≡ t → Mem at (cond t (position a c e ∷ later) later) → OnDark at ⊎ Mem at later
      go true t m =
          ⊎_elim
          (λ is. inl (rw is (window a b c d e f r.0 r.1.0 r.1.1.0 r.1.1.1.0 r.1.1.1.1.0 (both_true (dark p base e) (mark_like (lengths a b c d e f)) t))))
          (λ n. inr n)
          m
      go false t m = inr m

  rest_in_row : (a : ℕ) (l : List ℕ) → InRow (a ∷ l) → InRow l
  unfolding InRow
  rest_in_row a [] r = tt
  rest_in_row a (b ∷ more) r = r.1

  cuts_dark : (l : List ℕ) → InRow l → (at : LinePosition) → Mem at (cuts p base l) → OnDark at
  unfolding cuts
  cuts_dark [] r at m = absurd m
  cuts_dark (a ∷ more) r at m = ⊎_elim (λ h. h) (λ n. cuts_dark more (rest_in_row a more r) at n) (cut_dark a more (cuts p base more) r at m)

  pub line_dark : (at : LinePosition) → Mem at (line_cuts p base w) → OnDark at
  line_dark at m = cuts_dark (0 ∷ edges_after p base w 0) (in_row w 0 (omega arith)) at m
