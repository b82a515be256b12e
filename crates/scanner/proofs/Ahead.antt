-- How a scan goes on by an edge: what is ahead of it then, and that there is nothing ahead at the end of the line. Assumes nothing.
use Prim.Native.Nat.{ℕ, zero, suc, ◌+◌, ◌-◌, ◌≤◌, ◌<◌, zero-le}
use native.Mathlib.Omega.{arith}
use native.Mathlib.Numerals.{add-one}
use mathlib.Core.Path.{◌≡◌, refl, sym, ap}
use mathlib.Core.Bool.{Bool, true, false, not, cond, ◌&&◌, beq, true≢false}
use mathlib.Core.List.{List, [], ◌∷◌, ◌++◌}
use lib.Dec.{leb, lit<, lit≤}
use lib.ListN.{drop}
use borrow.Author.Tests.{lt-ltb, le-ltb, le-leb}
use Rattle.scanner.specs.Edges.{dark, run_end, edges_from, edges_after}
use Rattle.scanner.specs.Cuts.{is_cut, position, cut_at, cuts, line_cuts}
use Rattle.scanner.specs.Scan.{begun, passed, remembered, ahead, OnLine}
use Rattle.scanner.specs.declared.LineScanner.{LineScanner}

module _ (p : List ℕ) (base : ℕ) where
  -- a run ends after it began, and on the line
  pub run_bounds : (shade : Bool) (n x : ℕ) → (x ≤ run_end shade p base n x) × (run_end shade p base n x ≤ x + n)
  unfolding run_end
  run_bounds shade zero x = (omega arith, omega arith)
  run_bounds shade (suc n) x = go (beq (dark p base x) shade) (run_bounds shade n (suc x))
    where
      go : (t : Bool) → (suc x ≤ run_end shade p base n (suc x)) × (run_end shade p base n (suc x) ≤ suc x + n)
          → (x ≤ cond t (run_end shade p base n (suc x)) x) × (cond t (run_end shade p base n (suc x)) x ≤ x + suc n)
      go true h = (omega (arith, h.0), omega (arith, h.1))
      go false h = (omega arith, omega arith)

  other : (a b : Bool) → beq a b ≡ false → a ≡ not b
  other true true e = absurd (true≢false e)
  other true false e = refl
  other false true e = refl
  other false false e = absurd (true≢false e)

  -- unless it ends with the line, a pixel of the other shade ends it
  pub run_stops : (shade : Bool) (n x : ℕ) → run_end shade p base n x < x + n → dark p base (run_end shade p base n x) ≡ not shade
  unfolding run_end
  run_stops shade zero x h = absurd (omega arith)
  run_stops shade (suc n) x h = go (beq (dark p base x) shade) refl (run_stops shade n (suc x)) h
    where
      go : (t : Bool) → beq (dark p base x) shade ≡ t
          → (run_end shade p base n (suc x) < suc x + n → dark p base (run_end shade p base n (suc x)) ≡ not shade)
          → cond t (run_end shade p base n (suc x)) x < x + suc n → dark p base (cond t (run_end shade p base n (suc x)) x) ≡ not shade
      go true t ih h = ih (omega arith)
      go false t ih h = other (dark p base x) shade t

  -- the first edge is the end of the run, and the others are those after it
  edges_step : (shade : Bool) (n x w : ℕ) → x + n ≡ w → edges_from shade p base n x ≡ run_end shade p base n x ∷ edges_after p base w (run_end shade p base n x)
  unfolding run_end edges_from edges_after
  edges_step shade zero x w e = ap (λ (l : List ℕ). x ∷ l) (sym (none x w e))
    where
      none : (x w : ℕ) → x + 0 ≡ w → edges_after p base w x ≡ []
      none x w e = rw (le-ltb x w (omega arith))
  edges_step shade (suc n) x w e = go (beq (dark p base x) shade) refl (edges_step shade n (suc x) w (omega arith))
    where
      turned : beq (dark p base x) shade ≡ false → edges_from (not shade) p base n (suc x) ≡ edges_after p base w x
      turned t =
          let left : w - suc x ≡ n = omega arith in
          rw (lt-ltb x w (omega arith), other (dark p base x) shade t, left)

      go : (t : Bool) → beq (dark p base x) shade ≡ t
          → edges_from shade p base n (suc x) ≡ run_end shade p base n (suc x) ∷ edges_after p base w (run_end shade p base n (suc x))
          → cond t (edges_from shade p base n (suc x)) (x ∷ edges_from (not shade) p base n (suc x))
          ≡ cond t (run_end shade p base n (suc x)) x ∷ edges_after p base w (cond t (run_end shade p base n (suc x)) x)
      go true t ih = ih
      go false t ih = ap (λ (l : List ℕ). x ∷ l) (turned t)

  -- the same from an edge on
  pub next_edge : (w e : ℕ) → e < w → let f = run_end (dark p base e) p base (w - (e + 1)) (e + 1) in edges_after p base w e ≡ f ∷ edges_after p base w f
  unfolding edges_after
  next_edge w e on =
      rw (lt-ltb e w on, add-one e) (edges_step (dark p base e) (w - suc e) (suc e) w (omega arith))

  pub none_after : (w e : ℕ) → w ≤ e → edges_after p base w e ≡ []
  unfolding edges_after
  none_after w e off = rw (le-ltb e w off)

  -- with one edge more a scan has the same ahead, but for the cut that the edge makes
  pub by_edge : (w : ℕ) (s : LineScanner) (f : ℕ) → 0 < s.met → edges_after p base w s.e4 ≡ f ∷ edges_after p base w f
      → ahead p base w s
      ≡ cond (leb 5 s.met && is_cut p base s.e0 s.e1 s.e2 s.e3 s.e4 f) (position s.e0 s.e2 s.e4 ∷ ahead p base w (passed s f)) (ahead p base w (passed s f))
  unfolding ahead remembered cuts cut_at
  by_edge w s f some e = rw e (go s.met some)
    where
      more : List ℕ
      more = edges_after p base w f

      old : List ℕ
      old = s.e0 ∷ s.e1 ∷ s.e2 ∷ s.e3 ∷ s.e4 ∷ []

      new : List ℕ
      new = s.e1 ∷ s.e2 ∷ s.e3 ∷ s.e4 ∷ f ∷ []

      go : (m : ℕ) → 0 < m
          → cuts p base (drop (5 - m) old ++ (f ∷ more))
          ≡ cond (leb 5 m && is_cut p base s.e0 s.e1 s.e2 s.e3 s.e4 f)
          (position s.e0 s.e2 s.e4 ∷ cuts p base (drop (5 - (m + 1)) new ++ more)) (cuts p base (drop (5 - (m + 1)) new ++ more))
      go zero h = absurd (omega arith)
      go (suc zero) h = refl
      go (suc (suc zero)) h = refl
      go (suc (suc (suc zero))) h = refl
      go (suc (suc (suc (suc zero)))) h = refl
      go (suc (suc (suc (suc (suc k))))) h =
          let m = suc (suc (suc (suc (suc k)))) in
          let all : 5 - m ≡ 0 = omega arith in
          let still : 5 - (m + 1) ≡ 0 = omega arith in
          rw (all, still, le-leb 5 m (omega arith))

  -- at the end of the line there is nothing ahead
  pub at_end : (w : ℕ) (s : LineScanner) → w ≤ s.e4 → ahead p base w s ≡ []
  unfolding ahead remembered edges_after cuts cut_at
  at_end w s off = rw (le-ltb s.e4 w off) (go s.met)
    where
      go : (m : ℕ) → cuts p base (drop (5 - m) (s.e0 ∷ s.e1 ∷ s.e2 ∷ s.e3 ∷ s.e4 ∷ []) ++ []) ≡ []
      go zero = refl
      go (suc zero) = refl
      go (suc (suc zero)) = refl
      go (suc (suc (suc zero))) = refl
      go (suc (suc (suc (suc zero)))) = refl
      go (suc (suc (suc (suc (suc k))))) = let all : 5 - suc (suc (suc (suc (suc k)))) ≡ 0 = omega arith in rw all

-- and it stays on the line
pub stays_on : (w : ℕ) (s : LineScanner) (f : ℕ) → OnLine w s → s.e4 < f → f ≤ w → OnLine w (passed s f)
stays_on w s f on up low =
    let few = on.few in
    let a = on.in1 in
    record { some = omega arith; few = omega arith; in0 = on.in1; in1 = on.in2; in2 = on.in3; in3 = omega arith; in4 = low }

-- a scan that is to begin has all cuts of the line ahead
pub begins : (p : List ℕ) (base w : ℕ) → ahead p base w begun ≡ line_cuts p base w
unfolding ahead remembered begun
begins p base w = refl

pub begun_on : (w : ℕ) → OnLine w begun
unfolding begun
begun_on w = record { some = lit< tt; few = lit≤ tt; in0 = zero-le; in1 = zero-le; in2 = zero-le; in3 = zero-le; in4 = zero-le }
