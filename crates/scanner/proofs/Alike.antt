-- A scan sees white and not white alone: whatever paint stands on a line, the same is ahead. Assumes nothing.
use Prim.Native.Nat.{ℕ, zero, suc, ◌-◌}
use mathlib.Core.Path.{◌≡◌, refl}
use mathlib.Core.Bool.{Bool, not}
use mathlib.Core.List.{List, [], ◌∷◌, ◌++◌}
use Rattle.scanner.specs.Edges.{dark, edges_from, edges_after}
use Rattle.scanner.specs.Cuts.{cut_at, cuts, line_cuts}
use Rattle.scanner.specs.Scan.{ahead, remembered}
use Rattle.scanner.specs.declared.LinePosition.{LinePosition}
use Rattle.scanner.specs.declared.LineScanner.{LineScanner}

module _ (p q : List ℕ) (base : ℕ) (alike : (x : ℕ) → dark p base x ≡ dark q base x) where
  edges_alike : (shade : Bool) (n x : ℕ) → edges_from shade p base n x ≡ edges_from shade q base n x
  unfolding edges_from
  edges_alike shade zero x = refl
  edges_alike shade (suc n) x = rw (alike x, edges_alike shade n (suc x), edges_alike (not shade) n (suc x))

  after_alike : (w e : ℕ) → edges_after p base w e ≡ edges_after q base w e
  unfolding edges_after
  after_alike w e = rw (alike e, edges_alike (dark q base e) (w - suc e) (suc e))

  cut_alike : (a : ℕ) (l : List ℕ) (later : List LinePosition) → cut_at p base a l later ≡ cut_at q base a l later
  unfolding cut_at
  cut_alike a [] later = refl
  cut_alike a (b ∷ []) later = refl
  cut_alike a (b ∷ c ∷ []) later = refl
  cut_alike a (b ∷ c ∷ d ∷ []) later = refl
  cut_alike a (b ∷ c ∷ d ∷ e ∷ []) later = refl
  cut_alike a (b ∷ c ∷ d ∷ e ∷ f ∷ more) later = rw (alike e)

  cuts_alike : (l : List ℕ) → cuts p base l ≡ cuts q base l
  unfolding cuts
  cuts_alike [] = refl
  cuts_alike (a ∷ more) = rw (cuts_alike more) (cut_alike a more (cuts q base more))

  pub ahead_alike : (w : ℕ) (s : LineScanner) → ahead p base w s ≡ ahead q base w s
  unfolding ahead
  ahead_alike w s = rw (after_alike w s.e4) (cuts_alike (remembered s ++ edges_after q base w s.e4))

  pub line_alike : (w : ℕ) → line_cuts p base w ≡ line_cuts q base w
  line_alike w = rw (after_alike w 0) (cuts_alike (0 ∷ edges_after q base w 0))
