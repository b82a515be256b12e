-- The next line that has a cut: line by line, between which lines it lies, and that paint doesn't matter to it. Assumes nothing.
use Rattle.std.specs.Prelude.{Option, is_some}
use Prim.Native.Nat.{ℕ, zero, suc, ◌+◌, ◌-◌, ◌*◌, ◌≤◌, ◌<◌}
use native.Mathlib.Omega.{arith}
use native.Mathlib.Numerals.{add-one}
use mathlib.Core.Path.{◌≡◌, refl}
use mathlib.Core.Bool.{true, false}
use mathlib.Core.List.{List, [], ◌∷◌}
use Rattle.scanner.specs.Edges.{dark}
use Rattle.scanner.specs.Cuts.{line_cuts}
use Rattle.scanner.specs.Scan.{begun, Comes, to_cut, to_end}
use Rattle.scanner.specs.Lines.{some, next_line}
use Rattle.scanner.specs.declared.LinePosition.{LinePosition}
use Rattle.scanner.specs.declared.LineScanner.{LineScanner}
use Rattle.scanner.proofs.Ahead.{begins}
use Rattle.scanner.proofs.Alike.{line_alike}

-- what a scan from a line's beginning comes to says whether the line has a cut
module _ {p : List ℕ} {base w : ℕ} {scan : LineScanner} (begin : scan ≡ begun) where
  pub comes_some : {a : Option (LinePosition × LineScanner)} → Comes p base w scan a → is_some a ≡ some (line_cuts p base w)
  unfolding some
  comes_some (to_cut _ _ is on) = let all = begins p base w in rw (← all, ← begin, is)
  comes_some (to_end is) = let all = begins p base w in rw (← all, ← begin, is)

pub none_on : (cuts : List LinePosition) → some cuts ≡ false → cuts ≡ []
unfolding some
none_on [] e = refl
none_on (cut ∷ more) e = let z : ◌≡◌ {A = ℕ} 0 1 = cc in absurd (omega arith)

module _ (p : List ℕ) (w h y : ℕ) where
  pub line_here : y < h → some (line_cuts p (y * w) w) ≡ true → next_line p w (h - y) y ≡ y
  unfolding next_line
  line_here low e = let left : h - y ≡ suc (h - (y + 1)) = omega arith in rw (left, e)

  pub line_on : y < h → some (line_cuts p (y * w) w) ≡ false → next_line p w (h - y) y ≡ next_line p w (h - (y + 1)) (y + 1)
  unfolding next_line
  line_on low e = let left : h - y ≡ suc (h - (y + 1)) = omega arith in rw (left, e, add-one y)

  pub line_last : h ≤ y → next_line p w (h - y) y ≡ y
  unfolding next_line
  line_last past = let none : h - y ≡ 0 = omega arith in rw none

pub next_alike : (p q : List ℕ) (w : ℕ) → ((base x : ℕ) → dark p base x ≡ dark q base x) → (n y : ℕ) → next_line p w n y ≡ next_line q w n y
unfolding next_line
next_alike p q w alike zero y = refl
next_alike p q w alike (suc n) y = rw (line_alike p q (y * w) (alike (y * w)) w, next_alike p q w alike n (suc y))
