-- The lines of grids, one more at a time, and what stands first in a buffer. Assumes nothing.
use Prim.Native.Nat.{ℕ, ◌+◌, ◌*◌, ◌≤◌, ◌<◌}
use native.Mathlib.Nat.{add-zero}
use native.Mathlib.Omega.{arith}
use native.Mathlib.Numerals.{add-one}
use mathlib.Core.Path.{◌≡◌, refl, sym, ap, ◌∙◌}
use mathlib.Core.List.{List, [], ◌∷◌, ◌++◌, append_assoc, append-nil}
use lib.ListN.{length, get_or, take, drop}
use lib.Seq.{sets-eq, take-suc, take-append_seam}
use Rattle.bounds.specs.declared.Grid.{Grid}
use Rattle.report.specs.Lines.{grid_line}
use Rattle.report.specs.Puts.{Puts}
use Rattle.report.proofs.Putting.{puts_then, puts_within}
use Rattle.listing.specs.Listing.{line_of, grid_lines}

lines_last : (l : List Grid) (g : Grid) → grid_lines (l ++ (g ∷ [])) ≡ grid_lines l ++ grid_line (line_of g)
unfolding grid_lines
lines_last [] g = append-nil (grid_line (line_of g))
lines_last (x ∷ l) g = ap (λ (s : List ℕ). grid_line (line_of x) ++ s) (lines_last l g) ∙ sym (append_assoc (grid_line (line_of x)) (grid_lines l) (grid_line (line_of g)))

-- one line more
pub lines_next : (grids : List Grid) (k : ℕ) (blank : Grid) {b m a : List ℕ} {at r q : ℕ} → k < length grids
    → Puts (k * 236) (grid_lines (take k grids)) b at m r → Puts 236 (grid_line (line_of (get_or grids k blank))) m r a q → Puts ((k + 1) * 236) (grid_lines (take (k + 1) grids)) b at a q
lines_next grids k blank low P Q =
    let more : take (k + 1) grids ≡ take k grids ++ (get_or grids k blank ∷ []) = rw (add-one k) (take-suc grids k blank low) in
    rw (more, lines_last (take k grids) (get_or grids k blank)) (puts_within ((k + 1) * 236) (omega arith) (puts_then P Q))

-- what is put from the start on stands there
pub puts_first : {l r : ℕ} {text b a : List ℕ} → Puts l text b 0 a r → r ≤ length b → take r a ≡ text
puts_first {l} {r} {text} {b} {a} P room =
    let end : r ≡ length text = omega (arith, P.place) in
    rw (P.stored, end, sets-eq text b 0 (omega (arith, end))) (take-append_seam text (drop (0 + length text) b))

-- no line yet
pub no_lines : {b : List ℕ} {at : ℕ} → Puts 0 (grid_lines []) b at b at
unfolding grid_lines
no_lines {b} {at} = record { stored = refl; place = sym (add-zero at); short = omega arith }
