-- What a fill gathers from the rows that it meets. Definitions alone.
use Rattle.std.specs.Prelude.{ℕ, ◌+◌, ◌≡◌, List, [], ◌∷◌}
use Rattle.pieces.specs.declared.Row.{Row}
use Rattle.fill.specs.Order.{width_of, rows_met, entries_pushed}
use Rattle.fill.specs.declared.paint.Counts.{Counts}

-- the rule g over the rows in the order met, from z; the rows stand with the latest first
unfoldable pub folded : {A : Type 0} → (A → Row → A) → A → List Row → A
folded g z [] = z
folded g z (r ∷ R) = g (folded g z R) r

-- the rule that counts rows, and the one that counts their pixels
abbrev pub one_more : ℕ → Row → ℕ
one_more n r = n + 1

abbrev pub width_more : ℕ → Row → ℕ
width_more n r = n + width_of r

-- what a fill of the piece of (x, y) with t counts
pub record Counted (p : List ℕ) (w h x y t : ℕ) (c : Counts) : Type 0 where
  pub rows : c.rows ≡ folded one_more 0 (rows_met p w h x y t)
  pub pixels : c.pixels ≡ folded width_more 0 (rows_met p w h x y t)
  pub pushes : c.pushes ≡ entries_pushed p w h x y t
