-- A glide of the spiral: the passes that the byte of their place settles, so that they leave picture and table as they are. Definitions alone.
use Rattle.std.specs.Prelude.{ℕ, ◌+◌, ◌*◌, ◌≤◌, ◌<◌, ◌≡◌, cond, ◌&&◌, List, eqb, leb, get_or, Option, Some, None}
use Rattle.points.specs.declared.Point.{Point}
use Rattle.pieces.specs.Picture.{px}
use Rattle.table.specs.Table.{entry_of}
use Rattle.table.specs.declared.Table.{Table}
use Rattle.alignment.specs.Spiral.{next_pass, moved}
use Rattle.alignment.specs.Visit.{place_of, size_like}
use Rattle.alignment.specs.declared.spiral.Pass.{Pass}
use Rattle.alignment.specs.declared.glide.Glance.{Glance}
use Rattle.alignment.specs.declared.glide.Glance.TheVariants.{Moves, Stays, Unsure}

-- the number that was looked up last
abbrev pub newest_of : Table → ℕ
newest_of T = get_or T.age 0 0

-- the byte of the newest entry's piece, where that entry is not of the estimate's size; 0 where it is, or where there is no entry
unfoldable pub passed_of : ℕ → Table → ℕ
passed_of estimate T = cond (eqb T.n 0) 0 (cond (size_like estimate (entry_of T (newest_of T)).px) 0 (5 + newest_of T))

-- what a byte tells of a pass: white and the byte that is passed by let it move, a claimed piece makes it stay, and any other has to be looked up
unfoldable pub glance_of : ℕ → ℕ → Glance
glance_of passed byte = cond (eqb byte 0) Moves (cond (eqb byte passed) Moves (cond (leb 2 byte && leb byte 4) Stays Unsure))

-- the same for a place: beside the picture the pass moves
unfoldable pub glance_at : List ℕ → ℕ → ℕ → Option (ℕ × ℕ) → Glance
glance_at p w passed (Some (x, y)) = glance_of passed (px p w x y)
glance_at p w passed None = Moves

-- a glide from a pass and a place to others: it ends where the leg is too long, halts where a glance does not settle the pass, and goes on else
pub data Glides (p : List ℕ) (w h estimate passed : ℕ) : Pass → Point → Pass → Point → Type 0 where
  ends : {s : Pass} {at : Point} → estimate * 100 ≤ s.step * s.step → Glides p w h estimate passed s at s at
  halts : {s : Pass} {at : Point} → s.step * s.step < estimate * 100 → glance_at p w passed (place_of w h at) ≡ Unsure → Glides p w h estimate passed s at s at
  goes : {s : Pass} {at : Point} {t : Pass} {to : Point}
      → s.step * s.step < estimate * 100 → glance_at p w passed (place_of w h at) ≡ Moves → Glides p w h estimate passed (next_pass s) (moved s at) t to → Glides p w h estimate passed s at t to
  waits : {s : Pass} {at : Point} {t : Pass} {to : Point}
      → s.step * s.step < estimate * 100 → glance_at p w passed (place_of w h at) ≡ Stays → Glides p w h estimate passed (next_pass s) at t to → Glides p w h estimate passed s at t to
