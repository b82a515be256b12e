-- What is told of a file, as what is printed of it. Assumes nothing.
use Prim.Native.Nat.{ℕ, ◌*◌, ◌≤◌}
use native.Mathlib.Omega.{arith}
use mathlib.Core.Path.{◌≡◌, refl, subst}
use mathlib.Core.List.{List}
use lib.ListN.{take}
use Rattle.refusals.specs.Finding.{Finding, found, refused_by}
use Rattle.refusals.specs.declared.Refusal.{Refusal}
use Rattle.refusals.specs.declared.Refusal.TheVariants as refusal
use Rattle.netpbm.specs.Form.{most_pixels, Picture, Form}
use Rattle.netpbm.specs.Told.{meaning, Told, of_form, of_none}
use Rattle.std.proofs.Common.{Some, None, Result, Ok, Err}
use Rattle.netpbm.specs.declared.Sides.{Sides}
use Rattle.table.specs.Table.{empty_table}
use Rattle.table.specs.declared.Table.{Table}
use Rattle.detect.specs.Telling.{Telling, LaidOut}
use Rattle.detect.specs.Detect.{DetectPost}
use Rattle.detect.specs.declared.Findings.{Findings}
use Rattle.listing.specs.Listing.{listing, Few}
use Rattle.locate.specs.Prints as prints
use Rattle.locate.specs.Prints.{Tells, Answers}

-- a picture that is told of a file is that file's
form_of : {file : List ℕ} {f : Finding Picture} → Told file f → (p : Picture) → f ≡ found p → Form file p
form_of {file} (of_form q F) p e = let same : q ≡ p = cc in subst (Form file) same F
form_of (of_none N) p e = let z : ◌≡◌ {A = ℕ} 0 1 = cc in absurd (omega arith)

-- and where 17 is told, there is none
none_of : {file : List ℕ} {f : Finding Picture} → Told file f → f ≡ refused_by refusal.File → (p : Picture) → Form file p → ⊥
none_of (of_form q F) e p G = let z : ◌≡◌ {A = ℕ} 0 1 = cc in absurd (omega arith)
none_of (of_none N) e p G = N p G

-- the first pixels of the room, with these sides
abbrev pub pictured : ℕ → ℕ → List ℕ → Picture
pictured w h pixels = record { width = w; height = h; pixels = take (w * h) pixels }

module _ (pixels : List ℕ) (s : Sides) where
  -- sides that are told are those of a picture that fits the room
  pub told_few : {file : List ℕ} → Told file (meaning pixels (Some s)) → s.width * s.height ≤ most_pixels
  told_few T = (form_of T (pictured s.width s.height pixels) refl).few

  pub prints_found : {text : List ℕ} {f : Finding Telling} → Tells (pictured s.width s.height pixels) f → text ≡ listing f → Answers pixels (Some s) text
  prints_found {f = f} D e file T = prints.of_form (pictured s.width s.height pixels) f (form_of T (pictured s.width s.height pixels) refl) D e

pub prints_refused : (pixels : List ℕ) {text : List ℕ} → text ≡ listing (refused_by refusal.File) → Answers pixels None text
prints_refused pixels e file T = prints.of_none (none_of T refl) e

-- grids that are laid out are few
pub few_of : (f : Result Findings Refusal) → LaidOut f → Few f
few_of (Ok f) L = L.few
few_of (Err why) L = tt

-- what detect tells with this room and this table
pub tells_of : (p : Picture) {lent scratch : ℕ} {T : Table} {f : Finding Telling} {q : List ℕ} {U : Table} → lent ≡ most_pixels → scratch ≡ most_pixels → T ≡ empty_table
    → DetectPost p.pixels p.width p.height lent scratch T f q U → Tells p f
tells_of p {q = q} {U = U} a b e D = record { painted = q; table = U; detects = rw (a, b, e) at D }
