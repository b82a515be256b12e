-- What the reader answers is told of the file, and nothing else is told of it: the form determines sides and pixels. Assumes nothing.
use Prim.Native.Nat.{ℕ, ◌*◌}
use mathlib.Core.Path.{◌≡◌, refl, sym, ap, subst, ◌∙◌}
use mathlib.Core.List.{List}
use lib.ListN.{length, replicate, length-replicate}
use borrow.Author.Tests.{eq-eqb}
use Rattle.refusals.specs.Finding.{Finding, found, refused}
use Rattle.netpbm.specs.Form.{most_pixels, Picture, Form}
use Rattle.netpbm.specs.Machine.{stepped, Reading, reading, fed, ended_at, ended_in}
use Rattle.netpbm.specs.Reads.{Reads}
use Rattle.netpbm.specs.Told.{meaning, Told, of_form, of_none}
use Rattle.netpbm.specs.declared.Sides.{Sides}
use Rattle.std.proofs.Common.{Option, Some, None}
use Rattle.netpbm.specs.declared.Reader.{Reader}
use Rattle.netpbm.specs.declared.Reader.TheVariants.{Nothing}
use Rattle.netpbm.proofs.Whole.{Read, form_read}
use Rattle.netpbm.proofs.Accepted.{accepted}

-- what a reading answers once its file has ended
abbrev ending : Reading → Option Sides
ending s = ended_in (stepped s.reader 32)

read_ends : (s : Reading) (p : Picture) → Read s p → meaning s.pixels (ending s) ≡ found p
unfolding ended_in ended_at
read_ends s p R =
    rw (R.ends, eq-eqb (p.width * p.height) (p.width * p.height) refl)
    (λ i. found (record { width = p.width; height = p.height; pixels = R.shows i }))

-- what a finding found, or else d
abbrev found_or : Picture → Finding Picture → Picture
found_or d (found p) = p
found_or d (refused n) = d

abbrev IsFound : Finding Picture → Type 0
IsFound (found p) = Unit {0}
IsFound (refused n) = ⊥

module _ (file lent : List ℕ) (room : length lent ≡ most_pixels) where
  -- the reading of the whole file
  abbrev end : Reading
  end = fed (reading Nothing lent) file

  form_ends : (p : Picture) → Form file p → meaning end.pixels (ending end) ≡ found p
  form_ends p F = read_ends end p (form_read file lent p room F)

  by_answer : (a : Option Sides) → ending end ≡ a → Told file (meaning end.pixels a)
  by_answer (Some s) e =
      let F = accepted s.width s.height lent file e in
      let m : meaning end.pixels (Some s) ≡ found F.picture = rw e at (form_ends F.picture F.form) in
      subst (Told file) (sym m) (of_form F.picture F.form)
  by_answer None e =
      of_none (λ p F. let m : meaning end.pixels None ≡ found p = rw e at (form_ends p F) in subst IsFound (sym m) tt)

-- a file that the reader refuses is not of the form
pub refused_none : (file : List ℕ) → ending (fed (reading Nothing (replicate most_pixels 0)) file) ≡ None → (p : Picture) → Form file p → ⊥
refused_none file e p F =
    let lent : List ℕ = replicate most_pixels 0 in
    let m : meaning (fed (reading Nothing lent) file).pixels None ≡ found p = rw e at (form_ends file lent (length-replicate {A = ℕ} most_pixels 0) p F) in
    subst IsFound (sym m) tt

-- what a reading answers at its end is told of the file read
pub told : (file pixels : List ℕ) (reader : Reader) (a : Option Sides) → ended_in (stepped reader 32) ≡ a → Reads file pixels reader → Told file (meaning pixels a)
told file pixels reader a e R =
    subst (λ (s : Reading). ending s ≡ a → Told file (meaning s.pixels a)) (sym R.comes) (by_answer file R.lent R.room a) e

-- no file is of the form in two ways
pub form_only : (file : List ℕ) (p q : Picture) → Form file p → Form file q → p ≡ q
form_only file p q F G =
    let lent : List ℕ = replicate most_pixels 0 in
    let room : length lent ≡ most_pixels = length-replicate {A = ℕ} most_pixels 0 in
    ap (found_or p) (sym (form_ends file lent room p F) ∙ form_ends file lent room q G)

-- so only one thing is told of it
pub told_only : (file : List ℕ) (a b : Finding Picture) → Told file a → Told file b → a ≡ b
told_only file a b (of_form p F) (of_form q G) = ap found (form_only file p q F G)
told_only file a b (of_form p F) (of_none N) = absurd (N p F)
told_only file a b (of_none N) (of_form q G) = absurd (N q G)
told_only file a b (of_none N) (of_none M) = refl
