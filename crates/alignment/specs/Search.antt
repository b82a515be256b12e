-- The search for the alignment pattern, pass by pass: document 01 ("the spiral visits while step x step < estimate x 100"), and the Rust (`find_alignment_pattern`). Definitions alone.
use Rattle.std.specs.Prelude.{ℕ, ◌*◌, ◌≤◌, ◌<◌, List, [], ◌∷◌, Option, Some, None, Result, Ok, Err}
use Rattle.refusals.specs.Finding.{Finding, found, refused_by}
use Rattle.refusals.specs.declared.Refusal.{Refusal}
use Rattle.points.specs.declared.Point.{Point}
use Rattle.table.specs.declared.Table.{Table}
use Rattle.alignment.specs.Spiral.{next_pass, moved}
use Rattle.alignment.specs.Visit.{Visits}
use Rattle.alignment.specs.declared.spiral.Pass.{Pass}
use Rattle.alignment.specs.declared.visit.Visit.TheVariants as visit

-- what each case of an answer means: a place, or none
abbrev pub meaning : Result (Option Point) Refusal → Finding (List Point)
meaning (Ok (Some p)) = found (p ∷ [])
meaning (Ok None) = found []
meaning (Err why) = refused_by why

-- a search from a pass and a place on: it ends where the leg is too long, at a place that is the answer, or at a refusal
pub data Spirals (w h estimate : ℕ) : Pass → Point → List ℕ → Table → Finding (List Point) → List ℕ → Table → Type 0 where
  too_far : {s : Pass} {at : Point} {p : List ℕ} {T : Table} → estimate * 100 ≤ s.step * s.step → Spirals w h estimate s at p T (found []) p T
  moves : {s : Pass} {at : Point} {p : List ℕ} {T : Table} {m : List ℕ} {Between : Table} {f : Finding (List Point)} {q : List ℕ} {U : Table}
      → s.step * s.step < estimate * 100 → Visits p w h T estimate at (Ok visit.Moves) m Between → Spirals w h estimate (next_pass s) (moved s at) m Between f q U → Spirals w h estimate s at p T f q U
  stays : {s : Pass} {at : Point} {p : List ℕ} {T : Table} {m : List ℕ} {Between : Table} {f : Finding (List Point)} {q : List ℕ} {U : Table}
      → s.step * s.step < estimate * 100 → Visits p w h T estimate at (Ok visit.Stays) m Between → Spirals w h estimate (next_pass s) at m Between f q U → Spirals w h estimate s at p T f q U
  here : {s : Pass} {at : Point} {p : List ℕ} {T : Table} {q : List ℕ} {U : Table}
      → s.step * s.step < estimate * 100 → Visits p w h T estimate at (Ok visit.Here) q U → Spirals w h estimate s at p T (found (at ∷ [])) q U
  stops : {s : Pass} {at : Point} {p : List ℕ} {T : Table} {why : Refusal} {q : List ℕ} {U : Table}
      → s.step * s.step < estimate * 100 → Visits p w h T estimate at (Err why) q U → Spirals w h estimate s at p T (refused_by why) q U
