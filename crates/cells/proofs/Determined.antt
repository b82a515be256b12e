-- Two answers that the contract of `read_cell` allows coincide. Assumes nothing.
use Rattle.std.specs.Prelude.{Result, Ok, Err}
use Rattle.refusals.specs.declared.Refusal.{Refusal}
use mathlib.Core.Path.{◌≡◌, refl, sym, ap, ◌∙◌}
use mathlib.Core.Bool.{Bool}
use Rattle.refusals.specs.Finding.{Finding}
use Rattle.refusals.proofs.Distinct.{refusal_only}
use Rattle.cells.specs.Cell.{meaning}
use Rattle.cells.specs.declared.Cell.{Cell}
use Rattle.cells.specs.declared.Cell.TheVariants.{Dark, Light}

meaning_only : (a b : Result Cell Refusal) → meaning a ≡ meaning b → a ≡ b
meaning_only (Ok Dark) (Ok Dark) e = refl
meaning_only (Ok Dark) (Ok Light) e = cc
meaning_only (Ok Dark) (Err r) e = cc
meaning_only (Ok Light) (Ok Dark) e = cc
meaning_only (Ok Light) (Ok Light) e = refl
meaning_only (Ok Light) (Err r) e = cc
meaning_only (Err q) (Ok Dark) e = cc
meaning_only (Err q) (Ok Light) e = cc
meaning_only (Err q) (Err r) e = ap Err (refusal_only {a = q} {b = r} e)

pub cell_only : (a b : Result Cell Refusal) (f : Finding Bool) → meaning a ≡ f → meaning b ≡ f → a ≡ b
cell_only a b f p q = meaning_only a b (p ∙ sym q)
