-- Two answers that mean the same are the same, and so are two that the contract of `setup_perspective` allows. Assumes nothing.
use Rattle.std.specs.Prelude.{Option, Some, None, Result, Ok, Err}
use Rattle.refusals.specs.declared.Refusal.{Refusal}
use mathlib.Core.Path.{◌≡◌, refl, ap, sym, ◌∙◌}
use mathlib.Core.List.{List}
use Rattle.refusals.specs.Finding.{Finding}
use Rattle.refusals.proofs.Distinct.{refusal_only}
use Rattle.grids.specs.Grid.{meaning}
use Rattle.grids.specs.declared.SkewedGridLocation.{SkewedGridLocation}

pub meaning_only : (a b : Result (Option SkewedGridLocation) Refusal) → meaning a ≡ meaning b → a ≡ b
meaning_only (Ok (Some g)) (Ok (Some h)) e = cc
meaning_only (Ok (Some g)) (Ok None) e = cc
meaning_only (Ok (Some g)) (Err why) e = cc
meaning_only (Ok None) (Ok (Some h)) e = cc
meaning_only (Ok None) (Ok None) e = refl
meaning_only (Ok None) (Err why) e = cc
meaning_only (Err why) (Ok (Some h)) e = cc
meaning_only (Err why) (Ok None) e = cc
meaning_only (Err why) (Err other) e = ap Err (refusal_only {a = why} {b = other} e)

pub fit_only : (a b : Result (Option SkewedGridLocation) Refusal) (f : Finding (List SkewedGridLocation)) → meaning a ≡ f → meaning b ≡ f → a ≡ b
fit_only a b f p q = meaning_only a b (p ∙ sym q)
