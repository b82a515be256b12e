-- Two answers that the contract of `jiggle_perspective` allows coincide. Assumes nothing.
use Rattle.std.specs.Prelude.{Option, Some, None}
use mathlib.Core.Path.{◌≡◌, refl, sym, ◌∙◌}
use Rattle.refusals.specs.Finding.{Finding}
use Rattle.refine.specs.Refine.{meaning}
use Rattle.refine.specs.declared.Refined.{Refined}

pub meaning_only : (a b : Option Refined) → meaning a ≡ meaning b → a ≡ b
meaning_only (Some r) (Some s) e = cc
meaning_only (Some r) None e = cc
meaning_only None (Some s) e = cc
meaning_only None None e = refl

pub refinement_only : (a b : Option Refined) (f : Finding Refined) → meaning a ≡ f → meaning b ≡ f → a ≡ b
refinement_only a b f p q = meaning_only a b (p ∙ sym q)
