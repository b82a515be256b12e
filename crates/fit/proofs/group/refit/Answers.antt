-- `refit` goes by the outline. Assumes nothing.
use Rattle.std.specs.Prelude.{Some, None, Ok}
use mathlib.Core.Path.{◌≡◌, refl, sym, ap, ◌∙◌}
use Rattle.outline.specs.Outline as outline
use Rattle.outline.proofs.Drawn.{outline_drawn}
use Rattle.fit.specs.Fit.{not_outlined, apart, outlined}
use Rattle.fit.proofs.group.refit.Goals as goal

pub complete-requires : goal.complete-requires
complete-requires c =
    let some : c.in-Ok-Some.field-0 ≡ Some c.in-Ok-Some.outline = c.in-Ok-Some.field-0-is in
    let is = sym c.outline_of.ensures ∙ (ap outline.meaning c.in-Ok-Some.is ∙ ap (λ o. outline.meaning (Ok o)) some) in
    (c.requires.0, outline_drawn _ _ _ _ _ c.requires.1 c.requires.2 is, c.requires.3)

pub returns-in-Ok-Some : goal.returns-in-Ok-Some
returns-in-Ok-Some c =
    let some : c.in-Ok-Some.field-0 ≡ Some c.in-Ok-Some.outline = c.in-Ok-Some.field-0-is in
    let is = sym c.outline_of.ensures ∙ (ap outline.meaning c.in-Ok-Some.is ∙ ap (λ o. outline.meaning (Ok o)) some) in
    (outlined _ is c.complete.ensures.0, c.complete.ensures.1)

pub returns-in-Ok-None : goal.returns-in-Ok-None
returns-in-Ok-None c =
    let none : c.in-Ok-None.field-0 ≡ None = c.in-Ok-None.field-0-is in
    let is = sym c.outline_of.ensures ∙ (ap outline.meaning c.in-Ok-None.is ∙ ap (λ o. outline.meaning (Ok o)) none) in
    (apart is refl refl refl, c.requires.3)

pub returns-in-Err : goal.returns-in-Err
returns-in-Err c = (not_outlined _ (sym c.outline_of.ensures ∙ ap outline.meaning c.in-Err.is) refl refl refl, c.requires.3)
