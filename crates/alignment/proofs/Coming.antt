-- What a lookup's answer makes of a visit, case by case. Assumes nothing.
use Rattle.std.specs.Prelude.{Result, Ok}
use Rattle.refusals.specs.declared.Refusal.{Refusal}
use Prim.Native.Nat.{ℕ}
use mathlib.Core.Path.{◌≡◌, sym, ap, ◌∙◌}
use mathlib.Core.Bool.{true, false}
use Rattle.refusals.specs.Finding.{Finding, found}
use Rattle.regions.specs.Found.{Answer, unclaimed}
use Rattle.regions.specs.declared.Region.{Region}
use Rattle.alignment.specs.Visit.{size_like, visit_of, Comes}
use Rattle.alignment.specs.declared.visit.Visit.{Visit}
use Rattle.alignment.specs.declared.visit.Visit.TheVariants.{Moves, Here}

pub comes : (estimate : ℕ) {f : Finding Answer} {v : Result Visit Refusal} (b : Answer) → f ≡ found b → v ≡ visit_of estimate b → Comes estimate f v
comes estimate b e is a g = is ∙ ap (visit_of estimate) (only b a (sym e ∙ g))
  where
    only : (b a : Answer) → found b ≡ found a → b ≡ a
    only b a e = cc

pub of_size : (estimate : ℕ) (r : Region) → size_like estimate r.entry.px ≡ true → Ok Here ≡ visit_of estimate (unclaimed r)
unfolding visit_of
of_size estimate r e = rw e

pub of_another_size : (estimate : ℕ) (r : Region) → size_like estimate r.entry.px ≡ false → Ok Moves ≡ visit_of estimate (unclaimed r)
unfolding visit_of
of_another_size estimate r e = rw e
