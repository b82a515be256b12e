-- `visit_of` goes by the answer's case. Assumes nothing.
use Rattle.std.specs.Prelude.{Ok}
use mathlib.Core.Path.{refl, sym, ap, ◌∙◌}
use Rattle.regions.specs.Found.{meaning}
use Rattle.alignment.specs.Visit.{visit_of}
use Rattle.alignment.proofs.Coming.{comes, of_size, of_another_size}
use Rattle.alignment.proofs.visit.visit_of.Goals as goal

pub returns-then-is_size_like : goal.returns-then-is_size_like
returns-then-is_size_like c =
    comes _ _ (ap meaning (c.in_ok-region.was ∙ ap Ok c.in-Unclaimed.is)) (of_size _ _ (sym c.is_size_like.ensures ∙ c.if-is_size_like.true))

pub returns-in-Claimed : goal.returns-in-Claimed
unfolding visit_of
returns-in-Claimed c = comes _ _ (ap meaning (c.in_ok-region.was ∙ ap Ok c.in-Claimed.is)) refl

pub returns-else-is_size_like : goal.returns-else-is_size_like
returns-else-is_size_like c =
    comes _ _ (ap meaning (c.in_ok-region.was ∙ ap Ok c.in-Unclaimed.is)) (of_another_size _ _ (sym c.is_size_like.ensures ∙ c.if-is_size_like.false))
