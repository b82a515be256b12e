-- `ages_of` makes an array of what `age_at` reads. Assumes nothing.
use borrow.Author.Rules.{rules}
use borrow.Author.Tests.{tests}
use Rattle.told_places.specs.Lent.{age_at}
use Rattle.told_places.proofs.Made.{made_all}
use Rattle.told_places.proofs.lent.ages_of.Goals as goal

pub returns : goal.returns
returns c =
    made_all (age_at c.args.counts.now) (λ k y q call. search (rules, tests)) 0 c.from_fn.ensures.items
