-- `entries_of` makes an array of what `entry_at` reads. Assumes nothing.
use borrow.Author.Rules.{rules}
use borrow.Author.Tests.{tests}
use Rattle.table.specs.Table.{blank}
use Rattle.told_places.specs.Lent.{entry_at}
use Rattle.told_places.proofs.Made.{made_all}
use Rattle.told_places.proofs.lent.entries_of.Goals as goal

pub returns : goal.returns
returns c =
    made_all (entry_at c.args.counts.now) (λ k y q call. search (rules, tests)) blank c.from_fn.ensures.items
