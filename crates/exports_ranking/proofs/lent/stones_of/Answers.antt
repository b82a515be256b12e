-- `stones_of` makes an array of what `stone_at` reads. Assumes nothing.
use borrow.Author.Rules.{rules}
use borrow.Author.Tests.{tests}
use Rattle.capstones.specs.Blank.{no_stone}
use Rattle.told_places.proofs.Made.{made_all}
use Rattle.exports_ranking.specs.Ranks.{lent_stone}
use Rattle.exports_ranking.proofs.lent.stones_of.Goals as goal

pub returns : goal.returns
returns c =
    made_all (lent_stone c.args.centers.now c.args.floats.now) (λ k y q call. search (rules, tests)) no_stone c.from_fn.ensures.items
