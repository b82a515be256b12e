-- `reversed` computes two opposites, which are small enough. Assumes nothing.
use borrow.Author.Rules.{rules}
use Rattle.sizes.proofs.Size.{read_back}
use Rattle.groups.specs.Side.{reversed}
use Rattle.groups.proofs.Beside.{span_back, opposite_low}
use Rattle.groups.proofs.sides.reversed.Goals as goal

pub opposite-x-requires : goal.opposite-x-requires
opposite-x-requires c = search (rules, opposite_low)

pub opposite-y-requires : goal.opposite-y-requires
opposite-y-requires c = search (rules, opposite_low)

pub returns : goal.returns
unfolding reversed
returns c =
    rw (
      read_back c.opposite-x.result c.opposite-x.type_inv,
      c.opposite-x.ensures,
      read_back c.opposite-y.result c.opposite-y.type_inv,
      c.opposite-y.ensures,
      span_back c.requires.x,
      span_back c.requires.y,
    )
