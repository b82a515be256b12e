-- `position` reads the table that Annex E prints, and that is what the rule says. Assumes nothing.
use Rattle.version_db.specs.AnnexE.{printed}
use Rattle.version_db.proofs.Rule.{printed_right}
use Rattle.version_db.proofs.position.Goals as goal

pub returns : goal.returns
unfolding printed
returns c = printed_right c.args.version c.args.k c.requires.0 c.requires.1
