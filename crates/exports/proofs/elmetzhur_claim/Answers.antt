-- `elmetzhur_claim` tells what the claim tells. Assumes nothing.
use Rattle.exports.proofs.elmetzhur_claim.Goals as goal

pub returns : goal.returns
returns c = c.claim.ensures
