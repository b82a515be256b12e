-- `hex`: the places fall from call to call. Assumes nothing.
use Rattle.report.proofs.numbers.+hex.Given as goal

abbrev pub decreases-hex : goal.decreases-hex
decreases-hex l = l.places
