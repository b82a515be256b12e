-- `decimal`: the number falls from call to call. Assumes nothing.
use Rattle.report.proofs.numbers.+decimal.Given as goal

abbrev pub decreases-decimal : goal.decreases-decimal
decreases-decimal l = l.n
