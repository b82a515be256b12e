-- `distance` computes the square of a distance: no step of it leaves the range of an i32. Assumes nothing.
use borrow.Author.Rules.{rules}
use lib.Dec.{lit<}
use lib.IntN.{ℤ, ◌-ℤ◌, ◌*ℤ◌}
use Rattle.points.specs.Range.{Inside}
use Rattle.corners.specs.Scores.{distance_of}
use Rattle.corners.proofs.Signed.{Is, back, is_add, is_mul, is_fits, is_back}
use Rattle.corners.proofs.Small.{is_apart, apart_fits}
use Rattle.corners.proofs.scores.distance.Goals as goal

-- the square of a difference
square : {a b : ℤ} → Inside a → Inside b → Is (back (back a -ℤ back b) *ℤ back (back a -ℤ back b)) ((a -ℤ b) *ℤ (a -ℤ b)) 2553604
square h k = is_mul (is_apart h k) (is_apart h k) (lit< tt)

pub overflow_sub-dx : goal.overflow_sub-dx
overflow_sub-dx c = search (rules, apart_fits)

pub overflow_sub-dy : goal.overflow_sub-dy
overflow_sub-dy c = search (rules, apart_fits)

pub overflow_mul-result : goal.overflow_mul-result
overflow_mul-result c =
    is_fits (square c.requires.fact_2.x c.requires.fact_1.x)

pub overflow_mul-result-2 : goal.overflow_mul-result-2
overflow_mul-result-2 c =
    is_fits (square c.requires.fact_2.y c.requires.fact_1.y)

pub overflow_add-result : goal.overflow_add-result
overflow_add-result c =
    is_fits (is_add (square c.requires.fact_2.x c.requires.fact_1.x) (square c.requires.fact_2.y c.requires.fact_1.y) (lit< tt))

pub returns : goal.returns
unfolding distance_of
returns c =
    is_back (is_add (square c.requires.fact_2.x c.requires.fact_1.x) (square c.requires.fact_2.y c.requires.fact_1.y) (lit< tt))
