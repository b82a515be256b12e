-- `half_up` rounds to the even number, and then goes by whether that is a half too low. Assumes nothing.
use mathlib.Core.Path.{◌∙◌, ap}
use Prim.Native.Nat.{◌+◌}
use native.Mathlib.Omega.{arith}
use lib.Ieee.{of_bits}
use Rattle.rounding.proofs.Evened.{Evened, even}
use Rattle.rounding.proofs.half_up.Goals as goal

pub float_to_int-n : goal.float_to_int-n
unfolding of_bits
float_to_int-n c =
    let of : Evened c.args.x = even c.args.x c.requires.fact_1 c.requires.fact_2 in
    (of).cast

pub overflow_cast-result : goal.overflow_cast-result
unfolding of_bits
overflow_cast-result c =
    let of : Evened c.args.x = even c.args.x c.requires.fact_1 c.requires.fact_2 in
    let e = of in rw e.is (omega (arith, e.small))

pub returns-then-x-even : goal.returns-then-x-even
unfolding of_bits
returns-then-x-even c =
    let of : Evened c.args.x = even c.args.x c.requires.fact_1 c.requires.fact_2 in
    let e = of in e.is ∙ e.nearest c.if-x-even.true

pub overflow_cast-result-2 : goal.overflow_cast-result-2
unfolding of_bits
overflow_cast-result-2 c =
    let of : Evened c.args.x = even c.args.x c.requires.fact_1 c.requires.fact_2 in
    let e = of in rw e.is (omega (arith, e.small))

pub overflow_add-result : goal.overflow_add-result
unfolding of_bits
overflow_add-result c =
    let of : Evened c.args.x = even c.args.x c.requires.fact_1 c.requires.fact_2 in
    let e = of in rw e.is (omega (arith, e.small))

pub returns : goal.returns
unfolding of_bits
returns c =
    let of : Evened c.args.x = even c.args.x c.requires.fact_1 c.requires.fact_2 in
    let e = of in ap (λ n. n + 1) e.is ∙ e.too_low c.if-x-even.false
