-- `place` reads a position, which has room for a pattern on either hand. Assumes nothing.
use native.Mathlib.Omega.{arith}
use Rattle.version_db.proofs.Inside.{inside, few_positions, from_six}
use Rattle.fitness.proofs.alignment.place.Goals as goal

pub position-requires : goal.position-requires
position-requires c = (c.requires.fact_1, omega (arith, few_positions c.args.version c.requires.fact_1))

pub returns : goal.returns
returns c =
    let low = from_six c.args.version c.args.k c.requires.fact_1 c.requires.fact_2 in
    let high = inside c.args.version c.args.k in
    (c.position.ensures, rw c.position.ensures (record { before = omega arith; after = omega arith }))
