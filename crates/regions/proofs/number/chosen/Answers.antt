-- `chosen` goes by the byte: a number is sought in the age order, and a black piece's is at a known place. Assumes nothing.
use native.Mathlib.Omega.{arith}
use mathlib.Core.Path.{◌≡◌, refl}
use Rattle.regions.specs.Numbers.{its_own, the_next, the_oldest}
use Rattle.regions.proofs.number.chosen.Goals as goal

pub place_of-from-requires : goal.place_of-from-requires
place_of-from-requires c = c.requires.listed _ (omega arith)

pub returns-then-byte-ge5 : goal.returns-then-byte-ge5
returns-then-byte-ge5 c = its_own (omega arith) c.place_of-from.ensures refl

pub returns-then-n-lt251 : goal.returns-then-n-lt251
returns-then-n-lt251 c = the_next (c.requires.black (omega arith)) c.if-n-lt251.true refl refl refl

pub returns : goal.returns
returns c =
    let full : c.args.n ≡ 251 = omega (arith, c.requires.few) in
    the_oldest (c.requires.black (omega arith)) full (rw full) (rw full) refl
