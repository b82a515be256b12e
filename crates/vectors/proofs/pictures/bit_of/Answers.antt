-- `bit_of` takes the four bits by cases. Assumes nothing.
use borrow.Author.Tests.{eq-eqb, ne_eqb}
use Rattle.vectors.specs.Pictures.{bit_of}
use Rattle.vectors.proofs.pictures.bit_of.Goals as goal

pub returns-then-k-eq0 : goal.returns-then-k-eq0
unfolding bit_of
returns-then-k-eq0 c = rw (eq-eqb c.args.k 0 c.if-k-eq0.true)

pub returns-then-k-eq1 : goal.returns-then-k-eq1
unfolding bit_of
returns-then-k-eq1 c = rw (ne_eqb c.args.k 0 c.if-k-eq0.false, eq-eqb c.args.k 1 c.if-k-eq1.true)

pub returns-then-k-eq2 : goal.returns-then-k-eq2
unfolding bit_of
returns-then-k-eq2 c =
    rw (ne_eqb c.args.k 0 c.if-k-eq0.false, ne_eqb c.args.k 1 c.if-k-eq1.false, eq-eqb c.args.k 2 c.if-k-eq2.true)

pub returns : goal.returns
unfolding bit_of
returns c =
    rw (ne_eqb c.args.k 0 c.if-k-eq0.false, ne_eqb c.args.k 1 c.if-k-eq1.false, ne_eqb c.args.k 2 c.if-k-eq2.false)
