-- `glance_of` goes by the byte: white, passed by, claimed, or none of these. Assumes nothing.
use borrow.Author.Tests.{eq-eqb, ne_eqb, le-leb, lt-leb}
use Rattle.alignment.specs.Glide.{glance_of}
use Rattle.alignment.proofs.glide.glance_of.Goals as goal

pub returns-then-byte-eq0 : goal.returns-then-byte-eq0
unfolding glance_of
returns-then-byte-eq0 c = rw (eq-eqb _ _ c.if-byte-eq0.true)

pub returns-then-byte-passed : goal.returns-then-byte-passed
unfolding glance_of
returns-then-byte-passed c = rw (ne_eqb _ _ c.if-byte-eq0.false, eq-eqb _ _ c.if-byte-passed.true)

pub returns-then-byte-lt2 : goal.returns-then-byte-lt2
unfolding glance_of
returns-then-byte-lt2 c = rw (ne_eqb _ _ c.if-byte-eq0.false, ne_eqb _ _ c.if-byte-passed.false, lt-leb _ _ c.if-byte-lt2.true)

pub returns-then-byte-le4 : goal.returns-then-byte-le4
unfolding glance_of
returns-then-byte-le4 c = rw (ne_eqb _ _ c.if-byte-eq0.false, ne_eqb _ _ c.if-byte-passed.false, le-leb _ _ c.if-byte-lt2.false, le-leb _ _ c.if-byte-le4.true)

pub returns : goal.returns
unfolding glance_of
returns c = rw (ne_eqb _ _ c.if-byte-eq0.false, ne_eqb _ _ c.if-byte-passed.false, le-leb _ _ c.if-byte-lt2.false, lt-leb _ _ c.if-byte-le4.false)
