-- `digit_of` tells digits by their ranges. Assumes nothing.
use native.Mathlib.Omega.{arith}
use borrow.Author.Rules.{rules}
use borrow.Author.Tests.{lt-ltb, le-ltb, le-leb, lt-leb}
use Rattle.vectors.specs.Words.{digit_of}
use Rattle.vectors.proofs.words.digit_of.Goals as goal

pub returns-then-byte-lt48 : goal.returns-then-byte-lt48
unfolding digit_of
returns-then-byte-lt48 c = rw (lt-ltb c.args.byte 48 (omega arith)) (search rules)

pub returns-then-byte-le57 : goal.returns-then-byte-le57
unfolding digit_of
returns-then-byte-le57 c =
    rw (le-ltb c.args.byte 48 (omega arith), le-leb c.args.byte 57 (omega arith)) (search rules)

pub returns-then-byte-lt97 : goal.returns-then-byte-lt97
unfolding digit_of
returns-then-byte-lt97 c =
    rw (le-ltb c.args.byte 48 (omega arith), lt-leb c.args.byte 57 (omega arith), lt-ltb c.args.byte 97 (omega arith)) (search rules)

pub returns-then-byte-le102 : goal.returns-then-byte-le102
unfolding digit_of
returns-then-byte-le102 c =
    rw (le-ltb c.args.byte 48 (omega arith), lt-leb c.args.byte 57 (omega arith), le-ltb c.args.byte 97 (omega arith), le-leb c.args.byte 102 (omega arith)) (search rules)

pub returns : goal.returns
unfolding digit_of
returns c =
    rw (le-ltb c.args.byte 48 (omega arith), lt-leb c.args.byte 57 (omega arith), le-ltb c.args.byte 97 (omega arith), lt-leb c.args.byte 102 (omega arith)) (search rules)
