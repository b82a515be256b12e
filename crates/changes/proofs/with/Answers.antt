-- `with` writes the one coefficient that it is asked for, arm by arm. Assumes nothing.
use borrow.Author.Tests.{ne_eqb}
use Rattle.changes.specs.Change.{replaced}
use Rattle.changes.proofs.with.Goals as goal

pub returns-in-0 : goal.returns-in-0
unfolding replaced
returns-in-0 c = rw c.in-0.is

pub returns-in-1 : goal.returns-in-1
unfolding replaced
returns-in-1 c = rw c.in-1.is

pub returns-in-2 : goal.returns-in-2
unfolding replaced
returns-in-2 c = rw c.in-2.is

pub returns-in-3 : goal.returns-in-3
unfolding replaced
returns-in-3 c = rw c.in-3.is

pub returns-in-4 : goal.returns-in-4
unfolding replaced
returns-in-4 c = rw c.in-4.is

pub returns-in-5 : goal.returns-in-5
unfolding replaced
returns-in-5 c = rw c.in-5.is

pub returns-in-6 : goal.returns-in-6
unfolding replaced
returns-in-6 c = rw c.in-6.is

pub returns-in-7 : goal.returns-in-7
unfolding replaced
returns-in-7 c = rw c.in-7.is

pub returns-in_default : goal.returns-in_default
unfolding replaced
returns-in_default c =
    rw (ne_eqb _ 0 c.in_default.in_default-own.rest.0.0.0.0.0.0.0.1, ne_eqb _ 1 c.in_default.in_default-own.rest.0.0.0.0.0.0.1, ne_eqb _ 2 c.in_default.in_default-own.rest.0.0.0.0.0.1, ne_eqb _ 3 c.in_default.in_default-own.rest.0.0.0.0.1, ne_eqb _ 4 c.in_default.in_default-own.rest.0.0.0.1, ne_eqb _ 5 c.in_default.in_default-own.rest.0.0.1, ne_eqb _ 6 c.in_default.in_default-own.rest.0.1, ne_eqb _ 7 c.in_default.in_default-own.rest.1)
