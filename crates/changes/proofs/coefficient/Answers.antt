-- `coefficient` reads the coefficient that it is asked for, arm by arm. Assumes nothing.
use borrow.Author.Tests.{ne_eqb}
use Rattle.changes.specs.Change.{coefficient}
use Rattle.changes.proofs.coefficient.Goals as goal

pub returns-in-0 : goal.returns-in-0
unfolding coefficient
returns-in-0 c = rw c.in-0.is

pub returns-in-1 : goal.returns-in-1
unfolding coefficient
returns-in-1 c = rw c.in-1.is

pub returns-in-2 : goal.returns-in-2
unfolding coefficient
returns-in-2 c = rw c.in-2.is

pub returns-in-3 : goal.returns-in-3
unfolding coefficient
returns-in-3 c = rw c.in-3.is

pub returns-in-4 : goal.returns-in-4
unfolding coefficient
returns-in-4 c = rw c.in-4.is

pub returns-in-5 : goal.returns-in-5
unfolding coefficient
returns-in-5 c = rw c.in-5.is

pub returns-in-6 : goal.returns-in-6
unfolding coefficient
returns-in-6 c = rw c.in-6.is

pub returns-in_default : goal.returns-in_default
unfolding coefficient
returns-in_default c =
    rw (ne_eqb _ 0 c.in_default.in_default-own.rest.0.0.0.0.0.0.1, ne_eqb _ 1 c.in_default.in_default-own.rest.0.0.0.0.0.1, ne_eqb _ 2 c.in_default.in_default-own.rest.0.0.0.0.1, ne_eqb _ 3 c.in_default.in_default-own.rest.0.0.0.1, ne_eqb _ 4 c.in_default.in_default-own.rest.0.0.1, ne_eqb _ 5 c.in_default.in_default-own.rest.0.1, ne_eqb _ 6 c.in_default.in_default-own.rest.1)
