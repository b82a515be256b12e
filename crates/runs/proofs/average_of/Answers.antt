-- `average_of` adds four runs, which fit, and takes a quarter. Assumes nothing.
use mathlib.Core.Path.{refl}
use native.Mathlib.Omega.{arith}
use lib.Dec.{lit<}
use Rattle.runs.specs.Mark.{average}
use Rattle.runs.proofs.average_of.Goals as goal

pub overflow_add-result : goal.overflow_add-result
overflow_add-result c = omega (arith, c.requires 0 (lit< tt), c.requires 1 (lit< tt), c.requires 3 (lit< tt), c.requires 4 (lit< tt))

pub overflow_add-result-2 : goal.overflow_add-result-2
overflow_add-result-2 c = omega (arith, c.requires 0 (lit< tt), c.requires 1 (lit< tt), c.requires 3 (lit< tt), c.requires 4 (lit< tt))

pub overflow_add-result-3 : goal.overflow_add-result-3
overflow_add-result-3 c = omega (arith, c.requires 0 (lit< tt), c.requires 1 (lit< tt), c.requires 3 (lit< tt), c.requires 4 (lit< tt))

pub returns : goal.returns
unfolding average
returns c = (refl, omega (arith, c.requires 0 (lit< tt), c.requires 1 (lit< tt), c.requires 3 (lit< tt), c.requires 4 (lit< tt)))
