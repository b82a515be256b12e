-- `passed_by` goes by the size of the newest entry. Assumes nothing.
use Prim.Native.Nat.{◌<◌}
use native.Mathlib.Omega.{arith}
use mathlib.Core.Path.{◌≡◌, sym, ◌∙◌}
use lib.ListN.{length}
use borrow.Author.Rules.{rules}
use borrow.Author.Tests.{eq-eqb, ne_eqb}
use Rattle.alignment.specs.Glide.{newest_of, passed_of}
use Rattle.alignment.proofs.Passing.{newest_below}
use Rattle.alignment.proofs.glide.passed_by.Goals as goal

pub returns-then-table-eq0 : goal.returns-then-table-eq0
unfolding passed_of
returns-then-table-eq0 c = rw (eq-eqb _ _ c.if-table-eq0.true)

pub offset_bounds-table-number : goal.offset_bounds-table-number
offset_bounds-table-number c =
    let number_few : newest_of c.args.table < 251 =
    let age : length c.args.table.age ≡ 251 = search rules in
    let none : c.args.table.n ≡ 0 → ⊥ = c.if-table-eq0.false in
    let low = newest_below (omega arith) c.requires.0 (omega arith) in
    omega (arith, c.requires.0.few)
    in
    omega (arith, number_few)

pub bounds-table-number : goal.bounds-table-number
bounds-table-number c =
    let number_few : newest_of c.args.table < 251 =
    let age : length c.args.table.age ≡ 251 = search rules in
    let none : c.args.table.n ≡ 0 → ⊥ = c.if-table-eq0.false in
    let low = newest_below (omega arith) c.requires.0 (omega arith) in
    omega (arith, c.requires.0.few)
    in
    number_few

pub returns-then-is_size_like : goal.returns-then-is_size_like
unfolding passed_of
returns-then-is_size_like c = rw (ne_eqb _ _ c.if-table-eq0.false, sym c.is_size_like.ensures ∙ c.if-is_size_like.true)

pub overflow_add-result : goal.overflow_add-result
overflow_add-result c =
    let number_few : newest_of c.args.table < 251 =
    let age : length c.args.table.age ≡ 251 = search rules in
    let none : c.args.table.n ≡ 0 → ⊥ = c.if-table-eq0.false in
    let low = newest_below (omega arith) c.requires.0 (omega arith) in
    omega (arith, c.requires.0.few)
    in
    omega (arith, number_few)

pub returns : goal.returns
unfolding passed_of
returns c = rw (ne_eqb _ _ c.if-table-eq0.false, sym c.is_size_like.ensures ∙ c.if-is_size_like.false)
