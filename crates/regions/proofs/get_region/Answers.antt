-- `get_region` answers a claimed piece's colour; else it writes the piece's number to the front of one copy of the table. Assumes nothing.
use Prim.Native.Nat.{◌+◌, ◌*◌, ◌<◌}
use native.Mathlib.Omega.{arith}
use mathlib.Core.Path.{◌≡◌, refl, ap}
use lib.ListN.{length}
use borrow.Author.Rules.{rules}
use Rattle.pieces.specs.Picture.{px}
use Rattle.regions.specs.Found.{claimed}
use Rattle.regions.specs.Lookup.{at_claimed}
use Rattle.regions.proofs.Asks.{seed_place}
use Rattle.regions.proofs.Numbering.{choosable, chosen_low, chosen_place, enterable, numbered_looks}
use Rattle.regions.proofs.get_region.Goals as goal

pub overflow_mul-byte : goal.overflow_mul-byte
overflow_mul-byte c = omega (arith, seed_place c.requires)

pub overflow_add-byte : goal.overflow_add-byte
overflow_add-byte c = omega (arith, seed_place c.requires)

pub bounds-pic-y : goal.bounds-pic-y
bounds-pic-y c = seed_place c.requires

pub returns-then-is_claimed : goal.returns-then-is_claimed
returns-then-is_claimed c =
    let high = c.is_claimed.ensures.0 c.if-is_claimed.true in
    (_, refl, at_claimed (record { low = high.0; high = high.1; answer = ap claimed c.from.ensures; picture = refl; table = refl }))

pub chosen-choice-requires : goal.chosen-choice-requires
chosen-choice-requires c =
    let whole : length c.args.table.age ≡ 251 = search rules in
    choosable c.requires (whole) (c.is_claimed.ensures.1 c.if-is_claimed.false)

pub bounds-u-i : goal.bounds-u-i
bounds-u-i c =
    let whole : length c.args.table.age ≡ 251 = search rules in
    let low : c.chosen-choice.result.number < 251 =
    let byte : px c.args.pic.now c.args.width c.args.x c.args.y < 256 =
    omega (arith, c.slice_known-3-1.given (c.args.y * c.args.width + c.args.x)) in
    chosen_low c.requires (whole) c.chosen-choice.ensures byte
    in
    low

pub enter-entry-requires : goal.enter-entry-requires
enter-entry-requires c =
    let whole : length c.args.table.age ≡ 251 = search rules in
    let low : c.chosen-choice.result.number < 251 =
    let byte : px c.args.pic.now c.args.width c.args.x c.args.y < 256 =
    omega (arith, c.slice_known-3-1.given (c.args.y * c.args.width + c.args.x)) in
    chosen_low c.requires (whole) c.chosen-choice.ensures byte
    in
    enterable c.requires (whole) _ (c.is_claimed.ensures.1 c.if-is_claimed.false) (low)

pub bounds-u-i-2 : goal.bounds-u-i-2
bounds-u-i-2 c =
    let whole : length c.args.table.age ≡ 251 = search rules in
    let low : c.chosen-choice.result.number < 251 =
    let byte : px c.args.pic.now c.args.width c.args.x c.args.y < 256 =
    omega (arith, c.slice_known-3-1.given (c.args.y * c.args.width + c.args.x)) in
    chosen_low c.requires (whole) c.chosen-choice.ensures byte
    in
    low

pub slice_bounds-put_first-end : goal.slice_bounds-put_first-end
slice_bounds-put_first-end c =
    let whole : length c.args.table.age ≡ 251 = search rules in
    let age = whole in
    search (rules, age)

pub put_first-requires : goal.put_first-requires
put_first-requires c =
    let whole : length c.args.table.age ≡ 251 = search rules in
    chosen_place c.requires (whole) c.chosen-choice.ensures

pub returns : goal.returns
returns c =
    let whole : length c.args.table.age ≡ 251 = search rules in
    (_, refl, rw c.put_first.ensures (numbered_looks c.requires (whole) c.chosen-choice.ensures c.enter-entry.ensures))
