-- `put_rows` lists the rows of a piece that can be claimed, once there are places for them. Assumes nothing.
use Prim.Native.Nat.{◌/◌}
use mathlib.Core.Path.{◌≡◌, refl}
use mathlib.Core.Logic.{inl, inr}
use mathlib.Core.List.{[]}
use native.Mathlib.Nat.{mul-le-mul}
use native.Mathlib.Omega.{arith}
use lib.ListN.{length}
use Rattle.fill.specs.Order.{rows_met}
use Rattle.claim.proofs.Accepted.{claim_fillable, claim_seeded}
use Rattle.told_claims.specs.Rows.{row_numbers, short, lists}
use Rattle.told.proofs.Tell.{tell_refused, tell_values, stored_next}
use Rattle.told_claims.proofs.Listing.{listed_length}
use Rattle.told_claims.proofs.rows.put_rows.Goals as goal

pub overflow_mul-width : goal.overflow_mul-width
overflow_mul-width c =
    let q = (claim_seeded c.args.pic.now c.args.width c.args.height (length c.args.stack.now) c.args.x c.args.y c.args.target c.requires).sized in
    record { fits = omega (arith, mul-le-mul q.wide q.tall) }

pub overflow_mul-width-2 : goal.overflow_mul-width-2
overflow_mul-width-2 c =
    let q = (claim_seeded c.args.pic.now c.args.width c.args.height (length c.args.stack.now) c.args.x c.args.y c.args.target c.requires).sized in
    record { fits = omega (arith, mul-le-mul q.wide q.tall) }

pub returns-then-rows-width : goal.returns-then-rows-width
returns-then-rows-width c = short c.requires (inl c.if-rows-width.true) refl (tell_refused 3 _) (tell_refused 3 _)

pub returns-then-count-lt1 : goal.returns-then-count-lt1
returns-then-count-lt1 c = short c.requires (inr c.if-count-lt1.true) refl (tell_refused 3 _) (tell_refused 3 _)

pub list_rows-written-requires : goal.list_rows-written-requires
list_rows-written-requires c =
    record { fact_1 = claim_fillable c.args.pic.now c.args.width c.args.height (length c.args.stack.now) c.args.x c.args.y c.args.target c.requires; fact_2 = c.if-rows-width.false }

pub returns : goal.returns
unfolding row_numbers
returns c =
    let rows = listed_length (rows_met c.args.pic.now c.args.width c.args.height c.args.x c.args.y c.args.target) in
    let count : c.list_rows-written.result / 3 ≡ length (rows_met c.args.pic.now c.args.width c.args.height c.args.x c.args.y c.args.target) = omega arith in
    lists c.requires c.if-rows-width.false c.if-count-lt1.false c.list_rows-written.ensures.paints (tell_values _ c.list_rows-written.ensures.after_is) (tell_values _ (rw count (stored_next [] _ c.args.count.now c.if-count-lt1.false)))
