-- The estimate: it is an area that an i32 holds, it is at most 10,000 where it is not refused, and it is determined. Assumes nothing.
use Rattle.std.specs.Prelude.{Result, Ok, Err}
use Rattle.refusals.specs.declared.Refusal.{Refusal}
use Prim.Native.Nat.{ℕ, ◌^◌, ◌≤◌, ◌<◌}
use native.Mathlib.Nat.{lt_of_le_of_lt}
use native.Mathlib.Omega.{arith}
use mathlib.Core.Path.{◌≡◌, refl, sym, ap, ◌∙◌}
use mathlib.Core.Bool.{Bool, false, true, cond}
use lib.Dec.{ltb, lit<}
use lib.IntN.{nat_abs, neg_ℤ, ◌-ℤ◌}
use borrow.Author.Tests.{ltb-false}
use Rattle.refusals.specs.Limits.{farthest}
use Rattle.refusals.specs.Finding.{Finding, found, refused, refused_by}
use Rattle.refusals.specs.declared.Refusal.TheVariants as refusal
use Rattle.refusals.proofs.Distinct.{refusal_only}
use Rattle.points.specs.Range.{Near}
use Rattle.points.specs.declared.Point.{Point}
use Rattle.sizes.proofs.Size.{size_neg, size_dot}
use Rattle.geometry.specs.declared.Perspective.{Perspective}
use Rattle.corners.specs.Scores.{line_from}
use Rattle.corners.proofs.Small.{way_direction}
use Rattle.groups.specs.Side.{side_of}
use Rattle.groups.proofs.Beside.{side_is}
use Rattle.alignment.specs.Estimate.{meaning, area_of, estimate_by, estimate_between, estimate_of}

module _ (seed a c : Point) where
  -- the area is how far a lies beside the line from the seed to c, times the length of that line
  pub area_is : nat_abs (side_of seed (line_from seed c) a) ≡ area_of seed a c
  unfolding area_of line_from
  area_is = ap nat_abs (side_is seed (line_from seed c) a)

  pub area_low : Near seed → Near a → Near c → nat_abs (side_of seed (line_from seed c) a) < 2 ^ 31
  unfolding line_from
  area_low S A C =
      let across = way_direction S A in
      let down = way_direction S C in
      let size = size_neg (c.y -ℤ seed.y) in
      rw (side_is seed (line_from seed c) a)
      (lt_of_le_of_lt (size_dot (a.x -ℤ seed.x) (neg_ℤ (c.y -ℤ seed.y)) (a.y -ℤ seed.y) (c.x -ℤ seed.x) 20000 20000 20000 20000 across.x.low (omega (arith, down.y.low)) across.y.low down.x.low) (lit< tt))

-- an answer is found, or refused, and not both
clash : {A B : Type 0} {a : A} {n : ℕ} → refused n ≡ found a → B
clash e = let z : ◌≡◌ {A = ℕ} 0 1 = cc in absurd (omega arith)

told : (size n : ℕ) (b : Bool) → cond b (refused_by refusal.Far) (found size) ≡ found n → (b ≡ false) × (size ≡ n)
told size n true e = clash e
told size n false e = (refl, (cc))

by_few : (seed a c : Point) (n : ℕ) → estimate_by seed a c ≡ found n → n ≤ farthest
unfolding estimate_by
by_few seed a c n e = let t = told (area_of seed a c) n (ltb farthest (area_of seed a c)) e in omega (arith, ltb-false farthest (area_of seed a c) t.0, t.1)

between_few : (seed : Point) (down right : Finding Point) (n : ℕ) → estimate_between seed down right ≡ found n → n ≤ farthest
unfolding estimate_between
between_few seed (found a) (found c) n e = by_few seed a c n e
between_few seed (found a) (refused m) n e = clash e
between_few seed (refused m) right n e = clash e

-- an estimate that is not refused is low enough for the search
pub estimate_few : (c0 c2 : Perspective) (seed : Point) (n : ℕ) → estimate_of c0 c2 seed ≡ found n → n ≤ farthest
unfolding estimate_of
estimate_few c0 c2 seed n e = between_few seed _ _ n e

meaning_only : (a b : Result ℕ Refusal) → meaning a ≡ meaning b → a ≡ b
meaning_only (Ok m) (Ok n) e = ap Ok (cc)
meaning_only (Ok m) (Err r) e = clash (sym e)
meaning_only (Err q) (Ok n) e = clash e
meaning_only (Err q) (Err r) e = ap Err (refusal_only {a = q} {b = r} e)

-- two answers that the contract allows coincide
pub estimate_only : (a b : Result ℕ Refusal) (f : Finding ℕ) → meaning a ≡ f → meaning b ≡ f → a ≡ b
estimate_only a b f p q = meaning_only a b (p ∙ sym q)
