-- The shares 1, 1, 3, 1, 1: the tests of single runs, the middle one first, make the test of all. Assumes nothing.
use Prim.Native.Nat.{ℕ, ◌*◌}
use native.Mathlib.Omega.{arith}
use mathlib.Core.Path.{◌≡◌}
use mathlib.Core.Bool.{Bool, true, false, ◌&&◌}
use mathlib.Core.List.{List}
use lib.ListN.{get_or}
use Rattle.runs.specs.Mark.{average, near, error, all_near, mark_like}

-- a test that follows one that holds
pub then_tested : {a b v : Bool} → a ≡ true → v ≡ b → v ≡ a && b
then_tested on is = rw (on, is)

-- and one that does not follow
pub else_untested : {a v : Bool} (b : Bool) → a ≡ false → v ≡ a → v ≡ a && b
else_untested b off is = rw (is, off)

-- five tests, the middle one first
middle_first : (a b c d e : Bool) → (c && a && b && d && e) ≡ (e && (d && (c && (b && (a && true)))))
middle_first a b c d e = grind arith

module _ (runs : List ℕ) {avg : ℕ} (is : avg ≡ average runs) where
  pub mark_tests : {v0 v1 v2 v3 : Bool}
      → v0 ≡ near (get_or runs 2 0) (3 * avg) (error avg)
      → v1 ≡ (v0 && near (get_or runs 0 0) avg (error avg))
      → v2 ≡ (v1 && near (get_or runs 1 0) avg (error avg))
      → v3 ≡ (v2 && near (get_or runs 3 0) avg (error avg))
      → (v3 && near (get_or runs 4 0) avg (error avg)) ≡ mark_like runs
  unfolding mark_like all_near
  mark_tests e0 e1 e2 e3 =
      let one : 1 * avg ≡ avg = omega arith in
      let plain = λ (k : ℕ). near (get_or runs k 0) avg (error avg) in
      rw (← is, one, e3, e2, e1, e0) (middle_first (plain 0) (plain 1) (near (get_or runs 2 0) (3 * avg) (error avg)) (plain 3) (plain 4))
