-- How many sets two lists make: at most one for each neighbour of one and each of the other, and 992 where there are no more than 63 in all. Assumes nothing.
use Prim.Native.Nat.{ℕ, suc, ◌+◌, ◌*◌, ◌-◌, ◌≤◌, ◌<◌}
use native.Mathlib.Nat.{mul_comm, suc-mul, mul-add, mul-le-mul_left, mul-le-mul_right}
use native.Mathlib.Decide.{dec_le}
use native.Mathlib.Omega.{arith}
use mathlib.Core.Path.{◌≡◌}
use mathlib.Core.Logic.{by_cases}
use mathlib.Core.List.{List, ◌++◌}
use lib.ListN.{length, length-append}
use Rattle.match_capstones.specs.Scores.{viable, set_of, one_set, sets_of, made}
use Rattle.match_capstones.specs.declared.Neighbor.{Neighbor}
use Rattle.match_capstones.proofs.Next.{flat_map_few, only_few}

sets_few : (vns : List Neighbor) (hn : Neighbor) → length (sets_of vns hn) ≤ length vns
sets_few vns hn = omega (arith, flat_map_few (one_set hn) 1 (λ vn. only_few (viable (set_of hn vn).score) (set_of hn vn)) vns)

pub made_few : (hns vns : List Neighbor) → length (made hns vns) ≤ length hns * length vns
made_few hns vns = flat_map_few (sets_of vns) (length vns) (sets_few vns) hns

-- with h and v at most 63, the smaller of them is 31 - k, and the other at most 32 + k
smaller_first : (h v : ℕ) → h ≤ 31 → h + v ≤ 63 → h * v ≤ 992
smaller_first h v low all =
    let k = 31 - h in
    let wide : h * v ≤ h * (32 + k) = mul-le-mul_left h (omega arith) in
    let parts : h * (32 + k) ≡ h * 32 + h * k = mul-add h 32 k in
    let short : h * k ≤ 31 * k = mul-le-mul_right k low in
    omega arith

pub product_few : (h v : ℕ) → h + v ≤ 63 → h * v ≤ 992
product_few h v all =
    by_cases (dec_le h 31) (λ low. smaller_first h v low all) (λ high. rw (mul_comm h v) (smaller_first v h (omega arith) (omega arith)))

-- beside the sets of some neighbours of the first list, and of one more with some of the second, there is room for one
pub room_for_one : (hns vns some : List Neighbor) (hn : Neighbor) → length hns + 1 + length vns ≤ 63 → length some < length vns → length (made hns vns ++ sets_of some hn) < 992
room_for_one hns vns some hn all part =
    simp length-append
    (omega (arith, made_few hns vns, sets_few some hn, suc-mul (length hns) (length vns), product_few (suc (length hns)) (length vns) (omega arith)))
