-- The first stones of a list, copied over the front of an array: a ranking does not see the difference. Assumes nothing.
use mathlib.Core.Path.{◌≡◌, ◌∙◌}
use Prim.Native.Nat.{ℕ, ◌<◌, ◌≤◌}
use native.Mathlib.Decide.{dec_le}
use native.Mathlib.Omega.{arith}
use mathlib.Core.Logic.{by_cases}
use mathlib.Core.List.{List, ◌++◌}
use lib.ListN.{length, take, drop}
use lib.Seq.{length-take-le}
use Rattle.std.proofs.lemmas.List.{take_at}
use borrow.Author.Tests.{lt-ltb, le-ltb}
use Rattle.refusals.specs.Limits.{most_stones}
use Rattle.capstones.specs.declared.CapStone.{CapStone}
use Rattle.match_capstones.specs.Answer.{ranking}
use Rattle.neighbors.specs.Most.{fewer}

-- s is the first k of l, and stands in front of what is left of a
pub gathered : (l a s : List CapStone) (k n : ℕ) → s ≡ take k l → k ≡ n → n ≤ length l → take n (s ++ drop k a) ≡ take n l
gathered l a s k n e same h = rw (e, same) (take_at (take n l) (drop n a) n (omega (arith, length-take-le n l h)))

pub fewer_all : (n : ℕ) → n ≤ most_stones → fewer n ≡ n
unfolding fewer
fewer_all n few = by_cases (dec_le most_stones n) (λ l. let e : most_stones ≡ n = omega arith in rw (le-ltb n most_stones l) e) (λ m. rw (lt-ltb n most_stones (omega arith)))

pub fewer_low : (n : ℕ) → (fewer n ≤ n) × (fewer n ≤ most_stones)
unfolding fewer
fewer_low n =
    by_cases (dec_le most_stones n)
    (λ l. let e = le-ltb n most_stones l in (rw e l, rw e (omega arith)))
    (λ m. let e = lt-ltb n most_stones (omega arith) in (rw e (omega arith), rw e (omega arith)))

-- two lists with the same first n stones, where n are no more than 64, rank alike
pub ranking_alike : (a l : List CapStone) (n idx : ℕ) → (n ≤ most_stones → take n a ≡ take n l) → ranking a n idx ≡ ranking l n idx
unfolding ranking
ranking_alike a l n idx same = by_cases (dec_le n most_stones) (λ few. rw (same few)) (λ m. let many : most_stones < n = omega arith in rw (lt-ltb most_stones n many))

-- an array with l's first stones in front, as many as a ranking looks at, ranks as l does
pub ranked_alike : (a l s : List CapStone) (k idx : ℕ) → s ≡ take k l → k ≡ fewer (length l) → ranking (s ++ drop k a) (length l) idx ≡ ranking l (length l) idx
ranked_alike a l s k idx e same = ranking_alike (s ++ drop k a) l (length l) idx (λ few. gathered l a s k (length l) e (same ∙ fewer_all (length l) few) (omega arith))

pub front_length : (a : List CapStone) (k : ℕ) → k ≤ length a → length (take k a) ≡ k
front_length a k h = length-take-le k a h
