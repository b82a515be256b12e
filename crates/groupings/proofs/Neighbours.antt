-- The pairs of a centre, as a ranking lays them out: they are counted, each is of three different stones, and no ranking is refused. Assumes nothing.
use Rattle.std.specs.Prelude.{Ok, Err}
use Prim.Native.Nat.{ℕ, ◌-◌, ◌≤◌, ◌<◌}
use native.Mathlib.Omega.{arith}
use mathlib.Core.Path.{◌≡◌, sym, ap, ◌∙◌, subst}
use mathlib.Core.List.{List, ◌++◌}
use lib.ListN.{length, get_or, take, replicate, get_or-append}
use lib.Seq.{length-take-le, take-append_seam}
use Rattle.refusals.specs.Limits.{most_stones}
use Rattle.refusals.specs.Finding.{Finding, found}
use Rattle.refusals.specs.declared.Refusal.{Refusal}
use Rattle.table.specs.declared.Table.{Table}
use Rattle.capstones.specs.declared.CapStone.{CapStone}
use Rattle.match_capstones.specs.All.{All}
use Rattle.match_capstones.specs.Proper.{Proper}
use Rattle.match_capstones.specs.Answer.{most_pairs, meaning, pairs_of, ranking, no_pair, counted, laid_out, Tells}
use Rattle.match_capstones.specs.declared.Pair.{Pair}
use Rattle.match_capstones.specs.declared.Ranked.{Ranked}
use Rattle.match_capstones.proofs.Refusals.{ranking_found}
use Rattle.match_capstones.proofs.Pairs.{pairs_proper, pairs_few}
use Rattle.groupings.specs.Groups.{PairsTried}
use Rattle.groupings.specs.declared.Trio.{Trio}
use Rattle.groupings.proofs.Front.{all_at, pairs_front}

same_count : (m n : ℕ) → found m ≡ found n → m ≡ n
same_count m n e = cc

module _ (stones : List CapStone) (n idx : ℕ) (few : n ≤ most_stones) (whole : n ≤ length stones) (low : idx < n) (r : Ranked) (t : Tells (ranking stones n idx) r) where
  abbrev pairs : List Pair
  pairs = pairs_of (take n stones) idx

  is_found : ranking stones n idx ≡ found pairs
  is_found = ranking_found stones n idx few low

  long : length (take n stones) ≡ n
  long = length-take-le n stones whole

  proper : All (Proper n idx) pairs
  proper = subst (λ (m : ℕ). All (Proper m idx) pairs) long (pairs_proper (take n stones) idx)

  pub not_refused : (why : Refusal) → r.answer ≡ Err why → ⊥
  not_refused why e = let f = sym t.answer in let g = ap meaning e in let k = ap counted is_found in let z : ◌≡◌ {A = ℕ} 0 1 = cc in absurd (omega arith)

  module _ (count : ℕ) (e : r.answer ≡ Ok count) where
    count_is : count ≡ length pairs
    count_is = same_count count (length pairs) (sym (ap meaning e) ∙ t.answer ∙ ap counted is_found)

    laid : r.pairs ≡ pairs ++ replicate (most_pairs - length pairs) no_pair
    unfolding laid_out
    laid = t.pairs ∙ ap laid_out is_found

    pub count_few : count ≤ most_pairs
    count_few = omega (arith, count_is, pairs_few (take n stones) idx (omega (arith, long)) (omega (arith, long)))

    pub each_proper : (k : ℕ) → k < count → Proper n idx (get_or r.pairs k no_pair)
    each_proper k below =
        let in_list : k < length pairs = omega (arith, count_is) in
        let same : get_or r.pairs k no_pair ≡ get_or pairs k no_pair = ap (λ (l : List Pair). get_or l k no_pair) laid ∙ get_or-append pairs (replicate (most_pairs - length pairs) no_pair) no_pair k in_list in
        subst (Proper n idx) (sym same) (all_at k no_pair proper in_list)

    first_are : take count r.pairs ≡ pairs
    first_are =
        ap (λ (l : List Pair). take count l) laid
        ∙ ap (λ (k : ℕ). take k (pairs ++ replicate (most_pairs - length pairs) no_pair)) count_is
        ∙ take-append_seam pairs (replicate (most_pairs - length pairs) no_pair)

    pub from_array : {p : List ℕ} {w h : ℕ} {T : Table} {groups : List Trio} {f : Finding (List Trio)} → PairsTried p w h T stones idx (take count r.pairs) groups f → PairsTried p w h T (take n stones) idx pairs groups f
    from_array {p} {w} {h} {T} {groups} {f} S = pairs_front low proper (subst (λ (l : List Pair). PairsTried p w h T stones idx l groups f) first_are S)
