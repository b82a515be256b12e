-- `pairs_of` takes over the pairs of the sets passed, and leaves the other places blank. Assumes nothing.
use Prim.Native.Nat.{◌+◌}
use native.Mathlib.Numerals.{add-one}
use native.Mathlib.Omega.{arith}
use mathlib.Core.Path.{◌≡◌, refl, ◌∙◌}
use mathlib.Core.List.{[], ◌∷◌, ◌++◌, map, map-append}
use lib.ListN.{length, get_or, take, length-map}
use lib.Seq.{take-suc, length-take-le}
use Rattle.match_capstones.specs.Answer.{pair_of, no_pair}
use Rattle.match_capstones.proofs.Arrays.{laid_more}
use Rattle.match_capstones.proofs.Next.{no_set}
use Rattle.match_capstones.proofs.rank.pairs_of.Goals as goal

pub loop-i-init : goal.loop-i-init
loop-i-init c = (omega arith, refl)

pub loop-i-preserved : goal.loop-i-preserved
loop-i-preserved c =
    let i = c.loop-i.i in
    let all = c.args.sets.all in
    let one = pair_of (get_or all i no_set) in
    let long : length (map pair_of (take i all)) ≡ i = length-map (take i all) pair_of ∙ length-take-le i all (omega arith) in
    let next : map pair_of (take (i + 1) all) ≡ map pair_of (take i all) ++ (one ∷ []) = rw (add-one, take-suc all i no_set (omega arith), map-append) in
    (omega arith, rw next (laid_more 992 c.loop-i.pairs (map pair_of (take i all)) one no_pair i long (omega arith) c.loop-i.invariant.1))

pub returns : goal.returns
returns c =
    let all : c.loop-i.i ≡ c.args.sets.n = omega arith in
    rw (← all) c.loop-i.invariant.1
