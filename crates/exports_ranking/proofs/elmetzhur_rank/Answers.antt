-- `elmetzhur_rank` ranks once there are places for what it tells, and tells it. Assumes nothing.
use mathlib.Core.Path.{refl, ap, ◌∙◌}
use mathlib.Core.List.{List}
use mathlib.Core.Logic.{inl, inr}
use Prim.Native.Nat.{ℕ}
use Rattle.exports_ranking.specs.Ranks.{count_put, short, told}
use Rattle.exports_ranking.proofs.elmetzhur_rank.Goals as goal

pub returns-then-centers-lt128 : goal.returns-then-centers-lt128
returns-then-centers-lt128 c = short (inl c.if-centers-lt128.true) refl refl

pub returns-then-floats-lt512 : goal.returns-then-floats-lt512
returns-then-floats-lt512 c = short (inr (inl c.if-floats-lt512.true)) refl refl

pub returns-then-pairs-lt1985 : goal.returns-then-pairs-lt1985
returns-then-pairs-lt1985 c = short (inr (inr c.if-pairs-lt1985.true)) refl refl

pub returns : goal.returns
returns c =
    told
    c.if-centers-lt128.false
    c.if-floats-lt512.false
    c.if-pairs-lt1985.false
    c.find_and_rank_possible_neighbors-ranked.result
    (rw c.stones_of-stones.ensures at c.find_and_rank_possible_neighbors-ranked.ensures)
    (c.put_answer.ensures.0 ∙ ap (λ (s : List ℕ). count_put c.find_and_rank_possible_neighbors-ranked.result.answer s) c.put_pairs.ensures)
    c.put_answer.ensures.1
