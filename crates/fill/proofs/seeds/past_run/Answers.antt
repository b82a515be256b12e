-- `past_run` answers the first column that shows another byte. Assumes nothing.
use Rattle.std.proofs.Common.{arith, rules, ◌≡◌, ◌+◌, ◌-◌, ◌<◌, ◌≤◌, ℕ, get_or}
use Rattle.fill.proofs.Stretches.{run_is}
use Rattle.fill.proofs.seeds.past_run.Goals as goal

pub returns : goal.returns
returns c =
    let before : (k : ℕ) → c.args.x ≤ k → k < c.first_column.result → get_or c.args.pic.now (c.args.base + k) 0 ≡ c.args.from = λ k a b. let t = c.first_column.ensures.before k a b in search rules in
    let shown : c.first_column.result < c.args.end → get_or c.args.pic.now (c.args.base + c.first_column.result) 0 ≡ c.args.from → ⊥ = λ a. let t = c.first_column.ensures.shown a in search rules in
    run_is _ _ _ (c.args.end - c.args.x) c.args.x c.args.end _ (omega arith) (omega arith) (omega arith) before shown
