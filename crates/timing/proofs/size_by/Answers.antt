-- `size_by` goes by the larger count. Assumes nothing.
use Prim.Native.Nat.{max}
use native.Mathlib.Omega.{arith}
use borrow.Author.Rules.{rules}
use mathlib.Core.Path.{◌≡◌, sym, ◌∙◌}
use Rattle.timing.proofs.Measures.{none_told, larger_told}
use Rattle.timing.proofs.size_by.Goals as goal

pub returns-then-scan-eq0 : goal.returns-then-scan-eq0
returns-then-scan-eq0 c =
    let larger : c.max-scan.result ≡ max c.args.hscan c.args.vscan = search rules in
    sym (none_told _ _ (sym larger ∙ c.if-scan-eq0.true))

pub grid_size-requires : goal.grid_size-requires
grid_size-requires c =
    let larger : c.max-scan.result ≡ max c.args.hscan c.args.vscan = search rules in
    omega arith

pub returns : goal.returns
returns c =
    let larger : c.max-scan.result ≡ max c.args.hscan c.args.vscan = search rules in
    rw (c.grid_size.ensures, larger) (sym (larger_told _ _ (λ none. c.if-scan-eq0.false (larger ∙ none))))
