-- `rightmost` answers the right end: the column before the first, from x + 1 on, that shows another byte. Assumes nothing.
use Prim.Native.Nat.{ℕ, suc, zero, ◌+◌, ◌-◌, ◌*◌}
use native.Mathlib.Omega.{arith}
use native.Mathlib.Numerals.{add-one}
use mathlib.Core.Path.{◌≡◌, refl, sym, ap, ◌∙◌}
use mathlib.Core.List.{List}
use mathlib.Core.Logic.{⊎_elim}
use lib.ListN.{get_or}
use Rattle.pieces.proofs.Numbers.{same}
use Rattle.fill.specs.Order.{right_end}
use Rattle.fill.specs.Stretch.{past_run}
use Rattle.fill.proofs.Ends.{right_in_at, right_out_at, right_zero}
use Rattle.fill.proofs.Stretches.{run_none, run_here, run_on}
use Rattle.fill.proofs.runs.rightmost.Goals as goal

-- the bytes f go on after x just to the right end
next : (p : List ℕ) (w f y base : ℕ) → base ≡ y * w → (n x : ℕ) → past_run p base f (suc x) n ≡ suc (right_end p w f y x n)
next p w f y base at zero x = run_none p base f (suc x) 0 refl ∙ ap suc (sym (right_zero p w f y x))
next p w f y base at (suc n) x =
    ⊎_elim
    (λ h. run_on p base f (suc x) (suc (suc x)) (suc n) n refl refl h ∙ next p w f y base at n (suc x) ∙ ap suc (sym (right_in_at p w f y base at x (suc x) (suc n) n refl refl h)))
    (λ h. run_here p base f (suc x) (suc n) n refl h ∙ ap suc (sym (right_out_at p w f y base at x (suc x) (suc n) n refl refl h)))
    (same (get_or p (base + suc x) 0) f)

pub overflow_sub-result : goal.overflow_sub-result
overflow_sub-result c =
    let n = c.args.w - 1 - c.args.x in
    let d : c.args.w - (c.args.x + 1) ≡ n = omega arith in
    let e = next c.args.pic.now c.args.w c.args.from c.args.y c.args.base c.requires.0 n c.args.x in
    rw (c.past_run.ensures, d, add-one, e) (omega arith)

pub returns : goal.returns
returns c =
    let n = c.args.w - 1 - c.args.x in
    let d : c.args.w - (c.args.x + 1) ≡ n = omega arith in
    let e = next c.args.pic.now c.args.w c.args.from c.args.y c.args.base c.requires.0 n c.args.x in
    rw (c.past_run.ensures, d, add-one, e) (omega arith)
