-- What a ranking tells determines it: two that tell the same finding are the same. Assumes nothing.
use Rattle.std.specs.Prelude.{Result, Ok, Err}
use Rattle.refusals.specs.declared.Refusal.{Refusal}
use Prim.Native.Nat.{ℕ}
use native.Mathlib.Omega.{arith}
use mathlib.Core.Path.{◌≡◌, sym, ap, ap₂, ◌∙◌}
use mathlib.Core.List.{List}
use Rattle.refusals.specs.Finding.{Finding}
use Rattle.refusals.proofs.Distinct.{number_only}
use Rattle.match_capstones.specs.Answer.{meaning, Tells}
use Rattle.match_capstones.specs.declared.Pair.{Pair}
use Rattle.match_capstones.specs.declared.Ranked.{Ranked}

pub meaning_only : (a b : Result ℕ Refusal) → meaning a ≡ meaning b → a ≡ b
meaning_only (Ok m) (Ok n) e = ap Ok (cc)
meaning_only (Ok m) (Err y) e = let z : ◌≡◌ {A = ℕ} 0 1 = cc in absurd (omega arith)
meaning_only (Err x) (Ok n) e = let z : ◌≡◌ {A = ℕ} 0 1 = cc in absurd (omega arith)
meaning_only (Err x) (Err y) e = ap Err (number_only (cc))

pub told_once : {finding : Finding (List Pair)} {a b : Ranked} → Tells finding a → Tells finding b → a ≡ b
told_once {finding} {a} {b} v w =
    ap₂ (λ (p : List Pair) (r : Result ℕ Refusal). record { pairs = p; answer = r }) (v.pairs ∙ sym w.pairs)
    (meaning_only a.answer b.answer (v.answer ∙ sym w.answer))
