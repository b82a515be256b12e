-- One outcome stands in one way: array, count and verdict are determined by it. Assumes nothing.
use Rattle.std.specs.Prelude.{Result, Ok, Err}
use Rattle.refusals.specs.declared.Refusal.{Refusal}
use Prim.Native.Nat.{ℕ}
use native.Mathlib.Omega.{arith}
use mathlib.Core.Path.{◌≡◌, refl, sym, ap, ◌∙◌}
use mathlib.Core.List.{List}
use Rattle.refusals.proofs.Distinct.{refusal_only}
use Rattle.laid.specs.Laid.{told, count_in, laid_out, outcome, Laid}

verdict_only : {A : Type 0} (u v : Result (Unit {0}) Refusal) (k l : List A) → told u k ≡ told v l → u ≡ v
unfolding told
verdict_only (Ok u) (Ok v) k l e = refl
verdict_only (Ok u) (Err b) k l e = let z : ◌≡◌ {A = ℕ} 0 1 = cc in absurd (omega arith)
verdict_only (Err a) (Ok u) k l e = let z : ◌≡◌ {A = ℕ} 0 1 = cc in absurd (omega arith)
verdict_only (Err a) (Err b) k l e = ap Err (refusal_only {a = a} {b = b} e)

pub laid_same : {A : Type 0} (most : ℕ) (blank : A) {u v : (Result (Unit {0}) Refusal)} {m n : ℕ} {a b : List A} → outcome most blank u m a ≡ outcome most blank v n b
    → Laid most blank u m a → Laid most blank v n b → (u ≡ v) × (m ≡ n) × (a ≡ b)
laid_same most blank {u} {v} {m} {n} {a} {b} e X Y =
    (verdict_only u v _ _ e, X.count ∙ ap count_in e ∙ sym Y.count, X.is ∙ ap (laid_out most blank) e ∙ sym Y.is)
