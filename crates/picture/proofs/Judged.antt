-- What a verdict hands on to whoever asked for it: its refusal stands, or none of its tests applies; and that tests leave one verdict. Assumes nothing.
use Rattle.std.specs.Prelude.{Result, Ok, Err}
use mathlib.Core.Path.{◌≡◌, refl, sym, ap, ◌∙◌}
use mathlib.Core.List.{List, ◌++◌}
use Rattle.refusals.specs.Finding.{Finding, refused_by}
use Rattle.refusals.specs.First.{Test, first, sound}
use Rattle.refusals.specs.declared.Refusal.{Refusal}
use Rattle.refusals.proofs.Distinct.{refusal_only}
use Rattle.refusals.proofs.First.{Clear, clear, first_stands}
use Rattle.picture.specs.Verdict.{judged}

-- a refusal is the caller's own, whatever the caller would test or answer after it
pub refusal_stands : {A : Type 0} (tests more : List Test) (answer : Finding A) {v : (Result (Unit {0}) Refusal)} {why : Refusal} → judged v ≡ first tests sound → v ≡ Err why → refused_by why ≡ first (tests ++ more) answer
refusal_stands tests more answer e q = sym (first_stands tests more answer (sym e ∙ ap judged q))

pub sound_clear : (tests : List Test) {v : (Result (Unit {0}) Refusal)} → judged v ≡ first tests sound → v ≡ (Ok tt) → Clear tests
sound_clear tests e q = clear tests (sym e ∙ ap judged q)

same_judged : (a b : Result (Unit {0}) Refusal) → judged a ≡ judged b → a ≡ b
same_judged (Ok u) (Ok v) e = refl
same_judged (Ok u) (Err r) e = cc
same_judged (Err q) (Ok u) e = cc
same_judged (Err q) (Err r) e = ap Err (refusal_only {a = q} {b = r} e)

-- determined: two verdicts that a contract allows coincide
pub judged_only : (a b : Result (Unit {0}) Refusal) (f : Finding (Unit {0})) → judged a ≡ f → judged b ≡ f → a ≡ b
judged_only a b f p q = same_judged a b (p ∙ sym q)
