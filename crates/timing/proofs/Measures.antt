-- What a measured timing pattern tells: where all ends are stated, the larger of two counts that are not both 0; and such a size is some version's. Assumes nothing.
use Rattle.std.specs.Prelude.{Result, Ok, Err}
use Rattle.refusals.specs.declared.Refusal.{Refusal}
use Prim.Native.Nat.{ℕ, ◌+◌, ◌≤◌, max}
use native.Mathlib.Decide.{dec_le}
use native.Mathlib.Omega.{arith}
use borrow.Author.Tests.{eq-eqb, eqb-true}
use mathlib.Core.Path.{◌≡◌, refl, sym, ap, ◌∙◌}
use mathlib.Core.Bool.{Bool, true, false, cond, ◌&&◌}
use mathlib.Core.List.{List}
use mathlib.Core.Logic.{by_cases}
use lib.Dec.{eqb}
use Rattle.refusals.specs.Finding.{Finding, found, refused, refused_by}
use Rattle.refusals.specs.declared.Refusal.TheVariants as refusal
use Rattle.refusals.proofs.Distinct.{refusal_only}
use Rattle.points.specs.declared.Point.{Point}
use Rattle.points.specs.Range.{Near}
use Rattle.geometry.specs.declared.Perspective.{Perspective}
use Rattle.stated.proofs.Reach.{stated_near}
use Rattle.version_db.specs.AnnexE.{size_of, version_of}
use Rattle.timing.specs.Counted.{most_changes, grid_size}
use Rattle.timing.specs.Measure.{meaning, size_by, size_between, measured_between, measured_of}
use Rattle.timing.proofs.Counting.{changes_few}
use Rattle.timing.proofs.Versions.{size_least, size_most, size_of_version}

-- 14 where the larger count is 0, for then both are
pub none_told : (hscan vscan : ℕ) → max hscan vscan ≡ 0 → size_by hscan vscan ≡ refused_by refusal.Timing
unfolding size_by
none_told hscan vscan none = rw (eq-eqb hscan 0 (omega arith), eq-eqb vscan 0 (omega arith))

pub larger_told : (hscan vscan : ℕ) → (max hscan vscan ≡ 0 → ⊥) → size_by hscan vscan ≡ found (grid_size (max hscan vscan))
unfolding size_by
larger_told hscan vscan some = go (eqb hscan 0) (eqb vscan 0) (eqb-true hscan 0) (eqb-true vscan 0)
  where
    go : (s t : Bool) → (s ≡ true → hscan ≡ 0) → (t ≡ true → vscan ≡ 0) → ◌≡◌ {A = Finding ℕ} (cond (s && t) (refused_by refusal.Timing) (found (grid_size (max hscan vscan)))) (found (grid_size (max hscan vscan)))
    go true true f g = let h = f refl in let v = g refl in absurd (some (omega arith))
    go true false f g = refl
    go false t f g = refl

-- ---- a size that was measured

-- it is the size of some version, and no larger than a scan can tell
pub record Measurable (n : ℕ) : Type 0 where
  pub least : 17 ≤ n
  pub most : n ≤ most_changes + 15
  pub whole : n ≡ size_of (version_of n)

-- an answer is found, or refused, and not both
clash : {A B : Type 0} {a : A} {n : ℕ} → refused n ≡ found a → B
clash e = let z : ◌≡◌ {A = ℕ} 0 1 = cc in absurd (omega arith)

counted_size : (hscan vscan n : ℕ) → hscan ≤ most_changes → vscan ≤ most_changes → size_by hscan vscan ≡ found n → Measurable n
counted_size hscan vscan n h v e = by_cases (dec_le (max hscan vscan) 0) none some
  where
    none : max hscan vscan ≤ 0 → Measurable n
    none low = clash (sym (none_told hscan vscan (omega arith)) ∙ e)

    some : (max hscan vscan ≤ 0 → ⊥) → Measurable n
    some high =
        let k = max hscan vscan in
        let told = sym (larger_told hscan vscan (λ z. high (omega arith))) ∙ e in
        let is : grid_size k ≡ n = cc in
        rw (← is) (record { least = size_least k; most = size_most k (omega arith); whole = size_of_version k })

module _ (pic : List ℕ) (width height n : ℕ) where
  between_size : (end0 end1 end2 : Finding Point) → ((p : Point) → end0 ≡ found p → Near p) → ((p : Point) → end1 ≡ found p → Near p) → ((p : Point) → end2 ≡ found p → Near p)
      → measured_between pic width height end0 end1 end2 ≡ found n → Measurable n
  unfolding measured_between size_between
  between_size (found p0) (found p1) (found p2) f g h e =
      let few = changes_few pic width height p1 in
      counted_size _ _ n (few p2 (g p1 refl) (h p2 refl)) (few p0 (g p1 refl) (f p0 refl)) e
  between_size (found p0) (found p1) (refused m) f g h e = clash e
  between_size (found p0) (refused m) end2 f g h e = clash e
  between_size (refused m) end1 end2 f g h e = clash e

  pub measured_size : (c0 c1 c2 : Perspective) → measured_of pic width height c0 c1 c2 ≡ found n → Measurable n
  unfolding measured_of
  measured_size c0 c1 c2 e =
      between_size _ _ _ (λ p q. (stated_near _ p q).1) (λ p q. (stated_near _ p q).1) (λ p q. (stated_near _ p q).1) e

-- ---- two answers that the contract allows coincide

meaning_only : (a b : Result ℕ Refusal) → meaning a ≡ meaning b → a ≡ b
meaning_only (Ok m) (Ok n) e = ap Ok (cc)
meaning_only (Ok m) (Err r) e = clash (sym e)
meaning_only (Err q) (Ok n) e = clash e
meaning_only (Err q) (Err r) e = ap Err (refusal_only {a = q} {b = r} e)

pub measured_only : (a b : Result ℕ Refusal) (f : Finding ℕ) → meaning a ≡ f → meaning b ≡ f → a ≡ b
measured_only a b f p q = meaning_only a b (p ∙ sym q)
