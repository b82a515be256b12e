-- What a call tells is determined: the picture that it leaves, the numbers and what it returns. Assumes nothing.
use Prim.Native.Nat.{ℕ}
use native.Mathlib.Omega.{arith}
use mathlib.Core.Path.{◌≡◌, sym, ap, ◌∙◌}
use mathlib.Core.List.{List}
use Rattle.regions.proofs.Unique.{post_unique}
use Rattle.exports_regions.specs.Tells.{status_of, Tells, short, told}

pub tells_determined : {p : List ℕ} {w h lent x y : ℕ} {s p₁ p₂ s₁ s₂ : List ℕ} {n₁ n₂ : ℕ}
    → Tells p w h lent x y p₁ s s₁ n₁ → Tells p w h lent x y p₂ s s₂ n₂ → (p₁ ≡ p₂) × (s₁ ≡ s₂) × (n₁ ≡ n₂)
tells_determined (short few a b c) (short less d e f) = (a ∙ sym d, b ∙ sym e, c ∙ sym f)
tells_determined (short few a b c) (told room f T L d e) = absurd (omega arith)
tells_determined (told room f T L d e) (short few a b c) = absurd (omega arith)
tells_determined {s = s} (told room f T L b c) (told room' g U M d e) =
    let o = post_unique L M in
    (o.1, rw (o.0, o.2) at b ∙ sym d, c ∙ ap status_of o.0 ∙ sym e)
