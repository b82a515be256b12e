-- What a trial keeps depends on its score only as far as that exceeds the best so far. Assumes nothing.
use native.Mathlib.Nat.{le_refl}
use mathlib.Core.Path.{◌≡◌, refl}
use mathlib.Core.Bool.{Bool, true, false, cond}
use borrow.Author.Tests.{le-ltb}
use lib.IntN.{ℤ, pos, negsuc}
use lib.Signed.{lt_z}
use Rattle.refusals.specs.Finding.{Finding, found, refused}
use Rattle.geometry.specs.declared.Perspective.{Perspective}
use Rattle.beyond.specs.Capped.{capped}
use Rattle.refine.specs.Refine.{scored, better, judged}
use Rattle.refine.specs.declared.Refined.{Refined}

-- no score is higher than itself
not_itself : (z : ℤ) → lt_z z z ≡ false
not_itself (pos n) = le-ltb n n (le_refl n)
not_itself (negsuc n) = le-ltb n n (le_refl n)

-- a trial's score can be taken for what it is worth against the best
judged_capped : (best : Refined) (c : Perspective) (f : Finding ℤ) → judged best (scored c (capped best.score f)) ≡ judged best (scored c f)
unfolding judged scored better capped
judged_capped best c (found z) = go (lt_z best.score z) refl
  where
    go : (t : Bool) → lt_z best.score z ≡ t → judged best (scored c (found (cond t z best.score))) ≡ judged best (scored c (found z))
    go true e = refl
    go false e = rw (not_itself best.score, e)
judged_capped best c (refused n) = refl

-- two scores that are worth the same against the best are judged alike
pub judged_alike : (best : Refined) (c : Perspective) (f g : Finding ℤ) → capped best.score f ≡ capped best.score g → judged best (scored c f) ≡ judged best (scored c g)
judged_alike best c f g e = rw (← judged_capped best c f, ← judged_capped best c g, e)
