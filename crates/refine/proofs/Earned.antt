-- What refinement earns: the score answered is that of the perspective answered, and no lower than the score at the start. It holds whatever scores perspectives. Assumes nothing.
use Prim.Native.Nat.{ℕ, zero, suc}
use native.Mathlib.Omega.{arith}
use mathlib.Core.Path.{◌≡◌, refl}
use mathlib.Core.Bool.{Bool, true, false, not, cond}
use lib.Dec.{T, ltb→lt}
use lib.IntN.{ℤ, pos, negsuc}
use lib.Signed.{lt_z, ◌<ℤ◌, ◌≤ℤ◌, lt_z_yes, lt_z_no, ≤ℤ_refl, <ℤ-≤ℤ_trans}
use Rattle.refusals.specs.Finding.{Finding, found, refused}
use Rattle.geometry.specs.declared.Perspective.{Perspective}
use Rattle.cell_fitness.specs.Seen.{ratio}
use Rattle.refine.specs.Adjust.{scaled, adjustments, adjusted}
use Rattle.refine.specs.Refine.{scored, better, judged, trial, trials, passes, refined}
use Rattle.refine.specs.declared.Refined.{Refined}

-- ---- a number that rises from no less than another is no less
asym : (a b : ℤ) → T (lt_z a b) → T (lt_z b a) → ⊥
asym (pos a) (pos b) h k = let p = ltb→lt a b h in let q = ltb→lt b a k in omega arith
asym (pos a) (negsuc b) h k = h
asym (negsuc a) (pos b) h k = k
asym (negsuc a) (negsuc b) h k = let p = ltb→lt b a h in let q = ltb→lt a b k in omega arith

by_test : {A : Type 0} (t : Bool) → (T t → A) → (T (not t) → A) → A
by_test true f g = f tt
by_test false f g = g tt

rises : {floor best new : ℤ} → floor ≤ℤ best → best <ℤ new → floor ≤ℤ new
rises {floor} {best} {new} h k =
    by_test (lt_z new floor)
    (λ t. let down : new <ℤ floor = lt_z_yes t in absurd (asym new best (<ℤ-≤ℤ_trans down h).lt k.lt))
    (λ t. lt_z_no t)

-- ---- refinement
module _ (score : Perspective → Finding ℤ) (floor : ℤ) where
  -- a perspective beside its score, which is not below the floor
  pub record Earned (r : Refined) : Type 0 where
    pub own : score r.c ≡ found r.score
    pub least : floor ≤ℤ r.score

  -- what is found, if anything is, is such
  pub record Sound (f : Finding Refined) : Type 0 where
    pub here : (r : Refined) → f ≡ found r → Earned r

  no_less : (best other : Refined) → Earned best → score other.c ≡ found other.score → Earned (better best other)
  unfolding better
  no_less best other p e = go (lt_z best.score other.score) (λ t. lt_z_yes t)
    where
      go : (t : Bool) → (T t → best.score <ℤ other.score) → Earned (cond t other best)
      go true higher = record { own = e; least = rises p.least (higher tt) }
      go false higher = p

  judged_sound : (best : Refined) (c : Perspective) (g : Finding ℤ) → score c ≡ g → Earned best → Sound (judged best (scored c g))
  unfolding judged scored
  judged_sound best c (found s) e p =
      record { here = λ r same. let other : Refined = record { c = c; score = s } in let q : better best other ≡ r = cc in rw q at (no_less best other p e) }
  judged_sound best c (refused n) e p = record { here = λ r same. let z : ◌≡◌ {A = ℕ} 0 1 = cc in absurd (omega arith) }

  trial_sound : (steps : Perspective) (i : ℕ) (f : Finding Refined) → Sound f → Sound (trial score steps i f)
  unfolding trial
  trial_sound steps i (found best) p = judged_sound best (adjusted steps best.c i) (score (adjusted steps best.c i)) refl (p.here best refl)
  trial_sound steps i (refused n) p = record { here = λ r same. let z : ◌≡◌ {A = ℕ} 0 1 = cc in absurd (omega arith) }

  trials_sound : (steps : Perspective) (n : ℕ) (f : Finding Refined) → Sound f → Sound (trials score steps n f)
  unfolding trials
  trials_sound steps zero f p = p
  trials_sound steps (suc n) f p = trial_sound steps n (trials score steps n f) (trials_sound steps n f p)

  passes_sound : (steps : Perspective) (n : ℕ) (f : Finding Refined) → Sound f → Sound (passes score steps n f)
  unfolding passes
  passes_sound steps zero f p = p
  passes_sound steps (suc n) f p = trials_sound (adjustments steps n) 16 (passes score steps n f) (passes_sound steps n f p)

  start_sound : (c : Perspective) → score c ≡ found floor → Sound (scored c (score c))
  unfolding scored
  start_sound c e =
      let start : Refined = record { c = c; score = floor } in
      let fine : Earned start = record { own = e; least = ≤ℤ_refl floor } in
      rw e (record { here = λ r same. let q : start ≡ r = cc in rw q at fine })

-- the score answered is the fitness of the perspective answered, and at least that of the start
pub refined_earned : (score : Perspective → Finding ℤ) (c : Perspective) (s : ℤ) (r : Refined) → score c ≡ found s → refined score c ≡ found r → Earned score s r
unfolding refined
refined_earned score c s r e q = (passes_sound score s (scaled c (ratio 2 100)) 5 (scored c (score c)) (start_sound score s c e)).here r q
