-- What a row pushes for the line above it and for the line below it. Assumes nothing.
use Prim.Native.Nat.{ℕ, zero, suc, ◌+◌, ◌*◌, ◌<◌, ◌≤◌}
use native.Mathlib.Omega.{arith}
use mathlib.Core.Path.{◌≡◌, refl, ap, subst}
use mathlib.Core.List.{List, []}
use mathlib.Core.Bool.{false}
use mathlib.Core.Logic.{◌⊎◌, inl, inr, ⊎_elim}
use lib.ListN.{length}
use borrow.Author.Tests.{lt-ltb, le-ltb}
use Rattle.pieces.specs.Picture.{px, Pixel, pixel}
use Rattle.pieces.specs.Count.{Mem, Distinct}
use Rattle.pieces.specs.declared.Row.{Row}
use Rattle.pieces.proofs.Numbers.{split}
use Rattle.fill.specs.Order.{width_of, seeds, above, below, seeded}
use Rattle.fill.proofs.Scan.{First, Seed, seeds_keep, seeds_from, seeds_have, seeds_distinct, seeds_length, seeds_few}

-- a scan that starts with its first column has none before it
no_first : (p : List ℕ) (w f y l : ℕ) → First p w f y l l
no_first p w f y l k e g = absurd (omega arith)

module _ (w f : ℕ) (p : List ℕ) (l n : ℕ) {A : Type 0} (mk : ℕ → ℕ → A) where
  pub above_zero : (st : List A) → above w f mk p l n 0 st ≡ st
  unfolding above
  above_zero st = refl

  pub above_suc : (y : ℕ) (st : List A) → above w f mk p l n (suc y) st ≡ seeds (λ e. mk e y) p w f y l n false st
  unfolding above
  above_suc y st = refl

  pub above_keep : (y : ℕ) (st : List A) (a : A) → Mem a st → Mem a (above w f mk p l n y st)
  above_keep zero st a m = rw above_zero m
  above_keep (suc y) st a m = rw above_suc (seeds_keep p w f y (λ e. mk e y) l n false st a m)

  pub above_have : (y b e : ℕ) (st : List A) → suc b ≡ y → Seed p w f b l l n e → Mem (mk e b) (above w f mk p l n y st)
  above_have y b e st q s = rw (← q, above_suc) (seeds_have p w f b (λ c. mk c b) l l n false st e (omega arith) (no_first p w f b l) s)

  pub above_from : (y : ℕ) (st : List A) (a : A) → Mem a (above w f mk p l n y st)
      → Mem a st ⊎ ((b : ℕ) × (e : ℕ) × (suc b ≡ y) × Seed p w f b l l n e × (a ≡ mk e b))
  above_from zero st a m = inl (subst (Mem a) (above_zero st) m)
  above_from (suc y) st a m =
      ⊎_elim
      (λ g. inl g)
      (λ g. inr (y, g.0, refl, g.1, g.2))
      (seeds_from p w f y (λ e. mk e y) l l n false st a (omega arith) (no_first p w f y l) (subst (Mem a) (above_suc y st) m))

  pub above_distinct : ((v a b : ℕ) → mk a v ≡ mk b v → a ≡ b) → (y : ℕ) (st : List A) → Distinct st → ((b e : ℕ) → suc b ≡ y → l ≤ e → e < l + n → px p w e b ≡ f → Mem (mk e b) st → ⊥) → Distinct (above w f mk p l n y st)
  above_distinct inj zero st d g = rw above_zero d
  above_distinct inj (suc y) st d g = rw above_suc (seeds_distinct p w f y (λ e. mk e y) (inj y) l n false st d (λ e. g y e refl))

  pub above_few : (y : ℕ) (st : List A) → length (above w f mk p l n y st) ≤ n + length st
  above_few zero st = omega (arith, ap length (above_zero st))
  above_few (suc y) st = omega (arith, ap length (above_suc y st), seeds_few p w f y (λ e. mk e y) l n false st)

module _ (w h f : ℕ) (p : List ℕ) (l n : ℕ) {A : Type 0} (mk : ℕ → ℕ → A) where
  pub below_in : (y : ℕ) (st : List A) → suc y < h → below w h f mk p l n y st ≡ seeds (λ e. mk e (suc y)) p w f (suc y) l n false st
  unfolding below
  below_in y st lt = rw (below, lt-ltb (suc y) h lt)

  pub below_out : (y : ℕ) (st : List A) → h ≤ suc y → below w h f mk p l n y st ≡ st
  unfolding below
  below_out y st le = rw (below, le-ltb (suc y) h le)

  pub below_keep : (y : ℕ) (st : List A) (a : A) → Mem a st → Mem a (below w h f mk p l n y st)
  below_keep y st a m =
      ⊎_elim
      (λ g. rw (below_in y st g) (seeds_keep p w f (suc y) (λ e. mk e (suc y)) l n false st a m))
      (λ g. rw (below_out y st (omega arith)) m)
      (split (suc (suc y)) h)

  pub below_have : (y e : ℕ) (st : List A) → suc y < h → Seed p w f (suc y) l l n e → Mem (mk e (suc y)) (below w h f mk p l n y st)
  below_have y e st g s = rw (below_in y st g) (seeds_have p w f (suc y) (λ c. mk c (suc y)) l l n false st e (omega arith) (no_first p w f (suc y) l) s)

  pub below_from : (y : ℕ) (st : List A) (a : A) → Mem a (below w h f mk p l n y st)
      → Mem a st ⊎ ((e : ℕ) × (suc y < h) × Seed p w f (suc y) l l n e × (a ≡ mk e (suc y)))
  below_from y st a m =
      ⊎_elim
      (λ g.
      ⊎_elim
      (λ q. inl q)
      (λ q. inr (q.0, g, q.1, q.2))
      (seeds_from p w f (suc y) (λ e. mk e (suc y)) l l n false st a (omega arith) (no_first p w f (suc y) l) (subst (Mem a) (below_in y st g) m)))
      (λ g. inl (subst (Mem a) (below_out y st (omega arith)) m))
      (split (suc (suc y)) h)

  pub below_distinct : ((v a b : ℕ) → mk a v ≡ mk b v → a ≡ b) → (y : ℕ) (st : List A) → Distinct st → ((e : ℕ) → suc y < h → l ≤ e → e < l + n → px p w e (suc y) ≡ f → Mem (mk e (suc y)) st → ⊥) → Distinct (below w h f mk p l n y st)
  below_distinct inj y st d g =
      ⊎_elim
      (λ q. rw (below_in y st q) (seeds_distinct p w f (suc y) (λ e. mk e (suc y)) (inj (suc y)) l n false st d (λ e. g e q)))
      (λ q. rw (below_out y st (omega arith)) d)
      (split (suc (suc y)) h)

  pub below_few : (y : ℕ) (st : List A) → length (below w h f mk p l n y st) ≤ n + length st
  below_few y st =
      ⊎_elim
      (λ g. omega (arith, ap length (below_in y st g), seeds_few p w f (suc y) (λ e. mk e (suc y)) l n false st))
      (λ g. omega (arith, ap length (below_out y st (omega arith))))
      (split (suc (suc y)) h)

-- how many are put on does not depend on what is made of them
module _ (w h f : ℕ) (p : List ℕ) (l n : ℕ) {A B : Type 0} (mk : ℕ → ℕ → A) (mk' : ℕ → ℕ → B) where
  pub above_length : (y : ℕ) (st : List A) (st' : List B) → length (above w f mk p l n y st) + length st' ≡ length (above w f mk' p l n y st') + length st
  above_length zero st st' = rw (above_zero w f p l n mk st, above_zero w f p l n mk' st') (omega arith)
  above_length (suc y) st st' = rw (above_suc w f p l n mk y st, above_suc w f p l n mk' y st') (seeds_length p w f y (λ e. mk e y) (λ e. mk' e y) l n false st st')

  pub below_length : (y : ℕ) (st : List A) (st' : List B) → length (below w h f mk p l n y st) + length st' ≡ length (below w h f mk' p l n y st') + length st
  below_length y st st' =
      ⊎_elim
      (λ q. rw (below_in w h f p l n mk y st q, below_in w h f p l n mk' y st' q) (seeds_length p w f (suc y) (λ e. mk e (suc y)) (λ e. mk' e (suc y)) l n false st st'))
      (λ q. rw (below_out w h f p l n mk y st (omega arith), below_out w h f p l n mk' y st' (omega arith)) (omega arith))
      (split (suc (suc y)) h)

  pub below_grows : (y : ℕ) (st : List A) → length st ≤ length (below w h f mk p l n y st)
  below_grows y st = let q = below_length y st [] in omega arith

-- a row that is met only puts entries on, and of n pixels at most 2 n
module _ (w h f : ℕ) (p : List ℕ) (r : Row) (st : List Pixel) where
  abbrev upper : List Pixel
  upper = above w f pixel p r.left (width_of r) r.y st

  pub seeded_grows : length st ≤ length (seeded w h f p r st)
  unfolding seeded
  seeded_grows =
      let a = above_length w h f p r.left (width_of r) pixel pixel r.y st [] in
      let b = below_length w h f p r.left (width_of r) pixel pixel r.y upper [] in
      omega arith

  pub seeded_few : length (seeded w h f p r st) ≤ 2 * width_of r + length st
  unfolding seeded
  seeded_few = omega (arith, above_few w f p r.left (width_of r) pixel r.y st, below_few w h f p r.left (width_of r) pixel r.y upper)

-- as the code has them: the neighbouring line in a local
module _ (w f : ℕ) (p : List ℕ) (l n y : ℕ) (st : List Pixel) where
  pub above_none : y ≡ 0 → above w f pixel p l n y st ≡ st
  above_none e = rw (e, above_zero)

  pub above_line : (b : ℕ) → y ≡ suc b → above w f pixel p l n y st ≡ seeds (λ e. pixel e b) p w f b l n false st
  above_line b e = rw (e, above_suc)

module _ (w h f : ℕ) (p : List ℕ) (l n y : ℕ) (st : List Pixel) where
  pub below_none : h ≤ y + 1 → below w h f pixel p l n y st ≡ st
  below_none e = below_out w h f p l n pixel y st (omega arith)

  pub below_line : (b : ℕ) → b ≡ suc y → b < h → below w h f pixel p l n y st ≡ seeds (λ e. pixel e b) p w f b l n false st
  below_line b e lt = rw e (below_in w h f p l n pixel y st (omega arith))
