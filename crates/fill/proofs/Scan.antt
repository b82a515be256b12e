-- What `seeds` puts on a list: an entry for each column of the scan at which bytes f begin, each once. Assumes nothing.
use Prim.Native.Nat.{ℕ, zero, suc, ◌+◌, ◌*◌, ◌<◌, ◌≤◌}
use native.Mathlib.Omega.{arith}
use mathlib.Core.Path.{◌≡◌, refl, sym, ap, ◌∙◌, subst}
use mathlib.Core.List.{List, [], ◌∷◌}
use mathlib.Core.Bool.{Bool, true, false}
use mathlib.Core.Logic.{◌⊎◌, inl, inr, ⊎_elim}
use lib.ListN.{get_or, length}
use borrow.Author.Tests.{eq-eqb, ne_eqb}
use Rattle.pieces.specs.Picture.{px}
use Rattle.pieces.specs.Count.{Mem, Distinct}
use Rattle.pieces.proofs.Numbers.{split, same}
use Rattle.fill.specs.Order.{seeds}

-- a turn of the scan
module _ (p : List ℕ) (w f y : ℕ) where
  module _ {A : Type 0} (mk : ℕ → A) where
    pub seeds_off : (x n : ℕ) (on : Bool) (st : List A) → (px p w x y ≡ f → ⊥) → seeds mk p w f y x (suc n) on st ≡ seeds mk p w f y (suc x) n false st
    unfolding seeds
    seeds_off x n on st e = rw (seeds, ne_eqb (px p w x y) f e)

    pub seeds_on : (x n : ℕ) (st : List A) → px p w x y ≡ f → seeds mk p w f y x (suc n) true st ≡ seeds mk p w f y (suc x) n true st
    unfolding seeds
    seeds_on x n st e = rw (seeds, eq-eqb (px p w x y) f e)

    pub seeds_new : (x n : ℕ) (st : List A) → px p w x y ≡ f → seeds mk p w f y x (suc n) false st ≡ seeds mk p w f y (suc x) n true (mk x ∷ st)
    unfolding seeds
    seeds_new x n st e = rw (seeds, eq-eqb (px p w x y) f e)

    pub seeds_end : (x : ℕ) (on : Bool) (st : List A) → seeds mk p w f y x 0 on st ≡ st
    unfolding seeds
    seeds_end x on st = refl

    module _ (base : ℕ) (at : base ≡ y * w) where
      here : (x : ℕ) → get_or p (base + x) 0 ≡ f → px p w x y ≡ f
      here x h = ap (λ (b : ℕ). get_or p (b + x) 0) (sym at) ∙ h

      not_here : (x : ℕ) → (get_or p (base + x) 0 ≡ f → ⊥) → px p w x y ≡ f → ⊥
      not_here x h g = h (ap (λ (b : ℕ). get_or p (b + x) 0) at ∙ g)

      pub seeds_off_at : (x n : ℕ) (on : Bool) (st : List A) → (get_or p (base + x) 0 ≡ f → ⊥) → seeds mk p w f y x (suc n) on st ≡ seeds mk p w f y (suc x) n false st
      seeds_off_at x n on st h = seeds_off x n on st (not_here x h)

      pub seeds_on_at : (x n : ℕ) (st : List A) → get_or p (base + x) 0 ≡ f → seeds mk p w f y x (suc n) true st ≡ seeds mk p w f y (suc x) n true st
      seeds_on_at x n st h = seeds_on x n st (here x h)

      pub seeds_new_at : (x z n m : ℕ) (st st' : List A) → st' ≡ mk x ∷ st → z ≡ suc x → n ≡ suc m → get_or p (base + x) 0 ≡ f → seeds mk p w f y x n false st ≡ seeds mk p w f y z m true st'
      seeds_new_at x z n m st st' q e e' h = rw (e, e', q) (seeds_new x m st (here x h))

      -- a scan of one column
      pub seeds_none : (x : ℕ) (st : List A) → (get_or p (base + x) 0 ≡ f → ⊥) → seeds mk p w f y x 1 false st ≡ st
      seeds_none x st h = seeds_off x 0 false st (not_here x h) ∙ seeds_end (suc x) false st

      pub seeds_one : (x : ℕ) (st : List A) → get_or p (base + x) 0 ≡ f → seeds mk p w f y x 1 false st ≡ mk x ∷ st
      seeds_one x st h = seeds_new x 0 st (here x h) ∙ seeds_end (suc x) true (mk x ∷ st)

-- in a scan of line y that starts at column o, bytes f begin at e
abbrev pub First : List ℕ → ℕ → ℕ → ℕ → ℕ → ℕ → Type 0
First p w f y o e = (k : ℕ) → suc k ≡ e → o ≤ k → px p w k y ≡ f → ⊥

pub record Seed (p : List ℕ) (w f y o x n e : ℕ) : Type 0 where
  pub low : x ≤ e
  pub high : e < x + n
  pub here : px p w e y ≡ f
  pub first : First p w f y o e

-- what the scan knows by its flag
abbrev Flag : List ℕ → ℕ → ℕ → ℕ → ℕ → ℕ → Bool → Type 0
Flag p w f y o x true = (k : ℕ) × (suc k ≡ x) × (o ≤ k) × (px p w k y ≡ f)
Flag p w f y o x false = First p w f y o x

module _ (p : List ℕ) (w f y : ℕ) where
  first_next : (o x : ℕ) → (px p w x y ≡ f → ⊥) → First p w f y o (suc x)
  first_next o x n k e l g = let z : k ≡ x = omega arith in n (ap (λ (j : ℕ). px p w j y) (sym z) ∙ g)

  on_next : (o x : ℕ) → o ≤ x → px p w x y ≡ f → Flag p w f y o (suc x) true
  on_next o x l e = (x, refl, l, e)

  wider : {o x n e : ℕ} → Seed p w f y o (suc x) n e → Seed p w f y o x (suc n) e
  wider s = record { low = omega arith; high = omega arith; here = s.here; first = s.first }

  -- each byte f of the scan is joined to a column at which they begin
  pub first_of : (o c : ℕ) → o ≤ c → px p w c y ≡ f → (e : ℕ) × (o ≤ e) × (e ≤ c) × ((k : ℕ) → e ≤ k → k ≤ c → px p w k y ≡ f) × First p w f y o e
  first_of o zero l h = (0, l, omega arith, (λ k a b. let z : k ≡ 0 = omega arith in ap (λ (j : ℕ). px p w j y) z ∙ h), (λ k e. absurd (omega arith)))
  first_of o (suc c) l h =
      ⊎_elim
      (λ a.
      ⊎_elim
      (λ g.
      let r = first_of o c a g in (
        r.0,
        r.1,
        omega (arith, r.2),
        (λ k u v. ⊎_elim (λ q. ap (λ (j : ℕ). px p w j y) q ∙ h) (λ q. r.3 k u (omega arith)) (same k (suc c))),
        r.4,
      ))
      (λ g. (suc c, l, omega arith, (λ k u v. let z : k ≡ suc c = omega arith in ap (λ (j : ℕ). px p w j y) z ∙ h), first_next o c g))
      (same (px p w c y) f))
      (λ a. (suc c, l, omega arith, (λ k u v. let z : k ≡ suc c = omega arith in ap (λ (j : ℕ). px p w j y) z ∙ h), (λ k e b. absurd (omega arith))))
      (split o c)

  module _ {A : Type 0} (mk : ℕ → A) where
    S : ℕ → ℕ → Bool → List A → List A
    S x n on st = seeds mk p w f y x n on st

    -- what is on the list stays
    pub seeds_keep : (x n : ℕ) (on : Bool) (st : List A) (a : A) → Mem a st → Mem a (seeds mk p w f y x n on st)
    seeds_keep x zero on st a m = subst (Mem a) (sym (seeds_end p w f y mk x on st)) m
    seeds_keep x (suc n) true st a m =
        ⊎_elim
        (λ e. subst (Mem a) (sym (seeds_on p w f y mk x n st e)) (seeds_keep (suc x) n true st a m))
        (λ e. subst (Mem a) (sym (seeds_off p w f y mk x n true st e)) (seeds_keep (suc x) n false st a m))
        (same (px p w x y) f)
    seeds_keep x (suc n) false st a m =
        ⊎_elim
        (λ e. subst (Mem a) (sym (seeds_new p w f y mk x n st e)) (seeds_keep (suc x) n true (mk x ∷ st) a (inr m)))
        (λ e. subst (Mem a) (sym (seeds_off p w f y mk x n false st e)) (seeds_keep (suc x) n false st a m))
        (same (px p w x y) f)

    -- what is on it after the scan was there, or is a seed
    abbrev pub From : ℕ → ℕ → ℕ → List A → A → Type 0
    From o x n st a = Mem a st ⊎ ((e : ℕ) × Seed p w f y o x n e × (a ≡ mk e))

    from_wider : (o x n : ℕ) (st : List A) (a : A) → From o (suc x) n st a → From o x (suc n) st a
    from_wider o x n st a (inl m) = inl m
    from_wider o x n st a (inr s) = inr (s.0, wider s.1, s.2)

    from_new : (o x n : ℕ) (st : List A) (a : A) → px p w x y ≡ f → First p w f y o x → From o (suc x) n (mk x ∷ st) a → From o x (suc n) st a
    from_new o x n st a h q (inl (inl e)) = inr (x, record { low = omega arith; high = omega arith; here = h; first = q }, e)
    from_new o x n st a h q (inl (inr m)) = inl m
    from_new o x n st a h q (inr s) = inr (s.0, wider s.1, s.2)

    pub seeds_from : (o x n : ℕ) (on : Bool) (st : List A) (a : A) → o ≤ x → Flag p w f y o x on → Mem a (seeds mk p w f y x n on st) → From o x n st a
    seeds_from o x zero on st a l q m = inl (subst (Mem a) (seeds_end p w f y mk x on st) m)
    seeds_from o x (suc n) true st a l q m =
        ⊎_elim
        (λ e. from_wider o x n st a (seeds_from o (suc x) n true st a (omega arith) (on_next o x l e) (subst (Mem a) (seeds_on p w f y mk x n st e) m)))
        (λ e. from_wider o x n st a (seeds_from o (suc x) n false st a (omega arith) (first_next o x e) (subst (Mem a) (seeds_off p w f y mk x n true st e) m)))
        (same (px p w x y) f)
    seeds_from o x (suc n) false st a l q m =
        ⊎_elim
        (λ e. from_new o x n st a e q (seeds_from o (suc x) n true (mk x ∷ st) a (omega arith) (on_next o x l e) (subst (Mem a) (seeds_new p w f y mk x n st e) m)))
        (λ e. from_wider o x n st a (seeds_from o (suc x) n false st a (omega arith) (first_next o x e) (subst (Mem a) (seeds_off p w f y mk x n false st e) m)))
        (same (px p w x y) f)

    -- each seed is on it
    pub seeds_have : (o x n : ℕ) (on : Bool) (st : List A) (e : ℕ) → o ≤ x → Flag p w f y o x on → Seed p w f y o x n e → Mem (mk e) (seeds mk p w f y x n on st)
    seeds_have o x zero on st e l q s = absurd (omega arith)
    seeds_have o x (suc n) true st e l q s =
        ⊎_elim
        (λ g.
        ⊎_elim
        (λ z. absurd (s.first q.0 (q.1 ∙ sym z) q.2 q.3))
        (λ z. subst (Mem (mk e)) (sym (seeds_on p w f y mk x n st g)) (seeds_have o (suc x) n true st e (omega arith) (on_next o x l g) (record { low = omega arith; high = omega arith; here = s.here; first = s.first })))
        (same e x))
        (λ g.
        ⊎_elim
        (λ z. absurd (g (ap (λ (j : ℕ). px p w j y) (sym z) ∙ s.here)))
        (λ z. subst (Mem (mk e)) (sym (seeds_off p w f y mk x n true st g)) (seeds_have o (suc x) n false st e (omega arith) (first_next o x g) (record { low = omega arith; high = omega arith; here = s.here; first = s.first })))
        (same e x))
        (same (px p w x y) f)
    seeds_have o x (suc n) false st e l q s =
        ⊎_elim
        (λ g.
        ⊎_elim
        (λ z. subst (Mem (mk e)) (sym (seeds_new p w f y mk x n st g)) (seeds_keep (suc x) n true (mk x ∷ st) (mk e) (inl (ap mk z))))
        (λ z. subst (Mem (mk e)) (sym (seeds_new p w f y mk x n st g)) (seeds_have o (suc x) n true (mk x ∷ st) e (omega arith) (on_next o x l g) (record { low = omega arith; high = omega arith; here = s.here; first = s.first })))
        (same e x))
        (λ g.
        ⊎_elim
        (λ z. absurd (g (ap (λ (j : ℕ). px p w j y) (sym z) ∙ s.here)))
        (λ z. subst (Mem (mk e)) (sym (seeds_off p w f y mk x n false st g)) (seeds_have o (suc x) n false st e (omega arith) (first_next o x g) (record { low = omega arith; high = omega arith; here = s.here; first = s.first })))
        (same e x))
        (same (px p w x y) f)

    -- no entry stands twice
    module _ (inj : (a b : ℕ) → mk a ≡ mk b → a ≡ b) where
      pub seeds_distinct : (x n : ℕ) (on : Bool) (st : List A) → Distinct st → ((e : ℕ) → x ≤ e → e < x + n → px p w e y ≡ f → Mem (mk e) st → ⊥) → Distinct (seeds mk p w f y x n on st)
      seeds_distinct x zero on st d g = subst Distinct (sym (seeds_end p w f y mk x on st)) d
      seeds_distinct x (suc n) true st d g =
          ⊎_elim
          (λ e. subst Distinct (sym (seeds_on p w f y mk x n st e)) (seeds_distinct (suc x) n true st d (λ k l u. g k (omega arith) (omega arith))))
          (λ e. subst Distinct (sym (seeds_off p w f y mk x n true st e)) (seeds_distinct (suc x) n false st d (λ k l u. g k (omega arith) (omega arith))))
          (same (px p w x y) f)
      seeds_distinct x (suc n) false st d g =
          ⊎_elim
          (λ e.
          subst Distinct (sym (seeds_new p w f y mk x n st e)) (seeds_distinct (suc x) n true (mk x ∷ st) (g x (omega arith) (omega arith) e, d) (λ k l u h m.
          ⊎_elim (λ q. let z : k ≡ x = inj k x q in omega arith) (λ q. g k (omega arith) (omega arith) h q) m)))
          (λ e. subst Distinct (sym (seeds_off p w f y mk x n false st e)) (seeds_distinct (suc x) n false st d (λ k l u. g k (omega arith) (omega arith))))
          (same (px p w x y) f)

    -- how many are put on does not depend on what is made of them
    module _ {B : Type 0} (mk' : ℕ → B) where
      pub seeds_length : (x n : ℕ) (on : Bool) (st : List A) (st' : List B) → length (seeds mk p w f y x n on st) + length st' ≡ length (seeds mk' p w f y x n on st') + length st
      seeds_length x zero on st st' = rw (seeds_end p w f y mk x on st, seeds_end p w f y mk' x on st') (omega arith)
      seeds_length x (suc n) true st st' =
          ⊎_elim
          (λ e. rw (seeds_on p w f y mk x n st e, seeds_on p w f y mk' x n st' e) (seeds_length (suc x) n true st st'))
          (λ e. rw (seeds_off p w f y mk x n true st e, seeds_off p w f y mk' x n true st' e) (seeds_length (suc x) n false st st'))
          (same (px p w x y) f)
      seeds_length x (suc n) false st st' =
          ⊎_elim
          (λ e. rw (seeds_new p w f y mk x n st e, seeds_new p w f y mk' x n st' e) (omega (arith, seeds_length (suc x) n true (mk x ∷ st) (mk' x ∷ st'))))
          (λ e. rw (seeds_off p w f y mk x n false st e, seeds_off p w f y mk' x n false st' e) (seeds_length (suc x) n false st st'))
          (same (px p w x y) f)

    pub seeds_grow : (x n : ℕ) (on : Bool) (st : List A) → length st ≤ length (seeds mk p w f y x n on st)
    seeds_grow x n on st = let q = seeds_length mk x n on st [] in omega arith

    -- at most one for each column
    pub seeds_few : (x n : ℕ) (on : Bool) (st : List A) → length (seeds mk p w f y x n on st) ≤ n + length st
    seeds_few x zero on st = omega (arith, ap length (seeds_end p w f y mk x on st))
    seeds_few x (suc n) true st =
        ⊎_elim
        (λ e. omega (arith, ap length (seeds_on p w f y mk x n st e), seeds_few (suc x) n true st))
        (λ e. omega (arith, ap length (seeds_off p w f y mk x n true st e), seeds_few (suc x) n false st))
        (same (px p w x y) f)
    seeds_few x (suc n) false st =
        ⊎_elim
        (λ e. omega (arith, ap length (seeds_new p w f y mk x n st e), seeds_few (suc x) n true (mk x ∷ st)))
        (λ e. omega (arith, ap length (seeds_off p w f y mk x n false st e), seeds_few (suc x) n false st))
        (same (px p w x y) f)
