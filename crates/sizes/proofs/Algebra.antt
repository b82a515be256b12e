-- Signed sums and products: two expressions that multiply out to the same terms are equal, whatever their variables stand for. Assumes nothing.
use Prim.Native.Nat.{ℕ, zero, suc}
use mathlib.Core.Path.{◌≡◌, refl, sym, ap, ◌∙◌}
use mathlib.Core.Bool.{Bool, true, false, cond, true≢false}
use mathlib.Core.List.{List, [], ◌∷◌}
use lib.IntN.{ℤ, pos, negsuc, suc_ℤ, pred_ℤ, neg_ℤ, ◌+ℤ◌, ◌-ℤ◌, ◌*ℤ◌, +ℤ_idl, +ℤ_idr, +ℤ_assoc, +ℤ_comm, +ℤ_invr, suc_ℤ-+ℤ, pred_ℤ-+ℤ, zero-*ℤ, *ℤ-zero, suc_ℤ-*ℤ, pred_ℤ-*ℤ, *ℤ_comm, -ℤ-+ℤ_cancel}

-- ---- the laws that `lib.IntN` leaves out
swap : (a b c : ℤ) → a +ℤ b +ℤ c ≡ a +ℤ c +ℤ b
swap a b c = +ℤ_assoc a b c ∙ ap (λ z. a +ℤ z) (+ℤ_comm b c) ∙ sym (+ℤ_assoc a c b)

pub distrib : (a b c : ℤ) → (a +ℤ b) *ℤ c ≡ a *ℤ c +ℤ b *ℤ c
distrib a b c = go a
  where
    up : (a : ℤ) → (a +ℤ b) *ℤ c ≡ a *ℤ c +ℤ b *ℤ c → (suc_ℤ a +ℤ b) *ℤ c ≡ suc_ℤ a *ℤ c +ℤ b *ℤ c
    up a h =
        ap (λ z. z *ℤ c) (suc_ℤ-+ℤ a b) ∙ suc_ℤ-*ℤ (a +ℤ b) c ∙ ap (λ z. z +ℤ c) h
        ∙ swap (a *ℤ c) (b *ℤ c) c ∙ ap (λ z. z +ℤ b *ℤ c) (sym (suc_ℤ-*ℤ a c))

    down : (a : ℤ) → (a +ℤ b) *ℤ c ≡ a *ℤ c +ℤ b *ℤ c → (pred_ℤ a +ℤ b) *ℤ c ≡ pred_ℤ a *ℤ c +ℤ b *ℤ c
    down a h =
        ap (λ z. z *ℤ c) (pred_ℤ-+ℤ a b) ∙ pred_ℤ-*ℤ (a +ℤ b) c ∙ ap (λ z. z -ℤ c) h
        ∙ swap (a *ℤ c) (b *ℤ c) (neg_ℤ c) ∙ ap (λ z. z +ℤ b *ℤ c) (sym (pred_ℤ-*ℤ a c))

    none : (pos zero +ℤ b) *ℤ c ≡ pos zero *ℤ c +ℤ b *ℤ c
    none = ap (λ z. z *ℤ c) (+ℤ_idl b) ∙ sym (ap (λ z. z +ℤ b *ℤ c) (zero-*ℤ c) ∙ +ℤ_idl (b *ℤ c))

    go : (a : ℤ) → (a +ℤ b) *ℤ c ≡ a *ℤ c +ℤ b *ℤ c
    go (pos zero) = none
    go (pos (suc n)) = up (pos n) (go (pos n))
    go (negsuc zero) = down (pos zero) none
    go (negsuc (suc n)) = down (negsuc n) (go (negsuc n))

pub distrib_left : (a b c : ℤ) → a *ℤ (b +ℤ c) ≡ a *ℤ b +ℤ a *ℤ c
distrib_left a b c = *ℤ_comm a (b +ℤ c) ∙ distrib b c a ∙ ap (λ z. z +ℤ c *ℤ a) (*ℤ_comm b a) ∙ ap (λ z. a *ℤ b +ℤ z) (*ℤ_comm c a)

-- the opposite is the product with -1
pub neg_is : (a : ℤ) → neg_ℤ a ≡ negsuc zero *ℤ a
neg_is a = sym (pred_ℤ-*ℤ (pos zero) a ∙ ap (λ z. z -ℤ a) (zero-*ℤ a) ∙ +ℤ_idl (neg_ℤ a))

pub neg_left : (a b : ℤ) → neg_ℤ a *ℤ b ≡ neg_ℤ (a *ℤ b)
neg_left a b = cancel (neg_ℤ a *ℤ b) (a *ℤ b) (sym (distrib (neg_ℤ a) a b) ∙ ap (λ z. z *ℤ b) (+ℤ_comm (neg_ℤ a) a ∙ +ℤ_invr a) ∙ zero-*ℤ b)
  where
    cancel : (u v : ℤ) → u +ℤ v ≡ pos zero → u ≡ neg_ℤ v
    cancel u v h = sym (+ℤ_idr u) ∙ ap (λ z. u +ℤ z) (sym (+ℤ_invr v)) ∙ sym (+ℤ_assoc u v (neg_ℤ v)) ∙ ap (λ z. z -ℤ v) h ∙ +ℤ_idl (neg_ℤ v)

pub assoc : (a b c : ℤ) → a *ℤ b *ℤ c ≡ a *ℤ (b *ℤ c)
assoc a b c = go a
  where
    up : (a : ℤ) → a *ℤ b *ℤ c ≡ a *ℤ (b *ℤ c) → suc_ℤ a *ℤ b *ℤ c ≡ suc_ℤ a *ℤ (b *ℤ c)
    up a h = ap (λ z. z *ℤ c) (suc_ℤ-*ℤ a b) ∙ distrib (a *ℤ b) b c ∙ ap (λ z. z +ℤ b *ℤ c) h ∙ sym (suc_ℤ-*ℤ a (b *ℤ c))

    down : (a : ℤ) → a *ℤ b *ℤ c ≡ a *ℤ (b *ℤ c) → pred_ℤ a *ℤ b *ℤ c ≡ pred_ℤ a *ℤ (b *ℤ c)
    down a h =
        ap (λ z. z *ℤ c) (pred_ℤ-*ℤ a b) ∙ distrib (a *ℤ b) (neg_ℤ b) c ∙ ap (λ z. a *ℤ b *ℤ c +ℤ z) (neg_left b c)
        ∙ ap (λ z. z -ℤ b *ℤ c) h ∙ sym (pred_ℤ-*ℤ a (b *ℤ c))

    none : pos zero *ℤ b *ℤ c ≡ pos zero *ℤ (b *ℤ c)
    none = ap (λ z. z *ℤ c) (zero-*ℤ b) ∙ zero-*ℤ c ∙ sym (zero-*ℤ (b *ℤ c))

    go : (a : ℤ) → a *ℤ b *ℤ c ≡ a *ℤ (b *ℤ c)
    go (pos zero) = none
    go (pos (suc n)) = up (pos n) (go (pos n))
    go (negsuc zero) = down (pos zero) none
    go (negsuc (suc n)) = down (negsuc n) (go (negsuc n))

-- a factor moves to the front
pull : (x a v : ℤ) → x *ℤ (a *ℤ v) ≡ a *ℤ (x *ℤ v)
pull x a v = sym (assoc x a v) ∙ ap (λ z. z *ℤ v) (*ℤ_comm x a) ∙ assoc a x v

-- the middle two of four summands change places
cross_over : (a b c d : ℤ) → a +ℤ b +ℤ (c +ℤ d) ≡ a +ℤ c +ℤ (b +ℤ d)
cross_over a b c d = sym (+ℤ_assoc (a +ℤ b) c d) ∙ ap (λ z. z +ℤ d) (swap a b c) ∙ +ℤ_assoc (a +ℤ c) b d

-- ---- equal numbers have no difference
pub no_diff : {u v : ℤ} → u ≡ v → u -ℤ v ≡ pos zero
no_diff {u} {v} h = ap (λ z. z -ℤ v) h ∙ +ℤ_invr v

pub equal : {u v : ℤ} → u -ℤ v ≡ pos zero → u ≡ v
equal {u} {v} h = sym (-ℤ-+ℤ_cancel u v) ∙ ap (λ z. z +ℤ v) h ∙ +ℤ_idl v

-- ---- polynomials: a number, or c + x p, where x is the first variable and c speaks of the others
pub data Poly : Type 0 where
  num : ℤ → Poly
  more : Poly → Poly → Poly

first : List ℤ → ℤ
first [] = pos zero
first (v ∷ vs) = v

rest : List ℤ → List ℤ
rest [] = []
rest (v ∷ vs) = vs

value : Poly → List ℤ → ℤ
value (num a) vs = a
value (more c p) vs = value c (rest vs) +ℤ first vs *ℤ value p vs

abbrev pub shift : ℤ → Poly → Poly
shift a (num b) = num (a +ℤ b)
shift a (more c p) = more (shift a c) p

abbrev pub add : Poly → Poly → Poly
add (num a) q = shift a q
add (more c p) (num b) = more (shift b c) p
add (more c p) (more d q) = more (add c d) (add p q)

abbrev pub times : ℤ → Poly → Poly
times a (num b) = num (a *ℤ b)
times a (more c p) = more (times a c) (times a p)

-- each coefficient of q, multiplied by f
abbrev pub each : (Poly → Poly) → Poly → Poly
each f (num b) = more (f (num b)) (num (pos zero))
each f (more d q) = more (f d) (each f q)

abbrev pub mul : Poly → Poly → Poly
mul (num a) q = times a q
mul (more c p) q = add (each (mul c) q) (more (num (pos zero)) (mul p q))

module _ (a : ℤ) where
  shift_value : (p : Poly) (vs : List ℤ) → value (shift a p) vs ≡ a +ℤ value p vs
  unfolding value
  shift_value (num b) vs = refl
  shift_value (more c p) vs = rw (shift_value c (rest vs)) (+ℤ_assoc a (value c (rest vs)) (first vs *ℤ value p vs))

  times_value : (p : Poly) (vs : List ℤ) → value (times a p) vs ≡ a *ℤ value p vs
  unfolding value
  times_value (num b) vs = refl
  times_value (more c p) vs =
      rw (times_value c (rest vs), times_value p vs)
      (ap (λ z. a *ℤ value c (rest vs) +ℤ z) (pull (first vs) a (value p vs)) ∙ sym (distrib_left a (value c (rest vs)) (first vs *ℤ value p vs)))

add_value : (p q : Poly) (vs : List ℤ) → value (add p q) vs ≡ value p vs +ℤ value q vs
unfolding value
add_value (num a) q vs = shift_value a q vs
add_value (more c p) (num b) vs =
    let w = first vs *ℤ value p vs in
    rw (shift_value b c (rest vs)) (ap (λ z. z +ℤ w) (+ℤ_comm b (value c (rest vs))) ∙ swap (value c (rest vs)) b w)
add_value (more c p) (more d q) vs =
    rw (add_value c d (rest vs), add_value p q vs, distrib_left (first vs) (value p vs) (value q vs))
    (cross_over (value c (rest vs)) (value d (rest vs)) (first vs *ℤ value p vs) (first vs *ℤ value q vs))

each_value : (f : Poly → Poly) (k : ℤ) (vs : List ℤ) → ((d : Poly) → value (f d) (rest vs) ≡ k *ℤ value d (rest vs)) → (q : Poly) → value (each f q) vs ≡ k *ℤ value q vs
unfolding value
each_value f k vs h (num b) = rw (h (num b), *ℤ-zero (first vs)) (+ℤ_idr (k *ℤ b))
each_value f k vs h (more d q) =
    rw (h d, each_value f k vs h q, pull (first vs) k (value q vs)) (sym (distrib_left k (value d (rest vs)) (first vs *ℤ value q vs)))

mul_value : (p q : Poly) (vs : List ℤ) → value (mul p q) vs ≡ value p vs *ℤ value q vs
unfolding value
mul_value (num a) q vs = times_value a q vs
mul_value (more c p) q vs =
    add_value (each (mul c) q) (more (num (pos zero)) (mul p q)) vs
    ∙ rw (each_value (mul c) (value c (rest vs)) vs (λ d. mul_value c d (rest vs)) q, mul_value p q vs, +ℤ_idl (first vs *ℤ (value p vs *ℤ value q vs)))
    (ap (λ z. value c (rest vs) *ℤ value q vs +ℤ z) (sym (assoc (first vs) (value p vs) (value q vs))) ∙ sym (distrib (value c (rest vs)) (first vs *ℤ value p vs) (value q vs)))

-- every coefficient is 0
abbrev pub none : Poly → Bool
none (num (pos zero)) = true
none (num (pos (suc n))) = false
none (num (negsuc n)) = false
none (more c p) = cond (none c) (none p) false

none_value : (p : Poly) (vs : List ℤ) → none p ≡ true → value p vs ≡ pos zero
unfolding value
none_value (num (pos zero)) vs h = refl
none_value (num (pos (suc n))) vs h = absurd (true≢false (sym h))
none_value (num (negsuc n)) vs h = absurd (true≢false (sym h))
none_value (more c p) vs h =
    let hs = both (none c) (none p) h in
    rw (none_value c (rest vs) hs.0, none_value p vs hs.1, *ℤ-zero (first vs))
  where
    both : (s t : Bool) → cond s t false ≡ true → (s ≡ true) × (t ≡ true)
    both true t h = (refl, h)
    both false t h = absurd (true≢false (sym h))

-- ---- expressions: the variables are given by a list, and `var i` is its i-th
infixl 6 ◌⊕◌ ◌⊖◌
infixl 7 ◌⊗◌
pub data Term : Type 0 where
  var : ℕ → Term
  lit : ℤ → Term
  ⊝ : Term → Term
  ◌⊕◌ ◌⊖◌ ◌⊗◌ : Term → Term → Term

abbrev pub nth : List ℤ → ℕ → ℤ
nth [] i = pos zero
nth (v ∷ vs) zero = v
nth (v ∷ vs) (suc i) = nth vs i

abbrev pub meant : List ℤ → Term → ℤ
meant vs (var i) = nth vs i
meant vs (lit a) = a
meant vs (⊝ s) = neg_ℤ (meant vs s)
meant vs (s ⊕ t) = meant vs s +ℤ meant vs t
meant vs (s ⊖ t) = meant vs s -ℤ meant vs t
meant vs (s ⊗ t) = meant vs s *ℤ meant vs t

abbrev pub variable : ℕ → Poly
variable zero = more (num (pos zero)) (num (pos 1))
variable (suc i) = more (variable i) (num (pos zero))

abbrev pub terms : Term → Poly
terms (var i) = variable i
terms (lit a) = num a
terms (⊝ s) = times (negsuc zero) (terms s)
terms (s ⊕ t) = add (terms s) (terms t)
terms (s ⊖ t) = add (terms s) (times (negsuc zero) (terms t))
terms (s ⊗ t) = mul (terms s) (terms t)

variable_value : (i : ℕ) (vs : List ℤ) → value (variable i) vs ≡ nth vs i
unfolding value first rest
variable_value zero [] = refl
variable_value zero (v ∷ vs) = +ℤ_idl (v *ℤ pos 1) ∙ *ℤ_comm v (pos 1) ∙ suc_ℤ-*ℤ (pos zero) v ∙ ap (λ z. z +ℤ v) (zero-*ℤ v) ∙ +ℤ_idl v
variable_value (suc i) [] = rw (variable_value i [])
variable_value (suc i) (v ∷ vs) = rw (variable_value i vs, *ℤ-zero v) (+ℤ_idr (nth vs i))

neg_value : (p : Poly) (vs : List ℤ) → value (times (negsuc zero) p) vs ≡ neg_ℤ (value p vs)
neg_value p vs = times_value (negsuc zero) p vs ∙ sym (neg_is (value p vs))

terms_value : (s : Term) (vs : List ℤ) → value (terms s) vs ≡ meant vs s
unfolding value
terms_value (var i) vs = variable_value i vs
terms_value (lit a) vs = refl
terms_value (⊝ s) vs = neg_value (terms s) vs ∙ ap neg_ℤ (terms_value s vs)
terms_value (s ⊕ t) vs = add_value (terms s) (terms t) vs ∙ rw (terms_value s vs, terms_value t vs)
terms_value (s ⊖ t) vs = add_value (terms s) (times (negsuc zero) (terms t)) vs ∙ rw (neg_value (terms t) vs, terms_value s vs, terms_value t vs)
terms_value (s ⊗ t) vs = mul_value (terms s) (terms t) vs ∙ rw (terms_value s vs, terms_value t vs)

-- two expressions whose difference has no terms are equal: `same_terms (x ∷ y ∷ []) s t refl`
pub same_terms : (vs : List ℤ) (s t : Term) → none (terms (s ⊖ t)) ≡ true → meant vs s ≡ meant vs t
same_terms vs s t h = equal (sym (terms_value (s ⊖ t) vs) ∙ none_value (terms (s ⊖ t)) vs h)
