-- Lists without repeats: one whose members are all another's is no longer than it; numbers below n are at most n. Assumes nothing.
use mathlib.Core.Path.{◌≡◌, refl, sym, ap, ◌∙◌, subst}
use mathlib.Core.List.{List, [], ◌∷◌, ◌++◌, map}
use mathlib.Core.Logic.{◌⊎◌, inl, inr, ⊎_elim}
use Prim.Native.Nat.{ℕ, zero, suc, ◌<◌, ◌≤◌}
use native.Mathlib.Omega.{arith}
use lib.ListN.{length}
use Rattle.pieces.specs.Picture.{Pixel}
use Rattle.pieces.specs.Count.{Mem, Distinct, Number}
use Rattle.pieces.proofs.Numbers.{same}

module _ {A : Type 0} where
  Less : A → List A → List A → Type 0
  Less a m m' = (length m ≡ suc (length m')) × ((b : A) → Mem b m → (b ≡ a) ⊎ Mem b m')

  without : (m : List A) (a : A) → Mem a m → (m' : List A) × Less a m m'
  unfolding Less
  without [] a q = absurd q
  without (c ∷ m) a q =
      ⊎_elim
      (λ e. (m, (refl, (λ b i. ⊎_elim (λ z. inl (z ∙ sym e)) (λ z. inr z) i))))
      (λ g.
      let r = without m a g in
      (c ∷ r.0, (ap suc r.1.0, (λ b i. ⊎_elim (λ z. inr (inl z)) (λ z. ⊎_elim (λ y. inl y) (λ y. inr (inr y)) (r.1.1 b z)) i))))
      q

  pub sub_length : (l m : List A) → Distinct l → ((a : A) → Mem a l → Mem a m) → length l ≤ length m
  unfolding Less
  sub_length [] m d g = omega arith
  sub_length (a ∷ l) m d g =
      let r = without m a (g a (inl refl)) in
      let ih = sub_length l r.0 d.1 (λ b i. ⊎_elim (λ z. absurd (d.0 (subst (λ (v : A). Mem v l) z i))) (λ z. z) (r.1.1 b (g b (inr i)))) in
      omega (arith, r.1.0, ih)

-- there is one such number
pub number_unique : {A : Type 0} {Q : A → Type 0} {n m : ℕ} → Number Q n → Number Q m → n ≡ m
number_unique a b =
    let u = sub_length a.list b.list a.lists.0 (λ c i. b.lists.2 c (a.lists.1 c i)) in
    let v = sub_length b.list a.list b.lists.0 (λ c i. a.lists.2 c (b.lists.1 c i)) in
    omega (arith, a.count, b.count)

upto : ℕ → List ℕ
upto zero = []
upto (suc n) = n ∷ upto n

length_upto : (n : ℕ) → length (upto n) ≡ n
unfolding upto
length_upto zero = refl
length_upto (suc n) = ap suc (length_upto n)

mem_upto : (n k : ℕ) → k < n → Mem k (upto n)
unfolding upto
mem_upto zero k l = absurd (omega arith)
mem_upto (suc n) k l = ⊎_elim (λ e. inl e) (λ e. inr (mem_upto n k (omega arith))) (same k n)

pub below_length : (n : ℕ) (l : List ℕ) → Distinct l → ((k : ℕ) → Mem k l → k < n) → length l ≤ n
below_length n l d g = omega (arith, sub_length l (upto n) d (λ k i. mem_upto n k (g k i)), length_upto n)

-- what stands in two lists joined, stands in one of them
module _ {A : Type 0} where
  pub mem_either : (l m : List A) (a : A) → Mem a (l ++ m) → Mem a l ⊎ Mem a m
  mem_either [] m a i = inr i
  mem_either (c ∷ l) m a i = ⊎_elim (λ e. inl (inl e)) (λ n. ⊎_elim (λ k. inl (inr k)) (λ k. inr k) (mem_either l m a n)) i

  pub mem_before : (l m : List A) (a : A) → Mem a l → Mem a (l ++ m)
  mem_before [] m a i = absurd i
  mem_before (c ∷ l) m a i = ⊎_elim (λ e. inl e) (λ n. inr (mem_before l m a n)) i

  pub mem_after : (l m : List A) (a : A) → Mem a m → Mem a (l ++ m)
  mem_after [] m a i = i
  mem_after (c ∷ l) m a i = inr (mem_after l m a i)

-- a list and its image
module _ {A B : Type 0} (g : A → B) where
  pub mem_map : (l : List A) (a : A) → Mem a l → Mem (g a) (map g l)
  mem_map [] a m = m
  mem_map (c ∷ l) a m = ⊎_elim (λ e. inl (ap g e)) (λ q. inr (mem_map l a q)) m

  pub map_mem : (l : List A) (b : B) → Mem b (map g l) → (a : A) × Mem a l × (b ≡ g a)
  map_mem [] b m = absurd m
  map_mem (c ∷ l) b m = ⊎_elim (λ e. (c, inl refl, e)) (λ q. let r = map_mem l b q in (r.0, inr r.1, r.2)) m

  pub map_length : (l : List A) → length (map g l) ≡ length l
  map_length [] = refl
  map_length (c ∷ l) = ap suc (map_length l)

  pub map_distinct : (l : List A) → Distinct l → ((a c : A) → Mem a l → Mem c l → g a ≡ g c → a ≡ c) → Distinct (map g l)
  map_distinct [] d i = tt
  map_distinct (c ∷ l) d i = (
    (λ m. let r = map_mem l (g c) m in d.0 (subst (λ (v : A). Mem v l) (sym (i c r.0 (inl refl) (inr r.1) r.2)) r.1)),
    map_distinct l d.1 (λ a b u v. i a b (inr u) (inr v)),
  )

-- the same number, of what is the same
pub number_over : {A : Type 0} {Q R : A → Type 0} {n : ℕ} → ((a : A) → Q a → R a) → ((a : A) → R a → Q a) → Number Q n → Number R n
number_over f g N = record { list = N.list; lists = (N.lists.0, (λ a m. f a (N.lists.1 a m)), (λ a r. N.lists.2 a (g a r))); count = N.count }

-- what is numbered is decided
same_pixel : (a b : Pixel) → (a ≡ b) ⊎ (a ≡ b → ⊥)
same_pixel a b =
    ⊎_elim
    (λ e. ⊎_elim (λ g. inl (λ i. record { col = e i; line = g i })) (λ n. inr (λ q. n (ap (λ (v : Pixel). v.line) q))) (same a.line b.line))
    (λ n. inr (λ q. n (ap (λ (v : Pixel). v.col) q)))
    (same a.col b.col)

mem? : (a : Pixel) (l : List Pixel) → Mem a l ⊎ (Mem a l → ⊥)
mem? a [] = inr (λ m. m)
mem? a (b ∷ l) = ⊎_elim (λ e. inl (inl e)) (λ n. ⊎_elim (λ m. inl (inr m)) (λ k. inr (λ q. ⊎_elim n k q)) (mem? a l)) (same_pixel a b)

pub decided : {Q : Pixel → Type 0} {n : ℕ} → Number Q n → (a : Pixel) → Q a ⊎ (Q a → ⊥)
decided N a = ⊎_elim (λ m. inl (N.lists.1 a m)) (λ k. inr (λ q. k (N.lists.2 a q))) (mem? a N.list)
