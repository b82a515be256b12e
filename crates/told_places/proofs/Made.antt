-- An array that `from_fn` makes of a list's numbers: it is what they tell, place by place. Assumes nothing.
use Prim.Native.Nat.{ℕ, zero, suc, ◌+◌, ◌≤◌, ◌<◌}
use native.Mathlib.Decide.{ℕ_discrete}
use native.Mathlib.Numerals.{add-one}
use native.Mathlib.Omega.{arith}
use mathlib.Core.Path.{◌≡◌, refl, sym, ap, ◌∙◌}
use mathlib.Core.List.{List, [], ◌∷◌, ◌++◌, map}
use mathlib.Core.Logic.{by_cases}
use lib.ListN.{get_or}
use denote.Param.Members.{Mut, Called}
use Rattle.std.specs.Array.{IsFromFnResultFrom, IsFromFnResult}
use Rattle.std.specs.List.{range_with_len}
use Rattle.std.proofs.lemmas.List.FromFn.{fill_by_all, map-range_with_len_more}
use Rattle.told_places.specs.Lent.{first_of}

-- the first n of what h lists are those of a range
listed : {A : Type 0} (h : ℕ → A) (n : ℕ) → map h (range_with_len 0 n) ≡ first_of h n
unfolding first_of
listed h zero = refl
listed h (suc n) = ap (λ (m : ℕ). map h (range_with_len 0 m)) (sym (add-one n)) ∙ map-range_with_len_more h 0 n n (omega arith) ∙ ap (λ l. l ++ (h n ∷ [])) (listed h n)

module _ {F A : Type 0} {g : Mut F (ℕ × Unit {0}) A} {f : F} (h : ℕ → A) (calls : (k : ℕ) (y : A) (q : F) → Called g f (k, tt) y q → (q ≡ f) × (y ≡ h k)) where
  -- from place i on
  made_from : (ys : List A) (d : A) (m i : ℕ) (p : F) → p ≡ f → IsFromFnResultFrom g p ys i m → (j : ℕ) → i ≤ j → j < i + m → get_or ys j d ≡ h j
  made_from ys d zero i p same made j low high = absurd (omega arith)
  made_from ys d (suc m) i p same made j low high =
      let call = calls i made.1 made.0 (rw same at made.3) in
      by_cases (ℕ_discrete i j)
      (λ e. rw (← e) (made.2.1 d ∙ call.1))
      (λ n. made_from ys d m (i + 1) made.0 call.0 made.4 j (omega arith) (omega arith))

  -- all of them
  pub made_all : (d : A) {ys : List A} {n : ℕ} → IsFromFnResult g f ys n → ys ≡ first_of h n
  made_all d {ys} {n} made = fill_by_all h ys n d made.long (λ k low. made_from ys d n 0 f refl made.each k (omega arith) (omega arith)) ∙ listed h n
