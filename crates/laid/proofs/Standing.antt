-- How lists stand in their arrays: what is found first, blanks past it, one more in the place of a blank. Assumes nothing.
use Rattle.std.specs.Prelude.{Result, Ok, Err}
use Prim.Native.Nat.{ℕ, suc, ◌+◌, ◌-◌, ◌≤◌, ◌<◌}
use native.Mathlib.Omega.{arith}
use mathlib.Core.Path.{◌≡◌, refl, sym, ap, ◌∙◌}
use mathlib.Core.Bool.{true, false}
use mathlib.Core.List.{List, [], ◌∷◌, ◌++◌, append_assoc, append-nil}
use lib.ListN.{length, set, take, replicate, length-append}
use lib.Seq.{take-append_seam, set_at}
use Rattle.refusals.specs.Numbers.{number_of}
use Rattle.refusals.specs.Finding.{found, refused, refused_by}
use Rattle.refusals.specs.declared.Refusal.{Refusal}
use Rattle.laid.specs.Laid.{told, goes, count_in, laid_out, outcome, Laid, Holds}

module _ {A : Type 0} (most : ℕ) (blank : A) where
  -- a list in front of blanks is found
  pub laid_found : (n : ℕ) (array l : List A) → n ≡ length l → n ≤ most → array ≡ laid_out most blank (found l) → (outcome most blank (Ok tt) n array ≡ found l) × Laid most blank (Ok tt) n array
  unfolding told laid_out count_in
  laid_found n array l count few is =
      let all : take n array ≡ l = rw (is, count) (take-append_seam l (replicate (most - length l) blank)) in
      (ap found all, record { few = few; count = count ∙ ap length (sym all); is = is ∙ ap (λ (k : List A). laid_out most blank (found k)) (sym all) })

  -- blanks alone, with a refusal
  pub laid_refused : (why : Refusal) (array : List A) → array ≡ replicate most blank → (outcome most blank (Err why) 0 array ≡ refused_by why) × Laid most blank (Err why) 0 array
  unfolding told laid_out count_in
  laid_refused why array is = (refl, record { few = omega arith; count = refl; is = is })

  -- blanks alone, with either verdict
  pub laid_none : (v : Result (Unit {0}) Refusal) (array : List A) → array ≡ replicate most blank → (outcome most blank v 0 array ≡ told v []) × Laid most blank v 0 array
  unfolding told laid_out
  laid_none (Ok u) array is = let all : most - 0 ≡ most = omega arith in laid_found 0 array [] refl (omega arith) (rw all is)
  laid_none (Err why) array is = laid_refused why array is

  -- one more takes the place of a blank
  laid_more : (array l : List A) (x : A) (n : ℕ) → n ≡ length l → n < most → array ≡ laid_out most blank (found l) → set array n x ≡ laid_out most blank (found (l ++ (x ∷ [])))
  unfolding laid_out
  laid_more array l x n count low is =
      let blanks = replicate (most - (n + 1)) blank in
      let one : most - length l ≡ suc (most - (n + 1)) = omega (arith, count) in
      let longer : length (l ++ (x ∷ [])) ≡ n + 1 = length-append l (x ∷ []) ∙ ap (λ (k : ℕ). k + 1) (sym count) in
      let has : array ≡ l ++ (blank ∷ blanks) = is ∙ ap (λ (k : ℕ). l ++ replicate k blank) one in
      rw (has, longer, append_assoc l (x ∷ []) blanks) (set_at l blank blanks x n (sym count))

  module _ {v : (Result (Unit {0}) Refusal)} {n : ℕ} {array : List A} (H : Holds most blank v n array) where
    pub held_count : n ≡ length (take n array)
    unfolding count_in
    held_count = H.laid.count ∙ ap count_in H.going

    pub held_array : array ≡ laid_out most blank (found (take n array))
    held_array = H.laid.is ∙ ap (laid_out most blank) H.going

    -- with one more
    pub with_one : (x : A) → n < most → (outcome most blank (Ok tt) (n + 1) (set array n x) ≡ found (take n array ++ (x ∷ []))) × Laid most blank (Ok tt) (n + 1) (set array n x)
    with_one x low =
        laid_found (n + 1) (set array n x) (take n array ++ (x ∷ [])) (omega (arith, held_count, length-append (take n array) (x ∷ []))) (omega arith)
        (laid_more array (take n array) x n held_count low held_array)

    -- with no more
    pub with_none : (outcome most blank (Ok tt) n array ≡ found (take n array ++ [])) × Laid most blank (Ok tt) n array
    with_none = let L = laid_found n array (take n array) held_count H.laid.few held_array in (rw append-nil L.0, L.1)

  -- where nothing is refused it holds
  goes_told : (v : Result (Unit {0}) Refusal) (l : List A) → goes v ≡ true → told v l ≡ found l
  unfolding goes told
  goes_told (Ok u) l e = refl
  goes_told (Err why) l e = let z : ◌≡◌ {A = ℕ} 0 1 = cc in absurd (omega arith)

  pub goes_holds : {v : (Result (Unit {0}) Refusal)} {n : ℕ} {array : List A} → Laid most blank v n array → goes v ≡ true → Holds most blank v n array
  goes_holds {v} {n} {array} L e = record { laid = L; going = goes_told v (take n array) e }

  -- where something is, it is refused
  pub stops_refused : (v : Result (Unit {0}) Refusal) (l : List A) → goes v ≡ false → (n : ℕ) × (told v l ≡ refused n)
  unfolding goes told
  stops_refused (Ok u) l e = let z : ◌≡◌ {A = ℕ} 0 1 = cc in absurd (omega arith)
  stops_refused (Err why) l e = (number_of why, refl)
