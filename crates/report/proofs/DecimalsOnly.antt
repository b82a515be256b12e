-- The decimal text of a number says it, and no other text does. Assumes nothing.
use Prim.Native.Nat.{ℕ, zero, suc, ◌+◌, ◌-◌, ◌*◌, ◌/◌, ◌%◌, ◌≤◌, ◌<◌}
use native.Mathlib.Nat.{le_refl}
use native.Mathlib.Omega.{arith}
use mathlib.Core.Path.{◌≡◌, refl, sym, ap, subst, ◌∙◌}
use mathlib.Core.Bool.{Bool, true, false}
use mathlib.Core.List.{List, [], ◌∷◌, ◌++◌}
use lib.Dec.{ltb}
use lib.ListN.{length, length-append}
use borrow.Author.Tests.{ltb-true, ltb-false, le-leb}
use Rattle.netpbm.specs.Form.{digit, all, said_after}
use Rattle.netpbm.proofs.Numbers.{both, digit_range}
use Rattle.report.specs.Numbers.{decimal, Plain, Decimal}
use Rattle.report.proofs.Last.{ended, all_last, said_last}
use Rattle.report.proofs.Decimals.{decimal_one, decimal_more}

is_digit : (d : ℕ) → d < 10 → digit (48 + d) ≡ true
unfolding digit
is_digit d h = rw (le-leb 48 (48 + d) (omega arith), le-leb (48 + d) 57 (omega arith))

-- digits that follow make a number no smaller
no_smaller : (n : ℕ) (s : List ℕ) → n ≤ said_after n s
unfolding said_after
no_smaller n [] = le_refl n
no_smaller n (b ∷ s) = let h = no_smaller (n * 10 + (b - 48)) s in omega (arith, h)

-- the decimal of a number that is not 0 may go on
goes_on : (s : List ℕ) (d m : ℕ) → Plain s → said_after 0 s ≡ m → 0 < m → Plain (s ++ (d ∷ []))
unfolding said_after
goes_on [] d m p e h = absurd p
goes_on (b ∷ []) d m p e h = omega (arith, e)
goes_on (b ∷ c ∷ s) d m p e h = p

one_right : (n : ℕ) → n < 10 → Decimal n (decimal n)
unfolding all said_after
one_right n h =
    let d = n % 10 in
    rw (decimal_one n h) (record { digits = rw (is_digit d (omega arith)) refl; says = omega arith; plain = tt })

more_right : (n : ℕ) → 10 ≤ n → Decimal (n / 10) (decimal (n / 10)) → Decimal n (decimal n)
more_right n h D =
    let d = 48 + n % 10 in
    let s = decimal (n / 10) in
    rw (decimal_more n h)
    (record {
      digits = all_last digit s d ∙ rw D.digits (is_digit (n % 10) (omega arith));
      says = said_last 0 s d ∙ omega (arith, D.says);
      plain = goes_on s d (n / 10) D.plain D.says (omega arith);
    })

right : (k n : ℕ) → n ≤ k → Decimal n (decimal n)
right zero n h = one_right n (omega arith)
right (suc k) n h = go (ltb n 10) refl (λ big. right k (n / 10) (omega arith))
  where
    go : (t : Bool) → ltb n 10 ≡ t → (10 ≤ n → Decimal (n / 10) (decimal (n / 10))) → Decimal n (decimal n)
    go true is tenth = one_right n (ltb-true n 10 is)
    go false is tenth = let big = ltb-false n 10 is in more_right n big (tenth big)

pub decimal_right : (n : ℕ) → Decimal n (decimal n)
decimal_right n = right n n (le_refl n)

-- a single digit
one_only : (b n : ℕ) → Decimal n (b ∷ []) → b ∷ [] ≡ decimal n
unfolding all said_after
one_only b n D =
    let r = digit_range b (both (digit b) true D.digits).0 in
    let says : 0 * 10 + (b - 48) ≡ n = D.says in
    let same : b ≡ 48 + n % 10 = omega (arith, r.0, r.1, says) in
    ap (λ (d : ℕ). d ∷ []) same ∙ sym (decimal_one n (omega (arith, r.0, r.1, says)))

-- a first digit that others follow is not 0
leads : (c : ℕ) (t : List ℕ) (d : ℕ) → Plain (c ∷ (t ++ (d ∷ []))) → 48 < c
leads c [] d p = p
leads c (e ∷ t) d p = p

still_plain : (c : ℕ) (t : List ℕ) → 48 < c → Plain (c ∷ t)
still_plain c [] h = tt
still_plain c (e ∷ t) h = h

-- and so its number is not 0
says_some : (c : ℕ) (t : List ℕ) → 48 < c → 0 < said_after 0 (c ∷ t)
unfolding said_after
says_some c t h = let more = no_smaller (0 * 10 + (c - 48)) t in omega (arith, more)

more_only : (c : ℕ) (t : List ℕ) (d n : ℕ) → Decimal n ((c ∷ t) ++ (d ∷ [])) → ((m : ℕ) → Decimal m (c ∷ t) → c ∷ t ≡ decimal m) → (c ∷ t) ++ (d ∷ []) ≡ decimal n
more_only c t d n D first =
    let m = said_after 0 (c ∷ t) in
    let digits = both (all digit (c ∷ t)) (digit d) (sym (all_last digit (c ∷ t) d) ∙ D.digits) in
    let r = digit_range d digits.1 in
    let says : m * 10 + (d - 48) ≡ n = sym (said_last 0 (c ∷ t) d) ∙ D.says in
    let lead = leads c t d D.plain in
    let some = says_some c t lead in
    let tenth : m ≡ n / 10 = omega (arith, r.0, r.1, says) in
    let last : d ≡ 48 + n % 10 = omega (arith, r.0, r.1, says) in
    let before : c ∷ t ≡ decimal (n / 10) = first (n / 10) (record { digits = digits.0; says = tenth; plain = still_plain c t lead }) in
    ap (λ (l : List ℕ). l ++ (d ∷ [])) before ∙ ap (λ (b : ℕ). decimal (n / 10) ++ (b ∷ [])) last ∙ sym (decimal_more n (omega (arith, some, says)))

by_last : (s : List ℕ) (n : ℕ) (first : List ℕ) (d : ℕ) → s ≡ first ++ (d ∷ []) → Decimal n s
    → ((t : List ℕ) (m : ℕ) → length t < length s → Decimal m t → t ≡ decimal m) → s ≡ decimal n
by_last s n [] d e D shorter = e ∙ one_only d n (subst (Decimal n) e D)
by_last s n (c ∷ t) d e D shorter =
    let less : length (c ∷ t) < length s = omega (arith, ap length e, length-append (c ∷ t) (d ∷ [])) in
    e ∙ more_only c t d n (subst (Decimal n) e D) (λ m M. shorter (c ∷ t) m less M)

by_length : (s : List ℕ) (n : ℕ) → Decimal n s → ((t : List ℕ) (m : ℕ) → length t < length s → Decimal m t → t ≡ decimal m) → s ≡ decimal n
by_length [] n D shorter = absurd D.plain
by_length (b ∷ s) n D shorter = let E = ended b s in by_last (b ∷ s) n E.first E.last E.whole D shorter

only : (k : ℕ) (s : List ℕ) (n : ℕ) → length s ≤ k → Decimal n s → s ≡ decimal n
only zero s n h D = by_length s n D (λ t m less M. absurd (omega (arith, less)))
only (suc k) s n h D = by_length s n D (λ t m less M. only k t m (omega (arith, less)) M)

-- there is no other decimal of a number
pub decimal_only : (n : ℕ) (s : List ℕ) → Decimal n s → s ≡ decimal n
decimal_only n s D = only (length s) s n (le_refl (length s)) D
