-- Texts put one after the other are one text. Assumes nothing.
use Prim.Native.Nat.{ℕ, suc, ◌+◌, ◌≤◌}
use native.Mathlib.Nat.{add-zero}
use native.Mathlib.Omega.{arith}
use mathlib.Core.Path.{◌≡◌, refl, sym, ap, ◌∙◌}
use mathlib.Core.List.{List, [], ◌∷◌, ◌++◌, append_assoc}
use lib.ListN.{length, take, drop, set, length-append}
use lib.Seq.{sets, sets-eq}
use Rattle.report.specs.Puts.{Puts}

sets_parts : (s t b : List ℕ) (at : ℕ) → sets b at (s ++ t) ≡ sets (sets b at s) (at + length s) t
sets_parts [] t b at = rw (add-zero at) refl
sets_parts (x ∷ s) t b at =
    let same : suc at + length s ≡ at + suc (length s) = omega arith in
    sets_parts s t (set b at x) (suc at) ∙ ap (λ (k : ℕ). sets (sets (set b at x) (suc at) s) k t) same

pub puts_then : {l k : ℕ} {s t b m a : List ℕ} {at r q : ℕ} → Puts l s b at m r → Puts k t m r a q → Puts (l + k) (s ++ t) b at a q
puts_then {l} {k} {s} {t} {b} {m} {a} {at} {r} {q} P Q =
    record {
      stored = Q.stored ∙ ap (λ (p : List ℕ). sets p r t) P.stored ∙ ap (λ (p : ℕ). sets (sets b at s) p t) P.place ∙ sym (sets_parts s t b at);
      place = omega (arith, P.place, Q.place, length-append s t);
      short = omega (arith, P.short, Q.short);
    }

-- the longest length may be any that is long enough, or the text's own
pub puts_within : {l : ℕ} (k : ℕ) {s b a : List ℕ} {at q : ℕ} → l ≤ k → Puts l s b at a q → Puts k s b at a q
puts_within {l} k {s} {b} {a} {at} {q} h P = record { stored = P.stored; place = P.place; short = omega (arith, P.short) }

pub puts_exactly : {l : ℕ} {s b a : List ℕ} {at q : ℕ} → Puts l s b at a q → Puts (length s) s b at a q
puts_exactly {l} {s} {b} {a} {at} {q} P = record { stored = P.stored; place = P.place; short = omega (arith, P.place) }

-- a text put over as many bytes is stored byte by byte
pub stores_text : (text b : List ℕ) (at : ℕ) → at + length text ≤ length b → take at b ++ (text ++ drop (at + length text) b) ≡ sets b at text
stores_text text b at room = sym (sets-eq text b at room ∙ append_assoc (take at b) text (drop (at + length text) b))
