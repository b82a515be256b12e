-- How a scan of a picture goes from line to line. Assumes nothing.
use Rattle.std.specs.Prelude.{Some, None}
use Prim.Native.Nat.{ℕ, zero, suc, ◌+◌, ◌-◌, ◌*◌, ◌≤◌, ◌<◌}
use native.Mathlib.Numerals.{add-one}
use native.Mathlib.Omega.{arith}
use mathlib.Core.Path.{◌≡◌, refl, sym, ap, ◌∙◌}
use mathlib.Core.Bool.{Bool, true, false, cond}
use mathlib.Core.List.{List, [], ◌++◌}
use Rattle.scanner.specs.Cuts.{line_cuts}
use Rattle.scanner.specs.Lines.{some, next_line}
use Rattle.scanner.specs.Scan.{begun, OnLine, Comes, to_cut, to_end}
use Rattle.scanner.specs.declared.LinePosition.{LinePosition}
use Rattle.scanner.specs.declared.LineScanner.{LineScanner}
use Rattle.scanner.proofs.Ahead.{begins, begun_on}
use Rattle.scanner.proofs.NextLine.{none_on}
use Rattle.marks.specs.Cuts.{places_on, cuts_from, cuts_after, Reaches, next_cut, no_cut}

-- a line, and those below it
lines_from : (p : List ℕ) (w h y : ℕ) → y < h → cuts_from p w (h - y) y ≡ places_on y (line_cuts p (y * w) w) ++ cuts_from p w (h - (y + 1)) (y + 1)
unfolding cuts_from
lines_from p w h y low = let left : h - y ≡ suc (h - (y + 1)) = omega arith in rw (left, add-one y)

-- a scan that begins a line has all cuts from there on ahead
pub from_begun : (p : List ℕ) (w h y : ℕ) → y < h → cuts_after p w h y begun ≡ cuts_from p w (h - y) y
from_begun p w h y low = rw (begins p (y * w) w) (sym (lines_from p w h y low))

-- no lines have no cuts
none_from : (p : List ℕ) (w n y : ℕ) → n ≡ 0 → cuts_from p w n y ≡ []
unfolding cuts_from
none_from p w zero y z = refl
none_from p w (suc n) y z = absurd (omega arith)

-- the lines that are passed over have no cut
record Passes (p : List ℕ) (w n y to : ℕ) : Type 0 where
  from : y ≤ to
  at_most : to ≤ y + n
  cuts : cuts_from p w n y ≡ cuts_from p w ((y + n) - to) to

passes : (p : List ℕ) (w n y : ℕ) → Passes p w n y (next_line p w n y)
unfolding next_line cuts_from
passes p w zero y = let none : (y + 0) - y ≡ 0 = omega arith in record { from = omega arith; at_most = omega arith; cuts = rw none }
passes p w (suc n) y = go (some (line_cuts p (y * w) w)) refl (passes p w n (suc y))
  where
    go : (b : Bool) → some (line_cuts p (y * w) w) ≡ b → Passes p w n (suc y) (next_line p w n (suc y)) → Passes p w (suc n) y (cond b y (next_line p w n (suc y)))
    go true e P = let all : (y + suc n) - y ≡ suc n = omega arith in record { from = omega arith; at_most = omega arith; cuts = rw all }
    go false e P =
        let bare : places_on y (line_cuts p (y * w) w) ≡ [] = rw (none_on _ e) in
        let same : y + suc n ≡ suc y + n = omega arith in
        record { from = omega (arith, P.from); at_most = omega (arith, P.at_most); cuts = rw (bare, same, P.cuts) }

pub next_from : (p : List ℕ) (w n y : ℕ) {to : ℕ} → to ≡ next_line p w n y → y ≤ to
next_from p w n y e = omega (arith, e, (passes p w n y).from)

-- from a scan on to another: what is ahead of the one is ahead of the other, and nothing is where the lines end
pub record Pending (p : List ℕ) (w h y : ℕ) (scan : LineScanner) (to : ℕ) (next : LineScanner) : Type 0 where
  pub on : OnLine w next
  pub within : to ≤ h
  still : to < h → cuts_after p w h y scan ≡ cuts_after p w h to next
  none : h ≤ to → cuts_after p w h y scan ≡ []

module _ {p : List ℕ} {w h y : ℕ} {scan : LineScanner} where
  pub pending_begun : y < h → OnLine w scan → Pending p w h y scan y scan
  pending_begun low on = record { on = on; within = omega arith; still = λ _. refl; none = λ past. absurd (omega arith) }

  module _ {to : ℕ} {next : LineScanner} (P : Pending p w h y scan to next) where
    pub pending_ends : h ≤ to → Reaches p w h y scan None
    pending_ends past = no_cut (P.none past)

    pub pending_cut : {at : LinePosition} {on : LineScanner} → to < h → Comes p (to * w) w next (Some (at, on)) → Reaches p w h y scan (Some (to, at, on))
    pending_cut low (to_cut at on e line) = next_cut to at on low line (P.still low ∙ ap (λ (l : List LinePosition). places_on to l ++ cuts_from p w (h - (to + 1)) (to + 1)) e)

    pub pending_down : {line : ℕ} {first : LineScanner} → to < h → Comes p (to * w) w next None → line ≡ next_line p w (h - (to + 1)) (to + 1) → first ≡ begun → Pending p w h y scan line first
    pending_down {line} {first} low (to_end e) is new =
        let Q : Passes p w (h - (to + 1)) (to + 1) line = rw is (passes p w (h - (to + 1)) (to + 1)) in
        let below : (to + 1 + (h - (to + 1))) - line ≡ h - line = omega (arith, low) in
        let left : cuts_after p w h y scan ≡ cuts_from p w (h - line) line = P.still low ∙ ap (λ (l : List LinePosition). places_on to l ++ cuts_from p w (h - (to + 1)) (to + 1)) e ∙ Q.cuts ∙ ap (λ (n : ℕ). cuts_from p w n line) below in
        record {
          on = rw new (begun_on w);
          within = omega (arith, Q.at_most);
          still = λ in_y. left ∙ rw new (sym (from_begun p w h line in_y));
          none = λ past. left ∙ none_from p w (h - line) line (omega arith);
        }
