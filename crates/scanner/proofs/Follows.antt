-- The Rust's machine follows the scan from edge to edge: after each byte it stands where that scan stands, and it answers the cut that the byte makes. Assumes nothing.
use Prim.Native.Nat.{ℕ, suc, ◌+◌, ◌-◌, ◌≤◌, ◌<◌}
use native.Mathlib.Omega.{arith}
use mathlib.Core.Path.{◌≡◌, refl, sym, ap, ◌∙◌}
use mathlib.Core.Bool.{Bool, true, false, not, cond, ◌&&◌, true≢false, not-not}
use mathlib.Core.List.{List, [], ◌∷◌, ◌++◌}
use mathlib.Core.Logic.{◌↔◌}
use lib.Dec.{eqb, leb}
use lib.ListN.{drop}
use borrow.Author.Tests.{eq-eqb, ne_eqb, eqb-true, eqb-false, lt-ltb}
use Rattle.runs.specs.Mark.{mark_like}
use Rattle.scanner.specs.Edges.{dark, edges_from, edges_after}
use Rattle.scanner.specs.Cuts.{lengths, position}
use Rattle.scanner.specs.Scan.{begun, passed, ahead, OnLine}
use Rattle.scanner.specs.Machine.{Machine, new, grown, turned, total, line_position, advanced, answered}
use Rattle.scanner.specs.declared.LinePosition.{LinePosition}
use Rattle.scanner.specs.declared.LineScanner.{LineScanner}
use Rattle.scanner.proofs.RunEnds.{like, unlike}
use Rattle.scanner.proofs.Ahead.{none_after, by_edge, at_end, stays_on, begun_on}

-- a byte that a pixel of this shade may show: 0 where it is light, and only there
abbrev pub Shows : Bool → ℕ → Type 0
Shows shade byte = (byte ≡ 0) ↔ (shade ≡ false)

pub shade_of : (shade : Bool) (byte : ℕ) → Shows shade byte → shade ≡ not (eqb byte 0)
shade_of true byte h = rw (ne_eqb byte 0 (λ e. true≢false (h.0 e)))
shade_of false byte h = rw (eq-eqb byte 0 (h.1 refl))

-- the same byte again is of the same shade
same_shade : (a b : Bool) (m n : ℕ) → Shows a m → Shows b n → m ≡ n → b ≡ a
same_shade a b m n h k e = shade_of b n k ∙ ap (λ (v : ℕ). not (eqb v 0)) (sym e) ∙ sym (shade_of a m h)

-- where dark pixels show one byte, another byte is of the other shade
other_shade : (a b : Bool) (m n : ℕ) → Shows a m → Shows b n → (a ≡ true → b ≡ true → m ≡ n) → (m ≡ n → ⊥) → b ≡ not a
other_shade true true m n h k one ne = absurd (ne (one refl refl))
other_shade true false m n h k one ne = refl
other_shade false true m n h k one ne = refl
other_shade false false m n h k one ne = absurd (ne (h.1 refl ∙ sym (k.1 refl)))

-- the machine at the same byte again, and at another
unanswered : (m : Machine) (byte : ℕ) → eqb m.last_color byte ≡ true → answered m byte ≡ []
unfolding answered
unanswered m byte same = rw same

by_same : (m : Machine) (byte : ℕ) → eqb m.last_color byte ≡ true → advanced m byte ≡ grown m
unfolding advanced
by_same m byte same = rw same

by_other : (m : Machine) (byte : ℕ) → eqb m.last_color byte ≡ false → advanced m byte ≡ turned m byte
unfolding advanced
by_other m byte other = rw other

pub reads : (m : Machine) (byte : ℕ) → (advanced m byte).last_color ≡ byte
reads m byte = go (eqb m.last_color byte) refl
  where
    go : (t : Bool) → eqb m.last_color byte ≡ t → (advanced m byte).last_color ≡ byte
    go true same = rw (by_same m byte same) (eqb-true m.last_color byte same)
    go false other = rw (by_other m byte other)

-- a byte that is not white is not answered
pub unanswered_dark : (m : Machine) (byte : ℕ) → (byte ≡ 0 → ⊥) → answered m byte ≡ []
unfolding answered
unanswered_dark m byte dark = rw (ne_eqb byte 0 dark) (go (eqb m.last_color byte))
  where
    go : (t : Bool) → cond {A = List LinePosition} t [] [] ≡ []
    go true = refl
    go false = refl

-- its test in the order of a cut's, and a cut that joins the later ones
joins : (d t r : Bool) (cut : LinePosition) (later : List LinePosition) → cond (d && t && r) (cut ∷ []) [] ++ later ≡ cond (t && (d && r)) (cut ∷ later) later
joins true true true cut later = refl
joins true true false cut later = refl
joins true false r cut later = refl
joins false true r cut later = refl
joins false false r cut later = refl

-- two runs more behind column f: where the first of them began
two_back : (a b c f : ℕ) (runs : List ℕ) → a ≤ b → b ≤ c → f - total runs ≡ c → f - total ((b - a) ∷ (c - b) ∷ runs) ≡ a
two_back a b c f runs ab bc reached = omega arith

module _ (p : List ℕ) (base w : ℕ) where
  -- the machine, which read column x last and has n left, stands where the scan s stands: the latest edge of s began the present run, and the runs behind lie between the edges before
  pub record Follows (x n : ℕ) (m : Machine) (s : LineScanner) : Type 0 where
    pub at : m.current_position ≡ x
    pub left : suc x + n ≡ w
    pub shows : Shows (dark p base x) m.last_color
    pub shade : dark p base x ≡ dark p base s.e4
    pub since : s.e4 ≤ x
    pub run : m.run_length + s.e4 ≡ suc x
    pub behind : drop 1 m.lookbehind ≡ (s.e1 - s.e0) ∷ (s.e2 - s.e1) ∷ (s.e3 - s.e2) ∷ (s.e4 - s.e3) ∷ []
    pub changes : suc m.color_changes ≡ s.met
    pub on_line : OnLine w s
    pub edges : edges_after p base w s.e4 ≡ edges_from (dark p base s.e4) p base n (suc x)

  module _ (x n : ℕ) (m : Machine) (s : LineScanner) (F : Follows x n m s) where
    -- the runs behind it and its position, after an edge at the next column
    runs_turned : drop 1 m.lookbehind ++ (m.run_length ∷ []) ≡ lengths s.e0 s.e1 s.e2 s.e3 s.e4 (suc x)
    runs_turned =
        let last : m.run_length ≡ suc x - s.e4 = omega (arith, F.run) in
        rw (F.behind, last)

    position_turned : (byte : ℕ) → line_position (turned m byte) ≡ position s.e0 s.e2 s.e4
    position_turned byte =
        let on = F.on_line in
        let low : s.e4 ≤ suc x = omega (arith, F.since) in
        let right : suc x - (suc x - s.e4) ≡ s.e4 = omega arith in
        let last = (suc x - s.e4) ∷ [] in
        let stone = two_back s.e2 s.e3 s.e4 (suc x) last on.in2 on.in3 (omega arith) in
        let left = two_back s.e0 s.e1 s.e2 (suc x) ((s.e3 - s.e2) ∷ (s.e4 - s.e3) ∷ last) on.in0 on.in1 stone in
        rw (runs_turned, F.at) (λ i. record { left = left i; stone = stone i; right = right i })

    module _ (edge : edges_after p base w s.e4 ≡ suc x ∷ edges_after p base w (suc x)) where
      -- what is ahead, by the cut that this edge makes
      by_next : cond (dark p base s.e4 && leb 5 s.met && mark_like (lengths s.e0 s.e1 s.e2 s.e3 s.e4 (suc x))) (position s.e0 s.e2 s.e4 ∷ []) []
          ++ ahead p base w (passed s (suc x))
          ≡ ahead p base w s
      by_next =
          joins (dark p base s.e4) (leb 5 s.met) (mark_like (lengths s.e0 s.e1 s.e2 s.e3 s.e4 (suc x))) (position s.e0 s.e2 s.e4) (ahead p base w (passed s (suc x)))
          ∙ sym (by_edge p base w s (suc x) F.on_line.some edge)

      -- the machine answers it, at another byte that is white where the run before was not
      turn : (byte : ℕ) → eqb m.last_color byte ≡ false → eqb byte 0 ≡ dark p base s.e4 → answered m byte ++ ahead p base w (passed s (suc x)) ≡ ahead p base w s
      unfolding answered
      turn byte other white = rw (other, white, F.changes, position_turned byte, runs_turned) by_next

  -- at the end of the line, the virtual white pixel has the machine answer what is still ahead
  pub last_answer : (x : ℕ) (m : Machine) (s : LineScanner) → Follows x 0 m s → answered m 0 ++ [] ≡ ahead p base w s
  unfolding edges_from
  last_answer x m s F = go (eqb m.last_color 0) refl
    where
      off : w ≤ suc x
      off = omega (arith, F.left)

      none : ahead p base w (passed s (suc x)) ≡ []
      none = at_end p base w (passed s (suc x)) off

      edge : edges_after p base w s.e4 ≡ suc x ∷ edges_after p base w (suc x)
      edge = rw (none_after p base w (suc x) off) F.edges

      last : dark p base s.e4 ≡ not (eqb m.last_color 0)
      last = sym F.shade ∙ shade_of (dark p base x) m.last_color F.shows

      go : (t : Bool) → eqb m.last_color 0 ≡ t → answered m 0 ++ [] ≡ ahead p base w s
      go true same =
          let light : dark p base s.e4 ≡ false = last ∙ ap not same in
          rw (unanswered m 0 same) (sym none ∙ rw light at (by_next x 0 m s F edge))
      go false other = ap (λ (l : List LinePosition). answered m 0 ++ l) (sym none) ∙ turn x 0 m s F edge 0 other (sym (last ∙ ap not other))

  -- after one more byte it follows a scan that has the rest ahead
  pub record Next (x n : ℕ) (m : Machine) (s : LineScanner) (byte : ℕ) : Type 0 where
    pub scan : LineScanner
    pub follows : Follows (suc x) n (advanced m byte) scan
    pub answers : answered m byte ++ ahead p base w scan ≡ ahead p base w s

  module _ (x n : ℕ) (m : Machine) (s : LineScanner) (F : Follows x (suc n) m s) (byte : ℕ) (new : Shows (dark p base (suc x)) byte) where
    -- the same byte again, with no edge
    grows : m.last_color ≡ byte → Follows (suc x) n (grown m) s
    unfolding edges_from
    grows same =
        let shade = same_shade (dark p base x) (dark p base (suc x)) m.last_color byte F.shows new same ∙ F.shade in
        record {
          at = ap suc F.at;
          left = omega (arith, F.left);
          shows = rw same new;
          shade = shade;
          since = omega (arith, F.since);
          run = omega (arith, F.run);
          behind = F.behind;
          changes = F.changes;
          on_line = F.on_line;
          edges = F.edges ∙ rw (shade, like (dark p base s.e4));
        }

    -- another byte, with an edge
    after_next : edges_after p base w (suc x) ≡ edges_from (dark p base (suc x)) p base n (suc (suc x))
    unfolding edges_after
    after_next =
        let count : w - suc (suc x) ≡ n = omega (arith, F.left) in
        rw (lt-ltb (suc x) w (omega (arith, F.left)), count)

    edge_next : dark p base (suc x) ≡ not (dark p base s.e4) → edges_after p base w s.e4 ≡ suc x ∷ edges_after p base w (suc x)
    unfolding edges_from
    edge_next other = F.edges ∙ rw (after_next, other, unlike (dark p base s.e4))

    turns : Follows (suc x) n (turned m byte) (passed s (suc x))
    turns =
        record {
          at = ap suc F.at;
          left = omega (arith, F.left);
          shows = new;
          shade = refl;
          since = omega arith;
          run = omega arith;
          behind = rw (runs_turned x (suc n) m s F);
          changes = omega (arith, F.changes);
          on_line = stays_on w s (suc x) F.on_line (omega (arith, F.since)) (omega (arith, F.left));
          edges = after_next;
        }

    pub next : (dark p base x ≡ true → dark p base (suc x) ≡ true → m.last_color ≡ byte) → Next x n m s byte
    next one = go (eqb m.last_color byte) refl
      where
        go : (t : Bool) → eqb m.last_color byte ≡ t → Next x n m s byte
        go true same = record { scan = s; follows = rw (by_same m byte same) (grows (eqb-true m.last_color byte same)); answers = rw (unanswered m byte same) }
        go false other =
            let shade = other_shade (dark p base x) (dark p base (suc x)) m.last_color byte F.shows new one (eqb-false m.last_color byte other) in
            let white = sym (not-not (eqb byte 0)) ∙ ap not (sym (shade_of (dark p base (suc x)) byte new) ∙ shade) ∙ not-not (dark p base x) ∙ F.shade in
            record {
              scan = passed s (suc x);
              follows = rw (by_other m byte other) turns;
              answers = turn x (suc n) m s F (edge_next (shade ∙ ap not F.shade)) byte other white;
            }

  -- from the first byte on
  pub starts : (first : ℕ) → 0 < w → Shows (dark p base 0) first → Follows 0 (w - 1) (new first) begun
  unfolding begun edges_after
  starts first some shows =
      record {
        at = refl;
        left = omega arith;
        shows = shows;
        shade = refl;
        since = omega arith;
        run = omega arith;
        behind = refl;
        changes = refl;
        on_line = begun_on w;
        edges = rw (lt-ltb 0 w some);
      }
