-- A search keeps the picture in work, and goes on from cut to cut. Assumes nothing.
use Rattle.std.specs.Prelude.{Option, Some, None, Result, Ok, Err}
use Rattle.refusals.specs.declared.Refusal.{Refusal}
use Prim.Native.Nat.{ℕ, zero, suc, ◌+◌, ◌-◌, ◌*◌, ◌≤◌, ◌<◌}
use native.Mathlib.Omega.{arith}
use mathlib.Core.Path.{◌≡◌, refl, sym, ap, ◌∙◌, subst}
use mathlib.Core.Bool.{Bool, true, false, not, cond}
use mathlib.Core.List.{List, [], ◌∷◌, ◌++◌, append-nil}
use mathlib.Core.Logic.{inl, inr, ⊎_elim}
use lib.Dec.{leb}
use lib.ListN.{length}
use borrow.Author.Tests.{leb-false}
use Rattle.refusals.specs.Limits.{most_stones}
use Rattle.refusals.specs.Finding.{Finding, found, refused, refused_by}
use Rattle.refusals.specs.declared.Refusal.TheVariants as refusal
use Rattle.points.specs.declared.Point.{Point}
use Rattle.geometry.specs.Create.{sight_of}
use Rattle.geometry.specs.Map.{mapped}
use Rattle.geometry.specs.declared.Perspective.{Perspective}
use Rattle.geometry.specs.declared.Sight.{Sight}
use Rattle.geometry.specs.declared.Sight.TheVariants.{Made, Flat}
use Rattle.stated.specs.Stated.{near}
use Rattle.laid.specs.Laid.{told, added}
use Rattle.laid.proofs.Standing.{held_count}
use Rattle.pieces.specs.Count.{Mem}
use Rattle.table.specs.declared.Table.{Table}
use Rattle.scanner.specs.Edges.{dark}
use Rattle.scanner.specs.Cuts.{line_cuts}
use Rattle.scanner.specs.Scan.{begun, OnLine}
use Rattle.scanner.specs.declared.LinePosition.{LinePosition}
use Rattle.scanner.specs.declared.LineScanner.{LineScanner}
use Rattle.scanner.proofs.Dark.{OnDark, line_dark}
use Rattle.scanner.proofs.Ahead.{begun_on}
use Rattle.scanner.proofs.Alike.{ahead_alike, line_alike}
use Rattle.corners.specs.declared.all_corners.AllCornerFinder.{AllCornerFinder}
use Rattle.capstones.specs.Blank.{no_stone}
use Rattle.capstones.specs.Modules.{seven, middle}
use Rattle.capstones.specs.declared.CapStone.{CapStone}
use Rattle.marks.specs.InWork.{InWork, AtCut}
use Rattle.marks.specs.Stone.{placed_stone, centred_stone, seen_stone, stone_of}
use Rattle.marks.specs.Cuts.{Place, places_on, cuts_from, all_cuts, cuts_after, Reaches, next_cut, no_cut}
use Rattle.marks.specs.Search.{Tries, no_ring, ring, Searches, finished, tried, stopped, stones_of, outcome, Laid}
use Rattle.marks.specs.declared.search.Marks.{Marks}
use Rattle.marks.proofs.Work.{Goes, goes_on, goes_still}
use Rattle.marks.proofs.Cut.{tests_go, tests_ringed}
use Rattle.marks.proofs.Fills.{rings_go}
use Rattle.marks.proofs.Lines.{from_begun}

-- a stone is found only where there is room for it
room_of : {A : Type 0} (far full : Bool) (a : A) (f : Finding A) → cond far (refused_by refusal.Far) (cond full (refused_by refusal.Stones) f) ≡ found a → full ≡ false
room_of true full a f e = let z : ◌≡◌ {A = ℕ} 0 1 = cc in absurd (omega arith)
room_of false true a f e = let z : ◌≡◌ {A = ℕ} 0 1 = cc in absurd (omega arith)
room_of false false a f e = refl

placed_room : (p0 p1 p2 p3 : Point) (c : Perspective) (n : ℕ) (f : Finding Point) (stone : CapStone) → placed_stone p0 p1 p2 p3 c n f ≡ found (stone ∷ []) → n < most_stones
unfolding placed_stone
placed_room p0 p1 p2 p3 c n (found center) stone e = leb-false most_stones n (room_of (not (near center)) (leb most_stones n) (stone ∷ []) (found (record { corner0 = p0; corner1 = p1; corner2 = p2; corner3 = p3; center = center; c = c } ∷ [])) e)
placed_room p0 p1 p2 p3 c n (refused why) stone e = let z : ◌≡◌ {A = ℕ} 0 1 = cc in absurd (omega arith)

seen_room : (p0 p1 p2 p3 : Point) (n : ℕ) (s : Sight) (stone : CapStone) → seen_stone p0 p1 p2 p3 n s ≡ found (stone ∷ []) → n < most_stones
unfolding seen_stone centred_stone
seen_room p0 p1 p2 p3 n (Made c) stone e = placed_room p0 p1 p2 p3 c n (mapped c middle middle) stone e
seen_room p0 p1 p2 p3 n Flat stone e = let z : ◌≡◌ {A = ℕ} 0 1 = cc in absurd (omega arith)

stone_room : (f : AllCornerFinder) (n : ℕ) (stone : CapStone) → stone_of f n ≡ found (stone ∷ []) → n < most_stones
unfolding stone_of
stone_room f n stone e =
    let p0 = f.ahead.place in
    let p1 = f.right.place in
    let p2 = f.behind.place in
    let p3 = f.left.place in
    seen_room p0 p1 p2 p3 n (sight_of p0 p1 p2 p3 seven seven) stone e

-- a stone that a cut adds after n others has room
pub tries_fit : {p : List ℕ} {w h y : ℕ} {cut : LinePosition} {T : Table} {n : ℕ} {f : Finding (List CapStone)} {q : List ℕ} {U : Table} {stone : CapStone} → Tries p w h y cut T n f q U → f ≡ found (stone ∷ []) → n < most_stones
tries_fit (no_ring X e) g = let z : ◌≡◌ {A = ℕ} 0 1 = cc in absurd (omega arith)
tries_fit {n = n} {stone = stone} (ring m X K) g = stone_room K.corners n stone (sym K.is ∙ g)

-- a cut of line y is tried, and what it comes to is taken
pub record Takes (p : List ℕ) (w h y : ℕ) (cut : LinePosition) (s : Marks) (q : List ℕ) (r : Marks) : Type 0 where
  finding : Finding (List CapStone)
  tries : Tries p w h y cut s.table s.n finding q r.table
  is : outcome r ≡ added (stones_of s) finding
  pub laid : Laid r

-- the stones stand as they did beside another table
abbrev pub with_table : Marks → Table → Marks
with_table s U = record { stones = s.stones; n = s.n; table = U; verdict = s.verdict }

-- what each case of a mark makes of a search: a stone more, the table alone, or a refusal
module _ {p : List ℕ} {w h y : ℕ} {cut : LinePosition} {s : Marks} {f : Finding (List CapStone)} {q : List ℕ} {U : Table} (X : Tries p w h y cut s.table s.n f q U) where
  takes_as : {r : Marks} (g : Finding (List CapStone)) → f ≡ g → (outcome r ≡ added (stones_of s) g) × Laid r × (r.table ≡ U) → Takes p w h y cut s q r
  takes_as {r} g e R =
      let Y : Tries p w h y cut s.table s.n g q U = rw (← e) X in
      record { finding = g; tries = subst (λ (v : Table). Tries p w h y cut s.table s.n g q v) (sym R.2) Y; is = R.0; laid = R.1 }

  pub takes_stone : {r : Marks} {stone : CapStone} → f ≡ found (stone ∷ []) → (outcome r ≡ found (stones_of s ++ (stone ∷ []))) × Laid r × (r.table ≡ U) → Takes p w h y cut s q r
  unfolding added
  takes_stone e R = takes_as _ e R

  pub takes_nothing : f ≡ found [] → Laid s → outcome s ≡ found (stones_of s) → Takes p w h y cut s q (with_table s U)
  unfolding added
  takes_nothing e L going = takes_as (found []) e (rw append-nil going, L, refl)

  pub takes_refusal : {r : Marks} {n : ℕ} → f ≡ refused n → (outcome r ≡ refused n) × Laid r × (r.table ≡ U) → Takes p w h y cut s q r
  unfolding added
  takes_refusal e R = takes_as _ e R

-- trying a cut keeps the picture in work
pub tries_go : {p : List ℕ} {w h lent : ℕ} {T : Table} {y : ℕ} {cut : LinePosition} {n : ℕ} {f : Finding (List CapStone)} {q : List ℕ} {U : Table} {room : ℕ}
    → AtCut p w h lent T y cut → lent ≤ room → Tries p w h y cut T n f q U → Goes p w h q room U
tries_go C more (no_ring X e) = tests_go C more X
tries_go {lent = lent} C more (ring m X K) =
    let G = tests_go C {room = lent} (omega arith) X in
    goes_on G (rings_go G.work (tests_ringed C (omega arith) X) K.rings more)

-- a cut's columns stay dark
pub still_dark : {p q : List ℕ} {base w : ℕ} {cut : LinePosition} → ((x : ℕ) → dark p base x ≡ dark q base x) → OnDark p base w cut → OnDark q base w cut
still_dark {cut = cut} alike O =
    record {
      left_first = O.left_first;
      stone_next = O.stone_next;
      right_on = O.right_on;
      left_dark = sym (alike cut.left) ∙ O.left_dark;
      stone_dark = sym (alike cut.stone) ∙ O.stone_dark;
      right_dark = sym (alike cut.right) ∙ O.right_dark;
    }

-- the place is a cut of the picture
pub record Stands (p : List ℕ) (w h : ℕ) (at : Place) : Type 0 where
  pub in_y : at.line < h
  pub columns : OnDark p (at.line * w) w at.cut

-- a search of cuts of the picture keeps it in work
pub search_goes : {w h lent : ℕ} {places : List Place} {p : List ℕ} {T : Table} {l : List CapStone} {f : Finding (List CapStone)} {q : List ℕ} {U : Table} {room : ℕ}
    → InWork p w h lent T → lent ≤ room → ((at : Place) → Mem at places → Stands p w h at) → Searches w h places p T l f q U → Goes p w h q room U
search_goes W more each finished = goes_still W more
search_goes {w = w} {h = h} {lent = lent} W more each (tried {at = at} X S) =
    let A = each at (inl refl) in
    let G = tries_go {room = lent} (record { work = W; in_y = A.in_y; columns = A.columns }) (omega arith) X in
    goes_on G (search_goes G.work more (λ o m. let B = each o (inr m) in record { in_y = B.in_y; columns = still_dark (G.alike (o.line * w)) B.columns }) S)
search_goes W more each (stopped {at = at} X) = let A = each at (inl refl) in tries_go (record { work = W; in_y = A.in_y; columns = A.columns }) more X

-- the places of a line
on_line : (y : ℕ) (cuts : List LinePosition) (at : Place) → Mem at (places_on y cuts) → (at.line ≡ y) × Mem at.cut cuts
on_line y [] at m = absurd m
on_line y (cut ∷ cuts) at m = ⊎_elim (λ e. (ap (λ (v : Place). v.line) e, inl (ap (λ (v : Place). v.cut) e))) (λ n. let r = on_line y cuts at n in (r.0, inr r.1)) m

pub line_stands : {p : List ℕ} {w h y : ℕ} → y < h → (at : Place) → Mem at (places_on y (line_cuts p (y * w) w)) → Stands p w h at
line_stands {p} {w} {h} {y} low at m =
    let r = on_line y (line_cuts p (y * w) w) at m in
    record { in_y = omega (arith, r.0); columns = subst (λ (v : ℕ). OnDark p (v * w) w at.cut) (sym r.0) (line_dark p (y * w) w at.cut r.1) }

-- stones that are found are those that stand
pub found_stones : (s : Marks) (l : List CapStone) → outcome s ≡ found l → (outcome s ≡ found (stones_of s)) × (stones_of s ≡ l)
unfolding told
found_stones s l e = go s.verdict (stones_of s) e
  where
    go : (v : Result (Unit {0}) Refusal) (k : List CapStone) → told v k ≡ found l → (told v k ≡ found k) × (k ≡ l)
    go (Ok u) k e = (refl, (cc))
    go (Err why) k e = let z : ◌≡◌ {A = ℕ} 0 1 = cc in absurd (omega arith)

-- what a scan of the picture comes to, by its case
pub reached : {p : List ℕ} {w h y : ℕ} {scan : LineScanner} {a b : (Option (ℕ × LinePosition × LineScanner))} → a ≡ b → Reaches p w h y scan a → Reaches p w h y scan b
reached {p} {w} {h} {y} {scan} e C = subst (Reaches p w h y scan) e C

-- the cuts of a picture are those of one that is dark at the same places
cuts_alike : (p q : List ℕ) (w : ℕ) → ((base x : ℕ) → dark p base x ≡ dark q base x) → (n y : ℕ) → cuts_from p w n y ≡ cuts_from q w n y
unfolding cuts_from
cuts_alike p q w alike zero y = refl
cuts_alike p q w alike (suc n) y = rw (line_alike p q (y * w) (alike (y * w)) w, cuts_alike p q w alike n (suc y))

-- the first cut that is ahead of a scan, and the scan that goes on from it
abbrev place : ℕ → LinePosition → Place
place line at = record { line = line; cut = at }

record Met (p : List ℕ) (w h y : ℕ) (scan : LineScanner) (line : ℕ) (at : LinePosition) (next : LineScanner) : Type 0 where
  low : line < h
  on : OnLine w next
  is : cuts_after p w h y scan ≡ place line at ∷ cuts_after p w h line next

-- over a picture: the cuts ahead are still to be searched
module _ (p0 : List ℕ) (w h : ℕ) (T0 : Table) where
  pub record Over (p : List ℕ) (lent y : ℕ) (scan : LineScanner) (s : Marks) : Type 0 where
    pub goes : Goes p0 w h p lent s.table
    pub low : y < h
    pub laid : Laid s
    pub going : outcome s ≡ found (stones_of s)
    pub on : OnLine w scan
    pub each : (at : Place) → Mem at (cuts_after p0 w h y scan) → Stands p0 w h at
    pub then : (f : Finding (List CapStone)) (q : List ℕ) (U : Table)
        → Searches w h (cuts_after p0 w h y scan) p s.table (stones_of s) f q U → Searches w h (all_cuts p0 w h) p0 T0 [] f q U

module _ {p0 : List ℕ} {w h : ℕ} where
  pub over_begun : {lent : ℕ} {s : Marks} {scan : LineScanner} → ((at : Place) → Mem at (all_cuts p0 w h) → Stands p0 w h at) → InWork p0 w h lent s.table → outcome s ≡ found [] → Laid s → scan ≡ begun → Over p0 w h s.table p0 lent 0 scan s
  over_begun {s = s} {scan = scan} each W none laid e =
      let low : 0 < h = W.roomy.sized.some_height in
      let whole : h - 0 ≡ h = omega arith in
      let all : cuts_after p0 w h 0 scan ≡ all_cuts p0 w h = rw e (from_begun p0 w h 0 low ∙ ap (λ (n : ℕ). cuts_from p0 w n 0) whole) in
      let F = found_stones s [] none in
      record {
        goes = goes_still W (omega arith);
        low = low;
        laid = laid;
        going = F.0;
        on = rw e (begun_on w);
        each = λ at m. each at (subst (Mem at) all m);
        then = λ f q U S. rw (F.1, all) at S;
      }

  module _ {T0 : Table} {p : List ℕ} {lent y : ℕ} {scan : LineScanner} {s : Marks} (A : Over p0 w h T0 p lent y scan s) where
    same_cuts : (z : ℕ) (t : LineScanner) → cuts_after p0 w h z t ≡ cuts_after p w h z t
    same_cuts z t = rw (ahead_alike p0 p (z * w) (A.goes.alike (z * w)) w t, cuts_alike p0 p w A.goes.alike (h - (z + 1)) (z + 1))

    pub over_ends : Reaches p w h y scan None → Searches w h (all_cuts p0 w h) p0 T0 [] (outcome s) p s.table
    over_ends (no_cut none) =
        let left : cuts_after p0 w h y scan ≡ [] = same_cuts y scan ∙ none in
        rw A.going (A.then _ _ _ (rw left finished))

    module _ {line : ℕ} {at : LinePosition} {next : LineScanner} where
      met : Reaches p w h y scan (Some (line, at, next)) → Met p0 w h y scan line at next
      met (next_cut _ _ _ low on e) = record { low = low; on = on; is = same_cuts y scan ∙ e ∙ ap (λ (l : List Place). place line at ∷ l) (sym (same_cuts line next)) }

      pub over_less : Reaches p w h y scan (Some (line, at, next)) → length (cuts_after p0 w h line next) < length (cuts_after p0 w h y scan)
      over_less C = rw (met C).is (omega arith)

      pub over_asks : Reaches p w h y scan (Some (line, at, next)) → AtCut p w h lent s.table line at
      over_asks C =
          let here : Mem (place line at) (cuts_after p0 w h y scan) = rw (met C).is (inl refl) in
          record { work = A.goes.work; in_y = (met C).low; columns = still_dark (A.goes.alike (line * w)) (A.each (place line at) here).columns }

      module _ {q : List ℕ} {r : Marks} (C : Reaches p w h y scan (Some (line, at, next))) (K : Takes p w h line at s q r) where
        -- the cut is tried after as many stones as there are
        counted : {f : Finding (List CapStone)} → Tries p w h line at s.table s.n f q r.table → Tries p w h line at s.table (length (stones_of s)) f q r.table
        counted {f} X = subst (λ (n : ℕ). Tries p w h line at s.table n f q r.table) (held_count most_stones no_stone (record { laid = A.laid; going = A.going })) X

        pub over_stops : (n : ℕ) → outcome r ≡ refused n → Searches w h (all_cuts p0 w h) p0 T0 [] (outcome r) q r.table
        unfolding added
        over_stops n e = rw e (A.then _ _ _ (rw (met C).is (go K.finding K.tries (sym K.is ∙ e))))
          where
            go : (f : Finding (List CapStone)) → Tries p w h line at s.table s.n f q r.table → added (stones_of s) f ≡ refused n → Searches w h (place line at ∷ cuts_after p0 w h line next) p s.table (stones_of s) (refused n) q r.table
            go (found new) X g = let z : ◌≡◌ {A = ℕ} 0 1 = cc in absurd (omega arith)
            go (refused k) X g = let same : k ≡ n = cc in rw (← same) (stopped (counted X))

        pub over_next : {room : ℕ} → lent ≤ room → outcome r ≡ found (stones_of r) → Over p0 w h T0 q room line next r
        unfolding added
        over_next more e =
            record {
              goes = goes_on A.goes (tries_go (over_asks C) more K.tries);
              low = (met C).low;
              laid = K.laid;
              going = e;
              on = (met C).on;
              each = λ o m. A.each o (rw (met C).is (inr m));
              then = λ f u U S. A.then f u U (rw (met C).is (go K.finding K.tries (sym K.is ∙ e) S));
            }
          where
            go : (f : Finding (List CapStone)) → Tries p w h line at s.table s.n f q r.table → added (stones_of s) f ≡ found (stones_of r) → {g : Finding (List CapStone)} {u : List ℕ} {U : Table}
                → Searches w h (cuts_after p0 w h line next) q r.table (stones_of r) g u U → Searches w h (place line at ∷ cuts_after p0 w h line next) p s.table (stones_of s) g u U
            go (found new) X e {g} {u} {U} S =
                let same : stones_of r ≡ stones_of s ++ new = cc in
                tried (counted X) (subst (λ (v : List CapStone). Searches w h (cuts_after p0 w h line next) q r.table v g u U) same S)
            go (refused n) X e S = let z : ◌≡◌ {A = ℕ} 0 1 = cc in absurd (omega arith)
