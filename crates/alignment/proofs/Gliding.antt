-- A glide makes the passes of the search: each is a visit that leaves picture and table as they are. Assumes nothing.
use Rattle.std.specs.Prelude.{Option, Some, None, Ok}
use Prim.Native.Nat.{ℕ, ◌+◌, ◌-◌, ◌*◌, ◌≤◌, ◌<◌}
use native.Mathlib.Decide.{ℕ_discrete, dec_le}
use native.Mathlib.Nat.{le_refl}
use native.Mathlib.Omega.{arith}
use mathlib.Core.Path.{◌≡◌, refl, sym, ◌∙◌, subst}
use mathlib.Core.Bool.{false}
use mathlib.Core.List.{List}
use mathlib.Core.Logic.{by_cases}
use lib.ListN.{length}
use borrow.Author.Tests.{eq-eqb, ne_eqb, le-leb, lt-leb}
use Rattle.refusals.specs.Limits.{farthest}
use Rattle.refusals.specs.Finding.{Finding}
use Rattle.points.specs.declared.Point.{Point}
use Rattle.picture.specs.Colour.{colour_of}
use Rattle.pieces.specs.Picture.{px}
use Rattle.table.specs.Table.{most, entry_of}
use Rattle.table.specs.Sound.{Ordered}
use Rattle.table.specs.declared.Table.{Table}
use Rattle.regions.specs.Found.{claimed, unclaimed, region}
use Rattle.regions.specs.Tests.{unlisted}
use Rattle.regions.specs.Lookup.{at_claimed, at_known}
use Rattle.alignment.specs.Spiral.{next_pass, moved, Turning, passes_left, Reachable}
use Rattle.alignment.specs.Visit.{place_of, visit_of, VisitsPixel, white, looked, Visits, beside, at_pixel}
use Rattle.alignment.specs.Glide.{newest_of, passed_of, glance_of, glance_at, Glides, ends, halts, goes, waits}
use Rattle.alignment.specs.Search.{Spirals, moves, stays}
use Rattle.alignment.specs.declared.spiral.Pass.{Pass}
use Rattle.alignment.specs.declared.visit.Visit.TheVariants as visit
use Rattle.alignment.specs.declared.glide.Glance.{Glance}
use Rattle.alignment.specs.declared.glide.Glance.TheVariants.{Moves, Stays, Unsure}
use Rattle.alignment.proofs.Coming.{of_another_size}
use Rattle.alignment.proofs.Passes.{After, next_after, step_few, still_near, moved_near}
use Rattle.alignment.proofs.Passing.{newest_below, newest_same, PassedBy, passed_told}

-- a claimed piece's byte is no number
claimed_listed : (byte n : ℕ) → byte ≤ 4 → unlisted byte n ≡ false
unfolding unlisted
claimed_listed byte n low = rw (lt-leb 5 byte (omega arith))

-- a number that has an entry
number_listed : (byte n k : ℕ) → byte ≡ 5 + k → k < n → unlisted byte n ≡ false
unfolding unlisted
number_listed byte n k e low = rw (le-leb 5 byte (omega arith)) (lt-leb n (byte - 5) (omega arith))

module _ {p : List ℕ} {w h : ℕ} {T : Table} {estimate x y : ℕ} where
  -- at a claimed piece the pass stays
  claimed_stays : 2 ≤ px p w x y → px p w x y ≤ 4 → VisitsPixel p w h T estimate x y (Ok visit.Stays) p T
  unfolding visit_of
  claimed_stays low high =
      looked (λ e. omega arith) (claimed_listed (px p w x y) T.n high) (claimed (colour_of (px p w x y)))
      (at_claimed (record { low = low; high = high; answer = refl; picture = refl; table = refl })) refl

  -- at the newest entry's piece, where that entry is of another size, the pass moves
  passed_moves : most ≤ length T.age → Ordered T → PassedBy estimate T (px p w x y) → VisitsPixel p w h T estimate x y (Ok visit.Moves) p T
  passed_moves A O B =
      let k = newest_of T in
      let low = newest_below A O B.some in
      let same = newest_same A O B.some in
      looked (λ e. omega (arith, B.shows)) (number_listed (px p w x y) T.n k B.shows low) (unclaimed (region k (entry_of T k)))
      (at_known (record { number = k; shows = B.shows; answer = refl; picture = refl; table = same })) (of_another_size estimate (region k (entry_of T k)) B.size)

-- what a glance tells of a visit
module _ (p : List ℕ) (w h estimate : ℕ) (T : Table) (at : Point) where
  abbrev Settles : Glance → Type 0
  Settles Moves = Visits p w h T estimate at (Ok visit.Moves) p T
  Settles Stays = Visits p w h T estimate at (Ok visit.Stays) p T
  Settles Unsure = Unit {0}

module _ (p : List ℕ) (w h estimate : ℕ) {T : Table} (A : most ≤ length T.age) (O : Ordered T) (at : Point) where
  -- a glance at a pixel is right
  pixel_settles : (x y : ℕ) → place_of w h at ≡ Some (x, y) → Settles p w h estimate T at (glance_of (passed_of estimate T) (px p w x y))
  unfolding glance_of
  pixel_settles x y o =
      let byte = px p w x y in
      let passed = passed_of estimate T in
      by_cases (ℕ_discrete byte 0)
      (λ e. rw (eq-eqb byte 0 e) (at_pixel x y o (white e refl refl refl)))
      (λ dark. by_cases (ℕ_discrete byte passed)
      (λ e. rw (ne_eqb byte 0 dark, eq-eqb byte passed e) (at_pixel x y o (passed_moves A O (passed_told e dark))))
      (λ other. by_cases (dec_le 2 byte)
      (λ low. by_cases (dec_le byte 4)
      (λ high. rw (ne_eqb byte 0 dark, ne_eqb byte passed other, le-leb 2 byte low, le-leb byte 4 high) (at_pixel x y o (claimed_stays low high)))
      (λ m. rw (ne_eqb byte 0 dark, ne_eqb byte passed other, le-leb 2 byte low, lt-leb byte 4 (omega arith)) tt))
      (λ m. rw (ne_eqb byte 0 dark, ne_eqb byte passed other, lt-leb 2 byte (omega arith)) tt)))

  -- a glance at a place is right, by where the place lies
  place_settles : (o : Option (ℕ × ℕ)) → place_of w h at ≡ o → Settles p w h estimate T at (glance_at p w (passed_of estimate T) o)
  unfolding glance_at
  place_settles (Some (x, y)) e = pixel_settles x y e
  place_settles None e = beside e refl refl refl

  -- the same, by what the glance tells
  glance_settles : {g : Glance} → glance_at p w (passed_of estimate T) (place_of w h at) ≡ g → Settles p w h estimate T at g
  glance_settles e = subst (Settles p w h estimate T at) e (place_settles (place_of w h at) refl)

module _ {p : List ℕ} {w h estimate : ℕ} {T : Table} (A : most ≤ length T.age) (O : Ordered T) where
  -- what a search comes to from where a glide leads is what it comes to from where the glide starts
  pub glide_spirals : {s : Pass} {at : Point} {t : Pass} {to : Point} {f : Finding (List Point)} {q : List ℕ} {U : Table}
      → Glides p w h estimate (passed_of estimate T) s at t to → Spirals w h estimate t to p T f q U → Spirals w h estimate s at p T f q U
  glide_spirals (ends far) S = S
  glide_spirals (halts low e) S = S
  glide_spirals {at = at} (goes low e G) S = moves low (glance_settles p w h estimate A O at e) (glide_spirals G S)
  glide_spirals {at = at} (waits low e G) S = stays low (glance_settles p w h estimate A O at e) (glide_spirals G S)

-- where a glide from s comes to
pub record Reached (s t : Pass) (to : Point) : Type 0 where
  pub turning : Turning t
  pub near : Reachable t to
  pub less : passes_left t ≤ passes_left s

module _ {p : List ℕ} {w h estimate passed : ℕ} (few : estimate ≤ farthest) where
  -- a glide leads to a pass as the spiral comes to it, with no more passes left, and to a place that is near enough
  pub glide_reaches : {s : Pass} {at : Point} {t : Pass} {to : Point} → Turning s → Reachable s at → Glides p w h estimate passed s at t to → Reached s t to
  glide_reaches {s} S N (ends far) = record { turning = S; near = N; less = le_refl (passes_left s) }
  glide_reaches {s} S N (halts low e) = record { turning = S; near = N; less = le_refl (passes_left s) }
  glide_reaches {s} S N (goes low e G) =
      let a = next_after S (step_few s.step estimate low few) in
      let r = glide_reaches a.turning (moved_near a.less N) G in
      record { turning = r.turning; near = r.near; less = omega (arith, a.less, r.less) }
  glide_reaches {s} S N (waits low e G) =
      let a = next_after S (step_few s.step estimate low few) in
      let r = glide_reaches a.turning (still_near a.less N) G in
      record { turning = r.turning; near = r.near; less = omega (arith, a.less, r.less) }

-- on the way: where a glide from here comes to, the whole glide comes to
module _ (p : List ℕ) (w h estimate passed : ℕ) (first : Pass) (from : Point) where
  pub record OnTheWay (s : Pass) (at : Point) : Type 0 where
    pub few : estimate ≤ farthest
    pub turning : Turning s
    pub near : Reachable s at
    pub then : (t : Pass) (to : Point) → Glides p w h estimate passed s at t to → Glides p w h estimate passed first from t to

module _ {p : List ℕ} {w h estimate passed : ℕ} {first : Pass} {from : Point} where
  -- a glide starts on its way
  pub way_begun : estimate ≤ farthest → Turning first → Reachable first from → OnTheWay p w h estimate passed first from first from
  way_begun few S N = record { few = few; turning = S; near = N; then = λ t to G. G }

  module _ {s : Pass} {at : Point} (O : OnTheWay p w h estimate passed first from s at) where
    -- where the leg is too long, the way is at its end
    pub way_far : estimate * 100 ≤ s.step * s.step → Glides p w h estimate passed first from s at
    way_far far = O.then s at (ends far)

    module _ (low : s.step * s.step < estimate * 100) where
      -- the next pass is one of the spiral's
      after : After s (next_pass s)
      after = next_after O.turning (step_few s.step estimate low O.few)

      -- and has fewer left
      pub way_less : passes_left (next_pass s) < passes_left s
      way_less = after.less

      module _ {g : Glance} (is : g ≡ glance_at p w passed (place_of w h at)) where
        -- where the glance settles nothing, the way is at its end
        pub way_unsure : g ≡ Unsure → Glides p w h estimate passed first from s at
        way_unsure e = O.then s at (halts low (sym is ∙ e))

        -- it goes on with a move, or without
        pub way_moves : g ≡ Moves → OnTheWay p w h estimate passed first from (next_pass s) (moved s at)
        way_moves e = record { few = O.few; turning = after.turning; near = moved_near after.less O.near; then = λ t to G. O.then t to (goes low (sym is ∙ e) G) }

        pub way_stays : g ≡ Stays → OnTheWay p w h estimate passed first from (next_pass s) at
        way_stays e = record { few = O.few; turning = after.turning; near = still_near after.less O.near; then = λ t to G. O.then t to (waits low (sym is ∙ e) G) }
