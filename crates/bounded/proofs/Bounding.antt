-- How bounds are taken from grid to grid. Assumes nothing.
use Prim.Native.Nat.{ℕ, suc, ◌+◌, ◌≤◌, ◌<◌}
use native.Mathlib.Numerals.{add-one}
use native.Mathlib.Omega.{arith}
use mathlib.Core.Path.{◌≡◌, refl, sym, ap, ◌∙◌}
use mathlib.Core.List.{List, [], ◌∷◌, ◌++◌, append_assoc, append-nil}
use lib.ListN.{length, get_or, take, drop, drop_of_length-le}
use lib.Seq.{drop-cons, get_or-take, length-take-le}
use Rattle.refusals.specs.Finding.{Finding, found, refused}
use Rattle.laid.specs.Laid.{added}
use Rattle.grids.specs.declared.SkewedGridLocation.{SkewedGridLocation}
use Rattle.locations.specs.Held.{no_location}
use Rattle.bounds.specs.Bounds.{bounded_of}
use Rattle.bounds.specs.declared.Grid.{Grid}
use Rattle.bounded.specs.Held.{grids_of, Held}
use Rattle.bounded.specs.All.{joined, bounded_all}
use Rattle.bounded.specs.declared.Grids.{Grids}

-- nothing before
added_none : (f : Finding (List Grid)) → f ≡ added [] f
unfolding added
added_none (found l) = refl
added_none (refused n) = refl

-- a grid that is found stands behind those before it
one_more : (l : List Grid) (g : Grid) (more : Finding (List Grid)) → added l (joined (found g) more) ≡ added (l ++ (g ∷ [])) more
unfolding added joined
one_more l g (found more) = ap found (sym (append_assoc l (g ∷ []) more))
one_more l g (refused n) = refl

-- one that is refused refuses all
one_refused : (l : List Grid) (n : ℕ) (more : Finding (List Grid)) → added l (joined (refused n) more) ≡ refused n
unfolding added joined
one_refused l n more = refl

-- k grids are bounded: with what the others come to, that is all
pub record AfterGrids (locations : List SkewedGridLocation) (k : ℕ) (s : Grids) : Type 0 where
  pub held : Held s
  pub few : s.n ≤ k
  pub leads : bounded_all locations ≡ added (grids_of s) (bounded_all (drop k locations))

module _ {locations : List SkewedGridLocation} where
  pub grids_begin : (s : Grids) → grids_of s ≡ [] → Held s → s.n ≡ 0 → AfterGrids locations 0 s
  grids_begin s empty H none = record { held = H; few = omega (arith, none); leads = rw empty (added_none (bounded_all locations)) }

  module _ {k : ℕ} {s : Grids} (A : AfterGrids locations k s) where
    pub grids_end : length locations ≤ k → found (grids_of s) ≡ bounded_all locations
    unfolding bounded_all added
    grids_end all =
        let none : drop k locations ≡ [] = drop_of_length-le locations all in
        ap found (sym (append-nil (grids_of s))) ∙ sym (A.leads ∙ ap (λ (l : List SkewedGridLocation). added (grids_of s) (bounded_all l)) none)

    module _ (low : k < length locations) {f : Finding Grid} (is : bounded_of (get_or locations k no_location) ≡ f) where
      leads_on : bounded_all locations ≡ added (grids_of s) (joined f (bounded_all (drop (suc k) locations)))
      unfolding bounded_all
      leads_on =
          A.leads
          ∙ ap (λ (l : List SkewedGridLocation). added (grids_of s) (bounded_all l)) (drop-cons locations k no_location low)
          ∙ ap (λ (a : Finding Grid). added (grids_of s) (joined a (bounded_all (drop (suc k) locations)))) is

    pub grids_stop : k < length locations → {n : ℕ} → bounded_of (get_or locations k no_location) ≡ refused n → refused n ≡ bounded_all locations
    grids_stop low {n} is = sym (leads_on low is ∙ one_refused (grids_of s) n _)

    pub grids_next : k < length locations → {g : Grid} → bounded_of (get_or locations k no_location) ≡ found g → {r : Grids} → grids_of r ≡ grids_of s ++ (g ∷ []) → Held r → r.n ≡ s.n + 1 → AfterGrids locations (k + 1) r
    grids_next low {g} is {r} one H more =
        record {
          held = H;
          few = omega (arith, more, A.few);
          leads = rw (add-one, one) (leads_on low is ∙ one_more (grids_of s) g _);
        }

-- the located grids are the first of an array
module _ (all : List SkewedGridLocation) (n : ℕ) (whole : n ≤ length all) {k : ℕ} {s : Grids} (A : AfterGrids (take n all) k s) where
  long : length (take n all) ≡ n
  long = length-take-le n all whole

  pub array_end : n ≤ k → found (grids_of s) ≡ bounded_all (take n all)
  array_end above = grids_end A (omega (arith, long))

  module _ (low : k < n) {f : Finding Grid} (is : bounded_of (get_or all k no_location) ≡ f) where
    there : bounded_of (get_or (take n all) k no_location) ≡ f
    there = rw (get_or-take n all k no_location low) is

  pub array_stop : k < n → {m : ℕ} → bounded_of (get_or all k no_location) ≡ refused m → refused m ≡ bounded_all (take n all)
  array_stop low is = grids_stop A (omega (arith, long)) (there low is)

  pub array_next : k < n → {g : Grid} → bounded_of (get_or all k no_location) ≡ found g → {r : Grids} → grids_of r ≡ grids_of s ++ (g ∷ []) → Held r → r.n ≡ s.n + 1 → AfterGrids (take n all) (k + 1) r
  array_next low is = grids_next A (omega (arith, long)) (there low is)
