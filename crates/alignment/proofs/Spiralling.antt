-- The search goes from pass to pass: what is ahead of it is still to be searched. Assumes nothing.
use Rattle.std.specs.Prelude.{Result, Ok, Err}
use Prim.Native.Nat.{ℕ, ◌*◌, ◌≤◌, ◌<◌}
use native.Mathlib.Omega.{arith}
use mathlib.Core.Path.{◌≡◌, refl, subst}
use mathlib.Core.List.{List, [], ◌∷◌}
use lib.ListN.{length}
use Rattle.refusals.specs.Limits.{farthest}
use Rattle.refusals.specs.Finding.{Finding, found, refused_by}
use Rattle.refusals.specs.declared.Refusal.{Refusal}
use Rattle.picture.specs.Sides.{Roomy}
use Rattle.points.specs.declared.Point.{Point}
use Rattle.table.specs.declared.Table.{Table}
use Rattle.table.proofs.Kept.{Proper}
use Rattle.alignment.specs.Spiral.{next_pass, moved, Turning, passes_left, Reachable}
use Rattle.alignment.specs.Visit.{Visits}
use Rattle.alignment.specs.Glide.{passed_of, Glides}
use Rattle.alignment.specs.Search.{Spirals, too_far, moves, stays, here, stops}
use Rattle.alignment.specs.declared.spiral.Pass.{Pass}
use Rattle.alignment.specs.declared.visit.Visit.{Visit}
use Rattle.alignment.specs.declared.visit.Visit.TheVariants.{Moves, Stays, Here}
use Rattle.alignment.proofs.Passes.{After, next_after, step_few, still_near, moved_near}
use Rattle.alignment.proofs.Gliding.{glide_spirals, Reached, glide_reaches}
use Rattle.alignment.proofs.Kept.{Kept, kept_on, kept_still}
use Rattle.alignment.proofs.Visiting.{visit_keeps}

-- as many bytes have as much room
pub still_roomy : {w h m n lent room : ℕ} → Roomy w h n lent → m ≡ n → lent ≤ room → Roomy w h m room
still_roomy {w} {h} {room = room} R e more = rw e (record { sized = R.sized; room = omega (arith, R.room) })

-- on the way: what a search from here comes to is what the whole search comes to
module _ (p0 : List ℕ) (w h estimate : ℕ) (first : Pass) (from : Point) (T0 : Table) where
  pub record Along (p : List ℕ) (lent : ℕ) (s : Pass) (at : Point) (T : Table) : Type 0 where
    pub few : estimate ≤ farthest
    pub roomy : Roomy w h (length p) lent
    pub kept : Kept p0 w h p T
    pub turning : Turning s
    pub near : Reachable s at
    pub then : (f : Finding (List Point)) (q : List ℕ) (U : Table) → Spirals w h estimate s at p T f q U → Spirals w h estimate first from p0 T0 f q U

module _ {p0 : List ℕ} {w h estimate : ℕ} {first : Pass} {from : Point} {T0 : Table} where
  pub along_begun : {lent : ℕ} → estimate ≤ farthest → Roomy w h (length p0) lent → Proper T0 w h → Turning first → Reachable first from → Along p0 w h estimate first from T0 p0 lent first from T0
  along_begun few R P S N = record { few = few; roomy = R; kept = kept_still P refl refl; turning = S; near = N; then = λ f q U X. X }

  module _ {p : List ℕ} {lent : ℕ} {s : Pass} {at : Point} {T : Table} (A : Along p0 w h estimate first from T0 p lent s at T) where
    pub along_far : estimate * 100 ≤ s.step * s.step → Spirals w h estimate first from p0 T0 (found []) p T
    along_far far = A.then _ _ _ (too_far far)

    module _ {passed : ℕ} (is : passed ≡ passed_of estimate T) {t : Pass} {to : Point} (G : Glides p w h estimate passed s at t to) where
      -- where a glide from here leads
      reached : Reached s t to
      reached = glide_reaches A.few A.turning A.near G

      -- a glide leaves no more passes than before
      pub along_fewer : passes_left t ≤ passes_left s
      along_fewer = reached.less

      -- a glide is on the way, too
      pub along_glides : Along p0 w h estimate first from T0 p lent t to T
      along_glides =
          record {
            few = A.few;
            roomy = A.roomy;
            kept = A.kept;
            turning = reached.turning;
            near = reached.near;
            then = λ f q U S. A.then f q U (glide_spirals (omega (arith, A.kept.proper.age)) A.kept.proper.sound.ordered (subst (λ (k : ℕ). Glides p w h estimate k s at t to) is G) S);
          }

    module _ (low : s.step * s.step < estimate * 100) where
      after : After s (next_pass s)
      after = next_after A.turning (step_few s.step estimate low A.few)

      pub along_less : passes_left (next_pass s) < passes_left s
      along_less = after.less

      module _ {v : Result Visit Refusal} {q : List ℕ} {U : Table} (X : Visits p w h T estimate at v q U) where
        comes_to : {u : Result Visit Refusal} → v ≡ u → Visits p w h T estimate at u q U
        comes_to e = subst (λ (u : Result Visit Refusal). Visits p w h T estimate at u q U) e X

        pub along_here : v ≡ Ok Here → Spirals w h estimate first from p0 T0 (found (at ∷ [])) q U
        along_here e = A.then _ _ _ (here low (comes_to e))

        pub along_stops : (why : Refusal) → v ≡ Err why → Spirals w h estimate first from p0 T0 (refused_by why) q U
        along_stops why e = A.then _ _ _ (stops low (comes_to e))

        module _ {room : ℕ} (more : lent ≤ room) where
          keeps : Kept p w h q U
          keeps = visit_keeps A.roomy A.kept.proper X

          pub along_stays : v ≡ Ok Stays → Along p0 w h estimate first from T0 q room (next_pass s) at U
          along_stays e =
              record {
                few = A.few;
                roomy = still_roomy A.roomy keeps.len more;
                kept = kept_on A.kept keeps;
                turning = after.turning;
                near = still_near after.less A.near;
                then = λ f r Z S. A.then f r Z (stays low (comes_to e) S);
              }

          pub along_moves : v ≡ Ok Moves → Along p0 w h estimate first from T0 q room (next_pass s) (moved s at) U
          along_moves e =
              record {
                few = A.few;
                roomy = still_roomy A.roomy keeps.len more;
                kept = kept_on A.kept keeps;
                turning = after.turning;
                near = moved_near after.less A.near;
                then = λ f r Z S. A.then f r Z (moves low (comes_to e) S);
              }
