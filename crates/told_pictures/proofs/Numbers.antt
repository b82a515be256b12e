-- A verdict's number is the number of what it says. Assumes nothing.
use Rattle.std.specs.Prelude.{Result, Ok, Err}
use mathlib.Core.Path.{◌≡◌, refl}
use Rattle.refusals.specs.declared.Refusal.{Refusal}
use Rattle.picture.specs.Verdict.{judged}
use Rattle.told_places.specs.Values.{status_of}
use Rattle.told_pictures.specs.Pictures.{verdict_number}

pub status_is : (v : Result (Unit {0}) Refusal) → status_of v ≡ verdict_number (judged v)
unfolding status_of verdict_number
status_is (Ok u) = refl
status_is (Err why) = refl
