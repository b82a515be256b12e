-- What a verdict says, in document 01's terms. Assumes nothing.
use Rattle.std.specs.Prelude.{Result, Ok, Err}
use Rattle.refusals.specs.declared.Refusal.{Refusal}
use Rattle.refusals.specs.Finding.{Finding, refused_by}
use Rattle.refusals.specs.First.{sound}

-- nothing to refuse, or a refusal by its number
abbrev pub judged : Result (Unit {0}) Refusal → Finding (Unit {0})
judged (Ok u) = sound
judged (Err why) = refused_by why
