-- A walk whose places are not told.
use Rattle.std.proofs.Common.{◌≡◌, ℕ, ◌+◌, List, [], ◌∷◌, ◌++◌, length, Ok, Err, refl}
use Rattle.refusals.specs.Faults.{at_spot}
use Rattle.refusals.specs.Walks.{Answer, walk, and_then}
use Rattle.refusals.specs.declared.fault.Fault.{Fault}
use Rattle.types.specs.Predicates.{same_place}
use Rattle.types.specs.declared.faults.Ill.{Ill}

abbrev pub reason_only : Answer (Fault Ill) → Answer Ill
reason_only (Ok u) = Ok u
reason_only (Err f) = Err f.why

pub walk_reason : {X : Type 0} (check : List X → X → Answer Ill) (role rule before : ℕ) (xs seen : List X) → reason_only (walk check (at_spot role rule before) seen xs) ≡ walk check same_place seen xs
walk_reason check role rule before [] seen = refl
walk_reason check role rule before (x ∷ xs) seen = go (check seen x) (walk_reason check role rule before xs (seen ++ x ∷ []))
  where
    go : (a : Answer Ill) → reason_only (walk check (at_spot role rule before) (seen ++ x ∷ []) xs) ≡ walk check same_place (seen ++ x ∷ []) xs → reason_only (and_then (at_spot role rule before (length seen + 1)) a (walk check (at_spot role rule before) (seen ++ x ∷ []) xs)) ≡ and_then (same_place (length seen + 1)) a (walk check same_place (seen ++ x ∷ []) xs)
    go (Ok u) rest = rest
    go (Err f) rest = refl
