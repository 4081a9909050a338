-- The roll: a list of names that is read in order.
use Rattle.std.specs.Prelude.{◌≡◌, ℕ, ◌+◌, Bool, true, not, ◌&&◌, ◌||◌, List, [], ◌∷◌, length, take, Some, None, Ok, Err, Option, Result, ◌==◌, nat_le, nat_lt}
use Rattle.std.specs.List.{enumerate_from, position_from}
use Rattle.refusals.specs.Tables.{decided}
use Rattle.names.specs.Sets.{listed}
use Rattle.names.specs.declared.faults.ListFault.{ListFault}
use Rattle.names.specs.declared.faults.ListFault.TheVariants.{RollTooLong, Unfit}

-- Each number is a name, and none comes twice.
abbrev pub once_each : List ℕ → Bool
once_each [] = true
once_each (x ∷ xs) = (nat_lt 0 x && nat_le x 4294967295) && (not (listed xs x) && once_each xs)

-- The index of the first number that is zero or was there before.
abbrev pub first_unfit : List ℕ → Option ℕ
first_unfit xs = position_from (λ p. p.1 == 0 || listed (take p.0 xs) p.1) 0 (enumerate_from 0 xs)

-- Its place, counted from 1, is told.
abbrev pub unfit_line : Option ℕ → List (ListFault × Bool)
unfit_line None = []
unfit_line (Some i) = (Unfit (i + 1), true) ∷ []

-- The refusals of loading the list, in order.
abbrev pub load_refusals : List ℕ → List (ListFault × Bool)
load_refusals xs = (RollTooLong, nat_lt 512 (length xs)) ∷ unfit_line (first_unfit xs)

abbrev pub load_answer : List ℕ → Result (Unit {0}) ListFault
load_answer xs = decided (load_refusals xs) (tt {0})

-- The names still to be read after a load: the new list, or the old one where it was refused.
abbrev pub load_leaves : List ℕ → List ℕ → Result (Unit {0}) ListFault → List ℕ
load_leaves old new (Ok u) = new
load_leaves old new (Err f) = old

-- A draw gives the next name of the list, and nothing at its end.
abbrev pub Reads : List ℕ → Option ℕ → List ℕ → Type 0
Reads names None after = (names ≡ []) × (after ≡ [])
Reads names (Some x) after = names ≡ x ∷ after
