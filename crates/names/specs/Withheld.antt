-- The withholding layer: some names of the source below are kept back.
use Rattle.std.specs.Prelude.{◌≡◌, ℕ, Bool, true, false, not, ◌&&◌, List, [], ◌∷◌, length, take, count_by, Some, None, Ok, Err, Option, Result, nat_lt}
use Rattle.std.specs.List.{enumerate_from}
use Rattle.refusals.specs.Tables.{decided}
use Rattle.names.specs.Sets.{Names, listed}
use Rattle.names.specs.declared.faults.ListFault.{ListFault}
use Rattle.names.specs.declared.faults.ListFault.TheVariants.{LayerTooLong}

-- How many names of the set are listed, each counted once, at its first place, however often it stands there.
abbrev pub hidden : Names → List ℕ → ℕ
hidden f xs = count_by (λ p. f p.1 && not (listed (take p.0 xs) p.1)) (enumerate_from 0 xs)

-- The refusals of withholding the list.
abbrev pub withhold_refusals : List ℕ → List (ListFault × Bool)
withhold_refusals xs = (LayerTooLong, nat_lt 32 (length xs)) ∷ []

abbrev pub withhold_answer : List ℕ → Result (Unit {0}) ListFault
withhold_answer xs = decided (withhold_refusals xs) (tt {0})

-- The numbers withheld afterwards: the new list, or the old one where it was refused.
abbrev pub withhold_leaves : List ℕ → List ℕ → Result (Unit {0}) ListFault → List ℕ
withhold_leaves old new (Ok u) = new
withhold_leaves old new (Err f) = old

-- What the source below gives first that is not listed: its draws, one after the other, until one is not, or nothing comes.
pub data FirstKept {S : Type 0} (draws : S → Option ℕ → S → Type 0) (xs : List ℕ) : S → Option ℕ → S → Type 0 where
  ended : {s t : S} → draws s None t → FirstKept draws xs s None t
  kept : {s t : S} {x : ℕ} → draws s (Some x) t → listed xs x ≡ false → FirstKept draws xs s (Some x) t
  skipped : {s t u : S} {x : ℕ} {r : Option ℕ} → draws s (Some x) t → listed xs x ≡ true → FirstKept draws xs t r u → FirstKept draws xs s r u
