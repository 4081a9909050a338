-- The faults of lists in layer 2: their six numbers, and their reasons in words.
use Rattle.std.specs.Prelude.{ℕ, List, codes}
use Rattle.refusals.specs.declared.Refusal.{Refusal}
use Rattle.names.specs.declared.faults.ListFault.{ListFault}
use Rattle.names.specs.declared.faults.ListFault.TheVariants.{RollTooLong, LayerTooLong, Unfit, NoMemory}

abbrev pub number_of : ListFault → ℕ
number_of NoMemory = 0
number_of RollTooLong = 5
number_of LayerTooLong = 5
number_of (Unfit place) = 6

-- A list that is too long is told by the place after its last lawful one.
abbrev pub spot_of : ListFault → ℕ
spot_of NoMemory = 0
spot_of RollTooLong = 513
spot_of LayerTooLong = 33
spot_of (Unfit place) = place

abbrev pub refusal_of : ListFault → Refusal
refusal_of f = record { number = number_of f; layer = 2; role = 0; rule = 0; spot = spot_of f; row = 0 }

-- The reason in words, as bytes.
abbrev pub reason_of : ListFault → List ℕ
reason_of RollTooLong = codes "a roll has at most 512 numbers"
reason_of LayerTooLong = codes "a layer withholds at most 32 numbers"
reason_of (Unfit place) = codes "a number is zero or repeated"
reason_of NoMemory = codes "there is no memory for the list"
