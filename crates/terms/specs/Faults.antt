-- The faults of layer 1: their six numbers, and their reasons in words.
use Rattle.std.specs.Prelude.{ℕ, List, codes}
use Rattle.refusals.specs.declared.Refusal.{Refusal}
use Rattle.terms.specs.declared.faults.BookFault.{BookFault}
use Rattle.terms.specs.declared.faults.BookFault.TheVariants.{OutOfRange, PartMissing, KeyNotItem, Full, NoMemory}

abbrev pub number_of : BookFault → ℕ
number_of NoMemory = 0
number_of OutOfRange = 1
number_of PartMissing = 2
number_of KeyNotItem = 3
number_of Full = 4

-- Role, rule, spot and row do not apply to a row that is added.
abbrev pub refusal_of : BookFault → Refusal
refusal_of f = record { number = number_of f; layer = 1; role = 0; rule = 0; spot = 0; row = 0 }

-- The reason in words, as bytes.
abbrev pub reason_of : BookFault → List ℕ
reason_of OutOfRange = codes "the item is out of range"
reason_of PartMissing = codes "a part or a key is no row"
reason_of KeyNotItem = codes "the key is no item"
reason_of Full = codes "the row is new and the book is full"
reason_of NoMemory = codes "there is no memory for the row"
