-- The faults of tables in layer 2: their six numbers, and their reasons in words.
use Rattle.std.specs.Prelude.{ℕ, List, codes}
use Rattle.refusals.specs.Faults.{refusal_by}
use Rattle.refusals.specs.declared.Refusal.{Refusal}
use Rattle.refusals.specs.declared.fault.Fault.{Fault}
use Rattle.theory.specs.declared.faults.Flaw.{Flaw}
use Rattle.theory.specs.declared.faults.Flaw.TheVariants.{TooMany, Missing}

abbrev pub TableFault : Type 0
TableFault = Fault Flaw

abbrev pub layer_number : ℕ
layer_number = 2

abbrev pub number_of : Flaw → ℕ
number_of TooMany = 8
number_of Missing = 9

-- No row is told.
abbrev pub row_of : Flaw → ℕ
row_of w = 0

-- What `Refusal::from` gives of a fault.
abbrev pub refusal_of : TableFault → Refusal
refusal_of f = refusal_by layer_number number_of row_of f

abbrev pub reason_of : Flaw → List ℕ
reason_of TooMany = codes "a count is over its limit"
reason_of Missing = codes "a row, a predicate or an earlier argument place is missing"
