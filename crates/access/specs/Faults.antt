-- The faults of the access check in layer 4, and those of all checks: their six numbers, and their reasons in words.
use Rattle.std.specs.Prelude.{ℕ, List, codes}
use Rattle.refusals.specs.Faults.{refusal_by}
use Rattle.refusals.specs.declared.Refusal.{Refusal}
use Rattle.refusals.specs.declared.fault.Fault.{Fault}
use Rattle.theory.specs.Faults as tables
use Rattle.types.specs.Demands as types
use Rattle.types.specs.Reasons as ill
use Rattle.access.specs.declared.faults.Denied.{Denied}
use Rattle.access.specs.declared.faults.Denied.TheVariants.{NotOwner, StaysClosed, NotMakeable, NotBuildable}
use Rattle.access.specs.declared.faults.CheckFault.{CheckFault}
use Rattle.access.specs.declared.faults.CheckFault.TheVariants.{Table, Typing, Access}

-- What is denied, and where: the role and the rule, counted from 1, and the spot in it.
abbrev pub AccessFault : Type 0
AccessFault = Fault Denied

abbrev pub number_of : Denied → ℕ
number_of NotOwner = 16
number_of (StaysClosed k) = 17
number_of NotMakeable = 18
number_of (NotBuildable k) = 19

abbrev pub row_of : Denied → ℕ
row_of NotOwner = 0
row_of (StaysClosed k) = k
row_of NotMakeable = 0
row_of (NotBuildable k) = k

abbrev pub access_refusal : AccessFault → Refusal
access_refusal = refusal_by 4 number_of row_of

abbrev pub access_reason : Denied → List ℕ
access_reason NotOwner = codes "the first argument of a memory or role fact is not the owner"
access_reason (StaysClosed k) = codes "a received seal or lock stays closed"
access_reason NotMakeable = codes "names of the family are not to be made"
access_reason (NotBuildable k) = codes "an argument cannot be built"

-- A fault of a lower layer has its own numbers and words.
abbrev pub refusal_of : CheckFault → Refusal
refusal_of (Table f) = tables.refusal_of f
refusal_of (Typing f) = types.refusal_of f
refusal_of (Access f) = access_refusal f

abbrev pub reason_of : CheckFault → List ℕ
reason_of (Table f) = tables.reason_of f.why
reason_of (Typing f) = ill.reason_of f.why
reason_of (Access f) = access_reason f.why
