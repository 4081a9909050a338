-- Faults of the type check: what is ill, and where.
use Rattle.refusals.specs.declared.fault.Fault.{Fault}
use Rattle.types.specs.declared.faults.Ill.{Ill}

abbrev pub TypeFault : Type 0
TypeFault = Fault Ill
