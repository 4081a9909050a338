-- The faults of the type check in words, as bytes.
use Rattle.std.specs.Prelude.{ℕ, List, codes}
use Rattle.types.specs.declared.faults.Ill.{Ill}
use Rattle.types.specs.declared.faults.Ill.TheVariants.{Taken, Unformed, NoPrincipal, Count, Undeclared, Lacks}

abbrev pub reason_of : Ill → List ℕ
reason_of Taken = codes "the name is zero or repeated"
reason_of Unformed = codes "a type is not well formed"
reason_of NoPrincipal = codes "the anchor or the first argument type is absent or no principal"
reason_of Count = codes "the fact has a wrong count of arguments"
reason_of Undeclared = codes "an item in the fact is not declared before"
reason_of (Lacks k) = codes "a term lacks the type of its argument"
