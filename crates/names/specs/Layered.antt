-- The parts of a withholding layer.
use Rattle.std.specs.Prelude.{ℕ, List, vec_items}
use Rattle.names.specs.declared.withholding.Withholding.{Withholding}

-- The source below.
abbrev pub below_of : {S : Type 0} → Withholding S → S
below_of w = w.below

-- The numbers withheld.
abbrev pub withheld_of : {S : Type 0} → Withholding S → List ℕ
withheld_of w = vec_items w.withheld
