-- The table check: every count before everything that is missing.
use Rattle.std.specs.Prelude.{List}
use Rattle.refusals.specs.Walks.{Answer, and_then}
use Rattle.theory.specs.Counts.{same, counts_check}
use Rattle.theory.specs.Missing.{missing_check}
use Rattle.theory.specs.declared.data.Fact.{Fact}
use Rattle.theory.specs.declared.data.Theory.{Theory}
use Rattle.theory.specs.Faults.{TableFault}

abbrev pub tables_check : Theory → List Fact → Answer TableFault
tables_check T fs = and_then same (counts_check T fs) (missing_check T fs)
