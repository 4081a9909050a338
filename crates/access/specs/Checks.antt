-- The checks, one after the other.
use Rattle.std.specs.Prelude.{◌≡◌, [], Ok, Err}
use Rattle.layouts.specs.Meanings.{Meaning}
use Rattle.refusals.specs.Demands.{First, carried}
use Rattle.refusals.specs.Walks.{Answer, pass}
use Rattle.theory.specs.Tables.{tables_check}
use Rattle.theory.specs.declared.data.Theory.{Theory}
use Rattle.types.specs.Theories.{theory_check}
use Rattle.types.specs.Typed.{TheoryTyped}
use Rattle.access.specs.Allowed.{TheoryAllowed}
use Rattle.access.specs.Demands.{theory_lines}
use Rattle.access.specs.declared.faults.CheckFault.{CheckFault}
use Rattle.access.specs.declared.faults.CheckFault.TheVariants.{Table, Typing, Access}

-- A fault of the check goes up whole; where there is none, the next one says what is answered.
abbrev pub After : {F : Type 0} → (F → CheckFault) → Answer F → (Answer CheckFault → Type 0) → Answer CheckFault → Type 0
After up (Ok u) next r = next r
After up (Err f) next r = r ≡ Err (up f)

-- The answer is the first demand of the access check that is not met.
abbrev pub AccessTold : Meaning → Theory → Answer CheckFault → Type 0
AccessTold lay T r = First (carried Access (theory_lines lay T)) r

-- tables, then access
abbrev pub AccessAnswered : Meaning → Theory → Answer CheckFault → Type 0
AccessAnswered lay T r = After Table (tables_check T []) (AccessTold lay T) r

-- tables, then types, then access
abbrev pub Answered : Meaning → Theory → Answer CheckFault → Type 0
Answered lay T r = After Table (tables_check T []) (After Typing (theory_check lay T) (AccessTold lay T)) r

-- the tables are whole, and every rule is allowed
pub record Accessible (lay : Meaning) (T : Theory) : Type 0 where
  pub tables : tables_check T [] ≡ pass
  pub allowed : TheoryAllowed lay T

-- the tables are whole, the theory has its types, and every rule is allowed
pub record Accepted (lay : Meaning) (T : Theory) : Type 0 where
  pub tables : tables_check T [] ≡ pass
  pub typed : TheoryTyped lay T
  pub allowed : TheoryAllowed lay T
