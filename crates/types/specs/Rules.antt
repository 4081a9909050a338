-- The check of a rule.
use Rattle.std.specs.Prelude.{ℕ, List, [], ◌∷◌, ◌++◌, length, Some, None, Err, vec_items, Option}
use Rattle.terms.specs.Held.{rows_of}
use Rattle.terms.specs.Numbered.{numbered}
use Rattle.layouts.specs.Meanings.{Meaning}
use Rattle.types.specs.Scopes.{Declarations}
use Rattle.types.specs.Types.{type_formed}
use Rattle.refusals.specs.Walks.{Answer, pass, demand, and_then, walk}
use Rattle.types.specs.Facts.{Ledger, ledger, fact_check}
use Rattle.refusals.specs.Faults.{at_spot}
use Rattle.theory.specs.Data.{Ty}
use Rattle.terms.specs.declared.row.Row.{Row}
use Rattle.theory.specs.declared.data.Declared.{Declared}
use Rattle.theory.specs.declared.owner.Owner.{Owner}
use Rattle.theory.specs.Data.{Argument}
use Rattle.theory.specs.declared.data.Predicate.{Predicate}
use Rattle.theory.specs.declared.data.Symbol.{Symbol}
use Rattle.theory.specs.declared.data.Fact.{Fact}
use Rattle.theory.specs.declared.data.Rule.{Rule}
use Rattle.types.specs.declared.scope.Setting.{Setting}
use Rattle.types.specs.declared.faults.Ill.{Ill}
use Rattle.types.specs.declared.faults.Ill.TheVariants.{Unformed, Count}
use Rattle.types.specs.Faults.{TypeFault}
use Rattle.layouts.specs.declared.layout.Params.TheVariants as params
use Rattle.theory.specs.declared.data.Symbol.TheVariants as symbol

-- what a rule is checked in, and its numbers
pub record Place : Type 0 where
  pub names : List Declared
  pub memory : List Predicate
  pub own : List Predicate
  pub rows : List Row
  pub owner : Owner
  pub role : ℕ
  pub rule : ℕ

abbrev pub setting_of : {L : Type 0} → Setting L → Place
setting_of e = record { names = vec_items e.theory.now.names; memory = vec_items e.theory.now.memory; own = e.own.now; rows = rows_of e.theory.now.book; owner = e.owner; role = e.role; rule = e.rule }

abbrev pub over : Place → List Ty → Declarations
over e vs = record { names = e.names; owner = e.owner; variables = vs }

abbrev pub variable_check : Meaning → Place → List Ty → List Ty → Ty → Answer Ill
variable_check lay e before seen T = demand (type_formed lay (over e (before ++ seen)) T) Unformed pass

abbrev pub variables_check : Meaning → Place → List Ty → List Ty → Answer TypeFault
variables_check lay e before vs = walk (variable_check lay e before) (at_spot e.role e.rule (length before)) [] vs

abbrev pub predicate_at : List Predicate → ℕ → Option Predicate
predicate_at Ps m = numbered Ps m

-- a fact of a predicate that is not there has no right count of arguments
abbrev pub listed_fact : Declarations → Ledger → Option Predicate → List ℕ → Answer Ill
listed_fact s l None args = Err Count
listed_fact s l (Some P) args = fact_check s l (vec_items P.arguments) args

abbrev pub a_message : Argument
a_message = record { family = 0; params = params.Zero }

abbrev pub symbol_check : Declarations → Ledger → Place → Symbol → List ℕ → Answer Ill
symbol_check s l e symbol.Network args = fact_check s l (a_message ∷ []) args
symbol_check s l e (symbol.Memory m) args = listed_fact s l (predicate_at e.memory m) args
symbol_check s l e (symbol.Role p) args = listed_fact s l (predicate_at e.own p) args

abbrev pub fact_with : Declarations → Ledger → Place → List Fact → Fact → Answer Ill
fact_with s l e seen f = symbol_check s l e f.symbol (vec_items f.rows)

abbrev pub facts_with : Declarations → Ledger → Place → ℕ → List Fact → Answer TypeFault
facts_with s l e base fs = walk (fact_with s l e) (at_spot e.role e.rule base) [] fs

-- facts over these variables
abbrev pub facts_check : Meaning → Place → List Ty → ℕ → List Fact → Answer TypeFault
facts_check lay e vs base fs = facts_with (over e vs) (ledger lay (over e vs) e.rows) e base fs

abbrev pub same : TypeFault → TypeFault
same f = f

-- universal variables, left facts, made variables, right facts
abbrev pub parts_check : Meaning → Place → List Ty → List Fact → List Ty → List Fact → Answer TypeFault
parts_check lay e us ls ms rs =
    and_then same (variables_check lay e [] us)
    (and_then same (facts_check lay e us 0 ls)
    (and_then same (variables_check lay e us ms)
    (facts_check lay e (us ++ ms) (length ls) rs)))

abbrev pub rule_check : Meaning → Place → Rule → Answer TypeFault
rule_check lay e R = parts_check lay e (vec_items R.universal) (vec_items R.left) (vec_items R.made) (vec_items R.right)
