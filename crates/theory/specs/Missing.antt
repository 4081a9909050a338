-- What a theory's tables name has to be there, in the order in which it is looked for.
use Rattle.std.specs.Prelude.{ℕ, ◌+◌, Bool, true, ◌&&◌, List, [], length, Some, None, vec_items, vec_len, Option}
use Rattle.std.specs.List.{list_all, enumerate_from}
pub use Rattle.refusals.specs.Faults.{at_spot}
use Rattle.refusals.specs.Walks.{Answer, pass, demand, and_then, walk}
use Rattle.terms.specs.Held.{rows_of}
use Rattle.terms.specs.Rows.{is_row}
use Rattle.theory.specs.Counts.{same, here}
use Rattle.theory.specs.Data.{Argument}
use Rattle.theory.specs.declared.data.Fact.{Fact}
use Rattle.theory.specs.declared.data.Predicate.{Predicate}
use Rattle.theory.specs.declared.data.Role.{Role}
use Rattle.theory.specs.declared.data.Rule.{Rule}
use Rattle.theory.specs.declared.data.Slot.{Slot}
use Rattle.theory.specs.declared.data.Slot.TheVariants as slot
use Rattle.layouts.specs.declared.layout.Params.{Params}
use Rattle.layouts.specs.declared.layout.Params.TheVariants as params
use Rattle.theory.specs.declared.data.Symbol.{Symbol}
use Rattle.theory.specs.declared.data.Symbol.TheVariants as symbol
use Rattle.theory.specs.declared.data.Theory.{Theory}
use Rattle.theory.specs.declared.faults.Flaw.{Flaw}
use Rattle.theory.specs.declared.faults.Flaw.TheVariants.{Missing}
use Rattle.theory.specs.Faults.{TableFault}
use Rattle.theory.specs.declared.missing.Sizes.{Sizes}

-- Places and numbers count from 1, as those of rows do.
abbrev pub slot_there : ℕ → Slot → Bool
slot_there earlier (slot.Name n) = true
slot_there earlier (slot.Place p) = is_row earlier p

abbrev pub slots_there : ℕ → Params Slot → Bool
slots_there earlier params.Zero = true
slots_there earlier (params.One p) = slot_there earlier p
slots_there earlier (params.Two p q) = slot_there earlier p && slot_there earlier q

-- Each argument type names earlier places only; so many arguments come before the first.
abbrev pub arguments_there : ℕ → List Argument → Bool
arguments_there earlier As = list_all (λ p. slots_there p.0 p.1.params) (enumerate_from earlier As)

-- A role's own predicate is not looked for where no role is told.
abbrev pub own_there : Option ℕ → ℕ → Bool
own_there None p = true
own_there (Some n) p = is_row n p

abbrev pub symbol_there : Sizes → Symbol → Bool
symbol_there s symbol.Network = true
symbol_there s (symbol.Memory m) = is_row s.memory m
symbol_there s (symbol.Role p) = own_there s.own p

abbrev pub rows_there : ℕ → List ℕ → Bool
rows_there n ks = list_all (is_row n) ks

abbrev pub fact_there : Sizes → Fact → Bool
fact_there s f = symbol_there s f.symbol && rows_there s.rows (vec_items f.rows)

abbrev pub predicate_missing : List Predicate → Predicate → Answer Flaw
predicate_missing seen P = demand (arguments_there 0 (vec_items P.arguments)) Missing pass

abbrev pub predicates_missing : ℕ → ℕ → List Predicate → Answer TableFault
predicates_missing role base Ps = walk predicate_missing (at_spot role 0 base) [] Ps

abbrev pub fact_missing : Sizes → List Fact → Fact → Answer Flaw
fact_missing s seen f = demand (fact_there s f) Missing pass

abbrev pub facts_missing : Sizes → ℕ → ℕ → ℕ → List Fact → Answer TableFault
facts_missing s role rule base fs = walk (fact_missing s) (at_spot role rule base) [] fs

-- Left facts, then right facts, which count on.
abbrev pub rule_missing : Sizes → ℕ → ℕ → List Fact → List Fact → Answer TableFault
rule_missing s role rule left right = and_then same (facts_missing s role rule 0 left) (facts_missing s role rule (length left) right)

abbrev pub placed_rule_missing : Sizes → ℕ → List Rule → Rule → Answer TableFault
placed_rule_missing s role seen R = rule_missing s role (length seen + 1) (vec_items R.left) (vec_items R.right)

abbrev pub rules_missing : Sizes → ℕ → List Rule → Answer TableFault
rules_missing s role Rs = walk (placed_rule_missing s role) here [] Rs

abbrev pub with_own : Sizes → ℕ → Sizes
with_own s n = record { rows = s.rows; memory = s.memory; own = Some n }

-- The role's predicates, then its rules.
abbrev pub role_missing : Sizes → ℕ → List Predicate → List Rule → Answer TableFault
role_missing s n Ps Rs = and_then same (predicates_missing n 0 Ps) (rules_missing (with_own s (length Ps)) n Rs)

abbrev pub placed_role_missing : Sizes → List Role → Role → Answer TableFault
placed_role_missing s seen R = role_missing s (length seen + 1) (vec_items R.predicates) (vec_items R.rules)

abbrev pub roles_missing : Sizes → List Role → Answer TableFault
roles_missing s Rs = walk (placed_role_missing s) here [] Rs

abbrev pub sizes_of : Theory → Sizes
sizes_of T = record { rows = length (rows_of T.book); memory = vec_len T.memory; own = None }

-- Memory predicates, which count on after the names; then role by role; initial facts last.
abbrev pub missing_check : Theory → List Fact → Answer TableFault
missing_check T fs =
    and_then same (predicates_missing 0 (vec_len T.names) (vec_items T.memory))
    (and_then same (roles_missing (sizes_of T) (vec_items T.roles))
    (facts_missing (sizes_of T) 0 0 0 fs))
