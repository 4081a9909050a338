-- The type check of a theory: the signature, the memory predicates, then role after role.
use Rattle.std.specs.Prelude.{ℕ, ◌+◌, ◌^◌, ◌<◌, ◌≤◌, List, [], length, Some, None, vec_items, vec_len, Option}
use Rattle.terms.specs.Held.{rows_of}
use Rattle.layouts.specs.Meanings.{Meaning}
use Rattle.judgments.specs.Contexts.{◌∈◌}
use Rattle.theory.specs.Owners.{owner_of}
use Rattle.types.specs.Scopes.{type_in}
use Rattle.types.specs.Types.{has_family}
use Rattle.refusals.specs.Walks.{Answer, pass, demand, and_then, walk}
use Rattle.types.specs.Names.{names_check}
use Rattle.types.specs.Predicates.{predicates_check}
use Rattle.types.specs.Rules.{Place, same, facts_check, rule_check}
use Rattle.terms.specs.declared.row.Row.{Row}
use Rattle.theory.specs.declared.data.Declared.{Declared}
use Rattle.theory.specs.declared.owner.Owner.TheVariants.{Nobody}
use Rattle.theory.specs.declared.data.Predicate.{Predicate}
use Rattle.theory.specs.declared.data.Fact.{Fact}
use Rattle.theory.specs.declared.data.Rule.{Rule}
use Rattle.theory.specs.declared.data.Role.{Role}
use Rattle.theory.specs.declared.data.Theory.{Theory}
use Rattle.types.specs.declared.faults.Ill.TheVariants.{NoPrincipal}
use Rattle.types.specs.Faults.{TypeFault}

-- counts that a spot can tell, as the table check leaves them
pub record SmallRule (R : Rule) : Type 0 where
  pub variables : vec_len R.universal + vec_len R.made < 2 ^ 64
  pub facts : vec_len R.left + vec_len R.right < 2 ^ 64

abbrev pub Small : List Rule → Type 0
Small Rs = (R : Rule) → R ∈ Rs → SmallRule R

-- where something has no place of its own
abbrev pub here : ℕ → TypeFault → TypeFault
here n f = f

abbrev pub numbered : Place → ℕ → Place
numbered e n = record { names = e.names; memory = e.memory; own = e.own; rows = e.rows; owner = e.owner; role = e.role; rule = n }

abbrev pub numbered_check : Meaning → Place → List Rule → Rule → Answer TypeFault
numbered_check lay e seen R = rule_check lay (numbered e (length seen + 1)) R

abbrev pub rules_check : Meaning → Place → List Rule → Answer TypeFault
rules_check lay e Rs = walk (numbered_check lay e) here [] Rs

abbrev pub anchor_check : List Declared → ℕ → Option ℕ → Answer TypeFault
anchor_check ds role None = pass
anchor_check ds role (Some a) = demand (has_family (type_in ds a) 1) (record { role = role; rule = 0; spot = 0; why = NoPrincipal }) pass

abbrev pub place_of : List Declared → List Predicate → List Row → ℕ → Option ℕ → List Predicate → Place
place_of ds memory rows number anchor Ps = record { names = ds; memory = memory; own = Ps; rows = rows; owner = owner_of anchor; role = number; rule = 0 }

abbrev pub role_check : Meaning → List Declared → List Predicate → List Row → ℕ → Option ℕ → List Predicate → List Rule → Answer TypeFault
role_check lay ds memory rows number anchor Ps Rs =
    and_then same (anchor_check ds number anchor)
    (and_then same (predicates_check lay ds number 0 Ps)
    (rules_check lay (place_of ds memory rows number anchor Ps) Rs))

pub record SmallRole (R : Role) : Type 0 where
  pub predicates : vec_len R.predicates < 2 ^ 64
  pub rules : Small (vec_items R.rules)

abbrev pub SmallRoles : List Role → Type 0
SmallRoles Rs = (R : Role) → R ∈ Rs → SmallRole R

pub record SmallTheory (T : Theory) : Type 0 where
  pub rows : length (rows_of T.book) ≤ 512
  pub roles : SmallRoles (vec_items T.roles)
  pub names : vec_len T.names + vec_len T.memory < 2 ^ 64

abbrev pub role_at : Meaning → List Declared → List Predicate → List Row → ℕ → Role → Answer TypeFault
role_at lay ds memory rows n R = role_check lay ds memory rows n R.anchor (vec_items R.predicates) (vec_items R.rules)

abbrev pub placed_check : Meaning → List Declared → List Predicate → List Row → List Role → Role → Answer TypeFault
placed_check lay ds memory rows seen R = role_at lay ds memory rows (length seen + 1) R

abbrev pub roles_check : Meaning → List Declared → List Predicate → List Row → List Role → Answer TypeFault
roles_check lay ds memory rows Rs = walk (placed_check lay ds memory rows) here [] Rs

abbrev pub tables_check : Meaning → List Declared → List Predicate → List Row → List Role → Answer TypeFault
tables_check lay ds memory rows Rs =
    and_then same (names_check lay ds)
    (and_then same (predicates_check lay ds 0 (length ds) memory)
    (roles_check lay ds memory rows Rs))

abbrev pub theory_check : Meaning → Theory → Answer TypeFault
theory_check lay T = tables_check lay (vec_items T.names) (vec_items T.memory) (rows_of T.book) (vec_items T.roles)

-- initial facts, over the names alone; their predicates are the memory's
abbrev pub initial_check : Meaning → List Declared → List Predicate → List Row → List Fact → Answer TypeFault
initial_check lay ds memory rows fs = facts_check lay (record { names = ds; memory = memory; own = []; rows = rows; owner = Nobody; role = 0; rule = 0 }) [] 0 fs
