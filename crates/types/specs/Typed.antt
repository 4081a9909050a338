-- What predicates, facts and rules stand for in the judgments.
use Rattle.std.specs.Prelude.{◌≡◌, ℕ, ◌+◌, List, [], ◌∷◌, map, length, Some, None, vec_items, Option}
use Rattle.terms.specs.Held.{rows_of}
use Rattle.judgments.specs.Contexts.{◌∶◌, Context, ◌∈◌}
use Rattle.layouts.specs.Meanings.{Meaning}
use Rattle.judgments.specs.Typing.{Formed}
use Rattle.judgments.specs.Predicates.{PredicateFormed}
use Rattle.types.specs.Names.{names_only}
use Rattle.types.specs.Theories.{place_of}
use Rattle.types.specs.Judged.{declare, variable_decl, context_of, argument_of}
use Rattle.types.specs.Rows.{term_at}
use Rattle.types.specs.Rules.{Place, over, predicate_at, a_message}
use Rattle.theory.specs.declared.data.Predicate.{Predicate}
use Rattle.theory.specs.declared.data.Symbol.{Symbol}
use Rattle.theory.specs.declared.data.Fact.{Fact}
use Rattle.theory.specs.declared.data.Rule.{Rule}
use Rattle.terms.specs.declared.row.Row.{Row}
use Rattle.theory.specs.declared.data.Declared.{Declared}
use Rattle.theory.specs.declared.data.Role.{Role}
use Rattle.theory.specs.declared.data.Theory.{Theory}
use Rattle.terms.specs.declared.row.Item.{Item}
use Rattle.terms.specs.declared.row.Item.TheVariants.{Name}
use Rattle.judgments.specs.Contexts as judge
use Rattle.judgments.specs.Rules as rules
use Rattle.theory.specs.declared.data.Symbol.TheVariants as symbol

abbrev pub symbol_of : Symbol → rules.Predicate
symbol_of symbol.Network = rules.network
symbol_of (symbol.Memory m) = rules.memory m
symbol_of (symbol.Role p) = rules.role p

abbrev pub takes : Predicate → List rules.Argument
takes P = map argument_of (vec_items P.arguments)

-- N takes one msg, and the others what is declared
abbrev pub table_of : Place → rules.Table
table_of e rules.network As = As ≡ argument_of a_message ∷ []
table_of e (rules.memory m) As = (P : Predicate) × (predicate_at e.memory m ≡ Some P) × (As ≡ takes P)
table_of e (rules.role p) As = (P : Predicate) × (predicate_at e.own p ≡ Some P) × (As ≡ takes P)

abbrev pub fact_of : Place → Fact → rules.Fact
fact_of e f = rules.fact (symbol_of f.symbol) (map (term_at e.owner e.rows) (vec_items f.rows))

abbrev pub rule_of : Place → Rule → rules.Rule
rule_of e R = record {
  universal = declare (variable_decl e.owner) 1 (vec_items R.universal) [];
  left = map (fact_of e) (vec_items R.left);
  made = declare (variable_decl e.owner) (1 + length (vec_items R.universal)) (vec_items R.made) [];
  right = map (fact_of e) (vec_items R.right);
}

-- the names of a signature, declared
abbrev pub signature : List Declared → Context
signature ds = context_of (names_only ds)

-- the anchor of a role, if it has one, is a declared principal
abbrev pub AnchorTyped : List Declared → Option ℕ → Type 0
AnchorTyped ds None = Unit {0}
AnchorTyped ds (Some a) = (qs : List Item) × (Name a ∶ judge.ty 1 qs ∈ signature ds)

abbrev pub AllFormed : Meaning → List Declared → List Predicate → Type 0
AllFormed lay ds Ps = (P : Predicate) → P ∈ Ps → PredicateFormed lay (signature ds) (takes P)

-- a rule of a role, over the names and the owner
abbrev pub RuleTypedIn : Meaning → Place → Rule → Type 0
RuleTypedIn lay e R = rules.RuleTyped lay (context_of (over e [])) (table_of e) (rule_of e R)

pub record RoleTyped (lay : Meaning) (ds : List Declared) (memory : List Predicate) (rows : List Row) (R : Role) : Type 0 where
  pub anchored : AnchorTyped ds R.anchor
  pub predicates : AllFormed lay ds (vec_items R.predicates)
  pub typed : (r : Rule) → r ∈ vec_items R.rules → RuleTypedIn lay (place_of ds memory rows 0 R.anchor (vec_items R.predicates)) r

-- a theory has its types
pub record TheoryTyped (lay : Meaning) (T : Theory) : Type 0 where
  pub names : Formed lay (signature (vec_items T.names))
  pub memory : AllFormed lay (vec_items T.names) (vec_items T.memory)
  pub roles : (R : Role) → R ∈ vec_items T.roles → RoleTyped lay (vec_items T.names) (vec_items T.memory) (rows_of T.book) R
