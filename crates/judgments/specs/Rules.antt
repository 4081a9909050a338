-- Predicates, facts and rules, and their types.
use Rattle.std.specs.Prelude.{◌≡◌, ℕ, zero, suc, List, [], ◌∷◌, ◌++◌, map}
use Rattle.layouts.specs.Meanings.{Meaning}
use Rattle.terms.specs.Terms.{Term, item}
use Rattle.terms.specs.declared.row.Item.{Item}
use Rattle.terms.specs.declared.row.Item.TheVariants.{Name, Variable}
use Rattle.judgments.specs.Contexts.{Ty, ty, ◌∶◌, Context, ◌∈◌}
use Rattle.judgments.specs.Substitutions.{Values, the_item, put, put_decl}
use Rattle.judgments.specs.Typing.{Formed, Has}

pub data Predicate : Type 0 where
  network : Predicate
  memory role : ℕ → Predicate

pub data Fact : Type 0 where
  fact : Predicate → List Term → Fact

-- A parameter of an argument's type: a declared name, or an argument further left by its place from 0.
pub data Place : Type 0 where
  named place : ℕ → Place

pub data Argument : Type 0 where
  of_type : ℕ → List Place → Argument

-- which predicate takes which arguments
abbrev pub Table : Type 1
Table = Predicate → List Argument → Type 0

-- what stands at a place; nothing else is looked up where the predicate is well formed
abbrev pub term_at : List Term → ℕ → Term
term_at [] k = item (Name 0)
term_at (t ∷ ts) zero = t
term_at (t ∷ ts) (suc k) = term_at ts k

abbrev pub meant : List Term → Place → Item
meant ts (named n) = Name n
meant ts (place k) = the_item (term_at ts k)

-- the terms, arguments of a fact with all these, have the types
abbrev pub Agree : Meaning → Context → List Term → List Term → List Argument → Type 0
Agree lay Γ all [] [] = Unit {0}
Agree lay Γ all [] (A ∷ As) = ⊥
Agree lay Γ all (t ∷ ts) [] = ⊥
Agree lay Γ all (t ∷ ts) (of_type F ps ∷ As) = Has lay Γ t (ty F (map (meant all) ps)) × Agree lay Γ all ts As

abbrev pub FactTyped : Meaning → Context → Table → Fact → Type 0
FactTyped lay Γ table (fact P ts) = (As : List Argument) × table P As × Agree lay Γ ts ts As

pub record Rule : Type 0 where
  pub universal : Context
  pub left : List Fact
  pub made : Context
  pub right : List Fact

abbrev pub arguments : List Fact → List Term
arguments [] = []
arguments (fact P ts ∷ fs) = ts ++ arguments fs

abbrev pub put_fact : Values → Fact → Fact
put_fact σ (fact P ts) = fact P (map (put σ) ts)

abbrev pub put_rule : Values → Rule → Rule
put_rule σ r = record {
  universal = map (put_decl σ) r.universal;
  left = map (put_fact σ) r.left;
  made = map (put_decl σ) r.made;
  right = map (put_fact σ) r.right;
}

-- variables other than the owner's
abbrev pub Variables : Context → Type 0
Variables Γ = (i : Item) (T : Ty) → i ∶ T ∈ Γ → (v : ℕ) × (i ≡ Variable (suc v))

-- the rule has its types over the names and the owner, Σ, and the predicates
pub record RuleTyped (lay : Meaning) (Σ : Context) (table : Table) (r : Rule) : Type 0 where
  pub variables : Variables r.universal
  pub made_variables : Variables r.made
  pub formed : Formed lay (r.made ++ (r.universal ++ Σ))
  pub left_typed : (f : Fact) → f ∈ r.left → FactTyped lay (r.universal ++ Σ) table f
  pub right_typed : (f : Fact) → f ∈ r.right → FactTyped lay (r.made ++ (r.universal ++ Σ)) table f
