-- The type check's refusals as one table: what is demanded, in order, each with the fault told where it is not met.
use Rattle.std.specs.Prelude.{◌≡◌, ℕ, ◌+◌, List, [], ◌∷◌, ◌++◌, map, length, Some, None, Ok, Err, vec_items, Option}
use Rattle.terms.specs.Held.{rows_of}
use Rattle.judgments.specs.Contexts.{Context}
use Rattle.terms.specs.Terms.{Term}
use Rattle.layouts.specs.Meanings.{Meaning}
use Rattle.judgments.specs.Typing.{InRange, New, TypeFormed, Has, AllKnown}
use Rattle.judgments.specs.Rules.{meant}
use Rattle.judgments.specs.Predicates.{ArgumentsFormed, FirstPrincipal}
use Rattle.refusals.specs.declared.Refusal.{Refusal}
use Rattle.refusals.specs.Walks.{Answer}
use Rattle.refusals.specs.Demands.{Lines, carried, lines}
use Rattle.types.specs.Judged.{type_of, context_of, slot_of, slot_list}
use Rattle.types.specs.Rows.{term_at}
use Rattle.types.specs.Names.{at_name}
use Rattle.refusals.specs.Faults.{at_spot, refusal_by}
use Rattle.types.specs.Rules.{Place, over, predicate_at, a_message, same}
use Rattle.types.specs.Theories.{here, place_of}
use Rattle.types.specs.Typed.{takes, signature, AnchorTyped}
use Rattle.theory.specs.Data.{Ty}
use Rattle.terms.specs.declared.row.Row.{Row}
use Rattle.theory.specs.declared.data.Declared.{Declared}
use Rattle.theory.specs.declared.owner.Owner.TheVariants.{Nobody}
use Rattle.theory.specs.Data.{Argument}
use Rattle.theory.specs.declared.data.Predicate.{Predicate}
use Rattle.theory.specs.declared.data.Symbol.{Symbol}
use Rattle.theory.specs.declared.data.Fact.{Fact}
use Rattle.theory.specs.declared.data.Rule.{Rule}
use Rattle.theory.specs.declared.data.Role.{Role}
use Rattle.theory.specs.declared.data.Theory.{Theory}
use Rattle.types.specs.declared.faults.Ill.{Ill}
use Rattle.types.specs.declared.faults.Ill.TheVariants.{Taken, Unformed, NoPrincipal, Count, Undeclared, Lacks}
use Rattle.types.specs.Faults.{TypeFault}
use Rattle.terms.specs.declared.row.Item.TheVariants.{Name}
use Rattle.judgments.specs.Contexts as judge
use Rattle.types.specs.Theories as theories
use Rattle.theory.specs.declared.data.Symbol.TheVariants as symbol

abbrev pub number_of : Ill → ℕ
number_of Taken = 10
number_of Unformed = 11
number_of NoPrincipal = 12
number_of Count = 13
number_of Undeclared = 14
number_of (Lacks k) = 15

abbrev pub row_of : Ill → ℕ
row_of Taken = 0
row_of Unformed = 0
row_of NoPrincipal = 0
row_of Count = 0
row_of Undeclared = 0
row_of (Lacks k) = k

-- The six numbers of a fault.
abbrev pub refusal_of : TypeFault → Refusal
refusal_of f = refusal_by 3 number_of row_of f

abbrev pub numbered : Answer TypeFault → Answer Refusal
numbered (Ok u) = Ok u
numbered (Err f) = Err (refusal_of f)

-- a name is in range and new, and its type well formed over those before it
abbrev pub name_lines : Meaning → List Declared → Declared → Lines Ill
name_lines lay seen d =
    (Taken, InRange (Name d.name) × New (Name d.name) (signature seen)) ∷ (Unformed, TypeFormed lay (signature seen) (type_of Nobody d.of)) ∷ []

-- the argument types of a predicate are well formed, and the first is principal
abbrev pub predicate_lines : Meaning → List Declared → List Predicate → Predicate → Lines Ill
predicate_lines lay ds seen P = (Unformed, ArgumentsFormed lay (signature ds) [] (takes P)) ∷ (NoPrincipal, FirstPrincipal (takes P)) ∷ []

-- each argument has its type, with each place read as what the fact holds there
abbrev pub argument_lines : Meaning → Context → (ℕ → Term) → List ℕ → List ℕ → List Argument → Lines Ill
argument_lines lay Γ term all [] As = []
argument_lines lay Γ term all (k ∷ ks) [] = []
argument_lines lay Γ term all (k ∷ ks) (A ∷ As) =
    (Lacks k, Has lay Γ (term k) (judge.ty A.family (map (meant (map term all)) (map slot_of (slot_list A.params))))) ∷ argument_lines lay Γ term all ks As

-- the count of arguments, their items, their types
abbrev pub listed_lines : Meaning → Context → (ℕ → Term) → List ℕ → List Argument → Lines Ill
listed_lines lay Γ term args As = (Count, length args ≡ length As) ∷ (Undeclared, AllKnown Γ (map term args)) ∷ argument_lines lay Γ term args args As

-- a predicate that is not there takes no count of arguments
abbrev pub found_lines : Meaning → Context → (ℕ → Term) → List ℕ → Option Predicate → Lines Ill
found_lines lay Γ term args None = (Count, ⊥) ∷ []
found_lines lay Γ term args (Some P) = listed_lines lay Γ term args (vec_items P.arguments)

abbrev pub symbol_lines : Meaning → Place → Context → Symbol → List ℕ → Lines Ill
symbol_lines lay e Γ symbol.Network args = listed_lines lay Γ (term_at e.owner e.rows) args (a_message ∷ [])
symbol_lines lay e Γ (symbol.Memory m) args = found_lines lay Γ (term_at e.owner e.rows) args (predicate_at e.memory m)
symbol_lines lay e Γ (symbol.Role p) args = found_lines lay Γ (term_at e.owner e.rows) args (predicate_at e.own p)

abbrev pub fact_lines : Meaning → Place → List Ty → List Fact → Fact → Lines Ill
fact_lines lay e vs seen f = symbol_lines lay e (context_of (over e vs)) f.symbol (vec_items f.rows)

abbrev pub facts_lines : Meaning → Place → List Ty → ℕ → List Fact → Lines TypeFault
facts_lines lay e vs base fs = lines (fact_lines lay e vs) (at_spot e.role e.rule base) [] fs

-- a variable's type is well formed over the names, the owner and the variables before it
abbrev pub variable_lines : Meaning → Place → List Ty → List Ty → Ty → Lines Ill
variable_lines lay e before seen T = (Unformed, TypeFormed lay (context_of (over e (before ++ seen))) (type_of e.owner T)) ∷ []

abbrev pub variables_lines : Meaning → Place → List Ty → List Ty → Lines TypeFault
variables_lines lay e before vs = lines (variable_lines lay e before) (at_spot e.role e.rule (length before)) [] vs

-- universal variables, left facts, made variables, right facts
abbrev pub rule_lines : Meaning → Place → Rule → Lines TypeFault
rule_lines lay e R =
    carried same (variables_lines lay e [] (vec_items R.universal))
    ++ (carried same (facts_lines lay e (vec_items R.universal) 0 (vec_items R.left))
    ++ (carried same (variables_lines lay e (vec_items R.universal) (vec_items R.made))
    ++ facts_lines lay e (vec_items R.universal ++ vec_items R.made) (length (vec_items R.left)) (vec_items R.right)))

abbrev pub predicates_lines : Meaning → List Declared → ℕ → ℕ → List Predicate → Lines TypeFault
predicates_lines lay ds role base Ps = lines (predicate_lines lay ds) (at_spot role 0 base) [] Ps

-- the anchor, the predicates, the rules
abbrev pub role_lines : Meaning → List Declared → List Predicate → List Row → ℕ → Role → Lines TypeFault
role_lines lay ds memory rows n R =
    ((record { role = n; rule = 0; spot = 0; why = NoPrincipal }, AnchorTyped ds R.anchor) ∷ [])
    ++ (carried same (predicates_lines lay ds n 0 (vec_items R.predicates))
    ++ lines (λ seen r. rule_lines lay (theories.numbered (place_of ds memory rows n R.anchor (vec_items R.predicates)) (length seen + 1)) r) here [] (vec_items R.rules))

-- the signature, the memory predicates, the roles
abbrev pub fault_lines : Meaning → Theory → Lines TypeFault
fault_lines lay T =
    carried same (lines (name_lines lay) at_name [] (vec_items T.names))
    ++ (carried same (predicates_lines lay (vec_items T.names) 0 (length (vec_items T.names)) (vec_items T.memory))
    ++ lines (λ seen R. role_lines lay (vec_items T.names) (vec_items T.memory) (rows_of T.book) (length seen + 1) R) here [] (vec_items T.roles))

-- the same with the six numbers
abbrev pub theory_lines : Meaning → Theory → Lines Refusal
theory_lines lay T = carried refusal_of (fault_lines lay T)
