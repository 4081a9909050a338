-- The access check's refusals as one table: what is demanded, in order, each with the fault told where it is not met.
use Rattle.std.specs.Prelude.{◌≡◌, ℕ, ◌+◌, true, List, [], ◌∷◌, ◌++◌, map, length, vec_items}
use Rattle.judgments.specs.Access.{Built, InRule, Owned, Opened}
use Rattle.judgments.specs.Contexts.{Context}
use Rattle.judgments.specs.Rules.{arguments}
use Rattle.layouts.specs.Meanings.{Meaning}
use Rattle.refusals.specs.Demands.{Lines, lines}
use Rattle.terms.specs.Held.{rows_of}
use Rattle.terms.specs.Terms.{Term}
use Rattle.terms.specs.declared.row.Row.{Row}
use Rattle.theory.specs.Owners.{owner_item}
use Rattle.theory.specs.declared.data.Declared.{Declared}
use Rattle.theory.specs.declared.data.Fact.{Fact}
use Rattle.theory.specs.declared.data.Role.{Role}
use Rattle.theory.specs.declared.data.Rule.{Rule}
use Rattle.theory.specs.declared.data.Theory.{Theory}
use Rattle.theory.specs.Data.{Ty}
use Rattle.types.specs.Judged.{declare, variable_decl, context_of}
use Rattle.types.specs.Rows.{term_at}
use Rattle.types.specs.Rules.{Place, over}
use Rattle.types.specs.Theories.{place_of, numbered}
use Rattle.types.specs.Typed.{fact_of}
use Rattle.refusals.specs.Faults.{at_spot}
use Rattle.access.specs.Places.{at_rule, here}
use Rattle.access.specs.Faults.{AccessFault}
use Rattle.access.specs.declared.faults.Denied.{Denied}
use Rattle.access.specs.declared.faults.Denied.TheVariants.{NotOwner, StaysClosed, NotMakeable, NotBuildable}

-- A rule by its parts, apart from the memory that holds them.
pub record Parts : Type 0 where
  pub universal : List Ty
  pub left : List Fact
  pub made : List Ty
  pub right : List Fact

abbrev pub parts_of : Rule → Parts
parts_of R = record { universal = vec_items R.universal; left = vec_items R.left; made = vec_items R.made; right = vec_items R.right }

-- what is declared before the made variables
abbrev pub before_made : Place → Parts → Context
before_made e p = context_of (over e p.universal)

-- the made variables, declared
abbrev pub made_of : Place → Parts → Context
made_of e p = declare (variable_decl e.owner) (1 + length p.universal) p.made []

-- the arguments of the left facts
abbrev pub left_of : Place → Parts → List Term
left_of e p = arguments (map (fact_of e) p.left)

-- what the rule's owner can build
abbrev pub CanBuild : Meaning → Place → Parts → Term → Type 0
CanBuild lay e p = Built (InRule lay (before_made e p) (owner_item e.owner) (left_of e p) (made_of e p))

-- the first argument of a memory or role fact is the owner
abbrev pub owner_lines : Place → List Fact → Fact → Lines Denied
owner_lines e seen f = (NotOwner, Owned (owner_item e.owner) (fact_of e f)) ∷ []

-- the term of each row is no received seal or lock that stays closed
abbrev pub open_lines : Meaning → Place → Parts → List Row → Row → Lines Denied
open_lines lay e p seen r = (StaysClosed (length seen + 1), Opened lay (before_made e p) (owner_item e.owner) (left_of e p) (term_at e.owner e.rows (length seen + 1))) ∷ []

-- names of the variable's family may be made
abbrev pub made_lines : Meaning → List Ty → Ty → Lines Denied
made_lines lay seen T = (NotMakeable, lay.makeable T.family ≡ true) ∷ []

-- each argument can be built
abbrev pub argument_lines : (Term → Type 0) → (ℕ → Term) → List ℕ → Lines Denied
argument_lines Can term [] = []
argument_lines Can term (k ∷ ks) = (NotBuildable k, Can (term k)) ∷ argument_lines Can term ks

abbrev pub built_lines : Meaning → Place → Parts → List Fact → Fact → Lines Denied
built_lines lay e p seen f = argument_lines (CanBuild lay e p) (term_at e.owner e.rows) (vec_items f.rows)

-- The first arguments of the left facts and of the right ones, which count on; closed rows; made variables, which count on
-- after the universal ones; the right facts again.
abbrev pub parts_lines : Meaning → Place → Parts → Lines AccessFault
parts_lines lay e p =
    lines (owner_lines e) (at_spot e.role e.rule 0) [] p.left
    ++ (lines (owner_lines e) (at_spot e.role e.rule (length p.left)) [] p.right
    ++ (lines (open_lines lay e p) (at_rule e.role e.rule) [] e.rows
    ++ (lines (made_lines lay) (at_spot e.role e.rule (length p.universal)) [] p.made
    ++ lines (built_lines lay e p) (at_spot e.role e.rule (length p.left)) [] p.right)))

abbrev pub rule_lines : Meaning → Place → Rule → Lines AccessFault
rule_lines lay e R = parts_lines lay e (parts_of R)

abbrev pub rules_lines : Meaning → Place → List Rule → Lines AccessFault
rules_lines lay e Rs = lines (λ seen R. rule_lines lay (numbered e (length seen + 1)) R) here [] Rs

abbrev pub role_lines : Meaning → List Declared → List Row → ℕ → Role → Lines AccessFault
role_lines lay ds rows n R = rules_lines lay (place_of ds [] rows n R.anchor []) (vec_items R.rules)

abbrev pub roles_lines : Meaning → List Declared → List Row → List Role → Lines AccessFault
roles_lines lay ds rows Rs = lines (λ seen R. role_lines lay ds rows (length seen + 1) R) here [] Rs

-- role by role, rule by rule
abbrev pub theory_lines : Meaning → Theory → Lines AccessFault
theory_lines lay T = roles_lines lay (vec_items T.names) (rows_of T.book) (vec_items T.roles)
