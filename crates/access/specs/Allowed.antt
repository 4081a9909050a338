-- Which theories pass the access check.
use Rattle.std.specs.Prelude.{[], vec_items}
use Rattle.judgments.specs.Access.{RuleAllowed}
use Rattle.judgments.specs.Contexts.{◌∈◌}
use Rattle.layouts.specs.Meanings.{Meaning}
use Rattle.terms.specs.Held.{rows_of}
use Rattle.theory.specs.Owners.{owner_item}
use Rattle.theory.specs.declared.data.Role.{Role}
use Rattle.theory.specs.declared.data.Rule.{Rule}
use Rattle.theory.specs.declared.data.Theory.{Theory}
use Rattle.types.specs.Judged.{context_of}
use Rattle.types.specs.Rules.{Place, over}
use Rattle.types.specs.Theories.{place_of}
use Rattle.types.specs.Typed.{rule_of}

-- a rule of a role, over the names and the owner
abbrev pub RuleAllowedIn : Meaning → Place → Rule → Type 0
RuleAllowedIn lay e R = RuleAllowed lay (context_of (over e [])) (owner_item e.owner) (rule_of e R)

-- every rule passes the access check for its role's owner
abbrev pub TheoryAllowed : Meaning → Theory → Type 0
TheoryAllowed lay T =
    (R : Role) → R ∈ vec_items T.roles → (r : Rule) → r ∈ vec_items R.rules →
    RuleAllowedIn lay (place_of (vec_items T.names) (vec_items T.memory) (rows_of T.book) 0 R.anchor (vec_items R.predicates)) r
