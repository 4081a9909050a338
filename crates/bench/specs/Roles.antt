-- Roles as a script wrote them down, apart from the memory that holds them, and what a line adds to them.
use Rattle.std.specs.Prelude.{ℕ, List, [], ◌∷◌, ◌++◌, map, Some, None, vec_items, Option}
use Rattle.std.specs.Option.{option_map}
use Rattle.script.specs.Facts.{SaidFact, said_fact}
use Rattle.script.specs.Said.{SaidPart, SaidRulePart, predicate, rule, of_rule, universal, made, left_fact, right_fact}
use Rattle.theory.specs.Data.{Argument}
use Rattle.theory.specs.declared.data.Fact.{Fact}
use Rattle.theory.specs.declared.data.Predicate.{Predicate}
use Rattle.theory.specs.declared.data.Role.{Role}
use Rattle.theory.specs.declared.data.Rule.{Rule}
use Rattle.theory.specs.Data.{Ty}

abbrev pub arguments_of : List Predicate → List (List Argument)
arguments_of Ps = map (λ P. vec_items P.arguments) Ps

abbrev pub facts_of : List Fact → List SaidFact
facts_of fs = map said_fact fs

pub record WrittenRule : Type 0 where
  pub universal : List Ty
  pub left : List SaidFact
  pub made : List Ty
  pub right : List SaidFact

abbrev pub written_rule : Rule → WrittenRule
written_rule r = record {
  universal = vec_items r.universal;
  left = facts_of (vec_items r.left);
  made = vec_items r.made;
  right = facts_of (vec_items r.right);
}

pub record WrittenRole : Type 0 where
  -- the name that it is anchored to, if any
  pub anchor : Option ℕ
  pub predicates : List (List Argument)
  pub rules : List WrittenRule

abbrev pub written_role : Role → WrittenRole
written_role R = record { anchor = R.anchor; predicates = arguments_of (vec_items R.predicates); rules = map written_rule (vec_items R.rules) }

-- ---- what begins
abbrev pub blank_rule : WrittenRule
blank_rule = record { universal = []; left = []; made = []; right = [] }

abbrev pub blank_role : Option ℕ → WrittenRole
blank_role anchor = record { anchor = anchor; predicates = []; rules = [] }

-- ---- what is added
-- A list with its last element changed; of an empty list, nothing.
abbrev pub changed_last : {A : Type 0} → (A → Option A) → List A → Option (List A)
changed_last f [] = None
changed_last f (x ∷ []) = option_map (λ y. y ∷ []) (f x)
changed_last f (x ∷ y ∷ ys) = option_map (λ zs. x ∷ zs) (changed_last f (y ∷ ys))

abbrev pub with_rule_part : SaidRulePart → WrittenRule → WrittenRule
with_rule_part (universal t) r = record { universal = r.universal ++ t ∷ []; left = r.left; made = r.made; right = r.right }
with_rule_part (left_fact f) r = record { universal = r.universal; left = r.left ++ f ∷ []; made = r.made; right = r.right }
with_rule_part (made t) r = record { universal = r.universal; left = r.left; made = r.made ++ t ∷ []; right = r.right }
with_rule_part (right_fact f) r = record { universal = r.universal; left = r.left; made = r.made; right = r.right ++ f ∷ [] }

abbrev pub with_rules : WrittenRole → List WrittenRule → WrittenRole
with_rules R rules = record { anchor = R.anchor; predicates = R.predicates; rules = rules }

-- A line that adds to the last rule needs one.
abbrev pub with_part : SaidPart → WrittenRole → Option WrittenRole
with_part (predicate arguments) R = Some record { anchor = R.anchor; predicates = R.predicates ++ arguments ∷ []; rules = R.rules }
with_part rule R = Some (with_rules R (R.rules ++ blank_rule ∷ []))
with_part (of_rule p) R = option_map (with_rules R) (changed_last (λ r. Some (with_rule_part p r)) R.rules)
