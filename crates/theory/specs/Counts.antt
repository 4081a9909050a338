-- The limits of a theory's tables, in the order in which they are looked at.
use Rattle.std.specs.Prelude.{ℕ, ◌+◌, List, [], length, vec_items, vec_len, nat_le, sum_by}
use Rattle.refusals.specs.Walks.{Answer, pass, demand, and_then, walk}
use Rattle.theory.specs.declared.data.Fact.{Fact}
use Rattle.theory.specs.declared.data.Predicate.{Predicate}
use Rattle.theory.specs.declared.data.Role.{Role}
use Rattle.theory.specs.declared.data.Rule.{Rule}
use Rattle.theory.specs.declared.data.Theory.{Theory}
use Rattle.theory.specs.declared.faults.Flaw.TheVariants.{TooMany}
use Rattle.theory.specs.Faults.{TableFault}

-- A count is at most its limit; the spot of the fault is the limit plus 1.
abbrev pub count_check : ℕ → ℕ → ℕ → ℕ → Answer TableFault
count_check count limit role rule = demand (nat_le count limit) (record { role = role; rule = rule; spot = limit + 1; why = TooMany }) pass

abbrev pub same : TableFault → TableFault
same f = f

abbrev pub here : ℕ → TableFault → TableFault
here n f = f

-- A predicate has at most 8 argument types.
abbrev pub predicate_counts : ℕ → List Predicate → Predicate → Answer TableFault
predicate_counts role seen P = count_check (vec_len P.arguments) 8 role 0

abbrev pub predicates_counts : ℕ → List Predicate → Answer TableFault
predicates_counts role Ps = walk (predicate_counts role) here [] Ps

-- A rule has at most 15 universal variables, 8 left facts, 8 made variables and 8 right facts.
abbrev pub rule_counts : ℕ → ℕ → Rule → Answer TableFault
rule_counts role rule R =
    and_then same (count_check (vec_len R.universal) 15 role rule)
    (and_then same (count_check (vec_len R.left) 8 role rule)
    (and_then same (count_check (vec_len R.made) 8 role rule)
    (count_check (vec_len R.right) 8 role rule)))

abbrev pub placed_rule_counts : ℕ → List Rule → Rule → Answer TableFault
placed_rule_counts role seen R = rule_counts role (length seen + 1) R

abbrev pub rules_counts : ℕ → List Rule → Answer TableFault
rules_counts role Rs = walk (placed_rule_counts role) here [] Rs

-- A role has at most 4 predicates.
abbrev pub role_counts : ℕ → List Predicate → List Rule → Answer TableFault
role_counts n Ps Rs =
    and_then same (count_check (length Ps) 4 n 0)
    (and_then same (predicates_counts n Ps)
    (rules_counts n Rs))

abbrev pub placed_role_counts : List Role → Role → Answer TableFault
placed_role_counts seen R = role_counts (length seen + 1) (vec_items R.predicates) (vec_items R.rules)

abbrev pub roles_counts : List Role → Answer TableFault
roles_counts Rs = walk placed_role_counts here [] Rs

-- How many rules there are in all.
abbrev pub rules_in_all : List Role → ℕ
rules_in_all Rs = sum_by (λ R. vec_len R.rules) Rs

-- At most 128 names, 16 memory predicates, 16 roles, 64 rules in all, and 128 initial facts.
abbrev pub counts_check : Theory → List Fact → Answer TableFault
counts_check T fs =
    and_then same (count_check (vec_len T.names) 128 0 0)
    (and_then same (count_check (vec_len T.memory) 16 0 0)
    (and_then same (predicates_counts 0 (vec_items T.memory))
    (and_then same (count_check (vec_len T.roles) 16 0 0)
    (and_then same (count_check (rules_in_all (vec_items T.roles)) 64 0 0)
    (and_then same (roles_counts (vec_items T.roles))
    (count_check (length fs) 128 0 0))))))
