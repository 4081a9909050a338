use Rattle.std.proofs.Common.{◌≡◌, [], ◌∷◌, ◌++◌, Some, vec_items, rules}
use Rattle.script.specs.Said.{said_rule_part}
use Rattle.bench.specs.Roles.{written_role, written_rule, with_rules, with_rule_part}
use Rattle.bench.proofs.Changing.{edited_inside, edited_last}
use Rattle.bench.proofs.roles.add_to_last_rule.Goals as goal

pub returns : goal.returns
returns c =
    let popped : vec_items c.args.role.now.rules ≡ vec_items c.pop.new.self ++ c.in-Some.last ∷ [] = search rules in
    edited_inside (with_rules (written_role c.args.role.now)) _ _ _ _
    (edited_last written_rule (λ r. Some (with_rule_part (said_rule_part c.args.part) r)) _ _ _ _ _ _ popped c.push_reserved.ensures.items c.add_to_rule-added.ensures)
