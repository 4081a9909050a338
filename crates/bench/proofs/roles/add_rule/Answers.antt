use Rattle.bench.specs.Roles.{written_role, written_rule, with_rules}
use Rattle.bench.proofs.Changing.{kept_inside, kept_map}
use Rattle.bench.proofs.roles.add_rule.Goals as goal

pub returns : goal.returns
returns c =
    kept_inside (with_rules (written_role c.args.role.now)) (kept_map written_rule _ _ _ _ _ c.begun_rule.ensures c.put.ensures)
