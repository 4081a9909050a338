use Rattle.std.proofs.Common.{refl}
use Rattle.script.specs.Facts.{said_fact}
use Rattle.bench.specs.Roles.{written_rule}
use Rattle.bench.proofs.Changing.{kept_inside, kept_map}
use Rattle.bench.proofs.roles.add_to_rule.Goals as goal

pub returns-in-Left : goal.returns-in-Left
returns-in-Left c =
    let r = written_rule c.args.rule.now in
    rw c.in-Left.is (kept_inside (λ fs. record { universal = r.universal; left = fs; made = r.made; right = r.right }) (kept_map said_fact _ _ _ _ _ refl c.put-in-Left.ensures))

pub returns-in-Right : goal.returns-in-Right
returns-in-Right c =
    let r = written_rule c.args.rule.now in
    rw c.in-Right.is (kept_inside (λ fs. record { universal = r.universal; left = r.left; made = r.made; right = fs }) (kept_map said_fact _ _ _ _ _ refl c.put-in-Right.ensures))
