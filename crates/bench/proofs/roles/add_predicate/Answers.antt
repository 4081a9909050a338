use Rattle.std.proofs.Common.{vec_items, refl}
use Rattle.bench.specs.Roles.{written_role}
use Rattle.bench.proofs.Changing.{kept_inside, kept_map}
use Rattle.bench.proofs.roles.add_predicate.Goals as goal

pub returns : goal.returns
returns c =
    let R = written_role c.args.role.now in
    kept_inside (λ Ps. record { anchor = R.anchor; predicates = Ps; rules = R.rules })
    (kept_map (λ P. vec_items P.arguments) _ _ _ _ _ refl c.put.ensures)
