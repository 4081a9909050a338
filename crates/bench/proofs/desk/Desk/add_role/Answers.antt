use Rattle.bench.specs.Roles.{written_role}
use Rattle.bench.specs.States.{state_of}
use Rattle.bench.specs.Playing.{with_roles, with_theory}
use Rattle.bench.proofs.Changing.{kept_inside, kept_map}
use Rattle.bench.proofs.desk.Desk.add_role.Goals as goal

pub returns : goal.returns
returns c =
    let s = state_of c.args.self.now in
    kept_inside (λ roles. with_theory s (with_roles s.theory roles)) (kept_map written_role _ _ _ _ _ c.begun_role-begun.ensures c.put.ensures)
