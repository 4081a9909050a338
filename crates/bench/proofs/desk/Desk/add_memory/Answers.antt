use Rattle.std.proofs.Common.{vec_items, refl}
use Rattle.bench.specs.States.{state_of}
use Rattle.bench.specs.Playing.{with_theory}
use Rattle.bench.proofs.Changing.{kept_inside, kept_map}
use Rattle.bench.proofs.desk.Desk.add_memory.Goals as goal

pub returns : goal.returns
returns c =
    let s = state_of c.args.self.now in
    kept_inside (λ m. with_theory s (record { rows = s.theory.rows; names = s.theory.names; memory = m; roles = s.theory.roles }))
    (kept_map (λ P. vec_items P.arguments) _ _ _ _ _ refl c.put.ensures)
