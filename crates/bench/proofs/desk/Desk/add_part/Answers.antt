use Rattle.std.proofs.Common.{◌≡◌, [], ◌∷◌, ◌++◌, vec_items, rules}
use Rattle.script.specs.Said.{said_part}
use Rattle.bench.specs.Roles.{written_role, with_part}
use Rattle.bench.specs.States.{state_of}
use Rattle.bench.specs.Playing.{with_roles, with_theory}
use Rattle.bench.proofs.Changing.{edited_inside, edited_last}
use Rattle.bench.proofs.desk.Desk.add_part.Goals as goal

pub returns : goal.returns
returns c =
    let s = state_of c.args.self.now in
    let popped : vec_items c.args.self.now.theory.roles ≡ vec_items c.pop.new.self ++ c.in-Some.last ∷ [] = search rules in
    edited_inside (λ roles. with_theory s (with_roles s.theory roles)) _ _ _ _
    (edited_last written_role (with_part (said_part c.args.part)) _ _ _ _ _ _ popped c.push_reserved.ensures.items c.add_to_role-added.ensures)
