use Rattle.std.proofs.Common.{◌≡◌, take, drop, []}
use Rattle.refusals.specs.Walks.{walk}
use Rattle.refusals.specs.Faults.{Says, at_spot}
use Rattle.refusals.proofs.walk.check_each.Given as goal

abbrev pub invariant-loop-i : goal.invariant-loop-i
invariant-loop-i g l =
    (check : _) → Says (goal.F-post g l.check) check →
    walk check (at_spot l.place.role l.place.rule l.place.before) (take l.i l.items) (drop l.i l.items) ≡ walk check (at_spot l.place.role l.place.rule l.place.before) [] l.items
