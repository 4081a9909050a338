use Rattle.std.proofs.Common.{◌≡◌, take, drop, []}
use Rattle.refusals.specs.Walks.{walk}
use Rattle.refusals.specs.Faults.{SaysByNumber}
use Rattle.refusals.proofs.walk.check_numbered.Given as goal

abbrev pub invariant-loop-i : goal.invariant-loop-i
invariant-loop-i g l =
    (check : _) → SaysByNumber (goal.F-post g l.check) check →
    walk check (λ n w. w) (take l.i l.items) (drop l.i l.items) ≡ walk check (λ n w. w) [] l.items
