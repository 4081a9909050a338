use Rattle.std.proofs.Common.{◌≡◌, ◌-◌, length}
use Rattle.reading.specs.Marks.{sight_of, ons, Reaches}
use Rattle.reading.proofs.marks.View.close.Given as goal

abbrev pub invariant-loop-before : goal.invariant-loop-before
invariant-loop-before l = (l.before ≡ ons l.got) × Reaches (sight_of l.self) l.initial.got l.got

abbrev pub decreases-loop-before : goal.decreases-loop-before
decreases-loop-before l = length l.got - l.before
