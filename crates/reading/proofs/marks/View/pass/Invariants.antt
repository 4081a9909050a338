use Rattle.std.proofs.Common.{◌≡◌}
use Rattle.reading.specs.Marks.{sight_of, pass, pass_from}
use Rattle.reading.proofs.marks.View.pass.Given as goal

abbrev pub invariant-loop-number : goal.invariant-loop-number
invariant-loop-number l = pass_from (sight_of l.self) l.number l.got ≡ pass (sight_of l.self) l.initial.got
