use Rattle.std.proofs.Common.{◌≡◌, take}
use Rattle.reading.specs.Marks.{sight_of, put_all, put_facts}
use Rattle.reading.proofs.marks.View.mark_facts.Given as goal

abbrev pub invariant-loop-fact : goal.invariant-loop-fact
invariant-loop-fact l = l.got ≡ put_facts (sight_of l.self).low l.initial.got (take l.fact-index l.facts)

abbrev pub invariant-loop-number : goal.invariant-loop-number
invariant-loop-number l = l.got ≡ put_all (sight_of l.self).low l.initial.got (take l.number-index l.number-items)
