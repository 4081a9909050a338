use Rattle.std.proofs.Common.{rules}
use Rattle.names.specs.Counts.{how_many_from}
use Rattle.names.proofs.counter.CounterSource.at_least.Goals as goal

pub returns : goal.returns
returns c = search (rules, how_many_from)
