use Rattle.std.proofs.Common.{rules}
use Rattle.names.specs.Reading.{listed-reverse}
use Rattle.names.proofs.roll.calls.RollSource.is_ahead.Goals as goal

pub returns : goal.returns
returns c = search (rules, listed-reverse)
