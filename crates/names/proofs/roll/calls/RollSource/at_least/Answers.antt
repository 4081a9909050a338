use Rattle.std.proofs.Common.{vec_items, rules}
use Rattle.std.proofs.lemmas.List.{length-reverse}
use Rattle.names.specs.Unread.{unread}
use Rattle.names.specs.Reading.{how_many_listed}
use Rattle.names.proofs.roll.calls.RollSource.at_least.Goals as goal

pub returns : goal.returns
returns c =
    let r = c.args.self.now in
    let many = how_many_listed (unread r) r.once in
    let left = length-reverse (vec_items r.left) in
    search rules
