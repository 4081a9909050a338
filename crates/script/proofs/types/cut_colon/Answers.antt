use Rattle.std.proofs.Common.{lit<}
use Rattle.script.proofs.Splitting.{cut_is}
use Rattle.script.proofs.types.cut_colon.Goals as goal

pub returns : goal.returns
returns c = cut_is 58 c.args.word.now _ c.split_once.ensures.cases (lit< tt)
