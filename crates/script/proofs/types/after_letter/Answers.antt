use Rattle.std.proofs.lemmas.Str.Pattern.{strip_prefix_char}
use Rattle.script.proofs.Splitting.{after_is}
use Rattle.script.proofs.types.after_letter.Goals as goal

pub returns : goal.returns
returns c = after_is c.args.letter c.args.word.now _ (strip_prefix_char c.args.letter c.args.word.now _ c.strip_prefix.ensures.cases c.requires)
