use Rattle.std.proofs.Common.{◌+◌, drop, vec_items, ap, ◌∙◌}
use Rattle.script.specs.Lists.{all_of}
use Rattle.script.proofs.Matching.{told}
use Rattle.script.proofs.Listing.{joined, list_more, list_broken, list_all}
use Rattle.script.proofs.readable.read_list.Goals as goal

pub returns-in_default : goal.returns-in_default
returns-in_default g c = list_broken g.T.Readable.reads (vec_items c.loop-word.list) c.args.words.now c.loop-word.word-index _ c.loop-word-test.true c.in_default.ensures ∙ c.loop-word.invariant

pub loop-word-preserved : goal.loop-word-preserved
loop-word-preserved g c =
    ap (λ xs. joined xs (all_of g.T.Readable.reads (told (drop (c.loop-word.word-index + 1) c.args.words.now)))) c.in_ok-push.ensures.items
    ∙ list_more g.T.Readable.reads (vec_items c.loop-word.list) c.args.words.now c.loop-word.word-index _ c.loop-word-test.true c.in-Some.one c.in-Some.ensures
    ∙ c.loop-word.invariant

pub returns : goal.returns
returns g c = list_all g.T.Readable.reads (vec_items c.loop-word.list) c.args.words.now c.loop-word.word-index c.loop-word-test.false ∙ c.loop-word.invariant
