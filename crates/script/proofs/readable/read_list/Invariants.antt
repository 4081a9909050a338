use Rattle.std.proofs.Common.{◌≡◌, drop, vec_items}
use Rattle.script.specs.Lists.{all_of}
use Rattle.script.proofs.Matching.{told}
use Rattle.script.proofs.Listing.{joined}
use Rattle.script.proofs.readable.read_list.Given as goal

-- what was read, and what the words to come say, is what all words say
abbrev pub invariant-loop-word : goal.invariant-loop-word
invariant-loop-word g l = let reads = g.T.Readable.reads in joined (vec_items l.list) (all_of reads (told (drop l.word-index l.words))) ≡ all_of reads (told l.words)
