use Rattle.std.proofs.Common.{rules, arith, ◌^◌, ◌≤◌, length}
use Rattle.std.proofs.lemmas.Iterator.{YieldsList-from_slice}
use Rattle.std.proofs.lemmas.Iterator.Adapters.{fits_from_length, at_most_from_yields_List}
use Rattle.reading.proofs.marks.count.Goals as goal

-- so many marks fit a number, each counted as 1 at most
pub sum-requires-clause-fits : goal.sum-requires-clause-fits
sum-requires-clause-fits c =
    let few : length c.args.marks.now ≤ 2 ^ 63 = omega (arith, c.iter.ensures.bound) in
    fits_from_length _ _ (2 ^ 63) (2 ^ 64) (at_most_from_yields_List (YieldsList-from_slice c.args.marks.now cc) few) c.map.ensures.closure (omega arith) (λ x r q k. search rules)
