use Rattle.std.proofs.Common.{◌≡◌, ℕ, vec_items, Option}
use Rattle.names.specs.Sets.{how_many, minus}
use Rattle.names.specs.Withheld.{FirstKept}
use Rattle.names.proofs.withholding.WithholdingSource.draw.Given as goal

-- The list stays, only listed names were drawn, and what comes first from here comes first from the beginning.
abbrev pub invariant-loop-name : goal.invariant-loop-name
invariant-loop-name g l =
    let ahead = g.S.Source.ahead in
    let listed = vec_items l.initial.self.withheld in
    record {
      same : l.self.withheld ≡ l.initial.self.withheld;
      skipped : (n : ℕ) → minus (ahead l.self.below) listed n ≡ minus (ahead l.initial.self.below) listed n;
      first : (r : Option ℕ) (t : _) → FirstKept g.S.Source.draws listed l.self.below r t → FirstKept g.S.Source.draws listed l.initial.self.below r t;
    }

abbrev pub decreases-loop-name : goal.decreases-loop-name
decreases-loop-name g l = how_many (g.S.Source.ahead l.self.below)
