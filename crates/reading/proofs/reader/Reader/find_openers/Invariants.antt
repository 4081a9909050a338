use Rattle.std.proofs.Common.{◌≡◌, map, take}
use Rattle.terms.specs.Held.{rows_of}
use Rattle.reading.specs.Openers.{opener_of}
use Rattle.reading.proofs.reader.Reader.find_openers.Given as goal

abbrev pub invariant-loop-entry : goal.invariant-loop-entry
invariant-loop-entry g l =
    let f = opener_of (g.L.Layout.meaning l.self.layout.now) l.self.scope.now l.self.owner (rows_of l.book) in
    l.openers.items ≡ map f (take l.entry-index l.self.scope.now)
