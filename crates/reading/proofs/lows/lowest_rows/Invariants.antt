use Rattle.std.proofs.Common.{◌≡◌, length, drop}
use Rattle.reading.specs.Lows.{lowered, lows}
use Rattle.reading.proofs.lows.lowest_rows.Given as goal

abbrev pub invariant-loop-row : goal.invariant-loop-row
invariant-loop-row l =
    (length l.low.items ≡ l.row-index)
    × (length l.seen.items ≡ l.row-index)
    × (lowered l.owner l.seen.items l.low.items (drop l.row-index l.rows) ≡ lows l.owner l.rows)
