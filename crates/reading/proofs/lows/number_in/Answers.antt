use Rattle.std.proofs.Common.{◌≡◌, ◌≤◌, List, length, Some, None, Option, unwrap_or, sym, arith}
use Rattle.earliest.proofs.Firsts.{earliest_within}
use Rattle.earliest.specs.Places.{earliest}
use Rattle.terms.specs.Rows.{same_row}
use Rattle.terms.specs.declared.row.Row.{Row}
use Rattle.reading.proofs.lows.number_in.Goals as goal

-- the place that is numbered is at most the next one
within : (r : Row) (rows : List Row) → (place : Option _) → place ≡ earliest same_row r rows → unwrap_or place (length rows) ≤ length rows
within r rows None e = omega arith
within r rows (Some n) e = omega (arith, earliest_within same_row r 0 rows n (sym e))

pub overflow_add-result : goal.overflow_add-result
overflow_add-result c = omega (arith, within c.args.row c.args.rows.now c.place_in.result c.place_in.ensures)
