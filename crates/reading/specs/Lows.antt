-- For each row the lowest row that the owner reads as the same term.
use Rattle.std.specs.Prelude.{ℕ, List, [], ◌∷◌, ◌++◌}
use Rattle.terms.specs.Adding.{number_in}
use Rattle.terms.specs.declared.row.Row.{Row}
use Rattle.terms.specs.declared.row.Row.TheVariants as row
use Rattle.theory.specs.Owners.{item_of}
use Rattle.theory.specs.declared.owner.Owner.{Owner}
use Rattle.types.specs.Rows.{at}

-- The row as it is compared: items read, and parts replaced by the lowest rows of the same terms.
abbrev pub reduced : Owner → List ℕ → Row → Row
reduced o low (row.Item i) = row.Item (item_of o i)
reduced o low (row.Pair a b) = row.Pair (at 0 low a) (at 0 low b)
reduced o low (row.Seal c k) = row.Seal (at 0 low c) (at 0 low k)
reduced o low (row.Lock c k) = row.Lock (at 0 low c) (at 0 low k)

-- Row by row, after the rows so far as they are compared and the lowest rows found for them.
abbrev pub lowered : Owner → List Row → List ℕ → List Row → List ℕ
lowered o seen low [] = low
lowered o seen low (r ∷ rows) = lowered o (seen ++ reduced o low r ∷ []) (low ++ number_in seen (reduced o low r) ∷ []) rows

abbrev pub lows : Owner → List Row → List ℕ
lows o rows = lowered o [] [] rows
