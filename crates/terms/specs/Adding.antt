-- Adding a row to a theory's book: its refusals in order, its answer, and the rows afterwards.
use Rattle.std.specs.Prelude.{◌≡◌, ℕ, ◌+◌, ◌≤◌, Bool, cond, not, ◌&&◌, ◌⊎◌, List, [], ◌∷◌, ◌++◌, length, Ok, Err, Result, nat_le}
use Rattle.std.specs.Option.{unwrap_or}
use Rattle.earliest.specs.Places.{earliest}
use Rattle.refusals.specs.Tables.{decided}
use Rattle.terms.specs.Rows.{same_row}
use Rattle.terms.specs.Books.{unfit, is_there}
use Rattle.terms.specs.declared.faults.BookFault.{BookFault}
use Rattle.terms.specs.declared.faults.BookFault.TheVariants.{Full, NoMemory}
use Rattle.terms.specs.declared.row.Row.{Row}

-- The refusals of adding the row: those of a row that may not stand there, then a new row for which the book has no room.
abbrev pub refusals : List Row → Row → List (BookFault × Bool)
refusals rows r = unfit rows r ++ ((Full, not (is_there rows r) && nat_le 512 (length rows)) ∷ [])

-- The number of the row: its own where it is there, and else the next.
abbrev pub number_in : List Row → Row → ℕ
number_in rows r = unwrap_or (earliest same_row r rows) (length rows) + 1

abbrev pub add_answer : List Row → Row → Result ℕ BookFault
add_answer rows r = decided (refusals rows r) (number_in rows r)

-- The rows afterwards: one more where the row was accepted and new.
abbrev pub add_rows : List Row → Row → Result ℕ BookFault → List Row
add_rows rows r (Ok n) = cond (is_there rows r) rows (rows ++ r ∷ [])
add_rows rows r (Err f) = rows

-- Memory was wanting: the row would have been accepted as the next, and the rows fill the memory that they have.
pub record Wanting (rows : List Row) (capacity : ℕ) (r : Row) : Type 0 where
  pub accepted : add_answer rows r ≡ Ok (length rows + 1)
  pub used_up : capacity ≤ length rows

-- What adding the row r to a book of these rows answers and leaves.
abbrev pub Added : List Row → ℕ → Row → List Row → Result ℕ BookFault → Type 0
Added rows capacity r after answer =
    ((answer ≡ add_answer rows r) × (after ≡ add_rows rows r answer))
    ⊎ ((answer ≡ Err NoMemory) × (after ≡ rows) × Wanting rows capacity r)
