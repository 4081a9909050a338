-- What a book holds.
use Rattle.std.specs.Prelude.{ℕ, List, vec_items, vec_capacity}
use Rattle.terms.specs.declared.book.Book.{Book}
use Rattle.terms.specs.declared.row.Row.{Row}

-- The rows of the book, in order.
abbrev pub rows_of : Book → List Row
rows_of b = vec_items b.rows

-- The rows for which the book has memory.
abbrev pub capacity_of : Book → ℕ
capacity_of b = vec_capacity b.rows
