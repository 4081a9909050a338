-- Which rows make a book.
use Rattle.std.specs.Prelude.{ℕ, Bool, true, false, not, ◌&&◌, List, [], ◌∷◌, ◌++◌, length, is_some, is_ok, Some, None, Option, nat_lt}
use Rattle.earliest.specs.Places.{earliest}
use Rattle.refusals.specs.Tables.{decided}
use Rattle.terms.specs.Rows.{same_row, is_row, row_at}
use Rattle.terms.specs.declared.faults.BookFault.{BookFault}
use Rattle.terms.specs.declared.faults.BookFault.TheVariants.{OutOfRange, PartMissing, KeyNotItem}
use Rattle.terms.specs.declared.row.Item.{Item}
use Rattle.terms.specs.declared.row.Item.TheVariants.{Name, Variable}
use Rattle.terms.specs.declared.row.Row.{Row}
use Rattle.terms.specs.declared.row.Row.TheVariants as row

-- A name is 1 to 4,294,967,295, and a variable 0 to 23.
abbrev pub item_in_range : Item → Bool
item_in_range (Name n) = nat_lt 0 n && nat_lt n 4294967296
item_in_range (Variable v) = nat_lt v 24

abbrev pub in_range : Row → Bool
in_range (row.Item i) = item_in_range i
in_range (row.Pair a b) = true
in_range (row.Seal c k) = true
in_range (row.Lock c k) = true

-- The parts of the row, and its key, are among the first n rows.
abbrev pub parts_there : ℕ → Row → Bool
parts_there n (row.Item i) = true
parts_there n (row.Pair a b) = is_row n a && is_row n b
parts_there n (row.Seal c k) = is_row n c && is_row n k
parts_there n (row.Lock c k) = is_row n c && is_row n k

abbrev pub is_item : Option Row → Bool
is_item None = false
is_item (Some (row.Item i)) = true
is_item (Some (row.Pair a b)) = false
is_item (Some (row.Seal c k)) = false
is_item (Some (row.Lock c k)) = false

-- A seal's or lock's key is an item.
abbrev pub key_is_item : List Row → Row → Bool
key_is_item rows (row.Item i) = true
key_is_item rows (row.Pair a b) = true
key_is_item rows (row.Seal c k) = is_item (row_at rows k)
key_is_item rows (row.Lock c k) = is_item (row_at rows k)

-- Why a row may not stand after these rows, be it new or not: the first three refusals of adding it.
abbrev pub unfit : List Row → Row → List (BookFault × Bool)
unfit rows r =
    (OutOfRange, not (in_range r)) ∷ (PartMissing, not (parts_there (length rows) r)) ∷ (KeyNotItem, not (key_is_item rows r)) ∷ []

-- The row is one of these rows.
abbrev pub is_there : List Row → Row → Bool
is_there rows r = is_some (earliest same_row r rows)

-- The row may stand after these rows, and is none of them.
abbrev pub may_follow : List Row → Row → Bool
may_follow rows r = is_ok (decided (unfit rows r) (tt {0})) && not (is_there rows r)

-- Each row may follow those before it.
abbrev pub each_follows : List Row → List Row → Bool
each_follows before [] = true
each_follows before (r ∷ rows) = may_follow before r && each_follows (before ++ r ∷ []) rows

-- The rows make a book: parts are earlier rows, keys are items, items are in range, and no two rows are equal.
abbrev pub is_book : List Row → Bool
is_book rows = each_follows [] rows
