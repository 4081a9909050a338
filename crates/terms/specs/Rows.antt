-- Rows: when two are equal, and which row has a number.
use Rattle.std.specs.Prelude.{ℕ, ◌-◌, Bool, false, cond, ◌&&◌, List, Some, None, Option, ◌==◌, nat_le, nat_lt}
use Rattle.std.specs.List.{slice_get}
use Rattle.terms.specs.declared.row.Item.{Item}
use Rattle.terms.specs.declared.row.Item.TheVariants.{Name, Variable}
use Rattle.terms.specs.declared.row.Row.{Row}
use Rattle.terms.specs.declared.row.Row.TheVariants as row

abbrev pub same_item : Item → Item → Bool
same_item (Name m) (Name n) = m == n
same_item (Name m) (Variable w) = false
same_item (Variable v) (Name n) = false
same_item (Variable v) (Variable w) = v == w

-- Rows are equal if they are of one kind and have equal parts.
abbrev pub same_row : Row → Row → Bool
same_row (row.Item i) (row.Item j) = same_item i j
same_row (row.Item i) (row.Pair c d) = false
same_row (row.Item i) (row.Seal c d) = false
same_row (row.Item i) (row.Lock c d) = false
same_row (row.Pair a b) (row.Item j) = false
same_row (row.Pair a b) (row.Pair c d) = a == c && b == d
same_row (row.Pair a b) (row.Seal c d) = false
same_row (row.Pair a b) (row.Lock c d) = false
same_row (row.Seal a b) (row.Item j) = false
same_row (row.Seal a b) (row.Pair c d) = false
same_row (row.Seal a b) (row.Seal c d) = a == c && b == d
same_row (row.Seal a b) (row.Lock c d) = false
same_row (row.Lock a b) (row.Item j) = false
same_row (row.Lock a b) (row.Pair c d) = false
same_row (row.Lock a b) (row.Seal c d) = false
same_row (row.Lock a b) (row.Lock c d) = a == c && b == d

-- The item that the row is.
abbrev pub row_item : Row → Option Item
row_item (row.Item i) = Some i
row_item (row.Pair a b) = None
row_item (row.Seal c k) = None
row_item (row.Lock c k) = None

-- k is the number of one of n rows: rows are counted from 1.
abbrev pub is_row : ℕ → ℕ → Bool
is_row n k = nat_lt 0 k && nat_le k n

-- The row with the number k, or nothing at 0 and past the last.
abbrev pub row_at : List Row → ℕ → Option Row
row_at rows k = cond (k == 0) None (slice_get rows (k - 1))
