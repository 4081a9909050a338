-- The codes by which items are told to a layout.
use Rattle.std.specs.Prelude.{◌≡◌, ℕ, ◌+◌, Bool, true, Some, None, Option}
use Rattle.terms.specs.Books.{item_in_range}
use Rattle.terms.specs.declared.row.Item.{Item}
use Rattle.terms.specs.declared.row.Item.TheVariants.{Name, Variable}

-- A name's code is its number, variable v has 4,294,967,296 + v.
abbrev pub item_code : Item → ℕ
item_code (Name n) = n
item_code (Variable v) = 4294967296 + v

-- An absent item has the code 0.
abbrev pub code_of : Option Item → ℕ
code_of None = 0
code_of (Some i) = item_code i

abbrev pub code_in_range : Option Item → Bool
code_in_range None = true
code_in_range (Some i) = item_in_range i

-- No other item, and not its absence, has the code of this one, all being in range.
abbrev pub Apart : Option Item → Type 0
Apart i = (j : Option Item) → code_in_range i ≡ true → code_in_range j ≡ true → code_of i ≡ code_of j → i ≡ j
