-- Lists of words, each of which says something.
use Rattle.std.specs.Prelude.{ℕ, List, [], ◌∷◌, Some, Option}
use Rattle.std.specs.Option.{option_map, option_zip}
use Rattle.script.specs.Numbers.{number_up_to}

-- A word of a line, as its bytes.
abbrev pub Word : Type 0
Word = List ℕ

-- A name's number has 32 bits, and a row's 64.
abbrev pub name_of : Word → Option ℕ
name_of w = number_up_to 4294967295 w

abbrev pub row_number_of : Word → Option ℕ
row_number_of w = number_up_to 18446744073709551615 w

-- What two words say together, if each says something.
abbrev pub both : {A B C : Type 0} → (A → B → C) → Option A → Option B → Option C
both f x y = option_map (λ p. f p.0 p.1) (option_zip x y)

-- What the words say, if each says something.
abbrev pub all_of : {X : Type 0} → (Word → Option X) → List Word → Option (List X)
all_of reads [] = Some []
all_of reads (w ∷ ws) = both (λ x xs. x ∷ xs) (reads w) (all_of reads ws)
