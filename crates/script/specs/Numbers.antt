-- The numbers of a script: decimal digits and nothing else.
use Rattle.std.specs.Prelude.{ℕ, Bool, false, cond, ◌&&◌, List, [], ◌∷◌, Some, None, Option, nat_le}
use Rattle.std.specs.Str.{all_ascii_digits}
use Rattle.std.specs.Str.Parse.{digits_value}

-- The number that the digits write.
abbrev pub value : List ℕ → ℕ
value word = digits_value 10 word

-- One digit or more, and nothing else.
abbrev pub is_number : List ℕ → Bool
is_number [] = false
is_number (d ∷ ds) = all_ascii_digits (d ∷ ds)

-- The number that the word writes, if it writes one that is at most `most`.
abbrev pub number_up_to : ℕ → List ℕ → Option ℕ
number_up_to most word = cond (is_number word && nat_le (value word) most) (Some (value word)) None
