-- Facts as they are written: a predicate, and the rows of its arguments.
use Rattle.std.specs.Prelude.{ℕ, cond, List, [], ◌∷◌, Some, None, vec_items, codes, Option}
use Rattle.std.specs.Option.{option_map}
use Rattle.std.specs.Str.{bytes_eq}
use Rattle.theory.specs.declared.data.Fact.{Fact}
use Rattle.theory.specs.declared.data.Symbol.{Symbol}
use Rattle.theory.specs.declared.data.Symbol.TheVariants as symbol
use Rattle.script.specs.Lists.{Word, row_number_of, both, all_of}
use Rattle.script.specs.Types.{after}

-- A fact, apart from the memory that holds its rows.
pub record SaidFact : Type 0 where
  pub symbol : Symbol
  pub rows : List ℕ

abbrev pub said_fact : Fact → SaidFact
said_fact f = record { symbol = f.symbol; rows = vec_items f.rows }

-- `Lk` (76 is 'L') is the k-th predicate of the role.
abbrev pub by_number : Option Word → Option Symbol
by_number None = None
by_number (Some rest) = option_map symbol.Role (row_number_of rest)

abbrev pub local_of : Word → Option Symbol
local_of w = by_number (after 76 w)

-- `Mk` (77 is 'M') is the k-th memory predicate.
abbrev pub by_letter : Option Word → Word → Option Symbol
by_letter (Some rest) w = option_map symbol.Memory (row_number_of rest)
by_letter None w = local_of w

abbrev pub numbered_of : Word → Option Symbol
numbered_of w = by_letter (after 77 w) w

-- `N` is the network.
abbrev pub symbol_of : Word → Option Symbol
symbol_of w = cond (bytes_eq w (codes "N")) (Some symbol.Network) (numbered_of w)

abbrev pub fact_of : List Word → Option SaidFact
fact_of [] = None
fact_of (w ∷ ws) = both (λ s rows. record { symbol = s; rows = rows }) (symbol_of w) (all_of row_number_of ws)
