-- The commands of a script, read off the words of a line.
use Rattle.std.specs.Prelude.{ℕ, cond, List, [], ◌∷◌, Some, None, codes, Option}
use Rattle.std.specs.Option.{option_map, option_and_then, option_zip}
use Rattle.std.specs.Str.{bytes_eq}
use Rattle.layouts.specs.declared.any.AnyLayout.{AnyLayout}
use Rattle.layouts.specs.declared.any.AnyLayout.TheVariants as any
use Rattle.terms.specs.declared.row.Item.TheVariants.{Name, Variable}
use Rattle.terms.specs.declared.row.Row.{Row}
use Rattle.terms.specs.declared.row.Row.TheVariants as row
use Rattle.theory.specs.declared.data.Declared.{Declared}
use Rattle.script.specs.Types.{type_of, argument_of}
use Rattle.script.specs.Facts.{fact_of}
use Rattle.script.specs.Lists.{Word, name_of, row_number_of, both, all_of}
use Rattle.script.specs.Numbers.{number_up_to}
use Rattle.script.specs.Said as said
use Rattle.script.specs.Said.{Said}

-- `name N` and `variable N`: a name's number has 32 bits, a variable's 8.
abbrev pub item_of : Word → Word → Option Row
item_of kind n =
    cond (bytes_eq kind (codes "name")) (option_map (λ k. row.Item (Name k)) (number_up_to 4294967295 n))
    (cond (bytes_eq kind (codes "variable")) (option_map (λ k. row.Item (Variable k)) (number_up_to 255 n)) None)

-- A row of the numbers of two rows, by its kind.
abbrev pub compound_by : Word → ℕ → ℕ → Option Row
compound_by kind a b =
    cond (bytes_eq kind (codes "pair")) (Some (row.Pair a b))
    (cond (bytes_eq kind (codes "seal")) (Some (row.Seal a b))
    (cond (bytes_eq kind (codes "lock")) (Some (row.Lock a b)) None))

-- `pair A B`, `seal A B` and `lock A B`: the content first, then the key; the numbers have 64 bits.
abbrev pub compound_of : Word → Word → Word → Option Row
compound_of kind first second = option_and_then (λ p. compound_by kind p.0 p.1) (option_zip (row_number_of first) (row_number_of second))

-- What follows `row`.
abbrev pub row_of : List Word → Option Row
row_of [] = None
row_of (kind ∷ []) = None
row_of (kind ∷ n ∷ []) = item_of kind n
row_of (kind ∷ first ∷ second ∷ []) = compound_of kind first second
row_of (kind ∷ first ∷ second ∷ w ∷ ws) = None

-- A layout by its word.
abbrev pub layout_of : Word → Option AnyLayout
layout_of w =
    cond (bytes_eq w (codes "report")) (Some any.Report)
    (cond (bytes_eq w (codes "keyserver")) (Some any.KeyServer) None)

-- A command of one word.
abbrev pub alone_of : Word → Option Said
alone_of head =
    cond (bytes_eq head (codes "new")) (Some said.new)
    (cond (bytes_eq head (codes "roll")) (Some said.roll)
    (cond (bytes_eq head (codes "withholding")) (Some said.withholding)
    (cond (bytes_eq head (codes "check")) (Some said.check)
    (cond (bytes_eq head (codes "rule")) (Some (said.part said.rule)) None))))

-- A role is anchored to a name or, with `*`, to nothing.
abbrev pub anchored_of : Word → Option (Option ℕ)
anchored_of w = option_map Some (number_up_to 4294967295 w)

abbrev pub anchor_of : Word → Option (Option ℕ)
anchor_of w = cond (bytes_eq w (codes "*")) (Some None) (anchored_of w)

-- A command of two words.
abbrev pub one_of : Word → Word → Option Said
one_of head w =
    cond (bytes_eq head (codes "layout")) (option_map said.layout (layout_of w))
    (cond (bytes_eq head (codes "counter")) (option_map said.counter (number_up_to 4294967295 w))
    (cond (bytes_eq head (codes "role")) (option_map said.role (anchor_of w))
    (cond (bytes_eq head (codes "forall")) (option_map (λ t. said.part (said.of_rule (said.universal t))) (type_of w))
    (cond (bytes_eq head (codes "make")) (option_map (λ t. said.part (said.of_rule (said.made t))) (type_of w)) None))))

-- A name's number, of 32 bits, and its type.
abbrev pub name_with : Word → Word → Option Declared
name_with n w = both (λ k t. record { name = k; of = t }) (number_up_to 4294967295 n) (type_of w)

abbrev pub declared_of : List Word → Option Declared
declared_of [] = None
declared_of (n ∷ []) = None
declared_of (n ∷ w ∷ []) = name_with n w
declared_of (n ∷ w ∷ v ∷ ws) = None

-- A command of three words or more.
abbrev pub more_of : Word → List Word → Option Said
more_of head rest =
    cond (bytes_eq head (codes "row")) (option_map said.row (row_of rest))
    (cond (bytes_eq head (codes "name")) (option_map said.name (declared_of rest)) None)

-- A command that holds no list.
abbrev pub plain_of : List Word → Option Said
plain_of [] = None
plain_of (head ∷ []) = alone_of head
plain_of (head ∷ w ∷ []) = one_of head w
plain_of (head ∷ w ∷ v ∷ ws) = more_of head (w ∷ v ∷ ws)

-- The command that begins with the word: it holds a list or states a fact, or holds no list.
abbrev pub headed_of : Word → List Word → Option Said
headed_of head rest =
    cond (bytes_eq head (codes "load")) (option_map said.load (all_of name_of rest))
    (cond (bytes_eq head (codes "withhold")) (option_map said.withhold (all_of name_of rest))
    (cond (bytes_eq head (codes "memory")) (option_map said.memory (all_of argument_of rest))
    (cond (bytes_eq head (codes "local")) (option_map said.local (all_of argument_of rest))
    (cond (bytes_eq head (codes "left")) (option_map said.left (fact_of rest))
    (cond (bytes_eq head (codes "right")) (option_map said.right (fact_of rest))
    (cond (bytes_eq head (codes "fact")) (option_map said.initial (fact_of rest)) (plain_of (head ∷ rest))))))))

abbrev pub command_of : List Word → Option Said
command_of [] = None
command_of (head ∷ rest) = headed_of head rest
