-- Types as they are written: a family, and up to two parameters behind colons.
use Rattle.std.specs.Prelude.{ℕ, cond, [], ◌∷◌, Some, None, Option, if◌then◌else◌, ◌==◌}
use Rattle.std.specs.List.{list_any, before_first, after_first}
use Rattle.std.specs.Option.{option_map}
use Rattle.terms.specs.declared.row.Item.{Item}
use Rattle.terms.specs.declared.row.Item.TheVariants.{Name, Variable}
use Rattle.theory.specs.Data.{Argument}
use Rattle.layouts.specs.declared.layout.Params.{Params}
use Rattle.layouts.specs.declared.layout.Params.TheVariants as params
use Rattle.theory.specs.declared.data.Slot.{Slot}
use Rattle.theory.specs.declared.data.Slot.TheVariants as slot
use Rattle.theory.specs.Data.{Ty}
use Rattle.theory.specs.declared.data.Ty as of
use Rattle.script.specs.Lists.{Word, name_of, both}
use Rattle.script.specs.Numbers.{number_up_to}

-- The word before and after the first byte c, if it has one.
abbrev pub cut : ℕ → Word → Option (Word × Word)
cut c w = if list_any (λ b. b == c) w then Some (before_first (λ b. b == c) w, after_first (λ b. b == c) w) else None

-- What follows the byte c at the word's beginning.
abbrev pub after : ℕ → Word → Option Word
after c [] = None
after c (b ∷ bs) = cond (b == c) (Some bs) None

-- A parameter: `vN` (118 is 'v') is variable N, and N a name.
abbrev pub by_v : Option Word → Word → Option Item
by_v (Some rest) w = option_map Variable (number_up_to 255 rest)
by_v None w = option_map Name (name_of w)

abbrev pub item_parameter : Word → Option Item
item_parameter w = by_v (after 118 w) w

-- In an argument's type: `#N` (35 is '#') is the N-th argument, and N a name.
abbrev pub by_hash : Option Word → Word → Option Slot
by_hash (Some rest) w = option_map slot.Place (number_up_to 18446744073709551615 rest)
by_hash None w = option_map slot.Name (name_of w)

abbrev pub slot_parameter : Word → Option Slot
slot_parameter w = by_hash (after 35 w) w

-- One parameter, or two with a colon (58) between them.
abbrev pub one_or_two : {P : Type 0} → (Word → Option P) → Word → Option (Word × Word) → Option (Params P)
one_or_two reads w None = option_map params.One (reads w)
one_or_two reads w (Some p) = both params.Two (reads p.0) (reads p.1)

abbrev pub params_of : {P : Type 0} → (Word → Option P) → Word → Option (Params P)
params_of reads w = one_or_two reads w (cut 58 w)

abbrev pub item_parameters : Word → Option (Params Item)
item_parameters = params_of item_parameter

abbrev pub slot_parameters : Word → Option (Params Slot)
slot_parameters = params_of slot_parameter

-- A family (of 8 bits) alone, or with its parameters.
abbrev pub with_family : {P : Type 0} → (Word → Option (Params P)) → Word → Option (Word × Word) → Option (of.Ty P)
with_family reads w None = option_map (λ F. record { family = F; params = params.Zero }) (number_up_to 255 w)
with_family reads w (Some p) = both (λ F ps. record { family = F; params = ps }) (number_up_to 255 p.0) (reads p.1)

abbrev pub ty_of : {P : Type 0} → (Word → Option P) → Word → Option (of.Ty P)
ty_of reads w = with_family (params_of reads) w (cut 58 w)

abbrev pub type_of : Word → Option Ty
type_of = ty_of item_parameter

abbrev pub argument_of : Word → Option Argument
argument_of = ty_of slot_parameter
