-- The types of names and variables, and those of arguments.
use Rattle.terms.specs.declared.row.Item.{Item}
use Rattle.theory.specs.declared.data.Slot.{Slot}
use Rattle.theory.specs.declared.data.Ty as of

-- A type has items for parameters.
abbrev pub Ty : Type 0
Ty = of.Ty Item

-- The type of an argument has slots: declared names, or places of earlier arguments.
abbrev pub Argument : Type 0
Argument = of.Ty Slot
