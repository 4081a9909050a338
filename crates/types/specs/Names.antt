-- The check of the signature.
use Rattle.std.specs.Prelude.{ℕ, Bool, not, ◌&&◌, List, [], is_some, nat_lt}
use Rattle.layouts.specs.Meanings.{Meaning}
use Rattle.types.specs.Scopes.{Declarations, type_in}
use Rattle.types.specs.Types.{type_formed}
use Rattle.refusals.specs.Walks.{Answer, pass, demand, walk}
use Rattle.theory.specs.declared.data.Declared.{Declared}
use Rattle.theory.specs.declared.owner.Owner.TheVariants.{Nobody}
use Rattle.types.specs.declared.faults.Ill.{Ill}
use Rattle.types.specs.declared.faults.Ill.TheVariants.{Taken, Unformed}
use Rattle.types.specs.Faults.{TypeFault}

abbrev pub names_only : List Declared → Declarations
names_only ds = record { names = ds; owner = Nobody; variables = [] }

-- a name is 1 to 4,294,967,295
abbrev pub in_range : ℕ → Bool
in_range n = nat_lt 0 n && nat_lt n (4294967296)

abbrev pub free : List Declared → ℕ → Bool
free seen n = in_range n && not (is_some (type_in seen n))

abbrev pub name_check : Meaning → List Declared → Declared → Answer Ill
name_check lay seen d = demand (free seen d.name) Taken (demand (type_formed lay (names_only seen) d.of) Unformed pass)

abbrev pub at_name : ℕ → Ill → TypeFault
at_name n f = record { role = 0; rule = 0; spot = n; why = f }

abbrev pub names_check : Meaning → List Declared → Answer TypeFault
names_check lay ds = walk (name_check lay) at_name [] ds
