-- What is declared at a point of a theory: the items with their types.
use Rattle.std.specs.Prelude.{ℕ, ◌-◌, cond, List, ◌++◌, Some, None, Option, ◌==◌}
use Rattle.std.specs.List.{find, slice_get}
use Rattle.std.specs.Option.{option_map}
use Rattle.terms.specs.declared.row.Item.{Item}
use Rattle.terms.specs.declared.row.Item.TheVariants.{Name, Variable}
use Rattle.layouts.specs.declared.layout.Params.TheVariants.{Zero}
use Rattle.theory.specs.Data.{Ty}
use Rattle.theory.specs.declared.data.Declared.{Declared}
use Rattle.theory.specs.declared.owner.Owner.{Owner}
use Rattle.theory.specs.declared.owner.Owner.TheVariants.{Nobody, Generic, Anchored}
use Rattle.types.specs.declared.scope.Scope.{Scope}

pub record Declarations : Type 0 where
  pub names : List Declared
  pub owner : Owner
  pub variables : List Ty

abbrev pub scope_of : Scope → Declarations
scope_of s = record { names = s.names.now; owner = s.owner; variables = s.universal.now ++ s.made.now }

abbrev pub type_in : List Declared → ℕ → Option Ty
type_in ds n = option_map (λ (d : Declared). d.of) (find (λ (d : Declared). d.name == n) ds)

abbrev pub a_principal : Ty
a_principal = record { family = 1; params = Zero }

abbrev pub owner_type : List Declared → Owner → Option Ty
owner_type ds Nobody = None
owner_type ds Generic = Some a_principal
owner_type ds (Anchored n) = type_in ds n

abbrev pub scope_type : Declarations → Item → Option Ty
scope_type s (Name n) = type_in s.names n
scope_type s (Variable v) = cond (v == 0) (owner_type s.names s.owner) (slice_get s.variables (v - 1))
