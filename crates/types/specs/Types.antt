-- Which types are well formed.
use Rattle.std.specs.Prelude.{ℕ, Bool, false, List, Some, None, Option, ◌==◌}
use Rattle.layouts.specs.Meanings.{Meaning, listed}
use Rattle.types.specs.Forms.{all_suit, formed_by}
use Rattle.types.specs.Scopes.{Declarations, scope_type}
use Rattle.terms.specs.declared.row.Item.{Item}
use Rattle.layouts.specs.declared.layout.Params.{Params}
use Rattle.theory.specs.Data.{Ty}

abbrev pub has_family : Option Ty → ℕ → Bool
has_family None F = false
has_family (Some T) F = T.family == F

abbrev pub suited : Declarations → Item → ℕ → Bool
suited s i F = has_family (scope_type s i) F

abbrev pub items : Params Item → List Item
items ps = listed ps

-- the parameters are declared, each with the family told
abbrev pub all_suited : Declarations → List Item → List ℕ → Bool
all_suited s ps Fs = all_suit (suited s) ps Fs

abbrev pub type_formed : Meaning → Declarations → Ty → Bool
type_formed lay s T = formed_by (suited s) lay T
