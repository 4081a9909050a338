-- What a layout of types means.
use Rattle.std.specs.Prelude.{ℕ, Bool, List, [], ◌∷◌}
use Rattle.layouts.specs.declared.layout.Kind.{Kind}
use Rattle.layouts.specs.declared.layout.Params.{Params}
use Rattle.layouts.specs.declared.layout.Params.TheVariants.{Zero, One, Two}

-- Families of types are told by their numbers, and items by their codes.
pub record Meaning : Type 0 where
  -- how many families there are
  pub families : ℕ
  -- the families of a type's parameters
  pub params : ℕ → List ℕ
  -- whether the items may be sent, being of type msg too
  pub sendable : ℕ → Bool
  -- what the items do as keys
  pub kind : ℕ → Kind
  -- whether rules can make fresh names of the family
  pub makeable : ℕ → Bool
  -- whether an owner is granted the items of a family: the owner's code, the family, the codes of the two parameters, and that of the first one's own parameter
  pub grants : ℕ → ℕ → ℕ → ℕ → ℕ → Bool

-- The parameters as a list.
abbrev pub listed : {P : Type 0} → Params P → List P
listed Zero = []
listed (One p) = p ∷ []
listed (Two p q) = p ∷ q ∷ []
