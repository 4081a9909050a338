-- Types by their parameters, whatever these are: items, or slots.
use Rattle.std.specs.Prelude.{◌≡◌, ℕ, Bool, true, false, ◌&&◌, List, [], ◌∷◌, nat_lt}
use Rattle.layouts.specs.Meanings.{Meaning, listed}
use Rattle.layouts.specs.declared.layout.Params.{Params}
use Rattle.layouts.specs.declared.layout.Params.TheVariants.{Zero, One, Two}
use Rattle.theory.specs.Data.{Ty}
use Rattle.theory.specs.Owners.{item_of}
use Rattle.theory.specs.declared.owner.Owner.{Owner}
use Rattle.theory.specs.declared.data.Ty as of

-- the parameters are as many as the families, and each suits its family
abbrev pub all_suit : {P : Type 0} → (P → ℕ → Bool) → List P → List ℕ → Bool
all_suit suits [] [] = true
all_suit suits [] (F ∷ Fs) = false
all_suit suits (p ∷ ps) [] = false
all_suit suits (p ∷ ps) (F ∷ Fs) = suits p F && all_suit suits ps Fs

-- the layout has the family, and the parameters suit
abbrev pub formed_by : {P : Type 0} → (P → ℕ → Bool) → Meaning → of.Ty P → Bool
formed_by suits lay T = nat_lt T.family lay.families && all_suit suits (listed T.params) (lay.params T.family)

-- The answer is that by the test that the calls make.
abbrev pub FormedBy : {P : Type 0} → (P → ℕ → Bool → Type 0) → Meaning → of.Ty P → Bool → Type 0
FormedBy call lay T r = (suits : _) → ((p : _) (F : _) (b : _) → call p F b → b ≡ suits p F) → r ≡ formed_by suits lay T

-- the parameters, each made another
abbrev pub mapped : {P Q : Type 0} → (P → Q) → Params P → Params Q
mapped f Zero = Zero
mapped f (One p) = One (f p)
mapped f (Two p q) = Two (f p) (f q)

-- The type's parameters are those that the calls give.
abbrev pub Mapped : {P Q : Type 0} → (P → Q → Type 0) → of.Ty P → of.Ty Q → Type 0
Mapped call T U = (f : _) → ((p : _) (q : _) → call p q → q ≡ f p) → U ≡ record { family = T.family; params = mapped f T.params }

-- the type as a role reads it
abbrev pub read_type : Owner → Ty → Ty
read_type o T = record { family = T.family; params = mapped (item_of o) T.params }
