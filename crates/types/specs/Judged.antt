-- What the tables stand for in the judgments.
use Rattle.std.specs.Prelude.{ℕ, ◌+◌, ◌-◌, cond, List, [], ◌∷◌, map, ◌==◌}
use Rattle.judgments.specs.Contexts.{◌∶◌, Context}
use Rattle.layouts.specs.Meanings.{listed}
use Rattle.judgments.specs.Rules.{Place, named, place}
use Rattle.theory.specs.Owners.{item_of}
use Rattle.types.specs.Scopes.{Declarations}
use Rattle.types.specs.Types.{items}
use Rattle.terms.specs.declared.row.Item.TheVariants.{Name, Variable}
use Rattle.theory.specs.Data.{Ty}
use Rattle.theory.specs.declared.data.Declared.{Declared}
use Rattle.theory.specs.declared.data.Slot.{Slot}
use Rattle.layouts.specs.declared.layout.Params.{Params}
use Rattle.theory.specs.Data.{Argument}
use Rattle.theory.specs.declared.owner.Owner.{Owner}
use Rattle.theory.specs.declared.owner.Owner.TheVariants.{Nobody, Generic, Anchored}
use Rattle.judgments.specs.Contexts as judge
use Rattle.judgments.specs.Rules as rules
use Rattle.theory.specs.declared.data.Slot.TheVariants as slot

abbrev pub type_of : Owner → Ty → judge.Ty
type_of o T = judge.ty T.family (map (item_of o) (items T.params))

-- The elements of a list, declared one after the other from place n on; the last stands first.
abbrev pub declare : {X : Type 0} → (ℕ → X → judge.Decl) → ℕ → List X → Context → Context
declare f n [] Γ = Γ
declare f n (x ∷ xs) Γ = declare f (n + 1) xs (f n x ∷ Γ)

abbrev pub name_decl : Owner → ℕ → Declared → judge.Decl
name_decl o n d = Name d.name ∶ type_of o d.of

abbrev pub variable_decl : Owner → ℕ → Ty → judge.Decl
variable_decl o v T = Variable v ∶ type_of o T

abbrev pub with_owner : Owner → Context → Context
with_owner Nobody Γ = Γ
with_owner Generic Γ = Variable 0 ∶ judge.principal ∷ Γ
with_owner (Anchored a) Γ = Γ

-- the names, the owner and the variables, from 1
abbrev pub context_of : Declarations → Context
context_of s = declare (variable_decl s.owner) 1 s.variables (with_owner s.owner (declare (name_decl s.owner) 1 s.names []))

abbrev pub slot_of : Slot → Place
slot_of (slot.Name n) = named n
slot_of (slot.Place p) = cond (p == 0) (named 0) (place (p - 1))

abbrev pub slot_list : Params Slot → List Slot
slot_list ps = listed ps

abbrev pub argument_of : Argument → rules.Argument
argument_of A = rules.of_type A.family (map slot_of (slot_list A.params))
