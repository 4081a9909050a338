-- The check of predicates.
use Rattle.std.specs.Prelude.{ℕ, Bool, false, List, [], ◌∷◌, Some, None, vec_items, Option, ◌==◌}
use Rattle.terms.specs.Numbered.{numbered}
use Rattle.types.specs.Forms.{all_suit, formed_by}
use Rattle.refusals.specs.Faults.{at_spot}
use Rattle.layouts.specs.Meanings.{Meaning}
use Rattle.types.specs.Scopes.{type_in}
use Rattle.types.specs.Types.{has_family}
use Rattle.refusals.specs.Walks.{Answer, pass, demand, and_then, walk}
use Rattle.theory.specs.declared.data.Declared.{Declared}
use Rattle.theory.specs.declared.data.Slot.{Slot}
use Rattle.theory.specs.Data.{Argument}
use Rattle.theory.specs.declared.data.Predicate.{Predicate}
use Rattle.types.specs.declared.faults.Ill.{Ill}
use Rattle.types.specs.declared.faults.Ill.TheVariants.{Unformed, NoPrincipal}
use Rattle.types.specs.Faults.{TypeFault}
use Rattle.theory.specs.declared.data.Slot.TheVariants as slot

abbrev pub argument_is : Option Argument → ℕ → Bool
argument_is None F = false
argument_is (Some A) F = A.family == F

-- a declared name, or an earlier argument, of the family
abbrev pub slot_suited : List Declared → List Argument → Slot → ℕ → Bool
slot_suited ds earlier (slot.Name n) F = has_family (type_in ds n) F
slot_suited ds earlier (slot.Place p) F = argument_is (numbered earlier p) F

abbrev pub slots_suited : List Declared → List Argument → List Slot → List ℕ → Bool
slots_suited ds earlier ps Fs = all_suit (slot_suited ds earlier) ps Fs

abbrev pub argument_formed : Meaning → List Declared → List Argument → Argument → Bool
argument_formed lay ds earlier A = formed_by (slot_suited ds earlier) lay A

abbrev pub argument_check : Meaning → List Declared → List Argument → Argument → Answer Ill
argument_check lay ds earlier A = demand (argument_formed lay ds earlier A) Unformed pass

abbrev pub same_place : ℕ → Ill → Ill
same_place n f = f

abbrev pub arguments_formed : Meaning → List Declared → List Argument → Answer Ill
arguments_formed lay ds As = walk (argument_check lay ds) same_place [] As

abbrev pub first_principal : List Argument → Bool
first_principal [] = false
first_principal (A ∷ As) = A.family == 1

abbrev pub predicate_check : Meaning → List Declared → List Argument → Answer Ill
predicate_check lay ds As = and_then (λ f. f) (arguments_formed lay ds As) (demand (first_principal As) NoPrincipal pass)

abbrev pub listed_check : Meaning → List Declared → List Predicate → Predicate → Answer Ill
listed_check lay ds seen P = predicate_check lay ds (vec_items P.arguments)

abbrev pub predicates_check : Meaning → List Declared → ℕ → ℕ → List Predicate → Answer TypeFault
predicates_check lay ds role base Ps = walk (listed_check lay ds) (at_spot role 0 base) [] Ps
