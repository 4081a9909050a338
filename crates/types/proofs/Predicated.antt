-- The check of a predicate decides whether it is well formed.
use Rattle.std.proofs.Common.{◌≡◌, ℕ, zero, suc, ◌-◌, false, eqb, List, [], ◌∷◌, ◌++◌, map, vec_items, refl, subst, ⊎_elim}
use Rattle.std.specs.List.{slice_get}
use Rattle.std.proofs.lemmas.Bool.{cases_Bool}
use Rattle.std.proofs.lemmas.List.{map_push}
use Rattle.judgments.specs.Contexts.{At, here, there}
use Rattle.layouts.specs.Meanings.{Meaning}
use Rattle.judgments.specs.Typing.{Formed}
use Rattle.judgments.specs.Predicates.{SlotSuits, SlotsSuit, ArgumentFormed, ArgumentsFormed, FirstPrincipal, PredicateFormed}
use Rattle.types.specs.Names.{names_only}
use Rattle.types.specs.Judged.{slot_of, slot_list, argument_of}
use Rattle.types.specs.Predicates.{argument_is, slot_suited, slots_suited, argument_formed, argument_check, same_place, arguments_formed, first_principal, predicate_check, listed_check, predicates_check}
use Rattle.refusals.specs.Faults.{at_spot}
use Rattle.types.specs.Typed.{takes, signature, AllFormed}
use Rattle.refusals.specs.Decides.{Decides, Passes}
use Rattle.refusals.proofs.Deciding.{decides_and, decides_lt, decides_same, decides_as, decides_never, decides_always, demand_passes, passes_always, passes_as, then_passes, Each, walk_each, walk_members}
use Rattle.types.proofs.Signatures.{suited_decides}
use Rattle.types.proofs.Rowed.{never_zero}
use Rattle.terms.specs.declared.row.Item.TheVariants.{Name}
use Rattle.theory.specs.declared.data.Declared.{Declared}
use Rattle.theory.specs.declared.data.Slot.{Slot}
use Rattle.theory.specs.Data.{Argument}
use Rattle.theory.specs.declared.data.Predicate.{Predicate}
use Rattle.types.specs.declared.faults.Ill.TheVariants.{Unformed, NoPrincipal}
use Rattle.judgments.specs.Rules as rules
use Rattle.theory.specs.declared.data.Slot.TheVariants as slot

-- an earlier argument of the family
earlier_decides : (As : List Argument) (k F : ℕ) → Decides (argument_is (slice_get As k) F) ((ps : List rules.Place) × At (map argument_of As) k (rules.of_type F ps))
earlier_decides [] k F = decides_never (λ h. none h.1)
  where
    none : {k F : ℕ} {ps : List rules.Place} → At [] k (rules.of_type F ps) → ⊥
    none m = elim m [ ]
earlier_decides (A ∷ As) zero F = decides_as
    (λ e. (map slot_of (slot_list A.params), subst (λ G. At (map argument_of (A ∷ As)) zero (rules.of_type G (map slot_of (slot_list A.params)))) e here))
    (λ h. first h.1)
    (decides_same A.family F)
  where
    only : {X : Type 0} {x y : X} {xs : List X} → At (x ∷ xs) zero y → x ≡ y
    only here = refl

    first : {ps : List rules.Place} → At (map argument_of (A ∷ As)) zero (rules.of_type F ps) → A.family ≡ F
    first m = cc (only m)
earlier_decides (A ∷ As) (suc k) F = decides_as (λ h. (h.0, there h.1)) (λ h. (h.0, next h.1)) (earlier_decides As k F)
  where
    next : {X : Type 0} {x y : X} {xs : List X} {k : ℕ} → At (x ∷ xs) (suc k) y → At xs k y
    next (there m) = m

module _ (lay : Meaning) (ds : List Declared) (formed : Formed lay (signature ds)) where
  slot_decides : (earlier : List Argument) (p : Slot) (F : ℕ) → Decides (slot_suited ds earlier p F) (SlotSuits (signature ds) (map argument_of earlier) (slot_of p) F)
  slot_decides earlier (slot.Name n) F = suited_decides lay (names_only ds) formed (Name n) F
  slot_decides earlier (slot.Place p) F = ⊎_elim
      (λ t.
      let is : slot_of (slot.Place p) ≡ rules.named 0 = rw t refl in
      let off : slot_suited ds earlier (slot.Place p) F ≡ false = rw t refl in
      rw (is, off) (decides_never (λ h. never_zero lay (names_only ds) formed _ h.1)))
      (λ f.
      let is : slot_of (slot.Place p) ≡ rules.place (p - 1) = rw f refl in
      let on : slot_suited ds earlier (slot.Place p) F ≡ argument_is (slice_get earlier (p - 1)) F = rw f refl in
      rw (is, on) (earlier_decides earlier (p - 1) F))
      (cases_Bool (eqb p 0))

  slots_decide : (earlier : List Argument) (ps : List Slot) (Fs : List ℕ) → Decides (slots_suited ds earlier ps Fs) (SlotsSuit (signature ds) (map argument_of earlier) (map slot_of ps) Fs)
  slots_decide earlier [] [] = decides_always tt
  slots_decide earlier [] (F ∷ Fs) = decides_never (λ h. h)
  slots_decide earlier (p ∷ ps) [] = decides_never (λ h. h)
  slots_decide earlier (p ∷ ps) (F ∷ Fs) = decides_and (slot_decides earlier p F) (slots_decide earlier ps Fs)

  argument_formed_decides : (earlier : List Argument) (A : Argument) → Decides (argument_formed lay ds earlier A) (ArgumentFormed lay (signature ds) (map argument_of earlier) (argument_of A))
  argument_formed_decides earlier A = decides_and (decides_lt A.family lay.families) (slots_decide earlier (slot_list A.params) (lay.params A.family))

  abbrev K : List Argument → Argument → Type 0
  K earlier A = ArgumentFormed lay (signature ds) (map argument_of earlier) (argument_of A)

  pub argument_each : (earlier : List Argument) (A : Argument) → Passes (argument_check lay ds earlier A) (K earlier A)
  argument_each earlier A = passes_as (λ h. h.0) (λ h. (h, tt {0})) (demand_passes Unformed (argument_formed_decides earlier A) (λ _. passes_always (tt {0})))

  abbrev E : List Argument → List Argument → Type 0
  E = Each (argument_check lay ds) same_place K argument_each

  pub each_formed : (As earlier : List Argument) → E earlier As → ArgumentsFormed lay (signature ds) (map argument_of earlier) (map argument_of As)
  each_formed [] earlier h = tt
  each_formed (A ∷ As) earlier h = (h.0, rw (map_push argument_of earlier A) at (each_formed As (earlier ++ A ∷ []) h.1))

  pub formed_each : (As earlier : List Argument) → ArgumentsFormed lay (signature ds) (map argument_of earlier) (map argument_of As) → E earlier As
  formed_each [] earlier h = tt
  formed_each (A ∷ As) earlier h = (h.0, formed_each As (earlier ++ A ∷ []) (rw (map_push argument_of earlier A) h.1))

  pub first_decides : (As : List Argument) → Decides (first_principal As) (FirstPrincipal (map argument_of As))
  first_decides [] = decides_never (λ h. h)
  first_decides (A ∷ As) = decides_same A.family 1

  pub predicate_passes : (As : List Argument) → Passes (predicate_check lay ds As) (PredicateFormed lay (signature ds) (map argument_of As))
  predicate_passes As =
      passes_as
      (λ h. (each_formed As [] h.0, h.1.0))
      (λ h. (formed_each As [] h.0, (h.1, tt {0})))
      (then_passes (λ f. f) (arguments_formed lay ds As) _ (walk_each (argument_check lay ds) same_place K argument_each As [])
      (λ _. demand_passes NoPrincipal (first_decides As) (λ _. passes_always (tt {0}))))

  pub predicates_pass : (role base : ℕ) (Ps : List Predicate) → Passes (predicates_check lay ds role base Ps) (AllFormed lay ds Ps)
  predicates_pass role base Ps =
      walk_members (listed_check lay ds) (at_spot role 0 base) (λ P. PredicateFormed lay (signature ds) (takes P)) (λ seen P. predicate_passes (vec_items P.arguments)) Ps []

  pub arguments_pass : (As : List Argument) → Passes (arguments_formed lay ds As) (ArgumentsFormed lay (signature ds) [] (map argument_of As))
  arguments_pass As = passes_as (each_formed As []) (formed_each As []) (walk_each (argument_check lay ds) same_place K argument_each As [])
