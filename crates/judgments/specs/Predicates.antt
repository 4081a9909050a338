-- Which predicates are well formed.
use Rattle.std.specs.Prelude.{◌≡◌, ℕ, ◌<◌, List, [], ◌∷◌, ◌++◌}
use Rattle.layouts.specs.Meanings.{Meaning}
use Rattle.terms.specs.declared.row.Item.{Item}
use Rattle.terms.specs.declared.row.Item.TheVariants.{Name}
use Rattle.judgments.specs.Contexts.{ty, ◌∶◌, Context, ◌∈◌, At}
use Rattle.judgments.specs.Rules.{Place, named, place, Argument, of_type}

-- the parameter is a declared name, or an earlier argument, of the family told
abbrev pub SlotSuits : Context → List Argument → Place → ℕ → Type 0
SlotSuits Γ earlier (named n) G = (qs : List Item) × (Name n ∶ ty G qs ∈ Γ)
SlotSuits Γ earlier (place k) G = (ps : List Place) × At earlier k (of_type G ps)

abbrev pub SlotsSuit : Context → List Argument → List Place → List ℕ → Type 0
SlotsSuit Γ earlier [] [] = Unit {0}
SlotsSuit Γ earlier [] (G ∷ Gs) = ⊥
SlotsSuit Γ earlier (p ∷ ps) [] = ⊥
SlotsSuit Γ earlier (p ∷ ps) (G ∷ Gs) = SlotSuits Γ earlier p G × SlotsSuit Γ earlier ps Gs

abbrev pub ArgumentFormed : Meaning → Context → List Argument → Argument → Type 0
ArgumentFormed lay Γ earlier (of_type F ps) = (F < lay.families) × SlotsSuit Γ earlier ps (lay.params F)

-- each argument's type is well formed after the earlier ones
abbrev pub ArgumentsFormed : Meaning → Context → List Argument → List Argument → Type 0
ArgumentsFormed lay Γ earlier [] = Unit {0}
ArgumentsFormed lay Γ earlier (A ∷ As) = ArgumentFormed lay Γ earlier A × ArgumentsFormed lay Γ (earlier ++ A ∷ []) As

abbrev pub FirstPrincipal : List Argument → Type 0
FirstPrincipal [] = ⊥
FirstPrincipal (of_type F ps ∷ As) = F ≡ 1

abbrev pub PredicateFormed : Meaning → Context → List Argument → Type 0
PredicateFormed lay Γ As = ArgumentsFormed lay Γ [] As × FirstPrincipal As
