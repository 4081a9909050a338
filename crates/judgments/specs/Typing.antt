-- Well-formed types and contexts, and the types of terms.
use Rattle.std.specs.Prelude.{◌≡◌, ℕ, ◌<◌, true, List, [], ◌∷◌}
use Rattle.layouts.specs.Meanings.{Meaning}
use Rattle.layouts.specs.declared.layout.Kind.{Kind}
use Rattle.layouts.specs.declared.layout.Kind.TheVariants.{Sealing, Locking}
use Rattle.terms.specs.Terms.{Term, item, pair, seal, lock}
use Rattle.terms.specs.declared.row.Item.{Item}
use Rattle.terms.specs.declared.row.Item.TheVariants.{Name, Variable}
use Rattle.judgments.specs.Contexts.{Ty, ty, msg, ◌∶◌, Context, ◌∈◌}
use Rattle.judgments.specs.Substitutions.{Values, value, put_type}

-- The parameters are declared, each with the family told.
abbrev pub Suit : Context → List Item → List ℕ → Type 0
Suit Γ [] [] = Unit {0}
Suit Γ [] (G ∷ Gs) = ⊥
Suit Γ (p ∷ ps) [] = ⊥
Suit Γ (p ∷ ps) (G ∷ Gs) = ((qs : List Item) × (p ∶ ty G qs ∈ Γ)) × Suit Γ ps Gs

-- A type is well formed: the layout has the family, and the parameters suit it.
abbrev pub TypeFormed : Meaning → Context → Ty → Type 0
TypeFormed lay Γ (ty F ps) = (F < lay.families) × Suit Γ ps (lay.params F)

abbrev pub InRange : Item → Type 0
InRange (Name n) = (0 < n) × (n < 4294967296)
InRange (Variable v) = Unit {0}

-- The item is not declared yet.
abbrev pub New : Item → Context → Type 0
New i Γ = (T : Ty) → i ∶ T ∈ Γ → ⊥

-- A context is well formed: each item is declared once, with a type that is well formed over those before it.
abbrev pub Formed : Meaning → Context → Type 0
Formed lay [] = Unit {0}
Formed lay (i ∶ T ∷ Γ) = Formed lay Γ × New i Γ × InRange i × TypeFormed lay Γ T

-- The item is declared, with a family of the kind.
pub record Key (lay : Meaning) (Γ : Context) (k : Item) (κ : Kind) : Type 0 where
  pub family : ℕ
  pub params : List Item
  pub declared : k ∶ ty family params ∈ Γ
  pub of_kind : lay.kind family ≡ κ

-- The term has the type.
module _ (lay : Meaning) (Γ : Context) where
  pub data Has : Term → Ty → Type 0 where
    declared : {i : Item} {T : Ty} → i ∶ T ∈ Γ → Has (item i) T
    sent : {i : Item} {F : ℕ} {ps : List Item} → i ∶ ty F ps ∈ Γ → lay.sendable F ≡ true → Has (item i) msg
    pairs : {s t : Term} → Has s msg → Has t msg → Has (pair s t) msg
    seals : {t : Term} {k : Item} → Has t msg → Key lay Γ k Sealing → Has (seal t k) msg
    locks : {t : Term} {k : Item} {G : ℕ} → Has t msg → Key lay Γ k (Locking G) → Has (lock t k) msg

-- The values have, over Δ, the instances of the types declared in Γ.
abbrev pub Fit : Meaning → Values → Context → Context → Type 0
Fit lay σ Γ Δ = (i : Item) (T : Ty) → i ∶ T ∈ Γ → Has lay Δ (value σ i) (put_type σ T)

abbrev pub Declared : Context → Item → Type 0
Declared Γ i = (T : Ty) × (i ∶ T ∈ Γ)

-- Every item in the term is declared, keys too.
abbrev pub Known : Context → Term → Type 0
Known Γ (item i) = Declared Γ i
Known Γ (pair s t) = Known Γ s × Known Γ t
Known Γ (seal t k) = Known Γ t × Declared Γ k
Known Γ (lock t k) = Known Γ t × Declared Γ k

abbrev pub AllKnown : Context → List Term → Type 0
AllKnown Γ [] = Unit {0}
AllKnown Γ (t ∷ ts) = Known Γ t × AllKnown Γ ts
