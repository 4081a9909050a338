-- What holds of a well-formed context, whatever the order of its declarations.
use Rattle.std.proofs.Common.{◌≡◌, ℕ, List, [], ◌∷◌, ◌++◌, subst, arith}
use mathlib.Core.List.Memᴰ
use Rattle.layouts.specs.Meanings.{Meaning}
use Rattle.terms.specs.declared.row.Item.{Item}
use Rattle.judgments.specs.Contexts.{Ty, ty, Decl, ◌∶◌, Context, ◌∈◌}
use Rattle.judgments.specs.Typing.{Suit, TypeFormed, InRange, Formed}
use Rattle.judgments.specs.Theorems.{Regular, DeclaredOnce}

pub not_zero : {A : Type 0} → ◌≡◌ {A = ℕ} 0 1 → A
not_zero e = let no : ⊥ = omega arith in absurd no

pub suit_more : {Γ Δ : Context} → ((d : Decl) → d ∈ Γ → d ∈ Δ) → (ps : List Item) (Gs : List ℕ) → Suit Γ ps Gs → Suit Δ ps Gs
suit_more w [] [] s = tt
suit_more w [] (G ∷ Gs) s = absurd s
suit_more w (p ∷ ps) [] s = absurd s
suit_more w (p ∷ ps) (G ∷ Gs) s = ((s.0.0, w _ s.0.1), suit_more w ps Gs s.1)

pub type_more : (lay : Meaning) {Γ Δ : Context} → ((d : Decl) → d ∈ Γ → d ∈ Δ) → (T : Ty) → TypeFormed lay Γ T → TypeFormed lay Δ T
type_more lay w (ty F ps) h = (h.0, suit_more w ps (lay.params F) h.1)

module _ (lay : Meaning) where
  once_in : (Γ : Context) → Formed lay Γ → (i : Item) (S T : Ty) → i ∶ S ∈ Γ → i ∶ T ∈ Γ → S ≡ T
  once_in [] h i S T m n = elim m [ ]
  once_in (j ∶ U ∷ Γ) h i S T (Memᴰ.head e) (Memᴰ.head f) = cc
  once_in (j ∶ U ∷ Γ) h i S T (Memᴰ.head e) (Memᴰ.tail n) =
      let same : i ≡ j = cc in absurd (h.1 T (subst (λ x. x ∶ T ∈ Γ) same n))
  once_in (j ∶ U ∷ Γ) h i S T (Memᴰ.tail m) (Memᴰ.head f) =
      let same : i ≡ j = cc in absurd (h.1 S (subst (λ x. x ∶ S ∈ Γ) same m))
  once_in (j ∶ U ∷ Γ) h i S T (Memᴰ.tail m) (Memᴰ.tail n) = once_in Γ h.0 i S T m n

  range_in : (Γ : Context) → Formed lay Γ → (i : Item) (T : Ty) → i ∶ T ∈ Γ → InRange i
  range_in [] h i T m = elim m [ ]
  range_in (j ∶ U ∷ Γ) h i T (Memᴰ.head e) = let same : j ≡ i = cc in subst InRange same h.2
  range_in (j ∶ U ∷ Γ) h i T (Memᴰ.tail m) = range_in Γ h.0 i T m

  formed_in : (Γ : Context) → Formed lay Γ → (i : Item) (T : Ty) → i ∶ T ∈ Γ → TypeFormed lay Γ T
  formed_in [] h i T m = elim m [ ]
  formed_in (j ∶ U ∷ Γ) h i T (Memᴰ.head e) =
      let same : U ≡ T = cc in
      subst (TypeFormed lay (j ∶ U ∷ Γ)) same (type_more lay (λ d m. Memᴰ.tail m) U h.3)
  formed_in (j ∶ U ∷ Γ) h i T (Memᴰ.tail m) = type_more lay (λ d m. Memᴰ.tail m) T (formed_in Γ h.0 i T m)

  pub regular : (Γ : Context) → Formed lay Γ → Regular lay Γ
  regular Γ h = record {
    once = λ {i} {S} {T}. once_in Γ h i S T;
    in_range = λ {i} {T}. range_in Γ h i T;
    formed = λ {i} {T}. formed_in Γ h i T;
  }

  pub formed_below : (M Γ : Context) → Formed lay (M ++ Γ) → Formed lay Γ
  formed_below [] Γ h = h
  formed_below (i ∶ T ∷ M) Γ h = formed_below M Γ h.0

pub declared_once : DeclaredOnce
declared_once lay Γ h = regular lay Γ h
