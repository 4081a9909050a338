-- What is found in a scope is what is declared in its context.
use Rattle.std.proofs.Common.{◌≡◌, ℕ, zero, suc, ◌+◌, ◌-◌, true, eqb, ◌⊎◌, List, [], ◌∷◌, Some, sym, refl, ap, ◌∙◌, subst, inl, inr, ⊎_elim, arith}
use mathlib.Core.List.Memᴰ
use Rattle.std.specs.List.{slice_get}
use Rattle.std.proofs.lemmas.Bool.{cases_Bool, eqb-true, eqb-false, eq-eqb}
use Rattle.judgments.specs.Contexts.{◌∶◌, Context, Decl, ◌∈◌}
use Rattle.judgments.proofs.Contexts.{not_zero}
use Rattle.types.specs.Scopes.{Declarations, a_principal, type_in, owner_type, scope_type}
use Rattle.theory.specs.Owners.{owner_item, item_of}
use Rattle.types.specs.Judged.{type_of, declare, name_decl, variable_decl, with_owner, context_of}
use Rattle.terms.specs.declared.row.Item.{Item}
use Rattle.terms.specs.declared.row.Item.TheVariants.{Name, Variable}
use Rattle.theory.specs.Data.{Ty}
use Rattle.theory.specs.declared.data.Declared.{Declared}
use Rattle.theory.specs.declared.owner.Owner.{Owner}
use Rattle.theory.specs.declared.owner.Owner.TheVariants.{Nobody, Generic, Anchored}
use Rattle.judgments.specs.Contexts as judge

module _ {X : Type 0} (f : ℕ → X → Decl) where
  pub declare_kept : (n : ℕ) (xs : List X) (Γ : Context) (d : Decl) → d ∈ Γ → d ∈ declare f n xs Γ
  declare_kept n [] Γ d m = m
  declare_kept n (x ∷ xs) Γ d m = declare_kept (n + 1) xs (f n x ∷ Γ) d (Memᴰ.tail m)

  pub declare_at : (n : ℕ) (xs : List X) (Γ : Context) (k : ℕ) (x : X) → slice_get xs k ≡ Some x → f (n + k) x ∈ declare f n xs Γ
  declare_at n [] Γ k x e = not_zero (cc)
  declare_at n (y ∷ xs) Γ zero x e =
      let same : x ≡ y = cc in
      let place : n + 0 ≡ n = omega arith in
      declare_kept (n + 1) xs (f n y ∷ Γ) (f (n + 0) x) (Memᴰ.head (rw (place, same) refl))
  declare_at n (y ∷ xs) Γ (suc k) x e =
      let place : (n + 1) + k ≡ n + suc k = omega arith in
      subst (λ p. f p x ∈ declare f (n + 1) xs (f n y ∷ Γ)) place (declare_at (n + 1) xs (f n y ∷ Γ) k x e)

  -- a declaration is one of those before, or that of an element
  pub declare_cases : (n : ℕ) (xs : List X) (Γ : Context) (d : Decl) → d ∈ declare f n xs Γ → (d ∈ Γ) ⊎ ((k : ℕ) × (x : X) × (slice_get xs k ≡ Some x) × (d ≡ f (n + k) x))
  declare_cases n [] Γ d m = inl m
  declare_cases n (y ∷ xs) Γ d m = ⊎_elim before later (declare_cases (n + 1) xs (f n y ∷ Γ) d m)
    where
      before : d ∈ f n y ∷ Γ → (d ∈ Γ) ⊎ ((k : ℕ) × (x : X) × (slice_get (y ∷ xs) k ≡ Some x) × (d ≡ f (n + k) x))
      before (Memᴰ.head e) = let place : n + 0 ≡ n = omega arith in inr (0, y, refl, rw place e)
      before (Memᴰ.tail m) = inl m

      later : (k : ℕ) × (x : X) × (slice_get xs k ≡ Some x) × (d ≡ f ((n + 1) + k) x) → (d ∈ Γ) ⊎ ((k : ℕ) × (x : X) × (slice_get (y ∷ xs) k ≡ Some x) × (d ≡ f (n + k) x))
      later h = let place : n + suc h.0 ≡ (n + 1) + h.0 = omega arith in inr (suc h.0, h.1, h.2, rw place h.3)

-- the declaration that a name is found by
pub type_in_at : (ds : List Declared) (n : ℕ) (T : Ty) → type_in ds n ≡ Some T → (k : ℕ) × (d : Declared) × (slice_get ds k ≡ Some d) × (d.name ≡ n) × (d.of ≡ T)
type_in_at [] n T e = not_zero (cc)
type_in_at (d ∷ ds) n T e = ⊎_elim
    (λ t. let found : Some d.of ≡ Some T = rw t at e in let same : d.of ≡ T = cc in (0, d, refl, eqb-true d.name n t, same))
    (λ f. let rest = type_in_at ds n T (rw f at e) in (suc rest.0, rest.1, rest.2, rest.3, rest.4))
    (cases_Bool (eqb d.name n))

pub type_in_has : (ds : List Declared) (n k : ℕ) (d : Declared) → slice_get ds k ≡ Some d → n ≡ d.name → (T : Ty) × (type_in ds n ≡ Some T)
type_in_has [] n k d e s = not_zero (cc)
type_in_has (c ∷ ds) n zero d e s =
    let same : c ≡ d = cc in
    let t : eqb c.name n ≡ true = eq-eqb c.name n (ap (λ (x : Declared). x.name) same ∙ sym s) in
    (c.of, rw t refl)
type_in_has (c ∷ ds) n (suc k) d e s = ⊎_elim
    (λ t. (c.of, rw t refl))
    (λ f. let rest = type_in_has ds n k d e s in (rest.0, rw f rest.1))
    (cases_Bool (eqb c.name n))

pub owner_kept : (o : Owner) (Γ : Context) (d : Decl) → d ∈ Γ → d ∈ with_owner o Γ
owner_kept Nobody Γ d m = m
owner_kept Generic Γ d m = Memᴰ.tail m
owner_kept (Anchored a) Γ d m = m

module _ (ds : List Declared) (o : Owner) (vs : List Ty) where
  abbrev here : Declarations
  here = record { names = ds; owner = o; variables = vs }

  abbrev Σ : Context
  Σ = declare (name_decl o) 1 ds []

  name_found : (n : ℕ) (T : Ty) → type_in ds n ≡ Some T → Name n ∶ type_of o T ∈ context_of here
  name_found n T e =
      let h = type_in_at ds n T e in
      let at = declare_at (name_decl o) 1 ds [] h.0 h.1 h.2 in
      declare_kept (variable_decl o) 1 vs (with_owner o Σ) _ (owner_kept o Σ _ (rw (h.3, h.4) at at))

  owner_found : (o' : Owner) → o ≡ o' → (T : Ty) → owner_type ds o' ≡ Some T → owner_item o' ∶ type_of o' T ∈ context_of here
  owner_found Nobody s T e = not_zero (cc)
  owner_found Generic s T e =
      let is : a_principal ≡ T = cc in
      let at = subst (λ (X : Ty). Variable 0 ∶ type_of Generic X ∈ with_owner Generic Σ) is (Memᴰ.head refl) in
      declare_kept (variable_decl o) 1 vs (with_owner o Σ) _ (subst (λ x. Variable 0 ∶ type_of Generic T ∈ with_owner x Σ) (sym s) at)
  owner_found (Anchored a) s T e = subst (λ x. Name a ∶ type_of x T ∈ context_of here) s (name_found a T e)

  pub found_declared : (i : Item) (T : Ty) → scope_type here i ≡ Some T → item_of o i ∶ type_of o T ∈ context_of here
  found_declared (Name n) T e = name_found n T e
  found_declared (Variable v) T e = ⊎_elim
      (λ t. rw t (owner_found o refl T (rw t at e)))
      (λ f.
      let at = declare_at (variable_decl o) 1 vs (with_owner o Σ) (v - 1) T (rw f at e) in
      let differs = eqb-false v 0 f in
      let place : 1 + (v - 1) ≡ v = omega arith in
      rw f (rw place at at))
      (cases_Bool (eqb v 0))

  variable_has : (i : Item) (k : ℕ) (T : Ty) → slice_get vs k ≡ Some T → item_of o i ≡ Variable (1 + k) → (U : Ty) × (scope_type here i ≡ Some U)
  variable_has (Name n) k T e s = not_zero (cc)
  variable_has (Variable v) k T e s = ⊎_elim
      (λ t. absurd (no_owner o k (rw t at s)))
      (λ f.
      let same : v ≡ 1 + k = (let is : Variable v ≡ Variable (1 + k) = rw f at s in cc) in
      let place : v - 1 ≡ k = omega arith in
      let at : slice_get vs (v - 1) ≡ Some T = rw place e in
      (T, rw f at))
      (cases_Bool (eqb v 0))
    where
      no_owner : (o : Owner) (k : ℕ) → owner_item o ≡ Variable (1 + k) → ⊥
      no_owner Nobody k s = let same : 0 ≡ 1 + k = cc in omega arith
      no_owner Generic k s = let same : 0 ≡ 1 + k = cc in omega arith
      no_owner (Anchored a) k s = not_zero (cc)

  name_has : (i : Item) (k : ℕ) (d : Declared) → slice_get ds k ≡ Some d → item_of o i ≡ Name d.name → (U : Ty) × (scope_type here i ≡ Some U)
  name_has (Name n) k d e s = let same : n ≡ d.name = cc in type_in_has ds n k d e same
  name_has (Variable v) k d e s = ⊎_elim
      (λ t. let w = by_owner o (rw t at s) in (w.0, rw t w.1))
      (λ f. let is : Variable v ≡ Name d.name = rw f at s in not_zero (cc))
      (cases_Bool (eqb v 0))
    where
      by_owner : (o : Owner) → owner_item o ≡ Name d.name → (U : Ty) × (owner_type ds o ≡ Some U)
      by_owner Nobody s = not_zero (cc)
      by_owner Generic s = not_zero (cc)
      by_owner (Anchored a) s = let same : a ≡ d.name = cc in type_in_has ds a k d e same

  owner_has : (i : Item) → o ≡ Generic → item_of Generic i ≡ Variable 0 → (U : Ty) × (scope_type here i ≡ Some U)
  owner_has (Name n) g s = not_zero (cc)
  owner_has (Variable v) g s = ⊎_elim
      (λ t. let at : owner_type ds o ≡ Some a_principal = rw g refl in (a_principal, rw t at))
      (λ f. let is : Variable v ≡ Variable 0 = rw f at s in let same : v ≡ 0 = cc in absurd (eqb-false v 0 f same))
      (cases_Bool (eqb v 0))

  pub declared_found : (i : Item) (U : judge.Ty) → item_of o i ∶ U ∈ context_of here → (T : Ty) × (scope_type here i ≡ Some T)
  declared_found i U m = ⊎_elim
      (λ n. earlier o refl n)
      (λ h. let same : item_of o i ≡ Variable (1 + h.0) = cc h.3 in variable_has i h.0 h.1 h.2 same)
      (declare_cases (variable_decl o) 1 vs (with_owner o Σ) _ m)
    where
      by_name : item_of o i ∶ U ∈ Σ → (T : Ty) × (scope_type here i ≡ Some T)
      by_name n = ⊎_elim
          (λ none. elim none [ ])
          (λ h. let same : item_of o i ≡ Name h.1.name = cc h.3 in name_has i h.0 h.1 h.2 same)
          (declare_cases (name_decl o) 1 ds [] _ n)

      earlier : (o' : Owner) → o ≡ o' → item_of o i ∶ U ∈ with_owner o' Σ → (T : Ty) × (scope_type here i ≡ Some T)
      earlier Nobody s n = by_name n
      earlier Generic s (Memᴰ.head e) = let same : item_of o i ≡ Variable 0 = cc in owner_has i s (rw s at same)
      earlier Generic s (Memᴰ.tail n) = by_name n
      earlier (Anchored a) s n = by_name n
