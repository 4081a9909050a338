-- The tests on a scope decide what is granted, and what opens locks.
use Rattle.std.proofs.Common.{◌≡◌, ℕ, Bool, true, List, [], ◌∷◌, sym, refl, ap, subst, ⊎_elim}
use mathlib.Core.List.Memᴰ
use Rattle.judgments.specs.Access.{first_of, second_of, Above, Granted}
use Rattle.judgments.specs.Contexts.{ty, Decl, ◌∶◌, ◌∈◌}
use Rattle.judgments.specs.Typing.{Key}
use Rattle.layouts.specs.Codes.{item_code, code_of}
use Rattle.layouts.specs.Meanings.{Meaning}
use Rattle.layouts.specs.declared.layout.Kind.{Kind}
use Rattle.layouts.specs.declared.layout.Kind.TheVariants.{Plain, Sealing, Locking}
use Rattle.refusals.proofs.Deciding.{clash, decides_and, decides_same, decides_as, decides_never}
use Rattle.refusals.specs.Decides.{Decides}
use Rattle.std.proofs.lemmas.Bool.{or_cases, or_left, or_right}
use Rattle.terms.specs.Rows.{same_item}
use Rattle.terms.specs.declared.row.Item.{Item}
use Rattle.terms.specs.declared.row.Item.TheVariants.{Name, Variable}
use Rattle.theory.specs.Data as tables
use Rattle.types.specs.Types.{items}
use Rattle.std.specs.List.{list_any}
use Rattle.reading.specs.Grants.{above_grants, grants_by, type_granted, entry_grants, item_granted}
use Rattle.reading.specs.Openers.{opened_by, entry_locks, locks_for}
use Rattle.reading.specs.Scopes.{decl_of, context}
use Rattle.reading.specs.declared.scope.Entry.{Entry}

pub same_decides : (i j : Item) → Decides (same_item i j) (i ≡ j)
same_decides (Name m) (Name n) = decides_as (λ e. ap Name e) (λ e. cc) (decides_same m n)
same_decides (Name m) (Variable w) = decides_never (λ e. clash (cc))
same_decides (Variable v) (Name n) = decides_never (λ e. clash (cc))
same_decides (Variable v) (Variable w) = decides_as (λ e. ap Variable e) (λ e. cc) (decides_same v w)

-- some element is as it should be
module _ {A : Type 0} (p : A → Bool) (P : A → Type 0) (each : (x : A) → Decides (p x) (P x)) where
  any_sound : (xs : List A) → list_any p xs ≡ true → (x : A) × (x ∈ xs) × P x
  any_sound [] e = clash (cc)
  any_sound (x ∷ xs) e = ⊎_elim
      (λ t. (x, Memᴰ.head refl, (each x).sound t))
      (λ t. let rest = any_sound xs t in (rest.0, Memᴰ.tail rest.1, rest.2))
      (or_cases (p x) (list_any p xs) e)

  any_complete : (xs : List A) (x : A) → x ∈ xs → P x → list_any p xs ≡ true
  any_complete [] x m h = elim m [ ]
  any_complete (y ∷ xs) x (Memᴰ.head e) h = or_left (p y) (list_any p xs) ((each y).complete (subst P e h))
  any_complete (y ∷ xs) x (Memᴰ.tail m) h = or_right (p y) (list_any p xs) (any_complete xs x m h)

  pub any_decides : (xs : List A) → Decides (list_any p xs) ((x : A) × (x ∈ xs) × P x)
  any_decides xs = record { sound = any_sound xs; complete = λ h. any_complete xs h.0 h.1 h.2 }

module _ (scope : List Entry) where
  pub entry_declared : (e : Entry) → e ∈ scope → decl_of e ∈ context scope
  entry_declared e m = Memᴰ.map decl_of m

  pub declared_entry : (d : Decl) → d ∈ context scope → (e : Entry) × (e ∈ scope) × (decl_of e ≡ d)
  declared_entry d m = Memᴰ.of_map decl_of scope m

  module _ (lay : Meaning) (o : Item) where
    -- the type's items are granted, whatever the parameters of its first parameter
    abbrev TypeGranted : ℕ → List Item → Type 0
    TypeGranted F ps = (qs : List Item) × Above (context scope) ps qs × (lay.grants (item_code o) F (code_of (first_of ps)) (code_of (second_of ps)) (code_of (first_of qs)) ≡ true)

    above_decides : (T : tables.Ty) (p : Item) (ps : List Item) → items T.params ≡ p ∷ ps → (e : Entry) →
        Decides (above_grants lay o T p e) ((e.item ≡ p) × (lay.grants (item_code o) T.family (item_code p) (code_of (first_of ps)) (code_of (first_of (items e.of.params))) ≡ true))
    above_decides T p ps is e =
        decides_and (same_decides e.item p)
        (record {
          sound = λ x. subst (λ xs. lay.grants (item_code o) T.family (item_code p) (code_of (second_of xs)) (code_of (first_of (items e.of.params))) ≡ true) is x;
          complete = λ x. subst (λ xs. lay.grants (item_code o) T.family (item_code p) (code_of (second_of xs)) (code_of (first_of (items e.of.params))) ≡ true) (sym is) x;
        })

    granted_by : (T : tables.Ty) (ps : List Item) → items T.params ≡ ps → Decides (grants_by lay scope o T (first_of ps)) (TypeGranted T.family ps)
    granted_by T [] is = record {
      sound = λ x. ([], refl, x);
      complete = λ h. subst (λ qs. lay.grants (item_code o) T.family 0 0 (code_of (first_of qs)) ≡ true) h.1 h.2;
    }
    granted_by T (p ∷ ps) is =
        decides_as
        (λ h. (items h.0.of.params, (h.0.of.family, subst (λ i. i ∶ ty h.0.of.family (items h.0.of.params) ∈ context scope) h.2.0 (entry_declared h.0 h.1)), h.2.1))
        (λ h.
        let d = declared_entry (p ∶ ty h.1.0 h.0) h.1.1 in
        let i_is : d.0.item ≡ p = cc d.2 in
        let qs_are : items d.0.of.params ≡ h.0 = cc d.2 in
        (d.0, d.1, (i_is, subst (λ qs. lay.grants (item_code o) T.family (item_code p) (code_of (first_of ps)) (code_of (first_of qs)) ≡ true) (sym qs_are) h.2)))
        (any_decides (above_grants lay o T p) _ (above_decides T p ps is) scope)

    type_decides : (T : tables.Ty) → Decides (type_granted lay scope o T) (TypeGranted T.family (items T.params))
    type_decides T = granted_by T (items T.params) refl

    pub granted_decides : (i : Item) → Decides (item_granted lay scope o i) (Granted lay (context scope) o i)
    granted_decides i =
        decides_as
        (λ h. record {
          family = h.0.of.family;
          params = items h.0.of.params;
          above = h.2.1.0;
          declared = subst (λ i. i ∶ ty h.0.of.family (items h.0.of.params) ∈ context scope) h.2.0 (entry_declared h.0 h.1);
          is_above = h.2.1.1;
          is_granted = h.2.1.2;
        })
        (λ g.
        let d = declared_entry (i ∶ ty g.family g.params) g.declared in
        let i_is : d.0.item ≡ i = cc d.2 in
        let F_is : g.family ≡ d.0.of.family = cc d.2 in
        let ps_are : g.params ≡ items d.0.of.params = cc d.2 in
        (d.0, d.1, (i_is, subst (λ F. TypeGranted F (items d.0.of.params)) F_is (subst (TypeGranted g.family) ps_are (g.above, g.is_above, g.is_granted)))))
        (any_decides (entry_grants lay scope o i) _ (λ e. decides_and (same_decides e.item i) (type_decides e.of)) scope)

    opened_decides : (κ : Kind) (F : ℕ) → Decides (opened_by κ F) (κ ≡ Locking F)
    opened_decides Plain F = decides_never (λ e. clash (cc))
    opened_decides Sealing F = decides_never (λ e. clash (cc))
    opened_decides (Locking G) F = decides_as (λ e. ap Locking e) (λ e. cc) (decides_same G F)

    pub locks_decides : (k : Item) (F : ℕ) → Decides (locks_for lay scope k F) (Key lay (context scope) k (Locking F))
    locks_decides k F =
        decides_as
        (λ h. record {
          family = h.0.of.family;
          params = items h.0.of.params;
          declared = subst (λ i. i ∶ ty h.0.of.family (items h.0.of.params) ∈ context scope) h.2.0 (entry_declared h.0 h.1);
          of_kind = h.2.1;
        })
        (λ x.
        let d = declared_entry (k ∶ ty x.family x.params) x.declared in
        let i_is : d.0.item ≡ k = cc d.2 in
        let F_is : x.family ≡ d.0.of.family = cc d.2 in
        (d.0, d.1, (i_is, subst (λ G. lay.kind G ≡ Locking F) F_is x.of_kind)))
        (any_decides (entry_locks lay k F) _ (λ e. decides_and (same_decides e.item k) (opened_decides (lay.kind e.of.family) F)) scope)
