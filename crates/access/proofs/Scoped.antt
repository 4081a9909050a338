-- The scope that is put together is the context of the judgments.
use Rattle.std.proofs.Common.{◌≡◌, ℕ, zero, suc, ◌+◌, ◌<◌, List, [], ◌∷◌, ◌++◌, map, length, get_or, take, Some, sym, refl, ap, ◌∙◌, subst, ap₂, ⊎_elim, append_assoc, arith}
use mathlib.Core.List.Memᴰ
use Rattle.judgments.specs.Contexts.{Decl, ◌∶◌, Context, ty, ◌∈◌}
use Rattle.reading.specs.Scopes.{decl_of, context}
use Rattle.reading.specs.declared.scope.Entry.{Entry}
use Rattle.refusals.proofs.Deciding.{clash}
use Rattle.std.proofs.lemmas.List.{take_more, map_more, length-take-le}
use Rattle.std.specs.List.{slice_get}
use Rattle.terms.specs.declared.row.Item.{Item}
use Rattle.terms.specs.declared.row.Item.TheVariants.{Name, Variable}
use Rattle.theory.specs.Owners.{item_of}
use Rattle.theory.specs.declared.data.Declared.{Declared}
use Rattle.layouts.specs.declared.layout.Params.{Params}
use Rattle.layouts.specs.declared.layout.Params.TheVariants.{Zero, One, Two}
use Rattle.theory.specs.Data.{Ty}
use Rattle.theory.specs.declared.owner.Owner.{Owner}
use Rattle.theory.specs.declared.owner.Owner.TheVariants.{Nobody, Generic, Anchored}
use Rattle.types.proofs.Found.{declare_at, declare_cases, declare_kept, owner_kept}
use Rattle.types.specs.Forms.{mapped}
use Rattle.types.specs.Judged.{declare, name_decl, variable_decl, with_owner, context_of}
use Rattle.types.specs.Scopes.{a_principal}
use Rattle.types.specs.Types.{items}
use Rattle.access.proofs.Members.{nth_in, in_nth}
use Rattle.access.specs.Scopes.{name_entry, owner_entries, variable_entry, variable_entries, rule_scope}

-- ---- one turn of the loops that put it together
pub names_more : (o : Owner) (before now : List Entry) (ds : List Declared) (i : ℕ) (d : Declared) (x : Entry) → i < length ds → x ≡ name_entry o (get_or ds i d) → now ≡ before ++ map (name_entry o) (take i ds) → now ++ x ∷ [] ≡ before ++ map (name_entry o) (take (i + 1) ds)
names_more o before now ds i d x within is inv =
    ap₂ (λ xs x. xs ++ x ∷ []) inv is ∙ append_assoc before (map (name_entry o) (take i ds)) (name_entry o (get_or ds i d) ∷ []) ∙ ap (λ xs. before ++ xs) (sym (map_more (name_entry o) ds i d within))

variables_push : (o : Owner) (v : ℕ) (Ts : List Ty) (T : Ty) → variable_entries o v (Ts ++ T ∷ []) ≡ variable_entries o v Ts ++ (variable_entry o (v + length Ts) T ∷ [])
variables_push o v [] T = let here : v ≡ v + 0 = omega arith in ap (λ n. variable_entry o n T ∷ []) here
variables_push o v (U ∷ Ts) T =
    let next : v + 1 + length Ts ≡ v + length (U ∷ Ts) = omega arith in
    ap (λ xs. variable_entry o v U ∷ xs) (variables_push o (v + 1) Ts T ∙ ap (λ n. variable_entries o (v + 1) Ts ++ (variable_entry o n T ∷ [])) next)

pub variables_more : (o : Owner) (before now : List Entry) (Ts : List Ty) (i : ℕ) (T : Ty) (x : Entry) → i < length Ts → x ≡ variable_entry o (i + 1) (get_or Ts i T) → now ≡ before ++ variable_entries o 1 (take i Ts) → now ++ x ∷ [] ≡ before ++ variable_entries o 1 (take (i + 1) Ts)
variables_more o before now Ts i T x within is inv =
    let long : 1 + length (take i Ts) ≡ i + 1 = (let e = length-take-le i Ts (omega arith) in omega arith) in
    ap₂ (λ xs x. xs ++ x ∷ []) inv is
    ∙ append_assoc before (variable_entries o 1 (take i Ts)) _
    ∙ ap (λ xs. before ++ xs) (ap (λ n. variable_entries o 1 (take i Ts) ++ (variable_entry o n (get_or Ts i T) ∷ [])) (sym long) ∙ sym (variables_push o 1 (take i Ts) (get_or Ts i T)) ∙ ap (variable_entries o 1) (sym (take_more Ts i T within)))

-- ---- the same declarations
read_items : (o : Owner) (ps : Params Item) → items (mapped (item_of o) ps) ≡ map (item_of o) (items ps)
read_items o Zero = refl
read_items o (One p) = refl
read_items o (Two p q) = refl

module _ (ds : List Declared) (o : Owner) (us : List Ty) where
  abbrev Γ : Context
  Γ = context_of (record { names = ds; owner = o; variables = us })

  abbrev Δ : Context
  Δ = context (rule_scope ds o us)

  name_same : (n : ℕ) (d : Declared) → decl_of (name_entry o d) ≡ name_decl o n d
  name_same n d = ap (λ ps. Name d.name ∶ ty d.of.family ps) (read_items o d.of.params)

  -- a variable's entry, by its place
  variable_in : (v : ℕ) (Ts : List Ty) (x : Entry) → x ∈ variable_entries o v Ts → (k : ℕ) × (T : Ty) × (slice_get Ts k ≡ Some T) × (x ≡ variable_entry o (v + k) T)
  variable_in v [] x m = elim m [ ]
  variable_in v (T ∷ Ts) x (Memᴰ.head e) = let here : v ≡ v + 0 = omega arith in (0, T, refl, e ∙ ap (λ n. variable_entry o n T) here)
  variable_in v (T ∷ Ts) x (Memᴰ.tail m) =
      let rest = variable_in (v + 1) Ts x m in
      let next : v + 1 + rest.0 ≡ v + suc rest.0 = omega arith in
      (suc rest.0, rest.1, rest.2, rest.3 ∙ ap (λ n. variable_entry o n rest.1) next)

  in_variable : (v : ℕ) (Ts : List Ty) (k : ℕ) (T : Ty) → slice_get Ts k ≡ Some T → variable_entry o (v + k) T ∈ variable_entries o v Ts
  in_variable v [] k T e = clash (cc)
  in_variable v (U ∷ Ts) zero T e =
      let here : v + 0 ≡ v = omega arith in
      let same : T ≡ U = cc in
      Memᴰ.head (ap₂ (λ n T. variable_entry o n T) here same)
  in_variable v (U ∷ Ts) (suc k) T e =
      let next : v + 1 + k ≡ v + suc k = omega arith in
      Memᴰ.tail (subst (λ n. variable_entry o n T ∈ variable_entries o (v + 1) Ts) next (in_variable (v + 1) Ts k T e))

  variable_same : (n : ℕ) (T : Ty) → decl_of (variable_entry o n T) ≡ variable_decl o n T
  variable_same n T = ap (λ ps. Variable n ∶ ty T.family ps) (read_items o T.params)

  -- what the scope declares is declared
  pub scope_declared : (d : Decl) → d ∈ Δ → d ∈ Γ
  scope_declared d m =
      let x = Memᴰ.of_map decl_of (rule_scope ds o us) m in
      ⊎_elim
      (λ early. declare_kept (variable_decl o) 1 us (with_owner o (declare (name_decl o) 1 ds [])) d
      (⊎_elim
      (λ named.
      let e = Memᴰ.of_map (name_entry o) ds named in
      let at = nth_in ds e.0 e.1 in
      let there = declare_at (name_decl o) 1 ds [] at.0 e.0 at.1 in
      owner_kept o (declare (name_decl o) 1 ds []) d (subst (λ d. d ∈ declare (name_decl o) 1 ds []) (sym (name_same (1 + at.0) e.0) ∙ ap decl_of e.2 ∙ x.2) there))
      (λ owned. own o (declare (name_decl o) 1 ds []) x.0 owned x.2)
      (Memᴰ.append_cases (map (name_entry o) ds) early)))
      (λ late.
      let v = variable_in 1 us x.0 late in
      subst (λ d. d ∈ Γ) (sym (variable_same (1 + v.0) v.1) ∙ ap decl_of (sym v.3) ∙ x.2) (declare_at (variable_decl o) 1 us (with_owner o (declare (name_decl o) 1 ds [])) v.0 v.1 v.2))
      (Memᴰ.append_cases (map (name_entry o) ds ++ owner_entries o) x.1)
    where
      own : (p : Owner) (Θ : Context) (x : Entry) → x ∈ owner_entries p → decl_of x ≡ d → d ∈ with_owner p Θ
      own Nobody Θ x m e = elim m [ ]
      own Generic Θ x (Memᴰ.head q) e = Memᴰ.head (sym e ∙ ap decl_of q)
      own Generic Θ x (Memᴰ.tail q) e = elim q [ ]
      own (Anchored a) Θ x m e = elim m [ ]

  -- what is declared is in the scope
  pub declared_scope : (d : Decl) → d ∈ Γ → d ∈ Δ
  declared_scope d m = ⊎_elim
      (λ early. before o refl early)
      (λ h. subst (λ d. d ∈ Δ) (variable_same (1 + h.0) h.1 ∙ sym h.3) (Memᴰ.map decl_of (Memᴰ.append_right (map (name_entry o) ds ++ owner_entries o) (in_variable 1 us h.0 h.1 h.2))))
      (declare_cases (variable_decl o) 1 us (with_owner o (declare (name_decl o) 1 ds [])) d m)
    where
      named : d ∈ declare (name_decl o) 1 ds [] → d ∈ Δ
      named n = ⊎_elim
          (λ none. elim none [ ])
          (λ h. subst (λ d. d ∈ Δ) (name_same (1 + h.0) h.1 ∙ sym h.3) (Memᴰ.map decl_of (Memᴰ.append_left (variable_entries o 1 us) (Memᴰ.append_left (owner_entries o) (Memᴰ.map (name_entry o) (in_nth ds h.1 h.0 h.2))))))
          (declare_cases (name_decl o) 1 ds [] d n)

      before : (p : Owner) → o ≡ p → d ∈ with_owner p (declare (name_decl o) 1 ds []) → d ∈ Δ
      before Nobody e n = named n
      before Generic e (Memᴰ.head q) = subst (λ d. d ∈ Δ) (sym q) (Memᴰ.map decl_of (Memᴰ.append_left (variable_entries o 1 us) (Memᴰ.append_right (map (name_entry o) ds) (subst (λ p. record { item = Variable 0; of = a_principal } ∈ owner_entries p) (sym e) (Memᴰ.head refl)))))
      before Generic e (Memᴰ.tail n) = named n
      before (Anchored a) e n = named n
