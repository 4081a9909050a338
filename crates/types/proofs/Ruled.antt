-- The check of a rule decides whether it has its types.
use Rattle.std.proofs.Common.{◌≡◌, ℕ, zero, suc, ◌+◌, ◌<◌, List, [], ◌∷◌, ◌++◌, map, length, Some, None, vec_items, Option, sym, refl, ap, ◌∙◌, subst, ⊎_elim, append_assoc, append-nil, arith}
use mathlib.Core.List.Memᴰ
use Rattle.std.specs.List.{slice_get}
use Rattle.judgments.specs.Contexts.{◌∶◌, Context, Decl, ◌∈◌}
use Rattle.layouts.specs.Meanings.{Meaning}
use Rattle.judgments.specs.Typing.{New, Formed}
use Rattle.judgments.specs.Rules.{FactTyped, RuleTyped, Variables}
use Rattle.judgments.proofs.Contexts.{not_zero, formed_below}
use Rattle.types.specs.Judged.{declare, name_decl, variable_decl, with_owner, context_of, argument_of}
use Rattle.types.specs.Rows.{term_at}
use Rattle.types.specs.Facts.{ledger}
use Rattle.refusals.specs.Faults.{at_spot}
use Rattle.types.specs.Rules.{Place, over, variable_check, variables_check, predicate_at, listed_fact, a_message, symbol_check, fact_with, facts_check, same, rule_check}
use Rattle.types.specs.Typed.{symbol_of, takes, table_of, fact_of, rule_of}
use Rattle.refusals.specs.Decides.{Passes}
use Rattle.refusals.proofs.Deciding.{demand_passes, passes_always, passes_as, then_passes, walk_passes, Each, walk_each}
use Rattle.types.proofs.Found.{declare_cases}
use Rattle.types.proofs.Signatures.{declare_push, type_formed_decides}
use Rattle.types.proofs.Facted.{fact_passes}
use Rattle.theory.specs.Data.{Ty}
use Rattle.theory.specs.declared.data.Declared.{Declared}
use Rattle.theory.specs.declared.owner.Owner.{Owner}
use Rattle.theory.specs.declared.owner.Owner.TheVariants.{Nobody, Generic, Anchored}
use Rattle.theory.specs.declared.data.Predicate.{Predicate}
use Rattle.theory.specs.declared.data.Symbol.{Symbol}
use Rattle.theory.specs.declared.data.Fact.{Fact}
use Rattle.theory.specs.declared.data.Rule.{Rule}
use Rattle.types.specs.declared.faults.Ill.TheVariants.{Unformed}
use Rattle.terms.specs.Terms.{Term}
use Rattle.terms.specs.declared.row.Item.TheVariants.{Variable}
use Rattle.judgments.specs.Contexts as judge
use Rattle.judgments.specs.Rules as rules
use Rattle.theory.specs.declared.data.Symbol.TheVariants as symbol

nth_within : {X : Type 0} (xs : List X) (k : ℕ) (x : X) → slice_get xs k ≡ Some x → k < length xs
nth_within [] k x e = not_zero (cc)
nth_within (y ∷ xs) zero x e = omega arith
nth_within (y ∷ xs) (suc k) x e = let h = nth_within xs k x e in omega arith

module _ {X : Type 0} (f : ℕ → X → Decl) where
  pub declare_onto : (n : ℕ) (xs : List X) (Γ Δ : Context) → declare f n xs (Γ ++ Δ) ≡ declare f n xs Γ ++ Δ
  declare_onto n [] Γ Δ = refl
  declare_onto n (x ∷ xs) Γ Δ = declare_onto (n + 1) xs (f n x ∷ Γ) Δ

  pub declare_split : (n : ℕ) (xs ys : List X) (Γ : Context) → declare f n (xs ++ ys) Γ ≡ declare f (n + length xs) ys (declare f n xs Γ)
  declare_split n [] ys Γ = let place : n + 0 ≡ n = omega arith in rw place refl
  declare_split n (x ∷ xs) ys Γ =
      let place : n + length (x ∷ xs) ≡ (n + 1) + length xs = omega arith in
      rw place (declare_split (n + 1) xs ys (f n x ∷ Γ))

-- the next variable is not declared yet
module _ (ds : List Declared) (o : Owner) (vs : List Ty) where
  abbrev Σ : Context
  Σ = declare (name_decl o) 1 ds []

  pub no_name : (v : ℕ) (T : judge.Ty) → Variable v ∶ T ∈ Σ → ⊥
  no_name v T m = ⊎_elim
      (λ none. elim none [ ])
      (λ h. let is = h.3 in not_zero (cc))
      (declare_cases (name_decl o) 1 ds [] _ m)

  no_owner : (o' : Owner) (v : ℕ) (T : judge.Ty) → 0 < v → Variable v ∶ T ∈ with_owner o' Σ → ⊥
  no_owner Nobody v T h m = no_name v T m
  no_owner Generic v T h (Memᴰ.head e) = let is : v ≡ 0 = cc in omega arith
  no_owner Generic v T h (Memᴰ.tail m) = no_name v T m
  no_owner (Anchored a) v T h m = no_name v T m

  pub variable_new : New (Variable (1 + length vs)) (declare (variable_decl o) 1 vs (with_owner o Σ))
  variable_new T m = ⊎_elim
      (λ n. no_owner o (1 + length vs) T (omega arith) n)
      (λ h. let is : 1 + length vs ≡ 1 + h.0 = cc h.3 in let in_List = nth_within vs h.0 h.1 h.2 in omega arith)
      (declare_cases (variable_decl o) 1 vs (with_owner o Σ) _ m)

module _ (lay : Meaning) (e : Place) where
  abbrev Γ : List Ty → Context
  Γ vs = context_of (over e vs)

  module _ (before : List Ty) where
    abbrev J : List Ty → Type 0
    J seen = Formed lay (Γ (before ++ seen))

    pushed : (seen : List Ty) (T : Ty) → Γ (before ++ (seen ++ T ∷ [])) ≡ variable_decl e.owner (1 + length (before ++ seen)) T ∷ Γ (before ++ seen)
    pushed seen T = ap Γ (sym (append_assoc before seen (T ∷ []))) ∙ declare_push (variable_decl e.owner) 1 (before ++ seen) T _

    pub variable_passes : (seen : List Ty) (T : Ty) → J seen → Passes (variable_check lay e before seen T) (J (seen ++ T ∷ []))
    variable_passes seen T formed =
        rw (pushed seen T)
        (passes_as
        (λ h. (formed, variable_new e.names e.owner (before ++ seen), tt {0}, h.0))
        (λ h. (h.3, tt {0}))
        (demand_passes Unformed (type_formed_decides lay (over e (before ++ seen)) formed T) (λ _. passes_always (tt {0}))))

    variable_back : (seen : List Ty) (T : Ty) → J (seen ++ T ∷ []) → J seen
    variable_back seen T h = (rw (pushed seen T) at h).0

    pub variables_pass : (vs : List Ty) → Formed lay (Γ before) → Passes (variables_check lay e before vs) (Formed lay (Γ (before ++ vs)))
    variables_pass vs formed = walk_passes (variable_check lay e before) (at_spot e.role e.rule (length before)) J variable_passes variable_back vs [] (rw append-nil formed)

  module _ (vs : List Ty) (formed : Formed lay (Γ vs)) where
    abbrev Typed : rules.Fact → Type 0
    Typed = FactTyped lay (Γ vs) (table_of e)

    abbrev terms : List ℕ → List Term
    terms ks = map (term_at e.owner e.rows) ks

    -- a predicate of a list
    listed_passes : (P : rules.Predicate) (x : Option Predicate) (args : List ℕ) →
        ((As : List rules.Argument) → table_of e P As → (p : Predicate) × (x ≡ Some p) × (As ≡ takes p)) → ((p : Predicate) → x ≡ Some p → table_of e P (takes p)) →
        Passes (listed_fact (over e vs) (ledger lay (over e vs) e.rows) x args) (Typed (rules.fact P (terms args)))
    listed_passes P None args there from = record {
      holds = λ h. not_zero (cc);
      passes = λ h. let is = (there h.0 h.1).1 in not_zero (cc);
    }
    listed_passes P (Some p) args there from =
        passes_as
        (λ h. (takes p, from p refl, h))
        (λ h.
        let w = there h.0 h.1 in
        let is : w.0 ≡ p = cc w.1 in
        let list : h.0 ≡ takes p = w.2 ∙ ap takes is in
        subst (rules.Agree lay (Γ vs) (terms args) (terms args)) list h.2)
        (fact_passes lay (over e vs) formed e.rows (vec_items p.arguments) args)

    symbol_passes : (sym' : Symbol) (args : List ℕ) → Passes (symbol_check (over e vs) (ledger lay (over e vs) e.rows) e sym' args) (Typed (rules.fact (symbol_of sym') (terms args)))
    symbol_passes symbol.Network args =
        passes_as
        (λ h. (argument_of a_message ∷ [], refl, h))
        (λ h. subst (rules.Agree lay (Γ vs) (terms args) (terms args)) h.1 h.2)
        (fact_passes lay (over e vs) formed e.rows (a_message ∷ []) args)
    symbol_passes (symbol.Memory m) args = listed_passes (rules.memory m) (predicate_at e.memory m) args (λ As h. h) (λ p h. (p, h, refl))
    symbol_passes (symbol.Role m) args = listed_passes (rules.role m) (predicate_at e.own m) args (λ As h. h) (λ p h. (p, h, refl))

    abbrev K : List Fact → Fact → Type 0
    K seen f = Typed (fact_of e f)

    abbrev All : List Fact → Type 0
    All fs = (f : rules.Fact) → f ∈ map (fact_of e) fs → Typed f

    fact_each : (seen : List Fact) (f : Fact) → Passes (fact_with (over e vs) (ledger lay (over e vs) e.rows) e seen f) (K seen f)
    fact_each seen f = symbol_passes f.symbol (vec_items f.rows)

    module _ (base : ℕ) where
      abbrev E : List Fact → List Fact → Type 0
      E = Each (fact_with (over e vs) (ledger lay (over e vs) e.rows) e) (at_spot e.role e.rule base) K fact_each

      each_all : (fs seen : List Fact) → E seen fs → All fs
      each_all [] seen h f m = elim m [ ]
      each_all (x ∷ fs) seen h f (Memᴰ.head i) = subst Typed (sym i) h.0
      each_all (x ∷ fs) seen h f (Memᴰ.tail m) = each_all fs (seen ++ x ∷ []) h.1 f m

      all_each : (fs seen : List Fact) → All fs → E seen fs
      all_each [] seen h = tt
      all_each (x ∷ fs) seen h = (h (fact_of e x) (Memᴰ.head refl), all_each fs (seen ++ x ∷ []) (λ f m. h f (Memᴰ.tail m)))

      pub facts_pass : (fs : List Fact) → Passes (facts_check lay e vs base fs) ((f : rules.Fact) → f ∈ map (fact_of e) fs → FactTyped lay (Γ vs) (table_of e) f)
      facts_pass fs = passes_as (each_all fs []) (all_each fs []) (walk_each (fact_with (over e vs) (ledger lay (over e vs) e.rows) e) (at_spot e.role e.rule base) K fact_each fs [])

  variables_are : (n : ℕ) (xs : List Ty) → Variables (declare (variable_decl e.owner) (1 + n) xs [])
  variables_are n xs i T m = ⊎_elim
      (λ none. elim none [ ])
      (λ h.
      let is : i ≡ Variable ((1 + n) + h.0) = cc h.3 in
      let number : (1 + n) + h.0 ≡ suc (n + h.0) = omega arith in
      (n + h.0, is ∙ ap Variable number))
      (declare_cases (variable_decl e.owner) (1 + n) xs [] (i ∶ T) m)

  module _ (formed₀ : Formed lay (Γ [])) (R : Rule) where
    abbrev us : List Ty
    us = vec_items R.universal

    abbrev ms : List Ty
    ms = vec_items R.made

    abbrev universal : Context
    universal = declare (variable_decl e.owner) 1 us []

    abbrev made : Context
    made = declare (variable_decl e.owner) (1 + length us) ms []

    universal_onto : universal ++ Γ [] ≡ Γ us
    universal_onto = sym (declare_onto (variable_decl e.owner) 1 us [] (Γ []))

    made_onto : made ++ (universal ++ Γ []) ≡ Γ (us ++ ms)
    made_onto =
        ap (λ Δ. made ++ Δ) universal_onto
        ∙ (sym (declare_onto (variable_decl e.owner) (1 + length us) ms [] (Γ us)) ∙ sym (declare_split (variable_decl e.owner) 1 us ms (Γ [])))

    abbrev typed : Context → Fact → Type 0
    typed Δ f = FactTyped lay Δ (table_of e) (fact_of e f)

    pub rule_passes : Passes (rule_check lay e R) (RuleTyped lay (Γ []) (table_of e) (rule_of e R))
    rule_passes =
        passes_as
        (λ h. record {
          variables = variables_are 0 us;
          made_variables = variables_are (length us) ms;
          formed = subst (Formed lay) (sym made_onto) h.1.1.0;
          left_typed = λ f m. subst (λ Δ. FactTyped lay Δ (table_of e) f) (sym universal_onto) (h.1.0 f m);
          right_typed = λ f m. subst (λ Δ. FactTyped lay Δ (table_of e) f) (sym made_onto) (h.1.1.1 f m);
        })
        (λ t. (
          subst (Formed lay) universal_onto (formed_below lay made (universal ++ Γ []) t.formed),
          (
            (λ f m. subst (λ Δ. FactTyped lay Δ (table_of e) f) universal_onto (t.left_typed f m)),
            (subst (Formed lay) made_onto t.formed, (λ f m. subst (λ Δ. FactTyped lay Δ (table_of e) f) made_onto (t.right_typed f m))),
          ),
        ))
        (then_passes same (variables_check lay e [] us) _ (variables_pass [] us formed₀)
        (λ formed₁. then_passes same (facts_check lay e us 0 (vec_items R.left)) _ (facts_pass us formed₁ 0 (vec_items R.left))
        (λ _. then_passes same (variables_check lay e us ms) _ (variables_pass us ms formed₁)
        (λ formed₂. facts_pass (us ++ ms) formed₂ (length (vec_items R.left)) (vec_items R.right)))))
