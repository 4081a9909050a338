-- The type check answers the first demand that is not met.
use Rattle.std.proofs.Common.{◌≡◌, ℕ, ◌+◌, Bool, true, false, List, [], ◌∷◌, ◌++◌, map, length, Some, None, Ok, Err, vec_items, Option, refl, ap, inl, inr, append-nil}
use Rattle.terms.specs.Held.{rows_of}
use Rattle.layouts.specs.Meanings.{Meaning}
use Rattle.layouts.specs.Laws.{Lawful}
use Rattle.judgments.specs.Typing.{Formed, TypeFormed, AllKnown}
use Rattle.judgments.proofs.Contexts.{not_zero}
use Rattle.refusals.specs.Walks.{Answer, pass, demand, and_then, walk}
use Rattle.types.specs.Judged.{type_of, context_of}
use Rattle.types.specs.Rows.{term_at}
use Rattle.types.specs.Names.{names_only, name_check, at_name, names_check}
use Rattle.types.specs.Predicates.{argument_formed, argument_check, same_place, arguments_formed, first_principal, predicate_check, listed_check, predicates_check}
use Rattle.refusals.specs.Faults.{at_spot}
use Rattle.types.specs.Facts.{ledger, arguments_check, fact_check}
use Rattle.types.specs.Rules.{Place, over, same, variable_check, variables_check, predicate_at, a_message, listed_fact, symbol_check, fact_with, facts_check, rule_check}
use Rattle.types.specs.Theories.{here, place_of, numbered_check, rules_check, anchor_check, role_at, placed_check, roles_check, theory_check}
use Rattle.types.specs.Typed.{signature, AnchorTyped}
use Rattle.refusals.specs.Demands.{Lines, First, carried, lines}
use Rattle.types.specs.Demands.{refusal_of, numbered, name_lines, predicate_lines, argument_lines, listed_lines, found_lines, symbol_lines, fact_lines, facts_lines, variable_lines, variables_lines, rule_lines, predicates_lines, role_lines, fault_lines, theory_lines}
use Rattle.refusals.proofs.Deciding.{decides_and, decides_same}
use Rattle.refusals.proofs.Demanding.{first_demand, first_then, first_walk}
use Rattle.types.proofs.Signatures.{in_range_decides, new_decides, name_passes, names_judged, type_formed_decides, suited_decides}
use Rattle.types.proofs.Facted.{all_known_decides, argument_decides}
use Rattle.types.proofs.Ruled.{variable_passes, variables_pass}
use Rattle.types.proofs.Predicated.{arguments_pass, first_decides}
use Rattle.types.proofs.Theoried.{owner_formed}
use Rattle.terms.specs.declared.row.Item.TheVariants.{Name}
use Rattle.theory.specs.Data.{Ty}
use Rattle.terms.specs.declared.row.Row.{Row}
use Rattle.theory.specs.declared.data.Declared.{Declared}
use Rattle.theory.specs.declared.owner.Owner.TheVariants.{Nobody}
use Rattle.theory.specs.Data.{Argument}
use Rattle.theory.specs.declared.data.Predicate.{Predicate}
use Rattle.theory.specs.declared.data.Symbol.{Symbol}
use Rattle.theory.specs.declared.data.Fact.{Fact}
use Rattle.theory.specs.declared.data.Rule.{Rule}
use Rattle.theory.specs.declared.data.Role.{Role}
use Rattle.theory.specs.declared.data.Theory.{Theory}
use Rattle.types.specs.declared.faults.Ill.{Ill}
use Rattle.types.specs.declared.faults.Ill.TheVariants.{Taken, Unformed, NoPrincipal, Count, Undeclared, Lacks}
use Rattle.types.specs.Faults.{TypeFault}
use Rattle.types.specs.Theories as theories
use Rattle.theory.specs.declared.data.Symbol.TheVariants as symbol

-- a table told by six numbers
first_numbered : (xs : Lines TypeFault) (r : Answer TypeFault) → First xs r → First (carried refusal_of xs) (numbered r)
first_numbered [] r h = ap numbered h
first_numbered (l ∷ xs) r (inl h) = inl (h.0, ap numbered h.1)
first_numbered (l ∷ xs) r (inr h) = inr (h.0, first_numbered xs r h.1)

module _ (lay : Meaning) where
  names_first : (ds : List Declared) → First (lines (name_lines lay) at_name [] ds) (names_check lay ds)
  names_first ds = first_walk (name_check lay) (name_lines lay) at_name (λ seen. Formed lay (signature seen))
      (λ seen d formed.
      first_demand Taken _ _ ((Unformed, TypeFormed lay (signature seen) (type_of Nobody d.of)) ∷ []) _ (decides_and (in_range_decides lay d.name) (new_decides lay seen d.name))
      (λ _. first_demand Unformed _ _ [] pass (type_formed_decides lay (names_only seen) formed d.of) (λ _. refl)))
      (λ seen d formed e. (name_passes lay seen d formed).holds e) ds [] (tt {0})

  module _ (ds : List Declared) (formed : Formed lay (signature ds)) where
    -- an ill argument type is told as such, wherever it stands
    only_unformed : (As seen : List Argument) (f : Ill) → walk (argument_check lay ds) same_place seen As ≡ Err f → f ≡ Unformed
    only_unformed [] seen f e = not_zero (cc)
    only_unformed (A ∷ As) seen f e = go (argument_formed lay ds seen A) e (only_unformed As (seen ++ A ∷ []) f)
      where
        go : (b : Bool) → and_then (same_place (length seen + 1)) (demand b Unformed pass) (walk (argument_check lay ds) same_place (seen ++ A ∷ []) As) ≡ Err f → (walk (argument_check lay ds) same_place (seen ++ A ∷ []) As ≡ Err f → f ≡ Unformed) → f ≡ Unformed
        go true e rest = rest e
        go false e rest = cc

    predicate_first : (P : Predicate) → First (predicate_lines lay ds [] P) (predicate_check lay ds (vec_items P.arguments))
    predicate_first P = go (arguments_formed lay ds (vec_items P.arguments)) refl
      where
        go : (a : Answer Ill) → arguments_formed lay ds (vec_items P.arguments) ≡ a → First (predicate_lines lay ds [] P) (and_then (λ f. f) a (demand (first_principal (vec_items P.arguments)) NoPrincipal pass))
        go (Ok u) e = inr ((arguments_pass lay ds formed (vec_items P.arguments)).holds e, first_demand NoPrincipal _ _ [] pass (first_decides lay ds formed (vec_items P.arguments)) (λ _. refl))
        go (Err f) e = inl ((λ p. not_zero (cc (e, (arguments_pass lay ds formed (vec_items P.arguments)).passes p))), ap (λ f. Err f) (only_unformed (vec_items P.arguments) [] f e))

    predicates_first : (role base : ℕ) (Ps : List Predicate) → First (predicates_lines lay ds role base Ps) (predicates_check lay ds role base Ps)
    predicates_first role base Ps = first_walk (listed_check lay ds) (predicate_lines lay ds) (at_spot role 0 base) (λ seen. Unit {0}) (λ seen P j. predicate_first P) (λ seen P j e. tt {0}) Ps [] (tt {0})

  module _ (e : Place) (vs : List Ty) (formed : Formed lay (context_of (over e vs))) where
    arguments_first : (all ks : List ℕ) (As : List Argument) → First (argument_lines lay (context_of (over e vs)) (term_at e.owner e.rows) all ks As) (arguments_check (over e vs) (ledger lay (over e vs) e.rows) all ks As)
    arguments_first all [] As = refl
    arguments_first all (k ∷ ks) [] = refl
    arguments_first all (k ∷ ks) (A ∷ As) = first_demand (Lacks k) _ _ (argument_lines lay (context_of (over e vs)) (term_at e.owner e.rows) all ks As) _ (argument_decides lay (over e vs) formed e.rows all k A) (λ _. arguments_first all ks As)

    listed_first : (args : List ℕ) (As : List Argument) → First (listed_lines lay (context_of (over e vs)) (term_at e.owner e.rows) args As) (fact_check (over e vs) (ledger lay (over e vs) e.rows) As args)
    listed_first args As =
        first_demand Count _ _ ((Undeclared, AllKnown (context_of (over e vs)) (map (term_at e.owner e.rows) args)) ∷ argument_lines lay (context_of (over e vs)) (term_at e.owner e.rows) args args As) _ (decides_same (length args) (length As))
        (λ _. first_demand Undeclared _ _ (argument_lines lay (context_of (over e vs)) (term_at e.owner e.rows) args args As) _ (all_known_decides lay (over e vs) formed e.rows args) (λ _. arguments_first args args As))

    found_first : (x : Option Predicate) (args : List ℕ) → First (found_lines lay (context_of (over e vs)) (term_at e.owner e.rows) args x) (listed_fact (over e vs) (ledger lay (over e vs) e.rows) x args)
    found_first None args = inl ((λ no_way. no_way), refl)
    found_first (Some P) args = listed_first args (vec_items P.arguments)

    symbol_first : (s : Symbol) (args : List ℕ) → First (symbol_lines lay e (context_of (over e vs)) s args) (symbol_check (over e vs) (ledger lay (over e vs) e.rows) e s args)
    symbol_first symbol.Network args = listed_first args (a_message ∷ [])
    symbol_first (symbol.Memory m) args = found_first (predicate_at e.memory m) args
    symbol_first (symbol.Role p) args = found_first (predicate_at e.own p) args

    facts_first : (base : ℕ) (fs : List Fact) → First (facts_lines lay e vs base fs) (facts_check lay e vs base fs)
    facts_first base fs =
        first_walk (fact_with (over e vs) (ledger lay (over e vs) e.rows) e) (fact_lines lay e vs) (at_spot e.role e.rule base) (λ seen. Unit {0}) (λ seen f j. symbol_first f.symbol (vec_items f.rows)) (λ seen f j h. tt {0}) fs [] (tt {0})

  module _ (e : Place) where
    variables_first : (before vs : List Ty) → Formed lay (context_of (over e before)) → First (variables_lines lay e before vs) (variables_check lay e before vs)
    variables_first before vs formed =
        first_walk (variable_check lay e before) (variable_lines lay e before) (at_spot e.role e.rule (length before)) (λ seen. Formed lay (context_of (over e (before ++ seen))))
        (λ seen T f. first_demand Unformed _ _ [] pass (type_formed_decides lay (over e (before ++ seen)) f T) (λ _. refl))
        (λ seen T f h. (variable_passes lay e before seen T f).holds h) vs [] (rw append-nil formed)

    rule_first : Formed lay (context_of (over e [])) → (R : Rule) → First (rule_lines lay e R) (rule_check lay e R)
    rule_first formed R =
        let us = vec_items R.universal in
        let ms = vec_items R.made in
        let ls = vec_items R.left in
        let rs = vec_items R.right in
        first_then same (variables_lines lay e [] us) _ (variables_check lay e [] us) _ (variables_first [] us formed)
        (λ p. let formed₁ = (variables_pass lay e [] us formed).holds p in
        first_then same (facts_lines lay e us 0 ls) _ (facts_check lay e us 0 ls) _ (facts_first e us formed₁ 0 ls)
        (λ _. first_then same (variables_lines lay e us ms) _ (variables_check lay e us ms) _ (variables_first us ms formed₁)
        (λ q. facts_first e (us ++ ms) ((variables_pass lay e us ms formed₁).holds q) (length ls) rs)))

  module _ (law : Lawful lay) (ds : List Declared) (formed : Formed lay (signature ds)) (memory : List Predicate) (rows : List Row) where
    anchor_first : (n : ℕ) (anchor : Option ℕ) → First ((record { role = n; rule = 0; spot = 0; why = NoPrincipal }, AnchorTyped ds anchor) ∷ []) (anchor_check ds n anchor)
    anchor_first n None = inr (tt {0}, refl)
    anchor_first n (Some a) = first_demand _ _ _ [] pass (suited_decides lay (names_only ds) formed (Name a) 1) (λ _. refl)

    role_first : (n : ℕ) (R : Role) → First (role_lines lay ds memory rows n R) (role_at lay ds memory rows n R)
    role_first n R =
        let Ps = vec_items R.predicates in
        let e = place_of ds memory rows n R.anchor Ps in
        first_then same ((record { role = n; rule = 0; spot = 0; why = NoPrincipal }, AnchorTyped ds R.anchor) ∷ []) _ (anchor_check ds n R.anchor) _ (anchor_first n R.anchor)
        (λ _. first_then same (predicates_lines lay ds n 0 Ps) _ (predicates_check lay ds n 0 Ps) _ (predicates_first ds formed n 0 Ps)
        (λ _. first_walk (numbered_check lay e) (λ seen r. rule_lines lay (theories.numbered e (length seen + 1)) r) here (λ seen. Unit {0})
        (λ seen r j. rule_first (theories.numbered e (length seen + 1)) (owner_formed lay ds formed law R.anchor) r) (λ seen r j h. tt {0}) (vec_items R.rules) [] (tt {0})))

  fault_first : Lawful lay → (T : Theory) → First (fault_lines lay T) (theory_check lay T)
  fault_first law T =
      let ds = vec_items T.names in
      let memory = vec_items T.memory in
      let rows = rows_of T.book in
      first_then same (lines (name_lines lay) at_name [] ds) _ (names_check lay ds) _ (names_first ds)
      (λ p. let formed = (names_judged lay ds).holds p in
      first_then same (predicates_lines lay ds 0 (length ds) memory) _ (predicates_check lay ds 0 (length ds) memory) _ (predicates_first ds formed 0 (length ds) memory)
      (λ _. first_walk (placed_check lay ds memory rows) (λ seen R. role_lines lay ds memory rows (length seen + 1) R) here (λ seen. Unit {0})
      (λ seen R j. role_first law ds formed memory rows (length seen + 1) R) (λ seen R j h. tt {0}) (vec_items T.roles) [] (tt {0})))

  pub theory_first : Lawful lay → (T : Theory) → First (theory_lines lay T) (numbered (theory_check lay T))
  theory_first law T = first_numbered (fault_lines lay T) (theory_check lay T) (fault_first law T)
