-- What the table check sees to.
use Rattle.std.proofs.Common.{◌≡◌, ℕ, ◌+◌, ◌≤◌, Bool, true, false, leb, List, [], ◌∷◌, ◌++◌, length, Ok, Err, vec_items, vec_len, refl, ap, ◌∙◌, arith}
use mathlib.Core.List.Memᴰ
use Rattle.judgments.specs.Contexts.{◌∈◌}
use Rattle.refusals.proofs.Deciding.{clash}
use Rattle.refusals.specs.Walks.{Answer, pass, demand, and_then, walk}
use Rattle.std.proofs.lemmas.Bool.{leb-true, and_parts}
use Rattle.terms.specs.Held.{rows_of}
use Rattle.theory.specs.Counts.{count_check, placed_rule_counts, placed_role_counts, counts_check}
use Rattle.theory.specs.Missing.{symbol_there, rows_there, fact_missing, at_spot, placed_rule_missing, with_own, placed_role_missing, sizes_of, missing_check}
use Rattle.theory.specs.Tables.{tables_check}
use Rattle.theory.specs.Counts as counts
use Rattle.theory.specs.Missing as missing
use Rattle.theory.specs.declared.data.Fact.{Fact}
use Rattle.theory.specs.declared.data.Role.{Role}
use Rattle.theory.specs.declared.data.Theory.{Theory}
use Rattle.access.specs.Tabled.{FactsThere, RolesTabled}

then_parts : {F G : Type 0} (up : F → G) (a : Answer F) (r : Answer G) → and_then up a r ≡ pass → (a ≡ pass) × (r ≡ pass)
then_parts up (Ok u) r h = (refl, h)
then_parts up (Err f) r h = clash (cc)

demanded : {F : Type 0} (b : Bool) (f : F) → demand b f pass ≡ pass → b ≡ true
demanded true f h = refl
demanded false f h = clash (cc)

counted : (n limit role rule : ℕ) → count_check n limit role rule ≡ pass → n ≤ limit
counted n limit role rule h = leb-true n limit (demanded (leb n limit) _ h)

-- each element of a walk that passes was passed
each_passed : {X F G : Type 0} (check : List X → X → Answer F) (place : ℕ → F → G) (xs seen : List X) → walk check place seen xs ≡ pass → (x : X) → x ∈ xs → (before : List X) × (check before x ≡ pass)
each_passed check place [] seen h x m = elim m [ ]
each_passed check place (y ∷ xs) seen h x (Memᴰ.head e) = (seen, ap (check seen) e ∙ (then_parts (place (length seen + 1)) (check seen y) _ h).0)
each_passed check place (y ∷ xs) seen h x (Memᴰ.tail m) = each_passed check place xs (seen ++ y ∷ []) (then_parts (place (length seen + 1)) (check seen y) _ h).1 x m

facts_there : (s : _) (role rule base : ℕ) (fs : List Fact) → walk (fact_missing s) (at_spot role rule base) [] fs ≡ pass → FactsThere s.rows fs
facts_there s role rule base fs h f m =
    let one = each_passed (fact_missing s) (at_spot role rule base) fs [] h f m in
    (and_parts (symbol_there s f.symbol) (rows_there s.rows (vec_items f.rows)) (demanded _ _ one.1)).1

module _ (T : Theory) (h : tables_check T [] ≡ pass) where
  counts_pass : counts_check T [] ≡ pass
  counts_pass = (then_parts counts.same (counts_check T []) (missing_check T []) h).0

  missing_pass : missing_check T [] ≡ pass
  missing_pass = (then_parts counts.same (counts_check T []) (missing_check T []) h).1

  roles_counted : (R : Role) → R ∈ vec_items T.roles → (before : List Role) × (placed_role_counts before R ≡ pass)
  roles_counted R m =
      let a = (then_parts counts.same (count_check (vec_len T.names) 128 0 0) _ counts_pass).1 in
      let b = (then_parts counts.same (count_check (vec_len T.memory) 16 0 0) _ a).1 in
      let c = (then_parts counts.same (counts.predicates_counts 0 (vec_items T.memory)) _ b).1 in
      let d = (then_parts counts.same (count_check (vec_len T.roles) 16 0 0) _ c).1 in
      let e = (then_parts counts.same (count_check (counts.rules_in_all (vec_items T.roles)) 64 0 0) _ d).1 in
      each_passed placed_role_counts counts.here (vec_items T.roles) [] (then_parts counts.same (counts.roles_counts (vec_items T.roles)) _ e).0 R m

  roles_there : (R : Role) → R ∈ vec_items T.roles → (before : List Role) × (placed_role_missing (sizes_of T) before R ≡ pass)
  roles_there R m =
      let a = (then_parts counts.same (missing.predicates_missing 0 (vec_len T.names) (vec_items T.memory)) _ missing_pass).1 in
      each_passed (placed_role_missing (sizes_of T)) counts.here (vec_items T.roles) [] (then_parts counts.same (missing.roles_missing (sizes_of T) (vec_items T.roles)) _ a).0 R m

  pub roles_tabled : RolesTabled (length (rows_of T.book)) (vec_items T.roles)
  roles_tabled R m r k =
      let c = roles_counted R m in
      let n = length c.0 + 1 in
      let c₁ = (then_parts counts.same (count_check (length (vec_items R.predicates)) 4 n 0) _ c.1).1 in
      let c₂ = (then_parts counts.same (counts.predicates_counts n (vec_items R.predicates)) _ c₁).1 in
      let one = each_passed (placed_rule_counts n) counts.here (vec_items R.rules) [] c₂ r k in
      let k₁ = length one.0 + 1 in
      let u = then_parts counts.same (count_check (vec_len r.universal) 15 n k₁) _ one.1 in
      let l = then_parts counts.same (count_check (vec_len r.left) 8 n k₁) _ u.1 in
      let v = then_parts counts.same (count_check (vec_len r.made) 8 n k₁) _ l.1 in
      let t = roles_there R m in
      let t₁ = (then_parts counts.same (missing.predicates_missing (length t.0 + 1) 0 (vec_items R.predicates)) _ t.1).1 in
      let two = each_passed (placed_rule_missing (with_own (sizes_of T) (length (vec_items R.predicates))) (length t.0 + 1)) counts.here (vec_items R.rules) [] t₁ r k in
      let w = then_parts counts.same (missing.facts_missing (with_own (sizes_of T) (length (vec_items R.predicates))) (length t.0 + 1) (length two.0 + 1) 0 (vec_items r.left)) _ two.1 in
      record {
        universals = omega (arith, counted (vec_len r.universal) 15 n k₁ u.0, r.universal.ok.0);
        lefts = omega (arith, counted (vec_len r.left) 8 n k₁ l.0, r.left.ok.0);
        mades = omega (arith, counted (vec_len r.made) 8 n k₁ v.0, r.made.ok.0);
        rights = omega (arith, counted (vec_len r.right) 8 n k₁ v.1, r.right.ok.0);
        left_there = facts_there (with_own (sizes_of T) (length (vec_items R.predicates))) (length t.0 + 1) (length two.0 + 1) 0 (vec_items r.left) w.0;
        right_there = facts_there (with_own (sizes_of T) (length (vec_items R.predicates))) (length t.0 + 1) (length two.0 + 1) (length (vec_items r.left)) (vec_items r.right) w.1;
      }
