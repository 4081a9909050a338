-- The tests of a rule decide its demands.
use Rattle.std.proofs.Common.{◌≡◌, ℕ, zero, suc, ◌+◌, ◌-◌, ◌<◌, ◌≤◌, Bool, true, false, cond, not, ◌&&◌, ltb, leb, ◌⊎◌, List, [], ◌∷◌, ◌++◌, map, length, get_or, take, Some, Option, Ok, Err, vec_items, filter, sym, refl, ap, ◌∙◌, subst, ap₂, subst₂, inl, inr, ⊎_elim, arith}
use mathlib.Core.List.Memᴰ
use mathlib.Core.List.{map-append}
use Rattle.judgments.proofs.Accessed.{received_weakened, held_weakened, opens_weakened}
use Rattle.judgments.specs.Access.{Held, Opened, Built, basic, pairs, seals, locks, InRule, held, fresh, Begins, Owned}
use Rattle.judgments.specs.Contexts.{Ty, Decl, ◌∶◌, Context, ◌∈◌}
use Rattle.judgments.specs.Rules.{arguments}
use Rattle.judgments.specs.Rules as rules
use Rattle.layouts.specs.Meanings.{Meaning}
use Rattle.reading.proofs.Filled.{fill_here, fill_before}
use Rattle.reading.proofs.Granting.{same_decides}
use Rattle.reading.proofs.Shapes.{key, shaped}
use Rattle.reading.specs.Openers.{reads_as}
use Rattle.reading.specs.Scopes.{context}
use Rattle.reading.specs.Told.{argument_rows, left_terms, Told}
use Rattle.refusals.proofs.Deciding.{clash, decides_and, decides_as, decides_never, decides_always}
use Rattle.refusals.proofs.Demanding.{first_demand, first_then}
use Rattle.refusals.specs.Decides.{Decides}
use Rattle.refusals.specs.Demands.{Lines, First, lines}
use Rattle.refusals.specs.Walks.{Answer, pass, demand, and_then, walk}
use Rattle.std.proofs.lemmas.List.{length-take-le}
use Rattle.std.proofs.lemmas.Option.{slice_get-get_or}
use Rattle.std.proofs.lemmas.Bool.{and_parts, and_from, or_cases, or_left, or_right, ltb-true, leb-true, lt-ltb, le-leb}
use Rattle.terms.proofs.Booked.{Earlier, earlier}
use Rattle.terms.proofs.Numbered.{row_within, row_there, is_row_from, nth_within}
use Rattle.terms.specs.Books.{is_book}
use Rattle.terms.specs.Rows.{is_row}
use Rattle.terms.specs.Terms.{Term, item, pair, seal, lock}
use Rattle.terms.specs.declared.row.Item.{Item}
use Rattle.terms.specs.declared.row.Item.TheVariants.{Name, Variable}
use Rattle.terms.specs.declared.row.Row.{Row}
use Rattle.terms.specs.declared.row.Row.TheVariants as row
use Rattle.theory.specs.Missing.{rows_there}
use Rattle.theory.specs.Owners.{owner_item, item_of}
use Rattle.theory.specs.declared.data.Fact.{Fact}
use Rattle.theory.specs.declared.data.Symbol.{Symbol}
use Rattle.theory.specs.declared.data.Symbol.TheVariants as symbol
use Rattle.theory.specs.Data as tables
use Rattle.theory.specs.declared.owner.Owner.{Owner}
use Rattle.types.proofs.Found.{declare_at, declare_cases}
use Rattle.types.specs.Facts.{item_in}
use Rattle.types.specs.Judged.{type_of, declare, variable_decl}
use Rattle.types.specs.Rows.{at, row_at, term_at}
use Rattle.types.specs.Rules.{Place}
use Rattle.types.specs.Scopes.{a_principal}
use Rattle.types.specs.Typed.{symbol_of, fact_of}
use Rattle.access.proofs.Closing.{at_next, closed_first}
use Rattle.access.proofs.Scoped.{scope_declared, declared_scope}
use Rattle.access.specs.Demands.{Parts, before_made, left_of, owner_lines, made_lines, argument_lines, built_lines, parts_lines}
use Rattle.refusals.specs.Faults.{at_spot}
use Rattle.access.specs.Places.{same}
use Rattle.access.specs.Scopes.{rule_scope}
use Rattle.access.specs.Tabled.{FactsThere, PartsTabled}
use Rattle.access.specs.Tests.{is_owner, begins, owned, owner_check, owners_check, closed_rows_check, made_check, all_made_check, is_made, can_build, can_by, can_rows, none_unbuilt, arguments_check, built_check, all_built_check, reading_check}
use Rattle.access.specs.Faults.{AccessFault}
use Rattle.access.specs.declared.faults.Denied.TheVariants.{NotOwner, NotMakeable, NotBuildable}

-- ---- tables of demands
-- one after another, in one table
pub first_append : (xs ys : Lines AccessFault) (a r : Answer AccessFault) → First xs a → (a ≡ pass → First ys r) → First (xs ++ ys) (and_then same a r)
first_append [] ys a r h k = rw h (k h)
first_append (l ∷ xs) ys a r (inl h) k = inl (h.0, ap (λ a. and_then same a r) h.1)
first_append (l ∷ xs) ys a r (inr h) k = inr (h.0, first_append xs ys a r h.1 k)

-- the tables of a list's elements, of which something is known
module _ {X F G : Type 0} (check : List X → X → Answer F) (each : List X → X → Lines F) (place : ℕ → F → G) (K : X → Type 0) (step : (seen : List X) (x : X) → K x → First (each seen x) (check seen x)) where
  pub first_each : (xs seen : List X) → ((x : X) → x ∈ xs → K x) → First (lines each place seen xs) (walk check place seen xs)
  first_each [] seen h = refl
  first_each (x ∷ xs) seen h =
      first_then (place (length seen + 1)) (each seen x) (lines each place (seen ++ x ∷ []) xs) (check seen x) (walk check place (seen ++ x ∷ []) xs) (step seen x (h x (Memᴰ.head refl))) (λ _. first_each xs (seen ++ x ∷ []) (λ y m. h y (Memᴰ.tail m)))

-- ---- arguments that are rows
pub row_of_there : (n : ℕ) (ks : List ℕ) → rows_there n ks ≡ true → (k : ℕ) → k ∈ ks → is_row n k ≡ true
row_of_there n [] h k m = elim m [ ]
row_of_there n (j ∷ ks) h k (Memᴰ.head e) = ap (is_row n) e ∙ (and_parts (is_row n j) (rows_there n ks) h).0
row_of_there n (j ∷ ks) h k (Memᴰ.tail m) = row_of_there n ks (and_parts (is_row n j) (rows_there n ks) h).1 k m

kept_there : (n : ℕ) (ks xs : List ℕ) → rows_there n ks ≡ true → filter (is_row n) (ks ++ xs) ≡ ks ++ filter (is_row n) xs
kept_there n [] xs h = refl
kept_there n (k ∷ ks) xs h =
    let p = and_parts (is_row n k) (rows_there n ks) h in
    let is : is_row n k ≡ true = p.0 in
    rw is (ap (λ ys. k ∷ ys) (kept_there n ks xs p.1))

-- the arguments' terms, all of them
pub left_same : (e : Place) (fs : List Fact) → FactsThere (length e.rows) fs → left_terms e.owner e.rows fs ≡ arguments (map (fact_of e) fs)
left_same e [] h = refl
left_same e (f ∷ fs) h =
    ap (map (term_at e.owner e.rows)) (kept_there (length e.rows) (vec_items f.rows) (argument_rows fs) (h f (Memᴰ.head refl)))
    ∙ map-append (term_at e.owner e.rows) (vec_items f.rows) (filter (is_row (length e.rows)) (argument_rows fs))
    ∙ ap (λ ts. map (term_at e.owner e.rows) (vec_items f.rows) ++ ts) (left_same e fs (λ g m. h g (Memᴰ.tail m)))

-- ---- the same declarations
opened_as : (lay : Meaning) (Γ Δ : Context) → ((d : Decl) → d ∈ Γ → d ∈ Δ) → ((d : Decl) → d ∈ Δ → d ∈ Γ) → (o : Item) (left : List Term) (t : Term) → Opened lay Γ o left t → Opened lay Δ o left t
opened_as lay Γ Δ to from o left (item i) h = tt
opened_as lay Γ Δ to from o left (pair s t) h = tt
opened_as lay Γ Δ to from o left (seal t k) h = λ x. held_weakened lay to (h (received_weakened lay from x))
opened_as lay Γ Δ to from o left (lock t k) h = λ x. let y = h (received_weakened lay from x) in (y.0, opens_weakened lay to y.1, held_weakened lay to y.2)

pub told_over : (lay : Meaning) (Γ Δ : Context) → ((d : Decl) → d ∈ Γ → d ∈ Δ) → ((d : Decl) → d ∈ Δ → d ∈ Γ) → (o : Owner) (rows : List Row) (left : List Term) (hs cs : List Bool) → Told lay Γ o rows left hs cs → Told lay Δ o rows left hs cs
told_over lay Γ Δ to from o rows left hs cs t = record {
  held_told = λ k i e. decides_as (held_weakened lay to) (held_weakened lay from) (t.held_told k i e);
  closed_told = λ k. decides_as (opened_as lay Γ Δ to from (owner_item o) left (term_at o rows k)) (opened_as lay Δ Γ from to (owner_item o) left (term_at o rows k)) (t.closed_told k);
  row_told = λ s x. t.row_told s (received_weakened lay from x);
}

module _ (e : Place) (book : is_book e.rows ≡ true) where
  abbrev o : Owner
  o = e.owner

  abbrev rows : List Row
  rows = e.rows

  abbrev me : Item
  me = owner_item o

  abbrev term : ℕ → Term
  term k = term_at o rows k

  there : (k : ℕ) → is_row (length rows) k ≡ true → (r : Row) × (row_at rows k ≡ Some r)
  there k h = let w = is_row_from (length rows) k h in (_, row_there rows k (row.Pair 0 0) w.0 w.1)

  -- ---- the owner
  owner_decides : (k : ℕ) (r : Row) → row_at rows k ≡ Some r → Decides (reads_as o me r) (term k ≡ item me)
  owner_decides k (row.Item i) e = decides_as (λ q. shaped o rows book k (row.Item i) e ∙ ap item q) (λ q. cc (shaped o rows book k (row.Item i) e)) (same_decides (item_of o i) me)
  owner_decides k (row.Pair a b) e = decides_never (λ q. clash (cc (shaped o rows book k (row.Pair a b) e)))
  owner_decides k (row.Seal c j) e = decides_never (λ q. clash (cc (shaped o rows book k (row.Seal c j) e)))
  owner_decides k (row.Lock c j) e = decides_never (λ q. clash (cc (shaped o rows book k (row.Lock c j) e)))

  begins_decides : (ks : List ℕ) → rows_there (length rows) ks ≡ true → Decides (begins o rows ks) (Begins me (map term ks))
  begins_decides [] h = decides_never (λ q. q)
  begins_decides (k ∷ ks) h =
      let r = there k (and_parts (is_row (length rows) k) (rows_there (length rows) ks) h).0 in
      subst (λ x. Decides (is_owner o x) (term k ≡ item me)) (sym r.1) (owner_decides k r.0 r.1)

  owned_decides : (s : Symbol) (ks : List ℕ) → rows_there (length rows) ks ≡ true → Decides (owned o rows s ks) (Owned me (rules.fact (symbol_of s) (map term ks)))
  owned_decides symbol.Network ks h = decides_always (tt {0})
  owned_decides (symbol.Memory m) ks h = begins_decides ks h
  owned_decides (symbol.Role p) ks h = begins_decides ks h

  pub owner_first : (seen : List Fact) (f : Fact) → rows_there (length rows) (vec_items f.rows) ≡ true → First (owner_lines e seen f) (owner_check e seen f)
  owner_first seen f h = first_demand NotOwner _ _ [] pass (owned_decides f.symbol (vec_items f.rows) h) (λ _. refl)

  -- ---- what can be built
  module _ (lay : Meaning) (Γ : Context) (left : List Term) (hs cs : List Bool) (told : Told lay Γ o rows left hs cs) (u : ℕ) (ms : List tables.Ty) where
    abbrev made : Context
    made = declare (variable_decl o) (1 + u) ms []

    abbrev Can : Term → Type 0
    Can = Built (InRule lay Γ me left made)

    abbrev can : List Bool
    can = can_rows o u (length ms) hs rows

    made_in : (v : ℕ) → u < v → v ≤ u + length ms → (T : Ty) × (Variable v ∶ T ∈ made)
    made_in v low high =
        let k = v - (1 + u) in
        let T = get_or ms k a_principal in
        let number : 1 + u + k ≡ v = omega arith in
        (type_of o T, subst (λ n. Variable n ∶ type_of o T ∈ made) number (declare_at (variable_decl o) (1 + u) ms [] k T (slice_get-get_or ms k a_principal (omega arith))))

    in_made : (i : Item) (T : Ty) → i ∶ T ∈ made → (v : ℕ) × (i ≡ Variable v) × (u < v) × (v ≤ u + length ms)
    in_made i T m = ⊎_elim
        (λ none. elim none [ ])
        (λ h.
        let is : i ≡ Variable (1 + u + h.0) = cc h.3 in
        let place = nth_within ms h.0 h.1 h.2 in
        (1 + u + h.0, is, omega arith, omega arith))
        (declare_cases (variable_decl o) (1 + u) ms [] (i ∶ T) m)

    made_decides : (i : Item) → Decides (is_made u (length ms) i) ((T : Ty) × (i ∶ T ∈ made))
    made_decides (Name n) = decides_never (λ h. let v = in_made (Name n) h.0 h.1 in clash (cc v.1))
    made_decides (Variable v) = record {
      sound = λ h. let p = and_parts (ltb u v) (leb (v - u) (length ms)) h in made_in v (ltb-true u v p.0) (omega (arith, ltb-true u v p.0, leb-true (v - u) (length ms) p.1));
      complete = λ h.
          let w = in_made (Variable v) h.0 h.1 in
          let is : w.0 ≡ v = cc w.1 in
          and_from _ _ (lt-ltb u v (omega (arith, w.2))) (le-leb (v - u) (length ms) (omega (arith, w.3)));
    }

    -- what a built term was built of
    built_item : (t : Term) (i : Item) → t ≡ item i → Can t → Held lay Γ me left i ⊎ ((T : Ty) × (i ∶ T ∈ made))
    built_item t i e (basic (held {i = j} h)) = let is : j ≡ i = cc in inl (subst (Held lay Γ me left) is h)
    built_item t i e (basic (fresh {i = j} {T = T} m)) = let is : j ≡ i = cc in inr (T, subst (λ i. i ∶ T ∈ made) is m)
    built_item t i e (pairs x y) = clash (cc)
    built_item t i e (seals x y) = clash (cc)
    built_item t i e (locks x y) = clash (cc)

    built_pair : (t a b : Term) → t ≡ pair a b → Can t → Can a × Can b
    built_pair t a b e (basic (held h)) = clash (cc)
    built_pair t a b e (basic (fresh m)) = clash (cc)
    built_pair t a b e (pairs {s = c} {t = d} x y) = let p : c ≡ a = cc in let q : d ≡ b = cc in (subst Can p x, subst Can q y)
    built_pair t a b e (seals x y) = clash (cc)
    built_pair t a b e (locks x y) = clash (cc)

    built_seal : (t c : Term) (k : Item) → t ≡ seal c k → Can t → Can c × Can (item k)
    built_seal t c k e (basic (held h)) = clash (cc)
    built_seal t c k e (basic (fresh m)) = clash (cc)
    built_seal t c k e (pairs x y) = clash (cc)
    built_seal t c k e (seals {t = d} {k = j} x y) = let p : d ≡ c = cc in let q : j ≡ k = cc in (subst Can p x, subst (λ k. Can (item k)) q y)
    built_seal t c k e (locks x y) = clash (cc)

    built_lock : (t c : Term) (k : Item) → t ≡ lock c k → Can t → Can c × Can (item k)
    built_lock t c k e (basic (held h)) = clash (cc)
    built_lock t c k e (basic (fresh m)) = clash (cc)
    built_lock t c k e (pairs x y) = clash (cc)
    built_lock t c k e (seals x y) = clash (cc)
    built_lock t c k e (locks {t = d} {k = j} x y) = let p : d ≡ c = cc in let q : j ≡ k = cc in (subst Can p x, subst (λ k. Can (item k)) q y)

    numbered : (k : ℕ) (r : Row) → row_at rows k ≡ Some r → length (take (k - 1) rows) + 1 ≡ k
    numbered k r e = let w = row_within rows k r e in let t = length-take-le (k - 1) rows (omega arith) in omega arith

    module _ (k : ℕ) (earlier_can : (a : ℕ) (q : Row) → row_at rows a ≡ Some q → a < k → Decides (at false can a) (Can (term a))) where
      -- the flags so far
      abbrev before : List Bool
      before = can_rows o u (length ms) hs (take (k - 1) rows)

      part_decides : (r : Row) → row_at rows k ≡ Some r → (a : ℕ) → Earlier k a → Decides (at false before a) (Can (term a))
      part_decides r e a early =
          let w = row_within rows k r e in
          let q = row_there rows a r early.0 (omega (arith, early.1)) in
          subst (λ b. Decides b (Can (term a))) (sym (fill_before (can_by o u (length ms) hs) false rows (k - 1) a (omega arith) (omega (arith, early.1)))) (earlier_can a _ q early.1)

      key_decides : (r : Row) → row_at rows k ≡ Some r → (j : ℕ) (i : Item) → Earlier k j → row_at rows j ≡ Some (row.Item i) → Decides (at false before j) (Can (item (key o rows j)))
      key_decides r e j i early is =
          let key_is : term j ≡ item (key o rows j) = shaped o rows book j (row.Item i) is ∙ ap (λ x. item (item_of o (item_in x))) (sym is) in
          subst (λ t. Decides (at false before j) (Can t)) key_is (part_decides r e j early)

      can_one : (r : Row) → row_at rows k ≡ Some r → Decides (can_build o u (length ms) hs k before r) (Can (term k))
      can_one (row.Item i) e =
          subst (λ t. Decides (can_build o u (length ms) hs k before (row.Item i)) (Can t)) (sym (shaped o rows book k (row.Item i) e))
          (record {
            sound = λ h. ⊎_elim
                (λ x. basic (held ((told.held_told k i e).sound x)))
                (λ x. let m = (made_decides (item_of o i)).sound x in basic (fresh m.1))
                (or_cases (at false hs k) (is_made u (length ms) (item_of o i)) h);
            complete = λ x. ⊎_elim
                (λ h. or_left _ (is_made u (length ms) (item_of o i)) ((told.held_told k i e).complete h))
                (λ m. or_right (at false hs k) _ ((made_decides (item_of o i)).complete m))
                (built_item (item (item_of o i)) (item_of o i) refl x);
          })
      can_one (row.Pair a b) e =
          let early = earlier rows book k (row.Pair a b) e in
          subst (λ t. Decides (at false before a && at false before b) (Can t)) (sym (shaped o rows book k (row.Pair a b) e))
          (decides_as (λ p. pairs p.0 p.1) (built_pair _ (term a) (term b) refl) (decides_and (part_decides (row.Pair a b) e a early.0) (part_decides (row.Pair a b) e b early.1)))
      can_one (row.Seal c j) e =
          let early = earlier rows book k (row.Seal c j) e in
          subst (λ t. Decides (at false before c && at false before j) (Can t)) (sym (shaped o rows book k (row.Seal c j) e))
          (decides_as (λ p. seals p.0 p.1) (built_seal _ (term c) (key o rows j) refl) (decides_and (part_decides (row.Seal c j) e c early.0) (key_decides (row.Seal c j) e j early.2.0 early.1 early.2.1)))
      can_one (row.Lock c j) e =
          let early = earlier rows book k (row.Lock c j) e in
          subst (λ t. Decides (at false before c && at false before j) (Can t)) (sym (shaped o rows book k (row.Lock c j) e))
          (decides_as (λ p. locks p.0 p.1) (built_lock _ (term c) (key o rows j) refl) (decides_and (part_decides (row.Lock c j) e c early.0) (key_decides (row.Lock c j) e j early.2.0 early.1 early.2.1)))

      can_here : (r : Row) → row_at rows k ≡ Some r → Decides (at false can k) (Can (term k))
      can_here r e =
          subst (λ b. Decides b (Can (term k)))
          (sym (fill_here (can_by o u (length ms) hs) false rows k r e ∙ ap (λ n. can_build o u (length ms) hs n before r) (numbered k r e)))
          (can_one r e)

    can_to : (n k : ℕ) (r : Row) → row_at rows k ≡ Some r → k ≤ n → Decides (at false can k) (Can (term k))
    can_to zero k r e h = let w = row_within rows k r e in absurd (omega arith)
    can_to (suc n) k r e h = can_here k (λ a q x l. can_to n a q x (omega arith)) r e

    can_decides : (k : ℕ) → is_row (length rows) k ≡ true → Decides (at false can k) (Can (term k))
    can_decides k h = let r = there k h in can_to k k r.0 r.1 (omega arith)

    first_unbuilt : (b : Bool) (k : ℕ) (rest : Option ℕ) → demand b (NotBuildable k) (none_unbuilt rest) ≡ none_unbuilt (cond (not b) (Some k) rest)
    first_unbuilt true k rest = refl
    first_unbuilt false k rest = refl

    arguments_first : (ks : List ℕ) → rows_there (length rows) ks ≡ true → First (argument_lines Can term ks) (arguments_check can ks)
    arguments_first [] h = refl
    arguments_first (k ∷ ks) h =
        let p = and_parts (is_row (length rows) k) (rows_there (length rows) ks) h in
        subst (First (argument_lines Can term (k ∷ ks))) (first_unbuilt (at false can k) k _)
        (first_demand (NotBuildable k) _ _ (argument_lines Can term ks) (arguments_check can ks) (can_decides k p.0) (λ _. arguments_first ks p.1))

    open_decides : (j : ℕ) → Decides (not (get_or cs j false)) (Opened lay Γ me left (term (0 + j + 1)))
    open_decides j =
        let number : j + 1 ≡ 0 + j + 1 = omega arith in
        subst₂ (λ b k. Decides (not b) (Opened lay Γ me left (term k))) (at_next false cs j) number (told.closed_told (j + 1))

-- ---- a rule
module _ (lay : Meaning) (e : Place) (book : is_book e.rows ≡ true) (p : Parts) (tabled : PartsTabled (length e.rows) p) (hs cs : List Bool) where
  -- what was read over the scope, over the judgments' context
  rule_told : Told lay (context (rule_scope e.names e.owner p.universal)) e.owner e.rows (left_terms e.owner e.rows p.left) hs cs → Told lay (before_made e p) e.owner e.rows (left_of e p) hs cs
  rule_told t =
      told_over lay _ (before_made e p) (scope_declared e.names e.owner p.universal) (declared_scope e.names e.owner p.universal) e.owner e.rows (left_of e p) hs cs
      (subst (λ left. Told lay (context (rule_scope e.names e.owner p.universal)) e.owner e.rows left hs cs) (left_same e p.left tabled.left_there) t)

  pub rule_first : Told lay (context (rule_scope e.names e.owner p.universal)) e.owner e.rows (left_terms e.owner e.rows p.left) hs cs →
      First (parts_lines lay e p) (and_then same (owners_check e 0 p.left) (and_then same (owners_check e (length p.left) p.right) (reading_check lay e hs cs p)))
  rule_first t =
      let told = rule_told t in
      first_append _ _ (owners_check e 0 p.left) _ (first_each (owner_check e) (owner_lines e) (at_spot e.role e.rule 0) _ (owner_first e book) p.left [] tabled.left_there)
      (λ _. first_append _ _ (owners_check e (length p.left) p.right) _ (first_each (owner_check e) (owner_lines e) (at_spot e.role e.rule (length p.left)) _ (owner_first e book) p.right [] tabled.right_there)
      (λ _. first_append _ _ (closed_rows_check e cs) _ (closed_first e (λ n. Opened lay (before_made e p) (owner_item e.owner) (left_of e p) (term_at e.owner e.rows n)) e.rows [] 0 cs refl (open_decides e book lay (before_made e p) (left_of e p) hs cs told (length p.universal) p.made))
      (λ _. first_append _ _ (all_made_check lay e (length p.universal) p.made) _ (first_each (made_check lay) (made_lines lay) (at_spot e.role e.rule (length p.universal)) (λ _. Unit {0}) (λ seen T _. first_demand NotMakeable _ _ [] pass (record { sound = λ x. x; complete = λ x. x }) (λ _. refl)) p.made [] (λ T m. tt {0}))
      (λ _. first_each (built_check (can_rows e.owner (length p.universal) (length p.made) hs e.rows)) (built_lines lay e p) (at_spot e.role e.rule (length p.left)) _ (λ seen f h. arguments_first e book lay (before_made e p) (left_of e p) hs cs told (length p.universal) p.made (vec_items f.rows) h) p.right [] tabled.right_there))))

first_stopped : (xs ys : Lines AccessFault) (a : Answer AccessFault) (f : AccessFault) → First xs a → a ≡ Err f → First (xs ++ ys) (Err f)
first_stopped [] ys a f h e = clash (cc)
first_stopped (l ∷ xs) ys a f (inl h) e = inl (h.0, sym e ∙ h.1)
first_stopped (l ∷ xs) ys a f (inr h) e = inr (h.0, first_stopped xs ys a f h.1 e)

-- where the code stops
module _ (lay : Meaning) (e : Place) (book : is_book e.rows ≡ true) (p : Parts) (tabled : PartsTabled (length e.rows) p) where
  left_first : First (lines (owner_lines e) (at_spot e.role e.rule 0) [] p.left) (owners_check e 0 p.left)
  left_first = first_each (owner_check e) (owner_lines e) (at_spot e.role e.rule 0) _ (owner_first e book) p.left [] tabled.left_there

  right_first : First (lines (owner_lines e) (at_spot e.role e.rule (length p.left)) [] p.right) (owners_check e (length p.left) p.right)
  right_first = first_each (owner_check e) (owner_lines e) (at_spot e.role e.rule (length p.left)) _ (owner_first e book) p.right [] tabled.right_there

  pub stops_left : (f : AccessFault) → Err f ≡ owners_check e 0 p.left → First (parts_lines lay e p) (Err f)
  stops_left f x = first_stopped _ _ (owners_check e 0 p.left) f left_first (sym x)

  pub stops_right : (f : AccessFault) (u : Unit {0}) → Ok u ≡ owners_check e 0 p.left → Err f ≡ owners_check e (length p.left) p.right → First (parts_lines lay e p) (Err f)
  stops_right f u x y = subst (λ a. First (parts_lines lay e p) (and_then same a (Err f))) (sym x) (first_append _ _ (owners_check e 0 p.left) (Err f) left_first (λ _. first_stopped _ _ (owners_check e (length p.left) p.right) f right_first (sym y)))

  pub goes_on : (hs cs : List Bool) (r : Answer AccessFault) (u v : Unit {0}) → Ok u ≡ owners_check e 0 p.left → Ok v ≡ owners_check e (length p.left) p.right →
      Told lay (context (rule_scope e.names e.owner p.universal)) e.owner e.rows (left_terms e.owner e.rows p.left) hs cs →
      r ≡ reading_check lay e hs cs p → First (parts_lines lay e p) r
  goes_on hs cs r u v x y t z =
      subst (First (parts_lines lay e p)) (sym z)
      (subst₂ (λ a b. First (parts_lines lay e p) (and_then same a (and_then same b (reading_check lay e hs cs p)))) (sym x) (sym y) (rule_first lay e book p tabled hs cs t))

-- what comes after the owner, as the code lends the parts and works out what can be built
pub read_on : (lay : Meaning) (e : Place) (p : Parts) (hs cs can : List Bool) (u l : ℕ) (ms : List tables.Ty) (rs : List Fact) (r : Answer AccessFault) (a b : Unit {0}) →
    u ≡ length p.universal → l ≡ length p.left → ms ≡ p.made → rs ≡ p.right →
    Ok a ≡ closed_rows_check e cs → Ok b ≡ all_made_check lay e u ms → can ≡ can_rows e.owner u (length ms) hs e.rows → r ≡ all_built_check e can l rs → r ≡ reading_check lay e hs cs p
read_on lay e p hs cs can u l ms rs r a b us ls made right x y z w =
    rw (z, us, ls, made, right) at (w ∙ ap₂ (λ a b. and_then same a (and_then same b (all_built_check e can l rs))) x y)
