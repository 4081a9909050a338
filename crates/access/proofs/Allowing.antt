-- The demands of the access check are met exactly where every rule is allowed.
use Rattle.std.proofs.Common.{◌≡◌, ℕ, zero, suc, ◌+◌, ◌-◌, ◌<◌, true, List, [], ◌∷◌, ◌++◌, map, length, Some, vec_items, sym, refl, ap, ◌∙◌, subst, ⊎_elim, arith}
use mathlib.Core.List.Memᴰ
use Rattle.judgments.specs.Access.{Received, argument, first, second, unsealed, unlocked, Opened, Built, InRule, Owned}
use Rattle.judgments.specs.Contexts.{ty, ◌∶◌, Context, ◌∈◌}
use Rattle.judgments.specs.Rules.{arguments}
use Rattle.judgments.specs.Rules as rules
use Rattle.layouts.specs.Meanings.{Meaning}
use Rattle.reading.proofs.Shapes.{key, shaped}
use Rattle.refusals.proofs.Deciding.{clash}
use Rattle.refusals.specs.Demands.{Lines, Holds, carried, lines}
use Rattle.std.proofs.lemmas.List.{length_push}
use Rattle.terms.proofs.Booked.{Earlier, earlier}
use Rattle.terms.proofs.Numbered.{row_within, row_there, is_row_from}
use Rattle.terms.specs.Books.{is_book}
use Rattle.terms.specs.Held.{rows_of}
use Rattle.terms.specs.Terms.{Term, item, pair, seal, lock}
use Rattle.terms.specs.declared.row.Item.{Item}
use Rattle.terms.specs.declared.row.Row.{Row}
use Rattle.terms.specs.declared.row.Row.TheVariants as row
use Rattle.theory.specs.Owners.{owner_item}
use Rattle.theory.specs.declared.data.Declared.{Declared}
use Rattle.theory.specs.declared.data.Fact.{Fact}
use Rattle.theory.specs.declared.data.Role.{Role}
use Rattle.theory.specs.declared.data.Rule.{Rule}
use Rattle.theory.specs.declared.data.Theory.{Theory}
use Rattle.theory.specs.Data as tables
use Rattle.types.proofs.Found.{declare_at, declare_cases}
use Rattle.types.proofs.Ruled.{declare_onto}
use Rattle.types.specs.Judged.{variable_decl, context_of}
use Rattle.types.specs.Rows.{row_at, term_at}
use Rattle.types.specs.Rules.{Place, over}
use Rattle.types.specs.Theories.{place_of, numbered}
use Rattle.types.specs.Typed.{fact_of, rule_of}
use Rattle.access.proofs.Members.{nth_in, in_nth}
use Rattle.access.proofs.Ruling.{row_of_there}
use Rattle.access.specs.Allowed.{RuleAllowedIn, TheoryAllowed}
use Rattle.access.specs.Demands.{Parts, parts_of, before_made, made_of, left_of, CanBuild, owner_lines, open_lines, made_lines, argument_lines, built_lines, rule_lines, role_lines, theory_lines}
use Rattle.refusals.specs.Faults.{at_spot}
use Rattle.access.specs.Places.{at_rule, here}
use Rattle.access.specs.Tabled.{PartsTabled, RolesTabled}
use Rattle.access.specs.Faults.{AccessFault}

-- ---- tables whose demands are all met
module _ {F G : Type 0} (up : F → G) where
  pub carried_holds : (ls : Lines F) → Holds ls → Holds (carried up ls)
  carried_holds [] h = tt
  carried_holds (l ∷ ls) h = (h.0, carried_holds ls h.1)

  pub holds_carried : (ls : Lines F) → Holds (carried up ls) → Holds ls
  holds_carried [] h = tt
  holds_carried (l ∷ ls) h = (h.0, holds_carried ls h.1)

both_hold : {F : Type 0} (xs ys : Lines F) → Holds xs → Holds ys → Holds (xs ++ ys)
both_hold [] ys h k = k
both_hold (l ∷ xs) ys h k = (h.0, both_hold xs ys h.1 k)

holds_both : {F : Type 0} (xs ys : Lines F) → Holds (xs ++ ys) → Holds xs × Holds ys
holds_both [] ys h = (tt, h)
holds_both (l ∷ xs) ys h = let rest = holds_both xs ys h.1 in ((h.0, rest.0), rest.1)

module _ {X F G : Type 0} (each : List X → X → Lines F) (place : ℕ → F → G) where
  each_holds : (xs seen : List X) → ((before : List X) (x : X) → x ∈ xs → Holds (each before x)) → Holds (lines each place seen xs)
  each_holds [] seen h = tt
  each_holds (x ∷ xs) seen h = both_hold (carried (place (length seen + 1)) (each seen x)) _ (carried_holds (place (length seen + 1)) (each seen x) (h seen x (Memᴰ.head refl))) (each_holds xs (seen ++ x ∷ []) (λ before y m. h before y (Memᴰ.tail m)))

  -- something of each element follows from its demands
  holds_each : (K : X → Type 0) → ((before : List X) (x : X) → Holds (each before x) → K x) → (xs seen : List X) → Holds (lines each place seen xs) → (x : X) → x ∈ xs → K x
  holds_each K from [] seen h x m = elim m [ ]
  holds_each K from (y ∷ xs) seen h x (Memᴰ.head e) = subst K (sym e) (from seen y (holds_carried (place (length seen + 1)) (each seen y) (holds_both _ _ h).0))
  holds_each K from (y ∷ xs) seen h x (Memᴰ.tail m) = holds_each K from xs (seen ++ y ∷ []) (holds_both (carried (place (length seen + 1)) (each seen y)) _ h).1 x m

  -- the same by places, where the demands tell the place
  holds_at : (K : ℕ → Type 0) → ((before : List X) (x : X) → Holds (each before x) → K (length before + 1)) → (xs seen : List X) → Holds (lines each place seen xs) → (j : ℕ) → j < length xs → K (length seen + j + 1)
  holds_at K from [] seen h j within = absurd (omega arith)
  holds_at K from (x ∷ xs) seen h zero within =
      let number : length seen + 1 ≡ length seen + 0 + 1 = omega arith in
      subst K number (from seen x (holds_carried (place (length seen + 1)) (each seen x) (holds_both _ _ h).0))
  holds_at K from (x ∷ xs) seen h (suc j) within =
      let number : length (seen ++ x ∷ []) + j + 1 ≡ length seen + suc j + 1 = (let l = length_push seen x in omega arith) in
      subst K number (holds_at K from xs (seen ++ x ∷ []) (holds_both (carried (place (length seen + 1)) (each seen x)) _ h).1 j (omega arith))

-- ---- arguments of facts
module _ (e : Place) where
  argument_in : (fs : List Fact) (t : Term) → t ∈ arguments (map (fact_of e) fs) → (f : Fact) × (f ∈ fs) × ((k : ℕ) × (k ∈ vec_items f.rows) × (term_at e.owner e.rows k ≡ t))
  argument_in [] t m = elim m [ ]
  argument_in (f ∷ fs) t m = ⊎_elim
      (λ x. let a = Memᴰ.of_map (term_at e.owner e.rows) (vec_items f.rows) x in (f, Memᴰ.head refl, (a.0, a.1, a.2)))
      (λ x. let rest = argument_in fs t x in (rest.0, Memᴰ.tail rest.1, rest.2))
      (Memᴰ.append_cases (map (term_at e.owner e.rows) (vec_items f.rows)) m)

  in_argument : (fs : List Fact) (f : Fact) → f ∈ fs → (k : ℕ) → k ∈ vec_items f.rows → term_at e.owner e.rows k ∈ arguments (map (fact_of e) fs)
  in_argument [] f m k n = elim m [ ]
  in_argument (g ∷ fs) f (Memᴰ.head q) k n = Memᴰ.append_left (arguments (map (fact_of e) fs)) (Memᴰ.map (term_at e.owner e.rows) (subst (λ (f : Fact). k ∈ vec_items f.rows) q n))
  in_argument (g ∷ fs) f (Memᴰ.tail m) k n = Memᴰ.append_right (map (term_at e.owner e.rows) (vec_items g.rows)) (in_argument fs f m k n)

holds_arguments : (Can : Term → Type 0) (term : ℕ → Term) (ks : List ℕ) → Holds (argument_lines Can term ks) → (k : ℕ) → k ∈ ks → Can (term k)
holds_arguments Can term [] h k m = elim m [ ]
holds_arguments Can term (j ∷ ks) h k (Memᴰ.head e) = subst (λ n. Can (term n)) (sym e) h.0
holds_arguments Can term (j ∷ ks) h k (Memᴰ.tail m) = holds_arguments Can term ks h.1 k m

arguments_hold : (Can : Term → Type 0) (term : ℕ → Term) (ks : List ℕ) → ((k : ℕ) → k ∈ ks → Can (term k)) → Holds (argument_lines Can term ks)
arguments_hold Can term [] h = tt
arguments_hold Can term (k ∷ ks) h = (h k (Memᴰ.head refl), arguments_hold Can term ks (λ j m. h j (Memᴰ.tail m)))

-- ---- what is received has a row
module _ (e : Place) (book : is_book e.rows ≡ true) where
  abbrev rows : List Row
  rows = e.rows

  abbrev term : ℕ → Term
  term k = term_at e.owner rows k

  abbrev HasRow : Term → Type 0
  HasRow t = (k : ℕ) × (r : Row) × (row_at rows k ≡ Some r) × (term k ≡ t)

  part : (k a : ℕ) (r : Row) (t : Term) → row_at rows k ≡ Some r → Earlier k a → term a ≡ t → HasRow t
  part k a r t x early is = let w = row_within rows k r x in (a, _, row_there rows a r early.0 (omega (arith, early.1)), is)

  pair_rows : (k : ℕ) (r : Row) (s t : Term) → row_at rows k ≡ Some r → term k ≡ pair s t → HasRow s × HasRow t
  pair_rows k (row.Item i) s t x is = clash (cc (shaped e.owner rows book k (row.Item i) x))
  pair_rows k (row.Pair a b) s t x is =
      let both : pair (term a) (term b) ≡ pair s t = sym (shaped e.owner rows book k (row.Pair a b) x) ∙ is in
      let early = earlier rows book k (row.Pair a b) x in
      (part k a (row.Pair a b) s x early.0 (cc), part k b (row.Pair a b) t x early.1 (cc))
  pair_rows k (row.Seal c j) s t x is = clash (cc (shaped e.owner rows book k (row.Seal c j) x))
  pair_rows k (row.Lock c j) s t x is = clash (cc (shaped e.owner rows book k (row.Lock c j) x))

  seal_row : (k : ℕ) (r : Row) (t : Term) (i : Item) → row_at rows k ≡ Some r → term k ≡ seal t i → HasRow t
  seal_row k (row.Item j) t i x is = clash (cc (shaped e.owner rows book k (row.Item j) x))
  seal_row k (row.Pair a b) t i x is = clash (cc (shaped e.owner rows book k (row.Pair a b) x))
  seal_row k (row.Seal c j) t i x is =
      let both : seal (term c) (key e.owner rows j) ≡ seal t i = sym (shaped e.owner rows book k (row.Seal c j) x) ∙ is in
      part k c (row.Seal c j) t x (earlier rows book k (row.Seal c j) x).0 (cc)
  seal_row k (row.Lock c j) t i x is = clash (cc (shaped e.owner rows book k (row.Lock c j) x))

  lock_row : (k : ℕ) (r : Row) (t : Term) (i : Item) → row_at rows k ≡ Some r → term k ≡ lock t i → HasRow t
  lock_row k (row.Item j) t i x is = clash (cc (shaped e.owner rows book k (row.Item j) x))
  lock_row k (row.Pair a b) t i x is = clash (cc (shaped e.owner rows book k (row.Pair a b) x))
  lock_row k (row.Seal c j) t i x is = clash (cc (shaped e.owner rows book k (row.Seal c j) x))
  lock_row k (row.Lock c j) t i x is =
      let both : lock (term c) (key e.owner rows j) ≡ lock t i = sym (shaped e.owner rows book k (row.Lock c j) x) ∙ is in
      part k c (row.Lock c j) t x (earlier rows book k (row.Lock c j) x).0 (cc)

  module _ (lay : Meaning) (Γ : Context) (o : Item) (left : List Term) (there : (t : Term) → t ∈ left → HasRow t) where
    received_row : (t : Term) → Received lay Γ o left t → HasRow t
    received_row t (argument m) = there t m
    received_row t (first {t = b} x) = let h = received_row (pair t b) x in (pair_rows h.0 h.1 t b h.2 h.3).0
    received_row t (second {s = a} x) = let h = received_row (pair a t) x in (pair_rows h.0 h.1 a t h.2 h.3).1
    received_row t (unsealed {k = k} x y) = let h = received_row (seal t k) x in seal_row h.0 h.1 t k h.2 h.3
    received_row t (unlocked {k = k} x q y) = let h = received_row (lock t k) x in lock_row h.0 h.1 t k h.2 h.3

    -- what stays closed has a row
    opened_all : ((j : ℕ) → j < length rows → Opened lay Γ o left (term (0 + j + 1))) → (t : Term) → Opened lay Γ o left t
    opened_all h (item i) = tt
    opened_all h (pair s t) = tt
    opened_all h (seal t k) = λ x. at_row (seal t k) (received_row (seal t k) x) x
      where
        at_row : (s : Term) → HasRow s → Opened lay Γ o left s
        at_row s w =
            let v = row_within rows w.0 w.1 w.2 in
            let number : 0 + (w.0 - 1) + 1 ≡ w.0 = omega arith in
            subst (Opened lay Γ o left) (ap term number ∙ w.3) (h (w.0 - 1) (omega arith))
    opened_all h (lock t k) = λ x. at_row (lock t k) (received_row (lock t k) x) x
      where
        at_row : (s : Term) → HasRow s → Opened lay Γ o left s
        at_row s w =
            let v = row_within rows w.0 w.1 w.2 in
            let number : 0 + (w.0 - 1) + 1 ≡ w.0 = omega arith in
            subst (Opened lay Γ o left) (ap term number ∙ w.3) (h (w.0 - 1) (omega arith))

-- ---- a rule
module _ (lay : Meaning) (e : Place) (book : is_book e.rows ≡ true) (R : Rule) (tabled : PartsTabled (length e.rows) (parts_of R)) where
  abbrev p : Parts
  p = parts_of R

  abbrev me : Item
  me = owner_item e.owner

  onto : (rule_of e R).universal ++ context_of (over e []) ≡ before_made e p
  onto = sym (declare_onto (variable_decl e.owner) 1 p.universal [] (context_of (over e [])))

  left_rows : (t : Term) → t ∈ left_of e p → HasRow e book t
  left_rows t m =
      let a = argument_in e p.left t m in
      let w = is_row_from (length e.rows) a.2.0 (row_of_there (length e.rows) (vec_items a.0.rows) (tabled.left_there a.0 a.1) a.2.0 a.2.1) in
      (a.2.0, _, row_there e.rows a.2.0 (row.Pair 0 0) w.0 w.1, a.2.2)

  abbrev owners : ℕ → List Fact → Lines AccessFault
  owners base fs = lines (owner_lines e) (at_spot e.role e.rule base) [] fs

  abbrev opens : Lines AccessFault
  opens = lines (open_lines lay e p) (at_rule e.role e.rule) [] e.rows

  abbrev mades : Lines AccessFault
  mades = lines (made_lines lay) (at_spot e.role e.rule (length p.universal)) [] p.made

  abbrev builts : Lines AccessFault
  builts = lines (built_lines lay e p) (at_spot e.role e.rule (length p.left)) [] p.right

  pub met_allowed : Holds (rule_lines lay e R) → RuleAllowedIn lay e R
  met_allowed h =
      let a = holds_both (owners 0 p.left) _ h in
      let b = holds_both (owners (length p.left) p.right) _ a.1 in
      let c = holds_both opens _ b.1 in
      let d = holds_both mades builts c.1 in
      let opened = opened_all e book lay (before_made e p) me (left_of e p) left_rows (holds_at (open_lines lay e p) (at_rule e.role e.rule) (λ n. Opened lay (before_made e p) me (left_of e p) (term_at e.owner e.rows n)) (λ before r x. x.0) e.rows [] c.0) in
      record {
        owned = λ f m. ⊎_elim
            (λ x. owned_of 0 p.left a.0 f x)
            (λ x. owned_of (length p.left) p.right b.0 f x)
            (Memᴰ.append_cases (map (fact_of e) p.left) m);
        opened = subst (λ Γ. (t : Term) → Opened lay Γ me (left_of e p) t) (sym onto) opened;
        makeable = λ i F ps m. ⊎_elim
            (λ none. elim none [ ])
            (λ x.
            let F_is : x.1.family ≡ F = cc x.3 in
            subst (λ F. lay.makeable F ≡ true) F_is (holds_each (made_lines lay) (at_spot e.role e.rule (length p.universal)) (λ T. lay.makeable T.family ≡ true) (λ before T y. y.0) p.made [] d.0 x.1 (in_nth p.made x.1 x.0 x.2)))
            (declare_cases (variable_decl e.owner) (1 + length p.universal) p.made [] (i ∶ ty F ps) m);
        built = λ t m.
            let x = argument_in e p.right t m in
            let can = holds_each (built_lines lay e p) (at_spot e.role e.rule (length p.left)) (λ f. (k : ℕ) → k ∈ vec_items f.rows → CanBuild lay e p (term_at e.owner e.rows k)) (λ before f y. holds_arguments (CanBuild lay e p) (term_at e.owner e.rows) (vec_items f.rows) y) p.right [] d.1 x.0 x.1 x.2.0 x.2.1 in
            subst (λ Γ. Built (InRule lay Γ me (left_of e p) (made_of e p)) t) (sym onto) (subst (CanBuild lay e p) x.2.2 can);
      }
    where
      owned_of : (base : ℕ) (fs : List Fact) → Holds (owners base fs) → (f : rules.Fact) → f ∈ map (fact_of e) fs → Owned me f
      owned_of base fs h f m =
          let x = Memᴰ.of_map (fact_of e) fs m in
          subst (Owned me) x.2 (holds_each (owner_lines e) (at_spot e.role e.rule base) (λ f. Owned me (fact_of e f)) (λ before f y. y.0) fs [] h x.0 x.1)

  pub allowed_met : RuleAllowedIn lay e R → Holds (rule_lines lay e R)
  allowed_met a =
      let opened = subst (λ Γ. (t : Term) → Opened lay Γ me (left_of e p) t) onto a.opened in
      both_hold (owners 0 p.left) _ (each_holds (owner_lines e) (at_spot e.role e.rule 0) p.left [] (λ before f m. (a.owned (fact_of e f) (Memᴰ.append_left (map (fact_of e) p.right) (Memᴰ.map (fact_of e) m)), tt {0})))
      (both_hold (owners (length p.left) p.right) _ (each_holds (owner_lines e) (at_spot e.role e.rule (length p.left)) p.right [] (λ before f m. (a.owned (fact_of e f) (Memᴰ.append_right (map (fact_of e) p.left) (Memᴰ.map (fact_of e) m)), tt {0})))
      (both_hold opens _ (each_holds (open_lines lay e p) (at_rule e.role e.rule) e.rows [] (λ before r m. (opened (term_at e.owner e.rows (length before + 1)), tt {0})))
      (both_hold mades builts (each_holds (made_lines lay) (at_spot e.role e.rule (length p.universal)) p.made [] (λ before T m. (made_one T m, tt {0})))
      (each_holds (built_lines lay e p) (at_spot e.role e.rule (length p.left)) p.right [] (λ before f m. arguments_hold (CanBuild lay e p) (term_at e.owner e.rows) (vec_items f.rows) (λ k n. subst (λ Γ. Built (InRule lay Γ me (left_of e p) (made_of e p)) (term_at e.owner e.rows k)) onto (a.built (term_at e.owner e.rows k) (in_argument e p.right f m k n))))))))
    where
      made_one : (T : tables.Ty) → T ∈ p.made → lay.makeable T.family ≡ true
      made_one T m = let k = nth_in p.made T m in a.makeable _ T.family _ (declare_at (variable_decl e.owner) (1 + length p.universal) p.made [] k.0 T k.1)

-- ---- a theory
module _ (lay : Meaning) (T : Theory) (tabled : RolesTabled (length (rows_of T.book)) (vec_items T.roles)) where
  abbrev ds : List Declared
  ds = vec_items T.names

  abbrev all : List Row
  all = rows_of T.book

  abbrev at : ℕ → Role → Place
  at n R = place_of ds [] all n R.anchor []

  pub theory_allowed : Holds (theory_lines lay T) → TheoryAllowed lay T
  theory_allowed h R m r k = allowed h R m (tabled R m) r k
    where
      role_allowed : (n : ℕ) (R : Role) → Holds (role_lines lay ds all n R) → (r : Rule) → r ∈ vec_items R.rules → (j : ℕ) × Holds (rule_lines lay (numbered (at n R) j) r)
      role_allowed n R h r k = holds_each (λ seen r. rule_lines lay (numbered (at n R) (length seen + 1)) r) here (λ r. (j : ℕ) × Holds (rule_lines lay (numbered (at n R) j) r)) (λ before r x. (length before + 1, x)) (vec_items R.rules) [] h r k

      allowed : Holds (theory_lines lay T) → (R : Role) → R ∈ vec_items T.roles → ((r : Rule) → r ∈ vec_items R.rules → PartsTabled (length all) (parts_of r)) → (r : Rule) → r ∈ vec_items R.rules → RuleAllowedIn lay (at 0 R) r
      allowed h R m t r k =
          let role = holds_each (λ seen R. role_lines lay ds all (length seen + 1) R) here (λ R. (n : ℕ) × Holds (role_lines lay ds all n R)) (λ before R x. (length before + 1, x)) (vec_items T.roles) [] h R m in
          let rule = role_allowed role.0 R role.1 r k in
          met_allowed lay (numbered (at role.0 R) rule.0) T.book.sound r (t r k) rule.1

  pub allowed_theory : TheoryAllowed lay T → Holds (theory_lines lay T)
  allowed_theory a =
      each_holds (λ seen R. role_lines lay ds all (length seen + 1) R) here (vec_items T.roles) []
      (λ before R m. each_holds (λ seen r. rule_lines lay (numbered (at (length before + 1) R) (length seen + 1)) r) here (vec_items R.rules) []
      (λ earlier r k. allowed_met lay (numbered (at (length before + 1) R) (length earlier + 1)) T.book.sound r (tabled R m r k) (a R m r k)))
