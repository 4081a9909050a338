-- In a book each row stands for exactly one term, and no two rows for the same.
use Rattle.std.proofs.Common.{◌≡◌, ℕ, zero, suc, ◌-◌, ◌<◌, ◌≤◌, true, List, length, get_or, Some, subst, ap₂, arith}
use Rattle.terms.specs.Rows.{row_at}
use Rattle.terms.specs.Terms.{Term, item, pair, seal, lock}
use Rattle.terms.specs.Books.{is_book}
use Rattle.terms.specs.Standing.{Stands, an_item, a_pair, a_seal, a_lock, Exact}
use Rattle.terms.specs.declared.row.Row.{Row}
use Rattle.terms.specs.declared.row.Row.TheVariants as row
use Rattle.terms.proofs.Numbered.{clash, row_there, is_row_from}
use Rattle.terms.proofs.Booked.{EarlierParts, earlier, apart}

module _ (rows : List Row) where
  pub one_term : (k : ℕ) (s t : Term) → Stands rows k s → Stands rows k t → s ≡ t
  one_term k s t (an_item p) (an_item q) = cc
  one_term k s t (an_item p) (a_pair q y z) = clash (cc)
  one_term k s t (an_item p) (a_seal q y z) = clash (cc)
  one_term k s t (an_item p) (a_lock q y z) = clash (cc)
  one_term k s t (a_pair p y z) (an_item q) = clash (cc)
  one_term k s t (a_pair {a = a} {b = b} {s = s₁} {t = s₂} p y z) (a_pair {a = a'} {b = b'} {s = t₁} {t = t₂} q y' z') =
      let a_is : a' ≡ a = cc in
      let b_is : b' ≡ b = cc in
      ap₂ pair (one_term a s₁ t₁ y (subst (λ n. Stands rows n t₁) a_is y')) (one_term b s₂ t₂ z (subst (λ n. Stands rows n t₂) b_is z'))
  one_term k s t (a_pair p y z) (a_seal q y' z') = clash (cc)
  one_term k s t (a_pair p y z) (a_lock q y' z') = clash (cc)
  one_term k s t (a_seal p y z) (an_item q) = clash (cc)
  one_term k s t (a_seal p y z) (a_pair q y' z') = clash (cc)
  one_term k s t (a_seal {c = c} {j = j} {t = s₁} {i = i} p y z) (a_seal {c = c'} {j = j'} {t = t₁} {i = i'} q y' z') =
      let c_is : c' ≡ c = cc in
      let j_is : j' ≡ j = cc in
      let key = one_term j (item i) (item i') z (subst (λ n. Stands rows n (item i')) j_is z') in
      ap₂ seal (one_term c s₁ t₁ y (subst (λ n. Stands rows n t₁) c_is y')) (cc)
  one_term k s t (a_seal p y z) (a_lock q y' z') = clash (cc)
  one_term k s t (a_lock p y z) (an_item q) = clash (cc)
  one_term k s t (a_lock p y z) (a_pair q y' z') = clash (cc)
  one_term k s t (a_lock p y z) (a_seal q y' z') = clash (cc)
  one_term k s t (a_lock {c = c} {j = j} {t = s₁} {i = i} p y z) (a_lock {c = c'} {j = j'} {t = t₁} {i = i'} q y' z') =
      let c_is : c' ≡ c = cc in
      let j_is : j' ≡ j = cc in
      let key = one_term j (item i) (item i') z (subst (λ n. Stands rows n (item i')) j_is z') in
      ap₂ lock (one_term c s₁ t₁ y (subst (λ n. Stands rows n t₁) c_is y')) (cc)

  module _ (book : is_book rows ≡ true) where
    pub one_row : (j k : ℕ) (t : Term) → Stands rows j t → Stands rows k t → j ≡ k
    one_row j k t (an_item {i = i} p) (an_item q) = apart rows book j k (row.Item i) p q
    one_row j k t (a_pair {a = a} {b = b} {s = s} {t = u} p y z) (a_pair {a = a'} {b = b'} q y' z') =
        let a_is = one_row a a' s y y' in
        let b_is = one_row b b' u z z' in
        apart rows book j k (row.Pair a b) p (rw (a_is, b_is) q)
    one_row j k t (a_seal {c = c} {j = h} {t = s} {i = i} p y z) (a_seal {c = c'} {j = h'} q y' z') =
        let c_is = one_row c c' s y y' in
        let h_is = one_row h h' (item i) z z' in
        apart rows book j k (row.Seal c h) p (rw (c_is, h_is) q)
    one_row j k t (a_lock {c = c} {j = h} {t = s} {i = i} p y z) (a_lock {c = c'} {j = h'} q y' z') =
        let c_is = one_row c c' s y y' in
        let h_is = one_row h h' (item i) z z' in
        apart rows book j k (row.Lock c h) p (rw (c_is, h_is) q)

    abbrev TermOf : ℕ → Type 0
    TermOf k = (t : Term) × Stands rows k t

    -- the term of a row, by those of the rows before it
    term_by : (k : ℕ) → k ≤ length rows → (r : Row) → row_at rows k ≡ Some r → EarlierParts rows k r → ((j : ℕ) → 0 < j → j < k → TermOf j) → TermOf k
    term_by k within (row.Item i) e early below = (item i, an_item e)
    term_by k within (row.Pair a b) e early below =
        let s = below a early.0.0 early.0.1 in
        let t = below b early.1.0 early.1.1 in
        (pair s.0 t.0, a_pair e s.1 t.1)
    term_by k within (row.Seal c j) e early below = let t = below c early.0.0 early.0.1 in (seal t.0 early.2.0, a_seal e t.1 (an_item early.2.1))
    term_by k within (row.Lock c j) e early below = let t = below c early.0.0 early.0.1 in (lock t.0 early.2.0, a_lock e t.1 (an_item early.2.1))

    term_below : (n k : ℕ) → k < n → 0 < k → k ≤ length rows → TermOf k
    term_below zero k bound low within = let none : ⊥ = omega arith in absurd none
    term_below (suc n) k bound low within =
        let r = get_or rows (k - 1) (row.Pair 0 0) in
        let e = row_there rows k (row.Pair 0 0) low within in
        term_by k within r e (earlier rows book k r e) (λ j l b. term_below n j (omega arith) l (omega arith))

    pub book_exact : Exact rows
    book_exact = record { some_term = λ k e. let w = is_row_from (length rows) k e in term_below (suc k) k (omega arith) w.0 w.1; one_term = one_term; one_row = one_row }
