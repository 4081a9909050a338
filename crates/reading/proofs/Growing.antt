-- Marks only grow: no pass takes one off.
use Rattle.std.proofs.Common.{◌≡◌, ℕ, zero, suc, ◌-◌, ◌<◌, ◌≤◌, Bool, true, false, cond, eqb, ◌⊎◌, List, [], ◌∷◌, length, get_or, set, Some, None, Option, sym, refl, ap, ◌∙◌, subst, inl, inr, ⊎_elim, arith}
use Rattle.std.proofs.lemmas.Bool.{cases_lt}
use Rattle.std.proofs.lemmas.Slice.Zip.{AllZip-long}
use Rattle.std.specs.List.{AllZip}
use Rattle.std.proofs.lemmas.List.Sums.{sum_by-cons}
use Rattle.terms.specs.Rows.{is_row}
use Rattle.terms.specs.declared.row.Row.{Row}
use Rattle.terms.specs.declared.row.Row.TheVariants as row
use Rattle.refusals.proofs.Deciding.{clash}
use Rattle.types.specs.Rows.{at, row_at}
use Rattle.reading.specs.Marks.{Sight, is_open, put, opened_row, visit, pass_from, pass, ons}

-- each mark of the first list is on in the second, which is as long
abbrev pub Below : List Bool → List Bool → Type 0
Below xs ys = AllZip (λ a b. a ≡ true → b ≡ true) xs ys

pub below_itself : (xs : List Bool) → Below xs xs
below_itself [] = tt
below_itself (x ∷ xs) = ((λ e. e), below_itself xs)

pub below_then : (xs ys zs : List Bool) → Below xs ys → Below ys zs → Below xs zs
below_then [] [] [] p q = tt
below_then [] [] (z ∷ zs) p q = q
below_then [] (y ∷ ys) zs p q = absurd p
below_then (x ∷ xs) [] zs p q = absurd p
below_then (x ∷ xs) (y ∷ ys) [] p q = absurd q
below_then (x ∷ xs) (y ∷ ys) (z ∷ zs) p q = ((λ e. q.0 (p.0 e)), below_then xs ys zs p.1 q.1)

pub below_set : (xs : List Bool) (k : ℕ) → Below xs (set xs k true)
below_set [] k = tt
below_set (x ∷ xs) zero = ((λ e. refl), below_itself xs)
below_set (x ∷ xs) (suc k) = ((λ e. e), below_set xs k)

pub below_length : (xs ys : List Bool) → Below xs ys → length ys ≡ length xs
below_length xs ys p = AllZip-long (λ a b. a ≡ true → b ≡ true) xs ys p

below_get_or : (xs ys : List Bool) → Below xs ys → (k : ℕ) → get_or xs k false ≡ true → get_or ys k false ≡ true
below_get_or [] [] p k e = e
below_get_or [] (y ∷ ys) p k e = absurd p
below_get_or (x ∷ xs) [] p k e = absurd p
below_get_or (x ∷ xs) (y ∷ ys) p zero e = p.0 e
below_get_or (x ∷ xs) (y ∷ ys) p (suc k) e = below_get_or xs ys p.1 k e

pub below_at : (xs ys : List Bool) → Below xs ys → (k : ℕ) → at false xs k ≡ true → at false ys k ≡ true
below_at xs ys p k e = go (eqb k 0) e
  where
    go : (b : Bool) → cond b false (get_or xs (k - 1) false) ≡ true → cond b false (get_or ys (k - 1) false) ≡ true
    go true e = e
    go false e = below_get_or xs ys p (k - 1) e

on_more : (xs : List Bool) → ons (true ∷ xs) ≡ suc (ons xs)
on_more xs = sum_by-cons (λ b. cond b 1 0) true xs ∙ omega arith

off_more : (xs : List Bool) → ons (false ∷ xs) ≡ ons xs
off_more xs = sum_by-cons (λ b. cond b 1 0) false xs ∙ omega arith

pub below_ons : (xs ys : List Bool) → Below xs ys → ons xs ≤ ons ys
below_ons [] [] p = omega arith
below_ons [] (y ∷ ys) p = absurd p
below_ons (x ∷ xs) [] p = absurd p
below_ons (true ∷ xs) (true ∷ ys) p = omega (arith, below_ons xs ys p.1, on_more xs, on_more ys)
below_ons (true ∷ xs) (false ∷ ys) p = clash (cc (p.0 refl))
below_ons (false ∷ xs) (true ∷ ys) p = omega (arith, below_ons xs ys p.1, off_more xs, on_more ys)
below_ons (false ∷ xs) (false ∷ ys) p = omega (arith, below_ons xs ys p.1, off_more xs, off_more ys)

-- as many marks are the same marks
pub below_same : (xs ys : List Bool) → Below xs ys → ons ys ≤ ons xs → xs ≡ ys
below_same [] [] p e = refl
below_same [] (y ∷ ys) p e = absurd p
below_same (x ∷ xs) [] p e = absurd p
below_same (true ∷ xs) (true ∷ ys) p e = ap (λ zs. true ∷ zs) (below_same xs ys p.1 (omega (arith, e, on_more xs, on_more ys)))
below_same (true ∷ xs) (false ∷ ys) p e = clash (cc (p.0 refl))
below_same (false ∷ xs) (true ∷ ys) p e = absurd (omega (arith, e, below_ons xs ys p.1, off_more xs, on_more ys))
below_same (false ∷ xs) (false ∷ ys) p e = ap (λ zs. false ∷ zs) (below_same xs ys p.1 (omega (arith, e, off_more xs, off_more ys)))

below_cond : (b : Bool) (xs ys : List Bool) → Below xs ys → Below xs (cond b ys xs)
below_cond true xs ys p = p
below_cond false xs ys p = below_itself xs

pub below_put : (low : List ℕ) (got : List Bool) (k : ℕ) → Below got (put low got k)
below_put low got k = below_cond (is_row (length got) (at 0 low k)) got (set got (at 0 low k - 1) true) (below_set got (at 0 low k - 1))

module _ (w : Sight) where
  pub below_opened : (got : List Bool) (x : Option Row) → Below got (opened_row w got x)
  below_opened got None = below_itself got
  below_opened got (Some (row.Item i)) = below_itself got
  below_opened got (Some (row.Pair a b)) = below_then got (put w.low got a) (put w.low (put w.low got a) b) (below_put w.low got a) (below_put w.low (put w.low got a) b)
  below_opened got (Some (row.Seal c k)) = below_cond (is_open w got (row.Seal c k)) got (put w.low got c) (below_put w.low got c)
  below_opened got (Some (row.Lock c k)) = below_cond (is_open w got (row.Lock c k)) got (put w.low got c) (below_put w.low got c)

  pub below_visit : (got : List Bool) (n : ℕ) → Below got (visit w got n)
  below_visit got n = below_cond (at false got n) got (opened_row w got (row_at w.rows n)) (below_opened got (row_at w.rows n))

  pub below_pass : (n : ℕ) (got : List Bool) → Below got (pass_from w n got)
  below_pass zero got = below_itself got
  below_pass (suc n) got = below_then got (visit w got (suc n)) (pass_from w n (visit w got (suc n))) (below_visit got (suc n)) (below_pass n (visit w got (suc n)))

  pub pass_grows : (got got' : List Bool) → got' ≡ pass w got → Below got got'
  pass_grows got got' e = subst (Below got) (sym e) (below_pass (length w.rows) got)

  -- a pass that adds nothing leaves every row as it was visited
  pub visit_same : (n : ℕ) (got : List Bool) → pass_from w n got ≡ got → (k : ℕ) → 0 < k → k ≤ n → visit w got k ≡ got
  visit_same zero got e k low within = absurd (omega arith)
  visit_same (suc n) got e k low within = go (visit_same n got rest k low) (same_or_less k n within)
    where
      later : Below (visit w got (suc n)) got
      later = subst (Below (visit w got (suc n))) e (below_pass n (visit w got (suc n)))

      first : visit w got (suc n) ≡ got
      first = sym (below_same got (visit w got (suc n)) (below_visit got (suc n)) (below_ons (visit w got (suc n)) got later))

      rest : pass_from w n got ≡ got
      rest = ap (pass_from w n) (sym first) ∙ e

      same_or_less : (k n : ℕ) → k ≤ suc n → (k ≡ suc n) ⊎ (k ≤ n)
      same_or_less k n h = ⊎_elim (λ l. inr (omega arith)) (λ l. inl (omega arith)) (cases_lt k (suc n))

      go : (k ≤ n → visit w got k ≡ got) → (k ≡ suc n) ⊎ (k ≤ n) → visit w got k ≡ got
      go below (inl q) = ap (visit w got) q ∙ first
      go below (inr h) = below h
