-- Rows by their numbers.
use Rattle.std.proofs.Common.{◌≡◌, ℕ, zero, suc, ◌-◌, ◌<◌, ◌≤◌, true, false, eqb, ltb, leb, List, [], ◌∷◌, length, get_or, take, Some, sym, refl, ◌∙◌, arith, rules}
use Rattle.std.specs.List.{slice_get}
use Rattle.std.proofs.lemmas.Option.{slice_get-get_or}
use Rattle.std.proofs.lemmas.Bool.{and_parts, and_from, ltb-true, leb-true, ne_eqb, eq-eqb}
use Rattle.terms.specs.Rows.{same_row, is_row, row_at}
use Rattle.terms.specs.declared.row.Row.{Row}

-- two constructors are never equal
pub clash : {A : Type 0} → ◌≡◌ {A = ℕ} 0 1 → A
clash e = let none : ⊥ = omega arith in absurd none

pub nth_within : {X : Type 0} (xs : List X) (i : ℕ) (x : X) → slice_get xs i ≡ Some x → i < length xs
nth_within [] i x e = clash (cc)
nth_within (y ∷ xs) zero x e = omega arith
nth_within (y ∷ xs) (suc i) x e = omega (arith, nth_within xs i x e)

pub nth_take : {X : Type 0} (xs : List X) (n i : ℕ) → i < n → slice_get (take n xs) i ≡ slice_get xs i
nth_take [] zero i low = let none : ⊥ = omega arith in absurd none
nth_take [] (suc n) i low = refl
nth_take (x ∷ xs) zero i low = let none : ⊥ = omega arith in absurd none
nth_take (x ∷ xs) (suc n) zero low = refl
nth_take (x ∷ xs) (suc n) (suc i) low = nth_take xs n i (omega arith)

-- the row with a number from 1 on
pub row_from_one : (rows : List Row) (k : ℕ) → 0 < k → row_at rows k ≡ slice_get rows (k - 1)
row_from_one rows k low = let ne : eqb k 0 ≡ false = ne_eqb k 0 (λ e. omega arith) in rw ne refl

-- a number that has a row is that of a row
pub row_within : (rows : List Row) (k : ℕ) (r : Row) → row_at rows k ≡ Some r → (0 < k) × (k ≤ length rows)
row_within rows zero r e = clash (cc)
row_within rows (suc k) r e =
    let at : slice_get rows (suc k - 1) ≡ Some r = sym (row_from_one rows (suc k) (omega arith)) ∙ e in
    (omega arith, omega (arith, nth_within rows (suc k - 1) r at))

pub is_row_from : (n k : ℕ) → is_row n k ≡ true → (0 < k) × (k ≤ n)
is_row_from n k e = let p = and_parts (ltb 0 k) (leb k n) e in (ltb-true 0 k p.0, leb-true k n p.1)

-- each number from 1 through the last has a row
pub row_there : (rows : List Row) (k : ℕ) (d : Row) → 0 < k → k ≤ length rows → row_at rows k ≡ Some (get_or rows (k - 1) d)
row_there rows k d low within = row_from_one rows k low ∙ slice_get-get_or rows (k - 1) d (omega arith)

-- the earlier rows have the numbers that they have among all
pub row_take : (rows : List Row) (n k : ℕ) → k ≤ n → row_at (take n rows) k ≡ row_at rows k
row_take rows n zero low = refl
row_take rows n (suc k) low =
    row_from_one (take n rows) (suc k) (omega arith) ∙ nth_take rows n (suc k - 1) (omega arith) ∙ sym (row_from_one rows (suc k) (omega arith))

pub same_itself : (r : Row) → same_row r r ≡ true
same_itself r = search (rules, and_from, eq-eqb)
