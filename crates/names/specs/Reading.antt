-- What a list without repetitions says of the names in it.
use Rattle.std.specs.Prelude.{◌≡◌, ℕ, suc, ◌+◌, ◌<◌, ◌≤◌, Bool, true, false, cond, not, ◌&&◌, ◌||◌, List, [], ◌∷◌, length, reverse, take, drop, Some, None, Option, ◌==◌, nat_le, nat_lt, slice_index, refl}
use Rattle.std.specs.List.{enumerate_from, position_from}
use Rattle.std.proofs.Common.{sym, ap, subst, ◌∙◌, ⊎_elim, arith, rules}
use Rattle.std.proofs.lemmas.List.Sorted.{list_any-IsPermutation, IsPermutation-reverse}
use Rattle.std.proofs.lemmas.List.Folds.{list_any-append}
use Rattle.std.proofs.lemmas.Bool.{cases_eq, eq-eqb, ne_eqb, and_parts, and_from, or_parts, or_cases, not-true, ltb-true, leb-true, le-leb, lt-ltb, eqb-false, eqb-true, or_from, or_left, or_right, both_ways, not_from_false}
use Rattle.names.specs.Sets.{listed, without, how_many}
use Rattle.names.specs.Rolls.{once_each, first_unfit}
use Rattle.names.specs.Counts.{one_more, count_none, drawn_fewer, without_other, without_itself}

once_parts : (x : ℕ) (xs : List ℕ) → once_each (x ∷ xs) ≡ true → ((0 < x) × (x < 4294967296)) × (listed xs x ≡ false) × (once_each xs ≡ true)
once_parts x xs o =
    let p = and_parts (nat_lt 0 x && nat_le x 4294967295) (not (listed xs x) && once_each xs) o in
    let q = and_parts (nat_lt 0 x) (nat_le x 4294967295) p.0 in
    let r = and_parts (not (listed xs x)) (once_each xs) p.1 in
    ((ltb-true 0 x q.0, omega (arith, leb-true x 4294967295 q.1)), not-true (listed xs x) r.0, r.1)

pub listed_name : (xs : List ℕ) (n : ℕ) → once_each xs ≡ true → listed xs n ≡ true → (0 < n) × (n < 4294967296)
listed_name [] n o l = search rules
listed_name (x ∷ xs) n o l =
    let p = once_parts x xs o in
    ⊎_elim
    (λ e. subst (λ (z : ℕ). (0 < z) × (z < 4294967296)) (eqb-true x n e) p.0)
    (λ e. listed_name xs n p.2 e)
    (or_cases (x == n) (listed xs n) l)

-- ---- reading the first
listed_first : (x : ℕ) (xs : List ℕ) → listed (x ∷ xs) x ≡ true
listed_first x xs = ap (λ b. b || listed xs x) (eq-eqb x x refl)

listed_rest : (x : ℕ) (xs : List ℕ) → listed xs x ≡ false → (n : ℕ) → listed xs n ≡ without (listed (x ∷ xs)) x n
listed_rest x xs once n =
    ⊎_elim
    (λ e. subst (λ (z : ℕ). listed xs z ≡ without (listed (x ∷ xs)) x z) (sym e) (once ∙ sym (without_itself (listed (x ∷ xs)) x)))
    (λ ne. sym (without_other (listed (x ∷ xs)) x n ne ∙ ap (λ b. b || listed xs n) (ne_eqb x n (λ e. ne (sym e)))))
    (cases_eq n x)

pub how_many_listed : (xs : List ℕ) → once_each xs ≡ true → how_many (listed xs) ≡ length xs
how_many_listed [] o = count_none (listed []) 4294967296 (λ k. refl)
how_many_listed (x ∷ xs) o =
    let p = once_parts x xs o in
    omega (arith, how_many_listed xs p.2, drawn_fewer (listed (x ∷ xs)) (listed xs) x p.0.1 (listed_first x xs) (listed_rest x xs p.1))

-- ---- from the check of a load
later : (b d : Bool) (k : ℕ) (r : Option ℕ) → cond (b || d) (Some k) r ≡ None → (b ≡ false) × (d ≡ false) × (r ≡ None)
later b d k r e = search (rules, or_parts)

-- none of the numbers from the n-th on is zero, or stands before
fit_rest : (all : List ℕ) (n k : ℕ) (xs : List ℕ) → drop n all ≡ xs → ((i : ℕ) → slice_index xs i < 4294967296) → position_from (λ p. p.1 == 0 || listed (take p.0 all) p.1) k (enumerate_from n xs) ≡ None → (once_each xs ≡ true) × ((y : ℕ) → listed (take n all) y ≡ true → listed xs y ≡ false)
fit_rest all n k [] e small none = (refl, λ y l. refl)
fit_rest all n k (x ∷ xs) e small none =
    let step = one_more all n x xs e in
    let p = later (x == 0) (listed (take n all) x) k _ none in
    let rest = fit_rest all (n + 1) (k + 1) xs step.0 (λ i. small (suc i)) p.2 in
    let apart : (y : ℕ) → (listed (take n all) y || (x == y || false)) ≡ true → listed xs y ≡ false = λ y l. rest.1 y (ap (λ ys. listed ys y) step.1 ∙ list_any-append (λ z. z == y) (take n all) (x ∷ []) ∙ l) in
    let here = apart x (or_right (listed (take n all) x) (x == x || false) (listed_first x [])) in
    let pos : 0 < x = omega (arith, eqb-false x 0 p.0) in
    let top : x ≤ 4294967295 = omega (arith, small 0) in (
      and_from (nat_lt 0 x && nat_le x 4294967295) (not (listed xs x) && once_each xs)
          (and_from (nat_lt 0 x) (nat_le x 4294967295) (lt-ltb 0 x pos) (le-leb x 4294967295 top))
          (and_from (not (listed xs x)) (once_each xs) (not_from_false (listed xs x) here) rest.0),
      λ y l.
          or_from (x == y) (listed xs y)
          (ne_eqb x y (λ same. both_ways (listed (take n all) x) p.1 (subst (λ (z : ℕ). listed (take n all) z ≡ true) (sym same) l)))
          (apart y (or_left (listed (take n all) y) (x == y || false) l)),
    )

pub fit_once : (xs : List ℕ) → ((i : ℕ) → slice_index xs i < 4294967296) → first_unfit xs ≡ None → once_each xs ≡ true
fit_once xs small none = (fit_rest xs 0 0 xs refl small none).0

-- ---- reading
-- the names that are left stand in the list backwards
pub listed-reverse : (xs : List ℕ) (n : ℕ) → listed (reverse xs) n ≡ listed xs n
listed-reverse xs n = sym (list_any-IsPermutation (λ x. x == n) xs (reverse xs) (IsPermutation-reverse xs))
