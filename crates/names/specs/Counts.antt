-- How many names a set has.
use Rattle.std.specs.Prelude.{◌≡◌, ℕ, zero, suc, ◌+◌, ◌-◌, ◌<◌, ◌≤◌, Bool, true, false, not, ◌&&◌, ◌||◌, leb, List, [], ◌∷◌, ◌++◌, length, get_or, take, drop, count_by, ◌==◌, ◌≢◌, refl}
use Rattle.std.specs.List.{enumerate_from}
use Rattle.std.proofs.lemmas.List.{take-append-drop, append-nil, take_more, drop_more}
use Rattle.std.proofs.lemmas.List.Folds.{list_any-append}
use Rattle.std.proofs.lemmas.List.Sums.{sum_by-cons}
use Rattle.std.proofs.Common.{sym, ap, subst, ◌∙◌, ⊎_elim, arith, rules, length-drop}
use Rattle.std.proofs.lemmas.Bool.{cases_lt, cases_eq, cases_Bool, ne_eqb, eq-eqb, le-leb, lt-leb}
use Rattle.names.specs.Sets.{without, one_if, count_below, how_many, listed, minus}
use Rattle.names.specs.Counting.{from_next}
use Rattle.names.specs.Withheld.{hidden}

one_if_le : (b : Bool) → one_if b ≤ 1
one_if_le true = omega arith
one_if_le false = omega arith

kept_out : (a b : Bool) → b ≡ true → (a && not b) ≡ false
kept_out true b e = rw e refl
kept_out false b e = refl

pub without_other : (f : ℕ → Bool) (x k : ℕ) → (k ≢ x) → without f x k ≡ f k
without_other f x k ne = rw (ne_eqb x k (λ e. ne (sym e))) (search rules)

pub without_itself : (f : ℕ → Bool) (x : ℕ) → without f x x ≡ false
without_itself f x = rw (eq-eqb x x refl) (search rules)

pub count_same : (f g : ℕ → Bool) (n : ℕ) → ((k : ℕ) → k < n → f k ≡ g k) → count_below f n ≡ count_below g n
unfolding count_below
count_same f g zero h = refl
count_same f g (suc n) h = omega (arith, count_same f g n (λ k l. h k (omega arith)), ap one_if (h n (omega arith)))

pub count_none : (f : ℕ → Bool) (n : ℕ) → ((k : ℕ) → f k ≡ false) → count_below f n ≡ 0
unfolding count_below
count_none f zero h = refl
count_none f (suc n) h = omega (arith, count_none f n h, ap one_if (h n))

count_without_last : (f : ℕ → Bool) (n : ℕ) → count_below (without f n) (suc n) + one_if (f n) ≡ count_below f (suc n)
unfolding count_below
count_without_last f n = omega (arith, count_same (without f n) f n (λ k l. without_other f n k (omega arith)), ap one_if (without_itself f n))

pub count_without : (f : ℕ → Bool) (x n : ℕ) → x < n → count_below (without f x) n + one_if (f x) ≡ count_below f n
unfolding count_below
count_without f x zero within = let none : ⊥ = omega arith in absurd none
count_without f x (suc n) within =
    ⊎_elim
    (λ e. subst (λ (z : ℕ). count_below (without f z) (suc n) + one_if (f z) ≡ count_below f (suc n)) (sym e) (count_without_last f n))
    (λ ne. omega (arith, count_without f x n (omega arith), ap one_if (without_other f x n (λ e. ne (sym e)))))
    (cases_eq x n)

pub count_from : (a n : ℕ) → count_below (λ k. leb a k) n ≡ n - a
unfolding count_below
count_from a zero = omega arith
count_from a (suc n) =
    ⊎_elim
    (λ l. omega (arith, count_from a n, ap one_if (lt-leb a n l)))
    (λ l. omega (arith, count_from a n, ap one_if (le-leb a n l)))
    (cases_lt n a)

-- the names of a counter
pub how_many_from : (a : ℕ) → how_many (from_next a) ≡ 4294967296 - a
how_many_from a = count_same (from_next a) (λ k. leb a k) 4294967296 (λ k l. rw (le-leb k 4294967295 (omega arith)) (search rules)) ∙ count_from a 4294967296

minus_more : (a b d : Bool) → (a && not (b || (d || false))) ≡ ((a && not b) && not d)
minus_more true true d = refl
minus_more true false true = refl
minus_more true false false = refl
minus_more false b d = refl

pub minus_push : (f : ℕ → Bool) (xs : List ℕ) (x k : ℕ) → minus f (xs ++ x ∷ []) k ≡ without (minus f xs) x k
minus_push f xs x k = ap (λ b. f k && not b) (list_any-append (λ y. y == k) xs (x ∷ [])) ∙ minus_more (f k) (listed xs k) (x == k)

beyond : (f : ℕ → Bool) → ((n : ℕ) → f n ≡ true → n < 4294967296) → (w : ℕ) (b : Bool) → 4294967296 ≤ w → (f w && b) ≡ false
beyond f bound w b past =
    ⊎_elim
    (λ t. let no_way : ⊥ = omega (arith, bound w t) in absurd no_way)
    (λ e. rw e refl)
    (cases_Bool (f w))

-- one number more is withheld
minus_one : (f : ℕ → Bool) → ((n : ℕ) → f n ≡ true → n < 4294967296) → (xs : List ℕ) (x : ℕ) → how_many (minus f (xs ++ x ∷ [])) + one_if (f x && not (listed xs x)) ≡ how_many (minus f xs)
minus_one f bound xs x =
    let g : ℕ → Bool = minus f xs in
    let one : how_many (minus f (xs ++ x ∷ [])) ≡ how_many (without g x) = count_same (minus f (xs ++ x ∷ [])) (without g x) 4294967296 (λ k l. minus_push f xs x k) in
    ⊎_elim
    (λ l. omega (arith, one, count_without g x 4294967296 l))
    (λ l.
    let out : g x ≡ false = beyond f bound x (not (listed xs x)) l in
    let same : how_many (without g x) ≡ how_many g = count_same (without g x) g 4294967296 (λ k h. without_other g x k (omega arith)) in
    omega (arith, one, same, ap one_if out))
    (cases_lt x 4294967296)

-- one element more of a list is read
pub one_more : (all : List ℕ) (n x : ℕ) (xs : List ℕ) → drop n all ≡ x ∷ xs → (drop (n + 1) all ≡ xs) × (take (n + 1) all ≡ take n all ++ x ∷ [])
one_more all n x xs e =
    let within : n < length all = omega (arith, length-drop n all, ap length e) in
    let split = drop_more all n 0 within in
    let here : get_or all n 0 ≡ x = cc in
    (cc, rw here at (take_more all n 0 within))

-- the numbers from the n-th on are withheld too
minus_rest : (f : ℕ → Bool) → ((n : ℕ) → f n ≡ true → n < 4294967296) → (all : List ℕ) (n : ℕ) (xs : List ℕ) → drop n all ≡ xs → how_many (minus f all) + count_by (λ p. f p.1 && not (listed (take p.0 all) p.1)) (enumerate_from n xs) ≡ how_many (minus f (take n all))
minus_rest f bound all n [] e =
    let whole : take n all ≡ all = sym (append-nil (take n all)) ∙ subst (λ (ys : List ℕ). take n all ++ ys ≡ all) e (take-append-drop n all) in
    omega (arith, ap (λ (ys : List ℕ). how_many (minus f ys)) whole)
minus_rest f bound all n (x ∷ xs) e =
    let step = one_more all n x xs e in
    let more = minus_rest f bound all (n + 1) xs step.0 in
    let fewer = minus_one f bound (take n all) x in
    let test : ℕ × ℕ → Bool = λ p. f p.1 && not (listed (take p.0 all) p.1) in
    let counted = sum_by-cons (λ (p : ℕ × ℕ). one_if (test p)) (n, x) (enumerate_from (n + 1) xs) in
    omega (arith, more, fewer, ap (λ (ys : List ℕ). how_many (minus f ys)) step.1, counted)

-- the names of a withholding layer
pub how_many_minus : (f : ℕ → Bool) → ((n : ℕ) → f n ≡ true → n < 4294967296) → (ws : List ℕ) → how_many (minus f ws) + hidden f ws ≡ how_many f
how_many_minus f bound ws =
    let same : how_many (minus f []) ≡ how_many f = count_same (minus f []) f 4294967296 (λ k l. search rules) in
    omega (arith, minus_rest f bound ws 0 ws refl)

pub count_le : (f : ℕ → Bool) (n : ℕ) → count_below f n ≤ n
unfolding count_below
count_le f zero = omega arith
count_le f (suc n) = omega (arith, count_le f n, one_if_le (f n))

-- ---- what drawing does to the count, and to a withholding layer
pub drawn_fewer : (f g : ℕ → Bool) (x : ℕ) → x < 4294967296 → f x ≡ true → ((n : ℕ) → g n ≡ without f x n) → how_many g + 1 ≡ how_many f
drawn_fewer f g x within t after =
    omega (arith, count_same g (without f x) 4294967296 (λ k l. after k), count_without f x 4294967296 within, ap one_if t)

and_swap : (a b d : Bool) → ((a && b) && d) ≡ ((a && d) && b)
and_swap true true true = refl
and_swap true true false = refl
and_swap true false true = refl
and_swap true false false = refl
and_swap false b d = refl

pub minus_drawn : (f g : ℕ → Bool) (ws : List ℕ) (x : ℕ) → ((n : ℕ) → g n ≡ without f x n) → (n : ℕ) → minus g ws n ≡ without (minus f ws) x n
minus_drawn f g ws x after n = ap (λ b. b && not (listed ws n)) (after n) ∙ and_swap (f n) (not (x == n)) (not (listed ws n))

pub minus_skipped : (f g : ℕ → Bool) (ws : List ℕ) (x : ℕ) → listed ws x ≡ true → ((n : ℕ) → g n ≡ without f x n) → (n : ℕ) → minus g ws n ≡ minus f ws n
minus_skipped f g ws x there after n =
    minus_drawn f g ws x after n
    ∙ ⊎_elim
    (λ e. subst (λ (z : ℕ). without (minus f ws) x z ≡ minus f ws z) (sym e) (without_itself (minus f ws) x ∙ sym (kept_out (f x) (listed ws x) there)))
    (λ ne. without_other (minus f ws) x n ne)
    (cases_eq n x)
