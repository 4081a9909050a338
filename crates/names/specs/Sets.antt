-- Sets of names, as tests on numbers; lists as sets; and how many names a set has.
use Rattle.std.specs.Prelude.{ℕ, zero, suc, ◌+◌, Bool, cond, not, ◌&&◌, List, ◌==◌}
use Rattle.std.specs.List.{list_any}

-- A set of names.
abbrev pub Names : Type 0
Names = ℕ → Bool

-- The set without one name.
abbrev pub without : Names → ℕ → Names
without f x n = f n && not (x == n)

-- The set of the numbers of a list.
abbrev pub listed : List ℕ → Names
listed xs n = list_any (λ x. x == n) xs

-- The set without the numbers of a list.
abbrev pub minus : Names → List ℕ → Names
minus f xs n = f n && not (listed xs n)

abbrev pub one_if : Bool → ℕ
one_if b = cond b 1 0

-- How many numbers below the bound are in the set. It stays shut in proofs: the bound is 2 ^ 32.
unfoldable pub count_below : Names → ℕ → ℕ
count_below f zero = 0
count_below f (suc n) = count_below f n + one_if (f n)

-- How many names are in the set.
abbrev pub how_many : Names → ℕ
how_many f = count_below f 4294967296
