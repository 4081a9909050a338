-- What has a number, counted from 1.
use Rattle.std.specs.Prelude.{ℕ, ◌-◌, cond, List, None, Option, ◌==◌, slice_index_or}
use Rattle.std.specs.List.{slice_get}

-- nothing at 0 and past the last
abbrev pub numbered : {A : Type 0} → List A → ℕ → Option A
numbered xs k = cond (k == 0) None (slice_get xs (k - 1))

-- the same, or d where there is no such element
abbrev pub at : {A : Type 0} → A → List A → ℕ → A
at d xs k = cond (k == 0) d (slice_index_or xs (k - 1) d)
