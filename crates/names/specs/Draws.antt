-- What a draw does to the names ahead.
use Rattle.std.specs.Prelude.{◌≡◌, ℕ, true, false, Some, None, Option}
use Rattle.names.specs.Sets.{Names, without}

-- Nothing comes exactly where no name is ahead; else a name that was ahead, which alone leaves the set.
abbrev pub Drawn : Names → Option ℕ → Names → Type 0
Drawn f None g = ((n : ℕ) → f n ≡ false) × ((n : ℕ) → g n ≡ f n)
Drawn f (Some x) g = (f x ≡ true) × ((n : ℕ) → g n ≡ without f x n)
