-- The counter: the names from a next one on, the lowest first.
use Rattle.std.specs.Prelude.{◌≡◌, ℕ, ◌+◌, ◌<◌, ◌≤◌, ◌&&◌, Some, None, Option, nat_le}
use Rattle.names.specs.Sets.{Names}

-- The names from the next one through 4,294,967,295.
abbrev pub from_next : ℕ → Names
from_next next n = nat_le next n && nat_le n 4294967295

-- A draw gives the next number, which is the lowest ahead, and goes one further; past the last it gives nothing.
abbrev pub Counts : ℕ → Option ℕ → ℕ → Type 0
Counts next None after = (4294967295 < next) × (after ≡ next)
Counts next (Some x) after = (next ≤ 4294967295) × (x ≡ next) × (after ≡ next + 1)
