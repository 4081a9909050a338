-- The names ahead of a counter or a roll are in range.
use Rattle.std.specs.Prelude.{◌≡◌, ℕ, ◌<◌, true, ◌&&◌, nat_le}
use Rattle.std.proofs.Common.{arith}
use Rattle.std.proofs.lemmas.Bool.{and_parts, leb-true}
use Rattle.names.specs.Any.{view_of, ahead_in}
use Rattle.names.specs.Unread.{unread}
use Rattle.names.specs.Reading.{listed_name}
use Rattle.names.specs.declared.any.AnySource.{AnySource}
use Rattle.names.specs.declared.any.AnySource.TheVariants as any

counted : (next n : ℕ) → 0 < next → nat_le next n && nat_le n 4294967295 ≡ true → (0 < n) × (n < 4294967296)
counted next n low e =
    let p = and_parts (nat_le next n) (nat_le n 4294967295) e in
    (omega (arith, leb-true next n p.0), omega (arith, leb-true n 4294967295 p.1))

pub names_in_range : (s : AnySource) (n : ℕ) → ahead_in (view_of s) n ≡ true → (0 < n) × (n < 4294967296)
names_in_range (any.Counter c) n e = counted c.next n c.low e
names_in_range (any.Roll r) n e = listed_name (unread r) n r.once e
