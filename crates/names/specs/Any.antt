-- A counter or a roll.
use Rattle.std.specs.Prelude.{◌≡◌, ℕ, List, Some, None, Option, Result}
use Rattle.names.specs.Sets.{Names, listed}
use Rattle.names.specs.Counting.{from_next, Counts}
use Rattle.names.specs.Rolls.{load_answer, load_leaves, Reads}
use Rattle.names.specs.Unread.{unread}
use Rattle.names.specs.declared.any.AnySource.{AnySource}
use Rattle.names.specs.declared.any.AnySource.TheVariants as any
use Rattle.names.specs.declared.faults.ListFault.{ListFault}

-- What is to be known of such a source: the next number of a counter, the names of a roll still to be read.
pub data View : Type 0 where
  counting : ℕ → View
  reading : List ℕ → View

abbrev pub view_of : AnySource → View
view_of (any.Counter c) = counting c.next
view_of (any.Roll r) = reading (unread r)

abbrev pub ahead_in : View → Names
ahead_in (counting next) = from_next next
ahead_in (reading names) = listed names

-- A draw is that of the counter, or of the roll.
abbrev pub Steps : View → Option ℕ → View → Type 0
Steps (counting next) r (counting after) = Counts next r after
Steps (counting next) r (reading names) = ⊥
Steps (reading names) r (counting next) = ⊥
Steps (reading names) r (reading after) = Reads names r after

-- Loading a list: a roll answers, and a counter is no roll.
abbrev pub Loads : View → List ℕ → Option (Result (Unit {0}) ListFault) → View → Type 0
Loads (counting next) xs r after = (r ≡ None) × (after ≡ counting next)
Loads (reading old) xs r after = (r ≡ Some (load_answer xs)) × (after ≡ reading (load_leaves old xs (load_answer xs)))
