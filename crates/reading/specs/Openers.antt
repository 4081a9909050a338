-- Which items of a scope open what is locked under a key, by tests.
use Rattle.std.specs.Prelude.{ℕ, Bool, false, cond, ◌&&◌, List, Some, None, Option, ◌==◌}
use Rattle.layouts.specs.Meanings.{Meaning}
use Rattle.layouts.specs.declared.layout.Kind.{Kind}
use Rattle.layouts.specs.declared.layout.Kind.TheVariants.{Plain, Sealing, Locking}
use Rattle.terms.specs.Rows.{same_item}
use Rattle.terms.specs.declared.row.Item.{Item}
use Rattle.terms.specs.declared.row.Row.{Row}
use Rattle.terms.specs.declared.row.Row.TheVariants as row
use Rattle.theory.specs.Owners.{owner_item, item_of}
use Rattle.layouts.specs.declared.layout.Params.{Params}
use Rattle.layouts.specs.declared.layout.Params.TheVariants.{Zero, One, Two}
use Rattle.theory.specs.declared.owner.Owner.{Owner}
use Rattle.std.specs.List.{list_any, position_from}
use Rattle.reading.specs.Grants.{item_granted}
use Rattle.reading.specs.declared.openers.Opener.{Opener}
use Rattle.reading.specs.declared.scope.Entry.{Entry}

-- Keys of the kind lock, and the family opens what they lock.
abbrev pub opened_by : Kind → ℕ → Bool
opened_by Plain F = false
opened_by Sealing F = false
opened_by (Locking G) F = G == F

abbrev pub entry_locks : Meaning → Item → ℕ → Entry → Bool
entry_locks lay k F e = same_item e.item k && opened_by (lay.kind e.of.family) F

-- The item k is declared as a key, and the family opens what it locks.
abbrev pub locks_for : Meaning → List Entry → Item → ℕ → Bool
locks_for lay scope k F = list_any (entry_locks lay k F) scope

-- The row is the item, as the owner reads it.
abbrev pub reads_as : Owner → Item → Row → Bool
reads_as o i (row.Item j) = same_item (item_of o j) i
reads_as o i (row.Pair a b) = false
reads_as o i (row.Seal c k) = false
reads_as o i (row.Lock c k) = false

-- The place, counted from 0, of the first row that is the item.
abbrev pub place_of : Owner → Item → List Row → Option ℕ
place_of o i rows = position_from (reads_as o i) 0 rows

abbrev pub opener_by : Meaning → List Entry → Owner → List Row → Entry → Params Item → Option Opener
opener_by lay scope o rows e Zero = None
opener_by lay scope o rows e (One k) = cond (locks_for lay scope k e.of.family) (Some (record { key = k; granted = item_granted lay scope (owner_item o) e.item; place = place_of o e.item rows })) None
opener_by lay scope o rows e (Two p q) = None

-- What the declared item opens, if anything.
abbrev pub opener_of : Meaning → List Entry → Owner → List Row → Entry → Option Opener
opener_of lay scope o rows e = opener_by lay scope o rows e e.of.params
