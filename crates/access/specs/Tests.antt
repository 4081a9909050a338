-- The tests of the access check, told which rows are held and which stay closed.
use Rattle.std.specs.Prelude.{ℕ, ◌+◌, ◌-◌, Bool, true, false, not, ◌&&◌, ◌||◌, List, [], ◌∷◌, length, take, Some, None, Err, vec_items, Option, nat_le, nat_lt}
use Rattle.layouts.specs.Meanings.{Meaning}
use Rattle.reading.specs.Openers.{reads_as}
use Rattle.refusals.specs.Walks.{Answer, pass, demand, and_then, walk}
use Rattle.std.specs.List.{find, position_from}
use Rattle.terms.specs.Filling.{fill}
use Rattle.terms.specs.declared.row.Item.{Item}
use Rattle.terms.specs.declared.row.Item.TheVariants.{Name, Variable}
use Rattle.terms.specs.declared.row.Row.{Row}
use Rattle.terms.specs.declared.row.Row.TheVariants as row
use Rattle.theory.specs.Owners.{owner_item, item_of}
use Rattle.theory.specs.declared.data.Fact.{Fact}
use Rattle.theory.specs.declared.data.Symbol.{Symbol}
use Rattle.theory.specs.declared.data.Symbol.TheVariants as symbol
use Rattle.theory.specs.Data.{Ty}
use Rattle.theory.specs.declared.owner.Owner.{Owner}
use Rattle.types.specs.Rows.{at, row_at}
use Rattle.types.specs.Rules.{Place}
use Rattle.access.specs.Demands.{Parts}
use Rattle.refusals.specs.Faults.{at_spot}
use Rattle.access.specs.Places.{at_rule, same}
use Rattle.access.specs.Faults.{AccessFault}
use Rattle.access.specs.declared.faults.Denied.{Denied}
use Rattle.access.specs.declared.faults.Denied.TheVariants.{NotOwner, StaysClosed, NotMakeable, NotBuildable}

-- ---- the owner
abbrev pub is_owner : Owner → Option Row → Bool
is_owner o None = false
is_owner o (Some r) = reads_as o (owner_item o) r

abbrev pub begins : Owner → List Row → List ℕ → Bool
begins o rows [] = false
begins o rows (k ∷ ks) = is_owner o (row_at rows k)

abbrev pub owned : Owner → List Row → Symbol → List ℕ → Bool
owned o rows symbol.Network ks = true
owned o rows (symbol.Memory m) ks = begins o rows ks
owned o rows (symbol.Role p) ks = begins o rows ks

abbrev pub owner_check : Place → List Fact → Fact → Answer Denied
owner_check e seen f = demand (owned e.owner e.rows f.symbol (vec_items f.rows)) NotOwner pass

abbrev pub owners_check : Place → ℕ → List Fact → Answer AccessFault
owners_check e base fs = walk (owner_check e) (at_spot e.role e.rule base) [] fs

-- ---- what stays closed
-- the row after so many others
abbrev pub none_closed : Place → Option ℕ → Answer AccessFault
none_closed e None = pass
none_closed e (Some n) = Err (at_rule e.role e.rule (n + 1) (StaysClosed (n + 1)))

-- The lowest row whose mark is on; a mark behind the last row counts for nothing.
abbrev pub closed_rows_check : Place → List Bool → Answer AccessFault
closed_rows_check e closed = none_closed e (position_from (λ b. b) 0 (take (length e.rows) closed))

-- ---- what is made
abbrev pub made_check : Meaning → List Ty → Ty → Answer Denied
made_check lay seen T = demand (lay.makeable T.family) NotMakeable pass

abbrev pub all_made_check : Meaning → Place → ℕ → List Ty → Answer AccessFault
all_made_check lay e base ms = walk (made_check lay) (at_spot e.role e.rule base) [] ms

-- ---- what can be built
-- m variables are made after u others.
abbrev pub is_made : ℕ → ℕ → Item → Bool
is_made u m (Name n) = false
is_made u m (Variable v) = nat_lt u v && nat_le (v - u) m

abbrev pub can_build : Owner → ℕ → ℕ → List Bool → ℕ → List Bool → Row → Bool
can_build o u m held k can (row.Item i) = at false held k || is_made u m (item_of o i)
can_build o u m held k can (row.Pair a b) = at false can a && at false can b
can_build o u m held k can (row.Seal c j) = at false can c && at false can j
can_build o u m held k can (row.Lock c j) = at false can c && at false can j

abbrev pub can_by : Owner → ℕ → ℕ → List Bool → List Row → List Bool → Row → Bool
can_by o u m held seen can r = can_build o u m held (length seen + 1) can r

-- Row by row: whether it can be built.
abbrev pub can_rows : Owner → ℕ → ℕ → List Bool → List Row → List Bool
can_rows o u m held rows = fill (can_by o u m held) [] [] rows

abbrev pub none_unbuilt : Option ℕ → Answer Denied
none_unbuilt None = pass
none_unbuilt (Some k) = Err (NotBuildable k)

-- The first argument that cannot be built.
abbrev pub arguments_check : List Bool → List ℕ → Answer Denied
arguments_check can ks = none_unbuilt (find (λ k. not (at false can k)) ks)

abbrev pub built_check : List Bool → List Fact → Fact → Answer Denied
built_check can seen f = arguments_check can (vec_items f.rows)

abbrev pub all_built_check : Place → List Bool → ℕ → List Fact → Answer AccessFault
all_built_check e can base fs = walk (built_check can) (at_spot e.role e.rule base) [] fs

-- after the owner: closed rows, made variables, right facts
abbrev pub reading_check : Meaning → Place → List Bool → List Bool → Parts → Answer AccessFault
reading_check lay e held closed p =
    and_then same (closed_rows_check e closed)
    (and_then same (all_made_check lay e (length p.universal) p.made)
    (all_built_check e (can_rows e.owner (length p.universal) (length p.made) held e.rows) (length p.left) p.right))
