-- Marks on rows: those received so far, and what a pass over them adds.
use Rattle.std.specs.Prelude.{◌≡◌, ℕ, zero, suc, ◌+◌, ◌-◌, Bool, true, false, cond, not, ◌&&◌, ◌||◌, List, [], length, Some, None, vec_items, Option, option_and_then, slice_set, slice_index_or, fold, count_by}
use Rattle.terms.specs.Rows.{same_item, is_row, row_item}
use Rattle.terms.specs.declared.row.Item.{Item}
use Rattle.terms.specs.declared.row.Row.{Row}
use Rattle.terms.specs.declared.row.Row.TheVariants as row
use Rattle.theory.specs.Owners.{item_of}
use Rattle.theory.specs.declared.data.Fact.{Fact}
use Rattle.theory.specs.declared.owner.Owner.{Owner}
use Rattle.terms.specs.Held.{rows_of}
use Rattle.types.specs.Rows.{at, row_at, fill}
use Rattle.std.specs.List.{list_any}
use Rattle.reading.specs.declared.marks.View.{View}
use Rattle.reading.specs.declared.openers.Opener.{Opener}

-- What rows are read with: for each its lowest row and whether it is granted, and what opens locks.
pub record Sight : Type 0 where
  pub rows : List Row
  pub low : List ℕ
  pub granted : List Bool
  pub openers : List (Option Opener)
  pub owner : Owner

abbrev pub sight_of : View → Sight
sight_of v = record { rows = rows_of v.book.now; low = v.low.now; granted = v.granted.now; openers = v.openers.now; owner = v.owner }

-- The row with the place, if there is one, is marked.
abbrev pub is_on : List Bool → Option ℕ → Bool
is_on got None = false
is_on got (Some n) = slice_index_or got n false

-- The opener is for the key, and is held: granted, or received.
abbrev pub opens_now : List Bool → Item → Option Opener → Bool
opens_now got k None = false
opens_now got k (Some x) = same_item x.key k && (x.granted || is_on got x.place)

-- The term of the row is received: its lowest row is marked.
abbrev pub received : Sight → List Bool → ℕ → Bool
received w got k = at false got (at 0 w.low k)

-- The item of the row is held: received, or granted.
abbrev pub held_of : Sight → List Bool → ℕ → Bool
held_of w got k = received w got k || at false w.granted k

-- There is a key, and some opener of it, as the owner reads it, is held.
abbrev pub is_unlocked : Sight → List Bool → Option Item → Bool
is_unlocked w got None = false
is_unlocked w got (Some i) = list_any (opens_now got (item_of w.owner i)) w.openers

-- The row is no seal or lock, or the key of the seal is held, or an opener of the lock.
abbrev pub is_open : Sight → List Bool → Row → Bool
is_open w got (row.Item i) = true
is_open w got (row.Pair a b) = true
is_open w got (row.Seal c k) = held_of w got k
is_open w got (row.Lock c k) = is_unlocked w got (option_and_then row_item (row_at w.rows k))

abbrev pub mark_row : List Bool → ℕ → List Bool
mark_row got n = cond (is_row (length got) n) (slice_set got (n - 1) true) got

-- The lowest row for the term of the row is marked.
abbrev pub put : List ℕ → List Bool → ℕ → List Bool
put low got k = mark_row got (at 0 low k)

-- What a received row lets one read is marked.
abbrev pub opened_row : Sight → List Bool → Option Row → List Bool
opened_row w got None = got
opened_row w got (Some (row.Item i)) = got
opened_row w got (Some (row.Pair a b)) = put w.low (put w.low got a) b
opened_row w got (Some (row.Seal c k)) = cond (is_open w got (row.Seal c k)) (put w.low got c) got
opened_row w got (Some (row.Lock c k)) = cond (is_open w got (row.Lock c k)) (put w.low got c) got

abbrev pub visit : Sight → List Bool → ℕ → List Bool
visit w got n = cond (at false got n) (opened_row w got (row_at w.rows n)) got

-- The rows are visited from the number n down.
abbrev pub pass_from : Sight → ℕ → List Bool → List Bool
pass_from w zero got = got
pass_from w (suc n) got = pass_from w n (visit w got (suc n))

abbrev pub pass : Sight → List Bool → List Bool
pass w got = pass_from w (length w.rows) got

-- By any number of passes from some marks to others.
pub data Reaches (w : Sight) : List Bool → List Bool → Type 0 where
  here : {got : List Bool} → Reaches w got got
  onward : {got got' : List Bool} → Reaches w got got' → Reaches w got (pass w got')

-- Passes are made until one adds nothing.
pub record Closed (w : Sight) (got got' : List Bool) : Type 0 where
  pub reached : Reaches w got got'
  pub full : pass w got' ≡ got'

-- How many marks are on.
abbrev pub ons : List Bool → ℕ
ons bs = count_by (λ b. b) bs

abbrev pub put_all : List ℕ → List Bool → List ℕ → List Bool
put_all low got ks = fold (put low) got ks

-- The arguments of the facts are marked.
abbrev pub put_facts : List ℕ → List Bool → List Fact → List Bool
put_facts low got fs = fold (λ marks f. put_all low marks (vec_items f.rows)) got fs

-- The row is received, and stays closed.
abbrev pub closed_of : Sight → List Bool → ℕ → Row → Bool
closed_of w got k r = received w got k && not (is_open w got r)

abbrev pub held_by : Sight → List Bool → List Row → List Bool → Row → Bool
held_by w got seen had r = held_of w got (length seen + 1)

abbrev pub closed_by : Sight → List Bool → List Row → List Bool → Row → Bool
closed_by w got seen had r = closed_of w got (length seen + 1) r

-- Row by row: which items are held, and which seals and locks stay closed.
abbrev pub held_rows : Sight → List Bool → List Bool
held_rows w got = fill (held_by w got) [] [] w.rows

abbrev pub closed_rows : Sight → List Bool → List Bool
closed_rows w got = fill (closed_by w got) [] [] w.rows
