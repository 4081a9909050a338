-- Which rows have msg, and which have another type.
use Rattle.std.specs.Prelude.{ℕ, Bool, true, false, cond, ◌&&◌, ◌||◌, List, [], ◌∷◌, Some, None, Option, ◌==◌}
use Rattle.std.specs.Option.{option_and_then}
use Rattle.layouts.specs.Meanings.{Meaning}
use Rattle.terms.specs.Rows.{row_item}
use Rattle.types.specs.Scopes.{Declarations, scope_type}
use Rattle.types.specs.Types.{items}
use Rattle.theory.specs.Owners.{item_of}
use Rattle.types.specs.Rows.{at, row_at, fill}
use Rattle.terms.specs.declared.row.Item.{Item}
use Rattle.theory.specs.Data.{Ty}
use Rattle.theory.specs.declared.owner.Owner.{Owner}
use Rattle.terms.specs.declared.row.Row.{Row}
use Rattle.terms.specs.declared.row.Item.TheVariants.{Name, Variable}
use Rattle.layouts.specs.declared.layout.Kind.{Kind}
use Rattle.layouts.specs.declared.layout.Kind.TheVariants.{Plain, Sealing, Locking}
use Rattle.terms.specs.declared.row.Row.TheVariants as row

abbrev pub none : List Item → Bool
none [] = true
none (p ∷ ps) = false

abbrev pub is_msg : Ty → Bool
is_msg T = T.family == 0 && none (items T.params)

abbrev pub sends : Meaning → Option Ty → Bool
sends lay None = false
sends lay (Some T) = is_msg T || lay.sendable T.family

abbrev pub is_sealing : Kind → Bool
is_sealing Plain = false
is_sealing Sealing = true
is_sealing (Locking G) = false

abbrev pub is_locking : Kind → Bool
is_locking Plain = false
is_locking Sealing = false
is_locking (Locking G) = true

abbrev pub seals : Meaning → Option Ty → Bool
seals lay None = false
seals lay (Some T) = is_sealing (lay.kind T.family)

abbrev pub locks : Meaning → Option Ty → Bool
locks lay None = false
locks lay (Some T) = is_locking (lay.kind T.family)

abbrev pub declared_row : Declarations → Option Row → Option Ty
declared_row s r = option_and_then (scope_type s) (option_and_then row_item r)

-- the declared type of the item that a row is
abbrev pub key_type : Declarations → List Row → ℕ → Option Ty
key_type s rows k = declared_row s (row_at rows k)

-- whether a row has msg, by the rows before it and their marks
abbrev pub mark_of : Meaning → Declarations → List Row → List Bool → Row → Bool
mark_of lay s seen got (row.Item i) = sends lay (scope_type s i)
mark_of lay s seen got (row.Pair a b) = at false got a && at false got b
mark_of lay s seen got (row.Seal c k) = at false got c && seals lay (key_type s seen k)
mark_of lay s seen got (row.Lock c k) = at false got c && locks lay (key_type s seen k)

abbrev pub marks : Meaning → Declarations → List Row → List Bool
marks lay s rows = fill (mark_of lay s) [] [] rows

abbrev pub same_plain : Item → Item → Bool
same_plain (Name m) (Name n) = m == n
same_plain (Name m) (Variable w) = false
same_plain (Variable v) (Name n) = false
same_plain (Variable v) (Variable w) = v == w

abbrev pub same_item : Owner → Item → Item → Bool
same_item o i j = same_plain (item_of o i) (item_of o j)

abbrev pub same_items : Owner → List Item → List Item → Bool
same_items o [] [] = true
same_items o [] (q ∷ qs) = false
same_items o (p ∷ ps) [] = false
same_items o (p ∷ ps) (q ∷ qs) = same_item o p q && same_items o ps qs

abbrev pub same_type : Owner → Ty → Ty → Bool
same_type o T U = T.family == U.family && same_items o (items T.params) (items U.params)

abbrev pub is_type : Owner → Option Ty → Ty → Bool
is_type o None U = false
is_type o (Some T) U = same_type o T U

-- whether the term of a row has a type
abbrev pub has_type : Declarations → List Row → List Bool → ℕ → Ty → Bool
has_type s rows got k T = cond (is_msg T) (at false got k) (is_type s.owner (key_type s rows k) T)
