-- Which items a scope grants to an owner, by tests.
use Rattle.std.specs.Prelude.{Bool, false, ◌&&◌, List, [], Some, None, Option}
use Rattle.judgments.specs.Access.{first_of, second_of}
use Rattle.layouts.specs.Codes.{item_code, code_of}
use Rattle.layouts.specs.Meanings.{Meaning}
use Rattle.terms.specs.Rows.{same_item}
use Rattle.terms.specs.declared.row.Item.{Item}
use Rattle.terms.specs.declared.row.Row.{Row}
use Rattle.terms.specs.declared.row.Row.TheVariants as row
use Rattle.theory.specs.Owners.{owner_item, item_of}
use Rattle.theory.specs.Data.{Ty}
use Rattle.theory.specs.declared.owner.Owner.{Owner}
use Rattle.types.specs.Rows.{fill}
use Rattle.types.specs.Types.{items}
use Rattle.std.specs.List.{list_any}
use Rattle.reading.specs.declared.scope.Entry.{Entry}

-- The entry declares p, the first parameter of the type, so that the type's items are granted.
abbrev pub above_grants : Meaning → Item → Ty → Item → Entry → Bool
above_grants lay o T p e =
    same_item e.item p
    && lay.grants (item_code o) T.family (item_code p) (code_of (second_of (items T.params))) (code_of (first_of (items e.of.params)))

abbrev pub grants_by : Meaning → List Entry → Item → Ty → Option Item → Bool
grants_by lay scope o T None = lay.grants (item_code o) T.family 0 0 0
grants_by lay scope o T (Some p) = list_any (above_grants lay o T p) scope

-- Items of the type are granted to the owner o.
abbrev pub type_granted : Meaning → List Entry → Item → Ty → Bool
type_granted lay scope o T = grants_by lay scope o T (first_of (items T.params))

abbrev pub entry_grants : Meaning → List Entry → Item → Item → Entry → Bool
entry_grants lay scope o i e = same_item e.item i && type_granted lay scope o e.of

-- The item is granted to the owner o, by one of its declarations.
abbrev pub item_granted : Meaning → List Entry → Item → Item → Bool
item_granted lay scope o i = list_any (entry_grants lay scope o i) scope

abbrev pub row_granted : Meaning → List Entry → Owner → Row → Bool
row_granted lay scope o (row.Item i) = item_granted lay scope (owner_item o) (item_of o i)
row_granted lay scope o (row.Pair a b) = false
row_granted lay scope o (row.Seal c k) = false
row_granted lay scope o (row.Lock c k) = false

abbrev pub granted_by : Meaning → List Entry → Owner → List Row → List Bool → Row → Bool
granted_by lay scope o seen had r = row_granted lay scope o r

-- Row by row: which items are granted to the owner.
abbrev pub granted_rows : Meaning → List Entry → Owner → List Row → List Bool
granted_rows lay scope o rows = fill (granted_by lay scope o) [] [] rows
