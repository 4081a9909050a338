-- The check of one fact.
use Rattle.std.specs.Prelude.{ℕ, Bool, false, ◌&&◌, List, [], ◌∷◌, length, is_some, Option, ◌==◌}
use Rattle.layouts.specs.Meanings.{Meaning}
use Rattle.std.specs.List.{list_all}
use Rattle.std.specs.Option.{option_and_then, unwrap_or}
use Rattle.terms.specs.Rows.{row_item}
use Rattle.terms.specs.Held.{rows_of}
use Rattle.terms.specs.Marks.{marks_of}
use Rattle.types.specs.Forms.{mapped}
use Rattle.types.specs.Scopes.{Declarations, scope_type}
use Rattle.types.specs.Rows.{at, row_at, fill}
use Rattle.types.specs.Messages.{key_type, marks, has_type}
use Rattle.refusals.specs.Walks.{Answer, pass, demand}
use Rattle.terms.specs.declared.row.Item.{Item}
use Rattle.terms.specs.declared.row.Item.TheVariants.{Name}
use Rattle.layouts.specs.declared.layout.Params.{Params}
use Rattle.theory.specs.Data.{Ty}
use Rattle.terms.specs.declared.row.Row.{Row}
use Rattle.theory.specs.declared.data.Slot.{Slot}
use Rattle.theory.specs.Data.{Argument}
use Rattle.types.specs.declared.marked.Marked.{Marked}
use Rattle.types.specs.declared.faults.Ill.{Ill}
use Rattle.types.specs.declared.faults.Ill.TheVariants.{Count, Undeclared, Lacks}
use Rattle.terms.specs.declared.row.Row.TheVariants as row
use Rattle.theory.specs.declared.data.Slot.TheVariants as slot

-- whether all items in a row's term are declared, by the rows before it and their flags
abbrev pub known_of : Declarations → List Row → List Bool → Row → Bool
known_of s seen got (row.Item i) = is_some (scope_type s i)
known_of s seen got (row.Pair a b) = at false got a && at false got b
known_of s seen got (row.Seal c k) = at false got c && is_some (key_type s seen k)
known_of s seen got (row.Lock c k) = at false got c && is_some (key_type s seen k)

abbrev pub knowns : Declarations → List Row → List Bool
knowns s rows = fill (known_of s) [] [] rows

-- a book's rows with what is marked of them
pub record Ledger : Type 0 where
  pub rows : List Row
  pub known : List Bool
  pub message : List Bool

abbrev pub ledger_of : Marked → Ledger
ledger_of m = record { rows = rows_of m.book.now; known = marks_of m.known; message = marks_of m.message }

abbrev pub ledger : Meaning → Declarations → List Row → Ledger
ledger lay s rows = record { rows = rows; known = knowns s rows; message = marks lay s rows }

abbrev pub all_flags : List Bool → List ℕ → Bool
all_flags flags ks = list_all (at false flags) ks

abbrev pub item_in : Option Row → Item
item_in r = unwrap_or (option_and_then row_item r) (Name 0)

-- what a parameter means, among the arguments of a fact
abbrev pub slot_item : List Row → List ℕ → Slot → Item
slot_item rows args (slot.Name n) = Name n
slot_item rows args (slot.Place p) = item_in (row_at rows (at 0 args p))

abbrev pub filled : List Row → List ℕ → Params Slot → Params Item
filled rows args ps = mapped (slot_item rows args) ps

abbrev pub argument_type : List Row → List ℕ → Argument → Ty
argument_type rows args A = record { family = A.family; params = filled rows args A.params }

-- the first argument that lacks its type, its row told
abbrev pub arguments_check : Declarations → Ledger → List ℕ → List ℕ → List Argument → Answer Ill
arguments_check s l all [] As = pass
arguments_check s l all (k ∷ ks) [] = pass
arguments_check s l all (k ∷ ks) (A ∷ As) =
    demand (has_type s l.rows l.message k (argument_type l.rows all A)) (Lacks k) (arguments_check s l all ks As)

abbrev pub fact_check : Declarations → Ledger → List Argument → List ℕ → Answer Ill
fact_check s l takes args =
    demand (length args == length takes) Count (demand (all_flags l.known args) Undeclared (arguments_check s l args args takes))
