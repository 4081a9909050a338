-- Playing a script: what a line does to the state, and its answer.
use Rattle.std.specs.Prelude.{◌≡◌, ℕ, max, Bool, true, false, List, [], ◌∷◌, ◌++◌, length, Some, None, Ok, Err, Option, Result}
use Rattle.std.specs.Option.{option_map}
use Rattle.access.specs.Checks as checks
use Rattle.access.specs.declared.faults.CheckFault.{CheckFault}
use Rattle.layouts.specs.declared.any.AnyLayout.{AnyLayout}
use Rattle.layouts.specs.Any.{meaning_of}
use Rattle.layouts.specs.Meanings.{Meaning}
use Rattle.names.specs.Any.{View, counting, reading}
use Rattle.names.specs.Rolls.{load_answer}
use Rattle.names.specs.Withheld.{withhold_answer}
use Rattle.names.specs.declared.faults.ListFault.{ListFault}
use Rattle.script.specs.Lines.{Reads}
use Rattle.script.specs.Said as said
use Rattle.script.specs.Facts.{SaidFact}
use Rattle.script.specs.Said.{Said, SaidPart, SaidLine}
use Rattle.terms.specs.Adding.{Added}
use Rattle.terms.specs.declared.faults.BookFault.{BookFault}
use Rattle.terms.specs.declared.row.Row.{Row}
use Rattle.terms.specs.Held.{capacity_of}
use Rattle.theory.specs.Data.{Argument}
use Rattle.theory.specs.declared.data.Declared.{Declared}
use Rattle.theory.specs.declared.data.Theory.{Theory}
use Rattle.bench.specs.Changes.{Kept, Edited}
use Rattle.bench.specs.Roles.{WrittenRole, blank_role, changed_last, with_part}
use Rattle.bench.specs.States.{State, Written, nothing}
use Rattle.bench.specs.declared.answer.Answer.{Answer}
use Rattle.bench.specs.declared.answer.Answer.TheVariants as answer
use Rattle.bench.specs.declared.faults.Fault.{Fault}
use Rattle.bench.specs.declared.faults.Fault.TheVariants as fault

-- ---- changes of the theory
abbrev pub with_rows : Written → List Row → Written
with_rows w rows = record { rows = rows; names = w.names; memory = w.memory; roles = w.roles }

-- one name more
abbrev pub with_name : Written → Declared → Written
with_name w d = record { rows = w.rows; names = w.names ++ (d ∷ []); memory = w.memory; roles = w.roles }

-- one memory predicate more
abbrev pub with_memory : Written → List Argument → Written
with_memory w arguments = record { rows = w.rows; names = w.names; memory = w.memory ++ (arguments ∷ []); roles = w.roles }

abbrev pub with_roles : Written → List WrittenRole → Written
with_roles w roles = record { rows = w.rows; names = w.names; memory = w.memory; roles = roles }

-- ---- changes of the state
abbrev pub with_theory : State → Written → State
with_theory s w = record { theory = w; initial = s.initial; layout = s.layout; source = s.source; layered = s.layered; withheld = s.withheld }

abbrev pub with_initial : State → List SaidFact → State
with_initial s facts = record { theory = s.theory; initial = facts; layout = s.layout; source = s.source; layered = s.layered; withheld = s.withheld }

abbrev pub with_layout : State → AnyLayout → State
with_layout s l = record { theory = s.theory; initial = s.initial; layout = l; source = s.source; layered = s.layered; withheld = s.withheld }

-- A source that was just chosen has no layer over it.
abbrev pub with_source : State → View → State
with_source s v = record { theory = s.theory; initial = s.initial; layout = s.layout; source = v; layered = false; withheld = [] }

abbrev pub with_list : State → List ℕ → State
with_list s xs = record { theory = s.theory; initial = s.initial; layout = s.layout; source = reading xs; layered = s.layered; withheld = s.withheld }

abbrev pub with_layer : State → List ℕ → State
with_layer s xs = record { theory = s.theory; initial = s.initial; layout = s.layout; source = s.source; layered = true; withheld = xs }

-- ---- rows
abbrev pub by_number : Result ℕ BookFault → Answer
by_number (Ok n) = answer.Row n
by_number (Err f) = answer.Refused (fault.Book f)

-- The row is added to a book with memory for so many rows.
abbrev pub RowAdded : ℕ → State → Row → State → Answer → Type 0
RowAdded capacity s r t a =
    (result : Result ℕ BookFault) × Added s.theory.rows capacity r t.theory.rows result × (a ≡ by_number result) × (t ≡ with_theory s (with_rows s.theory t.theory.rows))

-- ---- checks
abbrev pub by_check : Result (Unit {0}) CheckFault → Answer
by_check (Ok u) = answer.Passed
by_check (Err f) = answer.Refused (fault.Check f)

-- What is answered where the checks of the theory answer.
abbrev pub Checks : Meaning → Theory → Answer → Type 0
Checks lay T a = (r : Result (Unit {0}) CheckFault) × checks.Answered lay T r × (a ≡ by_check r)

-- ---- sources
abbrev pub Chosen : State → View → State → Answer → Type 0
Chosen s v t a = Kept s (with_source s v) t a

-- The layer goes over a source once.
abbrev pub Layers : Bool → State → State → Answer → Type 0
Layers true s t a = (t ≡ s) × (a ≡ answer.NotUnderstood)
Layers false s t a = (t ≡ with_layer s s.withheld) × (a ≡ answer.Noted)

-- A list is taken, or refused and nothing changes.
abbrev pub Taken : Result (Unit {0}) ListFault → State → State → Answer → State → Answer → Type 0
Taken (Ok u) s after told t a = (t ≡ after) × (a ≡ told)
Taken (Err f) s after told t a = (t ≡ s) × (a ≡ answer.Refused (fault.List f))

-- Only a roll is loaded.
abbrev pub Loaded : View → State → List ℕ → State → Answer → Type 0
Loaded (counting next) s xs t a = (t ≡ s) × (a ≡ answer.NotUnderstood)
Loaded (reading old) s xs t a = Taken (load_answer xs) s (with_list s xs) (answer.Loaded (length xs)) t a

-- Only a layer withholds.
abbrev pub Withholds : Bool → State → List ℕ → State → Answer → Type 0
Withholds false s xs t a = (t ≡ s) × (a ≡ answer.NotUnderstood)
Withholds true s xs t a = Taken (withhold_answer xs) s (with_layer s xs) (answer.Withheld (length xs)) t a

-- ---- roles
-- A line that adds to the last role needs one.
abbrev pub PartAdded : State → SaidPart → State → Answer → Type 0
PartAdded s p t a = Edited (option_map (λ roles. with_theory s (with_roles s.theory roles)) (changed_last (with_part p) s.theory.roles)) s t a

-- ---- lines
-- What a command does, from one state to another, and its answer, over the theory that the state shows.
abbrev pub Carried : Theory → State → Said → State → Answer → Type 0
Carried T s (said.row r) t a = RowAdded (capacity_of T.book) s r t a
Carried T s said.new t a = (t ≡ with_initial (with_theory s nothing) []) × (a ≡ answer.Noted)
Carried T s (said.layout l) t a = (t ≡ with_layout s l) × (a ≡ answer.Noted)
Carried T s (said.counter n) t a = Chosen s (counting (max n 1)) t a
Carried T s said.roll t a = Chosen s (reading []) t a
Carried T s said.withholding t a = Layers s.layered s t a
Carried T s (said.load xs) t a = Loaded s.source s xs t a
Carried T s (said.withhold xs) t a = Withholds s.layered s xs t a
Carried T s (said.name d) t a = Kept s (with_theory s (with_name s.theory d)) t a
Carried T s (said.memory arguments) t a = Kept s (with_theory s (with_memory s.theory arguments)) t a
Carried T s (said.role anchor) t a = Kept s (with_theory s (with_roles s.theory (s.theory.roles ++ blank_role anchor ∷ []))) t a
Carried T s (said.part p) t a = PartAdded s p t a
Carried T s (said.initial f) t a = Kept s (with_initial s (s.initial ++ f ∷ [])) t a
Carried T s said.check t a = (t ≡ s) × Checks (meaning_of s.layout) T a

-- A line that is only echoed has no answer; it changes nothing, as one that can't be read.
abbrev pub LineAnswered : Theory → State → SaidLine → State → Option Answer → Type 0
LineAnswered T s said.silent t a = (t ≡ s) × (a ≡ None)
LineAnswered T s said.unreadable t a = (t ≡ s) × (a ≡ Some answer.NotUnderstood)
LineAnswered T s (said.commands c) t a = (b : Answer) × (a ≡ Some b) × Carried T s c t b

abbrev pub Answered : Theory → State → List ℕ → State → Option Answer → Type 0
Answered T s bytes t a = (l : SaidLine) × Reads bytes l × LineAnswered T s l t a
