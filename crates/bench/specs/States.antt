-- What a script works on.
use Rattle.std.specs.Prelude.{ℕ, Bool, false, List, [], map, vec_items}
use Rattle.layouts.specs.declared.any.AnyLayout.{AnyLayout}
use Rattle.layouts.specs.declared.any.AnyLayout.TheVariants as any
use Rattle.names.specs.Any.{View, reading, view_of}
use Rattle.names.specs.Layered.{below_of, withheld_of}
use Rattle.terms.specs.Held.{rows_of}
use Rattle.terms.specs.declared.row.Row.{Row}
use Rattle.theory.specs.Data.{Argument}
use Rattle.theory.specs.declared.data.Declared.{Declared}
use Rattle.theory.specs.declared.data.Theory.{Theory}
use Rattle.script.specs.Facts.{SaidFact}
use Rattle.bench.specs.Roles.{WrittenRole, written_role, arguments_of, facts_of}
use Rattle.bench.specs.declared.desk.Desk.{Desk}

-- A theory as a script wrote it down, apart from the memory that holds it.
pub record Written : Type 0 where
  -- the rows of its book
  pub rows : List Row
  -- its names with their types
  pub names : List Declared
  -- its memory predicates, by the types of their arguments
  pub memory : List (List Argument)
  pub roles : List WrittenRole

abbrev pub written_of : Theory → Written
written_of T = record { rows = rows_of T.book; names = vec_items T.names; memory = arguments_of (vec_items T.memory); roles = map written_role (vec_items T.roles) }

abbrev pub nothing : Written
nothing = record { rows = []; names = []; memory = []; roles = [] }

pub record State : Type 0 where
  pub theory : Written
  -- the initial facts for the next session
  pub initial : List SaidFact
  -- the layout, and the source, for the next session
  pub layout : AnyLayout
  pub source : View
  -- whether the withholding layer is over the source, and the numbers it withholds
  pub layered : Bool
  pub withheld : List ℕ

abbrev pub state_of : Desk → State
state_of d = record {
  theory = written_of d.theory;
  initial = facts_of (vec_items d.initial);
  layout = d.layout;
  source = view_of (below_of d.source);
  layered = d.layered;
  withheld = withheld_of d.source;
}

-- At first: an empty theory, no initial facts, the report layout, an empty roll without a layer.
abbrev pub empty : State
empty = record { theory = nothing; initial = []; layout = any.Report; source = reading []; layered = false; withheld = [] }
