-- What a command says, apart from the memory that holds its lists.
use Rattle.std.specs.Prelude.{ℕ, List, vec_items, Option}
use Rattle.layouts.specs.declared.any.AnyLayout.{AnyLayout}
use Rattle.terms.specs.declared.row.Row.{Row}
use Rattle.theory.specs.Data.{Argument}
use Rattle.theory.specs.declared.data.Declared.{Declared}
use Rattle.theory.specs.Data.{Ty}
use Rattle.script.specs.Facts.{SaidFact, said_fact}
use Rattle.script.specs.declared.command.Command.{Command}
use Rattle.script.specs.declared.command.Command.TheVariants as command
use Rattle.script.specs.declared.command.Part.{Part}
use Rattle.script.specs.declared.command.Part.TheVariants as in_role
use Rattle.script.specs.declared.command.RulePart.{RulePart}
use Rattle.script.specs.declared.command.RulePart.TheVariants as in_last_rule
use Rattle.script.specs.declared.command.Line.{Line}
use Rattle.script.specs.declared.command.Line.TheVariants as line

-- What a line adds to the last rule.
pub data SaidRulePart : Type 0 where
  universal made : Ty → SaidRulePart
  left_fact right_fact : SaidFact → SaidRulePart

abbrev pub said_rule_part : RulePart → SaidRulePart
said_rule_part (in_last_rule.Universal t) = universal t
said_rule_part (in_last_rule.Made t) = made t
said_rule_part (in_last_rule.Left f) = left_fact (said_fact f)
said_rule_part (in_last_rule.Right f) = right_fact (said_fact f)

-- What a line adds to the last role.
pub data SaidPart : Type 0 where
  predicate : List Argument → SaidPart
  rule : SaidPart
  of_rule : SaidRulePart → SaidPart

abbrev pub said_part : Part → SaidPart
said_part (in_role.Predicate v) = predicate (vec_items v)
said_part in_role.Rule = rule
said_part (in_role.OfRule p) = of_rule (said_rule_part p)

pub data Said : Type 0 where
  row : Row → Said
  new : Said
  layout : AnyLayout → Said
  counter : ℕ → Said
  roll : Said
  withholding : Said
  load : List ℕ → Said
  withhold : List ℕ → Said
  name : Declared → Said
  memory : List Argument → Said
  role : Option ℕ → Said
  part : SaidPart → Said
  initial : SaidFact → Said
  check : Said

abbrev pub said : Command → Said
said (command.Row r) = row r
said command.New = new
said (command.Layout l) = layout l
said (command.Counter n) = counter n
said command.Roll = roll
said command.Withholding = withholding
said (command.Load v) = load (vec_items v)
said (command.Withhold v) = withhold (vec_items v)
said (command.Name d) = name d
said (command.Memory v) = memory (vec_items v)
said (command.Role a) = role a
said (command.Part p) = part (said_part p)
said (command.Fact f) = initial (said_fact f)
said command.Check = check

-- A command that adds to the last rule.
abbrev pub in_rule : RulePart → Command
in_rule p = command.Part (in_role.OfRule p)

abbrev pub local : List Argument → Said
local arguments = part (predicate arguments)

abbrev pub left : SaidFact → Said
left f = part (of_rule (left_fact f))

abbrev pub right : SaidFact → Said
right f = part (of_rule (right_fact f))

-- What a line says: nothing, nothing that can be read, or a command.
pub data SaidLine : Type 0 where
  silent unreadable : SaidLine
  commands : Said → SaidLine

abbrev pub said_line : Line → SaidLine
said_line line.Silent = silent
said_line line.Unreadable = unreadable
said_line (line.Command c) = commands (said c)
