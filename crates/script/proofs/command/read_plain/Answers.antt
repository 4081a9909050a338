use Rattle.std.proofs.Common.{rules}
use Rattle.script.proofs.Matching.{no_plain, not_alone, not_one, not_two, not_three, too_many}
use Rattle.script.proofs.command.read_plain.Goals as goal
use Rattle.script.proofs.command.read_plain.Goals.{in_default-via-then-words-lt1, in_default-via-else-words-lt1+then-words-lt2+in_default, in_default-via-else-words-lt1+else-words-lt2+then-words-lt3+in_default, in_default-via-else-words-lt1+else-words-lt2+else-words-lt3+then-words-lt4+in_default, in_default-via-else-words-lt1+else-words-lt2+else-words-lt3+else-words-lt4+then-words-lt5+in_default, in_default-via-else-words-lt1+else-words-lt2+else-words-lt3+else-words-lt4+else-words-lt5}

pub returns-in_default : goal.returns-in_default
returns-in_default c =
    elim c.in_default.branch [
      | in_default-via-then-words-lt1 w ↦ search (rules, no_plain)
      | in_default-via-else-words-lt1+then-words-lt2+in_default w ↦ search (rules, not_alone)
      | in_default-via-else-words-lt1+else-words-lt2+then-words-lt3+in_default w ↦ search (rules, not_one)
      | in_default-via-else-words-lt1+else-words-lt2+else-words-lt3+then-words-lt4+in_default w ↦ search (rules, not_two)
      | in_default-via-else-words-lt1+else-words-lt2+else-words-lt3+else-words-lt4+then-words-lt5+in_default w ↦ search (rules, not_three)
      | in_default-via-else-words-lt1+else-words-lt2+else-words-lt3+else-words-lt4+else-words-lt5 w ↦ search (rules, too_many)
    ]
