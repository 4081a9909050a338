use Rattle.std.proofs.Common.{◌≡◌, rules, ◌∙◌}
use Rattle.script.specs.Commands.{plain_of, command_of}
use Rattle.script.proofs.Matching.{told, no_words, other_words}
use Rattle.script.proofs.command.read_command.Goals as goal
use Rattle.script.proofs.command.read_command.Goals.{in_default-via-then-words-lt1, in_default-via-else-words-lt1+in_default}

pub returns-in_default : goal.returns-in_default
returns-in_default c =
    let same : plain_of (told c.args.words.now) ≡ command_of (told c.args.words.now) =
    elim c.in_default.branch [ in_default-via-then-words-lt1 w ↦ search (rules, no_words) | in_default-via-else-words-lt1+in_default w ↦ search (rules, other_words) ] in
    c.read_plain.ensures ∙ same
