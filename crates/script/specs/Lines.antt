-- What a line of a script is.
use Rattle.std.specs.Prelude.{◌≡◌, ℕ, Bool, true, false, not, ◌⊎◌, List, Some, None, IsUtf8, Option, ◌==◌, find}
use Rattle.std.specs.Option.{option_map_or}
use Rattle.script.specs.Words.{blank, words}
use Rattle.script.specs.Commands.{command_of}
use Rattle.script.specs.Said.{Said, SaidLine, silent, unreadable, commands}

-- A line is only echoed if it is blank, or if its first byte that is no blank is '#', the byte 35.
abbrev pub is_silent : List ℕ → Bool
is_silent bytes = option_map_or (λ b. b == 35) (find (λ b. not (b == blank)) bytes) true

abbrev pub by_command : Option Said → SaidLine
by_command (Some c) = commands c
by_command None = unreadable

-- A line that is neither blank nor a comment is the command that its words give; what is no UTF-8 text can't be read.
abbrev pub Reads : List ℕ → SaidLine → Type 0
Reads bytes l =
    ((is_silent bytes ≡ true) × (l ≡ silent))
    ⊎ ((is_silent bytes ≡ false) × IsUtf8 bytes × (l ≡ by_command (command_of (words bytes))))
    ⊎ ((is_silent bytes ≡ false) × (IsUtf8 bytes → ⊥) × (l ≡ unreadable))
