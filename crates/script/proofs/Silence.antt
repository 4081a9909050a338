-- A line that is blank or a comment.
use Rattle.std.proofs.Common.{◌≡◌, ℕ, Bool, true, not, eqb, List, Some, None, IsTrue, Option, MatchOption, find, ap, ◌∙◌, Bor}
use Rattle.std.specs.Option.{option_map, option_map_or}
use Rattle.script.specs.Words.{blank}
use Rattle.script.specs.Lines.{is_silent}

-- what is found of a line's first byte that is no blank
pub silent_by : (bytes : List ℕ) (o : Option (Bor ℕ)) (r : Bool) {P : Bor ℕ → Type 0} → MatchOption o (IsTrue r) P → ((x : Bor ℕ) → P x → r ≡ eqb x.now 35) → option_map (λ x. x.now) o ≡ find (λ b. not (eqb b blank)) bytes → r ≡ is_silent bytes
silent_by bytes None r m test e = m ∙ ap (λ f. option_map_or (λ b. eqb b 35) f true) e
silent_by bytes (Some x) r m test e = test x m ∙ ap (λ f. option_map_or (λ b. eqb b 35) f true) e
