-- What a line changes, and its answer.
use Rattle.std.specs.Prelude.{◌≡◌, ◌⊎◌, Some, None, Option}
use Rattle.names.specs.declared.faults.ListFault.TheVariants.{NoMemory}
use Rattle.bench.specs.declared.answer.Answer.{Answer}
use Rattle.bench.specs.declared.answer.Answer.TheVariants as answer
use Rattle.bench.specs.declared.faults.Fault.TheVariants as fault

-- From an old thing to a new one: the change is made, unless there is no memory for it.
abbrev pub Kept : {A : Type 0} → A → A → A → Answer → Type 0
Kept old after new a = ((new ≡ after) × (a ≡ answer.Noted)) ⊎ ((new ≡ old) × (a ≡ answer.Refused (fault.List NoMemory)))

-- The same where there may be nothing to change.
abbrev pub Edited : {A : Type 0} → Option A → A → A → Answer → Type 0
Edited None old new a = (new ≡ old) × (a ≡ answer.NotUnderstood)
Edited (Some after) old new a = Kept old after new a
