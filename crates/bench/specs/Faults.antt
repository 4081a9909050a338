-- The faults that a line can meet: their six numbers, and their reasons in words.
use Rattle.std.specs.Prelude.{ℕ, List}
use Rattle.refusals.specs.declared.Refusal.{Refusal}
use Rattle.terms.specs.Faults as book
use Rattle.names.specs.Faults as lists
use Rattle.access.specs.Faults as checks
use Rattle.bench.specs.declared.faults.Fault.{Fault}
use Rattle.bench.specs.declared.faults.Fault.TheVariants.{Book, List as InList, Check}

abbrev pub refusal_of : Fault → Refusal
refusal_of (Book f) = book.refusal_of f
refusal_of (InList f) = lists.refusal_of f
refusal_of (Check f) = checks.refusal_of f

abbrev pub reason_of : Fault → List ℕ
reason_of (Book f) = book.reason_of f
reason_of (InList f) = lists.reason_of f
reason_of (Check f) = checks.reason_of f
