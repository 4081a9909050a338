-- The answers as they are written.
use Rattle.std.specs.Prelude.{ℕ, List, ◌++◌, codes, decimal, Ok, Err, Result}
use Rattle.refusals.specs.Written as refusals
use Rattle.bench.specs.Faults.{refusal_of, reason_of}
use Rattle.bench.specs.declared.answer.Answer.{Answer}
use Rattle.bench.specs.declared.answer.Answer.TheVariants.{Row, Noted, Loaded, Withheld, Passed, Refused, NotUnderstood}
use Rattle.bench.specs.declared.faults.Fault.{Fault}

-- A refusal is told by its six numbers, a colon, and the reason in words.
abbrev pub written : Answer → List ℕ
written (Row n) = codes "row " ++ decimal n
written Noted = codes "noted"
written (Loaded n) = codes "loaded " ++ decimal n
written (Withheld n) = codes "withheld " ++ decimal n
written Passed = codes "ok"
written (Refused f) = codes "refused " ++ (refusals.written (refusal_of f) ++ (codes ": " ++ reason_of f))
written NotUnderstood = codes "not understood"

-- The answer that a result comes to: a fault is told as a refusal.
abbrev pub answered : Result Answer Fault → Answer
answered (Ok a) = a
answered (Err f) = Refused f
