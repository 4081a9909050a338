-- Refusal tables: lines of a fault and the test under which it comes, read downward.
use Rattle.std.specs.Prelude.{Bool, cond, List, [], ◌∷◌, Ok, Err, Result}

-- The fault of the first line whose test holds, or the value where none does.
abbrev pub decided : {V F : Type 0} → List (F × Bool) → V → Result V F
decided [] v = Ok v
decided (line ∷ rest) v = cond line.1 (Err line.0) (decided rest v)
