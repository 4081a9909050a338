-- A table of demands, in order, each with the fault told where it is not met.
use Rattle.std.specs.Prelude.{◌≡◌, ℕ, ◌+◌, ◌⊎◌, List, [], ◌∷◌, ◌++◌, length, Err}
use Rattle.refusals.specs.Walks.{Answer, pass}

-- a fault, and what is demanded lest it come
abbrev pub Lines : Type 0 → Type 1
Lines F = List (F × Type 0)

-- The answer is the fault of the first demand that is not met, or Ok where all are met.
abbrev pub First : {F : Type 0} → Lines F → Answer F → Type 0
First [] r = r ≡ pass
First (l ∷ ls) r = ((l.1 → ⊥) × (r ≡ Err l.0)) ⊎ (l.1 × First ls r)

-- every demand is met
abbrev pub Holds : {F : Type 0} → Lines F → Type 0
Holds [] = Unit {0}
Holds (l ∷ ls) = l.1 × Holds ls

-- the lines of a part, its faults told as those of the whole
abbrev pub carried : {F G : Type 0} → (F → G) → Lines F → Lines G
carried up [] = []
carried up (l ∷ ls) = (up l.0, l.1) ∷ carried up ls

-- the lines of each element after those before it
abbrev pub lines : {X F G : Type 0} → (List X → X → Lines F) → (ℕ → F → G) → List X → List X → Lines G
lines each at seen [] = []
lines each at seen (x ∷ xs) = carried (at (length seen + 1)) (each seen x) ++ lines each at (seen ++ x ∷ []) xs
