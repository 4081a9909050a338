-- What is worked out row by row.
use Rattle.std.specs.Prelude.{◌≡◌, Bool, List, [], ◌∷◌, ◌++◌}
use Rattle.std.specs.Borrow.{Bor}
use Rattle.terms.specs.declared.row.Row.{Row}

-- Something of each row, from the rows before it and what was got of them.
abbrev pub fill : {A : Type 0} → (List Row → List A → Row → A) → List Row → List A → List Row → List A
fill f seen got [] = got
fill f seen got (r ∷ rows) = fill f (seen ++ r ∷ []) (got ++ f seen got r ∷ []) rows

-- Whatever the call may answer is what f gives.
abbrev pub Gives : (Bor (List Row) → Bor (List Bool) → Row → Bool → Type 0) → (List Row → List Bool → Row → Bool) → Type 0
Gives call f = (seen : _) (got : _) (r : _) (b : _) → call seen got r b → b ≡ f seen.now got.now r

-- The marks are those that the calls give, row by row.
abbrev pub Marked : (Bor (List Row) → Bor (List Bool) → Row → Bool → Type 0) → List Row → List Bool → Type 0
Marked call rows marks = (f : _) → Gives call f → marks ≡ fill f [] [] rows
