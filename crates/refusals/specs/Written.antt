-- A refusal as it is written.
use Rattle.std.specs.Prelude.{ℕ, List, [], ◌∷◌, ◌++◌, decimal}
use Rattle.refusals.specs.declared.Refusal.{Refusal}

-- a blank, and a number in decimal
abbrev pub then_number : ℕ → List ℕ → List ℕ
then_number n rest = 32 ∷ decimal n ++ rest

-- the six numbers, with a blank between each two
abbrev pub written : Refusal → List ℕ
written x =
    decimal x.number ++ then_number x.layer (then_number x.role (then_number x.rule (then_number x.spot (then_number x.row []))))
