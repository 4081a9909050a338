-- The words of a line.
use Rattle.std.specs.Prelude.{ℕ, not, List, length, filter, ◌==◌}
use Rattle.std.specs.List.{slice_split}

abbrev pub blank : ℕ
blank = 32

-- A line cut at each blank.
abbrev pub pieces : List ℕ → List (List ℕ)
pieces line = slice_split (λ b. b == blank) line

-- The pieces that are not empty.
abbrev pub filled : List (List ℕ) → List (List ℕ)
filled ws = filter (λ w. not (length w == 0)) ws

-- The words of a line are what stands between its blanks.
abbrev pub words : List ℕ → List (List ℕ)
words line = filled (pieces line)
