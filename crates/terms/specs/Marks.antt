-- A mark for each row of a book.
use Rattle.std.specs.Prelude.{List, Bool, take}
use Rattle.terms.specs.declared.book.marking.Marks.{Marks}

-- The marks, in the order of the rows.
abbrev pub marks_of : Marks → List Bool
marks_of m = take m.rows m.on
