use Rattle.std.proofs.Common.{◌≡◌, take, drop, [], length}
use Rattle.terms.specs.Filling.{fill, Gives}
use Rattle.terms.proofs.book.Book.mark_rows.Given as goal

abbrev pub invariant-loop-i : goal.invariant-loop-i
invariant-loop-i g l =
    (length l.on ≡ 512)
    × ((f : _) → Gives (goal.F-post g l.mark) f → fill f (take l.i l.rows) (take l.i l.on) (drop l.i l.rows) ≡ fill f [] [] l.rows)
