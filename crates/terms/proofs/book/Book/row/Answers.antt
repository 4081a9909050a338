use Rattle.std.proofs.Common.{vec_items}
use Rattle.terms.proofs.Exactly.{book_exact}
use Rattle.terms.proofs.book.Book.row.Goals as goal

pub returns-clause-exact : goal.returns-clause-exact
returns-clause-exact c = book_exact (vec_items c.args.self.now.rows) c.args.self.now.sound
