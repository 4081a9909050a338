use Rattle.std.proofs.Common.{◌<◌, length, vec_len, sym, ap, arith, rules}
use Rattle.earliest.proofs.Firsts.{earliest_within}
use Rattle.terms.specs.Rows.{same_row}
use Rattle.terms.proofs.Following.{follows_push}
use Rattle.terms.proofs.book.Book.add.Goals as goal

within : (c : goal.In-Some) → c.in-Some.place < vec_len c.args.self.now.rows
within c = omega (arith, earliest_within same_row _ 0 c.rows.result.now c.in-Some.place (sym c.in-Some.ensures), ap length c.rows.ensures.value, c.args.self.now.rows.ok.0)

pub overflow_add-result : goal.overflow_add-result
overflow_add-result c = let w = within c in search rules

pub invariant_of-self : goal.invariant_of-self
invariant_of-self c = record { few = search rules; sound = search (rules, follows_push) }
