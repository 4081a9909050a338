-- The terms that rows stand for, as a role reads them.
use Rattle.std.specs.Prelude.{ℕ, List, []}
pub use Rattle.terms.specs.Numbered.{at}
pub use Rattle.terms.specs.Rows.{row_at}
pub use Rattle.terms.specs.Filling.{fill}
use Rattle.terms.specs.Terms.{Term, item, pair, seal, lock}
use Rattle.theory.specs.Owners.{item_of}
use Rattle.theory.specs.declared.owner.Owner.{Owner}
use Rattle.terms.specs.declared.row.Row.{Row}
use Rattle.judgments.specs.Substitutions.{the_item}
use Rattle.terms.specs.declared.row.Item.TheVariants.{Name}
use Rattle.terms.specs.declared.row.Row.TheVariants as row

-- no row stands for it: no context declares it
abbrev pub nothing : Term
nothing = item (Name 0)

abbrev pub term_of : Owner → List Row → List Term → Row → Term
term_of o seen got (row.Item i) = item (item_of o i)
term_of o seen got (row.Pair a b) = pair (at nothing got a) (at nothing got b)
term_of o seen got (row.Seal c k) = seal (at nothing got c) (the_item (at nothing got k))
term_of o seen got (row.Lock c k) = lock (at nothing got c) (the_item (at nothing got k))

-- the terms that the rows stand for
abbrev pub terms : Owner → List Row → List Term
terms o rows = fill (term_of o) [] [] rows

abbrev pub term_at : Owner → List Row → ℕ → Term
term_at o rows k = at nothing (terms o rows) k
