-- The terms that a book's rows stand for, by the kind of the row.
use Rattle.std.proofs.Common.{◌≡◌, ℕ, ◌-◌, true, List, take, Some, sym, ap, ◌∙◌, ap₂, arith}
use Rattle.judgments.specs.Substitutions.{the_item}
use Rattle.terms.proofs.Booked.{Earlier, earlier}
use Rattle.terms.proofs.Numbered.{row_within}
use Rattle.terms.specs.Books.{is_book}
use Rattle.terms.specs.Terms.{Term, item, pair, seal, lock}
use Rattle.terms.specs.declared.row.Item.{Item}
use Rattle.terms.specs.declared.row.Row.{Row}
use Rattle.terms.specs.declared.row.Row.TheVariants as row
use Rattle.theory.specs.Owners.{item_of}
use Rattle.theory.specs.declared.owner.Owner.{Owner}
use Rattle.types.specs.Facts.{item_in}
use Rattle.types.specs.Rows.{at, row_at, nothing, term_of, terms, term_at}
use Rattle.reading.proofs.Filled.{fill_here, fill_before}

module _ (o : Owner) (rows : List Row) where
  -- the key with a number, as the owner reads it
  abbrev pub key : ℕ → Item
  key k = item_of o (item_in (row_at rows k))

  abbrev pub Shaped : Row → Term → Type 0
  Shaped (row.Item i) t = t ≡ item (item_of o i)
  Shaped (row.Pair a b) t = t ≡ pair (term_at o rows a) (term_at o rows b)
  Shaped (row.Seal c k) t = t ≡ seal (term_at o rows c) (key k)
  Shaped (row.Lock c k) t = t ≡ lock (term_at o rows c) (key k)

  module _ (book : is_book rows ≡ true) where
    -- a part's term, as it is known when the whole's is worked out
    part : (k a : ℕ) (r : Row) → row_at rows k ≡ Some r → Earlier k a → at nothing (terms o (take (k - 1) rows)) a ≡ term_at o rows a
    part k a r e early = let w = row_within rows k r e in fill_before (term_of o) nothing rows (k - 1) a (omega arith) (omega (arith, early.1))

    term_item : (k : ℕ) (i : Item) → row_at rows k ≡ Some (row.Item i) → term_at o rows k ≡ item (item_of o i)
    term_item k i e = fill_here (term_of o) nothing rows k (row.Item i) e

    key_known : (k a : ℕ) (r : Row) → row_at rows k ≡ Some r → Earlier k a → (i : Item) → row_at rows a ≡ Some (row.Item i) → the_item (at nothing (terms o (take (k - 1) rows)) a) ≡ key a
    key_known k a r e early i is = ap the_item (part k a r e early ∙ term_item a i is) ∙ ap (λ x. item_of o (item_in x)) (sym is)

    pub shaped : (k : ℕ) (r : Row) → row_at rows k ≡ Some r → Shaped r (term_at o rows k)
    shaped k (row.Item i) e = term_item k i e
    shaped k (row.Pair a b) e =
        let early = earlier rows book k (row.Pair a b) e in
        fill_here (term_of o) nothing rows k (row.Pair a b) e ∙ ap₂ pair (part k a (row.Pair a b) e early.0) (part k b (row.Pair a b) e early.1)
    shaped k (row.Seal c j) e =
        let early = earlier rows book k (row.Seal c j) e in
        fill_here (term_of o) nothing rows k (row.Seal c j) e ∙ ap₂ seal (part k c (row.Seal c j) e early.0) (key_known k j (row.Seal c j) e early.1 early.2.0 early.2.1)
    shaped k (row.Lock c j) e =
        let early = earlier rows book k (row.Lock c j) e in
        fill_here (term_of o) nothing rows k (row.Lock c j) e ∙ ap₂ lock (part k c (row.Lock c j) e early.0) (key_known k j (row.Lock c j) e early.1 early.2.0 early.2.1)
