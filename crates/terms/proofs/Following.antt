-- Rows of which each may follow those before it: one row more, and the row at a place.
use Rattle.std.proofs.Common.{◌≡◌, ℕ, zero, suc, ◌<◌, true, List, [], ◌∷◌, ◌++◌, length, get_or, take, refl, append_assoc, append-nil, arith}
use Rattle.std.proofs.lemmas.Bool.{and_parts, and_from}
use Rattle.terms.specs.Books.{may_follow, each_follows}
use Rattle.terms.specs.declared.row.Row.{Row}

-- a row that may follow all rows keeps them a book
pub follows_push : (before rows : List Row) (r : Row) → each_follows before rows ≡ true → may_follow (before ++ rows) r ≡ true → each_follows before (rows ++ r ∷ []) ≡ true
follows_push before [] r s m = and_from _ _ (rw append-nil at m) refl
follows_push before (q ∷ rows) r s m =
    let parts = and_parts (may_follow before q) (each_follows (before ++ q ∷ []) rows) s in
    and_from _ _ parts.0 (follows_push (before ++ q ∷ []) rows r parts.1 (rw append_assoc m))

-- the row at a place may follow those before it
pub follows_at : (before rows : List Row) (k : ℕ) (d : Row) → k < length rows → each_follows before rows ≡ true → may_follow (before ++ take k rows) (get_or rows k d) ≡ true
follows_at before [] k d within s = let none : ⊥ = omega arith in absurd none
follows_at before (q ∷ rows) zero d within s = rw append-nil (and_parts (may_follow before q) (each_follows (before ++ q ∷ []) rows) s).0
follows_at before (q ∷ rows) (suc k) d within s =
    let parts = and_parts (may_follow before q) (each_follows (before ++ q ∷ []) rows) s in
    rw append_assoc at (follows_at (before ++ q ∷ []) rows k d (omega arith) parts.1)
