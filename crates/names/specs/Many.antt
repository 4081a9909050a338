-- Names drawn in turn from any source.
use Rattle.std.specs.Prelude.{◌≡◌, ℕ, ◌-◌, Bool, true, false, ◌&&◌, List, [], ◌∷◌, ◌++◌, length, MatchBool, nat_le}
use Rattle.names.specs.Sets.{Names, listed, minus, how_many}

-- No number stands twice in the list.
abbrev pub AllApart : List ℕ → Type 0
AllApart [] = Unit {0}
AllApart (x ∷ xs) = (listed xs x ≡ false) × AllApart xs

-- So many different names that were ahead were put behind the list, and just these are ahead no longer.
pub record ManyDrawn (count : ℕ) (f : Names) (old : List ℕ) (g : Names) (new : List ℕ) : Type 0 where
  pub made : List ℕ
  pub many : length made ≡ count
  pub appended : new ≡ old ++ made
  pub apart : AllApart made
  pub were : (n : ℕ) → listed made n ≡ true → f n ≡ true
  pub left : (n : ℕ) → g n ≡ minus f made n

-- At least so many names are ahead, and a list of that length and capacity has memory for them.
abbrev pub can_draw : ℕ → Names → ℕ → ℕ → Bool
can_draw count f len capacity = nat_le count (how_many f) && nat_le count (capacity - len)

-- All were drawn, or none, and nothing changed.
abbrev pub AllOrNone : Bool → ℕ → Names → List ℕ → Names → List ℕ → Type 0
AllOrNone r count f old g new = MatchBool r (ManyDrawn count f old g new) ((new ≡ old) × ((n : ℕ) → g n ≡ f n))
