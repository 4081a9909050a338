-- Data access: what an owner reads out of facts, what can be built of it, and which rules an owner may have.
use Rattle.std.specs.Prelude.{◌≡◌, ℕ, true, List, [], ◌∷◌, ◌++◌, Some, None, Option}
use Rattle.layouts.specs.Codes.{item_code, code_of}
use Rattle.layouts.specs.Meanings.{Meaning}
use Rattle.layouts.specs.declared.layout.Kind.TheVariants.{Locking}
use Rattle.terms.specs.Terms.{Term, item, pair, seal, lock}
use Rattle.terms.specs.declared.row.Item.{Item}
use Rattle.judgments.specs.Contexts.{Ty, ty, ◌∶◌, Context, ◌∈◌}
use Rattle.judgments.specs.Typing.{Key}
use Rattle.judgments.specs.Rules.{network, memory, role, Fact, fact, Rule, arguments}

abbrev pub first_of : List Item → Option Item
first_of [] = None
first_of (p ∷ ps) = Some p

abbrev pub second_of : List Item → Option Item
second_of [] = None
second_of (p ∷ ps) = first_of ps

-- The second list has the parameters of the first of these parameters, or none where there is no first.
abbrev pub Above : Context → List Item → List Item → Type 0
Above Γ [] qs = qs ≡ []
Above Γ (p ∷ ps) qs = (G : ℕ) × (p ∶ ty G qs ∈ Γ)

-- The item i is granted to the owner o, by a type that it is declared with.
pub record Granted (lay : Meaning) (Γ : Context) (o i : Item) : Type 0 where
  pub family : ℕ
  pub params : List Item
  pub above : List Item
  pub declared : i ∶ ty family params ∈ Γ
  pub is_above : Above Γ params above
  pub is_granted : lay.grants (item_code o) family (code_of (first_of params)) (code_of (second_of params)) (code_of (first_of above)) ≡ true

-- The item j opens what is locked under k: it is of the family that opens k's, and has k as its parameter.
pub record Opens (lay : Meaning) (Γ : Context) (j k : Item) : Type 0 where
  pub opening : ℕ
  pub key : Key lay Γ k (Locking opening)
  pub declared : j ∶ ty opening (k ∷ []) ∈ Γ

-- What the owner o receives of these terms, and the items that o then holds: the least sets with these rules.
module _ (lay : Meaning) (Γ : Context) (o : Item) (left : List Term) where
  mutual
    pub data Received : Term → Type 0 where
      argument : {t : Term} → t ∈ left → Received t
      first : {s t : Term} → Received (pair s t) → Received s
      second : {s t : Term} → Received (pair s t) → Received t
      unsealed : {t : Term} {k : Item} → Received (seal t k) → Held k → Received t
      unlocked : {t : Term} {k j : Item} → Received (lock t k) → Opens lay Γ j k → Held j → Received t

    pub data Held : Item → Type 0 where
      read : {i : Item} → Received (item i) → Held i
      granted : {i : Item} → Granted lay Γ o i → Held i

-- What can be built of basic terms; a seal or lock wants its key too.
pub data Built (Basic : Term → Type 0) : Term → Type 0 where
  basic : {t : Term} → Basic t → Built Basic t
  pairs : {s t : Term} → Built Basic s → Built Basic t → Built Basic (pair s t)
  seals : {t : Term} {k : Item} → Built Basic t → Built Basic (item k) → Built Basic (seal t k)
  locks : {t : Term} {k : Item} → Built Basic t → Built Basic (item k) → Built Basic (lock t k)

module _ (lay : Meaning) (Γ : Context) (o : Item) (left : List Term) (made : Context) where
  -- In a rule the basic terms are the items held and the variables made.
  pub data InRule : Term → Type 0 where
    held : {i : Item} → Held lay Γ o left i → InRule (item i)
    fresh : {i : Item} {T : Ty} → i ∶ T ∈ made → InRule (item i)

  -- In a firing, whose terms are ground, so is each term received, whole.
  pub data InFiring : Term → Type 0 where
    whole : {t : Term} → Received lay Γ o left t → InFiring t
    held : {i : Item} → Held lay Γ o left i → InFiring (item i)
    fresh : {i : Item} {T : Ty} → i ∶ T ∈ made → InFiring (item i)

-- A list of arguments begins with the owner.
abbrev pub Begins : Item → List Term → Type 0
Begins o [] = ⊥
Begins o (t ∷ ts) = t ≡ item o

-- The first argument of a memory or role fact is the owner.
abbrev pub Owned : Item → Fact → Type 0
Owned o (fact network ts) = Unit {0}
Owned o (fact (memory m) ts) = Begins o ts
Owned o (fact (role p) ts) = Begins o ts

-- The term is no seal or lock that is received and stays closed.
abbrev pub Opened : Meaning → Context → Item → List Term → Term → Type 0
Opened lay Γ o left (item i) = Unit {0}
Opened lay Γ o left (pair s t) = Unit {0}
Opened lay Γ o left (seal t k) = Received lay Γ o left (seal t k) → Held lay Γ o left k
Opened lay Γ o left (lock t k) = Received lay Γ o left (lock t k) → (j : Item) × Opens lay Γ j k × Held lay Γ o left j

-- The rule passes the access check for the owner o, over the names and the owner, Σ.
pub record RuleAllowed (lay : Meaning) (Σ : Context) (o : Item) (r : Rule) : Type 0 where
  pub owned : (f : Fact) → f ∈ r.left ++ r.right → Owned o f
  pub opened : (t : Term) → Opened lay (r.universal ++ Σ) o (arguments r.left) t
  pub makeable : (i : Item) (F : ℕ) (ps : List Item) → i ∶ ty F ps ∈ r.made → lay.makeable F ≡ true
  pub built : (t : Term) → t ∈ arguments r.right → Built (InRule lay (r.universal ++ Σ) o (arguments r.left) r.made) t
