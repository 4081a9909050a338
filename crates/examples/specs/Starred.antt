-- Examples over the report layout, as one list.
use Rattle.std.specs.Prelude.{ℕ, List, [], ◌∷◌, ◌++◌}
use Rattle.judgments.specs.Access.{Granted, Received, RuleAllowed}
use Rattle.judgments.specs.Contexts.{Ty, ty, msg, principal, ◌∶◌, Context}
use Rattle.judgments.specs.Rules.{Rule, fact, network, arguments}
use Rattle.judgments.specs.Typing.{TypeFormed, Has}
use Rattle.layouts.specs.Report.{report}
use Rattle.terms.specs.Terms.{Term, item, pair, seal, lock}
use Rattle.terms.specs.declared.row.Item.{Item}
use Rattle.terms.specs.declared.row.Item.TheVariants.{Name, Variable}
use Rattle.examples.specs.Refused.{Refused}

-- Three principals; 20 is a shared key of 10 and 11, 30 the public key of 11 and 31 its private key; 40 is a nonce.
abbrev pub names : Context
names =
    Name 40 ∶ ty 2 []
    ∷ Name 31 ∶ ty 5 (Name 30 ∷ [])
    ∷ Name 30 ∶ ty 4 (Name 11 ∷ [])
    ∷ Name 20 ∶ ty 3 (Name 10 ∷ Name 11 ∷ [])
    ∷ Name 12 ∶ principal
    ∷ Name 11 ∶ principal
    ∷ Name 10 ∶ principal
    ∷ []

-- A rule that only reads: it takes the term from the network.
abbrev pub takes : Context → Term → Rule
takes universal t = record { universal = universal; left = fact network (t ∷ []) ∷ []; made = []; right = [] }

-- Variable 1 is any message.
abbrev pub a_message : Context
a_message = Variable 1 ∶ msg ∷ []

-- Variable 2 is a shared key of 10 and 11.
abbrev pub with_key : Context
with_key = Variable 2 ∶ ty 3 (Name 10 ∷ Name 11 ∷ []) ∷ a_message

-- N(seal(v1, 20))
abbrev pub sealed : Rule
sealed = takes a_message (seal (item (Variable 1)) (Name 20))

-- N(lock(v1, 30))
abbrev pub locked : Rule
locked = takes a_message (lock (item (Variable 1)) (Name 30))

-- N(pair(seal(v1, v2), v2))
abbrev pub with_its_key : Rule
with_its_key = takes with_key (pair (seal (item (Variable 1)) (Variable 2)) (item (Variable 2)))

-- Nothing is taken, and N(v1) is put, v1 being any nonce.
abbrev pub out_of_thin_air : Rule
out_of_thin_air = record { universal = Variable 1 ∶ ty 2 [] ∷ []; left = []; made = []; right = fact network (item (Variable 1) ∷ []) ∷ [] }

pub data Example : Type 0 where
  -- the name has the type, or lacks it
  has lacks : ℕ → Ty → Example
  -- the type is not well formed
  unformed : Ty → Example
  -- to the first, the second is granted, or it is not
  granted withheld : ℕ → ℕ → Example
  -- the owner receives the term, and the rule passes
  reads : ℕ → Rule → Term → Example
  -- for the owner, or for every owner, the rule is refused with the number
  refused : ℕ → Rule → ℕ → Example
  always_refused : Rule → ℕ → Example

abbrev pub Means : Example → Type 0
Means (has n T) = Has report names (item (Name n)) T
Means (lacks n T) = Has report names (item (Name n)) T → ⊥
Means (unformed T) = TypeFormed report names T → ⊥
Means (granted o n) = Granted report names (Name o) (Name n)
Means (withheld o n) = Granted report names (Name o) (Name n) → ⊥
Means (reads o r t) = Received report (r.universal ++ names) (Name o) (arguments r.left) t × RuleAllowed report names (Name o) r
Means (refused o r number) = Refused report names (Name o) r number
Means (always_refused r number) = (o : Item) → Refused report names o r number

-- every example of the list holds
abbrev pub All : List Example → Type 0
All [] = Unit {0}
All (x ∷ xs) = Means x × All xs

abbrev pub starred : List Example
starred =
    has 40 (ty 2 []) ∷ has 40 msg ∷ lacks 31 msg
    ∷ unformed (ty 3 (Name 10 ∷ Name 40 ∷ []))
    ∷ granted 10 20 ∷ granted 11 20 ∷ withheld 12 20
    ∷ granted 11 31 ∷ withheld 10 31
    ∷ refused 12 sealed 17 ∷ reads 10 sealed (item (Variable 1))
    ∷ reads 11 locked (item (Variable 1)) ∷ refused 10 locked 17
    ∷ reads 12 with_its_key (item (Variable 1))
    ∷ always_refused out_of_thin_air 19
    ∷ []
