-- Faults: their six numbers, where they are told, and walks by a check that the code is given.
use Rattle.std.specs.Prelude.{◌≡◌, ℕ, ◌+◌, List, [], length}
use Rattle.std.specs.Borrow.{Bor}
use Rattle.refusals.specs.Walks.{Answer, walk}
use Rattle.refusals.specs.declared.Refusal.{Refusal}
use Rattle.refusals.specs.declared.fault.Fault.{Fault}
use Rattle.refusals.specs.declared.walk.Place.{Place}

-- The six numbers of a fault, by the layer, the number and the row of its reason.
abbrev pub refusal_by : {W : Type 0} → ℕ → (W → ℕ) → (W → ℕ) → Fault W → Refusal
refusal_by layer number row f = record { number = number f.why; layer = layer; role = f.role; rule = f.rule; spot = f.spot; row = row f.why }

-- A fault of the n-th element of the lists that are counted.
abbrev pub at_spot : {W : Type 0} → ℕ → ℕ → ℕ → ℕ → W → Fault W
at_spot role rule before n w = record { role = role; rule = rule; spot = before + n; why = w }

-- Whatever the call may answer is what the check says of an element after those before it.
abbrev pub Says : {X W : Type 0} → (Bor (List X) → Bor X → Answer W → Type 0) → (List X → X → Answer W) → Type 0
Says call check = (seen : _) (x : _) (r : _) → call seen x r → r ≡ check seen.now x.now

-- The answer is that of the walk by the check that the calls make.
abbrev pub Walked : {X W : Type 0} → (Bor (List X) → Bor X → Answer W → Type 0) → Place → List X → Answer (Fault W) → Type 0
Walked call p xs r = (check : _) → Says call check → r ≡ walk check (at_spot p.role p.rule p.before) [] xs

-- Whatever the call may answer is what the check says of the element with that number.
abbrev pub SaysByNumber : {X W : Type 0} → (ℕ → Bor X → Answer W → Type 0) → (List X → X → Answer W) → Type 0
SaysByNumber call check = (seen : _) (x : _) (r : _) → call (length seen + 1) x r → r ≡ check seen x.now

-- The answer is that of the walk by the check that the calls make.
abbrev pub WalkedByNumber : {X W : Type 0} → (ℕ → Bor X → Answer W → Type 0) → List X → Answer W → Type 0
WalkedByNumber call xs r = (check : _) → SaysByNumber call check → r ≡ walk check (λ n w. w) [] xs
