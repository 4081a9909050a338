-- What the access check needs of a theory's tables, which the table check sees to.
use Rattle.std.specs.Prelude.{◌≡◌, ℕ, ◌≤◌, true, List, length, vec_items}
use Rattle.judgments.specs.Contexts.{◌∈◌}
use Rattle.theory.specs.Missing.{rows_there}
use Rattle.theory.specs.declared.data.Fact.{Fact}
use Rattle.theory.specs.declared.data.Role.{Role}
use Rattle.theory.specs.declared.data.Rule.{Rule}
use Rattle.access.specs.Demands.{Parts, parts_of}

-- the arguments are rows
abbrev pub FactsThere : ℕ → List Fact → Type 0
FactsThere n fs = (f : Fact) → f ∈ fs → rows_there n (vec_items f.rows) ≡ true

-- counts are within their limits, and arguments are rows
pub record PartsTabled (n : ℕ) (p : Parts) : Type 0 where
  pub universals : length p.universal ≤ 15
  pub lefts : length p.left ≤ 8
  pub mades : length p.made ≤ 8
  pub rights : length p.right ≤ 8
  pub left_there : FactsThere n p.left
  pub right_there : FactsThere n p.right

abbrev pub RulesTabled : ℕ → List Rule → Type 0
RulesTabled n Rs = (R : Rule) → R ∈ Rs → PartsTabled n (parts_of R)

abbrev pub RolesTabled : ℕ → List Role → Type 0
RolesTabled n Rs = (R : Role) → R ∈ Rs → RulesTabled n (vec_items R.rules)
