-- A scope: what is declared where a rule is read.
use Rattle.std.specs.Prelude.{List, map}
use Rattle.judgments.specs.Contexts.{Decl, ◌∶◌, Context, ty}
use Rattle.types.specs.Types.{items}
use Rattle.reading.specs.declared.scope.Entry.{Entry}

abbrev pub decl_of : Entry → Decl
decl_of e = e.item ∶ ty e.of.family (items e.of.params)

-- The context that the scope stands for.
abbrev pub context : List Entry → Context
context scope = map decl_of scope
