use Rattle.std.proofs.Common.{arith, lit<, rules, tests}
use Rattle.std.proofs.lemmas.Str.Pattern.{starts_char}
use Rattle.script.proofs.Reading.{signed_none, read_number}
use Rattle.script.proofs.numbers.read_number.Goals as goal

pub returns-then-starts_with : goal.returns-then-starts_with
returns-then-starts_with c = signed_none c.args.most c.args.word.now ((starts_char 43 c.args.word.now _ c.starts_with.ensures.cases (lit< tt) (lit< tt)).0 c.if-starts_with.true)

pub returns : goal.returns
returns c =
    let plus = starts_char 43 c.args.word.now _ c.starts_with.ensures.cases (lit< tt) (lit< tt) in
    read_number c.args.most c.args.word.now c.parse.result _ c.ok.result c.filter.result c.parse.ensures.value.0 plus c.if-starts_with.false (omega arith) c.ok.ensures.value c.filter.ensures (λ x b k. search (rules, tests))
