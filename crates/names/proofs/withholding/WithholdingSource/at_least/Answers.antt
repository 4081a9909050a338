use Rattle.std.proofs.Common.{◌≡◌, ◌+◌, ◌≤◌, vec_items, arith, rules}
use Rattle.std.proofs.lemmas.Bool.Decides.{nat_tests}
use Rattle.names.specs.Sets.{how_many, minus}
use Rattle.names.specs.Withheld.{hidden}
use Rattle.names.specs.Counts.{how_many_minus, count_le}
use Rattle.names.proofs.withholding.WithholdingSource.at_least.Goals as goal

pub returns : goal.returns
returns g c =
    let f = g.S.Source.ahead c.args.self.now.below in
    let ws = vec_items c.args.self.now.withheld in
    let all : how_many (minus f ws) + hidden f ws ≡ how_many f = how_many_minus f (λ n t. (g.met.S.Source.names _ n t).1) ws in
    let few : how_many f ≤ 4294967296 = count_le f 4294967296 in
    let back : c.count_hidden-kept_back.result ≡ hidden f ws = search rules in
    grind (arith, nat_tests)
