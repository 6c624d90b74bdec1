use Rattle.std.proofs.Common.{◌≡◌, ◌∷◌, ◌++◌, [], ◌<◌, ◌≤◌, length, map, refl, arith}
use Rattle.std.proofs.lemmas.List.{length-map}
use Rattle.tree_reader.specs.Laying.{seen_laid}
use Rattle.tree_reader.proofs.Coding.{coded_set, coded_past}
use Rattle.tree_reader.proofs.laying.add_code.Goals as goal

pub returns-in_ok-push : goal.returns-in_ok-push
returns-in_ok-push c =
    let pushed : c.push.new.self ≡ c.index_mut.result.now.tokens ++ c.args.code ∷ [] = c.in_ok-push.ensures in
    let within : c.args.number < length c.args.nodes.now.items = omega arith in
    coded_set c.args.nodes.now.items c.args.number c.index_mut.result.now _ c.args.code within c.index_mut.ensures.value refl refl refl pushed

pub returns-else-number-len : goal.returns-else-number-len
returns-else-number-len c =
    let past : length (map seen_laid c.args.nodes.now.items) ≤ c.args.number = omega (arith, length-map c.args.nodes.now.items seen_laid) in
    coded_past (map seen_laid c.args.nodes.now.items) c.args.number c.args.code past
