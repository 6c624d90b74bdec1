use Rattle.std.proofs.Common.{◌≤◌, length, map, ap, sym, ◌∙◌, arith}
use Rattle.std.proofs.lemmas.List.{length-map}
use Rattle.tree_reader.specs.Laying.{seen_laid}
use Rattle.tree_reader.proofs.Coding.{tokens_found, tokens_past}
use Rattle.tree_reader.proofs.laying.codes_of.Goals as goal

pub returns-in-Some : goal.returns-in-Some
returns-in-Some c =
    let found = c.in-Some.ensures.lookup in
    ap length (c.list.ensures ∙ tokens_found c.args.nodes.now c.args.number c.in-Some.node.now found.3.0 found.1)

pub returns-in-None : goal.returns-in-None
returns-in-None c =
    let found = c.in-None.ensures.lookup in
    let past : length (map seen_laid c.args.nodes.now) ≤ c.args.number = omega (arith, length-map c.args.nodes.now seen_laid, found.3) in
    sym (ap length (tokens_past (map seen_laid c.args.nodes.now) c.args.number past))
