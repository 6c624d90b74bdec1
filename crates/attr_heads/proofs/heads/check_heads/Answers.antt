use Rattle.std.proofs.Common.{Ok, ap, arith, length, map, refl}
use Rattle.std.proofs.lemmas.List.{length-map}
use Rattle.broken_rules.proofs.Exits.{ends_with}
use Rattle.broken_rules.proofs.Noting.{ends_of}
use Rattle.broken_rules.proofs.Order.{none_is}
use Rattle.attr_heads.specs.Heads.{attribute_of, heads_broken}
use Rattle.attr_rules.specs.KeptAttributes.{seen_attribute}
use Rattle.attr_scope.specs.Seen.{seen_head}
use Rattle.attr_heads.proofs.HeadsNoted.{few_heads}
use Rattle.attr_heads.proofs.heads.check_heads.Goals as goal

pub returns-clause-phase : goal.returns-clause-phase
returns-clause-phase c =
    let first = ends_of c.new-faults.ensures c.in_ok-note_heads.ensures refl in
    ends_with (heads_broken c.args.grammar.now (map seen_head c.args.heads.now)) _ (Ok tt) c.in_ok-answer.ensures first

pub of_list-requires : goal.of_list-requires
of_list-requires c =
    let g = c.args.grammar.now in
    let list = map seen_head c.args.heads.now in
    let first = ends_of c.new-faults.ensures c.in_ok-note_heads.ensures refl in
    let few = few_heads g list (none_is (heads_broken g list) (ends_with (heads_broken g list) _ (Ok tt) c.in_ok-answer.ensures first)) in
    omega (arith, few, ap length c.in_ok-list.ensures, ap length c.deref.ensures.value, length-map c.in_ok-list.list.items seen_attribute, length-map list (attribute_of g))
