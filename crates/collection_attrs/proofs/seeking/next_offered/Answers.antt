use Rattle.std.proofs.Common.{List, length, ap, ◌∙◌, arith}
use Rattle.std.proofs.lemmas.List.{length-map}
use Rattle.std.proofs.lemmas.Option.{slice_get_within}
use Rattle.ast_grammar.specs.Grammar.{Class, is_sub}
use Rattle.attr_equations.specs.Kept.{rules_in}
use Rattle.attr_equations.specs.KeptContributions.{contribution_in}
use Rattle.equation_law.specs.Systems.{program_of}
use Rattle.collection_attrs.proofs.Sought.{next_is, none_further, none_to}
use Rattle.collection_attrs.proofs.seeking.next_offered.Goals as goal

pub returns-then-is_sub-clause-some : goal.returns-then-is_sub-clause-some
returns-then-is_sub-clause-some c =
    let p = program_of c.args.system.now in
    let n = c.in-Some.ensures.some in
    let i = c.contributions.invariant in
    let test = c.is_sub.ensures.flag ∙ ap (λ (g : List Class). is_sub g c.class_of-class.result.0 c.contribution.result.now.class.0) c.grammar.ensures in
    let x = next_is p c.args.attr.0 c.args.node c.rules-rules.ensures c.in-Some.number n.is c.contribution.ensures c.tree.ensures c.class_of-class.result c.class_of-class.ensures test in
    let first = n.after in
    let after = i.after in
    (omega (arith, first, after), x.0, x.1, x.2 ∙ c.if-is_sub.true, none_to p c.args.attr.0 c.args.node c.rules-rules.ensures c.args.from c.contributions.first c.in-Some.number i.none n.between)

pub overflow_add-first : goal.overflow_add-first
overflow_add-first c =
    let r = c.rules-rules.result.now in
    let within = slice_get_within (rules_in r).contributions c.in-Some.number c.in-Some.ensures.some.is.0 c.in-Some.ensures.some.is.1 in
    let size = length-map r.contributions.items contribution_in in
    let few = r.numbered.few in
    omega (arith, within, size, few)

pub contributions-smaller : goal.contributions-smaller
contributions-smaller c =
    let p = program_of c.args.system.now in
    let n = c.in-Some.ensures.some in
    let within = slice_get_within (rules_in c.rules-rules.result.now).contributions c.in-Some.number n.is.0 n.is.1 in
    let same = ap (λ r. length r.contributions) c.rules-rules.ensures in
    let first = n.after in
    omega (arith, within, same, first)

pub contributions-preserved : goal.contributions-preserved
contributions-preserved c =
    let p = program_of c.args.system.now in
    let n = c.in-Some.ensures.some in
    let i = c.contributions.invariant in
    let test = c.is_sub.ensures.flag ∙ ap (λ (g : List Class). is_sub g c.class_of-class.result.0 c.contribution.result.now.class.0) c.grammar.ensures in
    let x = next_is p c.args.attr.0 c.args.node c.rules-rules.ensures c.in-Some.number n.is c.contribution.ensures c.tree.ensures c.class_of-class.result c.class_of-class.ensures test in
    let none = none_to p c.args.attr.0 c.args.node c.rules-rules.ensures c.args.from c.contributions.first c.in-Some.number i.none n.between in
    let first = n.after in
    let after = i.after in
    record { after = omega (arith, first, after); none = none_further p c.args.attr.0 c.args.node c.args.from c.in-Some.number none x.0 x.1 (x.2 ∙ c.if-is_sub.false) }

pub returns-clause-none : goal.returns-clause-none
returns-clause-none c =
    none_to (program_of c.args.system.now) c.args.attr.0 c.args.node c.rules-rules.ensures c.args.from c.contributions.first (length (program_of c.args.system.now).rules.contributions) c.contributions.invariant.none (λ j l u. c.in_default.ensures.none j l)
