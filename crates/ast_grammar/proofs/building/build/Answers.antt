use Rattle.std.proofs.Common.{ap, arith, length, subst, sym, ◌∙◌}
use Rattle.std.proofs.lemmas.List.{length-map}
use Rattle.ast_rules.specs.Written.{WrittenRule, seen_rule, seen_rules}
use Rattle.ast_grammar.specs.Kept.{IsKept, grammar_of}
use Rattle.ast_grammar.proofs.Made.{is_kept, made, small_rules}
use Rattle.ast_grammar.proofs.Read.{numbers_within}
use Rattle.ast_grammar.proofs.building.build.Goals as goal

pub name_table-requires : goal.name_table-requires
name_table-requires c = small_rules (seen_rules c.args.rules.now) c.requires.allowed

pub number_components-requires-clause-few : goal.number_components-requires-clause-few
number_components-requires-clause-few c =
    let rules = seen_rules c.args.rules.now in
    omega (arith, ap length c.requires.names, length-map rules (λ (r : WrittenRule). r.name.text), (small_rules rules c.requires.allowed).few)

pub kept_classes-requires-clause-few : goal.kept_classes-requires-clause-few
kept_classes-requires-clause-few c = omega (arith, length-map c.args.rules.now seen_rule, (small_rules (seen_rules c.args.rules.now) c.requires.allowed).few)

pub kept_classes-requires-clause-within : goal.kept_classes-requires-clause-within
kept_classes-requires-clause-within c = numbers_within (seen_rules c.args.rules.now) c.requires.allowed (c.deref.ensures.value ∙ c.requires.superclasses)

pub of_superclasses-requires : goal.of_superclasses-requires
of_superclasses-requires c = numbers_within (seen_rules c.args.rules.now) c.requires.allowed c.requires.superclasses

pub of_parts-requires : goal.of_parts-requires
of_parts-requires c =
    let rules = seen_rules c.args.rules.now in
    let classes = c.in_ok-classes.classes.items in
    let kept = is_kept rules c.requires.allowed c.requires.words classes c.in_ok-classes.ensures c.in_ok-subclasses.subclasses (c.in_ok-subclasses.ensures ∙ c.requires.superclasses) in
    subst (λ names. IsKept names c.in_ok-subclasses.subclasses classes) (sym c.in_ok-names.ensures) kept

pub returns : goal.returns
returns c =
    let rules = seen_rules c.args.rules.now in
    let classes = c.in_ok-classes.classes.items in
    c.of_parts.ensures ∙ ap (λ names. grammar_of names classes) c.in_ok-names.ensures
    ∙ made rules c.requires.allowed c.requires.words classes c.in_ok-classes.ensures
