use Rattle.std.proofs.Common.{inl, inr, sym, ap, ◌∙◌, arith}
use Rattle.superclasses.specs.Superclasses.{nearest_common}
use Rattle.ast_grammar.proofs.Inherited.{common_within}
use Rattle.ast_grammar.proofs.Kept.{count, few_kept}
use Rattle.ast_grammar.specs.Kept.{grammar_of}
use Rattle.ast_grammar.proofs.grammar.Grammar.nearest_common.Goals as goal

pub overflow_cast-result : goal.overflow_cast-result
overflow_cast-result c =
    let few = few_kept c.self.inside.names c.self.inside.subclasses c.self.inside.classes.items c.self.invariant in
    let same = count c.self.inside.names c.self.inside.subclasses c.self.inside.classes.items c.self.invariant in
    let first = c.args.first.0 in
    let second = c.args.second.0 in
    let found = c.in_ok-found.ensures ∙ ap (λ s. nearest_common s first second) c.self.invariant.superclasses_are in
    elim (common_within (grammar_of c.self.inside.names c.self.inside.classes.items) c.self.invariant.allowed first second c.in_ok-found.found (sym found)) [
      | inl is ↦ omega arith
      | inr within ↦ omega arith
    ]
