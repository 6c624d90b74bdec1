use Rattle.std.proofs.Common.{◌≡◌, MatchOption, Option, refl, subst, sym}
use Rattle.ast_grammar.specs.declared.grammar.ClassId.{ClassId}
use Rattle.made_trees.proofs.Readers.{told_class}
use Rattle.rag_tests.specs.Counting.{told_by}
use Rattle.rag_tests.proofs.Counting.{by_naming, for_makers}
use Rattle.rag_tests.proofs.steps.CountingReader.made_class.Goals as goal

pub returns-in-Some : goal.returns-in-Some
returns-in-Some c =
    told_class (told_by c.args.self.now.makers.now) c.args.self.now.makers.now (for_makers c.args.self.now.makers.now) (by_naming c.args.self.now.makers.now) (λ k. tt) c.args.node c.class_of.result c.in-Some.class c.class_of.ensures.class
    (subst (λ (o : Option ClassId). MatchOption o (c.in-Some.class.0 ≡ 65535) (λ d. c.in-Some.class ≡ d)) (sym c.in-Some.is) refl)

pub returns-in-None : goal.returns-in-None
returns-in-None c =
    let none : ClassId = record { 0 = 65535 } in
    told_class (told_by c.args.self.now.makers.now) c.args.self.now.makers.now (for_makers c.args.self.now.makers.now) (by_naming c.args.self.now.makers.now) (λ k. tt) c.args.node c.class_of.result none c.class_of.ensures.class (subst (λ (o : Option ClassId). MatchOption o (none.0 ≡ 65535) (λ d. none ≡ d)) (sym c.in-None.is) refl)
