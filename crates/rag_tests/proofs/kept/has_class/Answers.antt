use Rattle.std.proofs.Common.{◌≡◌, length, sym, ◌∙◌, arith}
use Rattle.std.proofs.lemmas.Bool.{lt-ltb, ltb-true}
use Rattle.ast_grammar.specs.Grammar.{superclasses_of}
use Rattle.ast_grammar.proofs.Inherited.{length-superclasses_of}
use Rattle.rag_tests.proofs.kept.has_class.Goals as goal

pub returns : goal.returns
returns c =
    let long : length (superclasses_of c.args.grammar.now) ≡ c.classes.result = length-superclasses_of c.args.grammar.now ∙ sym c.classes.ensures.number in (
      λ yes. omega (arith, long, c.from.ensures, ltb-true c.from.result c.classes.result (cc (yes))),
      λ within. cc (lt-ltb c.from.result c.classes.result (omega (arith, long, c.from.ensures, within))),
    )
