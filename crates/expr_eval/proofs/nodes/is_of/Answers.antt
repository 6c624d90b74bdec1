use Rattle.std.proofs.Common.{Some, None, List, ap, ◌∙◌}
use Rattle.ast_grammar.specs.Grammar.{Class, is_sub}
use Rattle.equation_law.specs.Codes.{reference_by}
use Rattle.equation_law.specs.Systems.{program_of}
use Rattle.expr_eval.proofs.MadeNodes.{class_instance}
use Rattle.expr_eval.proofs.nodes.is_of.Goals as goal

pub returns-in-Some : goal.returns-in-Some
returns-in-Some g c = record {
  kept = c.in-Some.ensures.kept;
  is = λ n at.
      c.is_sub.ensures.flag ∙ ap (λ (classes : List Class). is_sub classes c.in-Some.own.0 c.args.class.0) c.grammar.ensures
      ∙ class_instance (program_of c.args.system.now) c.args.class (reference_by n.node c.args.node.0) (Some c.in-Some.own) (c.in-Some.ensures.class n at);
}

pub returns-in-None : goal.returns-in-None
returns-in-None g c = record {
  kept = c.in-None.ensures.kept;
  is = λ n at. class_instance (program_of c.args.system.now) c.args.class (reference_by n.node c.args.node.0) None (c.in-None.ensures.class n at);
}
