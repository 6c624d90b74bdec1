use Rattle.attr_equations.specs.Kept.{rules_in}
use Rattle.aspect_items.specs.Items.{seen_aspects}
use Rattle.program_reader.proofs.Tested.{broken_behind, clean_behind, refused_before}
use Rattle.program_reader.proofs.files.check_rules.Goals as goal

pub returns-in_err-rules : goal.returns-in_err-rules
returns-in_err-rules c = refused_before c.args.grammar.now (seen_aspects c.args.aspects.now) c.in_err-rules.field-0.0 c.from_residual.result c.from_residual.ensures c.in_err-rules.ensures.phases

pub returns-in-Ok : goal.returns-in-Ok
returns-in-Ok c = record {
  clean = clean_behind c.args.grammar.now (seen_aspects c.args.aspects.now) (rules_in c.in_ok-rules.rules) c.in_ok-rules.ensures.phases c.in_ok-rules.ensures.rules c.in-Ok.ensures;
  are = c.in_ok-rules.ensures.rules;
}

pub returns-in-Err : goal.returns-in-Err
returns-in-Err c = broken_behind c.args.grammar.now (seen_aspects c.args.aspects.now) (rules_in c.in_ok-rules.rules) c.in_ok-rules.ensures.phases c.in_ok-rules.ensures.rules c.in-Err.broken c.in-Err.ensures
