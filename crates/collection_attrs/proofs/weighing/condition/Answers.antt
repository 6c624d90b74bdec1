use Rattle.std.proofs.Common.{suc, Option, [], subst, sym, true}
use Rattle.solutions.specs.Asking.{gives}
use Rattle.attr_rules.specs.declared.kinds.EqId.{EqId}
use Rattle.attr_rules.specs.Expression.{Expression}
use Rattle.equation_law.specs.Systems.{program_of}
use Rattle.equation_law.specs.Values.{Truth}
use Rattle.expr_eval.specs.Evaluating.{Comes, place_kept, read_at}
use Rattle.equation_law.proofs.Grown.{grows_itself}
use Rattle.collection_attrs.specs.Surveys.{IsCondition}
use Rattle.collection_attrs.proofs.weighing.condition.Goals as goal

pub returns-in-None-clause-evaluates : goal.returns-in-None-clause-evaluates
returns-in-None-clause-evaluates g c = λ e is.
    let p = program_of c.args.system.now in
    let literal = subst (λ (o : Option EqId). IsCondition p o e) c.in-None.is is in
    record {
      kept = grows_itself c.requires.sound;
      answer = record {
        comes = λ names in_it. subst (λ (x : Expression). Comes (g.R.Reader.tells c.args.reader.now).has (read_at p (place_kept names (suc c.args.node) []) x) (Truth true)) (sym literal) ([], gives);
        coded = tt;
        known = tt;
      };
    }
