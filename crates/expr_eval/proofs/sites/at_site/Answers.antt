use Rattle.std.proofs.Common.{Option, arith, refl, subst}
use Rattle.std.proofs.lemmas.Option.{slice_get_within}
use Rattle.attr_rules.specs.Rules.{bodies}
use Rattle.equation_law.specs.declared.coding.EqSite.{EqSite}
use Rattle.equation_law.specs.declared.coding.Instance.TheVariants.{Attr as attribute_at}
use Rattle.equation_law.specs.Systems.{program_of}
use Rattle.equation_law.proofs.Pooled.{first_text}
use Rattle.inherited_walk.specs.Sites.{FindsIn}
use Rattle.expr_eval.proofs.Found.{attribute_evaluated, image_found, none_evaluated}
use Rattle.expr_eval.proofs.sites.at_site.Goals as goal

pub evaluate_for-requires-clause-equation : goal.evaluate_for-requires-clause-equation
evaluate_for-requires-clause-equation g c =
    let p = program_of c.args.system.now in
    let by = c.requires.ready.sound.some in
    let found = subst (λ (o : Option EqSite). FindsIn p (g.R.Reader.tells c.args.reader.now) c.args.attr c.args.node c.args.args o) c.in-Some.is c.requires.found by.0 by.1 in
    slice_get_within (bodies p.rules) c.in-Some.site.equation.0 found.0.body found.2.body

pub returns-in-None-clause-resumes : goal.returns-in-None-clause-resumes
returns-in-None-clause-resumes g c =
    let p = program_of c.args.system.now in
    let found = subst (λ (o : Option EqSite). FindsIn p (g.R.Reader.tells c.args.reader.now) c.args.attr c.args.node c.args.args o) c.in-None.is c.requires.found in
    none_evaluated p _ (attribute_at c.args.attr c.args.node c.args.args) c.requires.ready c.requires.single found _ tt (c.requires.ready.sound.sources 0 (omega arith)) (λ n. refl)

pub returns-in_ok-turn-in-Some-clause-resumes : goal.returns-in_ok-turn-in-Some-clause-resumes
returns-in_ok-turn-in-Some-clause-resumes g c =
    let p = program_of c.args.system.now in
    attribute_evaluated p _ _ c.args.attr c.args.node c.args.args c.attribute_kind.result c.in-Some.site c.in_ok-turn-in-Some.turn c.read_as.result (first_text c.args.system.now) c.attribute_kind.ensures c.requires.single
    (subst (λ (o : Option EqSite). FindsIn p (g.R.Reader.tells c.args.reader.now) c.args.attr c.args.node c.args.args o) c.in-Some.is c.requires.found) c.in_ok-turn-in-Some.ensures.plain c.in_ok-turn-in-Some.ensures.reads c.read_as.ensures

pub returns-in_ok-turn-in-Some-clause-made : goal.returns-in_ok-turn-in-Some-clause-made
returns-in_ok-turn-in-Some-clause-made g c =
    let p = program_of c.args.system.now in
    let found = subst (λ (o : Option EqSite). FindsIn p (g.R.Reader.tells c.args.reader.now) c.args.attr c.args.node c.args.args o) c.in-Some.is c.requires.found in
    image_found p (g.R.Reader.tells c.evaluate_for.new.reader) c.args.attr c.args.node c.args.args c.attribute_kind.result c.in-Some.site c.in_ok-turn-in-Some.turn c.read_as.result (λ n named. found n (c.in_ok-turn-in-Some.ensures.reads.kept.names n named)) c.in_ok-turn-in-Some.ensures.made c.read_as.ensures
