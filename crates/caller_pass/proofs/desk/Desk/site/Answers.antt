use Rattle.std.proofs.Common.{IfSome, sym, subst}
use Rattle.equation_law.specs.declared.system.System.{System}
use Rattle.equation_law.specs.Checked.{HasSourcesAlone}
use Rattle.equation_law.specs.Systems.{program_of}
use Rattle.inherited_walk.specs.Sites.{FindsEquation, IsSourceSite}
use Rattle.memo_cells.specs.Working.{Held, program_at}
use Rattle.caller_pass.specs.Keeping.{IsNotebookOf, Notes}
use Rattle.caller_pass.proofs.desk.Desk.site.Goals as goal

pub site-requires-clause-same : goal.site-requires-clause-same
site-requires-clause-same c = c.self.invariant.0.1.system

pub site-requires-clause-bare : goal.site-requires-clause-bare
site-requires-clause-bare c = subst (λ (s : System). HasSourcesAlone (program_of s)) c.self.invariant.1 c.self.invariant.0.0.bare

pub invariant_of-self : goal.invariant_of-self
invariant_of-self c = ((c.self.invariant.0.0, subst (λ (n : Notes). IsNotebookOf c.self.inside.system.now c.self.inside.pass.now n) (sym c.site.ensures.same) c.self.invariant.0.1), c.self.invariant.1)

pub returns-clause-found : goal.returns-clause-found
returns-clause-found c =
    subst (λ (d : Held). FindsEquation (program_at d) c.args.attr c.args.node c.args.args c.site.result) c.self.view_is
    (subst (λ (s : System). FindsEquation (program_of s) c.args.attr c.args.node c.args.args c.site.result) (sym c.self.invariant.1) c.site.ensures.found)

pub returns-clause-source : goal.returns-clause-source
returns-clause-source c =
    subst (λ (d : Held). IfSome c.site.result (IsSourceSite (program_at d) c.args.args)) c.self.view_is
    (subst (λ (s : System). IfSome c.site.result (IsSourceSite (program_of s) c.args.args)) (sym c.self.invariant.1) c.site.ensures.source)
