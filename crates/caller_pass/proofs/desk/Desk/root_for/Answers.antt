use Rattle.std.proofs.Common.{◌<◌, IfNone, IfSome, length, sym, subst}
use Rattle.equation_law.specs.declared.system.System.{System}
use Rattle.equation_law.specs.Checked.{HasSourcesAlone}
use Rattle.equation_law.specs.Systems.{program_of}
use Rattle.memo_cells.specs.Working.{Held, program_at}
use Rattle.collection_attrs.specs.Roots.{IsRootOf, IsRootless}
use Rattle.collection_attrs.specs.Surveys.{Collections, IsCollectorOf}
use Rattle.caller_pass.specs.Keeping.{IsNotebookOf, Notes}
use Rattle.caller_pass.proofs.desk.Desk.root_for.Goals as goal

pub root_for-requires-clause-same : goal.root_for-requires-clause-same
root_for-requires-clause-same c = c.self.invariant.0.1.system

pub root_for-requires-clause-bare : goal.root_for-requires-clause-bare
root_for-requires-clause-bare c = subst (λ (s : System). HasSourcesAlone (program_of s)) c.self.invariant.1 c.self.invariant.0.0.bare

pub root_for-requires-clause-collection : goal.root_for-requires-clause-collection
root_for-requires-clause-collection c =
    subst (λ (s : System). (x : Collections) × IsCollectorOf (program_of s) c.args.of x) c.self.invariant.1
    (subst (λ (h : Held). (x : Collections) × IsCollectorOf (program_at h) c.args.of x) (sym c.self.view_is) c.requires)

pub invariant_of-self : goal.invariant_of-self
invariant_of-self c = ((c.self.invariant.0.0, subst (λ (n : Notes). IsNotebookOf c.self.inside.system.now c.self.inside.pass.now n) (sym c.root_for.ensures.same) c.self.invariant.0.1), c.self.invariant.1)

pub returns-clause-within : goal.returns-clause-within
returns-clause-within c =
    subst (λ (h : Held). IfSome c.root_for.result (λ r. r < length (program_at h).tree)) c.self.view_is
    (subst (λ (s : System). IfSome c.root_for.result (λ r. r < length (program_of s).tree)) (sym c.self.invariant.1) c.root_for.ensures.within)

pub returns-clause-some : goal.returns-clause-some
returns-clause-some c =
    subst (λ (h : Held). IfSome c.root_for.result (IsRootOf (program_at h) c.args.of)) c.self.view_is
    (subst (λ (s : System). IfSome c.root_for.result (IsRootOf (program_of s) c.args.of)) (sym c.self.invariant.1) c.root_for.ensures.some)

pub returns-clause-none : goal.returns-clause-none
returns-clause-none c =
    subst (λ (h : Held). IfNone c.root_for.result (IsRootless (program_at h) c.args.of)) c.self.view_is
    (subst (λ (s : System). IfNone c.root_for.result (IsRootless (program_of s) c.args.of)) (sym c.self.invariant.1) c.root_for.ensures.none)
