use Rattle.std.proofs.Common.{subst}
use Rattle.equation_law.specs.declared.system.System.{System}
use Rattle.equation_law.specs.Systems.{program_of}
use Rattle.circular_eval.specs.Local.{IsLocalByEach}
use Rattle.circular_eval.proofs.advancing.advance.Goals as goal

pub go_on-requires : goal.go_on-requires
go_on-requires g c =
    let d = g.W.Words.held c.args.work.now in
    record { ready = record { program = c.requires.program; same = c.requires.same; own = c.requires.own; local = subst (λ (s : System). IsLocalByEach (program_of s) d.frame d.view c.args.local.now) c.requires.same c.requires.local } }

pub returns-clause-on : goal.returns-clause-on
returns-clause-on g c =
    c.go_on.ensures.goes.on

pub returns-clause-local : goal.returns-clause-local
returns-clause-local g c =
    c.go_on.ensures.goes.local

pub returns-clause-start : goal.returns-clause-start
returns-clause-start g c =
    c.go_on.ensures.goes.start

pub returns-clause-claims : goal.returns-clause-claims
returns-clause-claims g c =
    c.go_on.ensures.goes.claims

pub returns-clause-answer : goal.returns-clause-answer
returns-clause-answer g c =
    c.go_on.ensures.answer
