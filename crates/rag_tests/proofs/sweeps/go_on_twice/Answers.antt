-- The first two queries are instances, and the local set stays one.
use Rattle.std.proofs.Common.{rules, ◌≡◌, ◌<◌, ◌∙◌, Option, length, subst, sym, arith}
use Rattle.std.specs.Prelude.{IfSome}
use Rattle.equation_law.specs.declared.coding.Instance.{Instance as CodedInstance}
use Rattle.equation_law.specs.declared.system.System.{System}
use Rattle.equation_law.specs.Systems.{program_of}
use Rattle.memo_cells.specs.declared.view.Frame.{Frame}
use Rattle.memo_cells.specs.Working.{program_at}
use Rattle.circular_eval.specs.Local.{IsLocalByEach}
use Rattle.circular_eval.proofs.Later.{set_later}
use Rattle.query_replies.proofs.Answered.{query_instance}
use Rattle.rag_tests.specs.Circular.{IsCircular}
use Rattle.rag_tests.proofs.sweeps.go_on_twice.Goals as goal

pub ask-requires-clause-instance : goal.ask-requires-clause-instance
ask-requires-clause-instance g c =
    let p = program_of c.args.system.now in
    let some : 0 < length p.queries = omega (arith, c.if-replies-lt2.false, c.replies.ensures.number) in
    λ names named. query_instance p 0 some

pub first_circular-requires-clause-instance : goal.first_circular-requires-clause-instance
first_circular-requires-clause-instance g c =
    let p = program_of c.args.system.now in
    let some : 1 < length p.queries = omega (arith, c.if-replies-lt2.false, c.replies.ensures.number) in
    λ names named. query_instance p 1 some

pub go_on-first-requires-clause-local : goal.go_on-first-requires-clause-local
go_on-first-requires-clause-local g c =
    let p = program_of c.args.system.now in
    let d = c.first_circular.new.work in
    let is = subst (λ (o : Option CodedInstance). IfSome o (IsCircular p d.view.made)) c.in-Some.is c.in_ok-start.ensures.found in
    let same : d.frame.system.value ≡ c.args.system.now = search rules in
    subst (λ (s : System). IsLocalByEach (program_of s) d.frame d.view c.in_ok-local.local) (sym same) (λ names named. c.in_ok-local.ensures.local p names d.frame d.view (is.instance names named) is.coded is.known (is.is_circular names named))

pub go_on-second-requires-clause-local : goal.go_on-second-requires-clause-local
go_on-second-requires-clause-local g c =
    let on = c.in_ok-sealed.ensures.on.on in
    let d = c.first_circular.new.work in
    let e = c.count_sealed.new.work in
    subst (λ (f : Frame). IsLocalByEach (program_of f.system.value) f e.view c.go_on-first.new.local) (sym (on.cells ∙ c.go_on-first.ensures.on.cells))
    (set_later (program_at d) c.go_on-first.new.work.view e.view on.kept d.frame c.go_on-first.new.local c.go_on-first.ensures.local)
