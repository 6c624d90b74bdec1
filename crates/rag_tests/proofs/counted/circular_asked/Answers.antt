-- The first query is an instance, and what it leads to is circular in new cells too.
use Rattle.std.proofs.Common.{rules, ◌≡◌, ◌<◌, [], Option, arith, length, subst}
use Rattle.std.specs.Prelude.{IfSome}
use Rattle.equation_law.specs.declared.coding.Instance.{Instance as CodedInstance}
use Rattle.equation_law.specs.Systems.{program_of}
use Rattle.made_trees.specs.Made.{Follow}
use Rattle.query_replies.proofs.Answered.{open_after, query_instance}
use Rattle.rag_tests.specs.Circular.{IsCircular}
use Rattle.rag_tests.proofs.Sweeping.{circular_before}
use Rattle.rag_tests.proofs.counted.circular_asked.Goals as goal

pub first_circular-requires-clause-instance : goal.first_circular-requires-clause-instance
first_circular-requires-clause-instance c =
    let p = program_of c.args.system.now in
    let some : 0 < length p.queries = omega (arith, c.if-replies-eq0.false, c.replies.ensures.number) in
    λ names named. query_instance p 0 some

pub returns : goal.returns
returns c =
    let s = c.args.system.now in
    let p = program_of s in
    let e = c.first_circular.new.work in
    let on = c.in_ok-i.ensures.on.on in
    let is = subst (λ (o : Option CodedInstance). IfSome o (IsCircular p e.view.made)) c.in-Some.is c.in_ok-i.ensures.found in
    let same : e.frame.system.value ≡ s = search rules in
    let follow : Follow [] e.view.made = search (rules, on.kept.made) in
    circular_before p [] e.view.made follow (open_after s e.frame e.view same on.own) c.in-Some.i (c.is_at_source.ensures c.if-not-is_at_source.false p) is
