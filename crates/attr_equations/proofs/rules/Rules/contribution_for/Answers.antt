use Rattle.std.proofs.Common.{refl, sym, subst, arith}
use Rattle.std.proofs.lemmas.Option.{IfSome_then}
use Rattle.attr_equations.specs.Kept.{rules_in}
use Rattle.attr_equations.specs.Offered.{AreBelow, AreRising, IsFirstFrom}
use Rattle.attr_equations.proofs.Receiving.{group_found, next_found, none_behind, none_for, none_then, rising}
use Rattle.attr_equations.proofs.rules.Rules.contribution_for.Goals as goal

pub first_from-requires : goal.first_from-requires
first_from-requires c =
    let r = c.args.self.now in
    subst AreRising (sym (group_found r.contributions.items r.offered c.from-group.result c.args.a.0 c.group.result.now r.by_target c.from-group.ensures c.group.ensures))
    (rising (rules_in r) r.contributions.items refl c.args.a.0)

pub returns-clause-some : goal.returns-clause-some
returns-clause-some c =
    let r = c.args.self.now in
    let are = group_found r.contributions.items r.offered c.from-group.result c.args.a.0 c.group.result.now r.by_target c.from-group.ensures c.group.ensures in
    IfSome_then c.first_from.result c.first_from.ensures.some
    (λ k first. next_found (rules_in r) r.contributions.items refl c.args.a.0 c.args.from k (subst (λ ns. IsFirstFrom ns c.args.from k) are first))

pub returns-clause-none : goal.returns-clause-none
returns-clause-none c =
    let r = c.args.self.now in
    let are = group_found r.contributions.items r.offered c.from-group.result c.args.a.0 c.group.result.now r.by_target c.from-group.ensures c.group.ensures in
    none_then c.first_from.result (λ below. none_for (rules_in r) r.contributions.items refl c.args.a.0 c.args.from (subst (λ ns. AreBelow ns c.args.from) are below)) c.first_from.ensures.none

pub returns-then-group-len-clause-none : goal.returns-then-group-len-clause-none
returns-then-group-len-clause-none c =
    let r = c.args.self.now in
    let size = c.len.ensures in
    let behind = c.if-group-len.true in
    none_behind (rules_in r) r.contributions.items refl c.args.a.0 r.offered r.by_target (omega (arith, size, behind, c.from-group.ensures)) c.args.from
