use Rattle.std.proofs.Common.{rules, ℕ, IfNone, IfSome, refl, sym, subst}
use Rattle.memo_cells.proofs.Holding.{query_held}
use Rattle.memo_cells.proofs.Ways.{none_then, some_then}
use Rattle.equation_law.specs.declared.coding.Instance.{Instance as CodedInstance}
use Rattle.equation_law.specs.Codes.{IsCoded, instance_by}
use Rattle.memo_cells.specs.Agreeing.{ByEachAgreeing, IsKnownInstance}
use Rattle.memo_cells.specs.Keys.{query_word}
use Rattle.memo_cells.specs.Naming.{IsCellOf}
use Rattle.memo_cells.specs.Working.{IsItsCell, WhyNoCell, program_at}
use Rattle.memo_cells.proofs.instances.seek_instance.Goals as goal

pub returns-in-Attr-clause-none : goal.returns-in-Attr-clause-none
returns-in-Attr-clause-none g c =
    let d = g.W.Words.held c.args.work.now in
    let e = g.W.Words.held c.seek_attribute.new.work in
    subst (λ (i : CodedInstance). IsCoded (program_at d) i → IsKnownInstance (program_at d) d.view.made i → IfNone c.seek_attribute.result ((s : ℕ) → ByEachAgreeing (program_at d) e.view.made (λ n. ¬ IsCellOf (program_at d) d.frame e.view (instance_by (program_at d) n i) s))) (sym c.in-Attr.is) c.seek_attribute.ensures.none

pub returns-in-Query-clause-cell : goal.returns-in-Query-clause-cell
returns-in-Query-clause-cell g c = some_then c.seek.result (λ slot at. query_held (g.W.Words.held c.args.work.now) (g.W.Words.held c.seek.new.self) c.in-Query.query.0 slot.0 (search rules) c.seek.ensures.on at) c.seek.ensures.slot

pub returns-in-Query-clause-cause : goal.returns-in-Query-clause-cause
returns-in-Query-clause-cause g c =
    let d = g.W.Words.held c.args.work.now in
    let e = g.W.Words.held c.seek.new.self in
    subst (λ (i : CodedInstance). WhyNoCell d e i c.seek.result) (sym c.in-Query.is) (none_then c.seek.result (λ why. (query_word c.in-Query.query.0, (search rules, refl), why)) c.seek.ensures.cause)

pub returns-in-Attr-clause-its : goal.returns-in-Attr-clause-its
returns-in-Attr-clause-its g c =
    let d = g.W.Words.held c.args.work.now in
    let e = g.W.Words.held c.seek_attribute.new.work in
    subst (λ (i : CodedInstance). IfSome c.seek_attribute.result (λ s. IsItsCell d e i s.0)) (sym c.in-Attr.is) c.seek_attribute.ensures.its

pub returns-in-Query-clause-its : goal.returns-in-Query-clause-its
returns-in-Query-clause-its g c =
    let d = g.W.Words.held c.args.work.now in
    let e = g.W.Words.held c.seek.new.self in
    subst (λ (i : CodedInstance). IfSome c.seek.result (λ s. IsItsCell d e i s.0)) (sym c.in-Query.is)
    (some_then c.seek.result (λ s at. (tt, (λ n named. (query_word c.in-Query.query.0, at, (search rules, refl))))) c.seek.ensures.slot)
