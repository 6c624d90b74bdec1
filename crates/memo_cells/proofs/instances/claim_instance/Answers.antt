use Rattle.std.proofs.Common.{rules, [], IfOk, OnErr, sym, subst}
use Rattle.std.proofs.lemmas.Result.{on_err_weaker}
use Rattle.equation_law.specs.declared.coding.Instance.{Instance as CodedInstance}
use Rattle.equation_law.specs.Names.{Query}
use Rattle.made_trees.specs.Made.{naming_by_makers}
use Rattle.memo_cells.specs.Working.{ClaimsKeysAt, IsCellAt, IsInstanceAt, IsKnownAt, LacksCellAt, program_at}
use Rattle.memo_cells.specs.Keys.{query_word}
use Rattle.memo_cells.proofs.Agreeing.{own_open}
use Rattle.memo_cells.proofs.Ways.{claims_key, query_formed, query_key}
use Rattle.memo_cells.proofs.instances.claim_instance.Goals as goal

pub claim-requires-clause-key : goal.claim-requires-clause-key
claim-requires-clause-key g c =
    let d = g.W.Words.held c.args.work.now in
    let p = program_at d in
    query_formed p d.view c.in-Query.query.0 (search rules) ((subst (IsInstanceAt d) c.in-Query.is c.requires.instance) (naming_by_makers p d.view.made) (own_open d.frame d.view [] c.requires.own))

pub returns-in-Query-clause-full : goal.returns-in-Query-clause-full
returns-in-Query-clause-full g c =
    let d = g.W.Words.held c.args.work.now in
    let e = g.W.Words.held c.claim.new.self in
    on_err_weaker c.claim.result
    (λ full. subst (LacksCellAt d e) (sym c.in-Query.is) (λ m named. (query_word c.in-Query.query.0, query_key (program_at d) e.view c.in-Query.query.0 (search rules), full)))
    c.claim.ensures.full

pub returns-in-Query-clause-claims : goal.returns-in-Query-clause-claims
returns-in-Query-clause-claims g c =
    let d = g.W.Words.held c.args.work.now in
    let e = g.W.Words.held c.claim.new.self in
    subst (ClaimsKeysAt d e) (sym c.in-Query.is)
    (λ m named. claims_key (program_at d) d.view e.view (Query c.in-Query.query.0) (query_word c.in-Query.query.0) c.claim.ensures.claims (query_key (program_at d) e.view c.in-Query.query.0 (search rules)))

pub claim_attribute-requires-clause-instance : goal.claim_attribute-requires-clause-instance
claim_attribute-requires-clause-instance g c = subst (IsInstanceAt (g.W.Words.held c.args.work.now)) c.in-Attr.is c.requires.instance

pub returns-in-Attr-clause-slot : goal.returns-in-Attr-clause-slot
returns-in-Attr-clause-slot g c =
    let d = g.W.Words.held c.args.work.now in
    let e = g.W.Words.held c.claim_attribute.new.work in
    subst (λ (i : CodedInstance). IfOk c.claim_attribute.result (λ s. IsCellAt d e i s.0)) (sym c.in-Attr.is) c.claim_attribute.ensures.slot

pub returns-in-Attr-clause-full : goal.returns-in-Attr-clause-full
returns-in-Attr-clause-full g c =
    let d = g.W.Words.held c.args.work.now in
    let e = g.W.Words.held c.claim_attribute.new.work in
    subst (λ (i : CodedInstance). OnErr c.claim_attribute.result (LacksCellAt d e i)) (sym c.in-Attr.is) c.claim_attribute.ensures.full

pub returns-in-Attr-clause-claims : goal.returns-in-Attr-clause-claims
returns-in-Attr-clause-claims g c = subst (ClaimsKeysAt (g.W.Words.held c.args.work.now) (g.W.Words.held c.claim_attribute.new.work)) (sym c.in-Attr.is) c.claim_attribute.ensures.claims

pub claim_attribute-requires-clause-known : goal.claim_attribute-requires-clause-known
claim_attribute-requires-clause-known g c = subst (IsKnownAt (g.W.Words.held c.args.work.now)) c.in-Attr.is c.requires.known
