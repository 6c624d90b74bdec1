use Rattle.aspect_items.specs.Items.{seen_aspects}
use Rattle.attr_types.proofs.Checked.{givens_read, heads_read, offers_read, says_so, rules_if}
use Rattle.attr_types.proofs.checking.check.Goals as goal

pub returns-clause-phases : goal.returns-clause-phases
returns-clause-phases c =
    let aspects = c.args.aspects.now in
    let heads = heads_read aspects c.deref.ensures.value c.in_ok-heads.ensures c.deref-4.ensures.value in
    let given = givens_read aspects c.deref-2.ensures.value c.in_ok-equations.ensures c.deref-5.ensures.value in
    let offered = offers_read aspects c.deref-3.ensures.value c.in_ok-offered.ensures c.deref-6.ensures.value in
    says_so c.args.grammar.now (seen_aspects aspects) heads given offered c.check_written.result c.check_written.ensures.phases

pub returns-clause-rules : goal.returns-clause-rules
returns-clause-rules c =
    let aspects = c.args.aspects.now in
    let heads = heads_read aspects c.deref.ensures.value c.in_ok-heads.ensures c.deref-4.ensures.value in
    let given = givens_read aspects c.deref-2.ensures.value c.in_ok-equations.ensures c.deref-5.ensures.value in
    let offered = offers_read aspects c.deref-3.ensures.value c.in_ok-offered.ensures c.deref-6.ensures.value in
    rules_if c.args.grammar.now (seen_aspects aspects) heads given offered c.check_written.result c.check_written.ensures.rules
