use Rattle.std.proofs.Common.{◌≡◌, length, sym, subst, ◌∙◌, arith, rules}
use Rattle.ast_grammar.specs.Grammar.{superclasses_of}
use Rattle.ast_grammar.proofs.Inherited.{length-superclasses_of}
use Rattle.attr_rules.specs.Dispatching.{AreOwnRows, IsNearestRow}
use Rattle.attr_rules.proofs.Dispatched.{dispatched}
use Rattle.attr_rules.proofs.RowLists.{AreEach, each_more, each_none}
use Rattle.attr_rules.proofs.dispatch.Dispatch.of_targets.Goals as goal

pub loop-class-init : goal.loop-class-init
loop-class-init c = each_none (IsNearestRow (superclasses_of c.args.grammar.now) c.in_ok-own.own.items) c.new-rows.ensures.items

pub loop-class-preserved : goal.loop-class-preserved
loop-class-preserved c =
    let s = superclasses_of c.args.grammar.now in
    each_more (IsNearestRow s c.in_ok-own.own.items) c.loop-class.class c.in_ok-row.row {rows = c.loop-class.rows.items}
    (subst (λ own. IsNearestRow s own c.loop-class.class c.in_ok-row.row.items) c.deref.ensures.value c.in_ok-row.ensures) (search rules) c.loop-class.invariant

pub returns : goal.returns
returns c =
    let s = superclasses_of c.args.grammar.now in
    let own = c.in_ok-own.own in
    let classes : c.classes.result ≡ length s = c.classes.ensures.number ∙ sym (length-superclasses_of c.args.grammar.now) in
    let all : c.loop-class.class ≡ length own.items = omega (arith, c.len-class-end.ensures, own.ok.0) in
    dispatched s c.args.attributes c.args.targets.now own.items _ c.classes.ensures.allowed.within c.requires c.in_ok-numbers_suffice.ensures
    (subst (λ n. AreOwnRows n c.args.attributes c.args.targets.now own.items) classes c.in_ok-own.ensures) (subst (λ n. AreEach (IsNearestRow s own.items) n c.loop-class.rows.items) all c.loop-class.invariant) c.in_ok-coverings.ensures
