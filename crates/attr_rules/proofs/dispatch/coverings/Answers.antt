use Rattle.std.proofs.Common.{◌≡◌, ℕ, ◌<◌, ◌≤◌, None, length, slice_index_or, sym, subst, ◌∙◌, arith, rules}
use Rattle.ast_grammar.specs.Grammar.{superclasses_of}
use Rattle.ast_grammar.proofs.Inherited.{length-superclasses_of}
use Rattle.attr_rules.specs.declared.dispatch.Reach.TheVariants.{Children}
use Rattle.attr_rules.specs.Dispatching.{AreOwnPaths, CoversUpwards, number_in}
use Rattle.attr_rules.proofs.CoveringLines.{CoversEach, covers_all, covers_more, covers_none, none_past}
use Rattle.attr_rules.proofs.dispatch.coverings.Goals as goal

pub own_paths-requires-clause-within : goal.own_paths-requires-clause-within
own_paths-requires-clause-within c = λ k d h.
    let classes : c.classes.result ≡ length (superclasses_of c.args.grammar.now) = c.classes.ensures.number ∙ sym (length-superclasses_of c.args.grammar.now) in
    subst (λ n. (slice_index_or c.args.targets.now k d).class.0 < n) (sym classes) (c.requires.within k d h).class

pub loop-class-init : goal.loop-class-init
loop-class-init c = covers_none (superclasses_of c.args.grammar.now) c.in_ok-own.own.items c.new-coverings.ensures.items

pub of_class-requires-clause-within : goal.of_class-requires-clause-within
of_class-requires-clause-within c =
    let s = superclasses_of c.args.grammar.now in
    let classes : c.classes.result ≡ length s = c.classes.ensures.number ∙ sym (length-superclasses_of c.args.grammar.now) in
    subst (λ own. (d a : ℕ) → c.args.attributes ≤ a → number_in own d Children a ≡ None) (sym c.deref.ensures.value)
    (none_past s c.args.attributes c.args.targets.now c.requires.within c.in_ok-own.own.items (subst (λ n. AreOwnPaths n c.args.targets.now c.in_ok-own.own.items) classes c.in_ok-own.ensures))

pub loop-class-preserved : goal.loop-class-preserved
loop-class-preserved c =
    let s = superclasses_of c.args.grammar.now in
    covers_more s c.in_ok-own.own.items c.loop-class.class c.in_ok-covering.covering {coverings = c.loop-class.coverings.items}
    (subst (λ own. CoversUpwards s own c.loop-class.class c.in_ok-covering.covering) c.deref.ensures.value c.in_ok-covering.ensures) (search rules) c.loop-class.invariant

pub returns : goal.returns
returns c =
    let s = superclasses_of c.args.grammar.now in
    let own = c.in_ok-own.own in
    let classes : c.classes.result ≡ length s = c.classes.ensures.number ∙ sym (length-superclasses_of c.args.grammar.now) in
    let all : c.loop-class.class ≡ length own.items = omega (arith, c.len-class-end.ensures, own.ok.0) in
    covers_all s c.args.attributes c.args.targets.now c.requires.within own.items (subst (λ n. AreOwnPaths n c.args.targets.now own.items) classes c.in_ok-own.ensures)
    (subst (λ n. CoversEach s own.items n c.loop-class.coverings.items) all c.loop-class.invariant)
