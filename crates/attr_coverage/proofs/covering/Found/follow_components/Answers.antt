use Rattle.std.proofs.Common.{◌≡◌, ◌+◌, List, arith, length, option_map, subst, sym}
use Rattle.ast_grammar.specs.Grammar.{components_of, superclasses_of}
use Rattle.attr_rules.specs.declared.dispatch.Target.{Target}
use Rattle.attr_rules.specs.Rules.{number_of_attribute}
use Rattle.attr_coverage.specs.Covering.{is_covered}
use Rattle.attr_coverage.specs.CoveringKept.{Adds, Grows}
use Rattle.attr_coverage.proofs.Following.{follows_all, follows_covered, follows_open, hangs_before}
use Rattle.attr_coverage.proofs.Marks.{adds_none, grown_none, grown_then}
use Rattle.attr_coverage.proofs.covering.Found.follow_components.Goals as goal
use Rattle.attr_coverage.proofs.covering.Found.follow_components.Goals.{then-is_open+in_ok-add_below, else-is_open}

pub loop-k-init : goal.loop-k-init
loop-k-init c = record { grown = grown_none; added = λ targets known. adds_none }

pub loop-k-preserved : goal.loop-k-preserved
loop-k-preserved c =
    let g = c.args.grammar.now in
    let p = c.args.class.0 in
    let k = c.loop-k.k in
    let kept = c.loop-k.invariant in
    let before = c.args.self.now in
    let covered = λ (targets : List Target). is_covered (superclasses_of g) targets (option_map number_of_attribute c.args.first) in
    elim c.if-is_open.branch [
      | then-is_open+in_ok-add_below w ↦ record {
        grown = subst (Grows before) (sym w.self-is) (grown_then kept.grown w.in_ok-add_below.ensures.grown);
        added = λ targets known.
            subst (Adds (hangs_before g (covered targets) p (k + 1)) before) (sym w.self-is)
            (follows_open g (covered targets) p k c.component-component.result.now c.component-component.ensures (kept.added targets known) (c.is_open.ensures targets known) w.if-is_open.true w.in_ok-add_below.ensures.added);
      }
      | else-is_open w ↦ record {
        grown = subst (Grows before) (sym w.self-is) kept.grown;
        added = λ targets known.
            subst (Adds (hangs_before g (covered targets) p (k + 1)) before) (sym w.self-is)
            (follows_covered g (covered targets) p k c.component-component.result.now c.component-component.ensures (kept.added targets known) (c.is_open.ensures targets known) w.if-is_open.false);
      }
    ]

pub returns-clause-added : goal.returns-clause-added
returns-clause-added c = λ targets known.
    let g = c.args.grammar.now in
    let all : c.loop-k.k ≡ length (components_of g c.args.class.0) = omega arith in
    follows_all g (is_covered (superclasses_of g) targets (option_map number_of_attribute c.args.first)) c.args.class.0 c.loop-k.k all (c.loop-k.invariant.added targets known)
