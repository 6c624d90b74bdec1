use Rattle.std.proofs.Common.{◌≤◌, Option, IsSome, ap, is_some, refl, sym, subst, ◌∙◌}
use Rattle.std.proofs.lemmas.Bool.{ltb-false}
use Rattle.std.proofs.lemmas.Option.{IfSome_then}
use Rattle.tree_arena.specs.Nodes.{most_nodes}
use Rattle.equation_law.specs.Codes.{arguments_for, codes_in, reference_by}
use Rattle.equation_law.specs.Equations.{Site}
use Rattle.equation_law.specs.Program.{attribute_parameters}
use Rattle.equation_law.specs.Reading.{class_behind}
use Rattle.equation_law.specs.Systems.{program_of}
use Rattle.equation_law.proofs.Codes.{null_by}
use Rattle.equation_law.proofs.Grown.{codes_known, grows_on}
use Rattle.inherited_walk.specs.Climbing.{inherited_at}
use Rattle.inherited_walk.specs.Sites.{IsFound}
use Rattle.inherited_walk.proofs.Classes.{source_is}
use Rattle.inherited_walk.proofs.Climbing.{further, nearest, none_inherited, nowhere}
use Rattle.inherited_walk.proofs.Known.{source_known}
use Rattle.inherited_walk.proofs.climb.climb.Goals as goal

pub returns-in_err-class_at-clause-found : goal.returns-in_err-class_at-clause-found
returns-in_err-class_at-clause-found g c =
    let p = program_of c.args.system.now in
    let grows = c.class_at.ensures.kept in
    record {
      kept = grows_on c.loop-at.invariant.kept grows;
      found = λ n is root.
          let zs = arguments_for p n c.args.attr.0 c.args.args in
          nowhere p n c.args.attr.0 c.from_residual.result c.from_residual.ensures (c.loop-at.invariant.same n (grows.names n is) root) (none_inherited p c.args.attr.0 zs root (reference_by n.node c.loop-at.at.0) (sym (c.class_at.ensures.class n is) ∙ c.in_err-class_at.was));
    }

pub returns-then-is_some-clause-found : goal.returns-then-is_some-clause-found
returns-then-is_some-clause-found g c =
    let p = program_of c.args.system.now in
    let class = c.class_at.ensures in
    let higher = c.above-higher.ensures.higher in
    let site = c.above-higher.result.site in
    record {
      kept = grows_on c.loop-at.invariant.kept (grows_on class.kept higher.kept);
      found = λ n is root.
          let before = higher.kept.names n is in
          let there : IsSome (class_behind p (reference_by n.node c.loop-at.at.0)) = ap is_some (sym (class.class n before) ∙ c.in_ok-class_at.was) in
          let up = higher.found n is there (arguments_for p n c.args.attr.0 c.args.args) root in
          subst (λ (x : Option Site). IsFound p n c.args.attr.0 x site) (sym (c.loop-at.invariant.same n (class.kept.names n before) root)) (nearest p n c.args.attr.0 site _ _ up.0 up.1 (up.2 refl) (sym c.is_some.ensures ∙ c.if-is_some.true));
    }

pub loop-at-preserved : goal.loop-at-preserved
loop-at-preserved g c =
    let p = program_of c.args.system.now in
    let class = c.class_at.ensures in
    let higher = c.above-higher.ensures.higher in
    let site = c.above-higher.result.site in
    record {
      kept = grows_on c.loop-at.invariant.kept (grows_on class.kept higher.kept);
      same = λ n is root.
          let before = higher.kept.names n is in
          let there : IsSome (class_behind p (reference_by n.node c.loop-at.at.0)) = ap is_some (sym (class.class n before) ∙ c.in_ok-class_at.was) in
          let up = higher.found n is there (arguments_for p n c.args.attr.0 c.args.args) root in
          c.loop-at.invariant.same n (class.kept.names n before) root ∙ further p n c.args.attr.0 site _ _ up.0 up.1 (up.2 refl) (sym c.is_some.ensures ∙ c.if-is_some.false);
      reached = higher.above;
    }

pub returns-in_err-source-clause-found : goal.returns-in_err-source-clause-found
returns-in_err-source-clause-found g c =
    let p = program_of c.args.system.now in
    record {
      kept = c.loop-at.invariant.kept;
      found = λ n is root.
          let zs = arguments_for p n c.args.attr.0 c.args.args in
          let null = null_by n.node c.loop-at.at.0 c.in_err-source.ensures in
          nowhere p n c.args.attr.0 c.from_residual-in_err-source.result c.from_residual-in_err-source.ensures (c.loop-at.invariant.same n is root) (ap (inherited_at p c.args.attr.0 zs root) null);
    }

pub returns-clause-found : goal.returns-clause-found
returns-clause-found g c =
    let p = program_of c.args.system.now in
    let low : c.loop-at.at.0 ≤ most_nodes = ltb-false most_nodes c.loop-at.at.0 (sym c.is_made.ensures ∙ c.loop-at-test.false) in
    record {
      kept = c.loop-at.invariant.kept;
      found = λ n is root.
          let zs = arguments_for p n c.args.attr.0 c.args.args in
          let named = c.loop-at.invariant.kept.sound.named n is in
          let source = source_is named c.in_ok-source.field-0 c.loop-at.at.0 low c.in_ok-source.ensures in
          subst (λ (x : Option Site). IsFound p n c.args.attr.0 x c.inherited.result) (sym (c.loop-at.invariant.same n is root ∙ ap (inherited_at p c.args.attr.0 zs root) source)) (c.inherited.ensures.found root n named);
    }

pub class_at-requires-clause-known : goal.class_at-requires-clause-known
class_at-requires-clause-known g c = c.loop-at.invariant.reached

pub above-higher-requires-clause-known : goal.above-higher-requires-clause-known
above-higher-requires-clause-known g c = c.class_at.ensures.kept.known c.loop-at.at.0 c.loop-at.invariant.reached

pub returns-then-is_some-clause-known : goal.returns-then-is_some-clause-known
returns-then-is_some-clause-known g c =
    let p = program_of c.args.system.now in
    let class = c.class_at.ensures in
    let higher = c.above-higher.ensures.higher in
    let by = higher.kept.sound.some in
    let there : IsSome (class_behind p (reference_by by.0.node c.loop-at.at.0)) = ap is_some (sym (class.class by.0 (higher.kept.names by.0 by.1)) ∙ c.in_ok-class_at.was) in
    higher.known by.0 by.1 there (codes_known (grows_on c.loop-at.invariant.kept (grows_on class.kept higher.kept)) (attribute_parameters p c.args.attr.0) (codes_in c.args.args) c.requires.known.1)

pub returns-clause-known : goal.returns-clause-known
returns-clause-known g c =
    let p = program_of c.args.system.now in
    let kept = c.loop-at.invariant.kept in
    let given = codes_known kept (attribute_parameters p c.args.attr.0) (codes_in c.args.args) c.requires.known.1 in
    IfSome_then c.inherited.result c.inherited.ensures.source (source_known p (g.R.Reader.tells c.loop-at.reader) kept.sound c.args.attr.0 given)
