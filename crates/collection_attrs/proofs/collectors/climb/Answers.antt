use Rattle.std.proofs.Common.{◌≡◌, ◌∙◌, ◌<◌, ◌≤◌, ℕ, true, false, IfSome, List, Option, Some, None, ap, arith, is_some, length, subst, sym}
use Rattle.std.proofs.lemmas.Bool.{ltb-false, ltb-true}
use Rattle.ast_grammar.specs.Grammar.{Class, is_sub}
use Rattle.tree_arena.specs.Nodes.{most_nodes}
use Rattle.tree_arena.specs.Terms.{IsTree}
use Rattle.equation_law.specs.Codes.{reference_by}
use Rattle.equation_law.specs.Equations.{root_over}
use Rattle.equation_law.specs.Reading.{Told, class_behind, code_above}
use Rattle.equation_law.specs.Systems.{program_of}
use Rattle.equation_law.proofs.Above.{tree_falls}
use Rattle.equation_law.proofs.Grown.{grows_on}
use Rattle.collection_attrs.proofs.Rooted.{root_classless, root_higher, root_made}
use Rattle.collection_attrs.proofs.Stepping.{few_nodes}
use Rattle.collection_attrs.proofs.collectors.climb.Goals as goal

-- what stands above is lower, and a reader that grows tells no more than before
lower : {S : Type 0} (q r s : Told S) (m k j : ℕ) → s.height j < r.height m → r.height m ≤ q.height m → k ≡ j → s.height k < q.height m
lower q r s m k j falls grown e = let same = ap s.height e in omega (arith, falls, grown, same)

pub source_root-requires : goal.source_root-requires
source_root-requires g c = ltb-false most_nodes c.upwards.at.0 (sym c.is_made.ensures ∙ c.upwards-test.false)

pub returns-in_err-own : goal.returns-in_err-own
returns-in_err-own g c =
    let p = program_of c.args.system.now in
    let i = c.upwards.invariant in
    let own = c.class_at.ensures in
    let long : length c.tree.result.now ≡ length p.tree = ap length c.tree.ensures in
    let some : 0 < length p.tree = omega (arith, long, c.len.ensures.number, c.len.ensures.some) in
    let falls = tree_falls p.tree (subst IsTree c.tree.ensures c.len.ensures.tree) in
    record {
      kept = grows_on i.kept own.kept;
      within = subst (λ (o : Option ℕ). IfSome o (λ k. k < length p.tree)) (sym c.from_residual.ensures) tt;
      root = λ names in_it.
          let none : root_over p (Some c.args.class) (reference_by names.node c.args.node.0) ≡ None =
          i.same names (own.kept.names names in_it) ∙ root_classless p c.args.class falls some (reference_by names.node c.upwards.at.0) (sym (own.class names in_it) ∙ c.in_err-own.was)
          in
          c.from_residual.ensures ∙ sym none;
    }

pub returns-then-is_sub : goal.returns-then-is_sub
returns-then-is_sub g c =
    let p = program_of c.args.system.now in
    let i = c.upwards.invariant in
    let own = c.class_at.ensures in
    let few = few_nodes p c.tree.ensures c.len.ensures.number c.len.ensures.few in
    let far : most_nodes < c.upwards.at.0 = ltb-true most_nodes c.upwards.at.0 (sym c.is_made.ensures ∙ c.upwards-test.true) in
    let on : is_sub p.grammar c.in_ok-own.own.0 c.args.class.0 ≡ true = ap (λ (g : List Class). is_sub g c.in_ok-own.own.0 c.args.class.0) (sym c.grammar.ensures) ∙ sym c.is_sub.ensures.flag ∙ c.if-is_sub.true in
    record {
      kept = grows_on i.kept own.kept;
      within = tt;
      root = λ names in_it.
          let of : class_behind p (reference_by names.node c.upwards.at.0) ≡ Some c.in_ok-own.own = sym (own.class names in_it) ∙ c.in_ok-own.was in
          let none : root_over p (Some c.args.class) (reference_by names.node c.args.node.0) ≡ None =
          i.same names (own.kept.names names in_it) ∙ root_made p c.args.class few (own.kept.sound.named names in_it) c.upwards.at.0 far c.in_ok-own.own of on
          in
          sym none;
    }

pub upwards-smaller : goal.upwards-smaller
upwards-smaller g c =
    let p = program_of c.args.system.now in
    let own = c.class_at.ensures in
    let far : most_nodes < c.upwards.at.0 = ltb-true most_nodes c.upwards.at.0 (sym c.is_made.ensures ∙ c.upwards-test.true) in
    let falls = c.made_up.ensures.falls p own.kept.sound far in
    lower (g.R.Reader.tells c.upwards.reader) (g.R.Reader.tells c.class_at.new.reader) (g.R.Reader.tells c.made_up.new.self) c.upwards.at.0 c.node_above-at.result.0 (code_above c.made_up.result) falls (own.kept.heights c.upwards.at.0) c.node_above-at.ensures

pub upwards-preserved : goal.upwards-preserved
upwards-preserved g c =
    let p = program_of c.args.system.now in
    let i = c.upwards.invariant in
    let own = c.class_at.ensures in
    let few = few_nodes p c.tree.ensures c.len.ensures.number c.len.ensures.few in
    let far : most_nodes < c.upwards.at.0 = ltb-true most_nodes c.upwards.at.0 (sym c.is_made.ensures ∙ c.upwards-test.true) in
    let off : is_sub p.grammar c.in_ok-own.own.0 c.args.class.0 ≡ false = ap (λ (g : List Class). is_sub g c.in_ok-own.own.0 c.args.class.0) (sym c.grammar.ensures) ∙ sym c.is_sub.ensures.flag ∙ c.if-is_sub.false in
    let kept = c.made_up.ensures.kept p own.kept.sound in
    record {
      kept = grows_on i.kept (grows_on own.kept kept);
      same = λ names in_it.
          let before = kept.names names in_it in
          let of : class_behind p (reference_by names.node c.upwards.at.0) ≡ Some c.in_ok-own.own = sym (own.class names before) ∙ c.in_ok-own.was in
          let high = c.made_up.ensures.answer p own.kept.sound far (own.kept.known c.upwards.at.0 i.known) names in_it (ap is_some of) in
          i.same names (own.kept.names names before)
          ∙ root_higher p c.args.class few (kept.sound.named names in_it) c.upwards.at.0 far c.in_ok-own.own of off c.made_up.result high
          ∙ ap (λ k. root_over p (Some c.args.class) (reference_by names.node k)) (sym c.node_above-at.ensures);
      known = subst (g.R.Reader.tells c.made_up.new.self).knows (sym c.node_above-at.ensures) (c.made_up.ensures.known p own.kept.sound far (own.kept.known c.upwards.at.0 i.known));
    }

pub returns : goal.returns
returns g c =
    let p = program_of c.args.system.now in
    let i = c.upwards.invariant in
    record {
      kept = i.kept;
      within = c.source_root.ensures.within;
      root = λ names in_it. c.source_root.ensures.found names (i.kept.sound.named names in_it) ∙ sym (i.same names in_it);
    }
