use Rattle.std.proofs.Common.{◌≡◌, ◌∙◌, ◌<◌, None, Some, ap, arith, length, sym, subst}
use Rattle.attr_rules.specs.Rules.{RuleSet, root_at}
use Rattle.equation_law.specs.Equations.{root_over}
use Rattle.equation_law.specs.Systems.{program_of}
use Rattle.equation_law.proofs.Grown.{grows_itself}
use Rattle.collection_attrs.proofs.Found.{attribute_known, node_is}
use Rattle.collection_attrs.proofs.Grown.{naming_of}
use Rattle.collection_attrs.proofs.Rooted.{offers_from, root_first}
use Rattle.collection_attrs.proofs.collectors.root_of.Goals as goal

pub root-requires : goal.root-requires
root-requires g c = subst (λ (r : RuleSet). c.args.of.attr.0 < length r.attributes) (sym c.rules.ensures) (attribute_known (program_of c.args.system.now) c.requires.collection.1)

pub returns-in_default : goal.returns-in_default
returns-in_default g c =
    let p = program_of c.args.system.now in
    let a = c.args.of.attr.0 in
    let root : root_at p.rules a ≡ None = ap (λ (r : RuleSet). root_at r a) (sym c.rules.ensures) ∙ sym c.root.ensures ∙ c.in_default.is in
    let long : length c.tree.result.now ≡ length p.tree = ap length c.tree.ensures in
    record {
      kept = grows_itself c.requires.sound;
      within = omega (arith, long, c.len.ensures.number, c.len.ensures.some);
      offers = λ x is names in_it.
          let by = is names (naming_of c.requires.sound names in_it) in
          offers_from p c.args.of root (ap (root_over p None) (node_is p by) ∙ root_first p (x names).node) by;
    }

pub returns : goal.returns
returns g c =
    let p = program_of c.args.system.now in
    let a = c.args.of.attr.0 in
    let root : root_at p.rules a ≡ Some c.in-Some.class = ap (λ (r : RuleSet). root_at r a) (sym c.rules.ensures) ∙ sym c.root.ensures ∙ c.in-Some.is in
    let found = c.climb.ensures in
    record {
      kept = found.kept;
      within = found.within;
      offers = λ x is names in_it. offers_from p c.args.of root (sym (found.root names in_it)) (is names (naming_of found.kept.sound names in_it));
    }
