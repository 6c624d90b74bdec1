use Rattle.std.proofs.Common.{Option, ap, sym, subst, ◌∙◌}
use Rattle.equation_law.specs.Codes.{arguments_for, codes_in, reference_by}
use Rattle.equation_law.specs.Equations.{Site, site_of}
use Rattle.equation_law.specs.Names.{Attribute, Reference, made_by}
use Rattle.equation_law.specs.Program.{attribute_parameters}
use Rattle.equation_law.specs.Systems.{program_of}
use Rattle.equation_law.proofs.Grown.{codes_known}
use Rattle.inherited_walk.specs.Sites.{IsFound, reach_at}
use Rattle.inherited_walk.proofs.Climbing.{inherits_site, node_there, own_site}
use Rattle.inherited_walk.proofs.Known.{no_code, unbound_known}
use Rattle.inherited_walk.proofs.Walking.{synthesized_found}
use Rattle.inherited_walk.proofs.climb.find_equation.Goals as goal

pub returns-then-is_inherited-clause-found : goal.returns-then-is_inherited-clause-found
returns-then-is_inherited-clause-found g c =
    let p = program_of c.args.system.now in
    let a = c.args.attr.0 in
    record {
      kept = c.climb.ensures.found.kept;
      found = λ n is.
          let zs = arguments_for p n a c.args.args in
          let r = reference_by n.node c.args.node.0 in
          subst (λ (x : Option Site). IsFound p n a x c.climb.result) (sym (inherits_site p a zs r (sym c.if-is_inherited.true ∙ c.is_inherited.ensures))) (c.climb.ensures.found.found n is (made_by (Attribute a r zs) 0));
    }

pub returns-clause-found : goal.returns-clause-found
returns-clause-found g c =
    let p = program_of c.args.system.now in
    let a = c.args.attr.0 in
    record {
      kept = c.class_at.ensures.kept;
      found = λ n is.
          let zs = arguments_for p n a c.args.args in
          let at = node_there p (reference_by n.node c.args.node.0) c.in_ok-class.class (sym (c.class_at.ensures.class n is) ∙ c.in_ok-class.was) in
          let found = synthesized_found p n a c.args.args at.0 _ c.in_ok-equation.equation.0 c.args.node.0 c.in_ok-class.class c.none.result c.none.ensures.codes at.1 at.2 c.rules.ensures c.in_ok-equation.ensures.number c.in_ok-equation.ensures.within in
          (found.0, ap (λ (x : Reference). site_of p (Attribute a x zs)) at.1 ∙ own_site p a zs at.0 (sym c.if-is_inherited.false ∙ c.is_inherited.ensures) ∙ found.1, found.2);
    }

pub returns-clause-known : goal.returns-clause-known
returns-clause-known g c =
    let p = program_of c.args.system.now in
    let kept = c.class_at.ensures.kept in
    let reach = reach_at p c.in_ok-equation.equation.0 in
    record {
      node = kept.known c.args.node.0 c.requires.known.0;
      inner = codes_known kept (attribute_parameters p c.args.attr.0) (codes_in c.args.args) c.requires.known.1;
      outer = unbound_known p (g.R.Reader.tells c.class_at.new.reader) reach c.none.result (no_code reach c.none.result c.none.ensures.codes);
    }
