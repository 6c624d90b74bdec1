-- What a program makes is no larger than it may be.
use Rattle.std.proofs.Common.{◌≡◌, ℕ, Some, ap, slice_get, subst, arith}
use Rattle.ast_grammar.specs.declared.grammar.ClassId.{ClassId}
use Rattle.attr_rules.specs.declared.kinds.Kind.{Kind}
use Rattle.attr_rules.specs.declared.kinds.Sort.{Sort}
use Rattle.attr_rules.specs.declared.kinds.Sort.TheVariants.{Syn, Inh, Nta, Coll}
use Rattle.attr_rules.specs.Expression.{Expression}
use Rattle.attr_rules.specs.Rules.{Equation, IsBody, IsEquation, equation_number, names_for}
use Rattle.attr_rules.specs.Typing.{Names}
use Rattle.equation_law.specs.Checked.{IsProgram}
use Rattle.equation_law.specs.Created.{Making, making_in}
use Rattle.equation_law.specs.Names.{At, Null}
use Rattle.equation_law.specs.Program.{Program, class_at, equation_for, making_at}
use Rattle.equation_law.proofs.Above.{each_of, through}
use Rattle.equation_law.proofs.Typed.{no_making}
use Rattle.made_trees.specs.Makers.{AreSmall}
use Rattle.made_trees.specs.Stands.{IsSmall}

by_sort : (N : Names) (s : Sort) (k : Kind) (e : Expression) (m : Making) → IsBody N s k e → making_in e ≡ Some m → IsSmall m
by_sort N Syn k e m body is = absurd (let none = no_making body.typed in cc)
by_sort N Inh k e m body is = absurd (let none = no_making body.typed in cc)
by_sort N Nta k e m body is =
    let made : making_in e ≡ Some (record { class = body.class; arguments = body.arguments }) = ap making_in body.is in
    let one : record { class = body.class; arguments = body.arguments } ≡ m = cc in
    let nodes = body.nodes in
    subst IsSmall one (omega (arith, nodes), body.tokens)
by_sort N Coll k e m body is = absurd (let none = no_making body.typed in cc)

module _ (p : Program) (good : IsProgram p) where
  pub small_at : (a : ℕ) (c : ClassId) (m : Making) → making_at p a c ≡ Some m → IsSmall m
  small_at a c m is =
      let found = through (λ (e : Equation). making_in e.body) (equation_for p a c) m is in
      let number = through (slice_get p.rules.equations) (equation_number p.rules c a) found.0 found.1 in
      let allowed = each_of (IsEquation p.grammar p.rules.attributes) p.rules.equations number.0 found.0 good.rules.equations number.2 in
      by_sort (names_for p.grammar p.rules.attributes found.0.target.class found.0.target.reach allowed.attribute.params) allowed.attribute.sort allowed.attribute.kind found.0.body m allowed.body found.2

  pub trees_small : AreSmall p
  trees_small a Null m is = cc
  trees_small a (At n) m is = let class = through (making_at p a) (class_at p n) m is in small_at a class.0 m class.2
