use Rattle.std.proofs.Common.{◌≡◌, ℕ, arith, List, Bool, not, false, true, eqb, refl, sym, ap, subst, ◌∙◌}
use Rattle.std.proofs.lemmas.Bool.{eq-eqb, eqb-true}
use Rattle.std.specs.Ordering.{ordering_then}
use Rattle.std.specs.declared.cmp.Ordering.{Ordering}
use Rattle.attr_rules.specs.declared.kinds.Kind.{Kind}
use Rattle.attr_rules.specs.Types.{parameter_kinds}
use Rattle.equation_law.specs.Codes.{arguments_by, codes_in}
use Rattle.equation_law.specs.Systems.{program_of}
use Rattle.made_trees.specs.Made.{AreNamed}
use Rattle.made_trees.specs.Ordered.{LeadsTo, arguments_cmp}
use Rattle.made_trees.proofs.Ordered.{by_attributes, by_owners, by_parts}
use Rattle.made_trees.proofs.order.by_creation.Goals as goal

told_apart : (a b : ℕ) → true ≡ not (eqb a b) → a ≡ b → ⊥
told_apart a b e same = let one = eq-eqb a b same in cc

told_alike : (a b : ℕ) → false ≡ not (eqb a b) → a ≡ b
told_alike a b e = eqb-true a b (of (eqb a b) e)
  where
    of : (t : Bool) → false ≡ not t → t ≡ true
    of true e = refl
    of false e = cc

pub returns-then-ne : goal.returns-then-ne
returns-then-ne c n e names behind =
    let low = behind.owner in
    let falls = behind.falls in
    (by_owners (program_of c.args.system.now) n c.args.left c.args.right names (told_apart c.args.left.owner.0 c.args.right.owner.0 c.if-ne.ensures), omega (arith, low, falls))

pub returns-then-ne-2 : goal.returns-then-ne-2
returns-then-ne-2 c n e names behind =
    c.cmp.ensures
    ∙ by_attributes (program_of c.args.system.now) n c.args.left c.args.right (told_alike c.args.left.owner.0 c.args.right.owner.0 c.if-ne.ensures) (told_apart c.args.left.attr.0 c.args.right.attr.0 c.if-ne-2.ensures)

pub returns : goal.returns
returns c n e names behind =
    let p = program_of c.args.system.now in
    let ks = parameter_kinds c.parameters.result in
    let owner = told_alike c.args.left.owner.0 c.args.right.owner.0 c.if-ne.ensures in
    let attribute = told_alike c.args.left.attr.0 c.args.right.attr.0 c.if-ne-2.ensures in
    let order =
    ap (ordering_then (arguments_cmp (arguments_by n ks (codes_in c.args.left.args)) (arguments_by n ks (codes_in c.args.right.args)))) c.cmp-behind.ensures
    ∙ by_parts p n c.args.left c.args.right owner attribute ks c.parameters.ensures
    in
    let few = subst (λ (ts : List Kind). AreNamed behind.last ts (codes_in c.args.left.args)) (sym c.parameters.ensures) behind.arguments in
    subst (λ (o : Ordering). LeadsTo n e o c.by_arguments.result) order (c.by_arguments.ensures n e behind.last names few behind.falls)
