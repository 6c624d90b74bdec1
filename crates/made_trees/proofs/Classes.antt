-- The classes of the nodes of a tree that an attribute makes at nodes of a class.
use Rattle.std.proofs.Common.{◌≡◌, ℕ, [], Option, Some, None, IfSome, slice_get, arith, refl, sym, ap, ◌∙◌}
use Rattle.std.specs.Option.{option_and_then, option_map}
use Rattle.std.proofs.lemmas.Option.{slice_get_past}
use Rattle.ast_grammar.specs.declared.grammar.ClassId.{ClassId}
use Rattle.attr_rules.specs.declared.kinds.EqId.{EqId}
use Rattle.attr_rules.specs.Rules.{Equation, RuleSet, equation_number, number_of_equation}
use Rattle.tree_arena.specs.Nodes.{Node, class_in}
use Rattle.equation_law.specs.Checked.{IsProgram}
use Rattle.equation_law.specs.Created.{Making, making_in, tree_or_none}
use Rattle.equation_law.specs.Program.{Program, making_at}
use Rattle.made_trees.specs.declared.news.Stand.{Stand as FoundNode}
use Rattle.made_trees.specs.Makers.{making_by}
use Rattle.made_trees.specs.Stands.{IsSmall, Stand, stand_of, stands_or_none}
use Rattle.made_trees.proofs.Small.{small_at}
use Rattle.made_trees.proofs.Stands.{class_is}

module _ (p : Program) where
  -- the `new` of the equation that is found
  pub making_found : (r : RuleSet) (a : ℕ) (c : ClassId) (e : Option EqId) → r ≡ p.rules → option_map number_of_equation e ≡ equation_number r c a → making_at p a c ≡ making_by p e
  making_found r a c e same is =
      ap (λ (o : Option ℕ). option_and_then (λ (x : Equation). making_in x.body) (option_and_then (slice_get p.rules.equations) o)) (ap (λ (x : RuleSet). equation_number x c a) (sym same) ∙ sym is) ∙ of e
    where
      of : (e : Option EqId) → option_and_then (λ (x : Equation). making_in x.body) (option_and_then (slice_get p.rules.equations) (option_map number_of_equation e)) ≡ making_by p e
      of None = refl
      of (Some e) = refl

  pub small_found : IsProgram p → (a : ℕ) (c : ClassId) (o : Option Making) → making_at p a c ≡ o → IfSome o IsSmall
  small_found good a c None is = tt
  small_found good a c (Some m) is = small_at p good a c m is

-- the class of a node by where it stands
classes : (o : Option Making) (q : ℕ) → class_in (tree_or_none o) q ≡ option_map (λ (s : Stand). s.class) (slice_get (stands_or_none o) q)
classes None q = ap (option_map (λ (x : Node). x.class)) (slice_get_past {X = Node} [] q (omega arith)) ∙ sym (ap (option_map (λ (s : Stand). s.class)) (slice_get_past {X = Stand} [] q (omega arith)))
classes (Some m) q = class_is m q

pub class_found : (p : Program) (a q : ℕ) (c : ClassId) (m : Option Making) (o : Option FoundNode) → making_at p a c ≡ m → slice_get (stands_or_none m) q ≡ option_map stand_of o → option_map (λ (s : FoundNode). s.class) o ≡ class_in (tree_or_none (making_at p a c)) q
class_found p a q c m o is found = same o ∙ sym (ap (λ (x : Option Making). class_in (tree_or_none x) q) is ∙ classes m q ∙ ap (option_map (λ (s : Stand). s.class)) found)
  where
    same : (o : Option FoundNode) → option_map (λ (s : FoundNode). s.class) o ≡ option_map (λ (s : Stand). s.class) (option_map stand_of o)
    same None = refl
    same (Some s) = refl
