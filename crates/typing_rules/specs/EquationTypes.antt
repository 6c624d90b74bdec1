-- Equations whose right sides are well typed, and aspects that are accepted.
use Rattle.std.specs.Prelude.{◌≡◌, ◌↔◌, All, List, [], Some}
use Rattle.ast_grammar.specs.Grammar.{Class}
use Rattle.attr_rules.specs.declared.kinds.Attr.{Attr}
use Rattle.attr_rules.specs.declared.kinds.Kind.{Kind}
use Rattle.attr_rules.specs.declared.kinds.Sort.{Sort}
use Rattle.attr_rules.specs.declared.kinds.Sort.TheVariants.{Syn, Inh, Nta, Coll}
use Rattle.attr_rules.specs.Rules.{Attribute, declared_at}
use Rattle.aspect_items.specs.Expressions.{Expr}
use Rattle.aspect_items.specs.Items.{Item}
use Rattle.attr_scope.specs.Scope.{Scope}
use Rattle.attr_scope.specs.Written.{Given, contributions, declarations, givens}
use Rattle.attr_heads.specs.Contributions.{contributions_broken}
use Rattle.attr_heads.specs.Heads.{attributes_of, heads_broken}
use Rattle.attr_heads.specs.Targets.{target_given, targets_broken, targets_of}
use Rattle.attr_coverage.specs.Completeness.{complete_broken, places_of, roots_of}
use Rattle.attr_types.specs.Phases.{equations_broken, scope_of}
use Rattle.typing_rules.specs.ContributionTypes.{AreWellTyped}
use Rattle.typing_rules.specs.CreatedTypes.{IsCreated}
use Rattle.typing_rules.specs.TypeRules.{IsOf}

-- the right side of an equation of an attribute of this sort fits a type: that of a higher-order one makes a tree, and the others are of a type by the
-- rules
abbrev pub FitsBySort : Sort → Scope → Kind → Expr → Type 0
FitsBySort Syn = IsOf
FitsBySort Inh = IsOf
FitsBySort Nta = IsCreated
FitsBySort Coll = IsOf

-- An equation is for an attribute, whose type its right side fits.
pub record IsWellTyped (g : List Class) (attributes : List Attribute) (e : Given) : Type 0 where
  pub attribute : Attr
  pub declared : declared_at attributes (target_given g attributes e).attribute.0 ≡ Some attribute
  pub body : FitsBySort attribute.sort (scope_of g attributes e (target_given g attributes e)) attribute.kind e.body

-- equations that are each for an attribute
abbrev pub HaveTargets : List Class → List Attribute → List Given → Type 0
HaveTargets g attributes list = targets_broken g attributes list ≡ []

-- they break no rule on expressions exactly where all of them are well typed
abbrev pub EquationsExactly : List Class → List Attribute → List Given → Type 0
EquationsExactly g attributes list = (equations_broken g attributes list ≡ []) ↔ All (IsWellTyped g attributes) list

-- Items whose declarations break nothing, whose equations are each for an attribute and whose contributions each for a collection, whose attributes
-- have their equations, and of which the right sides and the expressions of contributions are well typed.
pub record IsAccepted (g : List Class) (items : List Item) : Type 0 where
  pub heads : heads_broken g (declarations items) ≡ []
  pub targets : targets_broken g (attributes_of g (declarations items)) (givens items) ≡ []
  pub collections : contributions_broken g (attributes_of g (declarations items)) (contributions items) ≡ []
  pub complete : complete_broken g (attributes_of g (declarations items)) (targets_of g (attributes_of g (declarations items)) (givens items))
      (roots_of g (givens items)) (places_of (declarations items)) ≡ []
  pub bodies : All (IsWellTyped g (attributes_of g (declarations items))) (givens items)
  pub offered : All (AreWellTyped g (attributes_of g (declarations items))) (contributions items)
