-- Which types fit which, in words.
use Rattle.ast_grammar.specs.declared.grammar.ClassId.{ClassId}
use Rattle.ast_grammar.specs.Grammar.{Class, IsSubclass}
use Rattle.std.specs.Prelude.{◌≡◌, true, List}
use Rattle.attr_rules.specs.declared.kinds.Kind.{Kind}
use Rattle.attr_rules.specs.declared.kinds.Kind.TheVariants as kinds
use Rattle.attr_rules.specs.declared.types.ValueType.{ValueType}
use Rattle.attr_rules.specs.declared.types.ValueType.TheVariants as types
use Rattle.attr_rules.specs.Types.{fits, of_class, of_nodes}

-- A type fits another where they are equal, where a class is the other or stands below it, where both are sets whose elements fit, where it is that
-- of `null` and the other a class, and where it is that of `empty` and the other a set.
pub data Fits : List Class → ValueType → Kind → Type 0 where
  same : {g : List Class} (k : Kind) → Fits g (types.Of k) k
  below : {g : List Class} (c d : ClassId) → IsSubclass g c.0 d.0 → Fits g (of_class c) (kinds.Node d)
  elements : {g : List Class} (c d : ClassId) → IsSubclass g c.0 d.0 → Fits g (of_nodes c) (kinds.Nodes d)
  null : {g : List Class} (d : ClassId) → Fits g types.Null (kinds.Node d)
  empty_texts : {g : List Class} → Fits g types.Empty kinds.Texts
  empty_nodes : {g : List Class} (d : ClassId) → Fits g types.Empty (kinds.Nodes d)

-- two types fit a third
abbrev pub BothFit : List Class → ValueType → ValueType → Kind → Type 0
BothFit g t u k = (fits g t k ≡ true) × (fits g u k ≡ true)
