-- The order of the values of one circular type, and their joins.
use Rattle.std.specs.Prelude.{◌≡◌, Bool, true, ◌||◌}
use Rattle.attr_rules.specs.declared.kinds.Kind.{Kind}
use Rattle.attr_rules.specs.declared.kinds.Kind.TheVariants as kinds
use Rattle.equation_law.specs.Names.{node_cmp, text_cmp}
use Rattle.equation_law.specs.Sets.{SetBy, IsPart, union}
use Rattle.equation_law.specs.Values.{Value, Truth, Texts, Nodes, truth, texts, nodes}

-- false is below true, and sets are ordered by inclusion; all else counts as the bottom
pub record IsAtMost (v w : Value) : Type 0 where
  pub in_truth : truth v ≡ true → truth w ≡ true
  pub in_texts : IsPart (texts v) (texts w)
  pub in_nodes : IsPart (nodes v) (nodes w)

-- the least value that is at least both
abbrev pub join_of : Kind → Value → Value → Value
join_of kinds.Truth v w = Truth (truth v || truth w)
join_of kinds.Int v w = v
join_of kinds.Text v w = v
join_of (kinds.Node c) v w = v
join_of kinds.Texts v w = Texts (union (texts v) (texts w))
join_of (kinds.Nodes c) v w = Nodes (union (nodes v) (nodes w))

-- a value that a circular instance of this type may have
abbrev pub FitsKind : Kind → Value → Type 0
FitsKind kinds.Truth v = (b : Bool) × (v ≡ Truth b)
FitsKind kinds.Int v = ⊥
FitsKind kinds.Text v = ⊥
FitsKind (kinds.Node c) v = ⊥
FitsKind kinds.Texts v = (s : SetBy text_cmp) × (v ≡ Texts s)
FitsKind (kinds.Nodes c) v = (s : SetBy node_cmp) × (v ≡ Nodes s)
