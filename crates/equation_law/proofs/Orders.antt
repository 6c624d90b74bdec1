-- The values of a circular type are ordered, and have joins.
use Rattle.std.proofs.Common.{◌≡◌, refl, sym, ap, subst, ◌∙◌}
use Rattle.std.specs.Cmp.{IsTotalOrder}
use Rattle.std.specs.Cmp.Lexicographic.{nat_list_cmp_total, on_texts}
use Rattle.attr_rules.specs.declared.kinds.Kind.{Kind}
use Rattle.attr_rules.specs.declared.kinds.Kind.TheVariants as kinds
use Rattle.solutions.proofs.Runs.{or_left, or_right}
use Rattle.equation_law.specs.Names.{node_cmp, node_key}
use Rattle.equation_law.specs.Values.{Value, Truth, Texts, Nodes, truth, texts, nodes, as_kind, default_of}
use Rattle.equation_law.specs.Orders.{IsAtMost, FitsKind, join_of}
use Rattle.equation_law.proofs.Keys.{both_ways}
use Rattle.equation_law.proofs.Names.{code_anti, node_anti}
use Rattle.equation_law.proofs.Sets.{empty_part, or_least, part_union, part_union_right, same_parts, union_least}

-- any two nodes are in order
pub node_total : IsTotalOrder node_cmp
node_total = on_texts node_key

-- each value is at most itself
pub at_most_itself : (v : Value) → IsAtMost v v
at_most_itself v = record { in_truth = λ e. e; in_texts = λ q e. e; in_nodes = λ q e. e }

-- and at most what is at least one that is at least it
pub at_most_through : (u v w : Value) → IsAtMost u v → IsAtMost v w → IsAtMost u w
at_most_through u v w a b = record { in_truth = λ e. b.in_truth (a.in_truth e); in_texts = λ q e. b.in_texts q (a.in_texts q e); in_nodes = λ q e. b.in_nodes q (a.in_nodes q e) }

-- the default of a type is at most each value
pub default_least : (k : Kind) (w : Value) → IsAtMost (default_of k) w
default_least kinds.Truth w = record { in_truth = λ e. cc; in_texts = empty_part (texts w); in_nodes = empty_part (nodes w) }
default_least kinds.Int w = record { in_truth = λ e. cc; in_texts = empty_part (texts w); in_nodes = empty_part (nodes w) }
default_least kinds.Text w = record { in_truth = λ e. cc; in_texts = empty_part (texts w); in_nodes = empty_part (nodes w) }
default_least (kinds.Node c) w = record { in_truth = λ e. cc; in_texts = empty_part (texts w); in_nodes = empty_part (nodes w) }
default_least kinds.Texts w = record { in_truth = λ e. cc; in_texts = empty_part (texts w); in_nodes = empty_part (nodes w) }
default_least (kinds.Nodes c) w = record { in_truth = λ e. cc; in_texts = empty_part (texts w); in_nodes = empty_part (nodes w) }

-- a value of a type is itself, read at the type
pub fits_as : (k : Kind) (v : Value) → FitsKind k v → as_kind k v ≡ v
fits_as kinds.Truth v f = ap (as_kind kinds.Truth) f.1 ∙ sym f.1
fits_as kinds.Int v f = elim f [ ]
fits_as kinds.Text v f = elim f [ ]
fits_as (kinds.Node c) v f = elim f [ ]
fits_as kinds.Texts v f = ap (as_kind kinds.Texts) f.1 ∙ sym f.1
fits_as (kinds.Nodes c) v f = ap (as_kind (kinds.Nodes c)) f.1 ∙ sym f.1

-- two values that are at most each other read alike
read_alike : (k : Kind) (v w : Value) → FitsKind k v → IsAtMost v w → IsAtMost w v → as_kind k v ≡ as_kind k w
read_alike kinds.Truth v w f l m = ap Truth (both_ways (truth v) (truth w) l.in_truth m.in_truth)
read_alike kinds.Int v w f l m = elim f [ ]
read_alike kinds.Text v w f l m = elim f [ ]
read_alike (kinds.Node c) v w f l m = elim f [ ]
read_alike kinds.Texts v w f l m = ap Texts (same_parts nat_list_cmp_total code_anti (texts v) (texts w) l.in_texts m.in_texts)
read_alike (kinds.Nodes c) v w f l m = ap Nodes (same_parts node_total node_anti (nodes v) (nodes w) l.in_nodes m.in_nodes)

-- so they are equal
pub at_most_both : (k : Kind) (v w : Value) → FitsKind k v → FitsKind k w → IsAtMost v w → IsAtMost w v → v ≡ w
at_most_both k v w f g l m = sym (fits_as k v f) ∙ read_alike k v w f l m ∙ fits_as k w g

-- a value read at its type is at most a join with it, on the left and on the right
read_left : (k : Kind) (v w : Value) → FitsKind k v → IsAtMost (as_kind k v) (join_of k v w)
read_left kinds.Truth v w f = record { in_truth = or_left (truth v) (truth w); in_texts = λ q e. e; in_nodes = λ q e. e }
read_left kinds.Int v w f = elim f [ ]
read_left kinds.Text v w f = elim f [ ]
read_left (kinds.Node c) v w f = elim f [ ]
read_left kinds.Texts v w f = record { in_truth = λ e. e; in_texts = part_union nat_list_cmp_total (texts v) (texts w); in_nodes = λ q e. e }
read_left (kinds.Nodes c) v w f = record { in_truth = λ e. e; in_texts = λ q e. e; in_nodes = part_union node_total (nodes v) (nodes w) }

read_right : (k : Kind) (v w : Value) → FitsKind k w → IsAtMost (as_kind k w) (join_of k v w)
read_right kinds.Truth v w f = record { in_truth = or_right (truth v) (truth w); in_texts = λ q e. e; in_nodes = λ q e. e }
read_right kinds.Int v w f = elim f [ ]
read_right kinds.Text v w f = elim f [ ]
read_right (kinds.Node c) v w f = elim f [ ]
read_right kinds.Texts v w f = record { in_truth = λ e. e; in_texts = part_union_right nat_list_cmp_total (texts v) (texts w); in_nodes = λ q e. e }
read_right (kinds.Nodes c) v w f = record { in_truth = λ e. e; in_texts = λ q e. e; in_nodes = part_union_right node_total (nodes v) (nodes w) }

-- the value itself is
pub join_left : (k : Kind) (v w : Value) → FitsKind k v → IsAtMost v (join_of k v w)
join_left k v w f = subst (λ x. IsAtMost x (join_of k v w)) (fits_as k v f) (read_left k v w f)

pub join_right : (k : Kind) (v w : Value) → FitsKind k w → IsAtMost w (join_of k v w)
join_right k v w f = subst (λ x. IsAtMost x (join_of k v w)) (fits_as k w f) (read_right k v w f)

-- the join is the least such value
pub join_least : (k : Kind) (v w x : Value) → IsAtMost v x → IsAtMost w x → IsAtMost (join_of k v w) x
join_least kinds.Truth v w x l m = record { in_truth = or_least (truth v) (truth w) (truth x) l.in_truth m.in_truth; in_texts = empty_part (texts x); in_nodes = empty_part (nodes x) }
join_least kinds.Int v w x l m = l
join_least kinds.Text v w x l m = l
join_least (kinds.Node c) v w x l m = l
join_least kinds.Texts v w x l m = record { in_truth = λ e. cc; in_texts = union_least nat_list_cmp_total (texts v) (texts w) (texts x) l.in_texts m.in_texts; in_nodes = empty_part (nodes x) }
join_least (kinds.Nodes c) v w x l m = record { in_truth = λ e. cc; in_texts = empty_part (texts x); in_nodes = union_least node_total (nodes v) (nodes w) (nodes x) l.in_nodes m.in_nodes }

-- and of the type
pub join_fits : (k : Kind) (v w : Value) → FitsKind k v → FitsKind k w → FitsKind k (join_of k v w)
join_fits kinds.Truth v w f g = (_, refl)
join_fits kinds.Int v w f g = elim f [ ]
join_fits kinds.Text v w f g = elim f [ ]
join_fits (kinds.Node c) v w f g = elim f [ ]
join_fits kinds.Texts v w f g = (_, refl)
join_fits (kinds.Nodes c) v w f g = (_, refl)
