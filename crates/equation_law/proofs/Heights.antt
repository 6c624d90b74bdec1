-- The height of a value of a circular type: how many elements it has.
use Rattle.std.proofs.Common.{◌≡◌, ℕ, ◌≤◌, Bool, true, false, List, length, refl, sym, ap, ◌∙◌, arith}
use Rattle.std.specs.declared.cmp.Ordering.{Ordering}
use Rattle.std.specs.List.{list_any}
use Rattle.std.specs.Ordering.{eq_by_cmp}
use Rattle.std.specs.Cmp.{IsTotalOrder}
use Rattle.std.specs.Cmp.Lexicographic.{nat_list_cmp_total}
use Rattle.std.specs.FinMap.{IsAntisymmetric, contains_key-keys}
use Rattle.attr_rules.specs.declared.kinds.Kind.{Kind}
use Rattle.attr_rules.specs.declared.kinds.Kind.TheVariants as kinds
use Rattle.solutions.specs.Rising.{Part, none, keep, skip}
use Rattle.equation_law.specs.Sets.{SetBy, elements, IsPart}
use Rattle.equation_law.specs.Values.{Value, Truth, Texts, Nodes, truth, texts, nodes, as_kind}
use Rattle.equation_law.specs.Orders.{IsAtMost, FitsKind}
use Rattle.equation_law.proofs.Names.{code_anti, node_anti}
use Rattle.equation_law.proofs.Orders.{fits_as, node_total}
use Rattle.equation_law.proofs.Sets.{part_elements, same_parts}

-- a part of a list is no longer than the list
part_length : {K : Type 0} (xs ys : List K) → Part xs ys → length xs ≤ length ys
part_length _ _ none = omega arith
part_length _ _ (keep {ds = xs} {es = ys} p) = let r = part_length xs ys p in omega arith
part_length _ _ (skip {ds = xs} {es = ys} p) = let r = part_length xs ys p in omega arith

-- and is the list, where it is as long
part_same : {K : Type 0} (xs ys : List K) → Part xs ys → length xs ≡ length ys → xs ≡ ys
part_same _ _ none e = refl
part_same _ _ (keep {ds = xs} {es = ys} p) e = let r = part_same xs ys p (omega arith) in cc
part_same _ _ (skip {ds = xs} {es = ys} p) e = let r = part_length xs ys p in absurd (omega arith)

module _ {K : Type 0} {R : K → K → Ordering} (o : IsTotalOrder R) (anti : IsAntisymmetric R) where
  -- a part has no more elements
  pub set_length : (s t : SetBy R) → IsPart s t → length (elements s) ≤ length (elements t)
  set_length s t p = part_length (elements s) (elements t) (part_elements o anti s t p)

  -- and with as many it is the whole
  set_same : (s t : SetBy R) → IsPart s t → length (elements s) ≡ length (elements t) → t ≡ s
  set_same s t p e =
      let q = part_same (elements s) (elements t) (part_elements o anti s t p) e in
      same_parts o anti t s (λ x h. contains_key-keys s x ∙ ap (list_any (eq_by_cmp R x)) q ∙ sym (contains_key-keys t x) ∙ h) p

-- the number of elements that a truth value counts for
abbrev truth_height : Bool → ℕ
truth_height true = 1
truth_height false = 0

-- how high a value of a type is
abbrev pub height_of : Kind → Value → ℕ
height_of kinds.Truth v = truth_height (truth v)
height_of kinds.Int v = 0
height_of kinds.Text v = 0
height_of (kinds.Node c) v = 0
height_of kinds.Texts v = length (elements (texts v))
height_of (kinds.Nodes c) v = length (elements (nodes v))

-- a greater truth value is no lower
truth_grows : (a b : Bool) → (a ≡ true → b ≡ true) → truth_height a ≤ truth_height b
truth_grows true true f = omega arith
truth_grows true false f = let e = f refl in cc
truth_grows false true f = omega arith
truth_grows false false f = omega arith

-- and is the same, where it is as high
truth_strict : (a b : Bool) → truth_height a ≡ truth_height b → b ≡ a
truth_strict true true e = refl
truth_strict true false e = absurd (omega arith)
truth_strict false true e = absurd (omega arith)
truth_strict false false e = refl

-- the greater value is no lower
pub height_grows : (k : Kind) (v w : Value) → IsAtMost v w → height_of k v ≤ height_of k w
height_grows kinds.Truth v w l = truth_grows (truth v) (truth w) l.in_truth
height_grows kinds.Int v w l = omega arith
height_grows kinds.Text v w l = omega arith
height_grows (kinds.Node c) v w l = omega arith
height_grows kinds.Texts v w l = set_length nat_list_cmp_total code_anti (texts v) (texts w) l.in_texts
height_grows (kinds.Nodes c) v w l = set_length node_total node_anti (nodes v) (nodes w) l.in_nodes

-- and reads alike, where it is as high
read_strict : (k : Kind) (v w : Value) → FitsKind k v → IsAtMost v w → height_of k v ≡ height_of k w → as_kind k w ≡ as_kind k v
read_strict kinds.Truth v w f l e = ap Truth (truth_strict (truth v) (truth w) e)
read_strict kinds.Int v w f l e = elim f [ ]
read_strict kinds.Text v w f l e = elim f [ ]
read_strict (kinds.Node c) v w f l e = elim f [ ]
read_strict kinds.Texts v w f l e = ap Texts (set_same nat_list_cmp_total code_anti (texts v) (texts w) l.in_texts e)
read_strict (kinds.Nodes c) v w f l e = ap Nodes (set_same node_total node_anti (nodes v) (nodes w) l.in_nodes e)

-- so it is the same value
pub height_strict : (k : Kind) (v w : Value) → FitsKind k v → FitsKind k w → IsAtMost v w → height_of k v ≡ height_of k w → w ≡ v
height_strict k v w f g l e = sym (fits_as k w g) ∙ read_strict k v w f l e ∙ fits_as k v f
