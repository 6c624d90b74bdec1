-- Which types fit, and what is common to two.
use Rattle.std.proofs.Common.{◌≡◌, ◌↔◌, inl, inr, ℕ, List, [], ◌∷◌, cond, Bool, true, false, Option, Some, None, refl, ap, sym, ◌∙◌, subst}
use Rattle.std.specs.List.{find}
use Rattle.std.specs.Option.{option_map}
use Rattle.superclasses.specs.Superclasses.{IsAbove, line_of, nearest_common, upwards, is_sub as is_below}
use Rattle.superclasses.proofs.Lines.{common_sub, line_steps, sub_above, sub_itself, sub_steps, sub_then}
use Rattle.ast_grammar.specs.declared.grammar.ClassId.{ClassId}
use Rattle.ast_grammar.specs.Grammar.{Class, IsGrammar, superclasses_of}
use Rattle.attr_rules.specs.declared.kinds.Kind.{Kind}
use Rattle.attr_rules.specs.declared.kinds.Kind.TheVariants as kinds
use Rattle.attr_rules.specs.declared.types.ValueType.{ValueType}
use Rattle.attr_rules.specs.declared.types.ValueType.TheVariants as types
use Rattle.attr_rules.specs.Types.{class_of_number, common, fits, is_int, is_node, is_set, is_text, is_texts, is_truth, nodes_of_number, of_class, of_nodes, type_where}
use Rattle.attr_scope.proofs.ItemsFound.{some_from}
use Rattle.typing_rules.specs.FittingRules as rules
use Rattle.typing_rules.specs.FittingRules.{Fits}

-- `fits` says what is said in words
module _ (g : List Class) where
  fits_itself : (k : Kind) → fits g (types.Of k) k ≡ true
  fits_itself kinds.Truth = refl
  fits_itself kinds.Int = refl
  fits_itself kinds.Text = refl
  fits_itself (kinds.Node c) = sub_itself (superclasses_of g) c.0
  fits_itself kinds.Texts = refl
  fits_itself (kinds.Nodes c) = sub_itself (superclasses_of g) c.0

  in_words : (t : ValueType) (k : Kind) → fits g t k ≡ true → Fits g t k
  in_words types.Null (kinds.Node d) e = rules.null d
  in_words types.Empty kinds.Texts e = rules.empty_texts
  in_words types.Empty (kinds.Nodes d) e = rules.empty_nodes d
  in_words (types.Of kinds.Truth) kinds.Truth e = rules.same kinds.Truth
  in_words (types.Of kinds.Int) kinds.Int e = rules.same kinds.Int
  in_words (types.Of kinds.Text) kinds.Text e = rules.same kinds.Text
  in_words (types.Of (kinds.Node c)) (kinds.Node d) e = rules.below c d ((sub_above (superclasses_of g) c.0 d.0).0 e)
  in_words (types.Of kinds.Texts) kinds.Texts e = rules.same kinds.Texts
  in_words (types.Of (kinds.Nodes c)) (kinds.Nodes d) e = rules.elements c d ((sub_above (superclasses_of g) c.0 d.0).0 e)
  in_words t k e = absurd (cc)

  from_words : (t : ValueType) (k : Kind) → Fits g t k → fits g t k ≡ true
  from_words t k (rules.same j) = fits_itself j
  from_words t k (rules.below c d h) = (sub_above (superclasses_of g) c.0 d.0).1 h
  from_words t k (rules.elements c d h) = (sub_above (superclasses_of g) c.0 d.0).1 h
  from_words t k (rules.null d) = refl
  from_words t k rules.empty_texts = refl
  from_words t k (rules.empty_nodes d) = refl

pub fits_exactly : (g : List Class) (t : ValueType) (k : Kind) → (fits g t k ≡ true) ↔ Fits g t k
fits_exactly g t k = (in_words g t k, from_words g t k)

-- the nearest common superclass is below each other one
module _ (s : List (Option ℕ)) (free : (i : ℕ) → IsAbove s i i → ⊥) (b k : ℕ) (below : is_below s b k ≡ true) where
  abbrev Line : List ℕ → ℕ → Type 0
  Line xs a = upwards s a ≡ xs

  -- a class of the line of which the second is not, has a superclass on it
  module _ (a : ℕ) (other : is_below s b a ≡ false) where
    not_here : a ≡ k → ⊥
    not_here same = let never : true ≡ false = sym below ∙ ap (is_below s b) (sym same) ∙ other in cc

    further_up : is_below s a k ≡ true → (c : ℕ) × (line_of s a ≡ upwards s c) × (is_below s c k ≡ true)
    further_up h = elim (sub_steps s a k h) [
      | inl same ↦ absurd (not_here same)
      | inr up ↦ (up.0, line_steps s free a up.0 up.1, up.2)
    ]

  found_below : (n : ℕ) (ys : List ℕ) (a : ℕ) → upwards s a ≡ ys → find (is_below s b) ys ≡ Some n → is_below s a k ≡ true → is_below s n k ≡ true
  found_below n [] a line e h = absurd (cc)
  found_below n (y ∷ ys) a line e h =
      let here : a ≡ y = cc in
      let rest : line_of s a ≡ ys = cc in
      elim (is_below s b a) as (λ t. is_below s b a ≡ t → is_below s n k ≡ true) [
        | true ↦ λ is.
            let same : a ≡ n = let found = ap (λ t. cond t (Some y) (find (is_below s b) ys)) (sym (ap (is_below s b) (sym here) ∙ is)) ∙ e in here ∙ (let x : y ≡ n = cc in x) in
            subst (λ m. is_below s m k ≡ true) same h
        | false ↦ λ is.
            let up = further_up a is h in
            let later = ap (λ t. cond t (Some y) (find (is_below s b) ys)) (sym (ap (is_below s b) (sym here) ∙ is)) ∙ e in
            found_below n ys up.0 (sym up.1 ∙ rest) later up.2
      ] refl

  never_none : (ys : List ℕ) (a : ℕ) → upwards s a ≡ ys → find (is_below s b) ys ≡ None → is_below s a k ≡ true → ⊥
  never_none [] a line e h = cc
  never_none (y ∷ ys) a line e h =
      let here : a ≡ y = cc in
      let rest : line_of s a ≡ ys = cc in
      elim (is_below s b a) as (λ t. is_below s b a ≡ t → ⊥) [
        | true ↦ λ is. let found = ap (λ t. cond t (Some y) (find (is_below s b) ys)) (sym (ap (is_below s b) (sym here) ∙ is)) ∙ e in cc
        | false ↦ λ is.
            let up = further_up a is h in
            let later = ap (λ t. cond t (Some y) (find (is_below s b) ys)) (sym (ap (is_below s b) (sym here) ∙ is)) ∙ e in
            never_none ys up.0 (sym up.1 ∙ rest) later up.2
      ] refl

where_is : (b : Bool) (u v : ValueType) → type_where b u ≡ Some v → (b ≡ true) × (u ≡ v)
where_is true u v e = (refl, cc)
where_is false u v e = absurd (cc)

nowhere : (b : Bool) (u : ValueType) → type_where b u ≡ None → b ≡ true → ⊥
nowhere true u e h = cc
nowhere false u e h = cc

none_mapped : {X Y : Type 0} (f : X → Y) (o : Option X) → option_map f o ≡ None → o ≡ None
none_mapped f None e = refl
none_mapped f (Some x) e = absurd (cc)

truth_is : (t : ValueType) → is_truth t ≡ true → types.Of kinds.Truth ≡ t
truth_is (types.Of kinds.Truth) e = refl
truth_is t e = absurd (cc)

int_is : (t : ValueType) → is_int t ≡ true → types.Of kinds.Int ≡ t
int_is (types.Of kinds.Int) e = refl
int_is t e = absurd (cc)

text_is : (t : ValueType) → is_text t ≡ true → types.Of kinds.Text ≡ t
text_is (types.Of kinds.Text) e = refl
text_is t e = absurd (cc)

module _ (g : List Class) where
  -- what a node fits, `null` does, and what a set fits, `empty`
  null_fits : (u : ValueType) (k : Kind) → is_node u ≡ true → fits g u k ≡ true → fits g types.Null k ≡ true
  null_fits types.Null k node e = e
  null_fits (types.Of (kinds.Node c)) (kinds.Node d) node e = refl
  null_fits u k node e = absurd (cc)

  empty_fits : (u : ValueType) (k : Kind) → is_set u ≡ true → fits g u k ≡ true → fits g types.Empty k ≡ true
  empty_fits types.Empty k set e = e
  empty_fits (types.Of kinds.Texts) kinds.Texts set e = refl
  empty_fits (types.Of (kinds.Nodes c)) (kinds.Nodes d) set e = refl
  empty_fits u k set e = absurd (cc)

  node_with : (u : ValueType) (k : Kind) → fits g types.Null k ≡ true → fits g u k ≡ true → is_node u ≡ true
  node_with types.Null k h e = refl
  node_with (types.Of (kinds.Node c)) k h e = refl
  node_with u (kinds.Node d) h e = absurd (cc)
  node_with u k h e = absurd (cc)

  set_with : (u : ValueType) (k : Kind) → fits g types.Empty k ≡ true → fits g u k ≡ true → is_set u ≡ true
  set_with types.Empty k h e = refl
  set_with (types.Of kinds.Texts) k h e = refl
  set_with (types.Of (kinds.Nodes c)) k h e = refl
  set_with u kinds.Texts h e = absurd (cc)
  set_with u (kinds.Nodes d) h e = absurd (cc)
  set_with u k h e = absurd (cc)

  abbrev IsLeast : ValueType → ValueType → ValueType → Kind → Type 0
  IsLeast t u v k = (fits g v k ≡ true) ↔ ((fits g t k ≡ true) × (fits g u k ≡ true))

  one_least : (t u v : ValueType) (k : Kind) → t ≡ u → u ≡ v → IsLeast t u v k
  one_least t u v k first second =
      ((λ h. (subst (λ x. fits g x k ≡ true) (sym (first ∙ second)) h, subst (λ x. fits g x k ≡ true) (sym second) h)), (λ h. subst (λ x. fits g x k ≡ true) second h.1))

  module _ (is_grammar : IsGrammar g) where
    abbrev above : List (Option ℕ)
    above = superclasses_of g

    node_least : (c d : ClassId) (n : ℕ) (k : Kind) → nearest_common above c.0 d.0 ≡ Some n → IsLeast (of_class c) (of_class d) (class_of_number n) k
    node_least c d n (kinds.Node e) near =
        let both = common_sub above c.0 d.0 n near in
        ((λ h. (sub_then above c.0 n e.0 both.0 h, sub_then above d.0 n e.0 both.1 h)), (λ h. found_below above is_grammar.acyclic d.0 e.0 h.1 n (upwards above c.0) c.0 refl near h.0))
    node_least c d n k near = ((λ h. absurd (cc)), (λ h. absurd (let never = h.0 in cc)))

    nodes_least : (c d : ClassId) (n : ℕ) (k : Kind) → nearest_common above c.0 d.0 ≡ Some n → IsLeast (of_nodes c) (of_nodes d) (nodes_of_number n) k
    nodes_least c d n (kinds.Nodes e) near =
        let both = common_sub above c.0 d.0 n near in
        ((λ h. (sub_then above c.0 n e.0 both.0 h, sub_then above d.0 n e.0 both.1 h)), (λ h. found_below above is_grammar.acyclic d.0 e.0 h.1 n (upwards above c.0) c.0 refl near h.0))
    nodes_least c d n k near = ((λ h. absurd (cc)), (λ h. absurd (let never = h.0 in cc)))

    least : (t u v : ValueType) (k : Kind) → common g t u ≡ Some v → IsLeast t u v k
    least types.Null u v k e =
        let is = where_is (is_node u) u v e in
        subst (λ x. IsLeast types.Null u x k) is.1 ((λ h. (null_fits u k is.0 h, h)), (λ h. h.1))
    least types.Empty u v k e =
        let is = where_is (is_set u) u v e in
        subst (λ x. IsLeast types.Empty u x k) is.1 ((λ h. (empty_fits u k is.0 h, h)), (λ h. h.1))
    least (types.Of kinds.Truth) u v k e = let is = where_is (is_truth u) u v e in one_least (types.Of kinds.Truth) u v k (truth_is u is.0) is.1
    least (types.Of kinds.Int) u v k e = let is = where_is (is_int u) u v e in one_least (types.Of kinds.Int) u v k (int_is u is.0) is.1
    least (types.Of kinds.Text) u v k e = let is = where_is (is_text u) u v e in one_least (types.Of kinds.Text) u v k (text_is u is.0) is.1
    least (types.Of kinds.Texts) types.Empty v k e =
        let is : types.Of kinds.Texts ≡ v = cc in
        subst (λ x. IsLeast (types.Of kinds.Texts) types.Empty x k) is ((λ h. (h, empty_fits (types.Of kinds.Texts) k refl h)), (λ h. h.0))
    least (types.Of kinds.Texts) (types.Of kinds.Texts) v k e = let is : types.Of kinds.Texts ≡ v = cc in one_least (types.Of kinds.Texts) (types.Of kinds.Texts) v k refl is
    least (types.Of (kinds.Node c)) types.Null v k e =
        let is : of_class c ≡ v = cc in
        subst (λ x. IsLeast (of_class c) types.Null x k) is ((λ h. (h, null_fits (of_class c) k refl h)), (λ h. h.0))
    least (types.Of (kinds.Node c)) (types.Of (kinds.Node d)) v k e =
        let found = some_from class_of_number (nearest_common above c.0 d.0) v e in
        subst (λ x. IsLeast (of_class c) (of_class d) x k) found.2 (node_least c d found.0 k found.1)
    least (types.Of (kinds.Nodes c)) types.Empty v k e =
        let is : of_nodes c ≡ v = cc in
        subst (λ x. IsLeast (of_nodes c) types.Empty x k) is ((λ h. (h, empty_fits (of_nodes c) k refl h)), (λ h. h.0))
    least (types.Of (kinds.Nodes c)) (types.Of (kinds.Nodes d)) v k e =
        let found = some_from nodes_of_number (nearest_common above c.0 d.0) v e in
        subst (λ x. IsLeast (of_nodes c) (of_nodes d) x k) found.2 (nodes_least c d found.0 k found.1)
    least t u v k e = absurd (cc)

    none_shared : (t u : ValueType) (k : Kind) → common g t u ≡ None → fits g t k ≡ true → fits g u k ≡ true → ⊥
    none_shared types.Null u k e h j = nowhere (is_node u) u e (node_with u k h j)
    none_shared types.Empty u k e h j = nowhere (is_set u) u e (set_with u k h j)
    none_shared (types.Of kinds.Truth) u kinds.Truth e h j = nowhere (is_truth u) u e j
    none_shared (types.Of kinds.Int) u kinds.Int e h j = nowhere (is_int u) u e j
    none_shared (types.Of kinds.Text) u kinds.Text e h j = nowhere (is_text u) u e j
    none_shared (types.Of kinds.Texts) u kinds.Texts e h j = nowhere (is_texts u) (types.Of kinds.Texts) e j
    none_shared (types.Of (kinds.Node c)) (types.Of (kinds.Node d)) (kinds.Node k) e h j =
        never_none above is_grammar.acyclic d.0 k.0 j (upwards above c.0) c.0 refl (none_mapped class_of_number (nearest_common above c.0 d.0) e) h
    none_shared (types.Of (kinds.Nodes c)) (types.Of (kinds.Nodes d)) (kinds.Nodes k) e h j =
        never_none above is_grammar.acyclic d.0 k.0 j (upwards above c.0) c.0 refl (none_mapped nodes_of_number (nearest_common above c.0 d.0) e) h
    none_shared (types.Of (kinds.Node c)) u (kinds.Node k) e h j = cc
    none_shared (types.Of (kinds.Nodes c)) u (kinds.Nodes k) e h j = cc
    none_shared t u k e h j = cc

pub common_least : (g : List Class) (t u v : ValueType) (k : Kind) → IsGrammar g → common g t u ≡ Some v → (fits g v k ≡ true) ↔ ((fits g t k ≡ true) × (fits g u k ≡ true))
common_least g t u v k is_grammar e = least g is_grammar t u v k e

pub common_none : (g : List Class) (t u : ValueType) (k : Kind) → IsGrammar g → common g t u ≡ None → fits g t k ≡ true → fits g u k ≡ true → ⊥
common_none g t u k is_grammar e h j = none_shared g is_grammar t u k e h j
