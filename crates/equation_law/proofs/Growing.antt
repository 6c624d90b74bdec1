-- A rising expression rises: where the values of circular instances grow, it demands no less, and its value grows.
use Rattle.std.proofs.Common.{◌≡◌, ℕ, Bool, true, false, not, cond, ◌&&◌, ◌||◌, List, [], ◌∷◌, map, refl, sym, ap, subst, ◌∙◌}
use Rattle.std.specs.declared.cmp.Ordering.{Ordering}
use Rattle.std.specs.Cmp.{IsTotalOrder}
use Rattle.std.specs.Cmp.Lexicographic.{nat_list_cmp_total}
use Rattle.std.specs.FinMap.{IsAntisymmetric}
use Rattle.ast_grammar.specs.declared.grammar.ClassId.{ClassId}
use Rattle.attr_rules.specs.declared.expression.SetOperator.TheVariants.{Union, Inter, Minus}
use Rattle.attr_rules.specs.declared.kinds.Kind.{Kind}
use Rattle.attr_rules.specs.declared.kinds.Kind.TheVariants as kinds
use Rattle.attr_rules.specs.Expression.{Expression, Arguments, no_more, argument, NewArguments, Truth as TruthLiteral, Int as IntLiteral, Text as TextLiteral, Null as NullLiteral, Empty, This, Variable, Source as SourceNode, Child, Element, Count, Has, Token, Call, Cast, InstanceOf, Quantified, QuantifiedSet, Each, EachOfSet, Sets, Single, Contains, Size, Not, Negate, Binary, And, Or, OrBoth, If, New}
use Rattle.attr_rules.specs.Rising.{IsRising, has_call, have_call, is_bottom, tokens_call}
use Rattle.attr_rules.specs.Rising as rising
use Rattle.attr_rules.proofs.Permitted.{neither}
use Rattle.solutions.specs.Asking.{Demands, Gives, Needs, next}
use Rattle.solutions.specs.Rising.{Part, none, keep, skip, Rise, leaves, fixed, grows, more}
use Rattle.solutions.proofs.Composing.{IsPlain, plain_rise, rise_after, rise_next, rise_same}
use Rattle.solutions.proofs.Runs.{and_true, or_left, or_right}
use Rattle.equation_law.specs.Meaning.{World, Place, at_each, call_at, elements_at, meaning_of, united, with_arguments, with_name, with_tokens}
use Rattle.equation_law.specs.Names.{Argument, At, Attribute, Instance, Null, Reference, node_cmp, text_cmp}
use Rattle.equation_law.specs.Orders.{IsAtMost}
use Rattle.equation_law.specs.Sets.{SetBy, IsPart, elements, has, inter, minus, no_elements, union}
use Rattle.equation_law.specs.Values.{Value, Truth, Int, Text, Node, Texts, Nodes, Tree, as_arguments, as_kind, contains, default_of, elements_of, has_node, node, nodes, of_node, set_operate, text, texts, truth}
use Rattle.equation_law.proofs.Names.{code_anti, node_anti}
use Rattle.equation_law.proofs.Orders.{at_most_itself, default_least, node_total}
use Rattle.equation_law.proofs.Quiet.{AreTokensPlain, quiet_plain, quiet_tokens}
use Rattle.equation_law.proofs.Sets.{has-inter, has-minus, none_has, or_least, part_elements, part_nil, part_union, part_union_right, union_least}
use Rattle.equation_law.proofs.SetsOrder.{elements_none}

-- truth values
truth_below : (a b : Bool) → (a ≡ true → b ≡ true) → IsAtMost (Truth a) (Truth b)
truth_below a b f = record { in_truth = f; in_texts = λ q e. e; in_nodes = λ q e. e }

and_both : (a b : Bool) → a ≡ true → b ≡ true → (a && b) ≡ true
and_both true b e f = f
and_both false b e f = cc

and_mono : (a b c d : Bool) → (a ≡ true → c ≡ true) → (b ≡ true → d ≡ true) → (a && b) ≡ true → (c && d) ≡ true
and_mono a b c d f g e = let h = and_true a b e in and_both c d (f h.0) (g h.1)

or_mono : (a b c d : Bool) → (a ≡ true → c ≡ true) → (b ≡ true → d ≡ true) → (a || b) ≡ true → (c || d) ≡ true
or_mono a b c d f g e = or_least a b (c || d) (λ h. or_left c d (f h)) (λ h. or_right c d (g h)) e

-- sets
texts_below : (s t : SetBy text_cmp) → IsPart s t → IsAtMost (Texts s) (Texts t)
texts_below s t f = record { in_truth = λ e. e; in_texts = f; in_nodes = λ q e. e }

nodes_below : (s t : SetBy node_cmp) → IsPart s t → IsAtMost (Nodes s) (Nodes t)
nodes_below s t f = record { in_truth = λ e. e; in_texts = λ q e. e; in_nodes = f }

module _ {K : Type 0} {R : K → K → Ordering} (o : IsTotalOrder R) where
  union_part : (s t x y : SetBy R) → IsPart s t → IsPart x y → IsPart (union s x) (union t y)
  union_part s t x y f g = union_least o s x (union t y) (λ q e. part_union o t y q (f q e)) (λ q e. part_union_right o t y q (g q e))

  module _ (same : IsAntisymmetric R) where
    inter_part : (s t x y : SetBy R) → IsPart s t → IsPart x y → IsPart (inter s x) (inter t y)
    inter_part s t x y f g q e =
        let h = and_true (has s q) (has x q) (sym (has-inter o same s x q) ∙ e) in
        has-inter o same t y q ∙ and_both (has t q) (has y q) (f q h.0) (g q h.1)

    minus_part : (s t x : SetBy R) → IsPart s t → IsPart (minus s x) (minus t x)
    minus_part s t x f q e =
        let h = and_true (has s q) (not (has x q)) (sym (has-minus o same s x q) ∙ e) in
        has-minus o same t x q ∙ and_both (has t q) (not (has x q)) (f q h.0) h.1

-- a value read at a type
pub kind_below : (k : Kind) (v w : Value) → IsAtMost v w → IsAtMost (as_kind k v) (as_kind k w)
kind_below kinds.Truth v w l = truth_below (truth v) (truth w) l.in_truth
kind_below kinds.Int v w l = record { in_truth = λ e. e; in_texts = λ q e. e; in_nodes = λ q e. e }
kind_below kinds.Text v w l = record { in_truth = λ e. e; in_texts = λ q e. e; in_nodes = λ q e. e }
kind_below (kinds.Node c) v w l = record { in_truth = λ e. e; in_texts = λ q e. e; in_nodes = λ q e. e }
kind_below kinds.Texts v w l = texts_below (texts v) (texts w) l.in_texts
kind_below (kinds.Nodes c) v w l = nodes_below (nodes v) (nodes w) l.in_nodes

-- what is made of two sets
union_below : (t : Kind) (v w x y : Value) → IsAtMost v w → IsAtMost x y → IsAtMost (set_operate Union t v x) (set_operate Union t w y)
union_below kinds.Truth v w x y l m = at_most_itself _
union_below kinds.Int v w x y l m = at_most_itself _
union_below kinds.Text v w x y l m = at_most_itself _
union_below (kinds.Node c) v w x y l m = at_most_itself _
union_below kinds.Texts v w x y l m = texts_below _ _ (union_part nat_list_cmp_total (texts v) (texts w) (texts x) (texts y) l.in_texts m.in_texts)
union_below (kinds.Nodes c) v w x y l m = nodes_below _ _ (union_part node_total (nodes v) (nodes w) (nodes x) (nodes y) l.in_nodes m.in_nodes)

inter_below : (t : Kind) (v w x y : Value) → IsAtMost v w → IsAtMost x y → IsAtMost (set_operate Inter t v x) (set_operate Inter t w y)
inter_below kinds.Truth v w x y l m = at_most_itself _
inter_below kinds.Int v w x y l m = at_most_itself _
inter_below kinds.Text v w x y l m = at_most_itself _
inter_below (kinds.Node c) v w x y l m = at_most_itself _
inter_below kinds.Texts v w x y l m = texts_below _ _ (inter_part nat_list_cmp_total code_anti (texts v) (texts w) (texts x) (texts y) l.in_texts m.in_texts)
inter_below (kinds.Nodes c) v w x y l m = nodes_below _ _ (inter_part node_total node_anti (nodes v) (nodes w) (nodes x) (nodes y) l.in_nodes m.in_nodes)

minus_below : (t : Kind) (v w x : Value) → IsAtMost v w → IsAtMost (set_operate Minus t v x) (set_operate Minus t w x)
minus_below kinds.Truth v w x l = at_most_itself _
minus_below kinds.Int v w x l = at_most_itself _
minus_below kinds.Text v w x l = at_most_itself _
minus_below (kinds.Node c) v w x l = at_most_itself _
minus_below kinds.Texts v w x l = texts_below _ _ (minus_part nat_list_cmp_total code_anti (texts v) (texts w) (texts x) l.in_texts)
minus_below (kinds.Nodes c) v w x l = nodes_below _ _ (minus_part node_total node_anti (nodes v) (nodes w) (nodes x) l.in_nodes)

-- whether a set has an element
text_in : (w : Value) (q : List ℕ) → has (texts w) q ≡ true → (x : Value) → text x ≡ q → contains w x ≡ true
text_in (Truth b) q h x e = absurd (none_has text_cmp q h)
text_in (Int z) q h x e = absurd (none_has text_cmp q h)
text_in (Text t) q h x e = absurd (none_has text_cmp q h)
text_in (Node r) q h x e = absurd (none_has text_cmp q h)
text_in (Texts s) q h x e = ap (has s) e ∙ h
text_in (Nodes s) q h x e = absurd (none_has text_cmp q h)
text_in (Tree m ts) q h x e = absurd (none_has text_cmp q h)

never : (r : Reference) → has_node no_elements r ≡ true → ⊥
never Null g = cc
never (At n) g = none_has node_cmp n g

node_in : (w : Value) (r : Reference) → has_node (nodes w) r ≡ true → (x : Value) → node x ≡ r → contains w x ≡ true
node_in (Truth b) r h x e = absurd (never r h)
node_in (Int z) r h x e = absurd (never r h)
node_in (Text t) r h x e = absurd (never r h)
node_in (Node m) r h x e = absurd (never r h)
node_in (Texts s) r h x e = absurd (never r h)
node_in (Nodes s) r h x e = ap (has_node s) e ∙ h
node_in (Tree m ts) r h x e = absurd (never r h)

part_node : (s t : SetBy node_cmp) → IsPart s t → (r : Reference) → has_node s r ≡ true → has_node t r ≡ true
part_node s t f Null h = h
part_node s t f (At n) h = f n h

contains_below : (v w x : Value) → IsAtMost v w → contains v x ≡ true → contains w x ≡ true
contains_below (Truth b) w x l e = cc
contains_below (Int z) w x l e = cc
contains_below (Text t) w x l e = cc
contains_below (Node r) w x l e = cc
contains_below (Texts s) w x l e = text_in w (text x) (l.in_texts (text x) e) x refl
contains_below (Nodes s) w x l e = node_in w (node x) (part_node s (nodes w) l.in_nodes (node x) e) x refl
contains_below (Tree r ts) w x l e = cc

-- the elements of a greater set are those of the smaller one and others, in the same order
part_itself : {K : Type 0} (xs : List K) → Part xs xs
part_itself [] = none
part_itself (x ∷ xs) = keep (part_itself xs)

part_map : {K L : Type 0} (f : K → L) {xs ys : List K} → Part xs ys → Part (map f xs) (map f ys)
part_map f none = none
part_map f (keep p) = keep (part_map f p)
part_map f (skip p) = skip (part_map f p)

nothing_part : {K : Type 0} (xs ys : List K) → Part xs [] → Part xs ys
nothing_part [] ys p = part_nil ys
nothing_part (x ∷ xs) ys p = elim p [ ]

texts_part : (s : SetBy text_cmp) (w : Value) → IsPart s (texts w) → Part (map Text (elements s)) (elements_of w)
texts_part s w f = by w (part_elements nat_list_cmp_total code_anti s (texts w) f)
  where
    by : (x : Value) → Part (elements s) (elements (texts x)) → Part (map Text (elements s)) (elements_of x)
    by (Truth b) p = nothing_part _ _ (part_map Text (subst (Part (elements s)) (elements_none text_cmp) p))
    by (Int z) p = nothing_part _ _ (part_map Text (subst (Part (elements s)) (elements_none text_cmp) p))
    by (Text t) p = nothing_part _ _ (part_map Text (subst (Part (elements s)) (elements_none text_cmp) p))
    by (Node r) p = nothing_part _ _ (part_map Text (subst (Part (elements s)) (elements_none text_cmp) p))
    by (Texts t) p = part_map Text p
    by (Nodes t) p = nothing_part _ _ (part_map Text (subst (Part (elements s)) (elements_none text_cmp) p))
    by (Tree r ts) p = nothing_part _ _ (part_map Text (subst (Part (elements s)) (elements_none text_cmp) p))

nodes_part : (s : SetBy node_cmp) (w : Value) → IsPart s (nodes w) → Part (map of_node (elements s)) (elements_of w)
nodes_part s w f = by w (part_elements node_total node_anti s (nodes w) f)
  where
    by : (x : Value) → Part (elements s) (elements (nodes x)) → Part (map of_node (elements s)) (elements_of x)
    by (Truth b) p = nothing_part _ _ (part_map of_node (subst (Part (elements s)) (elements_none node_cmp) p))
    by (Int z) p = nothing_part _ _ (part_map of_node (subst (Part (elements s)) (elements_none node_cmp) p))
    by (Text t) p = nothing_part _ _ (part_map of_node (subst (Part (elements s)) (elements_none node_cmp) p))
    by (Node r) p = nothing_part _ _ (part_map of_node (subst (Part (elements s)) (elements_none node_cmp) p))
    by (Texts t) p = nothing_part _ _ (part_map of_node (subst (Part (elements s)) (elements_none node_cmp) p))
    by (Nodes t) p = part_map of_node p
    by (Tree r ts) p = nothing_part _ _ (part_map of_node (subst (Part (elements s)) (elements_none node_cmp) p))

elements_part : (v w : Value) → IsAtMost v w → Part (elements_of v) (elements_of w)
elements_part (Truth b) w l = part_nil _
elements_part (Int z) w l = part_nil _
elements_part (Text t) w l = part_nil _
elements_part (Node r) w l = part_nil _
elements_part (Texts s) w l = texts_part s w l.in_texts
elements_part (Nodes s) w l = nodes_part s w l.in_nodes
elements_part (Tree r ts) w l = part_nil _

-- the order of the values of instances
abbrev pub order : Instance → Value → Value → Type 0
order i v w = IsAtMost v w

module _ (W : World) (circular : Instance → Bool) (declared : ℕ → Bool) (free : (a : ℕ) (r : Reference) (xs : List Argument) → declared a ≡ false → circular (Attribute a r xs) ≡ false) (tokens : AreTokensPlain W circular) where
  abbrev Up : Demands Instance Value → Demands Instance Value → Type 0
  Up c d = Rise circular order IsAtMost c d

  weaken : {R Q : Value → Value → Type 0} {c d : Demands Instance Value} → ((v w : Value) → R v w → Q v w) → Rise circular order R c d → Rise circular order Q c d
  weaken f (leaves {v = v} {w = w} l) = leaves (f v w l)
  weaken f (fixed c r) = fixed c (λ v. weaken f (r v))
  weaken f (grows c r) = grows c (λ v w l. weaken f (r v w l))
  weaken f (more r) = more (λ w. weaken f (r w))

  plain_up : (c : Demands Instance Value) → IsPlain circular c → Up c c
  plain_up c p = weaken (λ v w e. subst (IsAtMost v) e (at_most_itself v)) (plain_rise circular order c p)

  up_next : (c d : Demands Instance Value) (k h : Value → Demands Instance Value) → Up c d → ((v w : Value) → IsAtMost v w → Up (k v) (h w)) → Up (next c k) (next d h)
  up_next c d k h r g = rise_next k h r g

  up_same : (c : Demands Instance Value) (k h : Value → Demands Instance Value) → IsPlain circular c → ((v : Value) → Up (k v) (h v)) → Up (next c k) (next c h)
  up_same c k h p g = rise_same c k h p g

  -- the least value is at most what anything comes to
  from_least : (v : Value) → ((w : Value) → IsAtMost v w) → (d : Demands Instance Value) → Up (Gives v) d
  from_least v f (Gives w) = leaves (f w)
  from_least v f (Needs j k) = more (λ w. from_least v f (k w))

  bottom_up : (b : Expression) → is_bottom b ≡ true → (p : Place) (d : Demands Instance Value) → Up (meaning_of W b p) d
  bottom_up (TruthLiteral true) e p d = cc
  bottom_up (TruthLiteral false) e p d = from_least (Truth false) (default_least kinds.Truth) d
  bottom_up (IntLiteral z) e p d = cc
  bottom_up (TextLiteral n) e p d = cc
  bottom_up NullLiteral e p d = cc
  bottom_up Empty e p d = from_least (Nodes no_elements) (default_least (kinds.Nodes (record { 0 = 0 }))) d
  bottom_up This e p d = cc
  bottom_up (Variable k) e p d = cc
  bottom_up (SourceNode k) e p d = cc
  bottom_up (Child k r) e p d = cc
  bottom_up (Element k r i) e p d = cc
  bottom_up (Count k r) e p d = cc
  bottom_up (Has k r) e p d = cc
  bottom_up (Token t k r) e p d = cc
  bottom_up (Call a at r es) e p d = cc
  bottom_up (Cast c r) e p d = cc
  bottom_up (InstanceOf c r) e p d = cc
  bottom_up (Quantified q k r b) e p d = cc
  bottom_up (QuantifiedSet q r b) e p d = cc
  bottom_up (Each t k r b) e p d = cc
  bottom_up (EachOfSet t r b) e p d = cc
  bottom_up (Sets o t a b) e p d = cc
  bottom_up (Single r) e p d = cc
  bottom_up (Contains a b) e p d = cc
  bottom_up (Size r) e p d = cc
  bottom_up (Not r) e p d = cc
  bottom_up (Negate r) e p d = cc
  bottom_up (Binary o a b) e p d = cc
  bottom_up (And a b) e p d = cc
  bottom_up (Or a b) e p d = cc
  bottom_up (OrBoth a b) e p d = cc
  bottom_up (If c a at b) e p d = cc
  bottom_up (New c parts) e p d = cc

  -- a test that may become true, and one that stays
  up_test : (a b : Bool) (x y u v : Demands Instance Value) → (a ≡ true → b ≡ true) → Up x u → Up y u → Up y v → Up (cond a x y) (cond b u v)
  up_test true true x y u v f g h i = g
  up_test true false x y u v f g h i = let e = f refl in cc
  up_test false true x y u v f g h i = h
  up_test false false x y u v f g h i = i

  up_cond : (a : Bool) (x y : Demands Instance Value) → Up x x → Up y y → Up (cond a x y) (cond a x y)
  up_cond true x y g h = g
  up_cond false x y g h = h

  -- the call of an attribute, circular or not
  up_call : (a : ℕ) (r : Reference) (vs : List Value) → Up (call_at W a r vs) (call_at W a r vs)
  up_call a Null vs = leaves (at_most_itself _)
  up_call a (At n) vs =
      let i = Attribute a (At n) (as_arguments (W.parameters a) vs) in
      elim (circular i) as (λ b. circular i ≡ b → Up (call_at W a (At n) vs) (call_at W a (At n) vs)) [
        | true ↦ λ c. grows c (λ v w l. leaves (kind_below (W.kind a) v w l))
        | false ↦ λ c. fixed c (λ v. leaves (at_most_itself _))
      ] refl

  up_arguments : (es : Arguments) → have_call declared es ≡ false → (p : Place) (go : List Value → Demands Instance Value) → ((vs : List Value) → Up (go vs) (go vs)) → Up (with_arguments W es p go) (with_arguments W es p go)
  up_arguments no_more q p go g = g []
  up_arguments (argument e es) q p go g =
      let n = neither (has_call declared e) (have_call declared es) q in
      up_same (meaning_of W e p) _ _ (quiet_plain W circular declared free tokens e n.0 p) (λ v. up_arguments es n.1 p (λ vs. go (v ∷ vs)) (λ vs. g (v ∷ vs)))

  -- the truth value of a side
  up_truth : (c : Demands Instance Value) → Up c c → Up (next c (λ w. Gives (Truth (truth w)))) (next c (λ w. Gives (Truth (truth w))))
  up_truth c r = up_next c c _ _ r (λ v w l. leaves (truth_below (truth v) (truth w) l.in_truth))

  module _ (b : Value → Demands Instance Value) (up : (x : Value) → Up (b x) (b x)) where
    abbrev either : Bool → List Value → Demands Instance Value
    either so_far xs = at_each (λ a c. a || c) so_far xs b

    abbrev each_of : Bool → List Value → Demands Instance Value
    each_of so_far xs = at_each (λ a c. a && c) so_far xs b

    -- a condition at some element, over elements to which others come
    up_any : (s t : Bool) → (s ≡ true → t ≡ true) → {xs ys : List Value} → Part xs ys → Up (either s xs) (either t ys)
    up_any s t f none = leaves (truth_below s t f)
    up_any s t f (keep {j = x} {ds = xs} {es = ys} p) = up_next (b x) (b x) (λ v. either (s || truth v) xs) (λ w. either (t || truth w) ys) (up x) (λ v w l. up_any (s || truth v) (t || truth w) (or_mono s (truth v) t (truth w) f l.in_truth) p)
    up_any s t f (skip {j = x} {ds = xs} {es = ys} p) = rise_after (b x) (λ w. either (t || truth w) ys) (λ w. up_any s (t || truth w) (λ e. or_left t (truth w) (f e)) p)

    -- at each element
    up_all : (s t : Bool) → (s ≡ true → t ≡ true) → (xs : List Value) → Up (each_of s xs) (each_of t xs)
    up_all s t f [] = leaves (truth_below s t f)
    up_all s t f (x ∷ xs) = up_next (b x) (b x) (λ v. each_of (s && truth v) xs) (λ w. each_of (t && truth w) xs) (up x) (λ v w l. up_all (s && truth v) (t && truth w) (and_mono s (truth v) t (truth w) f l.in_truth) xs)

    -- a union
    up_texts : (s t : SetBy text_cmp) → IsPart s t → {xs ys : List Value} → Part xs ys → Up (united kinds.Texts (Texts s) xs b) (united kinds.Texts (Texts t) ys b)
    up_texts s t f none = leaves (texts_below s t f)
    up_texts s t f (keep {j = x} {ds = xs} {es = ys} p) =
        up_next (b x) (b x) (λ v. united kinds.Texts (Texts (union s (texts v))) xs b) (λ w. united kinds.Texts (Texts (union t (texts w))) ys b) (up x) (λ v w l. up_texts (union s (texts v)) (union t (texts w)) (union_part nat_list_cmp_total s t (texts v) (texts w) f l.in_texts) p)
    up_texts s t f (skip {j = x} {ds = xs} {es = ys} p) = rise_after (b x) (λ w. united kinds.Texts (Texts (union t (texts w))) ys b) (λ w. up_texts s (union t (texts w)) (λ q e. part_union nat_list_cmp_total t (texts w) q (f q e)) p)

    up_nodes : (c : ClassId) (s t : SetBy node_cmp) → IsPart s t → {xs ys : List Value} → Part xs ys → Up (united (kinds.Nodes c) (Nodes s) xs b) (united (kinds.Nodes c) (Nodes t) ys b)
    up_nodes c s t f none = leaves (nodes_below s t f)
    up_nodes c s t f (keep {j = x} {ds = xs} {es = ys} p) =
        up_next (b x) (b x) (λ v. united (kinds.Nodes c) (Nodes (union s (nodes v))) xs b) (λ w. united (kinds.Nodes c) (Nodes (union t (nodes w))) ys b) (up x) (λ v w l. up_nodes c (union s (nodes v)) (union t (nodes w)) (union_part node_total s t (nodes v) (nodes w) f l.in_nodes) p)
    up_nodes c s t f (skip {j = x} {ds = xs} {es = ys} p) = rise_after (b x) (λ w. united (kinds.Nodes c) (Nodes (union t (nodes w))) ys b) (λ w. up_nodes c s (union t (nodes w)) (λ q e. part_union node_total t (nodes w) q (f q e)) p)

    -- at a type without unions
    up_default : (t : Kind) → ((v w : Value) → set_operate Union t v w ≡ default_of t) → {xs ys : List Value} → Part xs ys → Up (united t (default_of t) xs b) (united t (default_of t) ys b)
    up_default t same none = leaves (at_most_itself _)
    up_default t same (keep {j = x} {ds = xs} {es = ys} p) =
        let z = default_of t in
        up_next (b x) (b x) (λ v. united t (set_operate Union t z v) xs b) (λ w. united t (set_operate Union t z w) ys b) (up x)
        (λ v w l. subst (λ (y : Value). Up (united t y xs b) (united t (set_operate Union t z w) ys b)) (sym (same z v)) (subst (λ (y : Value). Up (united t z xs b) (united t y ys b)) (sym (same z w)) (up_default t same p)))
    up_default t same (skip {j = x} {ds = xs} {es = ys} p) =
        let z = default_of t in
        rise_after (b x) (λ w. united t (set_operate Union t z w) ys b) (λ w. subst (λ (y : Value). Up (united t z xs b) (united t y ys b)) (sym (same z w)) (up_default t same p))

    up_united : (t : Kind) {xs ys : List Value} → Part xs ys → Up (united t (default_of t) xs b) (united t (default_of t) ys b)
    up_united kinds.Truth p = up_default kinds.Truth (λ v w. refl) p
    up_united kinds.Int p = up_default kinds.Int (λ v w. refl) p
    up_united kinds.Text p = up_default kinds.Text (λ v w. refl) p
    up_united (kinds.Node c) p = up_default (kinds.Node c) (λ v w. refl) p
    up_united kinds.Texts p = up_texts no_elements no_elements (λ q e. e) p
    up_united (kinds.Nodes c) p = up_nodes c no_elements no_elements (λ q e. e) p

  abbrev Meaning : Expression → Place → Demands Instance Value
  Meaning e p = meaning_of W e p

  quiet : (e : Expression) → has_call declared e ≡ false → (p : Place) → IsPlain circular (Meaning e p)
  quiet e q p = quiet_plain W circular declared free tokens e q p

  -- each rising expression
  pub rises : {e : Expression} → IsRising declared e → (p : Place) → Up (Meaning e p) (Meaning e p)
  rises (rising.without {e = e} q) p = plain_up (Meaning e p) (quiet e q p)
  rises (rising.call {e = e} {es = es} a at q s) p = up_same (Meaning e p) _ _ (quiet e q p) (λ r. up_arguments es s p (λ vs. call_at W a (node r) vs) (λ vs. up_call a (node r) vs))
  rises (rising.and {a = a} {b = b} r s) p =
      up_next (Meaning a p) (Meaning a p) _ _ (rises r p)
      (λ v w l. up_test (truth v) (truth w) _ _ _ _ l.in_truth (up_truth (Meaning b p) (rises s p)) (from_least (Truth false) (default_least kinds.Truth) _) (leaves (at_most_itself _)))
  rises (rising.or {a = a} {b = b} q s) p = up_same (Meaning a p) _ _ (quiet a q p) (λ v. up_cond (truth v) _ _ (leaves (at_most_itself _)) (up_truth (Meaning b p) (rises s p)))
  rises (rising.or_both {a = a} {b = b} r s) p =
      up_next (Meaning a p) (Meaning a p) _ _ (rises r p) (λ v w l. up_next (Meaning b p) (Meaning b p) _ _ (rises s p) (λ x y m. leaves (truth_below _ _ (or_mono (truth v) (truth x) (truth w) (truth y) l.in_truth m.in_truth))))
  rises (rising.choice {c = c} {a = a} {b = b} at q r s f) p =
      elim (has_call declared c) as (λ x. has_call declared c ≡ x → Up (Meaning (If c a at b) p) (Meaning (If c a at b) p)) [
        | true ↦ λ h. up_next (Meaning c p) (Meaning c p) _ _ (rises q p) (λ v w l. up_test (truth v) (truth w) _ _ _ _ l.in_truth (rises r p) (bottom_up b (f h) p _) (bottom_up b (f h) p _))
        | false ↦ λ h. up_same (Meaning c p) _ _ (quiet c h p) (λ v. up_cond (truth v) _ _ (rises r p) (rises s p))
      ] refl
  rises (rising.any {e = e} {b = b} k q r) p = up_same (Meaning e p) _ _ (quiet e q p) (λ v. up_any (λ x. Meaning b (with_name p x)) (λ x. rises r (with_name p x)) false false (λ h. h) (part_itself (elements_at W k (node v))))
  rises (rising.all {e = e} {b = b} k q r) p = up_same (Meaning e p) _ _ (quiet e q p) (λ v. up_all (λ x. Meaning b (with_name p x)) (λ x. rises r (with_name p x)) true true (λ h. h) (elements_at W k (node v)))
  rises (rising.any_of_set {e = e} {b = b} q r) p =
      up_next (Meaning e p) (Meaning e p) _ _ (rises q p) (λ v w l. up_any (λ x. Meaning b (with_name p x)) (λ x. rises r (with_name p x)) false false (λ h. h) (elements_part v w l))
  rises (rising.all_of_set {e = e} {b = b} q r) p = up_same (Meaning e p) _ _ (quiet e q p) (λ v. up_all (λ x. Meaning b (with_name p x)) (λ x. rises r (with_name p x)) true true (λ h. h) (elements_of v))
  rises (rising.each {e = e} {b = b} t k q r) p = up_same (Meaning e p) _ _ (quiet e q p) (λ v. up_united (λ x. Meaning b (with_name p x)) (λ x. rises r (with_name p x)) t (part_itself (elements_at W k (node v))))
  rises (rising.each_of_set {e = e} {b = b} t q r) p = up_next (Meaning e p) (Meaning e p) _ _ (rises q p) (λ v w l. up_united (λ x. Meaning b (with_name p x)) (λ x. rises r (with_name p x)) t (elements_part v w l))
  rises (rising.union {a = a} {b = b} t r s) p =
      up_next (Meaning a p) (Meaning a p) _ _ (rises r p) (λ v w l. up_next (Meaning b p) (Meaning b p) _ _ (rises s p) (λ x y m. leaves (union_below t v w x y l m)))
  rises (rising.inter {a = a} {b = b} t r s) p =
      up_next (Meaning a p) (Meaning a p) _ _ (rises r p) (λ v w l. up_next (Meaning b p) (Meaning b p) _ _ (rises s p) (λ x y m. leaves (inter_below t v w x y l m)))
  rises (rising.minus {a = a} {b = b} t r q) p = up_next (Meaning a p) (Meaning a p) _ _ (rises r p) (λ v w l. up_same (Meaning b p) _ _ (quiet b q p) (λ x. leaves (minus_below t v w x l)))
  rises (rising.contains {a = a} {b = b} r q) p =
      up_next (Meaning a p) (Meaning a p) _ _ (rises r p) (λ v w l. up_same (Meaning b p) _ _ (quiet b q p) (λ x. leaves (truth_below _ _ (contains_below v w x l))))

  -- a `new` whose tokens call nothing that counts
  pub rising_tokens : (parts : NewArguments) → tokens_call declared parts ≡ false → (p : Place) (value : List Argument → Value) → Up (with_tokens W parts p (λ ts. Gives (value ts))) (with_tokens W parts p (λ ts. Gives (value ts)))
  rising_tokens parts q p value = plain_up (with_tokens W parts p (λ ts. Gives (value ts))) (quiet_tokens W circular declared free tokens parts q p (λ ts. Gives (value ts)) (λ ts. tt))
