-- One turn of the writing: a part is taken, its front is written, and what follows is put in its place.
use Rattle.std.proofs.Common.{◌≡◌, ℕ, suc, ◌+◌, ◌<◌, ◌⊎◌, inl, inr, List, [], ◌∷◌, ◌++◌, Option, Some, None, All, codes, length, map, slice_get, refl, sym, ap, subst, append_assoc, ◌∙◌, arith}
use Rattle.std.specs.Option.{option_map}
use Rattle.std.proofs.lemmas.List.{append-nil}
use Rattle.std.proofs.lemmas.List.Elements.{All-head, All-tail}
use Rattle.std.proofs.lemmas.Option.{slice_get_within}
use Rattle.ast_grammar.specs.declared.grammar.ClassId.{ClassId}
use Rattle.ast_grammar.specs.declared.grammar.Component as kept_component
use Rattle.ast_grammar.specs.declared.grammar.Shape.{Shape}
use Rattle.ast_grammar.specs.declared.grammar.Shape.TheVariants as shapes
use Rattle.ast_grammar.specs.Grammar.{Class, component_at, components_of, name_of_class, nameless}
use Rattle.tree_arena.specs.Terms.{Forest, Empty, Tree}
use Rattle.tree_writer.specs.declared.parts.Part.{Part}
use Rattle.tree_writer.specs.declared.parts.Part.TheVariants.{Node, Argument, Comma, Close, CloseList}
use Rattle.tree_writer.specs.Canonical.{argument_text, arguments_text, further, joined, name_in, pieces_of, root_arguments, tree_text}
use Rattle.tree_writer.specs.Parts.{AreShown, AreTextsOf, GoesOn, IsHalfway, IsPart, IsTextOf, PutsNodes, arguments_from, further_parts, listed, node_part}
use Rattle.tree_writer.specs.Showing.{HasChild, HasToken, IsBare, IsChildOf, IsClassOf, IsShown, IsSubtree, IsTokenOf, hung_at, root_class, root_codes, subtree}
use Rattle.tree_writer.proofs.PartTexts.{Stands, arguments_length, class_known, component_known, stands}
use Rattle.tree_writer.proofs.Pieces.{alone_text}
use Rattle.tree_writer.proofs.ReadPieces.{regroup_brackets, regroup_node}
use Rattle.tree_writer.proofs.Still.{IsStill, Shown}
use Rattle.tree_writer.proofs.Subtrees.{IsTokenShape}

-- what is still to be written has later the texts that it had
module _ (g : List Class) (pool : List (List ℕ)) {shows later : Shown} (still : IsStill shows later) where
  text_still : (p : Part) (text : List ℕ) → IsTextOf g pool shows p text → IsTextOf g pool later p text
  text_still (Node n) text t = record { tree = t.tree; shown = still n t.tree t.shown; grown = t.grown; are = t.are }
  text_still (Argument n k) text t = record { tree = t.tree; shown = still n t.tree t.shown; grown = t.grown; at = t.at }
  text_still Comma text t = t
  text_still Close text t = t
  text_still CloseList text t = t

  pub texts_still : (parts : List Part) (text : List ℕ) → AreTextsOf g pool shows parts text → AreTextsOf g pool later parts text
  texts_still [] text t = t
  texts_still (p ∷ parts) text (first, rest, here, left, e) = (first, rest, text_still p first here, texts_still parts rest left, e)

module _ (g : List Class) (pool : List (List ℕ)) (shows : Shown) where
  -- each of some parts has the text at its place
  pub AreEach : List Part → List (List ℕ) → Type 0
  AreEach [] [] = Unit {0}
  AreEach [] (text ∷ texts) = ⊥
  AreEach (p ∷ parts) [] = ⊥
  AreEach (p ∷ parts) (text ∷ texts) = IsTextOf g pool shows p text × AreEach parts texts

  -- they are put in front of others, with commas between them
  further_texts : (parts : List Part) (texts : List (List ℕ)) → AreEach parts texts → (stack : List Part) (rest : List ℕ) → AreTextsOf g pool shows stack rest
      → AreTextsOf g pool shows (further_parts parts ++ stack) (further texts ++ rest)
  unfolding AreEach
  further_texts [] [] each stack rest left = left
  further_texts [] (text ∷ texts) each stack rest left = absurd each
  further_texts (p ∷ parts) [] each stack rest left = absurd each
  further_texts (p ∷ parts) (text ∷ texts) each stack rest left = (
    codes ", ",
    text ++ (further texts ++ rest),
    refl,
    (text, further texts ++ rest, each.0, further_texts parts texts each.1 stack rest left, refl),
    append_assoc (codes ", ") (text ++ further texts) rest ∙ ap (λ t. codes ", " ++ t) (append_assoc text (further texts) rest),
  )

  pub listed_texts : (parts : List Part) (texts : List (List ℕ)) → AreEach parts texts → (stack : List Part) (rest : List ℕ) → AreTextsOf g pool shows stack rest
      → AreTextsOf g pool shows (listed parts ++ stack) (joined texts ++ rest)
  unfolding AreEach
  listed_texts [] [] each stack rest left = left
  listed_texts [] (text ∷ texts) each stack rest left = absurd each
  listed_texts (p ∷ parts) [] each stack rest left = absurd each
  listed_texts (p ∷ parts) (text ∷ texts) each stack rest left =
      (text, further texts ++ rest, each.0, further_texts parts texts each.1 stack rest left, append_assoc text (further texts) rest)

  -- some arguments of a node, from the k-th on
  pub arguments_each : (n : ℕ) (tree : Forest) → shows n tree → IsSubtree g (length pool) tree → (texts : List (List ℕ)) (k : ℕ)
      → ((i m : ℕ) (text : List ℕ) → k + i ≡ m → slice_get texts i ≡ Some text → slice_get (root_arguments g pool tree) m ≡ Some text)
      → AreEach (arguments_from n k (length texts)) texts
  unfolding AreEach
  arguments_each n tree shown grown [] k at = tt
  arguments_each n tree shown grown (text ∷ texts) k at = (
    record { tree = tree; shown = shown; grown = grown; at = at 0 k text (omega arith) refl },
    arguments_each n tree shown grown texts (suc k) (λ i m t e f. at (suc i) m t (omega (arith, e)) f),
  )

  -- nodes that show these trees
  pub nodes_each : (ms : List ℕ) (trees : List Forest) → AreShown shows ms trees → All (IsSubtree g (length pool)) trees → AreEach (map node_part ms) (map (tree_text g pool) trees)
  unfolding AreEach
  nodes_each [] [] h all = tt
  nodes_each [] (tree ∷ trees) h all = h
  nodes_each (m ∷ ms) [] h all = h
  nodes_each (m ∷ ms) (tree ∷ trees) h all = (
    record { tree = tree; shown = h.0; grown = All-head (IsSubtree g (length pool)) tree trees all; are = refl },
    nodes_each ms trees h.1 (All-tail (IsSubtree g (length pool)) tree trees all),
  )

-- the next part
next_part : (g : List Class) (pool : List (List ℕ)) (shows : Shown) (p : Part) (text : List ℕ) (stack : List Part) (whole : List ℕ)
    → IsHalfway g pool shows text (p ∷ stack) whole → IsPart g pool shows p
next_part g pool shows p text stack whole (rest, (first, others, here, below, e), is) = (first, here)

-- where a token stands nothing hangs
bare_of : {g : List Class} {pool : List (List ℕ)} {tree : Forest} {k : ℕ} {text : List ℕ} {shape : Shape} → Stands g pool tree k text shape → IsTokenShape shape → IsBare tree k
bare_of {tree = tree} {k = k} s leaf = record { there = slice_get_within (root_codes tree) k s.code s.token; none = s.bare leaf }

-- What the calls for a part need.
module _ {g : List Class} {pool : List (List ℕ)} {shows : Shown} where
  pub node_shown : (n : ℕ) → IsPart g pool shows (Node n) → IsShown shows n
  node_shown n (text, here) = (here.tree, here.shown)

  pub node_class : (n : ℕ) (c : ClassId) → IsPart g pool shows (Node n) → IsClassOf shows n c → c.0 < length g
  node_class n c (text, here) class = class_known here.grown (class here.tree here.shown)

  pub argument_shown : (n k : ℕ) → IsPart g pool shows (Argument n k) → IsShown shows n
  argument_shown n k (text, here) = (here.tree, here.shown)

  pub argument_class : (n k : ℕ) (c : ClassId) → IsPart g pool shows (Argument n k) → IsClassOf shows n c → c.0 < length g
  argument_class n k c (text, here) class = class_known here.grown (class here.tree here.shown)

  pub argument_known : (n k : ℕ) (c : ClassId) → IsPart g pool shows (Argument n k) → IsClassOf shows n c → k < length (components_of g c.0)
  argument_known n k c (text, here) class = component_known pool here.grown (class here.tree here.shown) here.at

  module _ (n k : ℕ) (c : ClassId) (y : kept_component.Component) (part : IsPart g pool shows (Argument n k)) (class : IsClassOf shows n c)
      (named : option_map nameless (component_at g c.0 k) ≡ Some y) where
    what_stands : Stands g pool part.1.tree k part.0 y.shape
    what_stands = stands pool y part.1.grown (class part.1.tree part.1.shown) part.1.at named

    pub argument_child : y.shape ≡ shapes.Child → HasChild shows n k 0
    argument_child child =
        let one = ap length ((what_stands.alone child).alone) in
        (part.1.tree, part.1.shown, omega (arith, one))

    pub argument_token : IsTokenShape y.shape → HasToken shows n k
    argument_token leaf = (part.1.tree, part.1.shown, bare_of what_stands leaf)

    pub argument_text_known : (code : ℕ) → y.shape ≡ shapes.Text → IsTokenOf shows n k code → code < length pool
    argument_text_known code word token =
        let s = what_stands in
        let there : slice_get (root_codes part.1.tree) k ≡ Some code = token part.1.tree part.1.shown (bare_of s (subst IsTokenShape (sym word) tt)) in
        let same : s.code ≡ code = let known = s.token in cc in
        subst (λ v. v < length pool) same (s.within word)

-- What is known of a later state is known of the trees that the earlier one showed.
module _ {shows later : Shown} (still : IsStill shows later) where
  pub child_still : (n k i : ℕ) → HasChild shows n k i → HasChild later n k i
  child_still n k i (tree, shown, l) = (tree, still n tree shown, l)

  pub token_still : (n k : ℕ) → HasToken shows n k → HasToken later n k
  token_still n k (tree, shown, bare) = (tree, still n tree shown, bare)

  pub token_before : (n k code : ℕ) → IsTokenOf later n k code → IsTokenOf shows n k code
  token_before n k code token tree shown bare = token tree (still n tree shown) bare

  pub child_before : (last : Shown) (n k i m : ℕ) → IsChildOf later last n k i m → IsChildOf shows last n k i m
  child_before last n k i m child tree sub shown at = child tree sub (still n tree shown) at

  pub puts_before : (last : Shown) (n k : ℕ) (old new : List Part) → PutsNodes later last n k old new → PutsNodes shows last n k old new
  puts_before last n k old new put tree shown = put tree (still n tree shown)

-- the name of a class
name_is : (o : Option Class) (name : List ℕ) → option_map name_of_class o ≡ Some name → name_in o ≡ name
name_is None name e = cc
name_is (Some c) name e = cc

-- a node's front is written, and the rest of it is left
node_regroup : (text name inner rest new : List ℕ) → new ≡ (text ++ name) ++ codes "(" → new ++ (inner ++ (codes ")" ++ rest)) ≡ text ++ ((name ++ (codes "(" ++ (inner ++ codes ")"))) ++ rest)
node_regroup text name inner rest new e =
    ap (λ t. t ++ (inner ++ (codes ")" ++ rest))) e ∙ append_assoc (text ++ name) (codes "(") (inner ++ (codes ")" ++ rest))
    ∙ append_assoc text name (codes "(" ++ (inner ++ (codes ")" ++ rest))) ∙ ap (λ t. text ++ t) (sym (regroup_node name inner rest))

module _ {g : List Class} {pool : List (List ℕ)} {shows later : Shown} (still : IsStill shows later) where
  -- a node
  pub node_goes_on : (n count : ℕ) (c : ClassId) (name text new : List ℕ) (stack left : List Part) → IsClassOf shows n c
      → option_map name_of_class (slice_get g c.0) ≡ Some name → count ≡ length (components_of g c.0) → new ≡ (text ++ name) ++ codes "("
      → left ≡ listed (arguments_from n 0 count) ++ Close ∷ stack → GoesOn g pool shows later (Node n) text stack new left
  node_goes_on n count c name text new stack left class called many written put whole (rest, (first, others, here, below, e), is) =
      of_tree here.grown (still n here.tree here.shown) (class here.tree here.shown)
      (ap (λ t. text ++ t) (sym (ap (λ t. t ++ others) here.are) ∙ sym e) ∙ is)
    where
      of_tree : {tree : Forest} → IsSubtree g (length pool) tree → later n tree → root_class tree ≡ Some c → text ++ (tree_text g pool tree ++ others) ≡ whole
          → IsHalfway g pool later new left whole
      of_tree (subtree {c = d} {k} {tokens} {below = trees} concrete hangs) shown same so_far = (
        joined args ++ (codes ")" ++ others),
        subst (λ ps. AreTextsOf g pool later ps (joined args ++ (codes ")" ++ others))) (sym (put ∙ ap (λ i. listed (arguments_from n 0 i) ++ Close ∷ stack) number))
            (listed_texts g pool later (arguments_from n 0 (length args)) args
            (arguments_each g pool later n (Tree d k tokens trees Empty) shown (subtree concrete hangs) args 0
            (λ i m t place at. let here : i ≡ m = omega (arith, place) in ap (λ j. slice_get args j) (sym here) ∙ at))
            (Close ∷ stack) (codes ")" ++ others) (codes ")", others, refl, texts_still g pool still stack others below, refl)),
        node_regroup text name (joined args) others new written ∙ ap (λ t. text ++ (t ++ others)) texts ∙ so_far,
      )
        where
          args : List (List ℕ)
          args = arguments_text pool (pieces_of g pool trees) 0 (components_of g d.0) tokens

          one : d ≡ c
          one = cc

          number : count ≡ length args
          number = many ∙ ap (λ (x : ClassId). length (components_of g x.0)) (sym one) ∙ sym (arguments_length pool (pieces_of g pool trees) 0 (components_of g d.0) tokens)

          texts : name ++ (codes "(" ++ (joined args ++ codes ")")) ≡ tree_text g pool (Tree d k tokens trees Empty)
          texts =
              ap (λ t. t ++ (codes "(" ++ (joined args ++ codes ")"))) (sym (ap (λ (x : ClassId). name_in (slice_get g x.0)) one ∙ name_is (slice_get g c.0) name called))
              ∙ sym (alone_text g pool d k tokens trees)

  -- the child that is an argument
  pub child_goes_on : (n k m : ℕ) (c : ClassId) (y : kept_component.Component) (text : List ℕ) (stack : List Part) (whole : List ℕ) → IsClassOf shows n c
      → option_map nameless (component_at g c.0 k) ≡ Some y → y.shape ≡ shapes.Child → IsChildOf shows later n k 0 m
      → IsHalfway g pool shows text (Argument n k ∷ stack) whole → IsHalfway g pool later text (Node m ∷ stack) whole
  child_goes_on n k m c y text stack whole class named child shown (rest, (first, others, here, below, e), is) =
      let s = stands pool y here.grown (class here.tree here.shown) here.at named in
      let alone = s.alone child in
      let one : slice_get (hung_at here.tree k) 0 ≡ Some alone.tree = ap (λ ts. slice_get ts 0) alone.alone in
      let grown : IsSubtree g (length pool) alone.tree = All-head (IsSubtree g (length pool)) alone.tree [] (subst (All (IsSubtree g (length pool))) alone.alone s.grown) in
      let same : first ≡ tree_text g pool alone.tree =
      s.are ∙ ap (λ sh. argument_text pool sh s.code (map (tree_text g pool) (hung_at here.tree k))) child ∙ ap (λ ts. joined (map (tree_text g pool) ts)) alone.alone
      ∙ append-nil (tree_text g pool alone.tree)
      in (
        rest,
        (first, others, record { tree = alone.tree; shown = shown here.tree alone.tree here.shown one; grown = grown; are = same }, texts_still g pool still stack others below, e),
        is,
      )

  pub child_part : (n k m : ℕ) (c : ClassId) (y : kept_component.Component) → IsPart g pool shows (Argument n k) → IsClassOf shows n c
      → option_map nameless (component_at g c.0 k) ≡ Some y → y.shape ≡ shapes.Child → IsChildOf shows later n k 0 m → IsPart g pool later (Node m)
  child_part n k m c y (first, here) class named child shown =
      next_part g pool later (Node m) [] [] first
      (child_goes_on n k m c y [] [] first class named child shown (first, (first, [], here, refl, sym (append-nil first)), refl))

  -- the bracket in front of a list or an optional
  brackets_go_on : (n k : ℕ) (c : ClassId) (y : kept_component.Component) (text new : List ℕ) (stack left : List Part) → IsClassOf shows n c
      → option_map nameless (component_at g c.0 k) ≡ Some y
      → ((code : ℕ) (texts : List (List ℕ)) → argument_text pool y.shape code texts ≡ codes "[" ++ (joined texts ++ codes "]"))
      → new ≡ text ++ codes "[" → PutsNodes shows later n k (CloseList ∷ stack) left → GoesOn g pool shows later (Argument n k) text stack new left
  brackets_go_on n k c y text new stack left class named brackets written put whole (rest, (first, others, here, below, e), is) =
      let s = stands pool y here.grown (class here.tree here.shown) here.at named in
      let texts = map (tree_text g pool) (hung_at here.tree k) in
      let there = put here.tree here.shown in
      let inner = joined texts in (
        inner ++ (codes "]" ++ others),
        subst (λ ps. AreTextsOf g pool later ps (inner ++ (codes "]" ++ others))) (sym there.2)
            (listed_texts g pool later (map node_part there.0) texts (nodes_each g pool later there.0 (hung_at here.tree k) there.1 s.grown)
            (CloseList ∷ stack) (codes "]" ++ others) (codes "]", others, refl, texts_still g pool still stack others below, refl)),
        ap (λ t. t ++ (inner ++ (codes "]" ++ others))) written ∙ append_assoc text (codes "[") (inner ++ (codes "]" ++ others))
            ∙ ap (λ t. text ++ t) (sym (regroup_brackets inner others) ∙ ap (λ t. t ++ others) (sym (s.are ∙ brackets s.code texts)) ∙ sym e) ∙ is,
      )

  pub listed_goes_on : (n k : ℕ) (c : ClassId) (y : kept_component.Component) (text new : List ℕ) (stack left : List Part) → IsClassOf shows n c
      → option_map nameless (component_at g c.0 k) ≡ Some y → (y.shape ≡ shapes.List) ⊎ (y.shape ≡ shapes.Optional)
      → new ≡ text ++ codes "[" → PutsNodes shows later n k (CloseList ∷ stack) left → GoesOn g pool shows later (Argument n k) text stack new left
  listed_goes_on n k c y text new stack left class named (inl list) =
      brackets_go_on n k c y text new stack left class named (λ code texts. ap (λ s. argument_text pool s code texts) list)
  listed_goes_on n k c y text new stack left class named (inr optional) =
      brackets_go_on n k c y text new stack left class named (λ code texts. ap (λ s. argument_text pool s code texts) optional)

  -- a token, which is written whole
  pub token_goes_on : (n k code : ℕ) (c : ClassId) (y : kept_component.Component) (text new : List ℕ) (stack : List Part) → IsClassOf shows n c
      → option_map nameless (component_at g c.0 k) ≡ Some y → IsTokenShape y.shape → IsTokenOf shows n k code
      → new ≡ text ++ argument_text pool y.shape code [] → GoesOn g pool shows later (Argument n k) text stack new stack
  token_goes_on n k code c y text new stack class named leaf token written whole (rest, (first, others, here, below, e), is) =
      let s = stands pool y here.grown (class here.tree here.shown) here.at named in
      let there : slice_get (root_codes here.tree) k ≡ Some code = token here.tree here.shown (bare_of s leaf) in
      let same : s.code ≡ code = let known = s.token in cc in
      let short : first ≡ argument_text pool y.shape code [] =
      s.are ∙ ap (λ v. argument_text pool y.shape v (map (tree_text g pool) (hung_at here.tree k))) same ∙ ap (λ ts. argument_text pool y.shape code (map (tree_text g pool) ts)) (s.bare leaf)
      in (
        others,
        texts_still g pool still stack others below,
        ap (λ t. t ++ others) (written ∙ ap (λ t. text ++ t) (sym short)) ∙ append_assoc text first others ∙ ap (λ t. text ++ t) (sym e) ∙ is,
      )

-- a sign
pub sign_goes_on : (g : List Class) (pool : List (List ℕ)) (shows : Shown) (p : Part) (sign text new : List ℕ) (stack : List Part) → ((t : List ℕ) → IsTextOf g pool shows p t → t ≡ sign)
    → new ≡ text ++ sign → GoesOn g pool shows shows p text stack new stack
sign_goes_on g pool shows p sign text new stack only written whole (rest, (first, others, here, below, e), is) = (
  others,
  below,
  ap (λ t. t ++ others) (written ∙ ap (λ t. text ++ t) (sym (only first here))) ∙ append_assoc text first others ∙ ap (λ t. text ++ t) (sym e) ∙ is,
)

-- At first the subtree is to be written.
pub begins : {g : List Class} {pool : List (List ℕ)} {shows : Shown} (n : ℕ) (text : List ℕ) (tree : Forest) → shows n tree → IsSubtree g (length pool) tree
    → IsHalfway g pool shows text (Node n ∷ []) (text ++ tree_text g pool tree)
begins {g} {pool} n text tree shown grown = (
  tree_text g pool tree,
  (tree_text g pool tree, [], record { tree = tree; shown = shown; grown = grown; are = refl }, refl, sym (append-nil (tree_text g pool tree))),
  refl,
)
