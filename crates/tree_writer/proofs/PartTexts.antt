-- What stands at a component of a node, and its text.
use Rattle.std.proofs.Common.{◌≡◌, ℕ, zero, suc, ◌+◌, ◌<◌, List, [], ◌∷◌, Some, All, length, map, slice_get, refl, sym, ap, subst, ◌∙◌, arith}
use Rattle.std.specs.Option.{option_map}
use Rattle.std.proofs.lemmas.Option.{slice_get_within}
use Rattle.ast_grammar.specs.declared.grammar.ClassId.{ClassId}
use Rattle.ast_grammar.specs.declared.grammar.Component as kept_component
use Rattle.ast_grammar.specs.declared.grammar.Shape.{Shape}
use Rattle.ast_grammar.specs.declared.grammar.Shape.TheVariants as shapes
use Rattle.ast_grammar.specs.Grammar.{Class, Component, component_at, components_of, nameless}
use Rattle.tree_arena.specs.Terms.{Forest, below_of}
use Rattle.tree_writer.specs.Canonical.{Piece, argument_text, arguments_text, pieces_of, root_arguments, texts_at, tree_text}
use Rattle.tree_writer.specs.Showing.{IsSubtree, hung_at, root_class, root_codes, subtree, trees_at}
use Rattle.tree_writer.proofs.Pieces.{pieces_at}
use Rattle.tree_writer.proofs.Subtrees.{HangsAlone, IsTokenShape, all_grown, child_alone, class_within, hung_codes, hung_text, token_bare}

-- there is an argument for each component
pub arguments_length : (pool : List (List ℕ)) (pieces : List Piece) (k : ℕ) (xs : List Component) (tokens : List ℕ) → length (arguments_text pool pieces k xs tokens) ≡ length xs
arguments_length pool pieces k [] tokens = refl
arguments_length pool pieces k (x ∷ xs) [] = ap suc (arguments_length pool pieces (suc k) xs [])
arguments_length pool pieces k (x ∷ xs) (code ∷ tokens) = ap suc (arguments_length pool pieces (suc k) xs tokens)

-- the argument at a component
argument_at : (pool : List (List ℕ)) (pieces : List Piece) (j : ℕ) (xs : List Component) (tokens : List ℕ) (k m : ℕ) (x : Component) (code : ℕ) → j + k ≡ m
    → slice_get xs k ≡ Some x → slice_get tokens k ≡ Some code
    → slice_get (arguments_text pool pieces j xs tokens) k ≡ Some (argument_text pool x.shape code (texts_at m pieces))
argument_at pool pieces j [] tokens k m x code e is at = cc
argument_at pool pieces j (y ∷ xs) [] k m x code e is at = cc
argument_at pool pieces j (y ∷ xs) (v ∷ tokens) zero m x code e is at =
    let same : y ≡ x = cc in
    let number : v ≡ code = cc in
    let place : j ≡ m = omega (arith, e) in
    ap Some (ap (λ (z : Component). argument_text pool z.shape v (texts_at j pieces)) same ∙ ap (λ c. argument_text pool x.shape c (texts_at j pieces)) number
    ∙ ap (λ i. argument_text pool x.shape code (texts_at i pieces)) place)
argument_at pool pieces j (y ∷ xs) (v ∷ tokens) (suc k) m x code e is at = argument_at pool pieces (suc j) xs tokens k m x code (omega (arith, e)) is at

get_there : {X : Type 0} (xs : List X) (k : ℕ) → k < length xs → (x : X) × (slice_get xs k ≡ Some x)
get_there [] k l = absurd (omega (arith, l))
get_there (x ∷ xs) zero l = (x, refl)
get_there (x ∷ xs) (suc k) l = get_there xs k (omega (arith, l))

-- An argument: the component, the code there, and the text by them and by what hangs there.
pub record Stands (g : List Class) (pool : List (List ℕ)) (tree : Forest) (k : ℕ) (text : List ℕ) (shape : Shape) : Type 0 where
  pub code : ℕ
  pub token : slice_get (root_codes tree) k ≡ Some code
  pub are : text ≡ argument_text pool shape code (map (tree_text g pool) (hung_at tree k))
  pub grown : All (IsSubtree g (length pool)) (hung_at tree k)
  pub bare : IsTokenShape shape → hung_at tree k ≡ []
  pub alone : shape ≡ shapes.Child → HangsAlone k (below_of tree)
  pub within : shape ≡ shapes.Text → code < length pool

-- the class of a node is one of the grammar
pub class_known : {g : List Class} {texts : ℕ} {tree : Forest} {c : ClassId} → IsSubtree g texts tree → root_class tree ≡ Some c → c.0 < length g
class_known {g} {c = d} (subtree {c} concrete hangs) is =
    let same : c ≡ d = cc in
    subst (λ (e : ClassId). e.0 < length g) same (class_within g c.0 concrete)

module _ {g : List Class} (pool : List (List ℕ)) where
  -- there is a component for each argument
  pub component_known : {tree : Forest} {c : ClassId} {k : ℕ} {text : List ℕ} → IsSubtree g (length pool) tree → root_class tree ≡ Some c
      → slice_get (root_arguments g pool tree) k ≡ Some text → k < length (components_of g c.0)
  component_known {c = d} {k} {text} (subtree {c} {tokens = tokens} {below = below} concrete hangs) is at =
      let same : c ≡ d = cc in
      let args = arguments_text pool (pieces_of g pool below) 0 (components_of g c.0) tokens in
      let l = slice_get_within args k text at in
      let many = arguments_length pool (pieces_of g pool below) 0 (components_of g c.0) tokens in
      let here : k < length (components_of g c.0) = omega (arith, l, many) in
      subst (λ (e : ClassId). k < length (components_of g e.0)) same here

  -- what stands at a component, where this is the component but for its name
  pub stands : {tree : Forest} {c : ClassId} {k : ℕ} {text : List ℕ} (y : kept_component.Component) → IsSubtree g (length pool) tree → root_class tree ≡ Some c
      → slice_get (root_arguments g pool tree) k ≡ Some text → option_map nameless (component_at g c.0 k) ≡ Some y → Stands g pool tree k text y.shape
  stands {c = d} {k} {text} y (subtree {c} {k = j} {tokens} {below} concrete hangs) is at named =
      let there = get_there (components_of g c.0) k within in
      let code = get_there tokens k (let many = hung_codes hangs in omega (arith, many, within)) in
      let shape : there.0.shape ≡ y.shape = shape_is there.0 there.1 in
      record {
        code = code.0;
        token = code.1;
        are = text_is there.0 code.0 there.1 code.1 ∙ ap (λ s. argument_text pool s code.0 (map (tree_text g pool) (trees_at k below))) shape;
        grown = all_grown hangs k;
        bare = λ leaf. token_bare hangs k k there.0 (omega arith) there.1 (subst IsTokenShape (sym shape) leaf);
        alone = λ child. child_alone hangs k k there.0 (omega arith) there.1 (shape ∙ child);
        within = λ word. hung_text hangs k there.0 code.0 there.1 (shape ∙ word) code.1;
      }
    where
      args : List (List ℕ)
      args = arguments_text pool (pieces_of g pool below) 0 (components_of g c.0) tokens

      within : k < length (components_of g c.0)
      within =
          let l = slice_get_within args k text at in
          let many = arguments_length pool (pieces_of g pool below) 0 (components_of g c.0) tokens in
          omega (arith, l, many)

      same : c ≡ d
      same = cc

      shape_is : (x : Component) → slice_get (components_of g c.0) k ≡ Some x → x.shape ≡ y.shape
      shape_is x e =
          let both : Some (nameless x) ≡ Some y =
          ap (option_map nameless) (sym e) ∙ ap (λ (e : ClassId). option_map nameless (component_at g e.0 k)) same ∙ named
          in
          let one : nameless x ≡ y = cc in
          ap (λ (z : kept_component.Component). z.shape) one

      text_is : (x : Component) (code : ℕ) → slice_get (components_of g c.0) k ≡ Some x → slice_get tokens k ≡ Some code
          → text ≡ argument_text pool x.shape code (map (tree_text g pool) (trees_at k below))
      text_is x code e f =
          let there : slice_get args k ≡ Some (argument_text pool x.shape code (texts_at k (pieces_of g pool below))) =
          argument_at pool (pieces_of g pool below) 0 (components_of g c.0) tokens k k x code (omega arith) e f
          in
          let one : text ≡ argument_text pool x.shape code (texts_at k (pieces_of g pool below)) = cc in
          one ∙ ap (argument_text pool x.shape code) (pieces_at g pool k below)
