-- What running over a node comes to.
use Rattle.std.proofs.Common.{◌≡◌, ◌+◌, ℕ, suc, List, [], ◌∷◌, ◌++◌, Bool, true, false, Option, codes, length, refl, sym, ap, subst, ◌∙◌, append_assoc, arith}
use Rattle.broken_rules.specs.declared.broken.Broken.{Broken}
use Rattle.broken_rules.specs.declared.rule.Rule.TheVariants.{N3}
use Rattle.broken_rules.specs.Notes.{at, broken_if}
use Rattle.rag_io.specs.declared.token.Place.{Place}
use Rattle.rag_io.specs.declared.token.TokenKind.TheVariants as kinds
use Rattle.rag_io.specs.Tokens.{Lexed}
use Rattle.ast_grammar.specs.Grammar.{Class, class_named}
use Rattle.tree_arena.specs.Nodes as arena
use Rattle.tree_arena.specs.Terms.{nodes_from}
use Rattle.tree_syntax.specs.Written.{Written, Node, IsSign}
use Rattle.tree_reader.specs.Breaking.{arguments_broken, count, miscounts, name_broken, node_misplaced, nodes_in}
use Rattle.tree_reader.specs.Grown.{class_or_first, codes_of, grown}
use Rattle.tree_reader.specs.Steps.{Open, Opened, Arguments, closed, coded_by, component_by, is_uneven, noted, node_opened, run}
use Rattle.tree_reader.specs.Wants.{Wants, arguments_of, next_of, wanted_by}
use Rattle.tree_reader.proofs.Coding.{IsPlaced, IsWithin, behind_component, coded_all, coded_all_front, coded_all_last, is_bracketed, placed_last, placed_more, placed_next}
use Rattle.tree_reader.proofs.Growing.{grown_count, size_grown}
use Rattle.tree_reader.proofs.Wanting.{over, uneven_over}
use Rattle.tree_reader.proofs.Running.{Reaches, after, nodes_after, noted_then, reading, run_sign, run_word, sign_opens}

module _ (g : List Class) (pool : List (List ℕ)) where
  -- a node, with its arguments and what is behind it
  module _ (name : List ℕ) (p : Place) (arguments behind : Written)
      (x : ℕ) (o : Opened) (wants : Wants) (outer : List Open) (nodes : List arena.Node) (broken : Option Broken) (n k : ℕ) (placed : IsPlaced nodes x o n k) where
    -- its class
    abbrev class : Option ℕ
    class = class_named g name

    -- it as it begins
    abbrev fresh : ℕ → arena.Node
    fresh j = record { class = class_or_first class; parent = x; component = j; tokens = [] }

    -- what is open around it
    abbrev tops : List Open
    tops = record { node = x; opened = o; wants = next_of wants } ∷ outer

    -- what its name and its place break, as the node of a number
    abbrev own_at : ℕ → List Broken
    own_at m = name_broken g class m p ++ node_misplaced g (wanted_by wants) class p

    abbrev own : List Broken
    own = own_at n

    -- the nodes with its code, and those that are laid by it
    abbrev coded_here : List arena.Node
    coded_here = coded_by nodes x o 0

    abbrev below : List arena.Node
    below = nodes_from n (suc n) (grown g pool false 0 arguments)

    abbrev laid : List arena.Node
    laid = record { class = class_or_first class; parent = x; component = k; tokens = codes_of pool arguments } ∷ below

    -- the number behind its last node
    abbrev last : ℕ
    last = suc n + nodes_in arguments

    -- where the next argument stands behind it
    placed_here : IsPlaced coded_here x o n (behind_component o k)
    placed_here = placed_next 0 placed

    -- it begins
    opened_state : node_opened g name p (reading x o wants outer nodes broken)
        ≡ reading n (Arguments class p) (arguments_of g class) tops (coded_here ++ fresh k ∷ []) (noted broken own)
    opened_state =
        let component = component_by nodes x o in
        ap (λ (m : ℕ). reading m (Arguments class p) (arguments_of g class) tops (coded_here ++ fresh component ∷ []) (noted broken (own_at m))) placed.count
        ∙ ap (λ (j : ℕ). reading n (Arguments class p) (arguments_of g class) tops (coded_here ++ fresh j ∷ []) (noted broken own)) placed.component

    -- it with the codes of its arguments, and the nodes below it
    laid_state : coded_all (coded_here ++ fresh k ∷ []) n (Arguments class p) (codes_of pool arguments) ++ below ≡ coded_here ++ laid
    laid_state =
        ap (λ (m : ℕ). coded_all (coded_here ++ fresh k ∷ []) m (Arguments class p) (codes_of pool arguments) ++ below) (sym placed_here.count)
        ∙ ap (λ ys. ys ++ below) (coded_all_last coded_here (fresh k) class p (codes_of pool arguments))
        ∙ append_assoc coded_here (record { class = class_or_first class; parent = x; component = k; tokens = codes_of pool arguments } ∷ []) below

    -- where the next argument stands behind all its nodes
    placed_behind : IsPlaced (coded_here ++ laid) x o last (behind_component o k)
    placed_behind =
        let size = grown_count g pool false n (suc n) 0 arguments in
        let all : n + length laid ≡ last = omega (arith, size) in
        placed_more laid last all placed_here

    kept_within : IsWithin o x (length coded_here)
    kept_within = subst (λ (m : ℕ). IsWithin o x m) (sym placed_here.count) placed_here.within

    -- the nodes with those behind
    all_nodes : nodes_after g pool (coded_here ++ laid) x o last (behind_component o k) behind ≡ nodes_after g pool nodes x o n k (Node name p arguments behind)
    all_nodes =
        let tree = grown g pool (is_bracketed o) (behind_component o k) behind in
        ap (λ ys. ys ++ nodes_from x last tree) (coded_all_front coded_here laid x o (codes_of pool behind) kept_within)
        ∙ append_assoc (coded_all coded_here x o (codes_of pool behind)) laid (nodes_from x last tree)
        ∙ ap (λ (m : ℕ). coded_all coded_here x o (codes_of pool behind) ++ (laid ++ nodes_from x (suc n + m) tree)) (sym (size_grown g pool false 0 arguments))

    -- what its arguments break, what their number does, and what is behind it
    abbrev inner : List Broken
    inner = arguments_broken g (arguments_of g class) (suc n) arguments

    abbrev counted : List Broken
    counted = broken_if (miscounts g class (count arguments)) (at p N3)

    abbrev later : List Broken
    later = arguments_broken g (next_of wants) last behind

    all_broken : noted (noted (noted (noted broken own) inner) counted) later ≡ noted broken (arguments_broken g wants n (Node name p arguments behind))
    all_broken =
        noted_then (noted (noted broken own) inner) counted later ∙ noted_then (noted broken own) inner (counted ++ later)
        ∙ noted_then broken own (inner ++ (counted ++ later))

    -- it ends, and what is behind it follows
    node_after : (us rest : List Lexed) → Reaches g pool behind us rest
        → run g pool us (closed (after g pool n (Arguments class p) (arguments_of g class) tops (coded_here ++ fresh k ∷ []) (noted broken own) (suc n) 0 arguments))
        ≡ run g pool rest (after g pool x o wants outer nodes broken n k (Node name p arguments behind))
    node_after us rest reaches =
        let end = λ (b : Bool). noted (noted (noted broken own) inner) (broken_if b (at p N3)) in
        let uneven = is_uneven class (over (arguments_of g class) arguments) in
        ap (λ ys. run g pool us (reading x o (next_of wants) outer ys (end uneven))) laid_state
        ∙ ap (λ (b : Bool). run g pool us (reading x o (next_of wants) outer (coded_here ++ laid) (end b))) (uneven_over g class arguments)
        ∙ reaches x o (next_of wants) outer (coded_here ++ laid) (noted (noted (noted broken own) inner) counted) last (behind_component o k) placed_behind
        ∙ ap (λ ys. run g pool rest (reading x o (over (next_of wants) behind) outer ys (noted (noted (noted (noted broken own) inner) counted) later))) all_nodes
        ∙ ap (λ b. run g pool rest (reading x o (over (next_of wants) behind) outer (nodes_after g pool nodes x o n k (Node name p arguments behind)) b)) all_broken

  -- from its name to what follows it
  pub node_reaches : (t paren c : Lexed) (arguments behind : Written) (ts us rest : List Lexed) → t.kind ≡ kinds.Name → IsSign (codes "(") paren → IsSign (codes ")") c
      → Reaches g pool arguments ts (c ∷ us) → Reaches g pool behind us rest → Reaches g pool (Node t.text t.place arguments behind) (t ∷ paren ∷ ts) rest
  node_reaches t paren c arguments behind ts us rest name opening closing first later x o wants outer nodes broken n k placed =
      let class = class_named g t.text in
      let s = reading x o wants outer nodes broken in
      let fresh : arena.Node = record { class = class_or_first class; parent = x; component = k; tokens = [] } in
      let tops = record { node = x; opened = o; wants = next_of wants } ∷ outer in
      let before = coded_by nodes x o 0 in
      let own = name_broken g class n t.place ++ node_misplaced g (wanted_by wants) class t.place in
      run_word g pool true t (paren ∷ ts) s name (sign_opens (codes "(") paren ts opening)
      ∙ run_sign g pool (codes "(") paren ts (node_opened g t.text t.place s) opening
      ∙ ap (run g pool ts) (opened_state t.text t.place arguments behind x o wants outer nodes broken n k placed)
      ∙ first n (Arguments class t.place) (arguments_of g class) tops (before ++ fresh ∷ []) (noted broken own) (suc n) 0
      (placed_last before fresh class t.place (placed_next 0 placed).count refl)
      ∙ run_sign g pool (codes ")") c us (after g pool n (Arguments class t.place) (arguments_of g class) tops (before ++ fresh ∷ []) (noted broken own) (suc n) 0 arguments) closing
      ∙ node_after t.text t.place arguments behind x o wants outer nodes broken n k placed us rest later
