-- What a `new` makes: a tree, of which the source tree's accessors tell the nodes, and the values of its tokens.
use Rattle.std.specs.Prelude.{ℕ, suc, ◌+◌, List, [], ◌∷◌, ◌++◌, Option, Some, None, slice_get}
use Rattle.std.specs.Option.{option_and_then}
use Rattle.ast_grammar.specs.declared.grammar.ClassId.{ClassId}
use Rattle.attr_rules.specs.declared.kinds.Kind.{Kind}
use Rattle.attr_rules.specs.Expression.{Expression, NewArguments, New, new_child, new_end, new_token}
use Rattle.attr_rules.specs.Typing.{tokens_made}
use Rattle.tree_arena.specs.Nodes.{Node}
use Rattle.tree_arena.specs.Terms.{Empty, Forest, Tree, nodes_of}

-- a `new`: the class of the root, and the arguments
pub record Making : Type 0 where
  pub class : ClassId
  pub arguments : NewArguments

-- the `new` that an expression is
abbrev pub making_in : Expression → Option Making
making_in (New c parts) = Some (record { class = c; arguments = parts })
making_in e = None

-- A node that is made has no codes of its own: the values of its tokens stand with the root.
abbrev pub no_codes : NewArguments → List ℕ
no_codes new_end = []
no_codes (new_token k e rest) = 0 ∷ no_codes rest
no_codes (new_child c parts rest) = 0 ∷ no_codes rest

-- the trees below a node, from its component n on
abbrev pub trees_from : ℕ → NewArguments → Forest
trees_from n new_end = Empty
trees_from n (new_token k e rest) = trees_from (suc n) rest
trees_from n (new_child c parts rest) = Tree c n (no_codes parts) (trees_from 0 parts) (trees_from (suc n) rest)

abbrev pub term_of : Making → Forest
term_of m = Tree m.class 0 (no_codes m.arguments) (trees_from 0 m.arguments) Empty

-- the nodes that are made, in preorder
abbrev pub tree_of : Making → List Node
tree_of m = nodes_of (term_of m)

abbrev pub tree_or_none : Option Making → List Node
tree_or_none None = []
tree_or_none (Some m) = tree_of m

-- The places of the tokens of a node among all of the tree, by the components: those of a child stand where the child does. The next token has
-- the place t.
abbrev pub own_tokens : NewArguments → ℕ → List (Option ℕ)
own_tokens new_end t = []
own_tokens (new_token k e rest) t = Some t ∷ own_tokens rest (suc t)
own_tokens (new_child c parts rest) t = None ∷ own_tokens rest (t + tokens_made parts)

-- the same of the nodes below, in preorder
abbrev pub tokens_below : NewArguments → ℕ → List (List (Option ℕ))
tokens_below new_end t = []
tokens_below (new_token k e rest) t = tokens_below rest (suc t)
tokens_below (new_child c parts rest) t = own_tokens parts t ∷ (tokens_below parts t ++ tokens_below rest (t + tokens_made parts))

abbrev pub tokens_of : Making → List (List (Option ℕ))
tokens_of m = own_tokens m.arguments 0 ∷ tokens_below m.arguments 0

-- the place of the token of the node at a position at a component
abbrev pub token_number : Making → ℕ → ℕ → Option ℕ
token_number m q k = option_and_then (λ (row : List (Option ℕ)). option_and_then (λ place. place) (slice_get row k)) (slice_get (tokens_of m) q)

-- the types of the tokens of a tree, in their order
abbrev pub token_kinds : NewArguments → List Kind
token_kinds new_end = []
token_kinds (new_token k e rest) = k ∷ token_kinds rest
token_kinds (new_child c parts rest) = token_kinds parts ++ token_kinds rest

-- the type of the token of the node at a position at a component
abbrev pub token_type : Option Making → ℕ → ℕ → Option Kind
token_type None q k = None
token_type (Some m) q k = option_and_then (slice_get (token_kinds m.arguments)) (token_number m q k)
