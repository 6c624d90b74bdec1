-- Values and instances by structural names of nodes, and what a table of values stands for.
use Rattle.std.specs.Prelude.{◌≡◌, ℕ, cond, List, [], ◌∷◌, Option, Some, None, map, slice_get}
use Rattle.std.specs.Option.{option_map, option_and_then}
use Rattle.attr_rules.specs.declared.kinds.Kind.{Kind}
use Rattle.attr_rules.specs.Rules.{body_at}
use Rattle.solutions.specs.Rounds.{RoundsEnd}
use Rattle.plain_rounds.specs.declared.instances.NameList.{NameList}
use Rattle.plain_rounds.specs.declared.naming.Name.{Name}
use Rattle.plain_rounds.specs.declared.naming.Name.TheVariants as listed
use Rattle.plain_rounds.specs.declared.naming.NamedArg.{NamedArg}
use Rattle.plain_rounds.specs.declared.naming.NamedArg.TheVariants as arguments
use Rattle.plain_rounds.specs.declared.naming.NamedArgs.{NamedArgs}
use Rattle.plain_rounds.specs.declared.naming.NamedArgs.TheVariants as lists
use Rattle.plain_rounds.specs.declared.naming.NamedInstance.{NamedInstance}
use Rattle.plain_rounds.specs.declared.naming.NodeName.{NodeName}
use Rattle.plain_rounds.specs.declared.naming.NodeName.TheVariants as names
use Rattle.plain_rounds.specs.declared.values.NamedValue.{NamedValue}
use Rattle.plain_rounds.specs.declared.rounds.Table.{Table}
use Rattle.equation_law.specs.declared.coding.TreeImage.{TreeImage}
use Rattle.equation_law.specs.declared.coding.Value.{Value as CodedValue}
use Rattle.equation_law.specs.Codes.{Naming, arguments_by, value_by}
use Rattle.equation_law.specs.Created.{Making, making_in, token_kinds}
use Rattle.equation_law.specs.Equations.{equations_of}
use Rattle.equation_law.specs.Names.{Argument, OfTruth, OfInt, OfText, OfNode, Instance, Attribute, Query, Reference, Null, At, Source, made_by, same_instance}
use Rattle.equation_law.specs.Program.{Program, text_of}
use Rattle.equation_law.specs.Values.{Value, Truth, Int, Text, Node, Texts, Nodes, Tree, as_kind, node}
use Rattle.made_trees.specs.Made.{naming_by_makers}
use Rattle.made_trees.specs.Makers.{program_for}

-- the arguments of a call, from the left
abbrev pub arguments_in : NamedArgs → List NamedArg
arguments_in lists.None = []
arguments_in (lists.One x) = x ∷ []
arguments_in (lists.Two x y) = x ∷ y ∷ []
arguments_in (lists.Three x y z) = x ∷ y ∷ z ∷ []

abbrev mutual
  -- a node by its name
  pub reference_named : (ℕ → List ℕ) → NodeName → Reference
  reference_named texts names.Null = Null
  reference_named texts (names.Source k) = At (Source k)
  reference_named texts (names.Made' p a r xs q) = made_by (Attribute a.0 (reference_named texts r) (arguments_named texts xs)) q

  -- an argument by its name: a text by its number in the pool, and a node by its own name
  pub argument_named : (ℕ → List ℕ) → NamedArg → Argument
  argument_named texts (arguments.Truth b) = OfTruth b
  argument_named texts (arguments.Int z) = OfInt z
  argument_named texts (arguments.Text k) = OfText (texts k.0)
  argument_named texts (arguments.Node r) = OfNode (reference_named texts r)

  pub arguments_named : (ℕ → List ℕ) → NamedArgs → List Argument
  arguments_named texts lists.None = []
  arguments_named texts (lists.One x) = argument_named texts x ∷ []
  arguments_named texts (lists.Two x y) = argument_named texts x ∷ argument_named texts y ∷ []
  arguments_named texts (lists.Three x y z) = argument_named texts x ∷ argument_named texts y ∷ argument_named texts z ∷ []

-- an instance of an attribute by its name
abbrev pub instance_named : (ℕ → List ℕ) → NamedInstance → Instance
instance_named texts i = Attribute i.attr.0 (reference_named texts i.node) (arguments_named texts i.args)

abbrev pub name_in : (ℕ → List ℕ) → Name → Instance
name_in texts (listed.Attribute i) = instance_named texts i
name_in texts (listed.Query q) = Query q.0

-- the instances of some names, by the texts of a program
abbrev pub instances_named : Program → List Name → List Instance
instances_named p names = map (name_in (text_of p)) names

-- those of a list
abbrev pub instances_in : Program → NameList → List Instance
instances_in p l = instances_named p l.names.items

-- the `new` of which an image is
abbrev pub image_making : Program → TreeImage → Option Making
image_making p t = option_and_then making_in (body_at p.rules t.equation.0)

-- the tokens of a `new`, by their codes
abbrev pub tokens_by : Naming → Option Making → List ℕ → List Argument
tokens_by n None cs = []
tokens_by n (Some m) cs = arguments_by n (token_kinds m.arguments) cs

-- a value, or a tree whose root it is
abbrev pub with_image : Program → Naming → Value → Option TreeImage → Value
with_image p n v None = v
with_image p n v (Some t) = Tree (node v) (tokens_by n (image_making p t) t.tokens)

-- a value that is held, by what codes stand for
abbrev pub value_in : Program → Naming → NamedValue → Value
value_in p n v = with_image p n (value_by n v.value) v.image

-- the value is no truth value, no integer, no text, and no node; a tree counts as its root
abbrev pub IsNoTruth : Value → Type 0
IsNoTruth (Truth b) = ⊥
IsNoTruth (Int z) = Unit {0}
IsNoTruth (Text t) = Unit {0}
IsNoTruth (Node n) = Unit {0}
IsNoTruth (Texts s) = Unit {0}
IsNoTruth (Nodes s) = Unit {0}
IsNoTruth (Tree r ts) = Unit {0}

abbrev pub IsNoInt : Value → Type 0
IsNoInt (Truth b) = Unit {0}
IsNoInt (Int z) = ⊥
IsNoInt (Text t) = Unit {0}
IsNoInt (Node n) = Unit {0}
IsNoInt (Texts s) = Unit {0}
IsNoInt (Nodes s) = Unit {0}
IsNoInt (Tree r ts) = Unit {0}

abbrev pub IsNoText : Value → Type 0
IsNoText (Truth b) = Unit {0}
IsNoText (Int z) = Unit {0}
IsNoText (Text t) = ⊥
IsNoText (Node n) = Unit {0}
IsNoText (Texts s) = Unit {0}
IsNoText (Nodes s) = Unit {0}
IsNoText (Tree r ts) = Unit {0}

-- what the codes of a table stand for
abbrev pub naming_in : Program → Table → Naming
naming_in p t = naming_by_makers p t.makers.makers

abbrev pub values_in : Program → Table → List (Option Value)
values_in p t = map (option_map (value_in p (naming_in p t))) t.values.items

-- the value of the k-th name, where there is one
abbrev pub value_at : Program → Table → ℕ → Option Value
value_at p t k = option_and_then (λ v. v) (slice_get (values_in p t) k)

-- the value that stands under the first place of an instance in the list
abbrev pub assigned : List Instance → List (Option Value) → Instance → Option Value
assigned [] values i = None
assigned (j ∷ names) [] i = None
assigned (j ∷ names) (v ∷ values) i = cond (same_instance i j) v (assigned names values i)

-- The table has a value for each name, where the rounds over the names, run until nothing is added, give it one.
pub record Solves (p : Program) (names : List Instance) (t : Table) : Type 0 where
  pub program : program_for t.makers ≡ p
  pub end : RoundsEnd (equations_of p) names (assigned names (values_in p t))
  pub each : (k : ℕ) (i : Instance) → slice_get names k ≡ Some i → value_at p t k ≡ assigned names (values_in p t) i

-- the k-th name has this value, or none
abbrev pub HasAt : Program → Table → ℕ → NamedValue → Type 0
HasAt p t k v = value_at p t k ≡ Some (value_in p (naming_in p t) v)

abbrev pub HasNoneAt : Program → Table → ℕ → Type 0
HasNoneAt p t k = value_at p t k ≡ None

-- what a coded value stands for is the value read at a type
abbrev pub IsReadAs : Program → Naming → Kind → NamedValue → CodedValue → Type 0
IsReadAs p n k v read = value_by n read ≡ as_kind k (value_in p n v)
