-- Sets by the codes of their elements, and what operators on sets make of membership.
use Rattle.std.specs.Prelude.{◌≡◌, ◌<◌, ◌⊎◌, ℕ, Bool, true, ◌&&◌, ◌||◌, not, List, [], ◌∷◌, map}
use Rattle.attr_rules.specs.declared.expression.SetOperator.{SetOperator}
use Rattle.attr_rules.specs.declared.expression.SetOperator.TheVariants.{Union, Inter, Minus}
use Rattle.attr_rules.specs.declared.kinds.Kind.{Kind}
use Rattle.code_sets.specs.Members.{has_code}
use Rattle.equation_law.specs.declared.coding.Single.{Single as CodedSingle}
use Rattle.equation_law.specs.declared.coding.Single.TheVariants as single
use Rattle.equation_law.specs.declared.coding.Value.{Value as CodedValue}
use Rattle.equation_law.specs.declared.coding.Value.TheVariants as coded
use Rattle.equation_law.specs.declared.system.System.{System as KeptSystem}
use Rattle.equation_law.specs.Codes.{AreElements, Naming, nodes_by, single_by, value_by}
use Rattle.equation_law.specs.Names.{NodeName, Source, node_cmp, text_cmp}
use Rattle.equation_law.specs.Program.{Program, text_of}
use Rattle.equation_law.specs.Sets.{SetBy, set_of}
use Rattle.equation_law.specs.Systems.{program_of}
use Rattle.equation_law.specs.Values.{Value, set_operate}

-- the set of the texts of some numbers
abbrev pub text_set : Program → List ℕ → SetBy text_cmp
text_set p cs = set_of (map (text_of p) cs)

-- that of the texts that they stand for by a naming
abbrev pub texts_set : Naming → List ℕ → SetBy text_cmp
texts_set n cs = set_of (map n.text cs)

-- the set of the nodes that some codes stand for
abbrev pub nodes_set : (ℕ → NodeName) → List ℕ → SetBy node_cmp
nodes_set nodes cs = set_of (nodes_by nodes cs)

-- that of source nodes
abbrev pub node_set : List ℕ → SetBy node_cmp
node_set cs = nodes_set Source cs

-- coded values stand for these by a naming
abbrev pub StandFor : Naming → List CodedSingle → List Value → Type 0
StandFor n list vs = map (single_by n) list ≡ vs

-- the node of a code
abbrev pub coded_node : ℕ → CodedSingle
coded_node c = single.Node (record { 0 = c })

-- the codes of the nodes in a value
abbrev pub node_codes : CodedValue → List ℕ
node_codes (coded.Truth b) = []
node_codes (coded.Int z) = []
node_codes (coded.Text n) = []
node_codes (coded.Node n) = n.0 ∷ []
node_codes (coded.Texts cs) = []
node_codes (coded.Nodes cs) = cs

-- each code of a node in the second value is one of the first; null is no node
abbrev pub HasNodesOf : CodedValue → CodedValue → Type 0
HasNodesOf v w = (c : ℕ) → 0 < c → has_code (node_codes w) c ≡ true → has_code (node_codes v) c ≡ true

-- each of the third is one of either of two
abbrev pub HasNodesOfBoth : CodedValue → CodedValue → CodedValue → Type 0
HasNodesOfBoth v w set = (c : ℕ) → 0 < c → has_code (node_codes set) c ≡ true → (has_code (node_codes v) c ≡ true) ⊎ (has_code (node_codes w) c ≡ true)

-- it holds in the program of each system where the elements of the set are coded well
abbrev pub WhereCoded : CodedValue → (Program → Type 0) → Type 0
WhereCoded v holds = (system : KeptSystem) → AreElements (program_of system) v → holds (program_of system)

-- where those of both sets are
abbrev pub WhereBothCoded : CodedValue → CodedValue → (Program → Type 0) → Type 0
WhereBothCoded v w holds = (system : KeptSystem) → AreElements (program_of system) v → AreElements (program_of system) w → holds (program_of system)

-- what an operator makes of what two coded sets stand for by a naming, both read at a type
abbrev pub made_by : Naming → SetOperator → Kind → CodedValue → CodedValue → Value
made_by n o k v w = set_operate o k (value_by n v) (value_by n w)

-- whether what an operator makes of two sets has an element, by whether each of the two has it
abbrev pub with_operator : SetOperator → Bool → Bool → Bool
with_operator Union a b = a || b
with_operator Inter a b = a && b
with_operator Minus a b = a && not b
