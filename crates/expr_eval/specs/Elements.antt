-- The elements of a list or a set that is gone over.
use Rattle.std.specs.Prelude.{◌≡◌, ℕ, pos, Bool, true, false, ◌&&◌, ◌||◌, List, ◌∷◌, ◌++◌, All, map}
use Rattle.std.specs.List.{range_with_len}
use Rattle.attr_rules.specs.declared.kinds.Kind.{Kind}
use Rattle.attr_rules.specs.declared.kinds.Kind.TheVariants as kinds
use Rattle.attr_rules.specs.Expression.{Expression}
use Rattle.solutions.specs.Asking.{Demands, Gives}
use Rattle.equation_law.specs.declared.coding.Single.{Single as CodedSingle}
use Rattle.equation_law.specs.declared.coding.Value.{Value as CodedValue}
use Rattle.equation_law.specs.declared.system.System.{System}
use Rattle.equation_law.specs.Codes.{ByEachNaming, Naming, reference_by, single_by, value_by}
use Rattle.equation_law.specs.Meaning.{Place, element_at, elements_at, named, token_at, with_name}
use Rattle.equation_law.specs.Names.{Instance, Reference}
use Rattle.equation_law.specs.Program.{Program}
use Rattle.equation_law.specs.Reading.{Told}
use Rattle.equation_law.specs.Systems.{program_of}
use Rattle.equation_law.specs.Values.{Value, Node}
use Rattle.set_values.specs.Ordered.{KnowsSingle}
use Rattle.expr_eval.specs.declared.accessors.Elements.{Elements}
use Rattle.expr_eval.specs.declared.accessors.Origin.{Origin}
use Rattle.expr_eval.specs.declared.accessors.Origin.TheVariants as origins
use Rattle.expr_eval.specs.Evaluating.{read_at, world_in}

-- the element at a place by a naming, by where elements come from
abbrev pub element_from : Naming → System → Origin → ℕ → Value
element_from n s (origins.List m k) i = Node (element_at (world_in s) k.0 (reference_by n.node m.0) (pos i))
element_from n s (origins.Set xs) i = named (map (single_by n) xs) i

abbrev pub element_in : Naming → System → Elements → ℕ → Value
element_in n s e i = element_from n s e.origin i

-- a reader knows the nodes among the elements; the list of a node has source nodes alone
abbrev pub KnowsOrigin : {S : Type 0} → Told S → Origin → Type 0
KnowsOrigin t (origins.List m k) = Unit {0}
KnowsOrigin t (origins.Set xs) = All (KnowsSingle t) xs

abbrev pub KnowsElements : {S : Type 0} → Told S → Elements → Type 0
KnowsElements t e = KnowsOrigin t e.origin

-- so many of them from the i-th on
abbrev pub elements_from : Naming → System → Elements → ℕ → ℕ → List Value
elements_from n s e i m = map (element_in n s e) (range_with_len i m)

abbrev pub elements_in : Naming → System → Elements → List Value
elements_in n s e = elements_from n s e 0 e.count

-- by each naming the values of some more stand behind those that there were
abbrev pub AddsValues : List CodedSingle → List CodedSingle → (Naming → List Value) → Type 0
AddsValues before after more = (n : Naming) → map (single_by n) after ≡ map (single_by n) before ++ more n

-- these are the elements of the list of a node, by its code, at a component
abbrev pub AreListed : System → ℕ → ℕ → Elements → Type 0
AreListed s k m list = ByEachNaming (program_of s) (λ n. elements_in n s list ≡ elements_at (world_in s) k (reference_by n.node m))

-- this is the token of a node, by its code, at a component, read at a type; it demands nothing
abbrev pub IsToken : System → Kind → ℕ → ℕ → CodedValue → Type 0
IsToken s t k m v = ByEachNaming (program_of s) (λ n. Gives (value_by n v) ≡ token_at (world_in s) t k (reference_by n.node m))

-- a value stands in front of the names
abbrev pub Rooms : List CodedSingle → List CodedSingle → Type 0
Rooms names more = (v : CodedSingle) × (more ≡ v ∷ names)

-- what is reached from the node for which the first code stands is that for which the second does, by each naming
abbrev pub LeadsTo : Program → (Reference → Reference) → ℕ → ℕ → Type 0
LeadsTo p reach from to = ByEachNaming p (λ n. reference_by n.node to ≡ reach (reference_by n.node from))

-- the type of the nodes of a class
abbrev pub node_kind : Kind → Bool
node_kind kinds.Truth = false
node_kind kinds.Int = false
node_kind kinds.Text = false
node_kind (kinds.Node c) = true
node_kind kinds.Texts = false
node_kind (kinds.Nodes c) = false

-- whether all hold, or any
abbrev pub put : Bool → Bool → Bool → Bool
put true = λ a b. a && b
put false = λ a b. a || b

-- what a condition demands at an element
abbrev pub read_with : Program → Place → Expression → Value → Demands Instance Value
read_with p place e x = read_at p (with_name place x) e
