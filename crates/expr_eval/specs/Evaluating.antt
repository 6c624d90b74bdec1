-- What an evaluation over a reader says.
use Rattle.std.specs.Prelude.{◌≡◌, ℕ, Bool, true, false, List, [], ◌∷◌, ◌++◌, Some, Result, Ok, Err, All, length, map}
use Rattle.std.specs.Option.{option_and_then}
use Rattle.ast_grammar.specs.declared.grammar.ClassId.{ClassId}
use Rattle.rag_io.specs.declared.Memory.{Memory as NoMemory}
use Rattle.attr_rules.specs.declared.kinds.Kind.{Kind}
use Rattle.attr_rules.specs.Expression.{Arguments, Expression, NewArguments, argument, new_child, new_end, new_token, no_more, Quantified, QuantifiedSet, Each, EachOfSet}
use Rattle.attr_rules.specs.Rules.{body_at}
use Rattle.solutions.specs.Asking.{Demands, Ends, Halts}
use Rattle.equation_law.specs.declared.coding.Args.{Args}
use Rattle.equation_law.specs.declared.coding.Instance.{Instance as CodedInstance}
use Rattle.equation_law.specs.declared.coding.Single.{Single as CodedSingle}
use Rattle.equation_law.specs.declared.coding.TreeImage.{TreeImage}
use Rattle.equation_law.specs.declared.coding.Value.{Value as CodedValue}
use Rattle.equation_law.specs.declared.system.System.{System}
use Rattle.equation_law.specs.Codes.{AreCodes, AreElements, IsCoded, IsRow, Naming, arguments_by, arguments_for, codes_in, instance_by, reference_by, single_by, value_by}
use Rattle.equation_law.specs.Created.{Making, making_in, token_kinds}
use Rattle.equation_law.specs.Equations.{kind_in, world_of}
use Rattle.equation_law.specs.Meaning.{Place, World, call_at, demand, meaning_of, token_at, with_arguments, with_tokens}
use Rattle.equation_law.specs.Names.{Argument, Instance, Reference}
use Rattle.equation_law.specs.Program.{Program, attribute_parameters}
use Rattle.equation_law.specs.Reading.{AreKnownCodes, ByEachIn, Grows, KnowsInstance, KnowsValue, Told}
use Rattle.equation_law.specs.Systems.{program_of}
use Rattle.equation_law.specs.Values.{Tree, Value, as_argument, as_arguments}
use Rattle.set_values.specs.Ordered.{KnowsSingle}
use Rattle.expr_eval.specs.declared.evaluation.Context.{Context}
use Rattle.expr_eval.specs.declared.evaluation.Halt.{Halt}
use Rattle.expr_eval.specs.declared.evaluation.Halt.TheVariants.{Need, Memory}
use Rattle.expr_eval.specs.declared.sites.Turn.{Turn}
use Rattle.expr_eval.specs.declared.sites.Turn.TheVariants as turns

-- the world of a program that is kept
abbrev pub world_in : System → World
world_in s = world_of (program_of s)

-- what is demanded, and where an expression is read, by what codes stand for
abbrev pub Asks : Type 0
Asks = Naming → Demands Instance Value

abbrev pub Places : Type 0
Places = Naming → Place

-- demands come to a value where instances have these values, and they want an instance that has none, before any other that has none
abbrev pub Comes : (Instance → Value → Type 0) → Demands Instance Value → Value → Type 0
Comes A c v = (demands : List Instance) × Ends A c v demands

abbrev pub Wants : (Instance → Value → Type 0) → Demands Instance Value → Instance → Type 0
Wants A c i = (demands : List Instance) × Halts A c i demands

-- a value, which comes under what the reader has, by each naming by which it may be read; the elements of a set are coded well, and the reader
-- knows the nodes in the value
pub record Given {S : Type 0} (p : Program) (s : Told S) (c : Asks) (v : CodedValue) : Type 0 where
  pub comes : ByEachIn s (λ n. Comes s.has (c n) (value_by n v))
  pub coded : AreElements p v
  pub known : KnowsValue s v

-- the first demand that the reader has no value for, by each naming by which it may be read; it knows the nodes in it
pub record Stopped {S : Type 0} (p : Program) (s : Told S) (c : Asks) (i : CodedInstance) : Type 0 where
  pub wants : ByEachIn s (λ n. Wants s.has (c n) (instance_by p n i))
  pub coded : IsCoded p i
  pub known : KnowsInstance p s i

abbrev pub Answers : {S : Type 0} → Program → Told S → Asks → Result CodedValue Halt → Type 0
Answers p s c (Ok v) = Given p s c v
Answers p s c (Err (Need i)) = Stopped p s c i
Answers p s c (Err Memory) = Unit {0}

-- what is demanded of an expression that is read at a place
abbrev pub read_at : Program → Place → Expression → Demands Instance Value
read_at p place e = meaning_of (world_of p) e place

abbrev pub reads_at : Program → Places → Expression → Asks
reads_at p place e = λ n. read_at p (place n) e

-- the node of an equation, and the values of the names, by a naming
abbrev pub place_kept : Naming → ℕ → List CodedSingle → Place
place_kept n this names = record { this = reference_by n.node this; names = map (single_by n) names }

abbrev pub places_kept : ℕ → List CodedSingle → Places
places_kept this names = λ n. place_kept n this names

abbrev pub place_in : Context → Places
place_in c = places_kept c.this.0 c.names.now

-- a reader knows the node of a context, and the nodes among the values of its names
pub record KnowsContext {S : Type 0} (t : Told S) (c : Context) : Type 0 where
  pub this : t.knows c.this.0
  pub names : All (KnowsSingle t) c.names.now

-- the demand of an instance, read at its type
abbrev pub demand_of : Program → CodedInstance → Asks
demand_of p i = λ n. demand (kind_in p (instance_by p n i)) (instance_by p n i)

-- the answer to the demand of an instance
pub record DemandReads {S : Type 0} (p : Program) (r s : Told S) (i : CodedInstance) (result : Result CodedValue Halt) : Type 0 where
  pub kept : Grows p r s
  pub is : Answers p s (demand_of p i) result

-- some arguments have these values
abbrev pub AreValues : Program → Naming → ℕ → Args → List Value → Type 0
AreValues p n a xs vs = arguments_for p n a xs ≡ as_arguments (attribute_parameters p a) vs

-- the answer to a call at a node, by its code, with arguments, whatever values these have
pub record CallReads {S : Type 0} (p : Program) (r s : Told S) (a m : ℕ) (xs : Args) (result : Result CodedValue Halt) : Type 0 where
  pub kept : Grows p r s
  pub is : (vs : Naming → List Value) → ByEachIn s (λ n. AreValues p n a xs (vs n)) → Answers p s (λ n. call_at (world_of p) a (reference_by n.node m) (vs n)) result

-- the answer to the read of a token at a node, by its code, at a type
pub record TokenReads {S : Type 0} (p : Program) (r s : Told S) (t : Kind) (k m : ℕ) (result : Result CodedValue Halt) : Type 0 where
  pub kept : Grows p r s
  pub is : Answers p s (λ n. token_at (world_of p) t k (reference_by n.node m)) result

-- the arguments of a call come to these values, each of them in its turn
pub data Collects (A : Instance → Value → Type 0) (W : World) (place : Place) : Arguments → List Value → Type 0 where
  end : Collects A W place no_more []
  more : {e : Expression} {es : Arguments} {v : Value} {vs : List Value} {demands : List Instance} → Ends A (meaning_of W e place) v demands → Collects A W place es vs → Collects A W place (argument e es) (v ∷ vs)

-- their codes for parameters of some types, of which the reader knows those of nodes
pub record ArgumentsGiven {S : Type 0} (p : Program) (s : Told S) (place : Places) (ks : List Kind) (es : Arguments) (xs : Args) : Type 0 where
  pub values : Naming → List Value
  pub collects : ByEachIn s (λ n. Collects s.has (world_of p) (place n) es (values n))
  pub row : IsRow xs
  pub codes : AreCodes p ks (codes_in xs)
  pub known : AreKnownCodes s ks (codes_in xs)
  pub are : ByEachIn s (λ n. arguments_by n ks (codes_in xs) ≡ as_arguments ks (values n))

-- the first demand of theirs that the reader has no value for, whatever is done with them
pub record ArgumentsStopped {S : Type 0} (p : Program) (s : Told S) (place : Places) (es : Arguments) (i : CodedInstance) : Type 0 where
  pub stopped : ByEachIn s (λ n. (f : List Value → Demands Instance Value) → Wants s.has (with_arguments (world_of p) es (place n) f) (instance_by p n i))
  pub coded : IsCoded p i
  pub known : KnowsInstance p s i

abbrev pub AnswersArguments : {S : Type 0} → Program → Told S → Places → List Kind → Arguments → Result Args Halt → Type 0
AnswersArguments p s place ks es (Ok xs) = ArgumentsGiven p s place ks es xs
AnswersArguments p s place ks es (Err (Need i)) = ArgumentsStopped p s place es i
AnswersArguments p s place ks es (Err Memory) = Unit {0}

-- the tokens of a `new` come to these values, each of them in its turn
pub data CollectsTokens (A : Instance → Value → Type 0) (W : World) (place : Place) : NewArguments → List Argument → Type 0 where
  no_tokens : CollectsTokens A W place new_end []
  token : {k : Kind} {e : Expression} {rest : NewArguments} {v : Value} {ts : List Argument} {demands : List Instance} → Ends A (meaning_of W e place) v demands → CollectsTokens A W place rest ts → CollectsTokens A W place (new_token k e rest) (as_argument k v ∷ ts)
  child : {c : ClassId} {parts rest : NewArguments} {ts us : List Argument} → CollectsTokens A W place parts ts → CollectsTokens A W place rest us → CollectsTokens A W place (new_child c parts rest) (ts ++ us)

-- their codes
pub record TokensGiven {S : Type 0} (p : Program) (s : Told S) (place : Places) (parts : NewArguments) (cs : List ℕ) : Type 0 where
  pub collects : ByEachIn s (λ n. CollectsTokens s.has (world_of p) (place n) parts (arguments_by n (token_kinds parts) cs))
  pub all : length cs ≡ length (token_kinds parts)
  pub codes : AreCodes p (token_kinds parts) cs

-- the first demand of theirs that the reader has no value for, whatever is done with them
pub record TokensStopped {S : Type 0} (p : Program) (s : Told S) (place : Places) (parts : NewArguments) (i : CodedInstance) : Type 0 where
  pub stopped : ByEachIn s (λ n. (f : List Argument → Demands Instance Value) → Wants s.has (with_tokens (world_of p) parts (place n) f) (instance_by p n i))
  pub coded : IsCoded p i
  pub known : KnowsInstance p s i

-- a tree, which comes under what the reader has, by each naming by which it may be read: of the `new` of the equation, with the codes of its tokens
pub record GivenTree {S : Type 0} (p : Program) (s : Told S) (c : Asks) (image : TreeImage) : Type 0 where
  pub making : Making
  pub is : option_and_then making_in (body_at p.rules image.equation.0) ≡ Some making
  pub comes : ByEachIn s (λ n. (root : Reference) × Comes s.has (c n) (Tree root (arguments_by n (token_kinds making.arguments) image.tokens)))
  pub all : length image.tokens ≡ length (token_kinds making.arguments)
  pub codes : AreCodes p (token_kinds making.arguments) image.tokens

-- What a turn says of some demands: `Done` is the value that they come to under what the reader has at the end, `Image` the tree, and `Need` the
-- first of them that it has no value for. For want of memory nothing is said.
abbrev pub AnswersTurn : {S : Type 0} → Program → Told S → Asks → Result Turn NoMemory → Type 0
AnswersTurn p s c (Ok (turns.Done v)) = Given p s c v
AnswersTurn p s c (Ok (turns.Need i)) = Stopped p s c i
AnswersTurn p s c (Ok (turns.Image t)) = GivenTree p s c t
AnswersTurn p s c (Err m) = Unit {0}

pub record Evaluates {S : Type 0} (p : Program) (r s : Told S) (c : Asks) (result : Result Turn NoMemory) : Type 0 where
  pub kept : Grows p r s
  pub answer : AnswersTurn p s c result

-- a form over elements
abbrev pub is_over_form : Expression → Bool
is_over_form (Quantified q k e b) = true
is_over_form (QuantifiedSet q e b) = true
is_over_form (Each t k e b) = true
is_over_form (EachOfSet t e b) = true
is_over_form _ = false
