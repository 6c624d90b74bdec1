-- What evaluations of collections and of their parts say.
use Rattle.std.specs.Prelude.{◌≡◌, ℕ, suc, [], Option, Result, Some}
use Rattle.rag_io.specs.declared.Memory.{Memory as NoMemory}
use Rattle.attr_rules.specs.declared.kinds.EqId.{EqId}
use Rattle.attr_rules.specs.Expression.{Expression}
use Rattle.attr_rules.specs.Rules.{body_at}
use Rattle.solutions.specs.Rounds.{Graph}
use Rattle.equation_law.specs.declared.coding.Instance.{Instance as CodedInstance}
use Rattle.equation_law.specs.declared.coding.Value.{Value as CodedValue}
use Rattle.equation_law.specs.Codes.{IsCoded, Naming, instance_by, value_by}
use Rattle.equation_law.specs.Collections.{collection_demands}
use Rattle.equation_law.specs.Equations.{world_of}
use Rattle.equation_law.specs.Names.{Instance}
use Rattle.equation_law.specs.Program.{Program}
use Rattle.equation_law.specs.Reading.{ByEachIn, KnowsInstance, Told}
use Rattle.equation_law.specs.Values.{Value}
use Rattle.expr_eval.specs.declared.sites.Turn.{Turn}
use Rattle.expr_eval.specs.Evaluating.{Asks, Comes, Evaluates, Wants, places_kept, reads_at}
use Rattle.collection_attrs.specs.declared.collectors.Collector.{Collector}
use Rattle.collection_attrs.specs.declared.surveys.Survey.{Survey}
use Rattle.collection_attrs.specs.Surveys.{Collections, ForCollector, IsCondition, IsSurveyed}
use Rattle.collection_attrs.specs.Walks.{IsWalk, Walk}

-- values of some of the instances
abbrev pub Assignment : Type 0
Assignment = Instance → Option Value

-- the second assignment has each value that the first has
abbrev pub KeepsValues : Assignment → Assignment → Type 0
KeepsValues A B = (i : Instance) (v : Value) → Graph A i v → Graph B i v

-- what a reader tells that has these values, is read by one naming and knows all codes
abbrev pub reading : Assignment → Naming → Told Unit
reading A names = record { for = λ p. Unit {0}; has = Graph A; can = Graph A; keeps = λ u. Unit {0}; names = λ n. n ≡ names; knows = λ c. Unit {0}; height = λ c. c }

-- by one naming, a survey stays what it is where these values give way to those
abbrev pub KeepsSurveys : Program → Naming → Assignment → Assignment → Type 0
KeepsSurveys p n A B = (c : Collections) (s : Survey) → IsSurveyed p (reading A n) c s → IsSurveyed p (reading B n) c s

-- so does a walk
abbrev pub KeepsWalks : Program → Naming → Assignment → Assignment → Type 0
KeepsWalks p n A B = (w : Walk) → IsWalk p (reading A n) w → IsWalk p (reading B n) w

-- what a collection demands
abbrev pub demands_of : Program → Collections → Asks
demands_of p c = λ names. collection_demands (world_of p) (c names)

-- a collection comes to this value
abbrev pub ComesTo : {S : Type 0} → Program → Told S → Collections → CodedValue → Type 0
ComesTo p t c v = ByEachIn t (λ names. Comes t.has (demands_of p c names) (value_by names v))

-- it is stuck at this demand, in which the reader knows the nodes
abbrev pub IsStuckAt : {S : Type 0} → Program → Told S → Collector → CodedInstance → Type 0
IsStuckAt p t of j = IsCoded p j × KnowsInstance p t j × ForCollector p of (λ c. ByEachIn t (λ names. Wants t.has (demands_of p c names) (instance_by p names j)))

-- the answer says what an expression comes to at a node, by its number
abbrev pub EvaluatesAt : {S : Type 0} → Program → Told S → Told S → Expression → ℕ → Result Turn NoMemory → Type 0
EvaluatesAt p r s e node result = Evaluates p r s (reads_at p (places_kept (suc node) []) e) result

-- so it does of the expression of this code
abbrev pub EvaluatesPart : {S : Type 0} → Program → Told S → Told S → EqId → ℕ → Result Turn NoMemory → Type 0
EvaluatesPart p r s code node result = (e : Expression) → body_at p.rules code.0 ≡ Some e → EvaluatesAt p r s e node result

-- and of the condition of a contribution, which may be left out
abbrev pub EvaluatesCondition : {S : Type 0} → Program → Told S → Told S → Option EqId → ℕ → Result Turn NoMemory → Type 0
EvaluatesCondition p r s guard node result = (e : Expression) → IsCondition p guard e → EvaluatesAt p r s e node result

-- the answer says what a collection comes to
abbrev pub EvaluatesCollection : {S : Type 0} → Program → Told S → Told S → Collector → Result Turn NoMemory → Type 0
EvaluatesCollection p r s of result = ForCollector p of (λ c. Evaluates p r s (demands_of p c) result)
