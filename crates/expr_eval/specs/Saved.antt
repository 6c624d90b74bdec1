-- How far forms over elements have gone, which an evaluation that stops leaves behind.
use Rattle.std.specs.Prelude.{◌≡◌, ◌<◌, ◌≤◌, ◌+◌, ◌⊎◌, ℕ, Bool, true, false, cond, List, [], All, length, slice_index_or}
use Rattle.std.specs.List.{Contains}
use Rattle.attr_rules.specs.declared.expression.Quantifier.TheVariants.{Any, All as Every, First}
use Rattle.attr_rules.specs.declared.expression.SetOperator.TheVariants.{Union}
use Rattle.attr_rules.specs.Expression.{Expression, Quantified, QuantifiedSet, Each, EachOfSet, expression_of}
use Rattle.solutions.specs.Asking.{Demands}
use Rattle.equation_law.specs.declared.coding.Single.{Single as CodedSingle}
use Rattle.equation_law.specs.declared.coding.Value.{Value as CodedValue}
use Rattle.equation_law.specs.declared.system.System.{System}
use Rattle.equation_law.specs.Codes.{AreElements, ByEachNaming, Naming, single_by, value_by}
use Rattle.equation_law.specs.Meaning.{Place, World, elements_at, over_elements, united}
use Rattle.equation_law.specs.Names.{Instance, Null}
use Rattle.equation_law.specs.Reading.{ByEachIn, KnowsValue, Told}
use Rattle.equation_law.specs.Systems.{program_of}
use Rattle.equation_law.specs.Values.{Node, Truth, Value, default_of, elements_of, node, set_operate, truth}
use Rattle.set_values.specs.Ordered.{KnowsSingle}
use Rattle.expr_eval.specs.declared.accessors.Elements.{Elements}
use Rattle.expr_eval.specs.declared.evaluation.Context.{Context}
use Rattle.expr_eval.specs.declared.saved.Going.{Going}
use Rattle.expr_eval.specs.declared.saved.Making.{Making}
use Rattle.expr_eval.specs.declared.saved.Making.TheVariants.{Joins, Tests}
use Rattle.expr_eval.specs.declared.saved.Saved.{Saved}
use Rattle.expr_eval.specs.declared.saved.Stand.{Stand}
use Rattle.expr_eval.specs.Elements.{KnowsElements, Rooms, element_in, elements_in, put, read_with}
use Rattle.expr_eval.specs.Evaluating.{Comes, Places, places_kept, read_at, world_in}
use Rattle.expr_eval.specs.Going.{Joined, Sought, Went}

-- what a form over elements makes of what is said at them
abbrev pub making_of : Expression → Making
making_of (Quantified q k e b) = Tests q
making_of (QuantifiedSet q e b) = Tests q
making_of (Each t k e b) = Joins t
making_of (EachOfSet t e b) = Joins t
making_of _ = Tests Any

-- what is said at them
abbrev pub body_of : Expression → Expression
body_of (Quantified q k e b) = b
body_of (QuantifiedSet q e b) = b
body_of (Each t k e b) = b
body_of (EachOfSet t e b) = b
body_of e = e

-- what its elements come from
abbrev pub range_of : Expression → Expression
range_of (Quantified q k e b) = e
range_of (QuantifiedSet q e b) = e
range_of (Each t k e b) = e
range_of (EachOfSet t e b) = e
range_of e = e

-- its elements, by the value of that
abbrev pub ranged : World → Expression → Value → List Value
ranged W (Quantified q k e b) v = elements_at W k (node v)
ranged W (QuantifiedSet q e b) v = elements_of v
ranged W (Each t k e b) v = elements_at W k (node v)
ranged W (EachOfSet t e b) v = elements_of v
ranged W _ v = []

-- these are its elements, which come from this value; those of a set stand in the order of their codes
abbrev pub AreRanged : {S : Type 0} → System → Told S → Expression → CodedValue → Elements → Type 0
AreRanged s t e from list = ByEachIn t (λ n. elements_in n s list ≡ ranged (world_in s) e (value_by n from))

-- what is demanded at the elements
abbrev pub over : Making → List Value → (Value → Demands Instance Value) → Demands Instance Value
over (Tests q) xs f = over_elements q xs f
over (Joins t) xs f = united t (default_of t) xs f

-- the value where there are no elements
abbrev pub begun : Making → Value
begun (Tests Any) = Truth false
begun (Tests Every) = Truth true
begun (Tests First) = Node Null
begun (Joins t) = default_of t

-- the value behind an element, from the one before it and what is said there
abbrev pub made : Making → Value → Value → Value → Value
made (Tests Any) x v w = Truth (put false (truth v) (truth w))
made (Tests Every) x v w = Truth (put true (truth v) (truth w))
made (Tests First) x v w = cond (truth w) x v
made (Joins t) x v w = set_operate Union t v w

-- what is said at an element is taken in: from the value before it, it makes the one behind it
abbrev pub TakesIn : System → Making → CodedSingle → CodedValue → CodedValue → CodedValue → Type 0
TakesIn s m element said before behind = ByEachNaming (program_of s) (λ n. value_by n behind ≡ made m (single_by n element) (value_by n before) (value_by n said))

-- how many of so many elements are done with behind the n-th: `first` has no need of those behind one at which the condition is true
abbrev pub done : Making → ℕ → ℕ → Value → ℕ
done (Tests First) count n w = cond (truth w) count (n + 1)
done _ count n w = n + 1

-- this is the value when so many of them were gone over
abbrev pub HasGone : (Instance → Value → Type 0) → (ℕ → Value) → (Value → Demands Instance Value) → ℕ → Making → ℕ → Value → Type 0
HasGone A element f count (Tests Any) n v = (b : Bool) × (v ≡ Truth b) × Went A element f (put false) false n b
HasGone A element f count (Tests Every) n v = (b : Bool) × (v ≡ Truth b) × Went A element f (put true) true n b
HasGone A element f count (Tests First) n v = Sought A element f count n v
HasGone A element f count (Joins t) n v = Joined A element f t n v

-- a form that says b at these elements stands so, by each naming by which the reader may be read; the reader knows the nodes in the value so far
pub record Stands {S : Type 0} (s : System) (t : Told S) (place : Places) (m : Making) (b : Expression) (list : Elements) (stand : Stand) : Type 0 where
  pub gone : ByEachIn t (λ n. HasGone t.has (element_in n s list) (read_with (program_of s) (place n) b) list.count m stand.next (value_by n stand.so_far))
  pub within : stand.next ≤ list.count
  pub coded : AreElements (program_of s) stand.so_far
  pub known : KnowsValue t stand.so_far

-- a form stands before its first element, with room for one name more
pub record IsFirst (c : Context) (e : Expression) (stand : Stand) : Type 0 where
  pub room : Rooms c.names.now stand.names.items
  pub next : stand.next ≡ 0
  pub so_far : ByEachNaming (program_of c.system.now) (λ n. value_by n stand.so_far ≡ begun (making_of e))
  pub coded : AreElements (program_of c.system.now) stand.so_far

-- these are the elements that a form goes over, by a naming
pub record RangesBy {S : Type 0} (s : System) (t : Told S) (n : Naming) (place : Place) (e : Expression) (list : Elements) : Type 0 where
  pub value : Value
  pub comes : Comes t.has (read_at (program_of s) place (range_of e)) value
  pub are : elements_in n s list ≡ ranged (world_in s) e value

abbrev pub IsRanged : {S : Type 0} → System → Told S → Places → Expression → Elements → Type 0
IsRanged s t place e list = ByEachIn t (λ n. RangesBy s t n (place n) e list)

-- a form has gone so far at a place; the first of the names that are kept stands in front of those of the place. The reader knows the node there, and
-- the nodes among the values of the names and among the elements.
pub record IsGoing {S : Type 0} (s : System) (t : Told S) (g : Going) : Type 0 where
  pub names : List CodedSingle
  pub room : Rooms names g.stand.names.items
  pub node : t.knows g.this.0
  pub known : All (KnowsSingle t) names
  pub elements : KnowsElements t g.list
  pub ranged : IsRanged s t (places_kept g.this.0 names) (expression_of g.form.now) g.list
  pub stands : Stands s t (places_kept g.this.0 names) (making_of (expression_of g.form.now)) (body_of (expression_of g.form.now)) g.list g.stand

-- all that is saved is so, by what a reader has
abbrev pub AreSaved : {S : Type 0} → System → Told S → Saved → Type 0
AreSaved s t saved = (g : Going) → Contains saved.goings.items g → IsGoing s t g

abbrev pub SavesNothing : Saved → Type 0
SavesNothing saved = saved.goings.items ≡ []

-- the form has gone so far at this node with these names
pub record IsAt (c : Context) (e : Expression) (g : Going) : Type 0 where
  pub this : g.this ≡ c.this
  pub names : Rooms c.names.now g.stand.names.items
  pub form : expression_of g.form.now ≡ e

-- what is saved of a form in this context has this number among all that is saved
abbrev pub IsSavedAt : Context → Expression → Saved → ℕ → Type 0
IsSavedAt c e saved k = (k < length saved.goings.items) × ((g : Going) → IsAt c e (slice_index_or saved.goings.items k g))

-- what was saved of a form in this context
abbrev pub IsTaken : Context → Expression → Saved → Elements × Stand → Type 0
IsTaken c e saved (list, stand) = (g : Going) × Contains saved.goings.items g × IsAt c e g × (g.list ≡ list) × (g.stand ≡ stand)

-- all that is saved was saved before
abbrev pub Loses : Saved → Saved → Type 0
Loses old new = (g : Going) → Contains new.goings.items g → Contains old.goings.items g

-- all that is saved was saved before, or is this one
abbrev pub AddsOne : Saved → Saved → Going → Type 0
AddsOne old new one = (g : Going) → Contains new.goings.items g → Contains old.goings.items g ⊎ (g ≡ one)
