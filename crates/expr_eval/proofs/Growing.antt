-- How far forms over elements have gone, where more has values.
use Rattle.std.proofs.Common.{ℕ, Bool, List}
use Rattle.std.specs.List.{All}
use Rattle.std.proofs.lemmas.List.Elements.{All-weaker}
use Rattle.solutions.specs.Asking.{Demands}
use Rattle.solutions.proofs.Runs.{ends_more}
use Rattle.attr_rules.specs.declared.expression.Quantifier.TheVariants.{Any, All as Every, First}
use Rattle.attr_rules.specs.declared.kinds.Kind.{Kind}
use Rattle.attr_rules.specs.Expression.{Expression}
use Rattle.equation_law.specs.declared.coding.Single.{Single as CodedSingle}
use Rattle.equation_law.specs.declared.coding.Single.TheVariants as singles
use Rattle.equation_law.specs.declared.coding.Value.{Value as CodedValue}
use Rattle.equation_law.specs.declared.coding.Value.TheVariants as coded
use Rattle.equation_law.specs.declared.system.System.{System}
use Rattle.equation_law.specs.Names.{Instance}
use Rattle.equation_law.specs.Reading.{ByEachIn, KnowsValue, Told}
use Rattle.equation_law.specs.Values.{Value}
use Rattle.set_values.specs.Ordered.{KnowsSingle}
use Rattle.expr_eval.specs.declared.accessors.Elements.{Elements}
use Rattle.expr_eval.specs.declared.accessors.Origin.{Origin}
use Rattle.expr_eval.specs.declared.accessors.Origin.TheVariants as origins
use Rattle.expr_eval.specs.declared.evaluation.Context.{Context}
use Rattle.expr_eval.specs.declared.saved.Making.{Making}
use Rattle.expr_eval.specs.declared.saved.Making.TheVariants.{Joins, Tests}
use Rattle.expr_eval.specs.declared.saved.Saved.{Saved}
use Rattle.expr_eval.specs.declared.saved.Stand.{Stand}
use Rattle.expr_eval.specs.Evaluating.{Comes, KnowsContext, Places}
use Rattle.expr_eval.specs.Going.{Joined, Passed, Sought, Went, found, further, joined, more, none, nothing, nowhere, seeks}
use Rattle.expr_eval.specs.Elements.{KnowsElements, KnowsOrigin}
use Rattle.expr_eval.specs.Saved.{AreSaved, HasGone, IsRanged, Stands}

-- it has gone as far where more has values
pub went_more : {A B : Instance → Value → Type 0} → ((i : Instance) (v : Value) → A i v → B i v) → {element : ℕ → Value} {f : Value → Demands Instance Value} {put : Bool → Bool → Bool} {start : Bool} {n : ℕ} {b : Bool} → Went A element f put start n b → Went B element f put start n b
went_more g nowhere = nowhere
went_more g (further w e) = further (went_more g w) (ends_more g e)

pub passed_more : {A B : Instance → Value → Type 0} → ((i : Instance) (v : Value) → A i v → B i v) → {element : ℕ → Value} {f : Value → Demands Instance Value} {n : ℕ} → Passed A element f n → Passed B element f n
passed_more g none = none
passed_more g (more w e denied) = more (passed_more g w) (ends_more g e) denied

pub joined_more : {A B : Instance → Value → Type 0} → ((i : Instance) (v : Value) → A i v → B i v) → {element : ℕ → Value} {f : Value → Demands Instance Value} {t : Kind} {n : ℕ} {w : Value} → Joined A element f t n w → Joined B element f t n w
joined_more g nothing = nothing
joined_more g (joined j e) = joined (joined_more g j) (ends_more g e)

sought_more : {A B : Instance → Value → Type 0} → ((i : Instance) (v : Value) → A i v → B i v) → {element : ℕ → Value} {f : Value → Demands Instance Value} {count n : ℕ} {v : Value} → Sought A element f count n v → Sought B element f count n v
sought_more g (seeks passed) = seeks (passed_more g passed)
sought_more g (found within passed ends holds) = found within (passed_more g passed) (ends_more g ends) holds

module _ {A B : Instance → Value → Type 0} (g : (i : Instance) (v : Value) → A i v → B i v) where
  gone_more : (element : ℕ → Value) (f : Value → Demands Instance Value) (count : ℕ) (m : Making) (n : ℕ) (v : Value) → HasGone A element f count m n v → HasGone B element f count m n v
  gone_more element f count (Tests Any) n v h = (h.0, h.1, went_more g h.2)
  gone_more element f count (Tests Every) n v h = (h.0, h.1, went_more g h.2)
  gone_more element f count (Tests First) n v h = sought_more g h
  gone_more element f count (Joins t) n v h = joined_more g h

pub comes_more : {A B : Instance → Value → Type 0} → ((i : Instance) (v : Value) → A i v → B i v) → {c : Demands Instance Value} {v : Value} → Comes A c v → Comes B c v
comes_more g h = (h.0, ends_more g h.1)

-- what a reader knows, another knows that knows as much
module _ {S T : Type 0} (r : Told S) (t : Told T) (on : (c : ℕ) → r.knows c → t.knows c) where
  pub value_more : (v : CodedValue) → KnowsValue r v → KnowsValue t v
  value_more (coded.Truth b) h = tt
  value_more (coded.Int z) h = tt
  value_more (coded.Text n) h = tt
  value_more (coded.Node n) h = on n.0 h
  value_more (coded.Texts cs) h = tt
  value_more (coded.Nodes cs) h = All-weaker r.knows t.knows on cs h

  pub single_more : (x : CodedSingle) → KnowsSingle r x → KnowsSingle t x
  single_more (singles.Truth b) h = tt
  single_more (singles.Int z) h = tt
  single_more (singles.Text n) h = tt
  single_more (singles.Node m) h = on m.0 h

  pub names_more : (xs : List CodedSingle) → All (KnowsSingle r) xs → All (KnowsSingle t) xs
  names_more xs h = All-weaker (KnowsSingle r) (KnowsSingle t) single_more xs h

  pub elements_more : (list : Elements) → KnowsElements r list → KnowsElements t list
  elements_more list h = of list.origin h
    where
      of : (o : Origin) → KnowsOrigin r o → KnowsOrigin t o
      of (origins.List m k) h = tt
      of (origins.Set xs) h = names_more xs h

  pub context_more : (c : Context) → KnowsContext r c → KnowsContext t c
  context_more c h = record { this = on c.this.0 h.this; names = names_more c.names.now h.names }

module _ {S T : Type 0} {r : Told S} {t : Told T} (g : (i : Instance) (v : Value) → r.has i v → t.has i v) (names : ByEachIn t r.names) where
  pub stands_more : ((c : ℕ) → r.knows c → t.knows c) → {s : System} {place : Places} {m : Making} {b : Expression} {list : Elements} {stand : Stand} → Stands s r place m b list stand → Stands s t place m b list stand
  stands_more on {m = m} {stand = stand} h = record { gone = λ n at. gone_more g _ _ _ m _ _ (h.gone n (names n at)); within = h.within; coded = h.coded; known = value_more r t on stand.so_far h.known }

  pub ranged_more : {s : System} {place : Places} {e : Expression} {list : Elements} → IsRanged s r place e list → IsRanged s t place e list
  ranged_more h = λ n at. let one = h n (names n at) in record { value = one.value; comes = comes_more g one.comes; are = one.are }

  -- what is saved stays so
  pub saved_more : ((c : ℕ) → r.knows c → t.knows c) → {s : System} (x : Saved) → AreSaved s r x → AreSaved s t x
  saved_more on x h = λ going kept.
      let one = h going kept in
      record {
        names = one.names;
        room = one.room;
        node = on going.this.0 one.node;
        known = names_more r t on one.names one.known;
        elements = elements_more r t on going.list one.elements;
        ranged = ranged_more one.ranged;
        stands = stands_more on one.stands;
      }
