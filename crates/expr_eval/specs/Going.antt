-- How far a form over a list or a set has gone.
use Rattle.std.specs.Prelude.{◌≡◌, ◌<◌, ℕ, ◌+◌, Bool, false, true, List}
use Rattle.solutions.specs.Asking.{Demands, Ends}
use Rattle.equation_law.specs.Names.{Instance, Null}
use Rattle.attr_rules.specs.declared.kinds.Kind.{Kind}
use Rattle.attr_rules.specs.declared.expression.SetOperator.TheVariants.{Union}
use Rattle.equation_law.specs.Values.{Node, Value, default_of, set_operate, truth}

module _ (A : Instance → Value → Type 0) (element : ℕ → Value) (condition : Value → Demands Instance Value) where
  -- the condition was evaluated at so many elements, and what it said put together
  pub data Went (put : Bool → Bool → Bool) (start : Bool) : ℕ → Bool → Type 0 where
    nowhere : Went put start 0 start
    further : {n : ℕ} {b : Bool} {v : Value} {ds : List Instance} → Went put start n b → Ends A (condition (element n)) v ds → Went put start (n + 1) (put b (truth v))

  -- it was false at so many elements
  pub data Passed : ℕ → Type 0 where
    none : Passed 0
    more : {n : ℕ} {v : Value} {ds : List Instance} → Passed n → Ends A (condition (element n)) v ds → truth v ≡ false → Passed (n + 1)

  -- what was said at so many elements, joined to a set of a type
  pub data Joined (t : Kind) : ℕ → Value → Type 0 where
    nothing : Joined t 0 (default_of t)
    joined : {n : ℕ} {w v : Value} {ds : List Instance} → Joined t n w → Ends A (condition (element n)) v ds → Joined t (n + 1) (set_operate Union t w v)

  -- of so many elements none was gone over at which it is true, and the value is null; or one was found, which is the value then, and all are gone over
  pub data Sought (count : ℕ) : ℕ → Value → Type 0 where
    seeks : {n : ℕ} → Passed n → Sought count n (Node Null)
    found : {n : ℕ} {v : Value} {ds : List Instance} → n < count → Passed n → Ends A (condition (element n)) v ds → truth v ≡ true → Sought count count (element n)
