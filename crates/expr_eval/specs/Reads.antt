-- What evaluations say that go on with what is saved.
use Rattle.std.specs.Prelude.{◌≡◌, ◌<◌, ◌≤◌, ◌++◌, ℕ, List, Option, Result, Ok, Err}
use Rattle.attr_rules.specs.declared.expression.NewArgs.{NewArgs}
use Rattle.attr_rules.specs.declared.expression.TArgs.{TArgs}
use Rattle.attr_rules.specs.declared.expression.TExpr.{TExpr}
use Rattle.attr_rules.specs.declared.kinds.AttrId.{AttrId}
use Rattle.attr_rules.specs.declared.kinds.Kind.{Kind}
use Rattle.attr_rules.specs.declared.kinds.Params.{Params}
use Rattle.attr_rules.specs.Expression.{Arguments, Call, Expression, If, NewArguments, arguments_of, expression_of, new_arguments_of}
use Rattle.attr_rules.specs.Types.{parameter_kinds}
use Rattle.rag_io.specs.declared.Memory.{Memory as NoMemory}
use Rattle.rag_io.specs.declared.Place.{Place as TextPlace}
use Rattle.equation_law.specs.declared.coding.Args.{Args}
use Rattle.equation_law.specs.declared.coding.Single.{Single as CodedSingle}
use Rattle.equation_law.specs.declared.coding.Value.{Value as CodedValue}
use Rattle.equation_law.specs.declared.system.System.{System}
use Rattle.equation_law.specs.Codes.{Naming, single_by}
use Rattle.equation_law.specs.Meaning.{with_name}
use Rattle.equation_law.specs.Names.{Instance}
use Rattle.equation_law.specs.Program.{Program}
use Rattle.equation_law.specs.Reading.{ByEachIn, IsSound, Told}
use Rattle.equation_law.specs.Systems.{program_of}
use Rattle.equation_law.specs.Values.{Value}
use Rattle.expr_eval.specs.declared.accessors.Elements.{Elements}
use Rattle.expr_eval.specs.declared.evaluation.Context.{Context}
use Rattle.expr_eval.specs.declared.evaluation.Halt.{Halt}
use Rattle.expr_eval.specs.declared.evaluation.Halt.TheVariants.{Need, Memory}
use Rattle.expr_eval.specs.declared.saved.Making.{Making}
use Rattle.expr_eval.specs.declared.saved.Saved.{Saved}
use Rattle.expr_eval.specs.declared.saved.Stand.{Stand}
use Rattle.expr_eval.specs.declared.sites.Turn.{Turn}
use Rattle.expr_eval.specs.Elements.{KnowsElements, Rooms, element_in, read_with}
use Rattle.expr_eval.specs.Evaluating.{Answers, AnswersArguments, AnswersTurn, Asks, Places, Stopped, TokensGiven, TokensStopped, place_in, reads_at}
use Rattle.expr_eval.specs.Saved.{AreSaved, IsRanged, Stands, body_of, making_of}

-- what an evaluation goes by: what its reader tells, and what is saved
pub record State (S : Type 0) : Type 1 where
  pub system : System
  pub told : Told S
  pub saved : Saved

abbrev pub state : {S : Type 0} → System → Told S → Saved → State S
state s r x = record { system = s; told = r; saved = x }

-- the reader is for the program and never has two values, and all that is saved is so by the values that it has
pub record IsReady {S : Type 0} (p : Program) (r : State S) : Type 0 where
  pub sound : IsSound p r.told
  pub saved : AreSaved r.system r.told r.saved

-- the reader keeps what it has and comes to have no other values than it might, and it may be read by what it might before; what it knew it knows,
-- and all that is saved is so
pub record Advances {S : Type 0} (p : Program) (r s : State S) : Type 0 where
  pub sound : IsReady p s
  pub values : (i : Instance) (v : Value) → r.told.has i v → s.told.has i v
  pub bound : (i : Instance) (v : Value) → s.told.can i v → r.told.can i v
  pub kept : (x : S) → r.told.keeps x → s.told.keeps x
  pub names : ByEachIn s.told r.told.names
  pub known : (c : ℕ) → r.told.knows c → s.told.knows c
  pub heights : (c : ℕ) → s.told.height c ≤ r.told.height c

-- the answer to an expression, by what the reader has at the end
pub record Reads {S : Type 0} (p : Program) (r s : State S) (place : Places) (e : Expression) (result : Result CodedValue Halt) : Type 0 where
  pub kept : Advances p r s
  pub is : Answers p s.told (reads_at p place e) result

-- the answer to the arguments of a call
pub record ArgumentsRead {S : Type 0} (p : Program) (r s : State S) (place : Places) (ks : List Kind) (es : Arguments) (result : Result Args Halt) : Type 0 where
  pub kept : Advances p r s
  pub is : AnswersArguments p s.told place ks es result

-- the answer to the tokens of a `new`, whose codes come behind others
abbrev pub AnswersTokens : {S : Type 0} → Program → Told S → Places → NewArguments → List ℕ → List ℕ → Result Unit Halt → Type 0
AnswersTokens p s place parts before behind (Ok u) = (cs : List ℕ) × (behind ≡ before ++ cs) × TokensGiven p s place parts cs
AnswersTokens p s place parts before behind (Err (Need i)) = TokensStopped p s place parts i
AnswersTokens p s place parts before behind (Err Memory) = Unit {0}

pub record TokensRead {S : Type 0} (p : Program) (r s : State S) (place : Places) (parts : NewArguments) (before behind : List ℕ) (result : Result Unit Halt) : Type 0 where
  pub kept : Advances p r s
  pub is : AnswersTokens p s.told place parts before behind result

-- the elements of a form, of which the reader knows the nodes, and where it stands; there is room for one name more
pub record IsStood {S : Type 0} (s : System) (t : Told S) (place : Places) (names : List CodedSingle) (m : Making) (e b : Expression) (list : Elements) (stand : Stand) : Type 0 where
  pub room : Rooms names stand.names.items
  pub elements : KnowsElements t list
  pub ranged : IsRanged s t place e list
  pub stands : Stands s t place m b list stand

abbrev pub AnswersStand : {S : Type 0} → System → Told S → Places → List CodedSingle → Making → Expression → Expression → Result (Elements × Stand) Halt → Type 0
AnswersStand s t place names m e b (Ok (list, stand)) = IsStood s t place names m e b list stand
AnswersStand s t place names m e b (Err h) = Answers (program_of s) t (reads_at (program_of s) place e) (Err h)

pub record ReadsStand {S : Type 0} (s : System) (r t : State S) (place : Places) (names : List CodedSingle) (m : Making) (e b : Expression) (result : Result (Elements × Stand) Halt) : Type 0 where
  pub kept : Advances (program_of s) r t
  pub is : AnswersStand s t.told place names m e b result

-- what a form demands at an element, by what codes stand for
abbrev pub reads_with : System → Places → Expression → (Naming → Value) → Asks
reads_with s place b element = λ n. read_with (program_of s) (place n) b (element n)

-- a form went over the elements that were left: it stands behind all of them, or before one at which a demand has no value
abbrev pub AnswersOver : {S : Type 0} → System → Told S → Places → Making → Expression → Elements → Stand → Result Unit Halt → Type 0
AnswersOver s t place m b list stand (Ok u) = Stands s t place m b list stand × (stand.next ≡ list.count)
AnswersOver s t place m b list stand (Err (Need i)) = Stands s t place m b list stand × (stand.next < list.count) × Stopped (program_of s) t (reads_with s place b (λ n. element_in n s list stand.next)) i
AnswersOver s t place m b list stand (Err Memory) = Unit {0}

pub record GoesOver {S : Type 0} (s : System) (r t : State S) (place : Places) (m : Making) (b : Expression) (list : Elements) (stand : Stand) (result : Result Unit Halt) : Type 0 where
  pub kept : Advances (program_of s) r t
  pub is : AnswersOver s t.told place m b list stand result

-- what a turn says of some demands that goes on with what is saved
pub record Resumes {S : Type 0} (p : Program) (r s : State S) (c : Asks) (result : Result Turn NoMemory) : Type 0 where
  pub kept : Advances p r s
  pub answer : AnswersTurn p s.told c result

-- the place of a context, with an element in front of the names
abbrev pub places_with : Context → CodedSingle → Places
places_with c element = λ n. with_name (place_in c n) (single_by n element)

-- The same in a context: r and x are what the reader tells and what is saved before the call, and s and y are these behind it.
module _ {S : Type 0} (c : Context) (r : Told S) (x : Saved) (s : Told S) (y : Saved) where
  -- a form is read
  abbrev pub ReadsIn : TExpr → Result CodedValue Halt → Type 0
  ReadsIn e result = Reads (program_of c.system.now) (state c.system.now r x) (state c.system.now s y) (place_in c) (expression_of e) result

  -- a form is read at an element, which stands in front of the names
  abbrev pub ReadsAt : CodedSingle → TExpr → Result CodedValue Halt → Type 0
  ReadsAt element e result = Reads (program_of c.system.now) (state c.system.now r x) (state c.system.now s y) (places_with c element) (expression_of e) result

  -- a call is read, wherever it is written
  abbrev pub ReadsCall : AttrId → TExpr → TArgs → Result CodedValue Halt → Type 0
  ReadsCall called receiver arguments result = (here : TextPlace)
      → Reads (program_of c.system.now) (state c.system.now r x) (state c.system.now s y) (place_in c) (Call called.0 here (expression_of receiver) (arguments_of arguments)) result

  -- a choice is read, wherever its else part is written
  abbrev pub ReadsChoice : TExpr → TExpr → TExpr → Result CodedValue Halt → Type 0
  ReadsChoice condition first second result = (here : Option TextPlace)
      → Reads (program_of c.system.now) (state c.system.now r x) (state c.system.now s y) (place_in c) (If (expression_of condition) (expression_of first) here (expression_of second)) result

  -- the arguments of a call are read for its parameters
  abbrev pub ArgumentsReadIn : Params → TArgs → Result Args Halt → Type 0
  ArgumentsReadIn parameters arguments result = ArgumentsRead (program_of c.system.now) (state c.system.now r x) (state c.system.now s y) (place_in c) (parameter_kinds parameters) (arguments_of arguments) result

  -- the tokens of a `new` are read, and their codes put behind others
  abbrev pub TokensReadIn : NewArgs → List ℕ → List ℕ → Result Unit Halt → Type 0
  TokensReadIn parts before behind result = TokensRead (program_of c.system.now) (state c.system.now r x) (state c.system.now s y) (place_in c) (new_arguments_of parts) before behind result

  -- a form's elements are read, and where it stands
  abbrev pub ReadsStandIn : TExpr → Result (Elements × Stand) Halt → Type 0
  ReadsStandIn e result = ReadsStand c.system.now (state c.system.now r x) (state c.system.now s y) (place_in c) c.names.now (making_of (expression_of e)) (expression_of e) (body_of (expression_of e)) result

  -- a form goes over the elements that are left
  abbrev pub GoesOverIn : Making → TExpr → Elements → Stand → Result Unit Halt → Type 0
  GoesOverIn m body list stand result = GoesOver c.system.now (state c.system.now r x) (state c.system.now s y) (place_in c) m (expression_of body) list stand result

-- the same of a turn over a system, which goes on with what is saved
abbrev pub ResumesIn : {S : Type 0} → System → Told S → Saved → Told S → Saved → Asks → Result Turn NoMemory → Type 0
ResumesIn system r x s y c result = Resumes (program_of system) (state system r x) (state system s y) c result
