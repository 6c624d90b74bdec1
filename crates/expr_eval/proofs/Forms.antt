-- The answers to an expression from those to its parts, form by form.
use Rattle.std.proofs.Common.{◌≡◌, ◌≤◌, ℕ, arith, List, Option, None, Some, [], ◌∷◌, ◌++◌, Bool, true, false, cond, Result, Ok, Err, IfOk, length, refl, sym, ap, subst, ◌∙◌}
use Rattle.std.specs.Result.{IsErr, IsErrAnd}
use Rattle.std.proofs.lemmas.Result.{err_from_is_err_and}
use Rattle.rag_io.specs.declared.Place.{Place as TextPlace}
use Rattle.attr_rules.specs.declared.expression.TExpr.{TExpr}
use Rattle.attr_rules.specs.declared.expression.TExpr.TheVariants as kept
use Rattle.attr_rules.specs.declared.kinds.Kind.{Kind}
use Rattle.attr_rules.specs.Expression.{Arguments, Expression, Truth as TruthLiteral, Int as IntLiteral, Text as TextLiteral, Null as NullLiteral, Empty, This, Variable, Source as SourceNode, Call, And, Or, If, New, expression_of}
use Rattle.tree_arena.specs.Nodes.{most_nodes}
use Rattle.solutions.specs.Asking.{Demands, Gives, Ends, Halts, after, asks, at, gives, next}
use Rattle.solutions.proofs.Runs.{ends_more}
use Rattle.equation_law.specs.declared.coding.Args.{Args}
use Rattle.equation_law.specs.declared.coding.Instance.TheVariants as coded_instance
use Rattle.equation_law.specs.declared.coding.Single.{Single as CodedSingle}
use Rattle.equation_law.specs.declared.coding.Value.{Value as CodedValue}
use Rattle.equation_law.specs.declared.coding.Value.TheVariants as coded
use Rattle.equation_law.specs.Codes.{AreElements, ByEachNaming, IsNamingOf, Naming, instance_by, reference_by, value_by}
use Rattle.equation_law.specs.Equations.{world_of}
use Rattle.equation_law.specs.Meaning.{Place, World, call_at, token_at, with_arguments}
use Rattle.equation_law.specs.Names.{Instance, Reference}
use Rattle.equation_law.specs.Program.{Program, attribute_parameters}
use Rattle.equation_law.specs.Reading.{ByEachIn, Grows, KnowsValue, Told}
use Rattle.equation_law.specs.Values.{Value, Truth, node, truth}
use Rattle.set_values.specs.Ordered.{KnowsSingle}
use Rattle.expr_eval.specs.declared.accessors.Elements.{Elements}
use Rattle.expr_eval.specs.declared.evaluation.Context.{Context}
use Rattle.expr_eval.specs.declared.evaluation.Halt.{Halt}
use Rattle.expr_eval.specs.declared.evaluation.Halt.TheVariants.{Need, Memory}
use Rattle.expr_eval.specs.Evaluating.{Answers, Asks, CallReads, Collects, Comes, Given, KnowsContext, Places, TokenReads, Wants, end, more, read_at, reads_at}
use Rattle.expr_eval.specs.Elements.{KnowsElements}
use Rattle.expr_eval.specs.Made.{NodeReads}
use Rattle.expr_eval.specs.Parts.{IsMade, IsRounded, IsSaid, OneMakes, TwoMake, is_leaf, is_node_form, leaf_value, made_of_node, made_of_one, made_of_two, node_part, part_of, parts_of, token_read}
use Rattle.expr_eval.specs.Reads.{Advances, ArgumentsRead, IsReady, Reads, State, state}
use Rattle.expr_eval.proofs.Growing.{comes_more, context_more, elements_more, saved_more, single_more, value_more}
use Rattle.expr_eval.proofs.Knowing.{InValue, by_sources, one_in, two_in, value_in, value_known}

-- what it has it keeps
pub advances_self : {S : Type 0} {p : Program} {r : State S} → IsReady p r → Advances p r r
advances_self h = record { sound = h; values = λ i v a. a; bound = λ i v a. a; kept = λ x a. a; names = λ n a. a; known = λ c a. a; heights = λ c. omega arith }

pub advances_then : {S : Type 0} {p : Program} {r m s : State S} → Advances p r m → Advances p m s → Advances p r s
advances_then g h = record { sound = h.sound; values = λ i v a. h.values i v (g.values i v a); bound = λ i v a. g.bound i v (h.bound i v a); kept = λ x a. h.kept x (g.kept x a); names = λ n a. g.names n (h.names n a); known = λ c a. h.known c (g.known c a); heights = λ c. omega (arith, g.heights c, h.heights c) }

-- the reader alone goes on
pub advances_read : {S : Type 0} {p : Program} {r : State S} {s : Told S} → IsReady p r → Grows p r.told s → Advances p r (state r.system s r.saved)
advances_read {r = r} h g = record { sound = record { sound = g.sound; saved = saved_more g.values g.names g.known r.saved h.saved }; values = g.values; bound = g.bound; kept = g.kept; names = g.names; known = g.known; heights = g.heights }

-- what the reader knew it knows
module _ {S : Type 0} {p : Program} {r s : State S} (g : Advances p r s) where
  pub context_later : (c : Context) → KnowsContext r.told c → KnowsContext s.told c
  context_later c h = context_more r.told s.told g.known c h

  pub elements_later : (list : Elements) → KnowsElements r.told list → KnowsElements s.told list
  elements_later list h = elements_more r.told s.told g.known list h

  pub single_later : (x : CodedSingle) → KnowsSingle r.told x → KnowsSingle s.told x
  single_later x h = single_more r.told s.told g.known x h

  pub value_later : (v : CodedValue) → KnowsValue r.told v → KnowsValue s.told v
  value_later v h = value_more r.told s.told g.known v h

-- by what it may be read is a naming for the program
pub naming_in : {S : Type 0} {p : Program} {r s : State S} → Advances p r s → (n : Naming) → s.told.names n → IsNamingOf p n
naming_in h n named = h.sound.sound.named n named

-- demands put one after the other
pub ends_next : {A : Instance → Value → Type 0} {c : Demands Instance Value} (k : Value → Demands Instance Value) {v w : Value} {ds es : List Instance} → Ends A c v ds → Ends A (k v) w es → Ends A (next c k) w (ds ++ es)
ends_next k gives f = f
ends_next k (asks a e) f = asks a (ends_next k e f)

pub halts_next : {A : Instance → Value → Type 0} {c : Demands Instance Value} (k : Value → Demands Instance Value) {v : Value} {j : Instance} {ds es : List Instance} → Ends A c v ds → Halts A (k v) j es → Halts A (next c k) j (ds ++ es)
halts_next k gives f = f
halts_next k (asks a e) f = after a (halts_next k e f)

pub halts_first : {A : Instance → Value → Type 0} {c : Demands Instance Value} (k : Value → Demands Instance Value) {j : Instance} {ds : List Instance} → Halts A c j ds → Halts A (next c k) j ds
halts_first k (at n) = at n
halts_first k (after a e) = after a (halts_first k e)

-- what is demanded, and then what follows with the value
abbrev pub then_asks : Asks → (Naming → Value → Demands Instance Value) → Asks
then_asks c k = λ n. next (c n) (k n)

module _ {A : Instance → Value → Type 0} {c : Demands Instance Value} (k : Value → Demands Instance Value) where
  pub comes_next : {v w : Value} → Comes A c v → Comes A (k v) w → Comes A (next c k) w
  comes_next x y = (x.0 ++ y.0, ends_next k x.1 y.1)

  pub wants_next : {v : Value} {j : Instance} → Comes A c v → Wants A (k v) j → Wants A (next c k) j
  wants_next x y = (x.0 ++ y.0, halts_next k x.1 y.1)

  pub wants_first : {j : Instance} → Wants A c j → Wants A (next c k) j
  wants_first x = (x.0, halts_first k x.1)

-- demands that are others, by what the reader may be read
pub answers_as : {S : Type 0} (p : Program) (s : Told S) (c d : Asks) (res : Result CodedValue Halt) → ByEachIn s (λ n. c n ≡ d n) → Answers p s c res → Answers p s d res
answers_as p s c d (Ok v) same a = record { comes = λ n at. subst (λ x. Comes s.has x (value_by n v)) (same n at) (a.comes n at); coded = a.coded; known = a.known }
answers_as p s c d (Err (Need i)) same a = record { wants = λ n at. subst (λ x. Wants s.has x (instance_by p n i)) (same n at) (a.wants n at); coded = a.coded; known = a.known }
answers_as p s c d (Err Memory) same a = tt

module _ {S : Type 0} (p : Program) (s : Told S) (c : Asks) (k : Naming → Value → Demands Instance Value) where
  -- a part that has no value leaves the whole without one
  pub part_err : (h : Halt) → Answers p s c (Err h) → Answers p s (then_asks c k) (Err h)
  part_err (Need i) a = record { wants = λ n at. wants_first (k n) (a.wants n at); coded = a.coded; known = a.known }
  part_err Memory a = tt

  -- a part that has a value, and what follows with it
  part_ok : (v : CodedValue) (res : Result CodedValue Halt) → Given p s c v → Answers p s (λ n. k n (value_by n v)) res → Answers p s (then_asks c k) res
  part_ok v (Ok w) g a = record { comes = λ n at. comes_next (k n) (g.comes n at) (a.comes n at); coded = a.coded; known = a.known }
  part_ok v (Err (Need i)) g a = record { wants = λ n at. wants_next (k n) (g.comes n at) (a.wants n at); coded = a.coded; known = a.known }
  part_ok v (Err Memory) g a = tt

given_more : {S : Type 0} {p : Program} {m s : State S} {c : Asks} {v : CodedValue} → Advances p m s → Given p m.told c v → Given p s.told c v
given_more {v = v} g a = record { comes = λ n at. comes_more g.values (a.comes n (g.names n at)); coded = a.coded; known = value_later g v a.known }

pub gives_value : {S : Type 0} {p : Program} {s : Told S} {w : Naming → Value} {x : CodedValue} → ByEachIn s (λ n. value_by n x ≡ w n) → AreElements p x → KnowsValue s x → Given p s (λ n. Gives (w n)) x
gives_value {p = p} {s = s} {x = x} e h known = record { comes = λ n at. subst (λ v. Comes s.has (Gives v) (value_by n x)) (e n at) ([], gives); coded = h; known = known }

-- the truth value, whatever codes stand for
abbrev pub ReadsTruth : Bool → CodedValue → Type 0
ReadsTruth t v = (n : Naming) → t ≡ truth (value_by n v)

-- the node, by its code, whatever codes stand for
abbrev pub ReadsNode : ℕ → CodedValue → Type 0
ReadsNode o v = (n : Naming) → reference_by n.node o ≡ node (value_by n v)

-- a test that was evaluated
tested : {S : Type 0} (p : Program) (s : Told S) (b : Bool) (t : Naming → Bool) (x y : Asks) (res : Result CodedValue Halt) → ((n : Naming) → t n ≡ b) → Answers p s (λ n. cond b (x n) (y n)) res → Answers p s (λ n. cond (t n) (x n) (y n)) res
tested p s b t x y res e a = answers_as p s (λ n. cond b (x n) (y n)) (λ n. cond (t n) (x n) (y n)) res (λ n at. ap (λ z. cond z (x n) (y n)) (sym (e n))) a

module _ {S : Type 0} (p : Program) (s : Told S) where
  -- what is done with the values of arguments
  collected_comes : {place : Place} {es : Arguments} {vs : List Value} (f : List Value → Demands Instance Value) {w : Value} → Collects s.has (world_of p) place es vs → Comes s.has (f vs) w → Comes s.has (with_arguments (world_of p) es place f) w
  collected_comes f end a = a
  collected_comes {place} f (more {es = es} {v = v} ends rest) a = comes_next (λ w. with_arguments (world_of p) es place (λ ws. f (w ∷ ws))) (_, ends) (collected_comes (λ ws. f (v ∷ ws)) rest a)

  collected_wants : {place : Place} {es : Arguments} {vs : List Value} (f : List Value → Demands Instance Value) {j : Instance} → Collects s.has (world_of p) place es vs → Wants s.has (f vs) j → Wants s.has (with_arguments (world_of p) es place f) j
  collected_wants f end a = a
  collected_wants {place} f (more {es = es} {v = v} ends rest) a = wants_next (λ w. with_arguments (world_of p) es place (λ ws. f (w ∷ ws))) (_, ends) (collected_wants (λ ws. f (v ∷ ws)) rest a)

  collected : (place : Places) {es : Arguments} (vs : Naming → List Value) (f : Naming → List Value → Demands Instance Value) (res : Result CodedValue Halt) → ByEachIn s (λ n. Collects s.has (world_of p) (place n) es (vs n)) → Answers p s (λ n. f n (vs n)) res
      → Answers p s (λ n. with_arguments (world_of p) es (place n) (f n)) res
  collected place vs f (Ok w) all a = record { comes = λ n at. collected_comes (f n) (all n at) (a.comes n at); coded = a.coded; known = a.known }
  collected place vs f (Err (Need i)) all a = record { wants = λ n at. collected_wants (f n) (all n at) (a.wants n at); coded = a.coded; known = a.known }
  collected place vs f (Err Memory) all a = tt

-- what follows a receiver: the arguments, and then the call
abbrev behind_receiver : Program → Places → ℕ → Arguments → Naming → Value → Demands Instance Value
behind_receiver p place t es n r = with_arguments (world_of p) es (place n) (λ vs. call_at (world_of p) t (node r) vs)

-- values that arguments come to stay
pub collects_more : {A B : Instance → Value → Type 0} {W : World} {place : Place} {es : Arguments} {vs : List Value} → ((i : Instance) (v : Value) → A i v → B i v) → Collects A W place es vs → Collects B W place es vs
collects_more f end = end
collects_more f (more ends rest) = more (ends_more f ends) (collects_more f rest)

no_value : {h : Halt} {v : CodedValue} → Err h ≡ Ok v → ⊥
no_value {h} {v} there = cc

-- the truth value that came is that of a value
pub said_is : (came : Result CodedValue Halt) {t : Bool} → IsSaid came (Some t) → (v : CodedValue) × (came ≡ Ok v) × ReadsTruth t v
said_is (Ok v) {t = t} h = let answer : Some t ≡ Some h.0 = h.2 in let same : t ≡ h.0 = cc in (v, refl, λ n. same ∙ h.1 n)
said_is (Err k) {t = t} h = absurd (let none : Some t ≡ None = h in cc)

pub none_said : (came : Result CodedValue Halt) → IsSaid came None → (k : Halt) × (came ≡ Err k)
none_said (Ok v) h = absurd (let none : None ≡ Some h.0 = h.2 in cc)
none_said (Err k) h = (k, refl)

-- what a form without parts demands
leaf_gives : (p : Program) (place : Place) (e : Expression) → is_leaf e ≡ true → read_at p place e ≡ Gives (leaf_value (world_of p) place e)
leaf_gives p place (TruthLiteral b) h = refl
leaf_gives p place (IntLiteral z) h = refl
leaf_gives p place (TextLiteral n) h = refl
leaf_gives p place NullLiteral h = refl
leaf_gives p place Empty h = refl
leaf_gives p place This h = refl
leaf_gives p place (Variable k) h = refl
leaf_gives p place (SourceNode k) h = refl
leaf_gives p place (New c fields) h = refl
leaf_gives p place _ h = cc

-- a form demands what its part does, and makes its value of that of the part
abbrev MadeOfOne : Program → Place → TExpr → TExpr → Type 0
MadeOfOne p place e a = read_at p place (expression_of e) ≡ next (read_at p place (expression_of a)) (λ v. Gives (made_of_one (world_of p) (expression_of e) v))

of_part : (p : Program) (place : Place) (e : TExpr) {b a : TExpr} → Some b ≡ Some a → MadeOfOne p place e b → MadeOfOne p place e a
of_part p place e {b} {a} h made = let same : b ≡ a = cc in subst (MadeOfOne p place e) same made

one_part : (p : Program) (place : Place) (e a : TExpr) → part_of e ≡ Some a → MadeOfOne p place e a
one_part p place (kept.Count' k o e) a h = of_part p place (kept.Count' k o e) h refl
one_part p place (kept.Single' o e) a h = of_part p place (kept.Single' o e) h refl
one_part p place (kept.Size' o e) a h = of_part p place (kept.Size' o e) h refl
one_part p place (kept.Not' o e) a h = of_part p place (kept.Not' o e) h refl
one_part p place (kept.Negate' o e) a h = of_part p place (kept.Negate' o e) h refl
one_part p place _ a h = cc

-- a form demands what its part does, and makes its value of the node that the part gives
abbrev MadeOfNode : Program → Place → TExpr → TExpr → Type 0
MadeOfNode p place e a = read_at p place (expression_of e) ≡ next (read_at p place (expression_of a)) (λ v. Gives (made_of_node (world_of p) (expression_of e) (node v)))

of_node_part : (p : Program) (place : Place) (e : TExpr) {b a : TExpr} → Some b ≡ Some a → MadeOfNode p place e b → MadeOfNode p place e a
of_node_part p place e {b} {a} h made = let same : b ≡ a = cc in subst (MadeOfNode p place e) same made

node_parts : (p : Program) (place : Place) (e a : TExpr) → node_part e ≡ Some a → MadeOfNode p place e a
node_parts p place (kept.Child' k o e) a h = of_node_part p place (kept.Child' k o e) h refl
node_parts p place (kept.Has' k o e) a h = of_node_part p place (kept.Has' k o e) h refl
node_parts p place (kept.Cast' c o e) a h = of_node_part p place (kept.Cast' c o e) h refl
node_parts p place (kept.InstanceOf' c o e) a h = of_node_part p place (kept.InstanceOf' c o e) h refl
node_parts p place _ a h = cc

-- a form that is kept with such a part is one that makes its value of a node
pub node_form : (e a : TExpr) → node_part e ≡ Some a → is_node_form (expression_of e) ≡ true
node_form (kept.Child' k o e) a h = refl
node_form (kept.Has' k o e) a h = refl
node_form (kept.Cast' c o e) a h = refl
node_form (kept.InstanceOf' c o e) a h = refl
node_form _ a h = cc

-- a form that reads a token demands what its part does, and then what the token of the node demands
abbrev ReadsToken : Program → Place → TExpr → Kind × ℕ × TExpr → Type 0
ReadsToken p place e x = read_at p place (expression_of e) ≡ next (read_at p place (expression_of x.2)) (λ v. token_at (world_of p) x.0 x.1 (node v))

of_token : (p : Program) (place : Place) (e : TExpr) {y x : Kind × ℕ × TExpr} → Some y ≡ Some x → ReadsToken p place e y → ReadsToken p place e x
of_token p place e {y} {x} h reads = let same : y ≡ x = cc in subst (ReadsToken p place e) same reads

token_part : (p : Program) (place : Place) (e : TExpr) (t : Kind) (k : ℕ) (a : TExpr) → token_read e ≡ Some (t, k, a) → ReadsToken p place e (t, k, a)
token_part p place (kept.Token' u m o e) t k a h = of_token p place (kept.Token' u m o e) h refl
token_part p place _ t k a h = cc

-- the same of two parts
abbrev MadeOfTwo : Program → Place → TExpr → TExpr × TExpr → Type 0
MadeOfTwo p place e x = read_at p place (expression_of e) ≡ next (read_at p place (expression_of x.0)) (λ v. next (read_at p place (expression_of x.1)) (λ w. Gives (made_of_two (world_of p) (expression_of e) v w)))

of_parts : (p : Program) (place : Place) (e : TExpr) {y x : TExpr × TExpr} → Some y ≡ Some x → MadeOfTwo p place e y → MadeOfTwo p place e x
of_parts p place e {y} {x} h made = let same : y ≡ x = cc in subst (MadeOfTwo p place e) same made

two_parts : (p : Program) (place : Place) (e a b : TExpr) → parts_of e ≡ Some (a, b) → MadeOfTwo p place e (a, b)
two_parts p place (kept.Element' k m x n y) a b h = of_parts p place (kept.Element' k m x n y) h refl
two_parts p place (kept.Sets' o t m x n y) a b h = of_parts p place (kept.Sets' o t m x n y) h refl
two_parts p place (kept.Contains' m x n y) a b h = of_parts p place (kept.Contains' m x n y) h refl
two_parts p place (kept.Binary' o m x n y) a b h = of_parts p place (kept.Binary' o m x n y) h refl
two_parts p place (kept.OrBoth' m x n y) a b h = of_parts p place (kept.OrBoth' m x n y) h refl
two_parts p place _ a b h = cc

-- what an expression demands begins with what a part does, by each naming
abbrev Begins : Program → Places → Expression → Expression → (Naming → Value → Demands Instance Value) → Type 0
Begins p place whole part k = (n : Naming) → read_at p (place n) whole ≡ next (read_at p (place n) part) (k n)

module _ (p : Program) (place : Places) where
  -- what follows the first of two parts
  abbrev behind_first : TExpr → TExpr → Naming → Value → Demands Instance Value
  behind_first e b n v = next (read_at p (place n) (expression_of b)) (λ w. Gives (made_of_two (world_of p) (expression_of e) v w))

  -- what follows the left part of `&&` and of `||`, and the condition of a choice
  abbrev right_of : Expression → Asks
  right_of b = λ n. next (read_at p (place n) b) (λ w. Gives (Truth (truth w)))

  abbrev behind_and : Expression → Naming → Value → Demands Instance Value
  behind_and b n v = cond (truth v) (right_of b n) (Gives (Truth false))

  abbrev behind_or : Expression → Naming → Value → Demands Instance Value
  behind_or b n v = cond (truth v) (Gives (Truth true)) (right_of b n)

  abbrev behind_condition : Expression → Expression → Naming → Value → Demands Instance Value
  behind_condition a b n v = cond (truth v) (read_at p (place n) a) (read_at p (place n) b)

-- a truth value that is given
gives_truth : {S : Type 0} {p : Program} {s : Told S} (t : Bool) → Given p s (λ n. Gives (Truth t)) (coded.Truth t)
gives_truth t = gives_value (λ n at. refl) tt tt

module _ {p : Program} {place : Places} where
  -- an expression that is kept in this form
  pub said : {S : Type 0} {r s : State S} {e f : TExpr} {res : Result CodedValue Halt} → e ≡ f → Reads p r s place (expression_of f) res → Reads p r s place (expression_of e) res
  said {r = r} {s = s} {res = res} h a = subst (λ x. Reads p r s place (expression_of x) res) (sym h) a

  -- a part that lies in a box
  pub boxed : {S : Type 0} {r s : State S} {d a : TExpr} {res : Result CodedValue Halt} → d ≡ a → Reads p r s place (expression_of d) res → Reads p r s place (expression_of a) res
  boxed {r = r} {s = s} {res = res} h a = subst (λ x. Reads p r s place (expression_of x) res) h a

  pub call_boxed : {S : Type 0} {r s : State S} {d a : TExpr} {es : Arguments} {t : ℕ} {here : TextPlace} {res : Result CodedValue Halt} → d ≡ a → Reads p r s place (Call t here (expression_of d) es) res → Reads p r s place (Call t here (expression_of a) es) res
  call_boxed {r = r} {s = s} {es = es} {t = t} {here = here} {res = res} h x = subst (λ o. Reads p r s place (Call t here (expression_of o) es) res) h x

  pub choice_boxed : {S : Type 0} {r s : State S} {c d a e b f : TExpr} {here : Option TextPlace} {res : Result CodedValue Halt} → c ≡ d → a ≡ e → b ≡ f
      → Reads p r s place (If (expression_of c) (expression_of a) here (expression_of b)) res → Reads p r s place (If (expression_of d) (expression_of e) here (expression_of f)) res
  choice_boxed {r = r} {s = s} {d = d} {a = a} {e = e} {b = b} {here = here} {res = res} h i j x =
      let tested = subst (λ o. Reads p r s place (If (expression_of o) (expression_of a) here (expression_of b)) res) h x in
      let first = subst (λ o. Reads p r s place (If (expression_of d) (expression_of o) here (expression_of b)) res) i tested in
      subst (λ o. Reads p r s place (If (expression_of d) (expression_of e) here (expression_of o)) res) j first

  -- the answer of a part that is handed on
  pub thrown : {S : Type 0} {r s : State S} {e : Expression} {h : Halt} {res : Result CodedValue Halt} → IsErr res × IsErrAnd res (λ m. m ≡ h) → Reads p r s place e (Err h) → Reads p r s place e res
  thrown {r = r} {s = s} {e = e} {res = res} f a = let g = err_from_is_err_and res f.1 in subst (Reads p r s place e) (sym (g.1 ∙ ap Err g.2)) a

  -- a form without parts
  pub leaf_reads : {S : Type 0} {r : State S} {e : Expression} {res : Result CodedValue Halt} → (ready : IsReady p r) → is_leaf e ≡ true → IsMade p (λ n. leaf_value (world_of p) (place n) e) res → InValue r.told.knows (leaf_value (world_of p) (place (by_sources ready.sound)) e) → Reads p r r place e res
  leaf_reads {r = r} {e = e} {res = Ok x} h is made known = record { kept = advances_self h; is = subst (λ c. Given p r.told c x) (λ i n. sym (leaf_gives p (place n) e is) i) (gives_value (λ n at. made.0 n (h.sound.named n at)) made.1 (value_known h.sound x made.0 known)) }
  leaf_reads {r = r} {e = e} {res = Err k} h is none known = subst (λ j. Reads p r r place e (Err j)) (sym none) (record { kept = advances_self h; is = tt })

  -- a whole that begins with the part
  stops : {S : Type 0} {r s : State S} (whole part : Expression) (h : Halt) (k : Naming → Value → Demands Instance Value) → Begins p place whole part k → Reads p r s place part (Err h) → Reads p r s place whole (Err h)
  stops {s = s} whole part h k b a = record { kept = a.kept; is = subst (λ c. Answers p s.told c (Err h)) (λ i n. sym (b n) i) (part_err p s.told (reads_at p place part) k h a.is) }

  -- a whole goes on behind a part with a value
  goes : {S : Type 0} {r m s : State S} (whole part : Expression) (v : CodedValue) (res : Result CodedValue Halt) (k : Naming → Value → Demands Instance Value) → Begins p place whole part k → Reads p r m place part (Ok v) → Advances p m s
      → Answers p s.told (λ n. k n (value_by n v)) res → Reads p r s place whole res
  goes {s = s} whole part v res k b a g n =
      record { kept = advances_then a.kept g; is = subst (λ c. Answers p s.told c res) (λ i m. sym (b m) i) (part_ok p s.told (reads_at p place part) k v res (given_more g a.is) n) }

  -- and ends with a value
  ends : {S : Type 0} {r s : State S} (whole part : Expression) (v x : CodedValue) (k : Naming → Value → Demands Instance Value) → Begins p place whole part k → Reads p r s place part (Ok v) → (w : Naming → Value) → ((n : Naming) → k n (value_by n v) ≡ Gives (w n))
      → ByEachNaming p (λ n. value_by n x ≡ w n) → AreElements p x → KnowsValue s.told x → Reads p r s place whole (Ok x)
  ends {s = s} whole part v x k b a w is e good known =
      goes whole part v (Ok x) k b a (advances_self a.kept.sound) (subst (λ c. Given p s.told c x) (λ i n. sym (is n) i) (gives_value (λ n at. e n (naming_in a.kept n at)) good known))

  -- what follows a first part begins with a second one
  second_stops : {S : Type 0} {m s : State S} (part : Expression) (h : Halt) (k : Naming → Value → Demands Instance Value) → Reads p m s place part (Err h) → Answers p s.told (then_asks (reads_at p place part) k) (Err h)
  second_stops {s = s} part h k a = part_err p s.told (reads_at p place part) k h a.is

  second_goes : {S : Type 0} {m s : State S} (part : Expression) (v x : CodedValue) (k : Naming → Value → Demands Instance Value) → Reads p m s place part (Ok v) → (w : Naming → Value) → ((n : Naming) → k n (value_by n v) ≡ Gives (w n)) → ByEachNaming p (λ n. value_by n x ≡ w n)
      → AreElements p x → KnowsValue s.told x → Answers p s.told (then_asks (reads_at p place part) k) (Ok x)
  second_goes {s = s} part v x k a w is e good known = part_ok p s.told (reads_at p place part) k v (Ok x) a.is (subst (λ c. Given p s.told c x) (λ i n. sym (is n) i) (gives_value (λ n at. e n (naming_in a.kept n at)) good known))

  -- a call
  pub call_stops : {S : Type 0} {r s : State S} {a : Expression} {es : Arguments} {h : Halt} {t : ℕ} {here : TextPlace} → Reads p r s place a (Err h) → Reads p r s place (Call t here a es) (Err h)
  call_stops {a = a} {es = es} {h = h} {t = t} {here = here} x = stops (Call t here a es) a h (behind_receiver p place t es) (λ n. refl) x

  -- its arguments have no values
  pub call_stops_at : {S : Type 0} {r m s : State S} {a : Expression} {es : Arguments} {ks : List Kind} {v : CodedValue} {h : Halt} {t : ℕ} {here : TextPlace} → Reads p r m place a (Ok v) → ArgumentsRead p m s place ks es (Err h) → Reads p r s place (Call t here a es) (Err h)
  call_stops_at {a = a} {es = es} {v = v} {h = Need i} {t = t} {here = here} x y =
      goes (Call t here a es) a v (Err (Need i)) (behind_receiver p place t es) (λ n. refl) x y.kept (record { wants = λ n at. y.is.stopped n at (λ vs. call_at (world_of p) t (node (value_by n v)) vs); coded = y.is.coded; known = y.is.known })
  call_stops_at {a = a} {es = es} {v = v} {h = Memory} {t = t} {here = here} x y = goes (Call t here a es) a v (Err Memory) (behind_receiver p place t es) (λ n. refl) x y.kept tt

  pub call_goes : {S : Type 0} {r m n : State S} {u : Told S} {a : Expression} {es : Arguments} {xs : Args} {v : CodedValue} {t o : ℕ} {here : TextPlace} {res : Result CodedValue Halt} → Reads p r m place a (Ok v) → ReadsNode o v → ArgumentsRead p m n place (attribute_parameters p t) es (Ok xs) → CallReads p n.told u t o xs res
      → Reads p r (state n.system u n.saved) place (Call t here a es) res
  call_goes {u = u} {a = a} {es = es} {xs = xs} {v = v} {t = t} {here = here} {res = res} x is y c =
      let vs = y.is.values in
      let said = subst (λ (o : Naming → Reference). Answers p u (λ n. call_at (world_of p) t (o n) (vs n)) res) (λ i n. is n i) (c.is vs (λ n at. y.is.are n (c.kept.names n at))) in
      goes (Call t here a es) a v res (behind_receiver p place t es) (λ n. refl) x (advances_then y.kept (advances_read y.kept.sound c.kept))
      (collected p u place vs (λ n vs. call_at (world_of p) t (node (value_by n v)) vs) res (λ n at. collects_more c.kept.values (y.is.collects n (c.kept.names n at))) said)

  -- an answer that is another one
  pub came_as : {S : Type 0} {r s : State S} {e : Expression} {res other : Result CodedValue Halt} → res ≡ other → Reads p r s place e res → Reads p r s place e other
  came_as {r = r} {s = s} {e = e} same a = subst (Reads p r s place e) same a

  -- an expression that is another one
  pub read_as : {S : Type 0} {r s : State S} {e f : Expression} {res : Result CodedValue Halt} → e ≡ f → Reads p r s place e res → Reads p r s place f res
  read_as {r = r} {s = s} {res = res} same a = subst (λ x. Reads p r s place x res) same a

  -- the elements of a set that an answer gives are coded well
  pub reads_coded : {S : Type 0} {r s : State S} {e : Expression} {res : Result CodedValue Halt} → Reads p r s place e res → IfOk res (AreElements p)
  reads_coded {res = Ok v} a = a.is.coded
  reads_coded {res = Err h} a = tt

  -- a form of one part
  one_stops : {S : Type 0} {r s : State S} (e : TExpr) {a : TExpr} {h : Halt} → part_of e ≡ Some a → Reads p r s place (expression_of a) (Err h) → Reads p r s place (expression_of e) (Err h)
  one_stops e {a = a} {h = h} is x = stops (expression_of e) (expression_of a) h (λ n v. Gives (made_of_one (world_of p) (expression_of e) v)) (λ n. one_part p (place n) e a is) x

  pub one_makes : {S : Type 0} {r s : State S} (e : TExpr) {a : TExpr} {before after : Result CodedValue Halt} → part_of e ≡ Some a → Reads p r s place (expression_of a) before → OneMakes p (made_of_one (world_of p) (expression_of e)) before after → Reads p r s place (expression_of e) after
  one_makes {s = s} e {a = a} {before = Ok v} {after = Ok x} is y made = ends (expression_of e) (expression_of a) v x (λ n w. Gives (made_of_one (world_of p) (expression_of e) w)) (λ n. one_part p (place n) e a is) y (λ n. made_of_one (world_of p) (expression_of e) (value_by n v)) (λ n. refl) made.0 made.1
      (let sound = y.kept.sound.sound in value_known sound x made.0 (one_in s.told.knows p (expression_of e) (value_by (by_sources sound) v) (value_in sound v y.is.known)))
  one_makes {r = r} {s = s} e {before = Ok v} {after = Err k} is y none = subst (λ j. Reads p r s place (expression_of e) (Err j)) (sym none) (record { kept = y.kept; is = tt })
  one_makes {r = r} {s = s} e {before = Err h} is y same = subst (Reads p r s place (expression_of e)) (sym same) (one_stops e is y)

  -- a form that reads a token
  pub token_stops : {S : Type 0} {r s : State S} (e : TExpr) {t : Kind} {k : ℕ} {a : TExpr} {h : Halt} {came : Result CodedValue Halt} → token_read e ≡ Some (t, k, a) → came ≡ Err h → Reads p r s place (expression_of a) came → Reads p r s place (expression_of e) came
  token_stops e {t = t} {k = k} {a = a} {h = h} is stopped x = came_as (sym stopped) (stops (expression_of e) (expression_of a) h (λ n v. token_at (world_of p) t k (node v)) (λ n. token_part p (place n) e t k a is) (came_as stopped x))

  pub token_goes : {S : Type 0} {r m : State S} {u : Told S} (e : TExpr) {t : Kind} {k o : ℕ} {a : TExpr} {v : CodedValue} {came res : Result CodedValue Halt} → token_read e ≡ Some (t, k, a) → came ≡ Ok v → Reads p r m place (expression_of a) came → ReadsNode o v → TokenReads p m.told u t k o res
      → Reads p r (state m.system u m.saved) place (expression_of e) res
  token_goes {u = u} e {t = t} {k = k} {a = a} {v = v} {res = res} is there x named c =
      goes (expression_of e) (expression_of a) v res (λ n w. token_at (world_of p) t k (node w)) (λ n. token_part p (place n) e t k a is) (came_as there x) (advances_read x.kept.sound c.kept) (subst (λ (m : Naming → Reference). Answers p u (λ n. token_at (world_of p) t k (m n)) res) (λ i n. named n i) c.is)

  -- a form that makes its value of a node
  pub node_stops : {S : Type 0} {r s : State S} (e : TExpr) {a : TExpr} {h : Halt} {came : Result CodedValue Halt} → node_part e ≡ Some a → came ≡ Err h → Reads p r s place (expression_of a) came → Reads p r s place (expression_of e) came
  node_stops e {a = a} {h = h} is stopped x = came_as (sym stopped) (stops (expression_of e) (expression_of a) h (λ n v. Gives (made_of_node (world_of p) (expression_of e) (node v))) (λ n. node_parts p (place n) e a is) (came_as stopped x))

  pub node_goes : {S : Type 0} {r m : State S} {u : Told S} (e : TExpr) {o : ℕ} {a : TExpr} {v : CodedValue} {came res : Result CodedValue Halt} → node_part e ≡ Some a → came ≡ Ok v → Reads p r m place (expression_of a) came → ReadsNode o v → NodeReads p m.told u (expression_of e) o res
      → Reads p r (state m.system u m.saved) place (expression_of e) res
  node_goes {u = u} e {a = a} {v = v} {res = res} is there x named c =
      goes (expression_of e) (expression_of a) v res (λ n w. Gives (made_of_node (world_of p) (expression_of e) (node w))) (λ n. node_parts p (place n) e a is) (came_as there x) (advances_read x.kept.sound c.kept)
      (subst (λ (m : Naming → Reference). Answers p u (λ n. Gives (made_of_node (world_of p) (expression_of e) (m n))) res) (λ i n. named n i) c.is)

  -- a form of two parts
  pub two_stop : {S : Type 0} {r s : State S} (e : TExpr) {a b : TExpr} {h : Halt} {first : Result CodedValue Halt} → parts_of e ≡ Some (a, b) → first ≡ Err h → Reads p r s place (expression_of a) first → Reads p r s place (expression_of e) first
  two_stop e {a = a} {b = b} {h = h} are stopped x = came_as (sym stopped) (stops (expression_of e) (expression_of a) h (behind_first p place e b) (λ n. two_parts p (place n) e a b are) (came_as stopped x))

  two_stop_at : {S : Type 0} {r m s : State S} (e : TExpr) {a b : TExpr} {v : CodedValue} {h : Halt} → parts_of e ≡ Some (a, b) → Reads p r m place (expression_of a) (Ok v) → Reads p m s place (expression_of b) (Err h) → Reads p r s place (expression_of e) (Err h)
  two_stop_at e {a = a} {b = b} {v = v} {h = h} are x y = goes (expression_of e) (expression_of a) v (Err h) (behind_first p place e b) (λ n. two_parts p (place n) e a b are) x y.kept (second_stops (expression_of b) h (λ n w. Gives (made_of_two (world_of p) (expression_of e) (value_by n v) w)) y)

  pub two_make : {S : Type 0} {r m s : State S} (e : TExpr) {a b : TExpr} {v : CodedValue} {first second after : Result CodedValue Halt} → parts_of e ≡ Some (a, b) → first ≡ Ok v → Reads p r m place (expression_of a) first → Reads p m s place (expression_of b) second
      → length p.tree ≤ most_nodes → TwoMake p (made_of_two (world_of p) (expression_of e)) first second after → Reads p r s place (expression_of e) after
  two_make e {a = a} {b = b} {first = Ok v} {second = Ok w} {after = Ok x} are there y z few made =
      let sound = z.kept.sound.sound in
      let known = value_known sound x made.0 (two_in sound few (expression_of e) (value_by (by_sources sound) v) (value_by (by_sources sound) w) (value_in sound v (value_later z.kept v y.is.known)) (value_in sound w z.is.known)) in
      goes (expression_of e) (expression_of a) v (Ok x) (behind_first p place e b) (λ n. two_parts p (place n) e a b are) y z.kept
      (second_goes (expression_of b) w x (λ n u. Gives (made_of_two (world_of p) (expression_of e) (value_by n v) u)) z (λ n. made_of_two (world_of p) (expression_of e) (value_by n v) (value_by n w)) (λ n. refl) made.0 made.1 known)
  two_make {r = r} {s = s} e {first = Ok v} {second = Ok w} {after = Err k} are there y z few none = subst (λ j. Reads p r s place (expression_of e) (Err j)) (sym none) (record { kept = advances_then y.kept z.kept; is = tt })
  two_make e {first = Ok v} {second = Err h} are there y z few same = came_as (sym same) (two_stop_at e are y z)
  two_make e {v = v} {first = Err h} are there y z few made = absurd (no_value there)

  -- the right part, rounded
  right_goes : {S : Type 0} {m s : State S} (b : Expression) (w : CodedValue) (t : Bool) → Reads p m s place b (Ok w) → ReadsTruth t w → Answers p s.told (right_of p place b) (Ok (coded.Truth t))
  right_goes b w t z is = second_goes b w (coded.Truth t) (λ n u. Gives (Truth (truth u))) z (λ n. Truth (truth (value_by n w))) (λ n. refl) (λ n named. ap Truth (is n)) tt tt

  right_stops : {S : Type 0} {m s : State S} (b : Expression) (h : Halt) → Reads p m s place b (Err h) → Answers p s.told (right_of p place b) (Err h)
  right_stops b h z = second_stops b h (λ n u. Gives (Truth (truth u))) z

  -- `&&`
  pub and_stops : {S : Type 0} {r s : State S} {a b : Expression} {h : Halt} → Reads p r s place a (Err h) → Reads p r s place (And a b) (Err h)
  and_stops {a = a} {b = b} {h = h} x = stops (And a b) a h (behind_and p place b) (λ n. refl) x

  -- `&&` that ends on the left
  pub and_ends : {S : Type 0} {r s : State S} {a b : Expression} {v : CodedValue} {d : Bool} → Reads p r s place a (Ok v) → ReadsTruth d v → d ≡ false → Reads p r s place (And a b) (Ok (coded.Truth false))
  and_ends {s = s} {a = a} {b = b} {v = v} x e f =
      goes (And a b) a v (Ok (coded.Truth false)) (behind_and p place b) (λ n. refl) x (advances_self x.kept.sound) (tested p s.told false (λ n. truth (value_by n v)) (right_of p place b) (λ n. Gives (Truth false)) (Ok (coded.Truth false)) (λ n. sym (e n) ∙ f) (gives_truth false))

  -- `&&` that is stuck on the right
  and_stops_right : {S : Type 0} {r m s : State S} {a b : Expression} {v : CodedValue} {h : Halt} {d : Bool} → Reads p r m place a (Ok v) → ReadsTruth d v → d ≡ true → Reads p m s place b (Err h) → Reads p r s place (And a b) (Err h)
  and_stops_right {s = s} {a = a} {b = b} {v = v} {h = h} {d = d} x e f y =
      goes (And a b) a v (Err h) (behind_and p place b) (λ n. refl) x y.kept (tested p s.told true (λ n. truth (value_by n v)) (right_of p place b) (λ n. Gives (Truth false)) (Err h) (λ n. sym (e n) ∙ f) (right_stops b h y))

  -- `&&` that is evaluated on the right
  pub and_goes : {S : Type 0} {r m s : State S} {a b : Expression} {v : CodedValue} {d : Bool} {before after : Result CodedValue Halt} → Reads p r m place a (Ok v) → ReadsTruth d v → d ≡ true → Reads p m s place b before → IsRounded before after → Reads p r s place (And a b) after
  and_goes {r = r} {s = s} {a = a} {b = b} {v = v} {before = Ok w} y e f z g =
      subst (Reads p r s place (And a b)) (sym g.2)
      (goes (And a b) a v (Ok (coded.Truth g.0)) (behind_and p place b) (λ n. refl) y z.kept
      (tested p s.told true (λ n. truth (value_by n v)) (right_of p place b) (λ n. Gives (Truth false)) (Ok (coded.Truth g.0)) (λ n. sym (e n) ∙ f) (right_goes b w g.0 z g.1)))
  and_goes {r = r} {s = s} {a = a} {b = b} {before = Err h} y e f z same = subst (Reads p r s place (And a b)) (sym same) (and_stops_right y e f z)

  -- `||`
  pub or_stops : {S : Type 0} {r s : State S} {a b : Expression} {h : Halt} → Reads p r s place a (Err h) → Reads p r s place (Or a b) (Err h)
  or_stops {a = a} {b = b} {h = h} x = stops (Or a b) a h (behind_or p place b) (λ n. refl) x

  -- `||` that ends on the left
  pub or_ends : {S : Type 0} {r s : State S} {a b : Expression} {v : CodedValue} {d : Bool} → Reads p r s place a (Ok v) → ReadsTruth d v → d ≡ true → Reads p r s place (Or a b) (Ok (coded.Truth true))
  or_ends {s = s} {a = a} {b = b} {v = v} x e f =
      goes (Or a b) a v (Ok (coded.Truth true)) (behind_or p place b) (λ n. refl) x (advances_self x.kept.sound) (tested p s.told true (λ n. truth (value_by n v)) (λ n. Gives (Truth true)) (right_of p place b) (Ok (coded.Truth true)) (λ n. sym (e n) ∙ f) (gives_truth true))

  -- `||` that is stuck on the right
  or_stops_right : {S : Type 0} {r m s : State S} {a b : Expression} {v : CodedValue} {h : Halt} {d : Bool} → Reads p r m place a (Ok v) → ReadsTruth d v → d ≡ false → Reads p m s place b (Err h) → Reads p r s place (Or a b) (Err h)
  or_stops_right {s = s} {a = a} {b = b} {v = v} {h = h} {d = d} x e f y =
      goes (Or a b) a v (Err h) (behind_or p place b) (λ n. refl) x y.kept (tested p s.told false (λ n. truth (value_by n v)) (λ n. Gives (Truth true)) (right_of p place b) (Err h) (λ n. sym (e n) ∙ f) (right_stops b h y))

  -- `||` that is evaluated on the right
  pub or_goes : {S : Type 0} {r m s : State S} {a b : Expression} {v : CodedValue} {d : Bool} {before after : Result CodedValue Halt} → Reads p r m place a (Ok v) → ReadsTruth d v → d ≡ false → Reads p m s place b before → IsRounded before after → Reads p r s place (Or a b) after
  or_goes {r = r} {s = s} {a = a} {b = b} {v = v} {before = Ok w} y e f z g =
      subst (Reads p r s place (Or a b)) (sym g.2)
      (goes (Or a b) a v (Ok (coded.Truth g.0)) (behind_or p place b) (λ n. refl) y z.kept
      (tested p s.told false (λ n. truth (value_by n v)) (λ n. Gives (Truth true)) (right_of p place b) (Ok (coded.Truth g.0)) (λ n. sym (e n) ∙ f) (right_goes b w g.0 z g.1)))
  or_goes {r = r} {s = s} {a = a} {b = b} {before = Err h} y e f z same = subst (Reads p r s place (Or a b)) (sym same) (or_stops_right y e f z)

  -- a choice
  pub if_stops : {S : Type 0} {r s : State S} {c a b : Expression} {here : Option TextPlace} {h : Halt} → Reads p r s place c (Err h) → Reads p r s place (If c a here b) (Err h)
  if_stops {c = c} {a = a} {b = b} {here = here} {h = h} x = stops (If c a here b) c h (behind_condition p place a b) (λ n. refl) x

  -- a choice of the first part
  pub if_then : {S : Type 0} {r m s : State S} {c a b : Expression} {here : Option TextPlace} {v : CodedValue} {res : Result CodedValue Halt} {d : Bool} → Reads p r m place c (Ok v) → ReadsTruth d v → d ≡ true → Reads p m s place a res → Reads p r s place (If c a here b) res
  if_then {s = s} {c = c} {a = a} {b = b} {here = here} {v = v} {res = res} x e f y =
      goes (If c a here b) c v res (behind_condition p place a b) (λ n. refl) x y.kept (tested p s.told true (λ n. truth (value_by n v)) (reads_at p place a) (reads_at p place b) res (λ n. sym (e n) ∙ f) y.is)

  -- a choice of the second part
  pub if_otherwise : {S : Type 0} {r m s : State S} {c a b : Expression} {here : Option TextPlace} {v : CodedValue} {res : Result CodedValue Halt} {d : Bool} → Reads p r m place c (Ok v) → ReadsTruth d v → d ≡ false → Reads p m s place b res → Reads p r s place (If c a here b) res
  if_otherwise {s = s} {c = c} {a = a} {b = b} {here = here} {v = v} {res = res} x e f y =
      goes (If c a here b) c v res (behind_condition p place a b) (λ n. refl) x y.kept (tested p s.told false (λ n. truth (value_by n v)) (reads_at p place a) (reads_at p place b) res (λ n. sym (e n) ∙ f) y.is)

  -- there is not enough memory for what follows
  pub out_of_memory : {S : Type 0} {r s : State S} {e : Expression} {res : Result CodedValue Halt} → Advances p r s → IsErr res × IsErrAnd res (λ m. m ≡ Memory) → Reads p r s place e res
  out_of_memory {r = r} {s = s} {e = e} {res = res} g f = thrown f (record { kept = g; is = tt })
