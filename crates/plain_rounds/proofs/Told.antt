-- What stands in a round is what a reader over it has.
use Rattle.std.proofs.Common.{◌≡◌, ℕ, ◌<◌, List, Option, Some, None, IfOk, MatchOption, Result, Ok, Err, length, refl, sym, ap, subst, ◌∙◌, inl, inr}
use Rattle.std.specs.declared.cmp.Ordering.{Ordering}
use Rattle.ast_grammar.specs.declared.grammar.ClassId.{ClassId}
use Rattle.attr_rules.specs.declared.kinds.Kind.{Kind}
use Rattle.tree_arena.specs.Nodes.{most_nodes}
use Rattle.solutions.specs.Asking.{Demands, Ends, Halts, after, answered, at, demanded, run, Stuck}
use Rattle.solutions.specs.Rounds.{Graph, value_of as outcome_value}
use Rattle.solutions.proofs.Runs.{ends_more, ends_run, option_cases}
use Rattle.rag_io.specs.declared.Memory.{Memory as NoMemory}
use Rattle.equation_law.specs.declared.coding.Instance.{Instance as CodedInstance}
use Rattle.equation_law.specs.declared.coding.NodeRef.{NodeRef}
use Rattle.equation_law.specs.declared.coding.TreeImage.{TreeImage}
use Rattle.equation_law.specs.declared.coding.Up.{Up}
use Rattle.equation_law.specs.declared.coding.Value.{Value as CodedValue}
use Rattle.equation_law.specs.Codes.{AreCodes, AreElements, IsCoded, IsNamingOf, Naming, instance_by, reference_by, value_by, value_coded}
use Rattle.equation_law.specs.Created.{Making, token_kinds, token_type}
use Rattle.equation_law.specs.Equations.{token_place, token_value, world_of}
use Rattle.equation_law.specs.Meaning.{child_at}
use Rattle.equation_law.specs.Names.{Argument, At, Attribute, Instance, Made, Reference, Row, list_of}
use Rattle.equation_law.specs.Program.{Program, making_of}
use Rattle.equation_law.specs.Reading.{AreTokensOf, ArgumentBy, ChildBy, ClassBy, Grows, HasThere, IsSound, OrderBy, SettledBy, Settles, TokenBy, UpBy, class_behind, code_above, reference_cmp}
use Rattle.equation_law.specs.Values.{Node, Nodes, Int, Text, Texts, Tree, Truth, Value, as_kind, tokens}
use Rattle.equation_law.proofs.Grown.{each_value, grows_itself}
use Rattle.expr_eval.specs.declared.sites.Turn.{Turn}
use Rattle.expr_eval.specs.declared.sites.Turn.TheVariants.{Done, Image, Need}
use Rattle.expr_eval.specs.Evaluating.{Asks, Evaluates}
use Rattle.made_trees.specs.Makers.{IsAbove, IsArgumentAt, Trees, naming_of, program_for, stands_for}
use Rattle.made_trees.proofs.Readers.{told_argument, told_child, told_class, told_order, told_up}
use Rattle.plain_rounds.specs.declared.standing.Standing.{Standing}
use Rattle.plain_rounds.specs.Named.{image_making, tokens_by}
use Rattle.plain_rounds.specs.Settings.{AreReady, naming_at, program_at}
use Rattle.plain_rounds.specs.Standing.{IsStandingAt, IsTokenIn, code_or_zero, standing_at, told_by}
use Rattle.plain_rounds.specs.Trees.{IsOwn}
use Rattle.plain_rounds.proofs.Settings.{moved, named_there, trees_there}

-- the tokens of a value of an instance that makes a tree
pub own_tokens : (p : Program) (a : ℕ) (o : Reference) (xs : List Argument) (v : Value) → IsOwn p (Attribute a o xs) v → (m : Making) → making_of p a o ≡ Some m → AreTokensOf (token_kinds m.arguments) (tokens v)
own_tokens p a o xs (Truth b) own m is k x e = cc
own_tokens p a o xs (Int z) own m is k x e = cc
own_tokens p a o xs (Text t) own m is k x e = cc
own_tokens p a o xs (Node n) own m is k x e = cc
own_tokens p a o xs (Texts s) own m is k x e = cc
own_tokens p a o xs (Nodes s) own m is k x e = cc
own_tokens p a o xs (Tree r ts) own m is k x e = let other = own.makes in let same : own.making ≡ m = cc in subst (λ (y : Making). AreTokensOf (token_kinds y.arguments) ts) same own.tokens k x e

-- it is a reader for its program
pub sound : (s : Standing) → AreReady s.setting s.values.now → IsSound (program_at s.setting) (told_by s)
sound s ready =
    let p = program_at s.setting in
    record {
      for = (refl, ready);
      within = λ i v a. a;
      one_value = λ i v w a b. cc;
      named = λ n is. subst (λ (m : Naming). IsNamingOf p m) (sym is) (named_there s.setting ready.set);
      some = (naming_at s.setting, refl);
      sources = λ c low. tt;
      fit = (trees_there s.setting ready.set).fit;
      trees = λ a o xs v may m is. own_tokens p a o xs v (ready.own (Attribute a o xs) v may) m is;
    }

-- what the makers tell of nodes the reader tells
module _ (s : Standing) where
  abbrev trees : Trees
  trees = s.setting.makers.now

  for_makers : (p : Program) → IsSound p (told_by s) → p ≡ program_for trees
  for_makers p sound = sound.for.0 ∙ sym (ap program_for (moved s.setting))

  by_naming : (n : Naming) → n ≡ naming_at s.setting → n ≡ naming_of trees
  by_naming n is = is ∙ sym (ap naming_of (moved s.setting))

  pub standing_class : (node : NodeRef) (found : Option ClassId) (c : ClassId) → (most_nodes < node.0 → class_behind (program_for trees) (stands_for trees node.0) ≡ found) → MatchOption found (c.0 ≡ 65535) (λ d. c ≡ d) → ClassBy (told_by s) (told_by s) node c
  standing_class = told_class (told_by s) trees for_makers by_naming (λ c. tt)

  pub standing_child : (node : NodeRef) (k : ℕ) (child : NodeRef) → (most_nodes < node.0 → stands_for trees child.0 ≡ child_at (world_of (program_for trees)) k (stands_for trees node.0)) → ChildBy (told_by s) (told_by s) node k child
  standing_child = told_child (told_by s) trees for_makers by_naming (λ c. tt)

  pub standing_up : (node : NodeRef) (up : Up) → (most_nodes < node.0 → IsAbove trees node.0 up) → (most_nodes < node.0 → code_above up < node.0) → UpBy (told_by s) (told_by s) node up
  standing_up = told_up (told_by s) trees for_makers by_naming (λ c. tt) refl

  pub standing_argument : (node : NodeRef) (k code : ℕ) → IsArgumentAt trees node.0 k code → ArgumentBy (told_by s) (told_by s) node k code
  standing_argument = told_argument (told_by s) trees for_makers by_naming (λ c. tt)

  pub standing_order : (a b : NodeRef) (order : Ordering) → order ≡ reference_cmp (stands_for trees a.0) (stands_for trees b.0) → OrderBy (told_by s) (told_by s) a b order
  standing_order = told_order (told_by s) trees for_makers by_naming (λ c. tt)

  -- a value, or none
  settles : AreReady s.setting s.values.now → (i : CodedInstance) → IsCoded (program_at s.setting) i → (result : Result (Option CodedValue) NoMemory) → IfOk result (λ value. AreReady s.setting s.values.now → IsCoded (program_at s.setting) i → IsStandingAt s i value)
      → Settles (program_at s.setting) (told_by s) (λ n. instance_by (program_at s.setting) n i) result
  settles ready i coded (Ok (Some v)) h =
      let x = h ready coded in
      (λ n is. subst (λ (m : Naming). HasThere (program_at s.setting) (told_by s) (instance_by (program_at s.setting) m i) (value_by m v)) (sym is) (x.0.0, x.0.1, x.0.2), x.1, each_value (told_by s) (λ c. tt) v)
  settles ready i coded (Ok None) h = λ n is w has. absurd (
      let some = subst (λ (m : Naming). standing_at s (instance_by (program_at s.setting) m i) ≡ Some w) is has in
      let wrong : None ≡ Some w = sym (h ready coded) ∙ some in
      cc
      )
  settles ready i coded (Err m) h = tt

  pub standing_settled : (i : CodedInstance) (result : Result (Option CodedValue) NoMemory) → IfOk result (λ value. AreReady s.setting s.values.now → IsCoded (program_at s.setting) i → IsStandingAt s i value) → SettledBy (told_by s) (told_by s) i result
  standing_settled i result h = record {
    kept = λ p sound. grows_itself sound;
    answer = λ p sound coded known. subst (λ (q : Program). Settles q (told_by s) (λ n. instance_by q n i) result) (sym sound.for.0) (settles sound.for.1 i (subst (λ (q : Program). IsCoded q i) sound.for.0 coded) result h);
  }

  -- a token, and without a code of one the default
  abbrev IsTokenBy : NodeRef → ℕ → ℕ → Program → Naming → Type 0
  IsTokenBy node k result p n =
      (a q : ℕ) (o : Reference) (xs : Row) → reference_by n.node node.0 ≡ At (Made a o xs q) → (w : Value) → standing_at s (Attribute a o (list_of xs)) ≡ Some w → (t : Kind) → token_type (making_of p a o) q k ≡ Some t
      → value_coded n t result ≡ as_kind t (token_value (tokens w) (token_place (making_of p a o) q k))

  pub standing_token : (node : NodeRef) (k result : ℕ) (code : Option ℕ) → (AreReady s.setting s.values.now → IsTokenIn s node.0 k code) → result ≡ code_or_zero code → TokenBy (told_by s) (told_by s) node k result
  standing_token node k result code told is = record {
    kept = λ p sound. grows_itself sound;
    answer = λ p sound known n named.
        subst (λ (q : Program). IsTokenBy node k result q n) (sym sound.for.0)
        (subst (IsTokenBy node k result (program_at s.setting)) (sym named) (subst (λ (c : ℕ). IsTokenBy node k c (program_at s.setting) (naming_at s.setting)) (sym is) (told sound.for.1)));
  }

-- it is stuck at an instance that has no value
halts_run : {I V : Type 0} (A : I → Option V) {c : Demands I V} {j : I} {ds : List I} → Halts (Graph A) c j ds → run A c ≡ Stuck j ds
halts_run A (at {j = j} {k = k} f) = elim (option_cases (A j)) [
  | inl v ↦ absurd (f v.0 v.1)
  | inr e ↦ ap (λ o. answered j o (λ v. run A (k v))) e
]
halts_run A (after {j = j} {k = k} {w = w} a e) = ap (λ o. answered j o (λ v. run A (k v))) a ∙ ap (demanded j) (halts_run A e)

halts_more : {I V : Type 0} {A B : I → V → Type 0} {c : Demands I V} {j : I} {ds : List I} → ((i : I) (w : V) → A i w → B i w) → ((i : I) (w : V) → B i w → A i w) → Halts A c j ds → Halts B c j ds
halts_more g h (at f) = at (λ v b. f v (h _ v b))
halts_more g h (after {j = j} {w = w} a e) = after (g j w a) (halts_more g h e)

-- a reader that goes on is the same
pub same_standing : {p : Program} {r s : Standing} → Grows p (told_by r) (told_by s) → r ≡ s
same_standing {r = r} g = g.kept r refl

module _ (p : Program) (r s : Standing) (c : Asks) where
  abbrev plain : Naming
  plain = naming_at r.setting

  -- what stands at the end is read by what the makers name
  read_plainly : {result : Result Turn NoMemory} → Evaluates p (told_by r) (told_by s) c result → plain ≡ naming_at s.setting
  read_plainly h = ap (λ (x : Standing). naming_at x.setting) (same_standing h.kept)

  -- what is done under what stands has that value
  pub done_value : (v : CodedValue) (t : Turn) → t ≡ Done v → Evaluates p (told_by r) (told_by s) c (Ok t) → Some (value_by plain v) ≡ outcome_value (run (standing_at r) (c plain))
  done_value v t is g =
      let h = subst (λ (x : Turn). Evaluates p (told_by r) (told_by s) c (Ok x)) is g in
      let come = h.answer.comes plain (read_plainly h) in
      sym (ap outcome_value (ends_run (standing_at r) (ends_more (λ i w a. h.kept.bound i w (h.kept.sound.within i w a)) come.1)))

  -- and its elements are coded well
  pub done_held : (v : CodedValue) (t : Turn) → t ≡ Done v → Evaluates p (told_by r) (told_by s) c (Ok t) → AreElements p v
  done_held v t is g = let h = subst (λ (x : Turn). Evaluates p (told_by r) (told_by s) c (Ok x)) is g in h.answer.coded

  -- what is stuck has none
  pub stuck_value : (j : CodedInstance) (t : Turn) → t ≡ Need j → Evaluates p (told_by r) (told_by s) c (Ok t) → None ≡ outcome_value (run (standing_at r) (c plain))
  stuck_value j t is g =
      let h = subst (λ (x : Turn). Evaluates p (told_by r) (told_by s) c (Ok x)) is g in
      let want = h.answer.wants plain (read_plainly h) in
      sym (ap outcome_value (halts_run (standing_at r) (halts_more (λ i w a. h.kept.bound i w (h.kept.sound.within i w a)) (λ i w a. h.kept.values i w a) want.1)))

  -- and a tree comes of a `new`, with as many tokens
  pub record IsTreeThere (t : TreeImage) : Type 0 where
    pub making : Making
    pub is : image_making p t ≡ Some making
    pub all : length t.tokens ≡ length (token_kinds making.arguments)
    pub codes : AreCodes p (token_kinds making.arguments) t.tokens
    pub root : Reference
    pub demands : List Instance
    pub ends : Ends (Graph (standing_at r)) (c plain) (Tree root (tokens_by plain (image_making p t) t.tokens)) demands

  pub tree_there : (i : TreeImage) (t : Turn) → t ≡ Image i → Evaluates p (told_by r) (told_by s) c (Ok t) → IsTreeThere i
  tree_there i t is g =
      let h = subst (λ (x : Turn). Evaluates p (told_by r) (told_by s) c (Ok x)) is g in
      let come = h.answer.comes plain (read_plainly h) in
      let ends = ends_more {B = Graph (standing_at r)} (λ j w a. h.kept.bound j w (h.kept.sound.within j w a)) come.1.1 in
      record {
        making = h.answer.making;
        is = h.answer.is;
        all = h.answer.all;
        codes = h.answer.codes;
        root = come.0;
        demands = come.1.0;
        ends = subst (λ (o : Option Making). Ends (Graph (standing_at r)) (c plain) (Tree come.0 (tokens_by plain o i.tokens)) come.1.0) (sym h.answer.is) ends;
      }
