-- What a pass knows of instances.
use Rattle.std.proofs.Common.{◌≡◌, ℕ, ◌<◌, ◌^◌, Bool, true, false, not, List, [], Some, refl, sym, ap, subst, ◌∙◌}
use Rattle.rag_io.specs.Pool.{ArePooled}
use Rattle.solutions.specs.Asking.{Demands, Ends, Halts, Meets, at, after, here, later}
use Rattle.solutions.proofs.Loops.{ends_meets}
use Rattle.solutions.proofs.Runs.{ends_more}
use Rattle.equation_law.specs.declared.coding.Instance.{Instance as CodedInstance}
use Rattle.equation_law.specs.declared.coding.Instance.TheVariants as coded_instance
use Rattle.equation_law.specs.declared.coding.Value.{Value as CodedValue}
use Rattle.equation_law.specs.declared.system.System.{System}
use Rattle.equation_law.specs.Checked.{IsInstance}
use Rattle.equation_law.specs.Codes.{AreElements, IsSmall, Naming, instance_by, instance_of, source_names, value_by, value_coded}
use Rattle.equation_law.specs.Equations.{HasValue, equations_of, is_ordered, kind_in}
use Rattle.equation_law.specs.Loops.{Leads}
use Rattle.equation_law.specs.Names.{Instance}
use Rattle.equation_law.specs.Program.{Program, text_of}
use Rattle.equation_law.specs.Systems.{program_of}
use Rattle.equation_law.specs.Values.{Value, as_kind}
use Rattle.equation_law.proofs.Solution.{ended, met_leads, one}
use Rattle.attr_rules.specs.declared.kinds.Kind.{Kind}
use Rattle.attr_rules.specs.declared.kinds.Kind.TheVariants as kinds
use Rattle.attr_rules.specs.Rules.{is_single}
use Rattle.memo_cells.specs.declared.view.Frame.{Frame}
use Rattle.memo_cells.specs.declared.view.View.{View}
use Rattle.memo_cells.specs.Agreeing.{Agrees, HaveCodesAt, IsKnownCode, IsKnownValue as HasKnownNodes, IsValueCodeAt}
use Rattle.memo_cells.specs.Naming.{IsCellOf, StandsFor}
use Rattle.memo_cells.specs.Showing.{ShowsAtLeast}
use Rattle.memo_cells.specs.Standing.{AreApproximations, IsCodeOf, IsPassOf, Knows, MaySettle}
use Rattle.memo_cells.specs.Views.{Has, IsAtLeast, IsUnset, IsUnsettled}
use Rattle.memo_cells.specs.Working.{Held, IsKnown, program_at}
use Rattle.memo_cells.proofs.Agreeing.{IsOpen, coded_each, own_open, value_known_later}
use Rattle.memo_cells.proofs.Naming.{knows_later, stands_later, word_once}
use Rattle.memo_cells.proofs.ValueWords.{codes_had}
use Rattle.memo_cells.specs.SetShown.{IsShownValue}
use Rattle.caller_pass.specs.Holding.{IsKindAt}
use Rattle.caller_pass.specs.Knowing.{HasEnded, IsKnownValue, IsSettledAt}
use Rattle.caller_pass.proofs.Nodes.{code_known, coded_known}

-- some naming agrees with a pass of the cells of a program
pub open_in : (p : Program) (f : Frame) (v : View) → p ≡ program_of f.system.value → IsPassOf f v → IsOpen p v.made
open_in p f v same own = subst (λ (q : Program). IsOpen q v.made) (sym same) (own_open f v [] own)

-- the cell of what is known
pub known_cell : (p : Program) (f : Frame) (v : View) (i : Instance) → IsPassOf f v → (k : Knows p v i) → IsCellOf p f v i k.slot
known_cell p f v i own k =
    let there = own.valued k.slot k.key k.code k.settled in
    (k.key, (own.within k.slot k.key there, there), k.stands)

-- an instance that has no cell, or whose cell isn't settled, isn't known
pub unknown_nowhere : (p : Program) (f : Frame) (v : View) (i : Instance) → IsPassOf f v → ((s : ℕ) → ¬ IsCellOf p f v i s) → ¬ Knows p v i
unknown_nowhere p f v i own none k = none k.slot (known_cell p f v i own k)

pub unknown_unset : (p : Program) (f : Frame) (v : View) (i : Instance) (key : ℕ) → IsPassOf f v → ArePooled p.texts → IsOpen p v.made → StandsFor p v key i → IsUnset v key → ¬ Knows p v i
unknown_unset p f v i key own pooled by s none k =
    let word = word_once v own.one_key own.one_place p pooled by k.key key i k.stands s in
    none k.slot k.code (subst (λ (l : ℕ). Has v.values (k.slot, l, k.code)) word k.settled)

-- an instance has one cell
pub one_cell : (p : Program) (f : Frame) (v : View) (i : Instance) (s t : ℕ) → IsPassOf f v → ArePooled p.texts → IsOpen p v.made → IsCellOf p f v i s → IsCellOf p f v i t → s ≡ t
one_cell p f v i s t own pooled by a b =
    let word = word_once v own.one_key own.one_place p pooled by a.0 b.0 i a.2 b.2 in
    own.one_place s t b.0 (subst (λ (k : ℕ). Has v.keys (s, k)) word a.1.1) b.1.1

module _ (p : Program) (f : Frame) (v : View) (same : p ≡ program_of f.system.value) (own : IsPassOf f v) where
  -- a settled code is that of the value of what its key stands for
  pub code_of : (i : Instance) (slot key code : ℕ) → StandsFor p v key i → Has v.values (slot, key, code) → IsCodeOf p v.made i code
  code_of i slot key code s h = subst (λ (q : Program). IsCodeOf q v.made i code) (sym same) (own.coded slot key code h i (subst (λ (q : Program). StandsFor q v key i) same s))

  pub has_value : (i : Instance) → Knows p v i → (w : Value) × HasValue p i w
  has_value i k = let code = code_of i k.slot k.key k.code k.stands k.settled in (code.value, code.has)

  -- a settled code, read at the type of the instance
  pub known_value_is : (names : Naming) → Agrees p v.made names → (i : Instance) (slot code : ℕ) (kind : Kind) (x : CodedValue) → IsSettledAt p f v i slot code → kind ≡ kind_in p i → is_single kind ≡ true → ((n : Naming) → value_by n x ≡ value_coded n kind code) → AreElements p x
      → IsKnownValue p names v i x
  known_value_is names named i slot code kind x s kinds single is elements =
      let of = code_of i slot s.key code s.stands s.settled in
      record {
        value = of.value;
        known = (record { key = s.key; stands = s.stands; slot = slot; code = code; settled = s.settled }, of.has);
        coded = is names ∙ ap (λ (k : Kind). value_coded names k code) kinds ∙ of.coded (ap is_single (sym kinds) ∙ single) names named;
        elements = elements;
        nodes = coded_known p v.made kind code x single (is (source_names (text_of p))) (subst (λ (k : Kind). IsKnownCode v.made k code) (sym kinds) of.known);
      }

  -- what a look at the cell of an instance told, where `u` is what the pass knew before it
  module _ (u : View) (kept : IsAtLeast u v) (i : Instance) (slot : ℕ) (cell : IsCellOf (program_of f.system.value) f u i slot) where
    its : IsCellOf p f u i slot
    its = subst (λ (q : Program). IsCellOf q f u i slot) (sym same) cell

    stands : StandsFor p v its.0 i
    stands = stands_later u v kept p its.0 i its.2

    pub seen_code : (code : ℕ) → ((k : ℕ) → Has u.keys (slot, k) → Has v.values (slot, k, code)) → IsSettledAt p f v i slot code
    seen_code code settled = record { key = its.0; there = (its.1.0, kept.keys slot its.0 its.1.1); stands = stands; settled = settled its.0 its.1.1 }

    pub seen_unset : ArePooled p.texts → IsUnsettled u v slot → ¬ Knows p v i
    seen_unset pooled none = unknown_unset p f v i its.0 own pooled (open_in p f v same own) stands (none.unset its.0 its.1.1)

-- an instance whose cell was settled is known
pub settled_knows : (p : Program) (f : Frame) (u v : View) (i : Instance) (slot code : ℕ) → IsAtLeast u v → IsCellOf p f u i slot → ((k : ℕ) → Has u.keys (slot, k) → Has v.values (slot, k, code)) → Knows p v i
settled_knows p f u v i slot code kept cell settled = record { key = cell.0; stands = stands_later u v kept p cell.0 i cell.2; slot = slot; code = code; settled = settled cell.0 cell.1.1 }

-- what it halts at it meets
pub halts_meets : {A B : Instance → Value → Type 0} {c : Demands Instance Value} {j : Instance} {ds : List Instance} → ((i : Instance) (w : Value) → A i w → B i w) → Halts A c j ds → Meets B c j
halts_meets g (at n) = here
halts_meets g (after {j = i} {w = w} a h) = later (g i w a) (halts_meets g h)

-- an equation that is stuck under what is known leads to where it is stuck
pub stuck_leads : (p : Program) (v : View) (i j : Instance) (ds : List Instance) → Halts (IsKnown p v) ((equations_of p).equation i) j ds → Leads p i j
stuck_leads p v i j ds h = met_leads p i j (halts_meets (λ k w a. a.1) h)

-- an equation that ended has that value
pub ended_value : (p : Program) (names : Naming) (v : View) (i : Instance) (x : CodedValue) → HasEnded p names v i x → HasValue p i (value_by names x)
ended_value p names v i x e = ended p i (value_by names x) e.demands (ends_more (λ k w a. a.1) e.ends)

-- the elements of a value have codes, once the words of a set show it
codes_of : (p : Program) (v : View) (a : AreApproximations p v) (i : Instance) (x : Value) (k : Kind) → kind_in p i ≡ k → (is_single k ≡ false → ShowsAtLeast p v i k x) → HaveCodesAt p v.made k x
codes_of p v a i x kinds.Truth e shown = tt
codes_of p v a i x kinds.Int e shown = tt
codes_of p v a i x kinds.Text e shown = tt
codes_of p v a i x (kinds.Node d) e shown = tt
codes_of p v a i x kinds.Texts e shown = codes_had p v a i x kinds.Texts e (shown refl)
codes_of p v a i x (kinds.Nodes d) e shown = codes_had p v a i x (kinds.Nodes d) e (shown refl)

-- its code may be settled, once the words of a set show it
pub may_settle : (p : Program) (names : Naming) (f : Frame) (u v : View) → Agrees p v.made names → (i : Instance) (slot code : ℕ) (kind : Kind) (x : CodedValue) → AreApproximations p v → IsInstance p i → IsAtLeast u v → IsCellOf p f v i slot → HasEnded p names u i x → (equations_of p).circular i ≡ false
    → kind ≡ kind_in p i → (is_single kind ≡ true → value_coded names kind code ≡ as_kind kind (value_by names x)) → (is_single kind ≡ true → value_coded (source_names (text_of p)) kind code ≡ as_kind kind (value_by (source_names (text_of p)) x)) → IsSmall kind code → code < 2 ^ 32 → (is_single kind ≡ false → ShowsAtLeast p v i kind (value_by names x)) → MaySettle p v slot code
may_settle p names f u v agrees i slot code kind x words instance kept cell done plain kinds is plainly small fits shown = record {
  key = cell.0;
  here = cell.1.1;
  settled = record {
    of = i;
    instance = instance;
    stands = cell.2;
    code = record {
      value = value_by names x;
      has = ended_value p names u i x done;
      coded = subst (λ (k : Kind). is_single k ≡ true → IsValueCodeAt p v.made k code (as_kind k (value_by names x))) kinds (λ single. coded_each p v.made agrees kind code (as_kind kind (value_by names x)) code_there (is single));
      known = subst (λ (k : Kind). IsKnownCode v.made k code) kinds code_there;
      small = subst (λ (k : Kind). IsSmall k code) kinds small;
      fits = fits;
      elements = codes_of p v words i (value_by names x) (kind_in p i) refl (subst (λ (k : Kind). is_single k ≡ false → ShowsAtLeast p v i k (value_by names x)) kinds shown);
    };
    shown = subst (λ (k : Kind). is_single k ≡ false → ShowsAtLeast p v i k (value_by names x)) kinds shown;
    closed = λ j meets. knows_later u v kept p j ((ends_meets (λ k a b g h. one p k a b g.1 h) done.ends meets).1.0);
  };
  undeclared = plain;
}
  where
    code_there : IsKnownCode v.made kind code
    code_there = code_known p v.made kind code x plainly (value_known_later p kept.made x done.nodes)

-- where an equation halts under what is known, nothing is known
pub halts_unknown : (p : Program) (f : Frame) (v : View) (c : Demands Instance Value) (j : Instance) (ds : List Instance) → p ≡ program_of f.system.value → IsPassOf f v → Halts (IsKnown p v) c j ds → ¬ Knows p v j
halts_unknown p f v c j ds same own h k = missing h
  where
    missing : {d : Demands Instance Value} {es : List Instance} → Halts (IsKnown p v) d j es → ⊥
    missing (at n) = let w = has_value p f v same own j k in n w.0 (k, w.1)
    missing (after a rest) = missing rest

-- what is found settled is known
pub found_knows : (p : Program) (f : Frame) (v : View) (i : Instance) (slot code : ℕ) → IsSettledAt p f v i slot code → Knows p v i
found_knows p f v i slot code s = record { key = s.key; stands = s.stands; slot = slot; code = code; settled = s.settled }

-- the value that the words of a set show, whose cell was seen settled
pub known_shown : (p : Program) (names : Naming) (v w : View) → Agrees p w.made names → (i : Instance) (x : CodedValue) → IsAtLeast v w → Knows p v i → IsShownValue p v w i x → IsKnownValue p names w i x
known_shown p names v w agrees i x kept k h = let value = h.settled k in record { value = value.0; known = (knows_later v w kept p i k, value.1); coded = value.2 names agrees; elements = h.elements; nodes = h.known }

-- the type of the values of an instance hangs on no naming
pub kind_same : (p : Program) (names others : Naming) (i : CodedInstance) → kind_in p (instance_by p names i) ≡ kind_in p (instance_by p others i)
kind_same p names others (coded_instance.Attr a m xs) = refl
kind_same p names others (coded_instance.Query q) = refl

-- so the type that is told is theirs by each
pub kind_each : (d : Held) (s : System) (i : CodedInstance) (kind : Kind) → d.frame.system.value ≡ s → kind ≡ kind_in (program_of s) (instance_of (program_of s) i) → IsKindAt d i kind
kind_each d s i kind same is = λ names named.
    subst (λ (t : System). kind ≡ kind_in (program_of t) (instance_of (program_of t) i)) (sym same) is ∙ kind_same (program_at d) (source_names (text_of (program_at d))) names i

-- sets are ordered
pub set_ordered : (k : Kind) → is_single k ≡ false → is_ordered k ≡ true
set_ordered kinds.Truth h = cc
set_ordered kinds.Int h = cc
set_ordered kinds.Text h = cc
set_ordered (kinds.Node d) h = cc
set_ordered kinds.Texts h = refl
set_ordered (kinds.Nodes d) h = refl

pub not_is : (b : Bool) → not b ≡ true → b ≡ false
not_is true h = cc
not_is false h = refl

pub is_not : (b : Bool) → not b ≡ false → b ≡ true
is_not true h = refl
is_not false h = cc
