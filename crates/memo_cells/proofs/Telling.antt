-- What is raised, and the word that is answered, by the type of the instance.
use Rattle.std.proofs.Common.{◌≡◌, ◌≢◌, ◌↔◌, ℕ, true, false, Bool, ◌+◌, ◌*◌, ◌%◌, ◌<◌, ◌^◌, Result, List, [], OnErr, ⊎_elim, refl, sym, ap, ◌∙◌, subst, arith}
use Rattle.std.specs.Int.{bit_at}
use Rattle.attr_rules.specs.declared.kinds.Kind.{Kind}
use Rattle.attr_rules.specs.declared.kinds.Kind.TheVariants as kinds
use Rattle.attr_rules.specs.Rules.{is_single}
use Rattle.attr_rules.specs.Types.{truth_kind}
use Rattle.rag_io.specs.Pool.{ArePooled}
use Rattle.equation_law.specs.declared.coding.Instance.{Instance as CodedInstance}
use Rattle.equation_law.specs.Equations.{HasValue, kind_in}
use Rattle.equation_law.specs.Names.{Instance}
use Rattle.equation_law.specs.Program.{Program}
use Rattle.equation_law.specs.Systems.{program_of}
use Rattle.equation_law.specs.Values.{Value}
use Rattle.equation_law.proofs.Pooled.{texts_pooled}
use Rattle.equation_law.proofs.Solution.{one}
use Rattle.memo_cells.specs.declared.view.Frame.{Frame}
use Rattle.memo_cells.specs.declared.view.View.{View}
use Rattle.memo_cells.specs.Agreeing.{HasCodeAt}
use Rattle.memo_cells.specs.Keys.{set_word}
use Rattle.memo_cells.specs.Naming.{IsCellOf, IsWordOf, StandsFor}
use Rattle.memo_cells.specs.Showing.{IsWordSeen}
use Rattle.memo_cells.specs.Standing.{HasWord, IsCodeOf, IsPassOf, IsWordOfValue, Knows, MayRaise, MayRaiseSet, MayRaiseTruth}
use Rattle.memo_cells.specs.Steps.{BitsSeen}
use Rattle.memo_cells.specs.Views.{Has, IsAtLeast}
use Rattle.memo_cells.proofs.Agreeing.{IsOpen, own_open}
use Rattle.memo_cells.proofs.Lifting.{may_raise_set_later, may_raise_truth_later}
use Rattle.memo_cells.proofs.Meaning.{code_true, true_code}
use Rattle.memo_cells.proofs.More.{at_least_then}
use Rattle.memo_cells.proofs.Naming.{stands_later, word_once}
use Rattle.memo_cells.proofs.Seeing.{raised_kind, same_there, truth_seen}
use Rattle.memo_cells.proofs.Showing.{not_both}
use Rattle.memo_cells.proofs.Ways.{on_err}

pub kind_of_truth : (k : Kind) → truth_kind k ≡ true → k ≡ kinds.Truth
kind_of_truth kinds.Truth e = refl
kind_of_truth kinds.Int e = cc
kind_of_truth kinds.Text e = cc
kind_of_truth (kinds.Node d) e = cc
kind_of_truth kinds.Texts e = cc
kind_of_truth (kinds.Nodes d) e = cc

set_no_truth : (k : Kind) → is_single k ≡ false → truth_kind k ≡ false
set_no_truth kinds.Truth e = cc
set_no_truth kinds.Int e = refl
set_no_truth kinds.Text e = refl
set_no_truth (kinds.Node d) e = refl
set_no_truth kinds.Texts e = refl
set_no_truth (kinds.Nodes d) e = refl

-- the type of the instance of a slot tells which of the two it is
module _ (p : Program) (f : Frame) (u v : View) (kept : IsAtLeast u v) (slot w bits : ℕ) (lt : slot < f.cells) (nz : bits ≢ 0) (fits : bits < 2 ^ 64) (b : Bool) (told : (i : Instance) → IsCellOf p f u i slot → b ≡ truth_kind (kind_in p i)) where
  of_truth : (t : MayRaiseTruth p u slot) → b ≡ true
  of_truth t = told t.of (t.key, (lt, t.here), t.stands) ∙ ap truth_kind t.kind

  of_set : (s : MayRaiseSet p u slot w bits) → b ≡ false
  of_set s = told s.of (s.key, (lt, s.here), s.stands) ∙ set_no_truth (kind_in p s.of) (raised_kind p f u slot w bits nz fits s)

  pub raises_truth : b ≡ true → MayRaise p u slot w bits → MayRaiseTruth p v slot × (w ≡ 0) × (bits ≡ 1)
  raises_truth e h = ⊎_elim (λ t. (may_raise_truth_later p u v kept slot t.0, t.1, t.2)) (λ s. absurd (not_both (of_set s) e)) h

  pub raises_set : b ≡ false → MayRaise p u slot w bits → MayRaiseSet p v slot w bits
  raises_set e h = ⊎_elim (λ t. absurd (not_both e (of_truth t.0))) (λ s. may_raise_set_later p u v kept slot w bits s) h

-- the word of a truth value, which has no other
pub truth_word : (p : Program) (f : Frame) (v : View) (slot w bits x : ℕ) → w ≡ 0 → bits ≡ 1 → HasWord p f v slot 0 1 x → HasWord p f v slot w bits x
truth_word p f v slot w bits x z o h = subst (λ (y : ℕ × ℕ). HasWord p f v slot y.0 y.1 x) (λ i. (sym z i, sym o i)) h

-- a refusal is of a set
pub refused_set : {T E : Type 0} (p : Program) (f : Frame) (u v : View) (kept : IsAtLeast u v) (own : IsPassOf f v) (pooled : ArePooled p.texts) (by : IsOpen p v.made) (slot w bits : ℕ) → bits ≢ 0 → bits < 2 ^ 64 → (s : MayRaiseSet p u slot w bits) (r : Result T E) → OnErr r ((i : Instance) → IsCellOf p f v i slot → is_single (kind_in p i) ≡ false)
refused_set p f u v kept own pooled by slot w bits nz fits s r =
    on_err r (λ i cell. ap (λ (j : Instance). is_single (kind_in p j)) (same_there p f u v kept own pooled by slot s.key i s.of s.here s.stands cell) ∙ raised_kind p f u slot w bits nz fits s)

-- a value that isn't of a set or a truth value has no word
pub other_seen : (p : Program) (v : View) (i : Instance) (k : Kind) (w x : ℕ) → truth_kind k ≡ false → (is_single k ≡ false → IsWordSeen p v i k w x) → IsWordSeen p v i k w x
other_seen p v i kinds.Truth w x e h = cc
other_seen p v i kinds.Int w x e h = tt
other_seen p v i kinds.Text w x e h = tt
other_seen p v i (kinds.Node d) w x e h = tt
other_seen p v i kinds.Texts w x e h = h refl
other_seen p v i (kinds.Nodes d) w x e h = h refl

module _ (p : Program) (f : Frame) (u v : View) (kept : IsAtLeast u v) (own : IsPassOf f v) (pooled : ArePooled p.texts) (by : IsOpen p v.made) (slot : ℕ) (b : Bool) (told : (i : Instance) → IsCellOf p f u i slot → b ≡ truth_kind (kind_in p i)) (cell : (i : Instance) × IsCellOf p f u i slot) where
  -- the instance of the slot later is the one that it was
  pub kind_told : (i : Instance) → IsCellOf p f v i slot → b ≡ truth_kind (kind_in p i)
  kind_told i at = told cell.0 cell.1 ∙ ap (λ (j : Instance). truth_kind (kind_in p j)) (sym (same_there p f u v kept own pooled by slot cell.1.0 i cell.0 cell.1.1.1 cell.1.2 at))

  pub kind_true : b ≡ true → (i : Instance) → IsCellOf p f v i slot → kind_in p i ≡ kinds.Truth
  kind_true e i at = kind_of_truth (kind_in p i) (sym (kind_told i at) ∙ e)

  pub kind_other : b ≡ false → (i : Instance) → IsCellOf p f v i slot → truth_kind (kind_in p i) ≡ false
  kind_other e i at = sym (kind_told i at) ∙ e

  pub word_of_truth : (t : View) (w x : ℕ) → b ≡ true → BitsSeen p t v slot x → (i : Instance) → IsCellOf p f v i slot → IsWordSeen p v i (kind_in p i) w (x % 2)
  word_of_truth t w x e seen i at = truth_seen p f v own pooled by i slot at t w x (kind_true e i at) seen

  pub word_of_other : (w x : ℕ) → b ≡ false → ((i : Instance) → IsCellOf p f v i slot → is_single (kind_in p i) ≡ false → IsWordSeen p v i (kind_in p i) w x) → (i : Instance) → IsCellOf p f v i slot → IsWordSeen p v i (kind_in p i) w x
  word_of_other w x e seen i at = other_seen p v i (kind_in p i) w x (sym (kind_told i at) ∙ e) (seen i at)

-- What a call loaded is a word of the value of what was seen settled before: u is what it knew first, t just before the load, and v then.
module _ (f : Frame) (u t v : View) (kept : IsAtLeast u t) (more : IsAtLeast t v) (own : IsPassOf f v) (i : Instance) (known : Knows (program_of f.system.value) u i) (slot : ℕ) (cell : IsCellOf (program_of f.system.value) f v i slot) where
  abbrev p : Program
  p = program_of f.system.value

  -- what was known stands in the slot
  its_code : (x : ℕ) → BitsSeen p t v slot x → IsCodeOf p v.made i known.code × (x ≡ known.code + 2 ^ 63)
  its_code x seen =
      let before : Has t.values (known.slot, known.key, known.code) = kept.values known.slot known.key known.code known.settled in
      let now : Has v.values (known.slot, known.key, known.code) = more.values known.slot known.key known.code before in
      let stands : StandsFor p v known.key i = stands_later u v (at_least_then kept more) p known.key i known.stands in
      let key : known.key ≡ cell.0 = word_once v own.one_key own.one_place p (texts_pooled f.system.value) (own_open f v [] own) known.key cell.0 i stands cell.2 in
      let place : known.slot ≡ slot = own.one_place known.slot slot cell.0 (subst (λ (y : ℕ). Has v.keys (known.slot, y)) key (own.valued known.slot known.key known.code now)) cell.1.1 in
      (own.coded known.slot known.key known.code now i stands, seen.code known.key known.code (subst (λ (s : ℕ). Has t.values (s, known.key, known.code)) place before))

  -- so it is known which key a word of its set has
  pub known_key : (w : ℕ) → slot < 2 ^ 29 → w < 2 ^ 32 → IsPassOf f u → IsWordOf p t (set_word slot w) i w
  known_key w low small first =
      let stands : StandsFor p v known.key i = stands_later u v (at_least_then kept more) p known.key i known.stands in
      let key : known.key ≡ cell.0 = word_once v own.one_key own.one_place p (texts_pooled f.system.value) (own_open f v [] own) known.key cell.0 i stands cell.2 in
      let there : Has t.keys (known.slot, known.key) = kept.keys known.slot known.key (first.valued known.slot known.key known.code known.settled) in
      let place : known.slot ≡ slot = own.one_place known.slot slot cell.0 (subst (λ (y : ℕ). Has v.keys (known.slot, y)) key (more.keys known.slot known.key there)) cell.1.1 in
      record { slot = slot; key = known.key; there = subst (λ (s : ℕ). Has t.keys (s, known.key)) place there; stands = stands_later u t kept p known.key i known.stands; low = low; small = small; is = refl }

  -- of a truth value
  pub truth_known : (w x : ℕ) → kind_in p i ≡ kinds.Truth → BitsSeen p t v slot x → IsWordOfValue p u.made i w (x % 2)
  truth_known w x kind seen =
      let its = its_code x seen in
      record {
        value = its.0.value;
        has = its.0.has;
        bits = λ set. absurd (not_both set (ap is_single kind));
        tells = λ _. (
          (λ e. code_true p v.made (own_open f v [] own) i known.code its.0 kind (let at = its.1 in omega (arith, e, at))),
          (λ e. let one = true_code p v.made (own_open f v [] own) i known.code its.0 kind e in let at = its.1 in omega (arith, one, at)),
        );
      }

-- of a value that is no set, and no truth value
pub other_known : (p : Program) (ms : List CodedInstance) (i : Instance) (w x : ℕ) → truth_kind (kind_in p i) ≡ false → (is_single (kind_in p i) ≡ false → IsWordOfValue p ms i w x) → (y : Value) × HasValue p i y → IsWordOfValue p ms i w x
other_known p ms i w x other set has = record {
  value = has.0;
  has = has.1;
  bits = λ e b low code. let h = set e in subst (λ (y : Value). (bit_at x b ≡ 1) ↔ HasCodeAt p ms (kind_in p i) y (64 * w + b)) (one p i h.value has.0 h.has has.1) (h.bits e b low code);
  tells = λ kind. absurd (not_both other (ap truth_kind kind));
}

-- what is known has a value
pub known_value : (f : Frame) (v : View) (own : IsPassOf f v) (i : Instance) → Knows (program_of f.system.value) v i → (y : Value) × HasValue (program_of f.system.value) i y
known_value f v own i k = let c = own.coded k.slot k.key k.code k.settled i k.stands in (c.value, c.has)
