-- What was claimed for a set of instances, and what fills the cells.
use Rattle.std.proofs.Common.{◌≡◌, ℕ, ◌/◌, ◌<◌, ◌≤◌, List, inl, inr, ⊎_elim, refl, sym, ap, subst, ◌∙◌, arith}
use Rattle.solutions.specs.Leading.{more, none}
use Rattle.equation_law.specs.Equations.{kind_in}
use mathlib.Core.Logic.{dite}
use native.Mathlib.Decide.{dec_le}
use Rattle.ast_grammar.specs.declared.grammar.ClassId.{ClassId}
use Rattle.attr_rules.specs.declared.kinds.Kind.{Kind}
use Rattle.attr_rules.specs.declared.kinds.Kind.TheVariants as kinds
use Rattle.tree_arena.specs.Nodes.{most_nodes}
use Rattle.equation_law.specs.Checked.{IsNodeOf}
use Rattle.equation_law.specs.Codes.{IsNamingOf, Naming, reference_by}
use Rattle.equation_law.specs.Keys.{HasCode, HasElement, HasMember, HasNode, IsElementCode, IsJust, IsKey, IsMade, IsReached, Member, Part, Prefix, Word}
use Rattle.equation_law.specs.Loops.{Chain, Leads}
use Rattle.equation_law.specs.Names.{At, Instance, NodeName}
use Rattle.equation_law.specs.Program.{Program}
use Rattle.equation_law.specs.Systems.{program_of}
use Rattle.equation_law.specs.Values.{Value, has_node, nodes}
use Rattle.made_trees.specs.Made.{naming_by_makers}
use Rattle.made_trees.proofs.Nodes.{made_known}
use Rattle.memo_cells.specs.declared.view.Frame.{Frame}
use Rattle.memo_cells.specs.declared.view.View.{View}
use Rattle.memo_cells.specs.Agreeing.{HasCodeAt, IsElementAt}
use Rattle.memo_cells.specs.Claiming.{ClaimsKeys, ClaimsKeysOf, CountsCode, FillsCells, IsKeyOf, IsKeyOfPart}
use Rattle.memo_cells.specs.Naming.{ClaimsKeysTo, IsKeyTo, IsWordOf, LacksCell}
use Rattle.memo_cells.specs.SetRaising.{ClaimsWords, IsWordWith, LacksWord}
use Rattle.memo_cells.specs.Standing.{IsSeatOf, trees_of}
use Rattle.memo_cells.specs.Views.{Has, IsAtLeast, times}
use Rattle.memo_cells.proofs.Agreeing.{IsOpen, meaning_each, node_known_later, own_open, reference_later, source_stands}
use Rattle.memo_cells.proofs.Naming.{stands_later, word_later}

-- a chain, and one step more
pub chain_more : (p : Program) (i j k : Instance) → Chain p i j → Leads p j k → Chain p i k
chain_more p i j k none l = more l none
chain_more p i j k (more {j = h} m c) l = more m (chain_more p h j k c l)

-- a chain, and another one
pub chain_then : (p : Program) {i j k : Instance} → Chain p i j → Chain p j k → Chain p i k
chain_then p none c = c
chain_then p (more l d) c = more l (chain_then p d c)

-- the first set leads to each instance of the second
abbrev pub LeadsToAll : Program → (Instance → Type 0) → (Instance → Type 0) → Type 0
LeadsToAll p Q R = (j : Instance) → R j → IsReached p Q j

pub all_just : (p : Program) (i n : Instance) → Chain p i n → LeadsToAll p (IsJust i) (IsJust n)
all_just p i n c j e = (i, refl, subst (λ (k : Instance). Chain p i k) (sym e) c)

module _ (p : Program) (Q R : Instance → Type 0) (on : LeadsToAll p Q R) where
  reached_more : (j : Instance) → IsReached p R j → IsReached p Q j
  reached_more j h = let before = on h.0 h.1 in (before.0, before.1, chain_then p before.2 h.2)

  key_more : (x : Part) → IsKey p R x → IsKey p Q x
  key_more (Prefix x) h = (h.0, h.1, reached_more h.0 h.2)
  key_more (Word j w) h = (reached_more j h.0, h.1)
  key_more (Member j m) h = (reached_more j h.0, h.1)

  -- so its keys are among those of the first
  pub key_of_more : (v : View) (k : ℕ) → IsKeyOf p v R k → IsKeyOf p v Q k
  key_of_more v k h = (h.0, h.1, key_more h.0 h.2)

-- a key word goes on to be that of the same
pub part_later : (v w : View) → IsAtLeast v w → (p : Program) (k : ℕ) (x : Part) → IsKeyOfPart p v k x → IsKeyOfPart p w k x
part_later v w kept p k (Prefix x) h = stands_later v w kept p k x h
part_later v w kept p k (Word i n) h = word_later v w kept p k i n h
part_later v w kept p k (Member i m) h = record { code = h.code; at = reference_later p kept.made h.code _ h.at; known = node_known_later p kept.made h.code h.known; word = word_later v w kept p k i _ h.word }

-- what was claimed before, and what is claimed for a set to which the first leads
pub claims_on_of : (p : Program) (Q R : Instance → Type 0) (u v w : View) → LeadsToAll p Q R → ClaimsKeysOf p Q u v → IsAtLeast v w → ClaimsKeysOf p R v w → ClaimsKeysOf p Q u w
claims_on_of p Q R u v w on before kept after s = ⊎_elim
    (λ same. ⊎_elim (λ e. inl (same ∙ e)) (λ k. inr (k.0, kept.keys s k.0 k.1, (k.2.0, part_later v w kept p k.0 k.2.0 k.2.1, k.2.2))) (before s))
    (λ k. inr (k.0, k.1, key_of_more p Q R on w k.0 k.2))
    (after s)

-- the same for instances
pub claims_then : (p : Program) (i n : Instance) (u v w : View) → Chain p i n → ClaimsKeys p i u v → IsAtLeast v w → ClaimsKeys p n v w → ClaimsKeys p i u w
claims_then p i n u v w reached before kept after = claims_on_of p (IsJust i) (IsJust n) u v w (all_just p i n reached) before kept after

pub claims_same : (p : Program) (i : Instance) (v w : View) → w.claims ≡ v.claims → ClaimsKeys p i v w
claims_same p i v w same s = inl (ap (λ (cs : List ℕ). times s cs) same)

-- full cells, for one that leads to it
pub fills_more : (p : Program) (i n : Instance) (f : Frame) (v : View) → Chain p i n → FillsCells p n f v → FillsCells p i f v
fills_more p i n f v reached h = (h.0, key_of_more p (IsJust i) (IsJust n) (all_just p i n reached) v h.0 h.1, h.2)

-- the way to the cell of an instance to which i leads
module _ (p : Program) (i n : Instance) (reached : Chain p i n) where
  way_key : (v : View) (k : ℕ) → IsKeyTo p v n k → IsKeyOf p v (IsJust i) k
  way_key v k h = (Prefix h.prefix, h.stands, (n, h.of, (i, refl, reached)))

  pub claims_way : (v w : View) → ClaimsKeysTo p v w n → ClaimsKeys p i v w
  claims_way v w only s = ⊎_elim inl (λ k. inr (k.0, k.1, way_key w k.0 k.2)) (only s)

  pub fills_way : (f : Frame) (v : View) → LacksCell p f v n → FillsCells p i f v
  fills_way f v h = (h.0, way_key v h.0 h.1, h.2)

-- the words of its set in which elements lie: each is that of a text or a source node in it, or else of a created node
module _ (f : Frame) (v : View) (left : List ℕ) (own : IsSeatOf f v left) (i n : Instance) (reached : Chain (program_of f.system.value) i n) where
  abbrev p : Program
  p = program_of f.system.value

  by : IsOpen p v.made
  by = own_open f v left own

  its : IsReached p (IsJust i) n
  its = (i, refl, reached)

  -- a source node by each naming
  source_each : {m : Naming} → IsNamingOf p m → (c : ℕ) → c ≤ most_nodes → reference_by m.node c ≡ reference_by (naming_by_makers p v.made).node c
  source_each named c low = source_stands named c low ∙ sym (source_stands by.named c low)

  has_text : (c : ℕ) → kind_in p n ≡ kinds.Texts → CountsCode p v.made n kinds.Texts c → HasElement p n c
  has_text c e counts = ⊎_elim (λ h. inl (h.0, h.1, subst (λ (k : Kind). HasCode p k h.0 c) (sym e) h.2)) (λ h. inr (h.0, h.1, h.2, subst (λ (k : Kind). HasCode p k (h.0 n) c) (sym e) h.3)) counts

  module _ (d : ClassId) (e : kind_in p n ≡ kinds.Nodes d) (c : ℕ) where
    source_had : c ≤ most_nodes → (x : Value) → HasCodeAt p v.made (kinds.Nodes d) x c → HasCode p (kind_in p n) x c
    source_had low x h = subst (λ (k : Kind). HasCode p k x c) (sym e) (λ m named. ap (has_node (nodes x)) (source_each named c low) ∙ h _ by)

    has_source : c ≤ most_nodes → CountsCode p v.made n (kinds.Nodes d) c → HasElement p n c
    has_source low counts = ⊎_elim (λ h. inl (h.0, h.1, source_had low h.0 h.2)) (λ h. inr (h.0, h.1, h.2, source_had low (h.0 n) h.3)) counts

    module _ (element : IsElementAt p v.made (kinds.Nodes d) c) (m : NodeName) (stands : reference_by (naming_by_makers p v.made).node c ≡ At m) where
      node_had : (x : Value) → HasCodeAt p v.made (kinds.Nodes d) x c → HasNode p (kind_in p n) x m
      node_had x h = subst (λ (k : Kind). HasNode p k x m) (sym e) (subst (IsNodeOf p d) (sym (element.1.1 _ by) ∙ stands) element.1.2, ap (has_node (nodes x)) (sym stands) ∙ h _ by)

      has_member : IsMade m → CountsCode p v.made n (kinds.Nodes d) c → HasMember p n m
      has_member made counts = record { made = made; within = ⊎_elim (λ h. inl (h.0, h.1, node_had h.0 h.2)) (λ h. inr (h.0, h.1, h.2, node_had (h.0 n) h.3)) counts }

    node_key : (key : ℕ) → IsWordOf p v key n (c / 64) → IsElementAt p v.made (kinds.Nodes d) c → CountsCode p v.made n (kinds.Nodes d) c → IsKeyOf p v (IsJust i) key
    node_key key word element counts = dite (dec_le c most_nodes)
        (λ low.
        let tied : IsElementCode p (kinds.Nodes d) c = (element.0, (element.1.0, (λ m named. source_each named c low ∙ element.1.1 _ by), element.1.2)) in
        (Word n (c / 64), word, (its, record { code = c; element = subst (λ (k : Kind). IsElementCode p k c) (sym e) tied; within = has_source low counts; lies = refl })))
        (λ past.
        let made = made_known (trees_of f v.made) own.trees c (omega (arith, past)) element.2 in
        (Member n made.0, record { code = c; at = meaning_each p v.made by c (At made.0) element.2 made.1; known = element.2; word = word }, (its, has_member element made.0 made.1 made.2 counts)))

  word_part : (k : Kind) → kind_in p n ≡ k → (key c : ℕ) → IsWordOf p v key n (c / 64) → IsElementAt p v.made k c → CountsCode p v.made n k c → IsKeyOf p v (IsJust i) key
  word_part kinds.Truth e key c word element counts = absurd element
  word_part kinds.Int e key c word element counts = absurd element
  word_part kinds.Text e key c word element counts = absurd element
  word_part (kinds.Node d) e key c word element counts = absurd element
  word_part kinds.Texts e key c word element counts = (Word n (c / 64), word, (its, record { code = c; element = subst (λ (k : Kind). IsElementCode p k c) (sym e) element; within = has_text c e counts; lies = refl }))
  word_part (kinds.Nodes d) e key c word element counts = node_key d e c key word element counts

  module _ (codes : List ℕ) (elements : (c : ℕ) → Has codes c → IsElementAt p v.made (kind_in p n) c × CountsCode p v.made n (kind_in p n) c) where
    word_key : (k : ℕ) → IsWordWith p v n codes k → IsKeyOf p v (IsJust i) k
    word_key k h = let e = elements h.code h.among in word_part (kind_in p n) refl k h.code (subst (IsWordOf p v k n) (sym h.lies) h.key) e.0 e.1

    pub claims_words : (u : View) → ClaimsWords p u v n codes → ClaimsKeys p i u v
    claims_words u only s = ⊎_elim inl (λ k. inr (k.0, k.1, word_key k.0 k.2)) (only s)

    pub fills_words : LacksWord p f v n codes → FillsCells p i f v
    fills_words h = (h.0, word_key h.0 h.1, h.2)

pub claims_to : (p : Program) (i : Instance) (v w : View) → ClaimsKeysTo p v w i → ClaimsKeys p i v w
claims_to p i v w only = claims_way p i i none v w only

pub fills_to : (p : Program) (i : Instance) (f : Frame) (v : View) → LacksCell p f v i → FillsCells p i f v
fills_to p i f v h = fills_way p i i none f v h
