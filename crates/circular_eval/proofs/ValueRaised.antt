-- Raising what a value has more than another one.
use Rattle.std.proofs.Common.{◌≡◌, ◌<◌, ◌≤◌, ℕ, ℤ, zero, suc, Bool, true, false, List, [], Option, Some, None, Result, Ok, Err, inl, ⊎_elim, refl, sym, ap, subst, ◌∙◌, arith}
use Rattle.std.specs.Int.{bit_at}
use Rattle.std.specs.List.{All}
use Rattle.std.specs.Result.{IsErr, IsErrAnd}
use Rattle.code_sets.specs.Members.{has_code as in_codes}
use Rattle.ast_grammar.specs.declared.grammar.ClassId.{ClassId}
use Rattle.attr_rules.specs.declared.kinds.Kind.{Kind}
use Rattle.attr_rules.specs.declared.kinds.Kind.TheVariants as kinds
use Rattle.attr_rules.specs.Rules.{is_single}
use Rattle.attr_rules.specs.Types.{truth_kind}
use Rattle.equation_law.specs.declared.coding.Value.{Value as CodedValue}
use Rattle.equation_law.specs.declared.coding.Value.TheVariants as coded
use Rattle.equation_law.specs.declared.system.System.{System}
use Rattle.equation_law.specs.Checked.{IsNodeOf, IsValue, int as is_int, node as is_node, nodes as are_nodes, text as is_text}
use Rattle.equation_law.specs.Codes.{Naming, reference_by, value_by}
use Rattle.equation_law.specs.Equations.{HasValue, kind_in}
use Rattle.equation_law.specs.Names.{At, Instance, NodeName, Reference}
use Rattle.equation_law.specs.Orders.{FitsKind, IsAtMost}
use Rattle.equation_law.specs.Program.{Program}
use Rattle.equation_law.specs.Sets.{has}
use Rattle.equation_law.specs.Values.{Int, Node, Nodes, Text, Value, has_node}
use Rattle.memo_cells.specs.Agreeing.{Agrees, HasCodeAt, IsElementAt, IsKnownNode, IsReferenceAt}
use Rattle.memo_cells.specs.Naming.{IsCellOf}
use Rattle.memo_cells.specs.Showing.{IsWordSeen, ShowsAtLeast, ShowsTrue}
use Rattle.memo_cells.specs.Standing.{AreApproximations, HasWord, IsShown, MayRaise}
use Rattle.memo_cells.specs.Views.{Has, times}
use Rattle.memo_cells.specs.Working.{GoesOn, Held, IsOwn, program_at}
use Rattle.memo_cells.proofs.Agreeing.{IsOpen, agrees_before, meaning_each, own_open, stands_has, value_known_later}
use Rattle.memo_cells.proofs.Naming.{cell_later}
use Rattle.memo_cells.proofs.Showing.{at_least_later, has_code_more, not_both, values_shown_later}
use Rattle.set_values.specs.CodedSets.{nodes_set, texts_set}
use Rattle.set_values.proofs.Coded.{holds_of}
use Rattle.set_values.proofs.NodeCodes.{IsNode, has_node_by}
use Rattle.set_values.proofs.TextCodes.{IsKnown, has_text_by}
use Rattle.memo_cells.specs.SetRaising.{ClaimsWords, MayShowAll, set_codes}
use Rattle.circular_eval.specs.declared.advancing.CircFault.{CircFault}
use Rattle.circular_eval.specs.Rising.{AnswersRaise, AnswersSet, MayRise, RaisesSet, RaisesValue}
use Rattle.memo_cells.proofs.Holding.{goes_itself}
use Rattle.circular_eval.proofs.Going.{program_on}
use Rattle.circular_eval.proofs.Lowering.{comes_below}
use Rattle.circular_eval.proofs.Raised.{err_is, no_claims}
use Rattle.circular_eval.proofs.Rising.{code_there, kind_of_nodes, kind_of_texts, kind_of_truth, nodes_most, nodes_risen, texts_most, texts_risen, there_code, truth_most, truth_risen}

-- both as they are coded
pub as_coded : (d e : Held) (place : ℕ) (value other x y : CodedValue) (r : Result (Option CodedValue) CircFault) → value ≡ x → other ≡ y → RaisesValue d e place x y r → RaisesValue d e place value other r
as_coded d e place value other x y r a b h = subst (λ (z : CodedValue × CodedValue). RaisesValue d e place z.0 z.1 r) (λ i. (sym a i, sym b i)) h

pub may_coded : (d : Held) (names : Naming) (i : Instance) (place : ℕ) (value other x y : CodedValue) → value ≡ x → other ≡ y → MayRise d names i place value other → MayRise d names i place x y
may_coded d names i place value other x y a b h = subst (λ (z : CodedValue × CodedValue). MayRise d names i place z.0 z.1) (λ j. (a j, b j)) h

-- truth values
pub truth_none : (d : Held) → IsOwn d → (place : ℕ) (a b : Bool) → (a ≡ true → b ≡ true) → RaisesValue d d place (coded.Truth a) (coded.Truth b) (Ok None)
truth_none d own place a b h = record {
  on = goes_itself d own;
  answer = λ names agrees i may. truth_most names a b h;
  claims = λ names agrees i may. no_claims (program_at d) d.view i [];
}

kind_is : (d : Held) (names : Naming) (i : Instance) (place : ℕ) (a b : Bool) → MayRise d names i place (coded.Truth a) (coded.Truth b) → kind_in (program_at d) i ≡ kinds.Truth
kind_is d names i place a b may = kind_of_truth (program_at d) (kind_in (program_at d) i) a may.typed

pub truth_may : (d : Held) (names : Naming) (i : Instance) (place : ℕ) (a b : Bool) → a ≡ true → MayRise d names i place (coded.Truth a) (coded.Truth b) → MayRaise (program_at d) d.view place 0 1
truth_may d names i place a b e may = inl (record { of = i; key = may.cell.0; here = may.cell.1.1; stands = may.cell.2; is_circular = may.is_circular; kind = kind_is d names i place a b may; value = value_by names (coded.Truth a); comes = may.comes; is_true = e }, refl, refl)

module _ (d e : Held) (place : ℕ) (a b : Bool) (on : GoesOn d e) (plain : (i : Instance) → IsCellOf (program_at d) d.frame e.view i place → truth_kind (kind_in (program_at d) i) ≡ true → e.view.claims ≡ d.view.claims) where
  later : (names : Naming) (i : Instance) → MayRise d names i place (coded.Truth a) (coded.Truth b) → IsCellOf (program_at d) d.frame e.view i place
  later names i may = cell_later d.view e.view on.kept (program_at d) d.frame i place may.cell

  truth_claims : (names : Naming) (i : Instance) → MayRise d names i place (coded.Truth a) (coded.Truth b) → ClaimsWords (program_at d) d.view e.view i []
  truth_claims names i may q = inl (ap (λ (cs : List ℕ). times q cs) (plain i (later names i may) (ap truth_kind (kind_is d names i place a b may))))

  pub truth_full : ((i : Instance) → IsCellOf (program_at d) d.frame e.view i place → is_single (kind_in (program_at d) i) ≡ false) → (r : Result (Option CodedValue) CircFault) → RaisesValue d e place (coded.Truth a) (coded.Truth b) r
  truth_full set r = record {
    on = on;
    answer = λ names agrees i may. absurd (not_both (set i (later names i may)) (ap is_single (kind_is d names i place a b may)));
    claims = λ names agrees i may. truth_claims names i may;
  }

  one_bit : (x : ℕ) → x ≤ 1 → bit_at x 0 ≡ 1 → x ≡ 1
  one_bit zero l h = absurd (let q : ⊥ = cc in q)
  one_bit (suc zero) l h = refl
  one_bit (suc (suc n)) l h = absurd (omega (arith, l))

  seen_true : (i : Instance) (k : Kind) (x : ℕ) → k ≡ kinds.Truth → IsWordSeen (program_at d) e.view i k 0 x → bit_at x 0 ≡ 1 → ShowsTrue (program_at d) e.view i
  seen_true i k x is seen bit = let s = subst (λ (j : Kind). IsWordSeen (program_at d) e.view i j 0 x) is seen in s.1.0 (one_bit x s.0 bit)

  pub truth_more : a ≡ true → b ≡ false → (x : ℕ) → HasWord (program_at d) d.frame e.view place 0 1 x → RaisesValue d e place (coded.Truth a) (coded.Truth b) (Ok (Some (coded.Truth true)))
  truth_more h k x word = record {
    on = on;
    answer = λ names agrees i may.
        let kind = kind_is d names i place a b may in
        subst (λ (z : Bool × Bool). AnswersRaise (program_at d) names d.frame e.view i (coded.Truth z.0) (coded.Truth z.1) (Ok (Some (coded.Truth true)))) (λ j. (sym h j, sym k j))
        (truth_risen (program_at d) names e.view i kind (seen_true i (kind_in (program_at d) i) x kind (word.seen i (later names i may)) (word.added 0 refl)));
    claims = λ names agrees i may. truth_claims names i may;
  }

-- sets
abbrev pub wrapped : (List ℕ → CodedValue) → Result (Option (List ℕ)) CircFault → Result (Option CodedValue) CircFault
wrapped f (Ok None) = Ok None
wrapped f (Ok (Some x)) = Ok (Some (f x))
wrapped f (Err fault) = Err fault

module _ (d : Held) (names : Naming) (agrees : Agrees (program_at d) d.view.made names) (i : Instance) (place : ℕ) (a : List ℕ) (b : CodedValue) where
  abbrev s : System
  s = d.frame.system.value

  abbrev p : Program
  p = program_at d

  text_element : kind_in p i ≡ kinds.Texts → All (IsKnown s) a → (c : ℕ) → Has a c → IsElementAt p d.view.made (kind_in p i) c × HasCodeAt p d.view.made (kind_in p i) (value_by names (coded.Texts a)) c
  text_element k all c there =
      let known = holds_of (IsKnown s) a all c (there_code a c there) in
      subst (λ (j : Kind). IsElementAt p d.view.made j c × HasCodeAt p d.view.made j (value_by names (coded.Texts a)) c) (sym k) (known, ap (λ (f : ℕ → List ℕ). has (texts_set names a) (f c)) (sym agrees.named.texts) ∙ has_text_by s agrees.named c known a all ∙ there_code a c there)

  pub texts_show : MayRise d names i place (coded.Texts a) b → MayShowAll p d.frame d.view i place a
  texts_show may = record {
    cell = may.cell;
    instance = may.instance;
    value = value_by names (coded.Texts a);
    may = inl (may.is_circular, may.comes);
    elements = text_element (kind_of_texts p (kind_in p i) (texts_set names a) may.typed) may.elements;
  }

  nodes_at : (c : ClassId) → IsValue p (kinds.Nodes c) (Nodes (nodes_set names.node a)) → (n : NodeName) → has (nodes_set names.node a) n ≡ true → IsNodeOf p c (At n)
  nodes_at c (are_nodes _ _ h) n there = h n there

  node_there : (c : ClassId) (k : Kind) → k ≡ kinds.Nodes c → IsValue p k (Nodes (nodes_set names.node a)) → (n : NodeName) → has (nodes_set names.node a) n ≡ true → IsNodeOf p c (At n)
  node_there c k e h n there = nodes_at c (subst (λ (j : Kind). IsValue p j (Nodes (nodes_set names.node a))) e h) n there

  node_code : (c : ClassId) → ((n : NodeName) → has (nodes_set names.node a) n ≡ true → IsNodeOf p c (At n)) → (k : ℕ) → 0 < k → has_node (nodes_set names.node a) (reference_by names.node k) ≡ true → IsNodeOf p c (reference_by names.node k)
  node_code c h zero low e = absurd (omega (arith, low))
  node_code c h (suc k) low e = h (names.node k) e

  node_element : (c : ClassId) → kind_in p i ≡ kinds.Nodes c → IsValue p (kind_in p i) (Nodes (nodes_set names.node a)) → All IsNode a → All (IsKnownNode d.view.made) a → (k : ℕ) → Has a k → IsElementAt p d.view.made (kind_in p i) k × HasCodeAt p d.view.made (kind_in p i) (value_by names (coded.Nodes a)) k
  node_element c q typed all known k there =
      let low = holds_of IsNode a all k (there_code a k there) in
      let near = holds_of (IsKnownNode d.view.made) a known k (there_code a k there) in
      let within = has_node_by names.node agrees.named.one_code k a all ∙ there_code a k there in
      let r = reference_by names.node k in
      let of = node_code c (node_there c (kind_in p i) q typed) k low within in
      let stands : IsReferenceAt p d.view.made k r = meaning_each p d.view.made agrees k r near refl in
      let x = value_by names (coded.Nodes a) in
      subst (λ (j : Kind). IsElementAt p d.view.made j k × HasCodeAt p d.view.made j x k) (sym q) ((low, (r, stands, of), near), stands_has p d.view.made x k r c stands within)

  pub nodes_show : MayRise d names i place (coded.Nodes a) b → MayShowAll p d.frame d.view i place a
  nodes_show may =
      let k = kind_of_nodes p (kind_in p i) (nodes_set names.node a) may.typed in
      record {
        cell = may.cell;
        instance = may.instance;
        value = value_by names (coded.Nodes a);
        may = inl (may.is_circular, may.comes);
        elements = node_element k.0 k.1 may.typed may.elements may.known;
      }

module _ (d e : Held) (names : Naming) (agrees : Agrees (program_at d) e.view.made names) (place : ℕ) (a b : List ℕ) (on : GoesOn d e) where
  abbrev q : Program
  q = program_at d

  -- it agreed before
  before : Agrees q d.view.made names
  before = agrees_before q on.kept.made agrees

  open_now : IsOpen q e.view.made
  open_now = subst (λ (u : Program). IsOpen u e.view.made) (program_on d e on) (own_open e.frame e.view [] on.own)

  near_now : AreApproximations q e.view
  near_now = subst (λ (u : Program). AreApproximations u e.view) (program_on d e on) on.own.approximations

  -- a value is at most the other one, if that is final
  final_most : (i : Instance) (value other : CodedValue) → MayRise d names i place value other → HasValue q i (value_by names other) → IsAtMost (value_by names value) (value_by names other)
  final_most i value other may has =
      comes_below q e.view near_now open_now i may.is_circular (value_by names value)
      (record { below = may.comes.below; shown = values_shown_later q d.view e.view on.kept may.comes.below may.comes.shown; demands = may.comes.demands; ends = may.comes.ends })
      (value_by names other) has

  -- then the other one has all codes
  texts_had : (i : Instance) → kind_in q i ≡ kinds.Texts → MayRise d names i place (coded.Texts a) (coded.Texts b) → HasValue q i (value_by names (coded.Texts b)) → (c : ℕ) → in_codes a c ≡ true → in_codes b c ≡ true
  texts_had i k may solved c h =
      let within = (text_element d names before i place a (coded.Texts b) k may.elements c (code_there a c h)).1 in
      let more : HasCodeAt q d.view.made (kind_in q i) (value_by names (coded.Texts b)) c = has_code_more q d.view.made (kind_in q i) (value_by names (coded.Texts a)) (value_by names (coded.Texts b)) c (final_most i (coded.Texts a) (coded.Texts b) may solved) within in
      sym (ap (λ (f : ℕ → List ℕ). has (texts_set names b) (f c)) (sym agrees.named.texts) ∙ has_text_by d.frame.system.value agrees.named c (holds_of (IsKnown d.frame.system.value) a may.elements c h) b may.of) ∙ subst (λ (j : Kind). HasCodeAt q d.view.made j (value_by names (coded.Texts b)) c) k more

  nodes_had : (i : Instance) (n : ClassId) → kind_in q i ≡ kinds.Nodes n → MayRise d names i place (coded.Nodes a) (coded.Nodes b) → HasValue q i (value_by names (coded.Nodes b)) → (c : ℕ) → in_codes a c ≡ true → in_codes b c ≡ true
  nodes_had i n k may has c h =
      let within = (node_element d names before i place a (coded.Nodes b) n k may.typed may.elements may.known c (code_there a c h)).1 in
      let more : HasCodeAt q d.view.made (kind_in q i) (value_by names (coded.Nodes b)) c = has_code_more q d.view.made (kind_in q i) (value_by names (coded.Nodes a)) (value_by names (coded.Nodes b)) c (final_most i (coded.Nodes a) (coded.Nodes b) may has) within in
      sym (has_node_by names.node agrees.named.one_code c b may.of) ∙ subst (λ (j : Kind). HasCodeAt q d.view.made j (value_by names (coded.Nodes b)) c) k more names before

  -- so the other one isn't final where it hasn't, and it is shown
  later_shown : (i : Instance) (k : Kind) (x : Value) → kind_in q i ≡ k → (HasValue q i x → ⊥) → IsShown q d.view i x → ShowsAtLeast q e.view i k x
  later_shown i k x is not_final h = ⊎_elim (λ least. at_least_later q d.view e.view on.kept i k x (subst (λ (j : Kind). ShowsAtLeast q d.view i j x) is least)) (λ known. absurd (not_final known.1)) h

  texts_answer : (i : Instance) → MayRise d names i place (coded.Texts a) (coded.Texts b) → (r : Result (Option (List ℕ)) CircFault) → AnswersSet q d.frame e.view i a b r → AnswersRaise q names d.frame e.view i (coded.Texts a) (coded.Texts b) (wrapped coded.Texts r)
  texts_answer i may (Ok None) h = texts_most d.frame.system.value names e.view agrees i a b may.of h
  texts_answer i may (Ok (Some both)) h =
      let k = kind_of_texts q (kind_in q i) (texts_set names a) may.typed in
      texts_risen d.frame.system.value names e.view agrees i k a b both h may.elements may.of (later_shown i kinds.Texts (value_by names (coded.Texts b)) k (λ has. not_both h.in_other (texts_had i k may has h.code h.in_set)) may.shown)
  texts_answer i may (Err fault) h = h

  nodes_answer : (i : Instance) → MayRise d names i place (coded.Nodes a) (coded.Nodes b) → (r : Result (Option (List ℕ)) CircFault) → AnswersSet q d.frame e.view i a b r → AnswersRaise q names d.frame e.view i (coded.Nodes a) (coded.Nodes b) (wrapped coded.Nodes r)
  nodes_answer i may (Ok None) h = nodes_most d.frame.system.value names e.view agrees i a b may.of h
  nodes_answer i may (Ok (Some both)) h =
      let k = kind_of_nodes q (kind_in q i) (nodes_set names.node a) may.typed in
      nodes_risen d.frame.system.value names e.view agrees i k.0 k.1 near_now a b both h may.elements may.of (value_known_later q on.kept.made (coded.Nodes a) may.known) (value_known_later q on.kept.made (coded.Nodes b) may.of_known) (later_shown i (kinds.Nodes k.0) (value_by names (coded.Nodes b)) k.1 (λ has. not_both h.in_other (nodes_had i k.0 k.1 may has h.code h.in_set)) may.shown)
  nodes_answer i may (Err fault) h = h

pub texts_raised : (d e : Held) (place : ℕ) (a b : List ℕ) (r : Result (Option (List ℕ)) CircFault) → RaisesSet d e place a b r → RaisesValue d e place (coded.Texts a) (coded.Texts b) (wrapped coded.Texts r)
texts_raised d e place a b r h = record {
  on = h.on;
  answer = λ names agrees i may. texts_answer d e names agrees place a b h.on i may r (h.answer i (texts_show d names (agrees_before (program_at d) h.on.kept.made agrees) i place a (coded.Texts b) may));
  claims = λ names agrees i may. h.claims i (texts_show d names (agrees_before (program_at d) h.on.kept.made agrees) i place a (coded.Texts b) may);
}

pub nodes_raised : (d e : Held) (place : ℕ) (a b : List ℕ) (r : Result (Option (List ℕ)) CircFault) → RaisesSet d e place a b r → RaisesValue d e place (coded.Nodes a) (coded.Nodes b) (wrapped coded.Nodes r)
nodes_raised d e place a b r h = record {
  on = h.on;
  answer = λ names agrees i may. nodes_answer d e names agrees place a b h.on i may r (h.answer i (nodes_show d names (agrees_before (program_at d) h.on.kept.made agrees) i place a (coded.Nodes b) may));
  claims = λ names agrees i may. h.claims i (nodes_show d names (agrees_before (program_at d) h.on.kept.made agrees) i place a (coded.Nodes b) may);
}

-- the error of raising a set is handed on
pub handed_on : (d e : Held) (place : ℕ) (value other : CodedValue) (fault : CircFault) (r : Result (Option CodedValue) CircFault) → IsErr r × IsErrAnd r (λ x. x ≡ fault) → RaisesValue d e place value other (Err fault) → RaisesValue d e place value other r
handed_on d e place value other fault r h x = subst (λ (q : Result (Option CodedValue) CircFault). RaisesValue d e place value other q) (sym (err_is r fault h)) x

-- a value and another one of one circular type are of one form
module _ (p : Program) (names : Naming) (k : Kind) (value other : CodedValue) (typed : IsValue p k (value_by names value)) (fits : FitsKind k (value_by names other)) where
  other_truth : (x : CodedValue) → FitsKind kinds.Truth (value_by names x) → ((b : Bool) → x ≡ coded.Truth b → ⊥) → ⊥
  other_truth (coded.Truth b) f n = n b refl
  other_truth (coded.Int z) f n = let e = f.1 in cc
  other_truth (coded.Text t) f n = let e = f.1 in cc
  other_truth (coded.Node t) f n = let e = f.1 in cc
  other_truth (coded.Texts t) f n = let e = f.1 in cc
  other_truth (coded.Nodes t) f n = let e = f.1 in cc

  other_texts : (x : CodedValue) → FitsKind kinds.Texts (value_by names x) → ((b : List ℕ) → x ≡ coded.Texts b → ⊥) → ⊥
  other_texts (coded.Truth b) f n = let e = f.1 in cc
  other_texts (coded.Int z) f n = let e = f.1 in cc
  other_texts (coded.Text t) f n = let e = f.1 in cc
  other_texts (coded.Node t) f n = let e = f.1 in cc
  other_texts (coded.Texts t) f n = n t refl
  other_texts (coded.Nodes t) f n = let e = f.1 in cc

  other_nodes : (c : ClassId) (x : CodedValue) → FitsKind (kinds.Nodes c) (value_by names x) → ((b : List ℕ) → x ≡ coded.Nodes b → ⊥) → ⊥
  other_nodes c (coded.Truth b) f n = let e = f.1 in cc
  other_nodes c (coded.Int z) f n = let e = f.1 in cc
  other_nodes c (coded.Text t) f n = let e = f.1 in cc
  other_nodes c (coded.Node t) f n = let e = f.1 in cc
  other_nodes c (coded.Texts t) f n = let e = f.1 in cc
  other_nodes c (coded.Nodes t) f n = n t refl

  pub not_truth : (a : Bool) → value ≡ coded.Truth a → ((b : Bool) → other ≡ coded.Truth b → ⊥) → ⊥
  not_truth a e n = other_truth other (subst (λ (j : Kind). FitsKind j (value_by names other)) (kind_of_truth p k a (subst (λ (x : CodedValue). IsValue p k (value_by names x)) e typed)) fits) n

  pub not_texts : (a : List ℕ) → value ≡ coded.Texts a → ((b : List ℕ) → other ≡ coded.Texts b → ⊥) → ⊥
  not_texts a e n = other_texts other (subst (λ (j : Kind). FitsKind j (value_by names other)) (kind_of_texts p k (texts_set names a) (subst (λ (x : CodedValue). IsValue p k (value_by names x)) e typed)) fits) n

  pub not_nodes : (a : List ℕ) → value ≡ coded.Nodes a → ((b : List ℕ) → other ≡ coded.Nodes b → ⊥) → ⊥
  not_nodes a e n =
      let q = kind_of_nodes p k (nodes_set names.node a) (subst (λ (x : CodedValue). IsValue p k (value_by names x)) e typed) in
      other_nodes q.0 other (subst (λ (j : Kind). FitsKind j (value_by names other)) q.1 fits) n

int_fits : (p : Program) (k : Kind) (x : Value) (z : ℤ) → IsValue p k (Int z) → FitsKind k x → ⊥
int_fits p _ x z (is_int _ e) f = elim f [ ]

text_fits : (p : Program) (k : Kind) (x : Value) (t : List ℕ) → IsValue p k (Text t) → FitsKind k x → ⊥
text_fits p _ x t (is_text _ e) f = elim f [ ]

node_fits : (p : Program) (k : Kind) (x : Value) (r : Reference) → IsValue p k (Node r) → FitsKind k x → ⊥
node_fits p _ x r (is_node c _ e) f = elim f [ ]

-- a value of a circular type is a truth value or a set
pub not_single : (p : Program) (names : Naming) (k : Kind) (value other : CodedValue) → IsValue p k (value_by names value) → FitsKind k (value_by names other) → ((a : Bool) → value ≡ coded.Truth a → ⊥) → ((a : List ℕ) → value ≡ coded.Texts a → ⊥) → ((a : List ℕ) → value ≡ coded.Nodes a → ⊥) → ⊥
not_single p names k (coded.Truth a) other typed fits x y z = x a refl
not_single p names k (coded.Int a) other typed fits x y z = int_fits p k (value_by names other) a typed fits
not_single p names k (coded.Text a) other typed fits x y z = text_fits p k (value_by names other) (names.text a.0) typed fits
not_single p names k (coded.Node a) other typed fits x y z = node_fits p k (value_by names other) (reference_by names.node a.0) typed fits
not_single p names k (coded.Texts a) other typed fits x y z = y a refl
not_single p names k (coded.Nodes a) other typed fits x y z = z a refl

-- the codes of a set to which an equation comes are those of its elements
pub value_elements : (d : Held) (names : Naming) (agrees : Agrees (program_at d) d.view.made names) (i : Instance) (place : ℕ) (value other : CodedValue) → MayRise d names i place value other → (c : ℕ) → Has (set_codes value) c → IsElementAt (program_at d) d.view.made (kind_in (program_at d) i) c × HasCodeAt (program_at d) d.view.made (kind_in (program_at d) i) (value_by names value) c
value_elements d names agrees i place (coded.Truth b) other may c there = absurd there
value_elements d names agrees i place (coded.Int z) other may c there = absurd there
value_elements d names agrees i place (coded.Text t) other may c there = absurd there
value_elements d names agrees i place (coded.Node n) other may c there = absurd there
value_elements d names agrees i place (coded.Texts a) other may c there = text_element d names agrees i place a other (kind_of_texts (program_at d) (kind_in (program_at d) i) (texts_set names a) may.typed) may.elements c there
value_elements d names agrees i place (coded.Nodes a) other may c there =
    let k = kind_of_nodes (program_at d) (kind_in (program_at d) i) (nodes_set names.node a) may.typed in
    node_element d names agrees i place a other k.0 k.1 may.typed may.elements may.known c there
