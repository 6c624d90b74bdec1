-- A value that is joined to one that is shown.
use Rattle.std.proofs.Common.{◌≡◌, ◌⊎◌, ◌<◌, ℕ, zero, suc, Bool, true, false, ◌||◌, ◌&&◌, not, List, [], ◌∷◌, map, inl, inr, ⊎_elim, refl, sym, ap, subst, ◌∙◌, arith}
use Rattle.std.specs.Cmp.Lexicographic.{nat_list_cmp_total}
use Rattle.std.specs.FinMap.{nat_cmp-IsAntisymmetric}
use Rattle.std.specs.List.{All, list_any}
use Rattle.std.specs.Ordering.{eq_by_cmp, nat_cmp}
use Rattle.std.proofs.lemmas.Cmp.{eq_by_cmp_equiv, nat_cmp_total}
use Rattle.code_sets.specs.Members.{AreMade, has_code}
use Rattle.ast_grammar.specs.declared.grammar.ClassId.{ClassId}
use Rattle.attr_rules.specs.declared.expression.SetOperator.TheVariants.{Union}
use Rattle.attr_rules.specs.declared.kinds.Kind.{Kind}
use Rattle.attr_rules.specs.declared.kinds.Kind.TheVariants as kinds
use Rattle.equation_law.specs.declared.coding.Value.TheVariants as coded
use Rattle.equation_law.specs.declared.system.System.{System}
use Rattle.equation_law.specs.Checked.{IsValue, nodes as are_nodes, texts as are_texts, truth as is_truth}
use Rattle.equation_law.specs.Codes.{IsNamingOf, Naming, nodes_by, reference_by, value_by}
use Rattle.equation_law.specs.Equations.{kind_in}
use Rattle.equation_law.specs.Names.{At, Instance, NodeName, node_cmp, text_cmp}
use Rattle.equation_law.specs.Orders.{IsAtMost, FitsKind}
use Rattle.equation_law.specs.Program.{Program}
use Rattle.equation_law.specs.Sets.{SetBy, has}
use Rattle.equation_law.specs.Systems.{program_of}
use Rattle.equation_law.specs.Values.{Nodes, Texts, Truth, has_node}
use Rattle.equation_law.proofs.Names.{code_anti, is_equal, node_anti}
use Rattle.equation_law.proofs.Orders.{node_total}
use Rattle.equation_law.proofs.Sets.{has-set_of, none_has}
use Rattle.memo_cells.specs.declared.view.Frame.{Frame}
use Rattle.memo_cells.specs.declared.view.View.{View}
use Rattle.memo_cells.specs.Agreeing.{Agrees, IsElementAt, IsKnownNode, IsReferenceAt}
use Rattle.memo_cells.specs.Showing.{ShowsAtLeast, ShowsCode, ShowsTrue}
use Rattle.memo_cells.specs.Standing.{AreApproximations}
use Rattle.memo_cells.specs.Views.{Has}
use Rattle.memo_cells.proofs.Counting.{any_has, has_any}
use Rattle.memo_cells.proofs.Showing.{not_both}
use Rattle.set_values.specs.CodedSets.{nodes_set, texts_set}
use Rattle.set_values.proofs.Coded.{holds_made, holds_of}
use Rattle.set_values.proofs.NodeCodes.{AreApart, IsNode, has_node_by}
use Rattle.set_values.proofs.TextCodes.{IsKnown, has_text_by}
use Rattle.memo_cells.specs.SetRaising.{ClaimsWords, IsWordWith, LacksWord, MayShowAll}
use Rattle.circular_eval.specs.Left.{code_bound, missing}
use Rattle.circular_eval.specs.Rising.{IsMore, IsRisen}
use Rattle.circular_eval.proofs.Left.{missing_less}

-- a set has the codes that stand in its list
pub code_there : (cs : List ℕ) (c : ℕ) → has_code cs c ≡ true → Has cs c
code_there cs c h = let a = has_any (eq_by_cmp nat_cmp c) cs h in subst (λ (k : ℕ). Has cs k) (sym (nat_cmp-IsAntisymmetric c a.0 (is_equal _ a.2))) a.1

pub there_code : (cs : List ℕ) (c : ℕ) → Has cs c → has_code cs c ≡ true
there_code cs c h = any_has (eq_by_cmp nat_cmp c) cs c h ((eq_by_cmp_equiv nat_cmp_total).refl c)

-- of two sets, what the first has and the second hasn't
less_left : (a b : Bool) → (a && not b) ≡ true → (a ≡ true) × (b ≡ false)
less_left true true e = cc
less_left true false e = (refl, refl)
less_left false b e = cc

less_either : (a b c : Bool) → c ≡ (a && not b) → a ≡ true → (b ≡ true) ⊎ (c ≡ true)
less_either true true c e h = inl refl
less_either true false c e h = inr e
less_either false b c e h = cc

module _ (a b m : List ℕ) (made : AreMade (λ x y. x && not y) a b m) where
  pub rest_in : (c : ℕ) → Has m c → (has_code a c ≡ true) × (has_code b c ≡ false)
  rest_in c h = less_left (has_code a c) (has_code b c) (sym (made.members c) ∙ there_code m c h)

  pub rest_either : (c : ℕ) → has_code a c ≡ true → (has_code b c ≡ true) ⊎ Has m c
  rest_either c h = ⊎_elim inl (λ e. inr (code_there m c e)) (less_either (has_code a c) (has_code b c) (has_code m c) (made.members c) h)

  pub rest_may : (p : Program) (f : Frame) (v : View) (i : Instance) (place : ℕ) → MayShowAll p f v i place a → MayShowAll p f v i place m
  rest_may p f v i place h = record { cell = h.cell; instance = h.instance; value = h.value; may = h.may; elements = λ c t. h.elements c (code_there a c (rest_in c t).0) }

  rest_word : (p : Program) (v : View) (i : Instance) (k : ℕ) → IsWordWith p v i m k → IsWordWith p v i a k
  rest_word p v i k h = record { word = h.word; key = h.key; code = h.code; among = code_there a h.code (rest_in h.code h.among).0; lies = h.lies }

  pub rest_claims : (p : Program) (v w : View) (i : Instance) → ClaimsWords p v w i m → ClaimsWords p v w i a
  rest_claims p v w i h q = ⊎_elim inl (λ k. inr (k.0, k.1, rest_word p w i k.0 k.2)) (h q)

  pub rest_lacks : (p : Program) (f : Frame) (v : View) (i : Instance) → LacksWord p f v i m → LacksWord p f v i a
  rest_lacks p f v i h = (h.0, rest_word p v i h.0 h.1, h.2)

  -- where nothing is left, the other set has all
  pub rest_none : m ≡ [] → (c : ℕ) → has_code a c ≡ true → has_code b c ≡ true
  rest_none e c h = ⊎_elim (λ x. x) (λ x. absurd (subst (λ (l : List ℕ). Has l c) e x)) (rest_either c h)

-- what a set of texts or nodes has has a code there
text_code : (f : ℕ → List ℕ) (cs : List ℕ) (t : List ℕ) → list_any (eq_by_cmp text_cmp t) (map f cs) ≡ true → (c : ℕ) × Has cs c × (f c ≡ t)
text_code f [] t e = cc
text_code f (c ∷ cs) t e =
    elim (eq_by_cmp text_cmp t (f c)) as (λ b. eq_by_cmp text_cmp t (f c) ≡ b → (b || list_any (eq_by_cmp text_cmp t) (map f cs)) ≡ true → (k : ℕ) × Has (c ∷ cs) k × (f k ≡ t)) [
      | true ↦ λ p h. (c, inl refl, sym (code_anti t (f c) (is_equal _ p)))
      | false ↦ λ p h. let r = text_code f cs t h in (r.0, inr r.1, r.2)
    ] refl e

node_code : (nodes : ℕ → NodeName) (cs : List ℕ) (n : NodeName) → list_any (eq_by_cmp node_cmp n) (nodes_by nodes cs) ≡ true → (c : ℕ) × Has cs c × (reference_by nodes c ≡ At n)
node_code nodes [] n e = cc
node_code nodes (zero ∷ cs) n e = let r = node_code nodes cs n e in (r.0, inr r.1, r.2)
node_code nodes (suc k ∷ cs) n e =
    elim (eq_by_cmp node_cmp n (nodes k)) as (λ b. eq_by_cmp node_cmp n (nodes k) ≡ b → (b || list_any (eq_by_cmp node_cmp n) (nodes_by nodes cs)) ≡ true → (c : ℕ) × Has (suc k ∷ cs) c × (reference_by nodes c ≡ At n)) [
      | true ↦ λ p h. (suc k, inl refl, ap At (sym (node_anti n (nodes k) (is_equal _ p))))
      | false ↦ λ p h. let r = node_code nodes cs n h in (r.0, inr r.1, r.2)
    ] refl e

pub text_coded : (names : Naming) (cs : List ℕ) (t : List ℕ) → has (texts_set names cs) t ≡ true → (c : ℕ) × (has_code cs c ≡ true) × (names.text c ≡ t)
text_coded names cs t h = let r = text_code names.text cs t (sym (has-set_of {R = text_cmp} nat_list_cmp_total (map names.text cs) t) ∙ h) in (r.0, there_code cs r.0 r.1, r.2)

pub node_coded : (nodes : ℕ → NodeName) (cs : List ℕ) (n : NodeName) → has (nodes_set nodes cs) n ≡ true → (c : ℕ) × (has_code cs c ≡ true) × (reference_by nodes c ≡ At n)
node_coded nodes cs n h = let r = node_code nodes cs n (sym (has-set_of {R = node_cmp} node_total (nodes_by nodes cs) n) ∙ h) in (r.0, there_code cs r.0 r.1, r.2)

-- an element that has a code there is in the set
coded_text : (s : System) {names : Naming} → IsNamingOf (program_of s) names → (cs : List ℕ) → All (IsKnown s) cs → (c : ℕ) (t : List ℕ) → names.text c ≡ t → has_code cs c ≡ true → has (texts_set names cs) t ≡ true
coded_text s {names} named cs all c t e h = subst (λ (u : List ℕ). has (texts_set names cs) u ≡ true) e (has_text_by s named c (holds_of (IsKnown s) cs all c h) cs all ∙ h)

coded_node : (nodes : ℕ → NodeName) → AreApart nodes → (cs : List ℕ) → All IsNode cs → (c : ℕ) (n : NodeName) → reference_by nodes c ≡ At n → has_code cs c ≡ true → has (nodes_set nodes cs) n ≡ true
coded_node nodes apart cs all c n e h = ap (λ r. has_node (nodes_set nodes cs) r) (sym e) ∙ has_node_by nodes apart c cs all ∙ h

or_parts : (a b c : Bool) → c ≡ (a || b) → c ≡ true → (a ≡ true) ⊎ (b ≡ true)
or_parts true b c e h = inl refl
or_parts false b c e h = inr (sym e ∙ h)

or_second : (a b c : Bool) → c ≡ (a || b) → b ≡ true → c ≡ true
or_second true b c e h = e
or_second false b c e h = e ∙ h

or_first : (a b c : Bool) → c ≡ (a || b) → a ≡ true → c ≡ true
or_first true b c e h = e
or_first false b c e h = cc

-- the set to which something was joined has more codes
joined_less : (p : Program) (v : View) (i : Instance) (a b both : List ℕ) → IsMore p v i a b both → missing code_bound both < missing code_bound b
joined_less p v i a b both m =
    missing_less code_bound b both (λ c h. or_second (has_code a c) (has_code b c) (has_code both c) (m.made.members c) h) m.code m.low m.in_other (or_first (has_code a m.code) (has_code b m.code) (has_code both m.code) (m.made.members m.code) m.in_set)

module _ (s : System) (names : Naming) (v : View) (agrees : Agrees (program_of s) v.made names) (i : Instance) where
  abbrev p : Program
  p = program_of s

  named : IsNamingOf p names
  named = agrees.named

  pub texts_risen : kind_in p i ≡ kinds.Texts → (a b both : List ℕ) → IsMore p v i a b both → All (IsKnown s) a → All (IsKnown s) b → ShowsAtLeast p v i kinds.Texts (value_by names (coded.Texts b)) → IsRisen p names v i (coded.Texts a) (coded.Texts b) (coded.Texts both)
  texts_risen k a b both m ea eb shown = record {
    elements = holds_made (IsKnown s) Union a b both ea eb m.made;
    known = tt;
    fits = subst (λ (j : Kind). FitsKind j (value_by names (coded.Texts both))) (sym k) (texts_set names both, refl);
    shown = subst (λ (j : Kind). ShowsAtLeast p v i j (value_by names (coded.Texts both))) (sym k) (λ t h.
        let c = text_coded names both t h in
        let old = λ (e : has_code b c.0 ≡ true). shown t (coded_text s named b eb c.0 t c.2 e) in
        ⊎_elim (λ x. ⊎_elim old (λ y. (c.0, ap (λ (f : ℕ → List ℕ). f c.0) (sym named.texts) ∙ c.2, y)) (m.shown c.0 x)) old (or_parts (has_code a c.0) (has_code b c.0) (has_code both c.0) (m.made.members c.0) c.1));
    more = joined_less p v i a b both m;
  }

  pub nodes_risen : (d : ClassId) → kind_in p i ≡ kinds.Nodes d → AreApproximations p v → (a b both : List ℕ) → IsMore p v i a b both → All IsNode a → All IsNode b → All (IsKnownNode v.made) a → All (IsKnownNode v.made) b → ShowsAtLeast p v i (kinds.Nodes d) (value_by names (coded.Nodes b)) → IsRisen p names v i (coded.Nodes a) (coded.Nodes b) (coded.Nodes both)
  nodes_risen d k near a b both m ea eb ka kb shown = record {
    elements = holds_made IsNode Union a b both ea eb m.made;
    known = holds_made (IsKnownNode v.made) Union a b both ka kb m.made;
    fits = subst (λ (j : Kind). FitsKind j (value_by names (coded.Nodes both))) (sym k) (nodes_set names.node both, refl);
    shown = subst (λ (j : Kind). ShowsAtLeast p v i j (value_by names (coded.Nodes both))) (sym k) (λ n h.
        let c = node_coded names.node both n h in
        let old = λ (e : has_code b c.0 ≡ true). shown n (coded_node names.node named.one_code b eb c.0 n c.2 e) in
        let tied = λ (y : ShowsCode p v i c.0). let is = subst (λ (j : Kind). IsElementAt p v.made j c.0) k (near.codes i c.0 y) in subst (IsReferenceAt p v.made c.0) (sym (is.1.1 names agrees) ∙ c.2) is.1.1 in
        ⊎_elim (λ x. ⊎_elim old (λ y. (c.0, tied y, y)) (m.shown c.0 x)) old (or_parts (has_code a c.0) (has_code b c.0) (has_code both c.0) (m.made.members c.0) c.1));
    more = joined_less p v i a b both m;
  }

  -- a set whose codes the other one has is at most that
  pub texts_most : (a b : List ℕ) → All (IsKnown s) b → ((c : ℕ) → has_code a c ≡ true → has_code b c ≡ true) → IsAtMost (value_by names (coded.Texts a)) (value_by names (coded.Texts b))
  texts_most a b eb h = record {
    in_truth = λ e. absurd (not_both refl e);
    in_texts = λ t x. let c = text_coded names a t x in coded_text s named b eb c.0 t c.2 (h c.0 c.1);
    in_nodes = λ n x. absurd (none_has node_cmp n x);
  }

  pub nodes_most : (a b : List ℕ) → All IsNode b → ((c : ℕ) → has_code a c ≡ true → has_code b c ≡ true) → IsAtMost (value_by names (coded.Nodes a)) (value_by names (coded.Nodes b))
  nodes_most a b eb h = record {
    in_truth = λ e. absurd (not_both refl e);
    in_texts = λ t x. absurd (none_has text_cmp t x);
    in_nodes = λ n x. let c = node_coded names.node a n x in coded_node names.node named.one_code b eb c.0 n c.2 (h c.0 c.1);
  }

-- truth values
pub truth_most : (names : Naming) (a b : Bool) → (a ≡ true → b ≡ true) → IsAtMost (value_by names (coded.Truth a)) (value_by names (coded.Truth b))
truth_most names a b h = record { in_truth = h; in_texts = λ t x. absurd (none_has text_cmp t x); in_nodes = λ n x. absurd (none_has node_cmp n x) }

pub truth_risen : (p : Program) (names : Naming) (v : View) (i : Instance) → kind_in p i ≡ kinds.Truth → ShowsTrue p v i → IsRisen p names v i (coded.Truth true) (coded.Truth false) (coded.Truth true)
truth_risen p names v i k shown = record {
  elements = tt;
  known = tt;
  fits = subst (λ (j : Kind). FitsKind j (Truth true)) (sym k) (true, refl);
  shown = subst (λ (j : Kind). ShowsAtLeast p v i j (Truth true)) (sym k) (λ e. shown);
  more = omega arith;
}

-- the type of a value
pub kind_of_truth : (p : Program) (k : Kind) (b : Bool) → IsValue p k (Truth b) → k ≡ kinds.Truth
kind_of_truth p _ b (is_truth _) = refl

pub kind_of_texts : (p : Program) (k : Kind) (x : SetBy text_cmp) → IsValue p k (Texts x) → k ≡ kinds.Texts
kind_of_texts p _ x (are_texts _ h) = refl

pub kind_of_nodes : (p : Program) (k : Kind) (x : SetBy node_cmp) → IsValue p k (Nodes x) → (d : ClassId) × (k ≡ kinds.Nodes d)
kind_of_nodes p _ x (are_nodes d _ h) = (d, refl)
