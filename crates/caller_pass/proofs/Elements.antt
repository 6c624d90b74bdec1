-- The elements of a set that is the value of an instance, and their codes.
use Rattle.std.proofs.Common.{◌≡◌, ℕ, zero, suc, ◌<◌, ⊎_elim, Bool, true, false, not, List, [], ◌∷◌, All, length, map, refl, sym, ap, subst, ◌∙◌, arith}
use Rattle.std.proofs.lemmas.List.Elements.{All-head, All-tail}
use Rattle.attr_rules.specs.declared.kinds.Kind.{Kind}
use Rattle.attr_rules.specs.declared.kinds.Kind.TheVariants as kinds
use Rattle.attr_rules.specs.Rules.{is_single}
use Rattle.ast_grammar.specs.declared.grammar.ClassId.{ClassId}
use Rattle.equation_law.specs.declared.coding.Value.{Value as CodedValue}
use Rattle.equation_law.specs.declared.coding.Value.TheVariants as coded
use Rattle.equation_law.specs.Checked.{IsNodeOf, IsValue, int, node, nodes, text, texts, tree, truth}
use Rattle.equation_law.specs.declared.coding.Instance.{Instance as CodedInstance}
use Rattle.equation_law.specs.Codes.{AreElements, Naming, nodes_by, reference_by, value_by}
use Rattle.equation_law.specs.Names.{At, Instance, NodeName, node_cmp, text_cmp}
use Rattle.equation_law.specs.Program.{Program}
use Rattle.equation_law.specs.Sets.{SetBy, has, set_of}
use Rattle.equation_law.specs.Values.{Nodes, Texts, Value}
use Rattle.memo_cells.specs.Agreeing.{Agrees, HasCodeAt, IsElementAt, IsKnownNode, IsKnownValue, IsReferenceAt}
use Rattle.memo_cells.specs.declared.view.View.{View}
use Rattle.memo_cells.specs.Showing.{ShowsAtLeast, ShowsCode}
use Rattle.memo_cells.specs.Views.{Has}
use Rattle.memo_cells.specs.SetRaising.{set_codes}
use Rattle.memo_cells.proofs.Agreeing.{meaning_each, stands_has}
use Rattle.memo_cells.proofs.SetMembers.{among, is_among, node_code, node_in, text_code, text_in}

all_has : (P : ℕ → Type 0) (cs : List ℕ) (c : ℕ) → All P cs → Has cs c → P c
all_has P [] c a h = absurd h
all_has P (x ∷ cs) c a h = ⊎_elim (λ is. subst P (sym is) (All-head P x cs a)) (λ later. all_has P cs c (All-tail P x cs a) later) h

-- whether a value is a set
abbrev is_set_value : Value → Bool
is_set_value (Texts s) = true
is_set_value (Nodes s) = true
is_set_value _ = false

of_kind : (p : Program) (k : Kind) (v : Value) → IsValue p k v → is_single k ≡ not (is_set_value v)
of_kind p _ _ (truth b) = refl
of_kind p _ _ (int z h) = refl
of_kind p _ _ (text t h) = refl
of_kind p _ _ (node c r h) = refl
of_kind p _ _ (texts s h) = refl
of_kind p _ _ (tree c r ts h) = refl
of_kind p _ _ (nodes c s h) = refl

texts_kind : (p : Program) (k : Kind) (v : Value) → IsValue p k v → (s : SetBy text_cmp) → v ≡ Texts s → k ≡ kinds.Texts
texts_kind p _ _ (truth b) s e = cc
texts_kind p _ _ (int z h) s e = cc
texts_kind p _ _ (text t h) s e = cc
texts_kind p _ _ (node c r h) s e = cc
texts_kind p _ _ (texts t h) s e = refl
texts_kind p _ _ (tree c r ts h) s e = cc
texts_kind p _ _ (nodes c t h) s e = cc

nodes_kind : (p : Program) (k : Kind) (v : Value) → IsValue p k v → (s : SetBy node_cmp) → v ≡ Nodes s → (d : ClassId) × (k ≡ kinds.Nodes d) × ((n : NodeName) → has s n ≡ true → IsNodeOf p d (At n))
nodes_kind p _ _ (truth b) s e = cc
nodes_kind p _ _ (int z h) s e = cc
nodes_kind p _ _ (text t h) s e = cc
nodes_kind p _ _ (node c r h) s e = cc
nodes_kind p _ _ (texts t h) s e = cc
nodes_kind p _ _ (tree c r ts h) s e = cc
nodes_kind p _ _ (nodes c t h) s e = let same : t ≡ s = cc in (c, refl, subst (λ (u : SetBy node_cmp). (n : NodeName) → has u n ≡ true → IsNodeOf p c (At n)) same h)

not_both : {b : Bool} → b ≡ true → b ≡ false → ⊥
not_both a b = let both = sym a ∙ b in cc

module _ (p : Program) (ms : List CodedInstance) (names : Naming) (agrees : Agrees p ms names) where
  -- each code of the set is that of an element of its type
  pub are_elements : (k : Kind) (x : CodedValue) → IsValue p k (value_by names x) → AreElements p x → IsKnownValue ms x → (c : ℕ) → Has (set_codes x) c → IsElementAt p ms k c × HasCodeAt p ms k (value_by names x) c
  are_elements k (coded.Truth b) typed good known c h = absurd h
  are_elements k (coded.Int z) typed good known c h = absurd h
  are_elements k (coded.Text n) typed good known c h = absurd h
  are_elements k (coded.Node n) typed good known c h = absurd h
  are_elements k (coded.Texts cs) typed good known c h =
      let kind = texts_kind p k (value_by names (coded.Texts cs)) typed (set_of {R = text_cmp} (map names.text cs)) refl in
      subst (λ (j : Kind). IsElementAt p ms j c × HasCodeAt p ms j (value_by names (coded.Texts cs)) c) (sym kind) (
        all_has (λ d. d < length p.texts) cs c good h,
        subst (λ (f : ℕ → List ℕ). has (set_of {R = text_cmp} (map names.text cs)) (f c) ≡ true) agrees.named.texts (text_in names.text cs c (is_among cs c h)),
      )
  are_elements k (coded.Nodes cs) typed good known c h =
      let kind = nodes_kind p k (value_by names (coded.Nodes cs)) typed (set_of {R = node_cmp} (nodes_by names.node cs)) refl in
      subst (λ (j : Kind). IsElementAt p ms j c × HasCodeAt p ms j (value_by names (coded.Nodes cs)) c) (sym kind.1) (its kind.0 kind.2 c (all_has (λ d. 0 < d) cs c good h) (all_has (IsKnownNode ms) cs c known h) h)
    where
      its : (d : ClassId) → ((n : NodeName) → has (set_of {R = node_cmp} (nodes_by names.node cs)) n ≡ true → IsNodeOf p d (At n)) → (c : ℕ) → 0 < c → IsKnownNode ms c → Has cs c → IsElementAt p ms (kinds.Nodes d) c × HasCodeAt p ms (kinds.Nodes d) (value_by names (coded.Nodes cs)) c
      its d of zero some low h = absurd (omega (arith, some))
      its d of (suc k) some low h =
          let n = names.node k in
          let yes = node_in names.node cs (suc k) n refl (is_among cs (suc k) h) in
          let stands : IsReferenceAt p ms (suc k) (At n) = meaning_each p ms agrees (suc k) (At n) low refl in
          ((some, (At n, stands, of n yes), low), stands_has p ms (value_by names (coded.Nodes cs)) (suc k) (At n) d stands yes)

-- where the words show each code, they show the set, by what the pass knows then
module _ (p : Program) (v : View) (names : Naming) (agrees : Agrees p v.made names) where
  pub shows_set : (i : Instance) (k : Kind) (x : CodedValue) → IsValue p k (value_by names x) → IsKnownValue v.made x → is_single k ≡ false → ((c : ℕ) → Has (set_codes x) c → ShowsCode p v i c) → ShowsAtLeast p v i k (value_by names x)
  shows_set i k (coded.Truth b) typed known set shown = absurd (not_both (of_kind p k (value_by names (coded.Truth b)) typed) set)
  shows_set i k (coded.Int z) typed known set shown = absurd (not_both (of_kind p k (value_by names (coded.Int z)) typed) set)
  shows_set i k (coded.Text n) typed known set shown = absurd (not_both (of_kind p k (value_by names (coded.Text n)) typed) set)
  shows_set i k (coded.Node n) typed known set shown = absurd (not_both (of_kind p k (value_by names (coded.Node n)) typed) set)
  shows_set i k (coded.Texts cs) typed known set shown =
      let kind = texts_kind p k (value_by names (coded.Texts cs)) typed (set_of {R = text_cmp} (map names.text cs)) refl in
      subst (λ (j : Kind). ShowsAtLeast p v i j (value_by names (coded.Texts cs))) (sym kind) (λ t h.
      let r = text_code names.text cs t h in
      (r.0, ap (λ (f : ℕ → List ℕ). f r.0) (sym agrees.named.texts) ∙ r.2, shown r.0 (among cs r.0 r.1)))
  shows_set i k (coded.Nodes cs) typed known set shown =
      let kind = nodes_kind p k (value_by names (coded.Nodes cs)) typed (set_of {R = node_cmp} (nodes_by names.node cs)) refl in
      subst (λ (j : Kind). ShowsAtLeast p v i j (value_by names (coded.Nodes cs))) (sym kind.1) (λ n h.
      let r = node_code names.node cs n h in
      let there = among cs r.0 r.1 in
      (r.0, meaning_each p v.made agrees r.0 (At n) (all_has (IsKnownNode v.made) cs r.0 known there) r.2, shown r.0 there))
