-- What a key word stands for, by what a pass has seen claimed: one instance, and an instance has one key word.
use Rattle.std.proofs.Common.{◌≡◌, ℕ, true, false, ◌^◌, ◌/◌, ◌<◌, List, [], ◌∷◌, reverse, refl, sym, ap, ◌∙◌, subst, arith, inl, inr, ⊎_elim, eq-eqb, ne_eqb}
use Rattle.std.proofs.lemmas.List.{reverse-reverse}
use Rattle.rag_io.specs.Pool.{ArePooled}
use Rattle.equation_law.specs.declared.coding.Instance.{Instance as CodedInstance}
use Rattle.equation_law.specs.Codes.{Naming, arguments_by, reference_by}
use Rattle.equation_law.specs.Equations.{kind_in}
use Rattle.equation_law.specs.Names.{Argument, Attribute, Instance, Query, Reference}
use Rattle.equation_law.specs.Program.{Program, attribute_parameters}
use Rattle.equation_law.proofs.Codes.{one_reference}
use Rattle.equation_law.proofs.Keys.{one_list}
use Rattle.memo_cells.specs.declared.view.Frame.{Frame}
use Rattle.memo_cells.specs.declared.view.View.{View}
use Rattle.made_trees.specs.Made.{naming_by_makers}
use Rattle.memo_cells.specs.Agreeing.{Agrees, AreArgumentCodesAt, IsKnownNode, AreKnownCodes, IsReferenceAt}
use Rattle.memo_cells.specs.Keys.{argument_word, attribute_word, is_set_word, query_word, set_word}
use Rattle.memo_cells.specs.Naming.{IsAttributeKey, IsCellOf, IsFormed, IsKeyTo, IsNamed, IsWordOf, StandsFor}
use Rattle.memo_cells.specs.Standing.{Knows}
use Rattle.memo_cells.specs.Views.{Has, IsAtLeast}
use Rattle.memo_cells.proofs.Agreeing.{IsOpen, agrees_before, codes_known_later, element_later, node_known_later, reference_later}

-- what stands for something goes on to stand for it
module _ (v w : View) (more : IsAtLeast v w) where
  pub named_later : (k a n : ℕ) (cs : List ℕ) → IsNamed v k a n cs → IsNamed w k a n cs
  named_later k a n [] h = h
  named_later k a n (c ∷ cs) h = (h.0, h.1, more.keys h.0 h.1 h.2, named_later h.1 a n cs h.3, h.4, h.5, h.6)

  pub stands_later : (p : Program) (k : ℕ) (i : Instance) → StandsFor p v k i → StandsFor p w k i
  stands_later p k (Attribute a r xs) h = record {
    node = h.node;
    codes = h.codes;
    at = reference_later p more.made h.node r h.at;
    good = h.good;
    arguments = λ n agrees. h.arguments n (agrees_before p more.made agrees);
    known = (node_known_later p more.made h.node h.known.0, codes_known_later p more.made (attribute_parameters p a) h.codes h.known.1);
    named = named_later k a h.node (reverse h.codes) h.named;
  }
  stands_later p k (Query q) h = h

  pub key_later : (p : Program) (i : Instance) (k : ℕ) → IsKeyTo p v i k → IsKeyTo p w i k
  key_later p i k h = record { prefix = h.prefix; of = h.of; stands = stands_later p k h.prefix h.stands }

  pub word_later : (p : Program) (k : ℕ) (i : Instance) (x : ℕ) → IsWordOf p v k i x → IsWordOf p w k i x
  word_later p k i x h = record { slot = h.slot; key = h.key; there = more.keys h.slot h.key h.there; stands = stands_later p h.key i h.stands; low = h.low; small = h.small; is = h.is }

  pub formed_later : (p : Program) (k : ℕ) → IsFormed p v k → IsFormed p w k
  formed_later p k h =
      ⊎_elim (λ x. inl (record { of = x.of; instance = x.instance; key = key_later p x.of k x.key }))
      (λ x. inr (record { of = x.of; instance = x.instance; word = x.word; key = word_later p k x.of x.word x.key; code = x.code; element = element_later p more.made (kind_in p x.of) x.code x.element; lies = x.lies })) h

  pub knows_later : (p : Program) (i : Instance) → Knows p v i → Knows p w i
  knows_later p i h = record { key = h.key; stands = stands_later p h.key i h.stands; slot = h.slot; code = h.code; settled = more.values h.slot h.key h.code h.settled }

  pub cell_later : (p : Program) (f : Frame) (i : Instance) (s : ℕ) → IsCellOf p f v i s → IsCellOf p f w i s
  cell_later p f i s h = (h.0, (h.1.0, more.keys s h.0 h.1.1), stands_later p h.0 i h.2)

-- words of different kinds
attribute_argument : (a n s c : ℕ) → a < 2 ^ 16 → n < 2 ^ 32 → attribute_word a n ≡ argument_word s c → ⊥
attribute_argument a n s c la ln e = omega (arith, la, ln, e)

attribute_query : (a n q : ℕ) → a < 2 ^ 16 → n < 2 ^ 32 → attribute_word a n ≡ query_word q → ⊥
attribute_query a n q la ln e = omega (arith, la, ln, e)

argument_query : (s c q : ℕ) → s < 2 ^ 29 → c < 2 ^ 32 → argument_word s c ≡ query_word q → ⊥
argument_query s c q ls lc e = omega (arith, ls, lc, e)

-- the key of an instance is that of no word of a set
other_word : (k : ℕ) (n : ℕ) → k / 2 ^ 61 ≡ n → (n ≡ 3 → ⊥) → is_set_word k ≡ false
other_word k n e other = ne_eqb (k / 2 ^ 61) 3 (λ x. other (sym e ∙ x))

pub attribute_plain : (a n : ℕ) → a < 2 ^ 16 → n < 2 ^ 32 → is_set_word (attribute_word a n) ≡ false
attribute_plain a n la ln = other_word (attribute_word a n) 1 (omega (arith, la, ln)) (λ e. absurd (omega (arith, e)))

pub argument_plain : (s c : ℕ) → s < 2 ^ 29 → c < 2 ^ 32 → is_set_word (argument_word s c) ≡ false
argument_plain s c ls lc = other_word (argument_word s c) 2 (omega (arith, ls, lc)) (λ e. absurd (omega (arith, e)))

pub query_plain : (q : ℕ) → q < 2 ^ 32 → is_set_word (query_word q) ≡ false
query_plain q lq = other_word (query_word q) 4 (omega (arith, lq)) (λ e. absurd (omega (arith, e)))

pub set_is_word : (s w : ℕ) → s < 2 ^ 29 → w < 2 ^ 32 → is_set_word (set_word s w) ≡ true
set_is_word s w ls lw = eq-eqb (set_word s w / 2 ^ 61) 3 (omega (arith, ls, lw))

pub named_plain : (v : View) (k a n : ℕ) (cs : List ℕ) → IsNamed v k a n cs → is_set_word k ≡ false
named_plain v k a n [] h = ap is_set_word h.2 ∙ attribute_plain a n h.0 h.1
named_plain v k a n (c ∷ cs) h = ap is_set_word h.6 ∙ argument_plain h.0 c h.4 h.5

pub stands_plain : (p : Program) (v : View) (k : ℕ) (i : Instance) → StandsFor p v k i → is_set_word k ≡ false
stands_plain p v k (Attribute a r xs) h = named_plain v k a h.node (reverse h.codes) h.named
stands_plain p v k (Query q) h = ap is_set_word h.1 ∙ query_plain q h.0

pub word_set : (p : Program) (v : View) (k : ℕ) (i : Instance) (w : ℕ) → IsWordOf p v k i w → is_set_word k ≡ true
word_set p v k i w h = ap is_set_word h.is ∙ set_is_word h.slot w h.low h.small

one_set_word : (s w t x : ℕ) → w < 2 ^ 32 → x < 2 ^ 32 → set_word s w ≡ set_word t x → (s ≡ t) × (w ≡ x)
one_set_word s w t x lw lx e = (omega (arith, lw, lx, e), omega (arith, lw, lx, e))

one_attribute : (a n b m : ℕ) → n < 2 ^ 32 → m < 2 ^ 32 → attribute_word a n ≡ attribute_word b m → (a ≡ b) × (n ≡ m)
one_attribute a n b m ln lm e = (omega (arith, ln, lm, e), omega (arith, ln, lm, e))

pub one_argument : (s c t d : ℕ) → c < 2 ^ 32 → d < 2 ^ 32 → argument_word s c ≡ argument_word t d → (s ≡ t) × (c ≡ d)
one_argument s c t d lc ld e = (omega (arith, lc, ld, e), omega (arith, lc, ld, e))

-- the word of an attribute, with or without arguments, is that of no query
named_query : (v : View) (k a n : ℕ) (cs : List ℕ) (q : ℕ) → IsNamed v k a n cs → k ≡ query_word q → ⊥
named_query v k a n [] q h e = attribute_query a n q h.0 h.1 (sym h.2 ∙ e)
named_query v k a n (c ∷ cs) q h e = argument_query h.0 c q h.4 h.5 (sym h.6 ∙ e)

module _ (v : View) (one_key : (s j k : ℕ) → Has v.keys (s, j) → Has v.keys (s, k) → j ≡ k) where
  -- a word has one attribute, node and codes
  pub one_name : (k a n b m : ℕ) (cs ds : List ℕ) → IsNamed v k a n cs → IsNamed v k b m ds → (a ≡ b) × (n ≡ m) × (cs ≡ ds)
  one_name k a n b m [] [] g h = let r = one_attribute a n b m g.1 h.1 (sym g.2 ∙ h.2) in (r.0, r.1, refl)
  one_name k a n b m [] (d ∷ ds) g h = absurd (attribute_argument a n h.0 d g.0 g.1 (sym g.2 ∙ h.6))
  one_name k a n b m (c ∷ cs) [] g h = absurd (attribute_argument b m g.0 c h.0 h.1 (sym h.2 ∙ g.6))
  one_name k a n b m (c ∷ cs) (d ∷ ds) g h =
      let same = one_argument g.0 c h.0 d g.5 h.5 (sym g.6 ∙ h.6) in
      let word : h.1 ≡ g.1 = one_key g.0 h.1 g.1 (subst (λ (s : ℕ). Has v.keys (s, h.1)) (sym same.0) h.2) g.2 in
      let rest = one_name g.1 a n b m cs ds g.3 (subst (λ (j : ℕ). IsNamed v j b m ds) word h.3) in
      (rest.0, rest.1, (λ i. same.1 i ∷ rest.2 i))

  -- so it stands for one instance
  pub stands_once : (p : Program) → IsOpen p v.made → (k : ℕ) (i j : Instance) → StandsFor p v k i → StandsFor p v k j → i ≡ j
  stands_once p by k (Attribute a r xs) (Attribute b s ys) g h =
      let one = one_name k a g.node b h.node (reverse g.codes) (reverse h.codes) g.named h.named in
      let codes : g.codes ≡ h.codes = sym (reverse-reverse g.codes) ∙ ap reverse one.2 ∙ reverse-reverse h.codes in
      let n = naming_by_makers p v.made in
      let node : r ≡ s = sym (g.at n by) ∙ ap (reference_by n.node) one.1 ∙ h.at n by in
      let arguments : xs ≡ ys = sym (g.arguments n by) ∙ (λ i. arguments_by n (attribute_parameters p (one.0 i)) (codes i)) ∙ h.arguments n by in
      (λ i. Attribute (one.0 i) (node i) (arguments i))
  stands_once p by k (Attribute a r xs) (Query q) g h = absurd (named_query v k a g.node (reverse g.codes) q g.named h.1)
  stands_once p by k (Query q) (Attribute b s ys) g h = absurd (named_query v k b h.node (reverse h.codes) q h.named g.1)
  stands_once p by k (Query q) (Query r) g h = let same : q ≡ r = omega (arith, sym g.1 ∙ h.1) in ap Query same

  -- and what it stands for has the attribute, the node and the arguments of its codes, by each naming that agrees
  pub stands_named : (p : Program) {m : Naming} → Agrees p v.made m → (k a n : ℕ) (cs : List ℕ) (j : Instance) → StandsFor p v k j → IsNamed v k a n (reverse cs) → Attribute a (reference_by m.node n) (arguments_by m (attribute_parameters p a) cs) ≡ j
  stands_named p {m} h k a n cs (Attribute b r ys) g named =
      let one = one_name k a n b g.node (reverse cs) (reverse g.codes) named g.named in
      let codes : cs ≡ g.codes = sym (reverse-reverse cs) ∙ ap reverse one.2 ∙ reverse-reverse g.codes in
      let node : reference_by m.node n ≡ r = ap (reference_by m.node) one.1 ∙ g.at m h in
      let arguments : arguments_by m (attribute_parameters p a) cs ≡ ys = (λ i. arguments_by m (attribute_parameters p (one.0 i)) (codes i)) ∙ g.arguments m h in
      (λ i. Attribute (one.0 i) (node i) (arguments i))
  stands_named p h k a n cs (Query q) g named = absurd (named_query v k a n (reverse cs) q named g.1)

  -- and the pass knows the node and the codes
  pub stands_known : (p : Program) (k a n : ℕ) (cs : List ℕ) (j : Instance) → StandsFor p v k j → IsNamed v k a n (reverse cs) → IsKnownNode v.made n × AreKnownCodes v.made (attribute_parameters p a) cs
  stands_known p k a n cs (Attribute b r ys) g named =
      let one = one_name k a n b g.node (reverse cs) (reverse g.codes) named g.named in
      let codes : cs ≡ g.codes = sym (reverse-reverse cs) ∙ ap reverse one.2 ∙ reverse-reverse g.codes in
      (subst (IsKnownNode v.made) (sym one.1) g.known.0, subst (λ (y : ℕ × List ℕ). AreKnownCodes v.made (attribute_parameters p y.0) y.1) (λ i. (sym one.0 i, sym codes i)) g.known.1)
  stands_known p k a n cs (Query q) g named = absurd (named_query v k a n (reverse cs) q named g.1)

  -- what it stands for it stands for by a view that knows less, but of the same trees, if that knows its way
  pub stands_back : (less : View) → IsAtLeast less v → less.made ≡ v.made → (p : Program) (k a n : ℕ) (cs : List ℕ) (i : Instance) → IsNamed less k a n cs → StandsFor p v k i → StandsFor p less k i
  stands_back less more same p k a n cs (Attribute b r xs) named h =
      let one = one_name k a n b h.node cs (reverse h.codes) (named_later less v more k a n cs named) h.named in
      record {
        node = h.node;
        codes = h.codes;
        at = subst (λ (ms : List CodedInstance). IsReferenceAt p ms h.node r) (sym same) h.at;
        good = h.good;
        arguments = subst (λ (ms : List CodedInstance). AreArgumentCodesAt p ms (attribute_parameters p b) h.codes xs) (sym same) h.arguments;
        known = subst (λ (ms : List CodedInstance). IsKnownNode ms h.node × AreKnownCodes ms (attribute_parameters p b) h.codes) (sym same) h.known;
        named = subst (λ (y : ℕ × ℕ × List ℕ). IsNamed less k y.0 y.1 y.2) (λ j. (one.0 j, one.1 j, one.2 j)) named;
      }
  stands_back less more same p k a n cs (Query q) named h = h

  -- the key of a word of a set is of one instance, and of one of its words
  pub word_of_once : (p : Program) → IsOpen p v.made → (k : ℕ) (i j : Instance) (w x : ℕ) → IsWordOf p v k i w → IsWordOf p v k j x → (i ≡ j) × (w ≡ x)
  word_of_once p by k i j w x g h =
      let same = one_set_word g.slot w h.slot x g.small h.small (sym g.is ∙ h.is) in
      let key : h.key ≡ g.key = one_key g.slot h.key g.key (subst (λ (s : ℕ). Has v.keys (s, h.key)) (sym same.0) h.there) g.there in
      (stands_once p by g.key i j g.stands (subst (λ (l : ℕ). StandsFor p v l j) key h.stands), same.1)

module _ (v : View) (one_key : (s j k : ℕ) → Has v.keys (s, j) → Has v.keys (s, k) → j ≡ k) (one_place : (s t k : ℕ) → Has v.keys (s, k) → Has v.keys (t, k) → s ≡ t) where
  -- an attribute at a node with codes has one word
  pub one_word : (k l a n : ℕ) (cs : List ℕ) → IsNamed v k a n cs → IsNamed v l a n cs → k ≡ l
  one_word k l a n [] g h = g.2 ∙ sym h.2
  one_word k l a n (c ∷ cs) g h =
      let word : h.1 ≡ g.1 = one_word h.1 g.1 a n cs h.3 g.3 in
      let slot : g.0 ≡ h.0 = one_place g.0 h.0 g.1 g.2 (subst (λ (j : ℕ). Has v.keys (h.0, j)) word h.2) in
      g.6 ∙ ap (λ (s : ℕ). argument_word s c) slot ∙ sym h.6

  module _ (p : Program) (pooled : ArePooled p.texts) (by : IsOpen p v.made) where
    -- the codes of an instance are one
    pub same_codes : (k l a : ℕ) (r : Reference) (xs : List Argument) (g : IsAttributeKey p v k a r xs) (h : IsAttributeKey p v l a r xs) → (g.node ≡ h.node) × (g.codes ≡ h.codes)
    same_codes k l a r xs g h =
        let n = naming_by_makers p v.made in
        (one_reference by.named g.node h.node (g.at n by ∙ sym (h.at n by)), one_list p pooled by.named (attribute_parameters p a) g.codes h.codes g.good h.good (g.arguments n by ∙ sym (h.arguments n by)))

    -- so an instance has one word
    pub word_once : (k l : ℕ) (i : Instance) → StandsFor p v k i → StandsFor p v l i → k ≡ l
    word_once k l (Attribute a r xs) g h =
        let same = same_codes k l a r xs g h in
        one_word k l a g.node (reverse g.codes) g.named (subst (λ (y : ℕ × List ℕ). IsNamed v l a y.0 (reverse y.1)) (λ i. (sym same.0 i, sym same.1 i)) h.named)
    word_once k l (Query q) g h = g.1 ∙ sym h.1
