-- The naming by makers is one for the program.
use Rattle.std.proofs.Common.{◌≡◌, ◌⊎◌, inl, inr, ℕ, zero, suc, ◌+◌, ◌-◌, ◌*◌, ◌%◌, ◌<◌, ◌≤◌, ◌==◌, Bool, true, false, List, [], ◌∷◌, Some, length, arith, refl, sym, ap, subst, ◌∙◌}
use Rattle.std.proofs.lemmas.Bool.{cond-false, cond-true, eq-eqb, eqb-true, ne_eqb}
use Rattle.std.proofs.lemmas.Bool.Decides.{nat_tests}
use Rattle.std.proofs.lemmas.Option.{same_Some}
use Rattle.rag_io.specs.Pool.{ArePooled}
use Rattle.attr_rules.specs.declared.kinds.Kind.{Kind}
use Rattle.attr_rules.specs.declared.kinds.Kind.TheVariants as kinds
use Rattle.tree_arena.specs.Nodes.{most_nodes}
use Rattle.equation_law.specs.declared.coding.Instance.{Instance as CodedInstance}
use Rattle.equation_law.specs.declared.coding.Instance.TheVariants as coded
use Rattle.equation_law.specs.Codes.{IsCoded, IsNamingOf, IsOfTree, Naming, arguments_by, codes_in, instance_by, most_made, reference_by, value_coded}
use Rattle.equation_law.specs.Names.{Argument, OfNode, At, Attribute, Instance, Made, Query, Reference, Row, Source, list_of, row_of}
use Rattle.equation_law.specs.Program.{Program, attribute_parameters}
use Rattle.equation_law.specs.Values.{as_argument}
use Rattle.equation_law.proofs.Codes.{sources_named}
use Rattle.equation_law.proofs.Keys.{one_key_by}
use Rattle.equation_law.proofs.Names.{same_list, same_row}
use Rattle.made_trees.specs.Made.{AreMakers, AreNamed, CanMake, IsNamed, is_of_tree, last_code, maker_at, naming_by_makers, node_by_makers, node_of}

of_tree : (t q : ℕ) → q < most_made → is_of_tree t (most_nodes + (most_made * t + q)) ≡ true
of_tree t q l = grind (arith, nat_tests, l)

not_of_tree : (t u q : ℕ) → q < most_made → (u ≡ t → ⊥) → is_of_tree t (most_nodes + (most_made * u + q)) ≡ false
not_of_tree t u q l n = grind (arith, nat_tests, l, n)

not_below : (t k : ℕ) → k < last_code t → is_of_tree t k ≡ false
not_below t k l = grind (arith, nat_tests, l)

not_above : (t k : ℕ) → last_code (suc t) ≤ k → is_of_tree t k ≡ false
not_above t k l = grind (arith, nat_tests, l)

split : (t k : ℕ) → is_of_tree t k ≡ true → k ≡ most_nodes + (most_made * t + (k - most_nodes) % most_made)
split t k e = grind (arith, nat_tests, e)

position : (t q : ℕ) → q < most_made → (most_nodes + (most_made * t + q) - most_nodes) % most_made ≡ q
position t q l = grind (arith, l)

few_positions : (k : ℕ) → (k - most_nodes) % most_made < most_made
few_positions k = omega arith

pub true_or_false : (b : Bool) → (b ≡ true) ⊎ (b ≡ false)
true_or_false true = inl refl
true_or_false false = inr refl

module _ (p : Program) where
  -- with one maker more, codes that stood for something go on to stand for it
  pub node_kept : (m : CodedInstance) (ms : List CodedInstance) (k : ℕ) → k < last_code (length ms) → node_by_makers p (m ∷ ms) k ≡ node_by_makers p ms k
  node_kept m ms k l = cond-false (is_of_tree (length ms) k) _ _ (not_below (length ms) k l)

  pub reference_kept : (m : CodedInstance) (ms : List CodedInstance) (c : ℕ) → c ≤ last_code (length ms) → reference_by (node_by_makers p (m ∷ ms)) c ≡ reference_by (node_by_makers p ms) c
  reference_kept m ms zero l = refl
  reference_kept m ms (suc k) l = ap At (node_kept m ms k l)

  value_kept : (m : CodedInstance) (ms : List CodedInstance) (k : Kind) (c : ℕ) → IsNamed (last_code (length ms)) k c
      → as_argument k (value_coded (naming_by_makers p (m ∷ ms)) k c) ≡ as_argument k (value_coded (naming_by_makers p ms) k c)
  value_kept m ms kinds.Truth c l = refl
  value_kept m ms kinds.Int c l = refl
  value_kept m ms kinds.Text c l = refl
  value_kept m ms (kinds.Node d) c l = ap OfNode (reference_kept m ms c l)
  value_kept m ms kinds.Texts c l = refl
  value_kept m ms (kinds.Nodes d) c l = refl

  arguments_kept : (m : CodedInstance) (ms : List CodedInstance) (ks : List Kind) (cs : List ℕ) → AreNamed (last_code (length ms)) ks cs
      → arguments_by (naming_by_makers p (m ∷ ms)) ks cs ≡ arguments_by (naming_by_makers p ms) ks cs
  arguments_kept m ms [] cs l = refl
  arguments_kept m ms (k ∷ ks) [] l = refl
  arguments_kept m ms (k ∷ ks) (c ∷ cs) l = (λ i. value_kept m ms k c l.0 i ∷ arguments_kept m ms ks cs l.1 i)

  pub instance_kept : (m : CodedInstance) (ms : List CodedInstance) (x : CodedInstance) → CanMake p (length ms) x → instance_by p (naming_by_makers p (m ∷ ms)) x ≡ instance_by p (naming_by_makers p ms) x
  instance_kept m ms (coded.Attr a n xs) l =
      (λ i. Attribute a.0 (reference_kept m ms n.0 l.owner i) (arguments_kept m ms (attribute_parameters p a.0) (codes_in xs) l.arguments i))
  instance_kept m ms (coded.Query q) l = absurd l

  -- what could make a tree can make one behind more of them
  pub named_more : (l m : ℕ) → l ≤ m → (ks : List Kind) (cs : List ℕ) → AreNamed l ks cs → AreNamed m ks cs
  named_more l m le [] cs h = tt
  named_more l m le (k ∷ ks) [] h = tt
  named_more l m le (k ∷ ks) (c ∷ cs) h = (of k h.0, named_more l m le ks cs h.1)
    where
      of : (k : Kind) → IsNamed l k c → IsNamed m k c
      of kinds.Truth h = tt
      of kinds.Int h = tt
      of kinds.Text h = tt
      of (kinds.Node d) h = omega (arith, h, le)
      of kinds.Texts h = tt
      of (kinds.Nodes d) h = tt

  pub can_more : (t u : ℕ) → t ≤ u → (x : CodedInstance) → CanMake p t x → CanMake p u x
  can_more t u le (coded.Attr a n xs) h =
      let low = h.owner in
      record { all = h.all; owner = omega (arith, low, le); arguments = named_more (last_code t) (last_code u) (omega (arith, le)) (attribute_parameters p a.0) (codes_in xs) h.arguments }
  can_more t u le (coded.Query q) h = absurd h

  pub last_or_before : (m : CodedInstance) (ms : List CodedInstance) (t : ℕ) (x : CodedInstance) → maker_at (m ∷ ms) t ≡ Some x → ((length ms ≡ t) × (m ≡ x)) ⊎ (maker_at ms t ≡ Some x)
  last_or_before m ms t x e = elim (true_or_false (length ms == t)) [
    | inl is ↦ inl (eqb-true (length ms) t is, same_Some m x (sym (cond-true (length ms == t) _ _ is) ∙ e))
    | inr is ↦ inr (sym (cond-false (length ms == t) _ _ is) ∙ e)
  ]

  pub number_below : (ms : List CodedInstance) (t : ℕ) (x : CodedInstance) → maker_at ms t ≡ Some x → t < length ms
  number_below [] t x e = cc
  number_below (m ∷ ms) t x e = elim (last_or_before m ms t x e) [
    | inl h ↦ let same = h.0 in omega (arith, same)
    | inr h ↦ let low = number_below ms t x h in omega (arith, low)
  ]

  -- each maker is coded well, and could make its tree behind those before
  maker_can : (ms : List CodedInstance) → AreMakers p ms → (t : ℕ) (x : CodedInstance) → maker_at ms t ≡ Some x → IsCoded p x × CanMake p t x
  maker_can [] all t x e = cc
  maker_can (m ∷ ms) all t x e = elim (last_or_before m ms t x e) [
    | inl h ↦ subst (λ (y : CodedInstance). IsCoded p y × CanMake p t y) h.1 (all.0, subst (λ (u : ℕ). CanMake p u m) h.0 all.1)
    | inr h ↦ maker_can ms all.4 t x h
  ]

  pub maker_coded : (ms : List CodedInstance) → AreMakers p ms → (t : ℕ) (x : CodedInstance) → maker_at ms t ≡ Some x → IsCoded p x
  maker_coded ms all t x e = (maker_can ms all t x e).0

  pub maker_makes : (ms : List CodedInstance) → AreMakers p ms → (t : ℕ) (x : CodedInstance) → maker_at ms t ≡ Some x → CanMake p t x
  maker_makes ms all t x e = (maker_can ms all t x e).1

  -- what a maker stands for doesn't depend on those behind it
  pub kept_behind : (m : CodedInstance) (ms : List CodedInstance) → AreMakers p ms → (t : ℕ) (x : CodedInstance) → maker_at ms t ≡ Some x → instance_by p (naming_by_makers p (m ∷ ms)) x ≡ instance_by p (naming_by_makers p ms) x
  kept_behind m ms all t x e = let low = number_below ms t x e in instance_kept m ms x (can_more t (length ms) (omega (arith, low)) x (maker_makes ms all t x e))

  -- the code of each position of the tree of a maker
  pub node_there : (ms : List CodedInstance) → AreMakers p ms → (t q : ℕ) (x : CodedInstance) → q < most_made → maker_at ms t ≡ Some x
      → node_by_makers p ms (most_nodes + (most_made * t + q)) ≡ node_of (instance_by p (naming_by_makers p ms) x) q (most_nodes + (most_made * t + q))
  node_there [] all t q x l e = cc
  node_there (m ∷ ms) all t q x l e = elim (last_or_before m ms t x e) [
    | inl h ↦ cond-true (is_of_tree (length ms) (most_nodes + (most_made * t + q))) _ _ (subst (λ (u : ℕ). is_of_tree u (most_nodes + (most_made * t + q)) ≡ true) (sym h.0) (of_tree t q l))
        ∙ (λ i. node_of (sym (instance_kept m ms m all.1) i) (position t q l i) (most_nodes + (most_made * t + q)))
        ∙ ap (λ (y : CodedInstance). node_of (instance_by p (naming_by_makers p (m ∷ ms)) y) q (most_nodes + (most_made * t + q))) h.1
    | inr h ↦
        let low = number_below ms t x h in
        node_kept m ms (most_nodes + (most_made * t + q)) (omega (arith, low, l)) ∙ node_there ms all.4 t q x l h
        ∙ ap (λ (y : Instance). node_of y q (most_nodes + (most_made * t + q))) (sym (kept_behind m ms all.4 t x h))
  ]

  -- a node that was made has a maker
  pub record HasMaker (ms : List CodedInstance) (k a : ℕ) (r : Reference) (xs : Row) (q : ℕ) : Type 0 where
    pub maker : CodedInstance
    pub tree : ℕ
    pub there : maker_at ms tree ≡ Some maker
    pub code : k ≡ most_nodes + (most_made * tree + q)
    pub few : q < most_made
    pub is : instance_by p (naming_by_makers p ms) maker ≡ Attribute a r (list_of xs)

  made_by_it : (i : Instance) (q k a : ℕ) (r : Reference) (xs : Row) (m : ℕ) → node_of i q k ≡ Made a r xs m → (i ≡ Attribute a r (list_of xs)) × (q ≡ m)
  made_by_it (Attribute b s ys) q k a r xs m e =
      let row : row_of ys ≡ xs = cc in
      let arguments : ys ≡ list_of xs = sym (same_list ys) ∙ ap list_of row in
      (cc, cc)
  made_by_it (Query n) q k a r xs m e = absurd (cc)

  pub made_there : (ms : List CodedInstance) → AreMakers p ms → (k a : ℕ) (r : Reference) (xs : Row) (q : ℕ) → node_by_makers p ms k ≡ Made a r xs q → HasMaker ms k a r xs q
  made_there [] all k a r xs q e = absurd (cc)
  made_there (m ∷ ms) all k a r xs q e = elim (true_or_false (is_of_tree (length ms) k)) [
    | inl h ↦
        let by = made_by_it _ ((k - most_nodes) % most_made) k a r xs q (sym (cond-true (is_of_tree (length ms) k) _ _ h) ∙ e) in
        record {
          maker = m;
          tree = length ms;
          there = cond-true (length ms == length ms) _ _ (eq-eqb (length ms) (length ms) refl);
          code = split (length ms) k h ∙ ap (λ (x : ℕ). most_nodes + (most_made * length ms + x)) by.1;
          few = subst (λ (x : ℕ). x < most_made) by.1 (few_positions k);
          is = instance_kept m ms m all.1 ∙ by.0;
        }
    | inr h ↦
        let by = made_there ms all.4 k a r xs q (sym (cond-false (is_of_tree (length ms) k) _ _ h) ∙ e) in
        let low = number_below ms by.tree by.maker by.there in
        record {
          maker = by.maker;
          tree = by.tree;
          there = cond-false (length ms == by.tree) _ _ (ne_eqb (length ms) by.tree (λ same. omega (arith, same, low))) ∙ by.there;
          code = by.code;
          few = by.few;
          is = kept_behind m ms all.4 by.tree by.maker by.there ∙ by.is;
        }
  ]

  pub source_there : (ms : List CodedInstance) (k j : ℕ) → node_by_makers p ms k ≡ Source j → k ≡ j
  source_there [] k j e = cc
  source_there (m ∷ ms) k j e = elim (true_or_false (is_of_tree (length ms) k)) [
    | inl h ↦ itself _ ((k - most_nodes) % most_made) (sym (cond-true (is_of_tree (length ms) k) _ _ h) ∙ e)
    | inr h ↦ source_there ms k j (sym (cond-false (is_of_tree (length ms) k) _ _ h) ∙ e)
  ]
    where
      itself : (i : Instance) (q : ℕ) → node_of i q k ≡ Source j → k ≡ j
      itself (Attribute b s ys) q e = absurd (cc)
      itself (Query n) q e = cc

  made_whole : (i : Instance) (a : ℕ) (r : Reference) (xs : Row) (s k : ℕ) → i ≡ Attribute a r (list_of xs) → node_of i s k ≡ Made a r xs s
  made_whole i a r xs s k e = ap (λ (y : Instance). node_of y s k) e ∙ ap (λ (ys : Row). Made a r ys s) (same_row xs)

  -- as many arguments as the attribute has parameters
  many_arguments : (t a : ℕ) (x : CodedInstance) (r : Reference) (xs : List Argument) (n : Naming) → CanMake p t x → instance_by p n x ≡ Attribute a r xs → length xs ≡ length (attribute_parameters p a)
  many_arguments t a (coded.Attr b c ys) r xs n can e =
      let same : b.0 ≡ a = cc in
      let is : arguments_by n (attribute_parameters p b.0) (codes_in ys) ≡ xs = cc in
      ap length (sym is) ∙ each n (attribute_parameters p b.0) (codes_in ys) can.all ∙ ap (λ (k : ℕ). length (attribute_parameters p k)) same
    where
      each : (n : Naming) (ks : List Kind) (cs : List ℕ) → length cs ≡ length ks → length (arguments_by n ks cs) ≡ length ks
      each n [] [] e = refl
      each n [] (c ∷ cs) e = absurd (omega (arith, e))
      each n (k ∷ ks) [] e = absurd (omega (arith, e))
      each n (k ∷ ks) (c ∷ cs) e = ap suc (each n ks cs (omega (arith, e)))
  many_arguments t a (coded.Query m) r xs n can e = absurd can

  whole_tree : (ms : List CodedInstance) → AreMakers p ms → (k a : ℕ) (r : Reference) (xs : Row) (q : ℕ) → node_by_makers p ms k ≡ Made a r xs q → IsOfTree p (naming_by_makers p ms) k a r xs q
  whole_tree ms all k a r xs q e =
      let by = made_there ms all k a r xs q e in
      record {
        tree = by.tree;
        code = by.code;
        few = by.few;
        whole = λ s l. node_there ms all by.tree s by.maker l by.there ∙ made_whole _ a r xs s (most_nodes + (most_made * by.tree + s)) by.is;
        all = many_arguments by.tree a by.maker r (list_of xs) (naming_by_makers p ms) (maker_makes ms all by.tree by.maker by.there) by.is;
      }

  pub past_sources : (ms : List CodedInstance) (k : ℕ) → k < most_nodes → node_by_makers p ms k ≡ Source k
  past_sources [] k l = refl
  past_sources (m ∷ ms) k l = node_kept m ms k (omega (arith, l)) ∙ past_sources ms k l

  -- a code past all trees stands for none of their nodes
  pub node_past : (ms : List CodedInstance) (k : ℕ) → last_code (length ms) ≤ k → node_by_makers p ms k ≡ Source k
  node_past [] k l = refl
  node_past (m ∷ ms) k l = cond-false (is_of_tree (length ms) k) _ _ (not_above (length ms) k l) ∙ node_past ms k (omega (arith, l))

  -- no two codes stand for one node
  module _ (pooled : ArePooled p.texts) where
    -- the last tree has no node that an earlier one has
    one_tree : (m : CodedInstance) (ms : List CodedInstance) → AreMakers p (m ∷ ms) → IsNamingOf p (naming_by_makers p ms) → (j k : ℕ) → is_of_tree (length ms) j ≡ true → is_of_tree (length ms) k ≡ false
        → node_by_makers p (m ∷ ms) j ≡ node_by_makers p (m ∷ ms) k → ⊥
    one_tree m ms all named j k of not e = from (instance_by p (naming_by_makers p ms) m) refl (sym (cond-true (is_of_tree (length ms) j) _ _ of) ∙ e ∙ cond-false (is_of_tree (length ms) k) _ _ not) (source_there ms k j)
      where
        from : (i : Instance) → instance_by p (naming_by_makers p ms) m ≡ i → node_of i ((j - most_nodes) % most_made) j ≡ node_by_makers p ms k → (node_by_makers p ms k ≡ Source j → k ≡ j) → ⊥
        from (Attribute a r xs) is same source =
            let by = made_there ms all.4 k a r (row_of xs) ((j - most_nodes) % most_made) (sym same) in
            let one : by.maker ≡ m =
            one_key_by p pooled named by.maker m (maker_coded ms all.4 by.tree by.maker by.there) all.0 (by.is ∙ ap (Attribute a r) (same_list xs) ∙ sym is)
            in
            all.2 by.tree (by.there ∙ ap Some one)
        from (Query n) is same source = let there = source (sym same) in cc

    -- nor two nodes of it one code
    one_node : (m : CodedInstance) (ms : List CodedInstance) → AreMakers p (m ∷ ms) → IsNamingOf p (naming_by_makers p ms) → (j k : ℕ) → node_by_makers p (m ∷ ms) j ≡ node_by_makers p (m ∷ ms) k → j ≡ k
    one_node m ms all named j k e = elim (true_or_false (is_of_tree (length ms) j)) [
      | inl h ↦ elim (true_or_false (is_of_tree (length ms) k)) [
        | inl g ↦ one_position (instance_by p (naming_by_makers p ms) m) (sym (cond-true (is_of_tree (length ms) j) _ _ h) ∙ e ∙ cond-true (is_of_tree (length ms) k) _ _ g) (split (length ms) j h) (split (length ms) k g)
        | inr g ↦ absurd (one_tree m ms all named j k h g e)
      ]
      | inr h ↦ elim (true_or_false (is_of_tree (length ms) k)) [
        | inl g ↦ absurd (one_tree m ms all named k j g h (sym e))
        | inr g ↦ named.one_code j k (sym (cond-false (is_of_tree (length ms) j) _ _ h) ∙ e ∙ cond-false (is_of_tree (length ms) k) _ _ g)
      ]
    ]
      where
        one_position : (i : Instance) → node_of i ((j - most_nodes) % most_made) j ≡ node_of i ((k - most_nodes) % most_made) k → j ≡ most_nodes + (most_made * length ms + (j - most_nodes) % most_made)
            → k ≡ most_nodes + (most_made * length ms + (k - most_nodes) % most_made) → j ≡ k
        one_position (Attribute a r xs) same f g = let one : (j - most_nodes) % most_made ≡ (k - most_nodes) % most_made = cc in omega (arith, one, f, g)
        one_position (Query n) same f g = cc

    -- The makers name the nodes of the program.
    pub naming_is : (ms : List CodedInstance) → AreMakers p ms → IsNamingOf p (naming_by_makers p ms)
    naming_is [] all = sources_named p
    naming_is (m ∷ ms) all = record { texts = refl; sources = past_sources (m ∷ ms); trees = whole_tree (m ∷ ms) all; one_code = one_node m ms all (naming_is ms all.4) }
