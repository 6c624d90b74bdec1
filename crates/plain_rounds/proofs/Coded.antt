-- Codes by the makers so far: makers that are added give them the same meaning, and what has them.
use Rattle.std.proofs.Common.{◌≡◌, inl, inr, ℕ, zero, suc, ◌+◌, ◌*◌, ◌<◌, ◌≤◌, ◌^◌, ◌==◌, ℤ, Bool, List, [], ◌∷◌, ◌++◌, length, length-append, Option, Some, None, refl, sym, ap, subst, ◌∙◌, arith}
use Rattle.std.proofs.lemmas.Bool.{cond-false, ne_eqb}
use Rattle.std.proofs.lemmas.List.Elements.{All-cons, All-nil}
use Rattle.std.proofs.lemmas.Option.{same_Some}
use Rattle.rag_io.specs.Pool.{ArePooled}
use Rattle.ast_grammar.specs.declared.grammar.ClassId.{ClassId}
use Rattle.attr_rules.specs.declared.kinds.AttrId.{AttrId}
use Rattle.attr_rules.specs.declared.kinds.Kind.{Kind}
use Rattle.attr_rules.specs.declared.kinds.Kind.TheVariants as kinds
use Rattle.attr_rules.specs.Types.{parameter_kinds}
use Rattle.tree_arena.specs.Nodes.{most_nodes}
use Rattle.equation_law.specs.declared.coding.Args.{Args}
use Rattle.equation_law.specs.declared.coding.NodeRef.{NodeRef}
use Rattle.equation_law.specs.declared.coding.Instance.{Instance as CodedInstance}
use Rattle.equation_law.specs.declared.coding.Instance.TheVariants as coded
use Rattle.equation_law.specs.Checked.{AreArguments, IsInstance, IsProgram, IsNode, IsNodeOf, IsValue, at, int, node, null, nodes, of_attribute, of_query, text, texts, tree, truth}
use Rattle.equation_law.specs.Codes.{AreCodes, IsCoded, arguments_by, codes_in, instance_by, most_made, reference_by, reference_of, value_coded}
use Rattle.equation_law.specs.Created.{Making, tree_or_none}
use Rattle.equation_law.specs.Names.{Argument, At, Attribute, Instance, Made, Null, OfInt, OfNode, OfText, OfTruth, Reference, Row, Source, list_of, made_by, row_of}
use Rattle.equation_law.specs.Program.{Program, attribute_parameters, kinds_or_none, making_of, text_of, tree_made}
use Rattle.equation_law.specs.Values.{Int, Node, Text, Truth, Value, as_argument}
use Rattle.equation_law.proofs.Created.{are_arguments, at_class_below}
use Rattle.equation_law.proofs.Names.{same_list}
use Rattle.equation_law.proofs.Fitting.{trees_fit}
use Rattle.equation_law.proofs.Keys.{one_key_by}
use Rattle.equation_law.proofs.Pooled.{texts_pooled}
use Rattle.made_trees.specs.Made.{AreMakers, AreNamed, Follow, last_code, maker_at, naming_by_makers, node_by_makers, node_of}
use Rattle.equation_law.specs.declared.system.System.{System}
use Rattle.equation_law.specs.Systems.{program_of}
use Rattle.made_trees.specs.Makers.{AreSmall, AreTrees, IsMore, Trees, making_for, naming_of, program_for, stands_for}
use Rattle.made_trees.proofs.Following.{follow_length, follow_more, reference_follows}
use Rattle.made_trees.proofs.Kept.{few_makers}
use Rattle.made_trees.proofs.Naming.{can_more, instance_kept, made_there, maker_coded, naming_is, node_there, number_below, past_sources}
use Rattle.made_trees.proofs.Small.{trees_small}
use Rattle.made_trees.proofs.Stands.{length_is}
use Rattle.plain_rounds.specs.Trees.{HaveNumbers}
use Rattle.plain_rounds.specs.Coding.{AreArgumentsCoded, AreEachCoded, AreNamesCoded, AreSomeArguments, IsArgumentCoded, IsCodedAs, IsInstanceCoded, IsNameCoded, IsNamedBy, IsNodeCoded, IsSomeArgument, IsSomeNode}

module _ (p : Program) where
  -- a code that has a meaning keeps it
  pub node_kept : {ms ns : List CodedInstance} {r : Reference} {c : ℕ} → Follow ms ns → IsNodeCoded p ms r c → IsNodeCoded p ns r c
  node_kept {ms} {ns} {r} {c} f h =
      let l = follow_length f in
      let low = h.1 in
      (reference_follows p f c h.1 ∙ h.0, omega (arith, l, low))

  value_kept : {ms ns : List CodedInstance} → Follow ms ns → (k : Kind) (x : Argument) (c : ℕ) → IsCodedAs p ms k x c → IsCodedAs p ns k x c
  value_kept f kinds.Truth x c h = record { code = h.code; named = tt; is = h.is }
  value_kept f kinds.Int x c h = record { code = h.code; named = tt; is = h.is }
  value_kept f kinds.Text x c h = record { code = h.code; named = tt; is = h.is }
  value_kept {ms} {ns} f (kinds.Node d) x c h =
      let kept = node_kept {r = reference_by (node_by_makers p ms) c} f (refl, h.named) in
      record { code = h.code; named = kept.1; is = ap OfNode kept.0 ∙ h.is }
  value_kept f kinds.Texts x c h = record { code = h.code; named = tt; is = h.is }
  value_kept f (kinds.Nodes d) x c h = record { code = h.code; named = tt; is = h.is }

  pub argument_kept : {ms ns : List CodedInstance} {x : Argument} {c : ℕ} → Follow ms ns → IsArgumentCoded p ms x c → IsArgumentCoded p ns x c
  argument_kept f h k v = value_kept f k _ _ (h k v)

  instance_further : (more ms : List CodedInstance) (i : CodedInstance) → IsNamedBy p (length ms) i → instance_by p (naming_by_makers p (more ++ ms)) i ≡ instance_by p (naming_by_makers p ms) i
  instance_further [] ms i h = refl
  instance_further (m ∷ more) ms (coded.Query q) h = refl
  instance_further (m ∷ more) ms (coded.Attr a n xs) h =
      let l : length (more ++ ms) ≡ length more + length ms = length-append more ms in
      instance_kept p m (more ++ ms) (coded.Attr a n xs) (can_more p (length ms) (length (more ++ ms)) (omega (arith, l)) (coded.Attr a n xs) h) ∙ instance_further more ms (coded.Attr a n xs) h

  named_further : (t u : ℕ) → t ≤ u → (i : CodedInstance) → IsNamedBy p t i → IsNamedBy p u i
  named_further t u le (coded.Attr a n xs) h = can_more p t u le (coded.Attr a n xs) h
  named_further t u le (coded.Query q) h = tt

  pub coded_kept : {ms ns : List CodedInstance} {x : Instance} {i : CodedInstance} → Follow ms ns → IsInstanceCoded p ms x i → IsInstanceCoded p ns x i
  coded_kept {ms} {ns} {x} {i} f h = record {
    coded = h.coded;
    named = named_further (length ms) (length ns) (follow_length f) i h.named;
    is = subst (λ (l : List CodedInstance). instance_by p (naming_by_makers p l) i ≡ x) (sym f.1) (instance_further f.0 ms i h.named ∙ h.is);
  }

  maker_further : (more ms : List CodedInstance) (t : ℕ) (i : CodedInstance) → maker_at ms t ≡ Some i → maker_at (more ++ ms) t ≡ Some i
  maker_further [] ms t i e = e
  maker_further (m ∷ more) ms t i e =
      let l : length (more ++ ms) ≡ length more + length ms = length-append more ms in
      let low = number_below p ms t i e in
      cond-false (length (more ++ ms) == t) _ _ (ne_eqb (length (more ++ ms)) t (λ same. omega (arith, l, low, same))) ∙ maker_further more ms t i e

  pub maker_kept : {ms ns : List CodedInstance} → Follow ms ns → (t : ℕ) (i : CodedInstance) → maker_at ms t ≡ Some i → maker_at ns t ≡ Some i
  maker_kept {ms} f t i e = subst (λ (l : List CodedInstance). maker_at l t ≡ Some i) (sym f.1) (maker_further f.0 ms t i e)

  -- null and source nodes
  pub null_coded : (ms : List CodedInstance) → IsNodeCoded p ms Null 0
  null_coded ms = (refl, omega arith)

  code_is : (n k : ℕ) → reference_of n ≡ At (Source k) → n ≡ suc k
  code_is zero k e = cc
  code_is (suc n) k e = cc

  pub source_few : length p.tree ≤ most_nodes → (k : ℕ) → IsSomeNode p (At (Source k)) → k < most_nodes
  source_few few k h = of (At (Source k)) refl h.1
    where
      of : (r : Reference) → r ≡ At (Source k) → IsNodeOf p h.0 r → k < most_nodes
      of _ e null = cc
      of _ e (at {n = n} a) = let same : n ≡ Source k = cc in let there : k < length p.tree = subst (IsNode p) same a.there in omega (arith, there, few)

  pub source_coded : (ms : List CodedInstance) (k n : ℕ) → k < most_nodes → reference_of n ≡ At (Source k) → IsNodeCoded p ms (At (Source k)) n
  source_coded ms k n few e =
      let same = code_is n k e in
      subst (λ (c : ℕ). IsNodeCoded p ms (At (Source k)) c) (sym same) (ap At (past_sources p ms k few), omega (arith, few))

  -- the parts of a node that was made
  pub record IsPartOf (a : ℕ) (r : Reference) (xs : List Argument) (q : ℕ) : Type 0 where
    pub instance : IsInstance p (Attribute a r xs)
    pub within : q < length (tree_made p a r)

  part_of : (a : ℕ) (r : Reference) (xs : Row) (q : ℕ) → IsNode p (Made a r xs q) → IsInstance p (Attribute a r (list_of xs)) × (q < length (tree_made p a r))
  part_of a Null xs q is = absurd is.3
  part_of a (At n) xs q is = (of_attribute is.0 is.1 (at_class_below p n is.0.class is.3) (are_arguments p (parameter_kinds is.0.params) xs is.4), is.5)

  pub parts_there : (a : ℕ) (r : Reference) (xs : List Argument) (q : ℕ) → IsNode p (Made a r (row_of xs) q) → IsPartOf a r xs q
  parts_there a r xs q there =
      let made = part_of a r (row_of xs) q there in
      record { instance = subst (λ (ys : List Argument). IsInstance p (Attribute a r ys)) (same_list xs) made.0; within = made.1 }

  pub parts : (a : ℕ) (r : Reference) (xs : List Argument) (q : ℕ) → IsSomeNode p (made_by (Attribute a r xs) q) → IsPartOf a r xs q
  parts a r xs q h = of (made_by (Attribute a r xs) q) refl h.1
    where
      of : (s : Reference) → s ≡ made_by (Attribute a r xs) q → IsNodeOf p h.0 s → IsPartOf a r xs q
      of _ e null = cc
      of _ e (at {n = n} b) =
          let same : n ≡ Made a r (row_of xs) q = cc in
          parts_there a r xs q (subst (IsNode p) same b.there)

  few_positions : AreSmall p → (a : ℕ) (r : Reference) (q : ℕ) → q < length (tree_made p a r) → q < most_made
  few_positions small a r q within = of (making_of p a r) refl within
    where
      of : (o : Option Making) → making_of p a r ≡ o → q < length (tree_or_none o) → q < most_made
      of None e l = absurd (omega (arith, l))
      of (Some m) e l = let few = (small a r m e).0 in let long = length_is m in omega (arith, l, few, long)

  -- a node of the tree of an instance, by the code of the root
  pub record IsMadeCoded (ms : List CodedInstance) (root q : ℕ) (i : Instance) : Type 0 where
    pub fits : root + q < 2 ^ 32
    pub is : IsNodeCoded p ms (made_by i q) (root + q)

  pub made_coded : (ms : List CodedInstance) → AreMakers p ms → AreSmall p → (a : ℕ) (r : Reference) (xs : List Argument) (q root : ℕ) → q < length (tree_made p a r) → reference_by (node_by_makers p ms) root ≡ made_by (Attribute a r xs) 0 → IsMadeCoded ms root q (Attribute a r xs)
  made_coded ms all small a r xs q zero within e = absurd (cc)
  made_coded ms all small a r xs q (suc k) within e =
      let here : node_by_makers p ms k ≡ Made a r (row_of xs) 0 = cc in
      let by = made_there p ms all k a r (row_of xs) 0 here in
      let few = few_positions small a r q within in
      let code = by.code in
      let low = number_below p ms by.tree by.maker by.there in
      let many = few_makers p ms all in
      let moved : suc k + q ≡ suc (most_nodes + (most_made * by.tree + q)) = omega (arith, code) in
      let there = node_there p ms all by.tree q by.maker few by.there ∙ ap (λ (i : Instance). node_of i q (most_nodes + (most_made * by.tree + q))) (by.is ∙ ap (Attribute a r) (same_list xs)) in
      record {
        fits = omega (arith, moved, few, low, many);
        is = (subst (λ (c : ℕ). reference_by (node_by_makers p ms) c ≡ made_by (Attribute a r xs) q) (sym moved) (ap At there), omega (arith, moved, few, low));
      }

  -- arguments
  pub is_truth : (b : Bool) (k : Kind) → IsValue p k (Truth b) → k ≡ kinds.Truth
  is_truth b k h = of k (Truth b) refl h
    where
      of : (k : Kind) (v : Value) → v ≡ Truth b → IsValue p k v → k ≡ kinds.Truth
      of _ _ e (truth c) = refl
      of _ _ e (int z f) = cc
      of _ _ e (text t f) = cc
      of _ _ e (node c r f) = cc
      of _ _ e (texts s f) = cc
      of _ _ e (tree c r ts f) = cc
      of _ _ e (nodes c s f) = cc

  pub is_int : (z : ℤ) (k : Kind) → IsValue p k (Int z) → k ≡ kinds.Int
  is_int z k h = of k (Int z) refl h
    where
      of : (k : Kind) (v : Value) → v ≡ Int z → IsValue p k v → k ≡ kinds.Int
      of _ _ e (truth c) = cc
      of _ _ e (int y f) = refl
      of _ _ e (text t f) = cc
      of _ _ e (node c r f) = cc
      of _ _ e (texts s f) = cc
      of _ _ e (tree c r ts f) = cc
      of _ _ e (nodes c s f) = cc

  pub is_text : (t : List ℕ) (k : Kind) → IsValue p k (Text t) → k ≡ kinds.Text
  is_text t k h = of k (Text t) refl h
    where
      of : (k : Kind) (v : Value) → v ≡ Text t → IsValue p k v → k ≡ kinds.Text
      of _ _ e (truth c) = cc
      of _ _ e (int y f) = cc
      of _ _ e (text u f) = refl
      of _ _ e (node c r f) = cc
      of _ _ e (texts s f) = cc
      of _ _ e (tree c r ts f) = cc
      of _ _ e (nodes c s f) = cc

  pub is_node : (r : Reference) (k : Kind) → IsValue p k (Node r) → (c : ClassId) × (k ≡ kinds.Node c) × IsNodeOf p c r
  is_node r k h = of k (Node r) refl h
    where
      of : (k : Kind) (v : Value) → v ≡ Node r → IsValue p k v → (c : ClassId) × (k ≡ kinds.Node c) × IsNodeOf p c r
      of _ _ e (truth c) = absurd (cc)
      of _ _ e (int y f) = absurd (cc)
      of _ _ e (text u f) = absurd (cc)
      of _ _ e (node c s f) = let same : s ≡ r = cc in (c, refl, subst (IsNodeOf p c) same f)
      of _ _ e (texts s f) = absurd (cc)
      of _ _ e (tree c s ts f) = absurd (cc)
      of _ _ e (nodes c s f) = absurd (cc)

  module _ (ms : List CodedInstance) where
    pub truth_coded : (b : Bool) (c : ℕ) → c ≤ 1 → value_coded (naming_by_makers p ms) kinds.Truth c ≡ Truth b → IsArgumentCoded p ms (OfTruth b) c
    truth_coded b c small e k v = subst (λ (t : Kind). IsCodedAs p ms t (OfTruth b) c) (sym (is_truth b k v)) (record { code = small; named = tt; is = ap (as_argument kinds.Truth) e })

    pub int_coded : (z : ℤ) (c : ℕ) → c < 2 ^ 32 → value_coded (naming_by_makers p ms) kinds.Int c ≡ Int z → IsArgumentCoded p ms (OfInt z) c
    int_coded z c few e k v = subst (λ (t : Kind). IsCodedAs p ms t (OfInt z) c) (sym (is_int z k v)) (record { code = few; named = tt; is = ap (as_argument kinds.Int) e })

    pub text_coded : (c m : ℕ) → c < length p.texts → text_of p c ≡ text_of p m → IsArgumentCoded p ms (OfText (text_of p m)) c
    text_coded c m few e k v = subst (λ (t : Kind). IsCodedAs p ms t (OfText (text_of p m)) c) (sym (is_text (text_of p m) k v)) (record { code = few; named = tt; is = ap OfText e })

    pub node_argument : (r : Reference) (c : ℕ) → c < 2 ^ 32 → IsNodeCoded p ms r c → IsArgumentCoded p ms (OfNode r) c
    node_argument r c few h k v =
        let its = is_node r k v in
        subst (λ (t : Kind). IsCodedAs p ms t (OfNode r) c) (sym its.1) (record { code = few; named = h.1; is = ap OfNode h.0 })

  pub some_node : (r : Reference) → IsSomeArgument p (OfNode r) → IsSomeNode p r
  some_node r h = let its = is_node r h.0 h.1 in (its.0, its.2)

  -- the first of some arguments, and the rest
  pub first_of : (x : Argument) (xs : List Argument) → AreSomeArguments p (x ∷ xs) → IsSomeArgument p x
  first_of x xs h = of h.0 h.1
    where
      of : (ks : List Kind) → AreArguments p ks (x ∷ xs) → IsSomeArgument p x
      of [] are = absurd are
      of (k ∷ ks) are = (k, are.0)

  pub rest_of : (x : Argument) (xs : List Argument) → AreSomeArguments p (x ∷ xs) → AreSomeArguments p xs
  rest_of x xs h = of h.0 h.1
    where
      of : (ks : List Kind) → AreArguments p ks (x ∷ xs) → AreSomeArguments p xs
      of [] are = absurd are
      of (k ∷ ks) are = (ks, are.1)

  -- an instance by the codes of its parts
  pub record ArePartsCoded (ms : List CodedInstance) (ks : List Kind) (xs : List Argument) (cs : List ℕ) : Type 0 where
    pub codes : AreCodes p ks cs
    pub named : AreNamed (last_code (length ms)) ks cs
    pub is : arguments_by (naming_by_makers p ms) ks cs ≡ xs
    pub all : length cs ≡ length ks

  pub row_coded : (ms : List CodedInstance) (ks : List Kind) (xs : List Argument) (cs : List ℕ) → AreArguments p ks xs → AreEachCoded p ms xs cs → ArePartsCoded ms ks xs cs
  row_coded ms [] [] [] are each = record { codes = tt; named = tt; is = refl; all = refl }
  row_coded ms [] [] (c ∷ cs) are each = absurd each
  row_coded ms [] (x ∷ xs) cs are each = absurd are
  row_coded ms (k ∷ ks) [] cs are each = absurd are
  row_coded ms (k ∷ ks) (x ∷ xs) [] are each = absurd each
  row_coded ms (k ∷ ks) (x ∷ xs) (c ∷ cs) are each =
      let here = each.0 k are.0 in
      let rest = row_coded ms ks xs cs are.1 each.1 in
      let long = rest.all in
      record { codes = (here.code, rest.codes); named = (here.named, rest.named); is = (λ i. here.is i ∷ rest.is i); all = omega (arith, long) }

  pub some_parts : (a : ℕ) (r : Reference) (xs : List Argument) → IsInstance p (Attribute a r xs) → IsSomeNode p r × AreSomeArguments p xs
  some_parts a r xs h = of (Attribute a r xs) refl h
    where
      of : (i : Instance) → i ≡ Attribute a r xs → IsInstance p i → IsSomeNode p r × AreSomeArguments p xs
      of _ e (of_attribute {n = n} {xs = ys} d declared stands are) =
          let same : At n ≡ r = cc in
          let arguments : ys ≡ xs = cc in
          ((d.class, subst (IsNodeOf p d.class) same (at stands)), (parameter_kinds d.params, subst (AreArguments p (parameter_kinds d.params)) arguments are))
      of _ e (of_query q f) = absurd (cc)

  for_parameters : (a : ℕ) (r : Reference) (xs : List Argument) → IsInstance p (Attribute a r xs) → AreArguments p (attribute_parameters p a) xs
  for_parameters a r xs h = of (Attribute a r xs) refl h
    where
      of : (i : Instance) → i ≡ Attribute a r xs → IsInstance p i → AreArguments p (attribute_parameters p a) xs
      of _ e (of_attribute {a = b} {n = n} {xs = ys} d declared stands are) =
          let number : b ≡ a = cc in
          let arguments : ys ≡ xs = cc in
          subst (λ (k : ℕ). AreArguments p (attribute_parameters p k) xs) number (subst (λ (ks : List Kind). AreArguments p ks xs) (sym (ap kinds_or_none declared)) (subst (AreArguments p (parameter_kinds d.params)) arguments are))
      of _ e (of_query q f) = absurd (cc)

  pub instance_coded : (ms : List CodedInstance) (a : AttrId) (r : Reference) (xs : List Argument) (n : NodeRef) (cs : Args) → IsInstance p (Attribute a.0 r xs) → IsNodeCoded p ms r n.0 → AreArgumentsCoded p ms xs cs → IsInstanceCoded p ms (Attribute a.0 r xs) (coded.Attr a n cs)
  instance_coded ms a r xs n cs there owner arguments =
      let row = row_coded ms (attribute_parameters p a.0) xs (codes_in cs) (for_parameters a.0 r xs there) arguments.1 in
      record {
        coded = (arguments.0, row.codes);
        named = record { all = row.all; owner = owner.1; arguments = row.named };
        is = (λ i. Attribute a.0 (owner.0 i) (row.is i));
      }

  -- two and three codes
  pub two_coded : (ms : List CodedInstance) (x y : Argument) (c d : ℕ) (cs : List ℕ) → cs ≡ c ∷ d ∷ [] → IsArgumentCoded p ms x c → IsArgumentCoded p ms y d → AreEachCoded p ms (x ∷ y ∷ []) cs
  two_coded ms x y c d cs e h k = subst (AreEachCoded p ms (x ∷ y ∷ [])) (sym e) (h, (k, tt))

  pub three_coded : (ms : List CodedInstance) (x y z : Argument) (b c d : ℕ) (cs : List ℕ) → cs ≡ b ∷ c ∷ d ∷ [] → IsArgumentCoded p ms x b → IsArgumentCoded p ms y c → IsArgumentCoded p ms z d → AreEachCoded p ms (x ∷ y ∷ z ∷ []) cs
  three_coded ms x y z b c d cs e h k l = subst (AreEachCoded p ms (x ∷ y ∷ z ∷ [])) (sym e) (h, (k, (l, tt)))

-- the makers of a system
pub makers_of : (s : System) (T : Trees) → T.system ≡ s → AreTrees T → AreTrees (record { system = s; makers = T.makers })
makers_of s T same trees = subst (λ (x : System). AreTrees (record { system = x; makers = T.makers })) same trees

-- the node at a position of a tree whose root has this code
pub added : (s : System) (T : Trees) (i : CodedInstance) (a : ℕ) (r : Reference) (xs : List Argument) (root q : ℕ) → T.system ≡ s → AreTrees T → stands_for T root ≡ made_by (instance_by (program_for T) (naming_of T) i) 0 → IsInstanceCoded (program_of s) T.makers (Attribute a r xs) i → q < length (tree_made (program_of s) a r)
    → IsMadeCoded (program_of s) T.makers root q (Attribute a r xs)
added s T i a r xs root q same trees stands coded within =
    let all = makers_of s T same trees in
    let there = subst (λ (x : System). stands_for (record { system = x; makers = T.makers }) root ≡ made_by (instance_by (program_of x) (naming_by_makers (program_of x) T.makers) i) 0) same stands in
    made_coded (program_of s) T.makers all.makers all.small a r xs q root within (there ∙ ap (λ (j : Instance). made_by j 0) coded.is)

module _ (p : Program) (pooled : ArePooled p.texts) where
  -- an instance at the root of whose tree a node stands is one of the makers
  pub numbered : (ms : List CodedInstance) → AreMakers p ms → (i : CodedInstance) (a : ℕ) (r : Reference) (xs : List Argument) (root : ℕ) → IsCoded p i → instance_by p (naming_by_makers p ms) i ≡ Attribute a r xs → reference_by (node_by_makers p ms) root ≡ made_by (Attribute a r xs) 0 → (t : ℕ) × (maker_at ms t ≡ Some i)
  numbered ms all i a r xs zero coded is e = absurd (cc)
  numbered ms all i a r xs (suc k) coded is e =
      let here : node_by_makers p ms k ≡ Made a r (row_of xs) 0 = cc in
      let by = made_there p ms all k a r (row_of xs) 0 here in
      let same : by.maker ≡ i = one_key_by p pooled (naming_is p pooled ms all) by.maker i (maker_coded p ms all by.tree by.maker by.there) coded (by.is ∙ ap (Attribute a r) (same_list xs) ∙ sym is) in
      (by.tree, by.there ∙ ap Some same)

-- the code of an instance that was put among the makers
pub name_added : (s : System) (T : Trees) (before : List CodedInstance) (i : CodedInstance) (a : ℕ) (r : Reference) (xs : List Argument) (root : ℕ) → T.system ≡ s → AreTrees T → IsMore before i T.makers → stands_for T root ≡ made_by (instance_by (program_for T) (naming_of T) i) 0 → IsInstanceCoded (program_of s) before (Attribute a r xs) i
    → IsNameCoded (program_of s) T.makers (Attribute a r xs) i
name_added s T before i a r xs root same trees more stands coded =
    let all = makers_of s T same trees in
    let kept = coded_kept (program_of s) (follow_more more) coded in
    let there = subst (λ (x : System). stands_for (record { system = x; makers = T.makers }) root ≡ made_by (instance_by (program_of x) (naming_by_makers (program_of x) T.makers) i) 0) same stands in
    let number = numbered (program_of s) (texts_pooled s) T.makers all.makers i a r xs root coded.coded kept.is (there ∙ ap (λ (j : Instance). made_by j 0) kept.is) in
    record { instance = kept; number = λ m e. number }

-- the codes of the names so far
abbrev pub AreEachNamed : Program → List CodedInstance → List Instance → List CodedInstance → Type 0
AreEachNamed p ms [] [] = Unit {0}
AreEachNamed p ms [] (i ∷ is) = ⊥
AreEachNamed p ms (x ∷ xs) [] = ⊥
AreEachNamed p ms (x ∷ xs) (i ∷ is) = IsNameCoded p ms x i × AreEachNamed p ms xs is

module _ (p : Program) where
  name_kept : {ms ns : List CodedInstance} {x : Instance} {i : CodedInstance} → Follow ms ns → IsNameCoded p ms x i → IsNameCoded p ns x i
  name_kept {i = i} f h = record { instance = coded_kept p f h.instance; number = λ m e. let at = h.number m e in (at.0, maker_kept p f at.0 i at.1) }

  names_kept : {ms ns : List CodedInstance} → Follow ms ns → (xs : List Instance) (is : List CodedInstance) → AreEachNamed p ms xs is → AreEachNamed p ns xs is
  names_kept f [] [] h = tt
  names_kept f [] (i ∷ is) h = absurd h
  names_kept f (x ∷ xs) [] h = absurd h
  names_kept f (x ∷ xs) (i ∷ is) h = (name_kept f h.0, names_kept f xs is h.1)

  names_pushed : (ms : List CodedInstance) (xs : List Instance) (is : List CodedInstance) (x : Instance) (i : CodedInstance) → AreEachNamed p ms xs is → IsNameCoded p ms x i → AreEachNamed p ms (xs ++ x ∷ []) (is ++ i ∷ [])
  names_pushed ms [] [] x i h k = (k, tt)
  names_pushed ms [] (j ∷ is) x i h k = absurd h
  names_pushed ms (y ∷ xs) [] x i h k = absurd h
  names_pushed ms (y ∷ xs) (j ∷ is) x i h k = (h.0, names_pushed ms xs is x i h.1 k)

  -- one more, and all
  pub names_more : {ms ns : List CodedInstance} → Follow ms ns → (xs : List Instance) (is : List CodedInstance) (x : Instance) (i : CodedInstance) → AreEachNamed p ms xs is → IsNameCoded p ns x i → AreEachNamed p ns (xs ++ x ∷ []) (is ++ i ∷ [])
  names_more {ms} {ns} f xs is x i h k = names_pushed ns xs is x i (names_kept f xs is h) k

  pub names_done : (ms : List CodedInstance) (xs : List Instance) (is : List CodedInstance) → AreEachNamed p ms xs is → AreNamesCoded p ms xs is
  names_done ms [] [] h = record { coded = All-nil (IsCoded p); instances = refl; numbers = λ k i e. absurd (let wrong : None ≡ Some i = e in cc) }
  names_done ms [] (i ∷ is) h = absurd h
  names_done ms (x ∷ xs) [] h = absurd h
  names_done ms (x ∷ xs) (i ∷ is) h =
      let rest = names_done ms xs is h.1 in
      let here = h.0 in
      record { coded = All-cons (IsCoded p) i is here.instance.coded rest.coded; instances = (λ j. here.instance.is j ∷ rest.instances j); numbers = of rest.numbers }
    where
      of : HaveNumbers p (naming_by_makers p ms) ms is → HaveNumbers p (naming_by_makers p ms) ms (i ∷ is)
      of rest zero j e m making =
          let same : i ≡ j = same_Some i j e in
          let at = h.0.number m (sym (ap (making_for p) h.0.instance.is) ∙ ap (λ (y : CodedInstance). making_for p (instance_by p (naming_by_makers p ms) y)) same ∙ making) in
          (at.0, at.1 ∙ ap Some same)
      of rest (suc k) j e m making = rest k j e m making

-- where nothing made a tree yet
pub no_makers : (s : System) (T : Trees) → T.system ≡ s → T.makers ≡ [] → IsProgram (program_of s) → AreTrees T
no_makers s T same none good =
    let bare : AreTrees (record { system = s; makers = [] }) = record { makers = tt; small = trees_small (program_of s) good; fit = trees_fit (program_of s) good; few = good.tree.few } in
    subst AreTrees (λ i. record { system = sym same i; makers = sym none i }) bare
