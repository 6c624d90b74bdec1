-- Which names are those of instances of a program, part by part.
use Rattle.std.proofs.Common.{◌≡◌, ◌↔◌, ℕ, zero, suc, ◌<◌, ◌≤◌, ℤ, Bool, true, false, is_none, nat_lt, List, [], ◌∷◌, drop, length, Option, Some, None, slice_get, refl, sym, ap, subst, ◌∙◌, arith}
use Rattle.std.specs.Option.{option_and_then, option_map}
use Rattle.std.specs.Int.{int_wrap}
use mir.Syntax.{w32}
use Rattle.std.proofs.lemmas.Bool.{ltb-true}
use Rattle.std.proofs.lemmas.Bool.Decides.{nat_tests}
use Rattle.std.proofs.lemmas.Option.{same_Some, slice_get_past, slice_get_within}
use Rattle.rag_io.specs.Pool.{ArePooled}
use Rattle.ast_grammar.specs.declared.grammar.ClassId.{ClassId}
use Rattle.ast_grammar.specs.Grammar.{is_sub}
use Rattle.attr_rules.specs.declared.kinds.Attr.{Attr}
use Rattle.attr_rules.specs.declared.kinds.Kind.{Kind}
use Rattle.attr_rules.specs.declared.kinds.Kind.TheVariants as kinds
use Rattle.attr_rules.specs.Rules.{Attribute as DeclaredAttribute, is_higher_order}
use Rattle.attr_rules.specs.Types.{parameter_kinds}
use Rattle.tree_arena.specs.Nodes.{Node as TreeNode, class_in}
use Rattle.equation_law.specs.Checked.{AreArguments, IsInstance, IsNode, IsNodeAt, IsNodeBelow, IsNodeOf, IsValue, at, int, node, null, of_attribute, of_query, text, truth}
use Rattle.equation_law.specs.Created.{Making, tree_or_none}
use Rattle.equation_law.specs.Names.{Argument, At, Attribute, Instance, Made, NodeName, Null, OfInt, OfNode, OfText, OfTruth, Query, Reference, Source, made_by, row_of}
use Rattle.equation_law.specs.Program.{Program, class_at, declared_of, making_at, making_of, text_of, tree_made}
use Rattle.equation_law.specs.Reading.{class_behind}
use Rattle.equation_law.specs.Values.{argument_value}
use Rattle.equation_law.proofs.Checked.{has}
use Rattle.equation_law.proofs.Created.{are_in_row, is_below_class}
use Rattle.equation_law.proofs.Lists.{some_of}
use Rattle.equation_law.proofs.Pooled.{text_there}
use Rattle.plain_rounds.specs.Checking.{IsForKind, IsInstanceOf, IsNodeWith, IsThere, IsWanted}
use Rattle.plain_rounds.proofs.Coded.{is_int, is_node, is_text, is_truth, parts_there}

there_is : {A : Type 0} (xs : List A) (k : ℕ) → k < length xs → (x : A) × (slice_get xs k ≡ Some x)
there_is [] k h = absurd (omega (arith, h))
there_is (x ∷ xs) zero h = (x, refl)
there_is (x ∷ xs) (suc k) h = there_is xs k (omega (arith, h))

module _ (p : Program) where
  -- arguments of a type
  pub truth_for : (k : Option Kind) (b is : Bool) → (is ≡ true) ↔ (k ≡ Some kinds.Truth) → IsForKind p k (OfTruth b) is
  truth_for k b is h = (λ e. (kinds.Truth, h.0 e, truth b), λ v. h.1 (v.1 ∙ ap Some (is_truth p b v.0 v.2)))

  pub int_for : (k : Option Kind) (z : ℤ) (is : Bool) → int_wrap w32 z ≡ z → (is ≡ true) ↔ (k ≡ Some kinds.Int) → IsForKind p k (OfInt z) is
  int_for k z is fits h = (λ e. (kinds.Int, h.0 e, int z fits), λ v. h.1 (v.1 ∙ ap Some (is_int p z v.0 v.2)))

  pub text_for : (k : Option Kind) (n : ℕ) (is : Bool) → ArePooled p.texts → (is ≡ true) ↔ (k ≡ Some kinds.Text) → IsForKind p k (OfText (text_of p n)) is
  text_for k n is pooled h = (λ e. (kinds.Text, h.0 e, text (text_of p n) (text_there p.texts pooled n)), λ v. h.1 (v.1 ∙ ap Some (is_text p (text_of p n) v.0 v.2)))

  node_for : (k : Option Kind) (r : Reference) (c : ClassId) (is : Bool) → k ≡ Some (kinds.Node c) → (is ≡ true) ↔ IsNodeOf p c r → IsForKind p k (OfNode r) is
  node_for k r c is same h = (
    λ e. (kinds.Node c, same, node c r (h.0 e)),
    λ v.
        let its = is_node p r v.0 v.2 in
        let both : Some (kinds.Node its.0) ≡ Some (kinds.Node c) = ap Some (sym its.1) ∙ sym v.1 ∙ same in
        let class : its.0 ≡ c = cc in
        h.1 (subst (λ (d : ClassId). IsNodeOf p d r) class its.2),
  )

  pub none_for : (k : Option Kind) (r : Reference) → IsWanted k None → IsForKind p k (OfNode r) false
  none_for k r none = (λ e. absurd (cc), λ v. let its = is_node p r v.0 v.2 in absurd (none its.0 (v.1 ∙ ap Some its.1)))

  -- null or a node of the class
  below : (c : ClassId) (r : Reference) (d : ClassId) → IsNodeWith p r (Some d) → IsNodeOf p c r → is_sub p.grammar d.0 c.0 ≡ true
  below c r d there of = by r refl of
    where
      by : (s : Reference) → s ≡ r → IsNodeOf p c s → is_sub p.grammar d.0 c.0 ≡ true
      by _ e null = let other = there.0.1 in absurd (cc)
      by _ e (at {n = n} a) =
          let class : class_at p n ≡ Some d = ap (class_behind p) e ∙ there.1 in
          let same : a.class ≡ d = same_Some a.class d (sym a.of ∙ class) in
          subst (λ (x : ClassId). is_sub p.grammar x.0 c.0 ≡ true) same a.below

  pub some_for : (k : Option Kind) (r : Reference) (c d : ClassId) (is : Bool) → k ≡ Some (kinds.Node c) → IsNodeWith p r (Some d) → is ≡ is_sub p.grammar d.0 c.0 → IsForKind p k (OfNode r) is
  some_for k r c d is same there sub =
      node_for k r c is same (
        λ e. subst (IsNodeOf p c) (sym there.0.1) (at (record { there = there.0.2; class = d; of = sym (ap (class_behind p) there.0.1) ∙ there.1; below = sym sub ∙ e })),
        λ of. sub ∙ below c r d there of,
      )

  pub other_for : (k : Option Kind) (r : Reference) (c : ClassId) (is : Bool) → k ≡ Some (kinds.Node c) → IsNodeWith p r None → (is ≡ true) ↔ (r ≡ Null) → IsForKind p k (OfNode r) is
  other_for k r c is same none h = node_for k r c is same (λ e. subst (IsNodeOf p c) (sym (h.0 e)) null, λ of. by r refl of)
    where
      by : (s : Reference) → s ≡ r → IsNodeOf p c s → is ≡ true
      by _ e null = h.1 (sym e)
      by _ e (at {n = n} a) = absurd (none (n, sym e, a.there))

  -- arguments for parameters
  pub no_arguments : (ks : List Kind) (b : Bool) → b ≡ is_none (slice_get ks 0) → (b ≡ true) ↔ AreArguments p ks []
  no_arguments [] b e = (λ t. tt, λ are. e)
  no_arguments (k ∷ ks) b e = (λ t. let wrong : false ≡ true = sym e ∙ t in absurd (cc), λ are. absurd are)

  -- an argument is for the first of these, and so the others decide
  pub others_decide : (ks ls : List Kind) (k : Option Kind) (x : Argument) (xs : List Argument) (first rest : Bool) → k ≡ slice_get ks 0 → ls ≡ drop 1 ks → IsForKind p k x first → first ≡ true → (rest ≡ true) ↔ AreArguments p ls xs → (rest ≡ true) ↔ AreArguments p ks (x ∷ xs)
  others_decide [] ls k x xs first rest e f h is r = let for = h.0 is in absurd (let wrong : None ≡ Some for.0 = sym e ∙ for.1 in cc)
  others_decide (t ∷ ks) ls k x xs first rest e f h is r =
      let for = h.0 is in
      let same : for.0 ≡ t = same_Some for.0 t (sym for.1 ∙ e) in (
        λ b. (subst (λ (u : Kind). IsValue p u (argument_value x)) same for.2, subst (λ (us : List Kind). AreArguments p us xs) f (r.0 b)),
        λ are. r.1 (subst (λ (us : List Kind). AreArguments p us xs) (sym f) are.1),
      )

  -- it is for none, and so they are none
  pub first_fails : (ks : List Kind) (k : Option Kind) (x : Argument) (xs : List Argument) (first all : Bool) → k ≡ slice_get ks 0 → IsForKind p k x first → first ≡ false → all ≡ false → (all ≡ true) ↔ AreArguments p ks (x ∷ xs)
  first_fails [] k x xs first all e h is off = (λ b. let wrong : false ≡ true = sym off ∙ b in absurd (cc), λ are. absurd are)
  first_fails (t ∷ ks) k x xs first all e h is off = (
    λ b. let wrong : false ≡ true = sym off ∙ b in absurd (cc),
    λ are. let yes = h.1 (t, e, are.0) in let wrong : false ≡ true = sym is ∙ yes in absurd (cc),
  )

  -- an instance of an attribute
  pub instance_with : (a : ℕ) (r : Reference) (xs : List Argument) (d : Attr) (c : ClassId) → declared_of p a ≡ Some d → IsNodeWith p r (Some c) → is_sub p.grammar c.0 d.class.0 ≡ true → AreArguments p (parameter_kinds d.params) xs → IsInstanceOf p (Attribute a r xs) (Some c)
  instance_with a r xs d c declared there sub are = (
    subst (λ (s : Reference). IsInstance p (Attribute a s xs)) (sym there.0.1) (of_attribute d declared (record { there = there.0.2; class = c; of = sym (ap (class_behind p) there.0.1) ∙ there.1; below = sub }) are),
    there.1,
  )

  pub record IsAttributeAt (a : ℕ) (r : Reference) (xs : List Argument) : Type 0 where
    pub declared : Attr
    pub of : declared_of p a ≡ Some declared
    pub name : NodeName
    pub is : r ≡ At name
    pub stands : IsNodeAt p name declared.class
    pub are : AreArguments p (parameter_kinds declared.params) xs

  pub attribute_at : (a : ℕ) (r : Reference) (xs : List Argument) → IsInstance p (Attribute a r xs) → IsAttributeAt a r xs
  attribute_at a r xs h = by (Attribute a r xs) refl h
    where
      by : (i : Instance) → i ≡ Attribute a r xs → IsInstance p i → IsAttributeAt a r xs
      by _ e (of_attribute {a = b} {n = n} {xs = ys} d declared stands are) =
          let number : b ≡ a = cc in
          let owner : At n ≡ r = cc in
          let arguments : ys ≡ xs = cc in
          record { declared = d; of = subst (λ (k : ℕ). declared_of p k ≡ Some d) number declared; name = n; is = sym owner; stands = stands; are = subst (AreArguments p (parameter_kinds d.params)) arguments are }
      by _ e (of_query q f) = absurd (cc)

  pub no_attribute : (a : ℕ) (r : Reference) (xs : List Argument) → length p.rules.attributes ≤ a → IsInstanceOf p (Attribute a r xs) None
  no_attribute a r xs past h =
      let at = attribute_at a r xs h in
      let none = ap (option_map (λ (x : DeclaredAttribute). x.declared)) (slice_get_past p.rules.attributes a past) in
      let of = at.of in
      absurd (let wrong : None ≡ Some at.declared = sym none ∙ of in cc)

  pub no_owner : (a : ℕ) (r : Reference) (xs : List Argument) → IsNodeWith p r None → IsInstanceOf p (Attribute a r xs) None
  no_owner a r xs none h = let at = attribute_at a r xs h in none (at.name, at.is, at.stands.there)

  pub other_class : (a : ℕ) (r : Reference) (xs : List Argument) (d : Attr) (c : ClassId) → declared_of p a ≡ Some d → IsNodeWith p r (Some c) → is_sub p.grammar c.0 d.class.0 ≡ false → IsInstanceOf p (Attribute a r xs) None
  other_class a r xs d c declared there sub h =
      let at = attribute_at a r xs h in
      let same : at.declared ≡ d = same_Some at.declared d (sym at.of ∙ declared) in
      let class : class_at p at.name ≡ Some c = ap (class_behind p) (sym at.is) ∙ there.1 in
      let one : at.stands.class ≡ c = same_Some at.stands.class c (sym at.stands.of ∙ class) in
      let yes : is_sub p.grammar c.0 d.class.0 ≡ true = subst (λ (x : ClassId). is_sub p.grammar x.0 d.class.0 ≡ true) one (subst (λ (x : Attr). is_sub p.grammar at.stands.class.0 x.class.0 ≡ true) same at.stands.below) in
      let wrong : true ≡ false = sym yes ∙ sub in
      cc

  pub other_arguments : (a : ℕ) (r : Reference) (xs : List Argument) (d : Attr) (b : Bool) → declared_of p a ≡ Some d → (b ≡ true) ↔ AreArguments p (parameter_kinds d.params) xs → b ≡ false → IsInstanceOf p (Attribute a r xs) None
  other_arguments a r xs d b declared are off h =
      let at = attribute_at a r xs h in
      let same : at.declared ≡ d = same_Some at.declared d (sym at.of ∙ declared) in
      let yes = are.1 (subst (λ (x : Attr). AreArguments p (parameter_kinds x.params) xs) same at.are) in
      let wrong : true ≡ false = sym yes ∙ off in
      cc

  -- a query
  pub query_is : (q n : ℕ) → n ≡ length p.queries → (nat_lt q n ≡ true) ↔ IsInstance p (Query q)
  query_is q n few = (
    λ e. let within : q < n = ltb-true q n e in let found = there_is p.queries q (omega (arith, within, few)) in of_query found.0 found.1,
    λ h. let found = has p (Query q) h in let within = slice_get_within p.queries q found.0 found.1 in let l : q < n = omega (arith, within, few) in grind (arith, nat_tests, l),
  )

  -- a source node
  pub source_with : (k : ℕ) (c : ClassId) → option_map (λ (x : TreeNode). x.class) (slice_get p.tree k) ≡ Some c → IsNodeWith p (At (Source k)) (Some c)
  source_with k c e = let found = some_of (λ (x : TreeNode). x.class) (slice_get p.tree k) c e in ((Source k, refl, slice_get_within p.tree k found.0 found.1), e)

  pub no_source : (k : ℕ) → length p.tree ≤ k → IsNodeWith p (At (Source k)) None
  no_source k past h =
      let same : At h.0 ≡ At (Source k) = sym h.1 in
      let name : h.0 ≡ Source k = cc in
      let there : k < length p.tree = subst (IsNode p) name h.2 in
      omega (arith, there, past)

  -- a node of a tree that was made
  made_there : (a : ℕ) (r : Reference) (xs : List Argument) (q : ℕ) → IsThere p (made_by (Attribute a r xs) q) → (d : Attr) × (declared_of p a ≡ Some d) × (is_higher_order d.sort ≡ true) × (q < length (tree_made p a r))
  made_there a r xs q h =
      let same : At h.0 ≡ At (Made a r (row_of xs) q) = sym h.1 in
      let name : h.0 ≡ Made a r (row_of xs) q = cc in
      let there = subst (IsNode p) name h.2 in
      (there.0, there.1, there.2, there.5)

  pub no_maker : (a : ℕ) (r : Reference) (xs : List Argument) (q : ℕ) → IsInstanceOf p (Attribute a r xs) None → IsNodeWith p (made_by (Attribute a r xs) q) None
  no_maker a r xs q none h =
      let same : At h.0 ≡ At (Made a r (row_of xs) q) = sym h.1 in
      let name : h.0 ≡ Made a r (row_of xs) q = cc in
      none (parts_there p a r xs q (subst (IsNode p) name h.2)).instance

  pub plain_maker : (a : ℕ) (r : Reference) (xs : List Argument) (q : ℕ) (d : Attr) → declared_of p a ≡ Some d → is_higher_order d.sort ≡ false → IsNodeWith p (made_by (Attribute a r xs) q) None
  plain_maker a r xs q d declared plain h =
      let made = made_there a r xs q h in
      let same : made.0 ≡ d = same_Some made.0 d (sym made.1 ∙ declared) in
      let higher : is_higher_order d.sort ≡ true = subst (λ (x : Attr). is_higher_order x.sort ≡ true) same made.2 in
      let wrong : true ≡ false = sym higher ∙ plain in
      cc

  making_behind : (a : ℕ) (r : Reference) (c : ClassId) → class_behind p r ≡ Some c → making_of p a r ≡ making_at p a c
  making_behind a Null c e = cc
  making_behind a (At n) c e = ap (option_and_then (making_at p a)) e

  pub made_with : (a : ℕ) (r : Reference) (xs : List Argument) (q : ℕ) (d : Attr) (c : ClassId) (o : Option ClassId) → declared_of p a ≡ Some d → is_higher_order d.sort ≡ true → IsInstanceOf p (Attribute a r xs) (Some c) → o ≡ class_in (tree_or_none (making_at p a c)) q → IsNodeWith p (made_by (Attribute a r xs) q) o
  made_with a r xs q d c o declared higher there e = of o (e ∙ ap (λ (m : Option Making). class_in (tree_or_none m) q) (sym (making_behind a r c there.1)))
    where
      within : (e : ClassId) → class_in (tree_made p a r) q ≡ Some e → q < length (tree_made p a r)
      within e f = let found = some_of (λ (x : TreeNode). x.class) (slice_get (tree_made p a r) q) e f in slice_get_within (tree_made p a r) q found.0 found.1

      of : (o : Option ClassId) → o ≡ class_in (tree_made p a r) q → IsNodeWith p (made_by (Attribute a r xs) q) o
      of None f = λ h.
          let made = made_there a r xs q h in
          let some = there_is (tree_made p a r) q made.3 in
          let wrong : None ≡ Some some.0.class = f ∙ ap (option_map (λ (x : TreeNode). x.class)) some.1 in
          cc
      of (Some e) f =
          let at = attribute_at a r xs there.0 in
          let same : at.declared ≡ d = same_Some at.declared d (sym at.of ∙ declared) in
          ((Made a r (row_of xs) q, refl, (at.declared, at.of, subst (λ (x : Attr). is_higher_order x.sort ≡ true) (sym same) higher, subst (IsNodeBelow p at.declared.class) (sym at.is) (is_below_class p at.name at.declared.class at.stands), are_in_row p (parameter_kinds at.declared.params) xs at.are, within e (sym f))), sym f)
