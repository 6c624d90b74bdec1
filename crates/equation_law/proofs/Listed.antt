-- The instances that are listed are those of the program at source nodes without arguments, and its queries.
use Rattle.std.proofs.Common.{◌≡◌, ℕ, zero, suc, ◌+◌, Bool, true, false, ◌||◌, cond, List, [], ◌∷◌, ◌++◌, Option, Some, inl, inr, map, slice_get, take, ◌==◌, if◌then◌else◌, refl, sym, ap, subst, ◌∙◌, arith}
use Rattle.std.specs.Option.{option_map}
use Rattle.std.proofs.lemmas.Bool.{or_right}
use Rattle.std.proofs.lemmas.Bool.Decides.{eqb_tells}
use Rattle.superclasses.specs.Superclasses.{is_sub as is_below}
use Rattle.ast_grammar.specs.declared.grammar.ClassId.{ClassId}
use Rattle.ast_grammar.specs.Grammar.{superclasses_of}
use Rattle.attr_rules.specs.declared.kinds.Attr.{Attr}
use Rattle.attr_rules.specs.declared.kinds.Kind.{Kind}
use Rattle.attr_rules.specs.declared.kinds.Params.{Params}
use Rattle.attr_rules.specs.Types.{parameter_kinds}
use Rattle.attr_rules.specs.Queries.{Query as Asked}
use Rattle.attr_rules.specs.Rules.{Attribute as DeclaredAttribute}
use Rattle.solutions.specs.Rounds.{is_in}
use Rattle.equation_law.specs.Checked.{AreArguments, IsAt, IsInstance, IsNodeAt, StandsInSource, of_attribute, of_query}
use Rattle.equation_law.specs.Names.{Argument, At, Attribute, Instance, Made, NodeName, Query, Source, same_instance}
use Rattle.tree_arena.specs.Nodes.{Node}
use Rattle.equation_law.specs.Program.{Program, at_source, attribute_instances, class_of, declared_of, nodes_of, query_instances, source_instances}
use Rattle.equation_law.proofs.Checked.{source_at}
use Rattle.equation_law.proofs.Lists.{some_of}
use Rattle.equation_law.proofs.Names.{same_instance_is, same_instance_self}

abbrev among : List Instance → Instance → Bool
among xs i = is_in same_instance xs i

-- what is among the first is among all
in_left : (xs ys : List Instance) (i : Instance) → among xs i ≡ true → among (xs ++ ys) i ≡ true
in_left [] ys i h = cc
in_left (x ∷ xs) ys i h =
    elim (same_instance i x) as (λ b. (b || among xs i) ≡ true → (b || among (xs ++ ys) i) ≡ true) [
      | true ↦ λ g. refl
      | false ↦ λ g. in_left xs ys i g
    ] h

in_right : (xs ys : List Instance) (i : Instance) → among ys i ≡ true → among (xs ++ ys) i ≡ true
in_right [] ys i h = h
in_right (x ∷ xs) ys i h = or_right (same_instance i x) _ (in_right xs ys i h)

-- what holds of the elements of both holds of those of all
abbrev AllAre : (Instance → Type 0) → List Instance → Type 0
AllAre P [] = Unit {0}
AllAre P (x ∷ xs) = P x × AllAre P xs

both_are : (P : Instance → Type 0) (xs ys : List Instance) → AllAre P xs → AllAre P ys → AllAre P (xs ++ ys)
both_are P [] ys a b = b
both_are P (x ∷ xs) ys a b = (a.0, both_are P xs ys a.1 b)

-- and of what is among them
found_is : (P : Instance → Type 0) (xs : List Instance) (i : Instance) → AllAre P xs → among xs i ≡ true → P i
found_is P [] i a h = cc
found_is P (x ∷ xs) i a h =
    elim (same_instance i x) as (λ b. same_instance i x ≡ b → (b || among xs i) ≡ true → P i) [
      | true ↦ λ e g. subst P (sym (same_instance_is i x e)) a.0
      | false ↦ λ e g. found_is P xs i a.1 g
    ] refl h

-- each element is among them
pub at_place : (xs : List Instance) (k : ℕ) (i : Instance) → slice_get xs k ≡ Some i → among xs i ≡ true
at_place [] k i e = cc
at_place (x ∷ xs) zero i e = let same : x ≡ i = cc in ap (λ y. same_instance i y || among xs i) same ∙ ap (λ b. b || among xs i) (same_instance_self i)
at_place (x ∷ xs) (suc k) i e = or_right (same_instance i x) _ (at_place xs k i e)

-- what holds of a list where a number is 0, and of none
where_none : (n : ℕ) (P : List Instance → Type 0) (xs : List Instance) → P [] → (n ≡ 0 → P xs) → P (if n == 0 then xs else [])
where_none n P xs none h = elim (eqb_tells n 0) [
  | inl t ↦ subst (λ (b : Bool). P (if b then xs else [])) (sym t.0) (h t.1)
  | inr t ↦ subst (λ (b : Bool). P (if b then xs else [])) (sym t.0) none
]

module _ (p : Program) where
  -- no parameters want no arguments
  no_parameters : (ps : Params) → ps.count ≡ 0 → AreArguments p (parameter_kinds ps) []
  no_parameters ps z = subst (λ (n : ℕ). AreArguments p (take n (ps.first ∷ ps.second ∷ ps.third ∷ [])) []) (sym z) tt

  abbrev IsPlain : Instance → Type 0
  IsPlain i = IsInstance p i × StandsInSource i

  -- the superclasses of its grammar
  abbrev superclasses : List (Option ℕ)
  superclasses = superclasses_of p.grammar

  -- the nodes of a class, from one on
  nodes_are : (a : ℕ) (d : Attr) → declared_of p a ≡ Some d → d.params.count ≡ 0 → (nodes : List Node) (n : ℕ) → ((k m : ℕ) (x : Node) → n + k ≡ m → slice_get nodes k ≡ Some x → class_of p m ≡ Some x.class) → AllAre IsPlain (map (at_source a) (nodes_of superclasses nodes d.class n))
  nodes_are a d e z [] n h = tt
  nodes_are a d e z (x ∷ nodes) n h =
      let rest = nodes_are a d e z nodes (suc n) (λ k m y l s. h (suc k) m y (omega (arith, l)) s) in
      elim (is_below superclasses x.class.0 d.class.0) as (λ b. is_below superclasses x.class.0 d.class.0 ≡ b → AllAre IsPlain (map (at_source a) (cond b (n ∷ nodes_of superclasses nodes d.class (suc n)) (nodes_of superclasses nodes d.class (suc n))))) [
        | true ↦ λ s.
            let stands : IsAt p n d.class = record { class = x.class; of = h 0 n x (omega arith) refl; below = s } in
            ((of_attribute d e (source_at p n d.class stands) (no_parameters d.params z), (tt, refl)), rest)
        | false ↦ λ s. rest
      ] refl

  attributes_are : (attributes : List DeclaredAttribute) (a : ℕ) → ((k m : ℕ) (x : DeclaredAttribute) → a + k ≡ m → slice_get attributes k ≡ Some x → declared_of p m ≡ Some x.declared) → AllAre IsPlain (attribute_instances superclasses attributes a p.tree)
  attributes_are [] a h = tt
  attributes_are (x ∷ attributes) a h =
      both_are IsPlain (if x.declared.params.count == 0 then map (at_source a) (nodes_of superclasses p.tree x.declared.class 0) else []) (attribute_instances superclasses attributes (suc a) p.tree)
      (where_none x.declared.params.count (AllAre IsPlain) (map (at_source a) (nodes_of superclasses p.tree x.declared.class 0)) tt (λ z. nodes_are a x.declared (h 0 a x (omega arith) refl) z p.tree 0 (λ k m y l s. let same : k ≡ m = omega (arith, l) in ap (λ (j : ℕ). class_of p j) (sym same) ∙ ap (option_map (λ (z : Node). z.class)) s)))
      (attributes_are attributes (suc a) (λ k m y l s. h (suc k) m y (omega (arith, l)) s))

  queries_are : (queries : List Asked) (q : ℕ) → ((k m : ℕ) (e : Asked) → q + k ≡ m → slice_get queries k ≡ Some e → slice_get p.queries m ≡ Some e) → AllAre IsPlain (query_instances queries q)
  queries_are [] q h = tt
  queries_are (e ∷ queries) q h = ((of_query e (h 0 q e (omega arith) refl), tt), queries_are queries (suc q) (λ k m x l s. h (suc k) m x (omega (arith, l)) s))

  -- what is listed is an instance
  pub listed_is : (i : Instance) → is_in same_instance (source_instances p) i ≡ true → IsInstance p i × StandsInSource i
  unfolding source_instances
  listed_is i h =
      found_is IsPlain (source_instances p) i
      (both_are IsPlain (attribute_instances superclasses p.rules.attributes 0 p.tree) (query_instances p.queries 0)
      (attributes_are p.rules.attributes 0 (λ k m x l s. let same : k ≡ m = omega (arith, l) in ap (λ (j : ℕ). declared_of p j) (sym same) ∙ ap (option_map (λ (z : DeclaredAttribute). z.declared)) s))
      (queries_are p.queries 0 (λ k m e l s. let same : k ≡ m = omega (arith, l) in ap (slice_get p.queries) (sym same) ∙ s)))
      h

  -- a node of the class or of a subclass is listed
  node_in : (a : ℕ) (nodes : List Node) (n k m : ℕ) (x : Node) (c : ClassId) → n + k ≡ m → slice_get nodes k ≡ Some x → is_below superclasses x.class.0 c.0 ≡ true → among (map (at_source a) (nodes_of superclasses nodes c n)) (at_source a m) ≡ true
  node_in a [] n k m x c l s e = cc
  node_in a (y ∷ nodes) n zero m x c l s e =
      let same : y ≡ x = cc in
      let at : n ≡ m = omega (arith, l) in
      let first : is_below superclasses y.class.0 c.0 ≡ true = subst (λ (z : Node). is_below superclasses z.class.0 c.0 ≡ true) (sym same) e in
      ap (λ b. among (map (at_source a) (cond b (n ∷ nodes_of superclasses nodes c (suc n)) (nodes_of superclasses nodes c (suc n)))) (at_source a m)) first
      ∙ ap (λ (j : ℕ). same_instance (at_source a m) (at_source a j) || among (map (at_source a) (nodes_of superclasses nodes c (suc n))) (at_source a m)) at
      ∙ ap (λ b. b || among (map (at_source a) (nodes_of superclasses nodes c (suc n))) (at_source a m)) (same_instance_self (at_source a m))
  node_in a (y ∷ nodes) n (suc k) m x c l s e =
      let rest = node_in a nodes (suc n) k m x c (omega (arith, l)) s e in
      elim (is_below superclasses y.class.0 c.0) as (λ b. among (map (at_source a) (cond b (n ∷ nodes_of superclasses nodes c (suc n)) (nodes_of superclasses nodes c (suc n)))) (at_source a m) ≡ true) [
        | true ↦ or_right (same_instance (at_source a m) (at_source a n)) _ rest
        | false ↦ rest
      ]

  attribute_in : (attributes : List DeclaredAttribute) (a k m n : ℕ) (x : DeclaredAttribute) → a + k ≡ m → slice_get attributes k ≡ Some x → x.declared.params.count ≡ 0 → among (map (at_source m) (nodes_of superclasses p.tree x.declared.class 0)) (at_source m n) ≡ true
      → among (attribute_instances superclasses attributes a p.tree) (at_source m n) ≡ true
  attribute_in [] a k m n x l s z h = cc
  attribute_in (y ∷ attributes) a zero m n x l s z h =
      let same : y ≡ x = cc in
      let at : a ≡ m = omega (arith, l) in
      let listed : ℕ → DeclaredAttribute → List Instance = λ j w. if w.declared.params.count == 0 then map (at_source j) (nodes_of superclasses p.tree w.declared.class 0) else [] in
      in_left (listed a y) (attribute_instances superclasses attributes (suc a) p.tree) (at_source m n)
      (subst (λ (j : ℕ). among (listed j y) (at_source m n) ≡ true) (sym at)
      (subst (λ (w : DeclaredAttribute). among (listed m w) (at_source m n) ≡ true) (sym same)
      (subst (λ (c : ℕ). among (if c == 0 then map (at_source m) (nodes_of superclasses p.tree x.declared.class 0) else []) (at_source m n) ≡ true) (sym z) h)))
  attribute_in (y ∷ attributes) a (suc k) m n x l s z h =
      in_right (if y.declared.params.count == 0 then map (at_source a) (nodes_of superclasses p.tree y.declared.class 0) else []) (attribute_instances superclasses attributes (suc a) p.tree) (at_source m n) (attribute_in attributes (suc a) k m n x (omega (arith, l)) s z h)

  query_in : (queries : List Asked) (q k m : ℕ) (e : Asked) → q + k ≡ m → slice_get queries k ≡ Some e → among (query_instances queries q) (Query m) ≡ true
  query_in [] q k m e l s = cc
  query_in (y ∷ queries) q zero m e l s =
      let at : q ≡ m = omega (arith, l) in
      ap (λ (j : ℕ). same_instance (Query m) (Query j) || among (query_instances queries (suc q)) (Query m)) at ∙ ap (λ b. b || among (query_instances queries (suc q)) (Query m)) (same_instance_self (Query m))
  query_in (y ∷ queries) q (suc k) m e l s = or_right (same_instance (Query m) (Query q)) _ (query_in queries (suc q) k m e (omega (arith, l)) s)

  -- where no arguments are wanted there are no parameters
  none_wanted : (n : ℕ) (a b c : Kind) → AreArguments p (take n (a ∷ b ∷ c ∷ [])) [] → n ≡ 0
  none_wanted zero a b c h = refl
  none_wanted (suc n) a b c h = absurd h

  attribute_listed : (a k : ℕ) (xs : List Argument) (d : Attr) (c : ClassId) → declared_of p a ≡ Some d → class_of p k ≡ Some c → is_below superclasses c.0 d.class.0 ≡ true → AreArguments p (parameter_kinds d.params) xs → xs ≡ []
      → is_in same_instance (source_instances p) (Attribute a (At (Source k)) xs) ≡ true
  unfolding source_instances
  attribute_listed a k xs d c e f b q none =
      let t = some_of (λ (x : DeclaredAttribute). x.declared) (slice_get p.rules.attributes a) d e in
      let y = some_of (λ (x : Node). x.class) (slice_get p.tree k) c f in
      let count : d.params.count ≡ 0 = none_wanted d.params.count d.params.first d.params.second d.params.third (subst (AreArguments p (parameter_kinds d.params)) none q) in
      let stands = subst (λ (x : Attr). is_below superclasses y.0.class.0 x.class.0 ≡ true) (sym t.2) (subst (λ (x : ClassId). is_below superclasses x.0 d.class.0 ≡ true) (sym y.2) b) in
      let there = node_in a p.tree 0 k k y.0 t.0.declared.class (omega arith) y.1 stands in
      let listed = attribute_in p.rules.attributes 0 a a k t.0 (omega arith) t.1 (ap (λ (x : Attr). x.params.count) t.2 ∙ count) there in
      subst (λ (zs : List Argument). is_in same_instance (source_instances p) (Attribute a (At (Source k)) zs) ≡ true) (sym none)
      (in_left (attribute_instances superclasses p.rules.attributes 0 p.tree) (query_instances p.queries 0) (at_source a k) listed)

  node_listed : (a : ℕ) (n : NodeName) (xs : List Argument) (d : Attr) → declared_of p a ≡ Some d → IsNodeAt p n d.class → AreArguments p (parameter_kinds d.params) xs → StandsInSource (Attribute a (At n) xs)
      → is_in same_instance (source_instances p) (Attribute a (At n) xs) ≡ true
  node_listed a (Source k) xs d e h q stands = attribute_listed a k xs d h.class e h.of h.below q stands.1
  node_listed a (Made b r ys m) xs d e h q stands = absurd stands.0

  query_listed : (q : ℕ) (e : Asked) → slice_get p.queries q ≡ Some e → is_in same_instance (source_instances p) (Query q) ≡ true
  unfolding source_instances
  query_listed q e o = in_right (attribute_instances superclasses p.rules.attributes 0 p.tree) (query_instances p.queries 0) (Query q) (query_in p.queries 0 q q e (omega arith) o)

  -- and each instance at a source node without arguments is listed, and so is each query
  pub is_listed : (i : Instance) → IsInstance p i → StandsInSource i → is_in same_instance (source_instances p) i ≡ true
  is_listed i (of_attribute {a = a} {n = n} {xs = xs} d e h q) stands = node_listed a n xs d e h q stands
  is_listed i (of_query {q = q} e o) stands = query_listed q e o
