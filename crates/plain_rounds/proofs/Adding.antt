-- One instance more, or those of one attribute more, in a list of instances.
use Rattle.std.proofs.Common.{◌≡◌, ◌==◌, ℕ, suc, ◌+◌, ◌<◌, ◌≤◌, Bool, true, false, cond, if◌then◌else◌, List, [], ◌∷◌, ◌++◌, append_assoc, append-nil, add-one, arith, drop, drop-cons, get_or, length, map, Option, Some, sym, ap, ◌∙◌, slice_get}
use Rattle.std.specs.Option.{option_map}
use Rattle.std.proofs.Math.ListN.{drop_of_length-le}
use Rattle.std.proofs.lemmas.Bool.{eq-eqb}
use Rattle.std.proofs.lemmas.List.{map-append}
use Rattle.std.proofs.lemmas.Option.{get_or_from_slice_get, slice_get-get_or, slice_get_within}
use Rattle.superclasses.specs.Superclasses.{is_sub}
use Rattle.ast_grammar.specs.Grammar.{Class, superclasses_of}
use Rattle.ast_grammar.specs.declared.grammar.ClassId.{ClassId}
use Rattle.attr_rules.specs.declared.kinds.Attr.{Attr}
use Rattle.attr_rules.specs.declared.kinds.Kind.TheVariants as kinds
use Rattle.attr_rules.specs.Expression.{Truth}
use Rattle.attr_rules.specs.Queries.{Query as Asked}
use Rattle.attr_rules.specs.Rules.{Attribute as DeclaredAttribute}
use Rattle.equation_law.specs.Names.{Instance, Query}
use Rattle.equation_law.proofs.Lists.{some_of}
use Rattle.tree_arena.specs.Nodes.{Node}
use Rattle.equation_law.specs.Program.{Program, at_source, attribute_instances, nodes_of, query_instances}
use Rattle.plain_rounds.specs.declared.naming.Name.{Name}
use Rattle.plain_rounds.specs.declared.naming.Name.TheVariants as listed
use Rattle.plain_rounds.specs.Listing.{plain_instances}
use Rattle.plain_rounds.specs.Named.{name_in}

-- the rest of a list from an element on
drop_at : {A : Type 0} (xs : List A) (k : ℕ) (x : A) → slice_get xs k ≡ Some x → drop k xs ≡ x ∷ drop (k + 1) xs
drop_at xs k x e =
    drop-cons xs k x (slice_get_within xs k x e) ∙ ap (λ y. y ∷ drop (suc k) xs) (get_or_from_slice_get xs k x x e) ∙ ap (λ j. x ∷ drop j xs) (sym (add-one k))

-- one instance more in front of the rest
one_more : (texts : ℕ → List ℕ) (xs ys : List Name) (n : Name) (rest : List Instance) → ys ≡ xs ++ n ∷ [] → map (name_in texts) ys ++ rest ≡ map (name_in texts) xs ++ name_in texts n ∷ rest
one_more texts xs ys n rest e =
    ap (λ zs. map (name_in texts) zs ++ rest) e ∙ ap (λ zs. zs ++ rest) (map-append (name_in texts) xs (n ∷ [])) ∙ append_assoc (map (name_in texts) xs) (name_in texts n ∷ []) rest

-- a query more
pub query_listed : (texts : ℕ → List ℕ) (xs ys : List Name) (qs : List Asked) (k : ℕ) (all : List Instance) → k < length qs → ys ≡ xs ++ listed.Query (record { 0 = k }) ∷ [] → map (name_in texts) xs ++ query_instances (drop k qs) k ≡ all → map (name_in texts) ys ++ query_instances (drop (k + 1) qs) (k + 1) ≡ all
query_listed texts xs ys qs k all h e i =
    let none : Asked = record { body = Truth false; kind = kinds.Truth } in
    let d = drop_at qs k (get_or qs k none) (slice_get-get_or qs k none h) in
    let r : query_instances (drop k qs) k ≡ Query k ∷ query_instances (drop (k + 1) qs) (k + 1) = ap (λ zs. query_instances zs k) d ∙ ap (λ j. Query k ∷ query_instances (drop (k + 1) qs) j) (sym (add-one k)) in
    one_more texts xs ys (listed.Query (record { 0 = k })) (query_instances (drop (k + 1) qs) (k + 1)) e ∙ ap (λ zs. map (name_in texts) xs ++ zs) (sym r) ∙ i

module _ (texts : ℕ → List ℕ) (s : List (Option ℕ)) (tree : List Node) (class : ClassId) where
  -- the node is of the class or of a subclass
  abbrev of_class : Node → Bool
  of_class x = is_sub s x.class.0 class.0

  -- the nodes from one on, by whether it is
  nodes_from : (k : ℕ) (b : Bool) → option_map of_class (slice_get tree k) ≡ Some b → nodes_of s (drop k tree) class k ≡ cond b (k ∷ nodes_of s (drop (k + 1) tree) class (k + 1)) (nodes_of s (drop (k + 1) tree) class (k + 1))
  nodes_from k b e =
      let found = some_of of_class (slice_get tree k) b e in
      let rest = λ (j : ℕ). nodes_of s (drop (k + 1) tree) class j in
      ap (λ zs. nodes_of s zs class k) (drop_at tree k found.0 found.1) ∙ ap (λ j. cond (of_class found.0) (k ∷ rest j) (rest j)) (sym (add-one k)) ∙ ap (λ x. cond x (k ∷ rest (k + 1)) (rest (k + 1))) found.2

  -- one that is
  pub node_listed : (xs ys : List Name) (n : Name) (a k : ℕ) (all : List Instance) → name_in texts n ≡ at_source a k → option_map of_class (slice_get tree k) ≡ Some true → ys ≡ xs ++ n ∷ [] → map (name_in texts) xs ++ map (at_source a) (nodes_of s (drop k tree) class k) ≡ all → map (name_in texts) ys ++ map (at_source a) (nodes_of s (drop (k + 1) tree) class (k + 1)) ≡ all
  node_listed xs ys n a k all m e p i =
      one_more texts xs ys n (map (at_source a) (nodes_of s (drop (k + 1) tree) class (k + 1))) p ∙ ap (λ z. map (name_in texts) xs ++ z ∷ map (at_source a) (nodes_of s (drop (k + 1) tree) class (k + 1))) m ∙ ap (λ zs. map (name_in texts) xs ++ map (at_source a) zs) (sym (nodes_from k true e)) ∙ i

  -- and one that is not
  pub node_passed : (xs : List Name) (a k : ℕ) (all : List Instance) → option_map of_class (slice_get tree k) ≡ Some false → map (name_in texts) xs ++ map (at_source a) (nodes_of s (drop k tree) class k) ≡ all → map (name_in texts) xs ++ map (at_source a) (nodes_of s (drop (k + 1) tree) class (k + 1)) ≡ all
  node_passed xs a k all e i = ap (λ zs. map (name_in texts) xs ++ map (at_source a) zs) (sym (nodes_from k false e)) ∙ i

-- the instances of one attribute more
pub attribute_listed : (texts : ℕ → List ℕ) (p : Program) (xs ys : List Name) (k : ℕ) (a : Attr) (all : List Instance) → option_map (λ (x : DeclaredAttribute). x.declared) (slice_get p.rules.attributes k) ≡ Some a → map (name_in texts) ys ≡ map (name_in texts) xs ++ plain_instances p k a
    → map (name_in texts) xs ++ attribute_instances (superclasses_of p.grammar) (drop k p.rules.attributes) k p.tree ≡ all → map (name_in texts) ys ++ attribute_instances (superclasses_of p.grammar) (drop (k + 1) p.rules.attributes) (k + 1) p.tree ≡ all
attribute_listed texts p xs ys k a all e more i =
    let s = superclasses_of p.grammar in
    let attributes = p.rules.attributes in
    let found = some_of (λ (x : DeclaredAttribute). x.declared) (slice_get attributes k) a e in
    let rest = attribute_instances s (drop (k + 1) attributes) (k + 1) p.tree in
    let r : attribute_instances s (drop k attributes) k p.tree ≡ plain_instances p k a ++ rest =
    ap (λ zs. attribute_instances s zs k p.tree) (drop_at attributes k found.0 found.1) ∙ ap (λ (x : Attr). plain_instances p k x ++ attribute_instances s (drop (k + 1) attributes) (suc k) p.tree) found.2 ∙ ap (λ j. plain_instances p k a ++ attribute_instances s (drop (k + 1) attributes) j p.tree) (sym (add-one k))
    in
    ap (λ zs. zs ++ rest) more ∙ append_assoc (map (name_in texts) xs) (plain_instances p k a) rest ∙ ap (λ zs. map (name_in texts) xs ++ zs) (sym r) ∙ i

without_parameters : (n : ℕ) (xs : List Instance) → n ≤ 0 → (if n == 0 then xs else []) ≡ xs
without_parameters n xs h = let none : n ≡ 0 = omega (arith, h) in ap (λ b. if b then xs else []) (eq-eqb n 0 none)

pub all_plain : (p : Program) (a : ℕ) (d : Attr) (seen more : List Instance) (g : List Class) (t : List Node) → d.params.count ≤ 0 → g ≡ p.grammar → t ≡ p.tree → more ≡ seen ++ map (at_source a) (nodes_of (superclasses_of g) t d.class 0) → more ≡ seen ++ plain_instances p a d
all_plain p a d seen more g t h same here are =
    are ∙ (λ i. seen ++ map (at_source a) (nodes_of (superclasses_of (same i)) (here i) d.class 0)) ∙ ap (λ xs. seen ++ xs) (sym (without_parameters d.params.count (map (at_source a) (nodes_of (superclasses_of p.grammar) p.tree d.class 0)) h))

-- where none are left, all are listed
pub queries_listed : (seen all : List Instance) (qs : List Asked) (k : ℕ) → length qs ≤ k → seen ++ query_instances (drop k qs) k ≡ all → seen ≡ all
queries_listed seen all qs k h e = sym (append-nil seen) ∙ ap (λ (xs : List Asked). seen ++ query_instances xs k) (sym (drop_of_length-le qs h)) ∙ e

pub nodes_listed : (s : List (Option ℕ)) (tree : List Node) (class : ClassId) (a k : ℕ) (seen all : List Instance) → length tree ≤ k → seen ++ map (at_source a) (nodes_of s (drop k tree) class k) ≡ all → seen ≡ all
nodes_listed s tree class a k seen all h e = sym (append-nil seen) ∙ ap (λ (xs : List Node). seen ++ map (at_source a) (nodes_of s xs class k)) (sym (drop_of_length-le tree h)) ∙ e

pub attributes_listed : (s : List (Option ℕ)) (attributes : List DeclaredAttribute) (k : ℕ) (tree : List Node) (seen all : List Instance) → length attributes ≤ k → seen ++ attribute_instances s (drop k attributes) k tree ≡ all → seen ≡ all
attributes_listed s attributes k tree seen all h e = sym (append-nil seen) ∙ ap (λ (xs : List DeclaredAttribute). seen ++ attribute_instances s xs k tree) (sym (drop_of_length-le attributes h)) ∙ e
