-- What holds of declarations that break nothing.
use Rattle.std.proofs.Common.{◌≡◌, ◌==◌, ◌||◌, ◌&&◌, Bool, Option, IsSome, ℕ, ◌+◌, ◌<◌, ◌≤◌, List, [], ◌∷◌, ◌++◌, true, false, not, All, Some, None, refl, ◌∙◌, is_none, length, map, slice_get, take, sym, arith, length-append, subst, ap, if◌then◌else◌}
use Rattle.std.specs.Option.{unwrap_or}
use Rattle.std.proofs.lemmas.Bool.{not-false}
use Rattle.std.proofs.lemmas.Bool.Decides.{nat_tests}
use Rattle.broken_rules.specs.Notes.{at, each_after}
use Rattle.broken_rules.specs.declared.rule.Rule.TheVariants.{J4, J13, J17}
use Rattle.broken_rules.proofs.Clean.{append_none, not_broken}
use Rattle.ast_grammar.specs.Grammar.{Class as ClassOf, class_named}
use Rattle.aspect_items.specs.Expressions.{Expr, Name}
use Rattle.aspect_items.specs.Items.{Circular, Item, Parameter, TypeName, Boolean, Integer, String, Class, WrittenType}
use Rattle.attr_rules.specs.Rules.{IsAttribute, IsParameter, IsStart, is_higher_order, is_single, may_be_circular, most_attributes, nodes, texts, truths}
use Rattle.attr_rules.specs.Types.{element_class, kind_class}
use Rattle.ast_grammar.specs.declared.grammar.ClassId.{ClassId}
use Rattle.attr_rules.specs.declared.kinds.Kind.{Kind}
use Rattle.attr_rules.specs.declared.kinds.Kind.TheVariants as kinds
use Rattle.attr_rules.specs.declared.kinds.Sort.{Sort}
use Rattle.attr_rules.specs.declared.kinds.Start.TheVariants.{Empty, False, Plain}
use Rattle.attr_heads.specs.Heads.{again_broken, attribute_of, attributes_of, count_broken, head_broken, heads_broken, named_broken, other_broken, type_broken}
use Rattle.attr_scope.specs.Classes.{class_broken, class_or_first}
use Rattle.attr_heads.specs.Collections.{collection_broken}
use Rattle.attr_heads.specs.Created.{created_type_broken, is_no_class}
use Rattle.attr_heads.specs.Parameters.{all_parameters_broken, parameter_kind, parameters_broken}
use Rattle.attr_heads.specs.Starts.{has_no_start, is_circular, is_empty, is_false, start_broken, start_declared, start_of, start_where}
use Rattle.attr_scope.specs.Written.{Head, declarations, declared_in}
use Rattle.attr_scope.specs.WrittenTypes.{class_numbered, kind_written, node_kind, nodes_kind, set_named, single_named, type_written}
use Rattle.attr_heads.proofs.ParametersClean.{AreTyped, are_typed, few_params, params_all}
use Rattle.attr_scope.proofs.ClassesFound.{class_there, class_within}
use Rattle.attr_heads.proofs.CollectionsClean.{SaysCollection, collects, head_says}
use Rattle.attr_scope.proofs.ItemsFound.{after_found, all_found, either_false, filter_found, map_found, some_from, some_there}

module _ (g : List ClassOf) where
  classless : (k : Kind) {l : Kind} → k ≡ l → is_single k ≡ true → kind_class k ≡ None → IsParameter g l
  classless k is single none = subst (IsParameter g) is (record { single = single; class = λ c e. (let never : None ≡ Some c = sym none ∙ e in cc) })

  named_kept : (n : TypeName) (k : Kind) → single_named g n ≡ Some k → IsParameter g k
  named_kept Boolean k e = let same : kinds.Truth ≡ k = cc in classless kinds.Truth same refl refl
  named_kept Integer k e = let same : kinds.Int ≡ k = cc in classless kinds.Int same refl refl
  named_kept String k e = let same : kinds.Text ≡ k = cc in classless kinds.Text same refl refl
  named_kept (Class name) k e =
      let found = some_from node_kind (class_named g name) k e in
      let within = class_within g name found.0 found.1 in
      subst (IsParameter g) found.2 (record { single = refl; class = λ c is. (let same : class_numbered found.0 ≡ c = cc in subst (λ (d : ClassId). d.0 < length g) same within) })

  -- a type that is known and is no set
  type_kept : (t : WrittenType) → t.set ≡ false → is_none (type_written g t) ≡ false → IsParameter g (kind_written g t)
  type_kept t single known =
      let there = some_there (type_written g t) known in
      let named : single_named g t.name ≡ Some there.0 = ap (λ b. if b then set_named g t.name else single_named g t.name) (sym single) ∙ there.1 in
      subst (λ o. IsParameter g (unwrap_or o kinds.Truth)) (sym there.1) (named_kept t.name there.0 named)

  -- those of parameters
  kinds_kept : (ps : List Parameter) → AreTyped g ps → (i : ℕ) (k : Kind) → slice_get (map (parameter_kind g) ps) i ≡ Some k → IsParameter g k
  kinds_kept ps typed i k e =
      let found = map_found (parameter_kind g) ps i k e in
      let of = typed i found.0 found.1 in
      subst (IsParameter g) found.2 (type_kept found.0.of of.single of.known)

-- A type that speaks of classes of the grammar.
record IsWithin (g : List ClassOf) (k : Kind) : Type 0 where
  pub class : (c : ClassId) → kind_class k ≡ Some c → c.0 < length g
  pub elements : (c : ClassId) → element_class k ≡ Some c → c.0 < length g

module _ (g : List ClassOf) where
  speechless : (k : Kind) {l : Kind} → k ≡ l → kind_class k ≡ None → element_class k ≡ None → IsWithin g l
  speechless k is none empty =
      subst (IsWithin g) is
      (record {
        class = λ c e. (let never : None ≡ Some c = sym none ∙ e in cc);
        elements = λ c e. (let never : None ≡ Some c = sym empty ∙ e in cc);
      })

  single_within : (n : TypeName) (k : Kind) → single_named g n ≡ Some k → IsWithin g k
  single_within Boolean k e = let same : kinds.Truth ≡ k = cc in speechless kinds.Truth same refl refl
  single_within Integer k e = let same : kinds.Int ≡ k = cc in speechless kinds.Int same refl refl
  single_within String k e = let same : kinds.Text ≡ k = cc in speechless kinds.Text same refl refl
  single_within (Class name) k e =
      let found = some_from node_kind (class_named g name) k e in
      let within = class_within g name found.0 found.1 in
      subst (IsWithin g) found.2
      (record {
        class = λ c is. (let same : class_numbered found.0 ≡ c = cc in subst (λ (d : ClassId). d.0 < length g) same within);
        elements = λ c is. (let never : None ≡ Some c = is in cc);
      })

  set_within : (n : TypeName) (k : Kind) → set_named g n ≡ Some k → IsWithin g k
  set_within Boolean k e = absurd (cc)
  set_within Integer k e = absurd (cc)
  set_within String k e = let same : kinds.Texts ≡ k = cc in speechless kinds.Texts same refl refl
  set_within (Class name) k e =
      let found = some_from nodes_kind (class_named g name) k e in
      let within = class_within g name found.0 found.1 in
      subst (IsWithin g) found.2
      (record {
        class = λ c is. (let never : None ≡ Some c = is in cc);
        elements = λ c is. (let same : class_numbered found.0 ≡ c = cc in subst (λ (d : ClassId). d.0 < length g) same within);
      })

  named_within : (b : Bool) (n : TypeName) (k : Kind) → (if b then set_named g n else single_named g n) ≡ Some k → IsWithin g k
  named_within true n k e = set_within n k e
  named_within false n k e = single_within n k e

  -- the rounds of a circular attribute start at a value of its type
  start_there : (k : Kind) (e : Expr) → is_none (start_of k e) ≡ false → IsStart k (unwrap_or (start_of k e) Plain)
  start_there kinds.Truth e some = elim (is_false e) as (λ b. is_none (start_where b False) ≡ false → IsStart kinds.Truth (unwrap_or (start_where b False) Plain)) [
    | true ↦ λ is. truths
    | false ↦ λ is. absurd (cc)
  ] some
  start_there kinds.Int e some = absurd (cc)
  start_there kinds.Text e some = absurd (cc)
  start_there (kinds.Node c) e some = absurd (cc)
  start_there kinds.Texts e some = elim (is_empty e) as (λ b. is_none (start_where b Empty) ≡ false → IsStart kinds.Texts (unwrap_or (start_where b Empty) Plain)) [
    | true ↦ λ is. texts
    | false ↦ λ is. absurd (cc)
  ] some
  start_there (kinds.Nodes c) e some = elim (is_empty e) as (λ b. is_none (start_where b Empty) ≡ false → IsStart (kinds.Nodes c) (unwrap_or (start_where b Empty) Plain)) [
    | true ↦ λ is. nodes c
    | false ↦ λ is. absurd (cc)
  ] some

  started : (s : Sort) (t : WrittenType) (k : Kind) (o : Option Circular) → type_written g t ≡ Some k → start_broken g s t o ≡ [] → is_circular o ≡ true → (may_be_circular s ≡ true) × IsStart k (start_declared k o)
  started s t k None known none is = absurd (cc)
  started s t k (Some c) known none is =
      let parts = either_false (not (may_be_circular s)) (has_no_start (type_written g t) c.bottom) (not_broken (not (may_be_circular s) || has_no_start (type_written g t) c.bottom) (at c.place J13) none) in
      (not-false (may_be_circular s) parts.0, start_there k c.bottom (ap (λ o. has_no_start o c.bottom) (sym known) ∙ parts.1))

  some_is : {X : Type 0} (o : Option X) → is_none o ≡ false → IsSome o
  some_is None e = absurd (cc)
  some_is (Some x) e = refl

  -- a higher-order attribute is of a class
  of_class : (s : Sort) (t : WrittenType) (k : Kind) (n : Name) → type_written g t ≡ Some k → created_type_broken g s t n ≡ []
      → is_higher_order s ≡ true → IsSome (kind_class k)
  of_class s t k n known none higher =
      let no_class = is_no_class (type_written g t) in
      let is_class : no_class ≡ false = ap (λ b. b && no_class) (sym higher) ∙ not_broken (is_higher_order s && no_class) (at n.place J13) none in
      some_is (kind_class k) (ap is_no_class (sym known) ∙ is_class)

  plain_start : (k : Kind) (o : Option Circular) → is_circular o ≡ false → start_declared k o ≡ Plain
  plain_start k None is = refl
  plain_start k (Some c) is = absurd (cc)

module _ (g : List ClassOf) where
  -- the rules on a declaration, each for itself
  pub record IsHead (before : List Head) (s : Head) : Type 0 where
    pub of : type_broken g s.of ≡ []
    pub class : class_broken g s.class ≡ []
    pub again : again_broken g before s ≡ []
    pub count : count_broken before s.signature.name ≡ []
    pub start : start_broken g s.sort s.of s.circular ≡ []
    pub created : created_type_broken g s.sort s.of s.signature.name ≡ []
    pub other : other_broken g before s ≡ []
    pub collection : collection_broken g s.of s.collection ≡ []
    pub parameters : parameters_broken g [] s.signature.parameters ≡ []

  head_parts : (before : List Head) (s : Head) → head_broken g before s ≡ [] → IsHead before s
  head_parts before s none =
      let count = count_broken before s.signature.name in
      let named = again_broken g before s ++ count in
      let start = start_broken g s.sort s.of s.circular in
      let created = created_type_broken g s.sort s.of s.signature.name in
      let last_two = collection_broken g s.of s.collection ++ all_parameters_broken g None s.signature in
      let last_three = other_broken g before s ++ last_two in
      let all = append_none (named_broken g before s) (start ++ (created ++ last_three)) none in
      let rest = append_none start (created ++ last_three) all.1 in
      let behind = append_none created last_three rest.1 in
      let other = append_none (other_broken g before s) last_two behind.1 in
      let last = append_none (collection_broken g s.of s.collection) (all_parameters_broken g None s.signature) other.1 in
      let of = append_none (type_broken g s.of) (class_broken g s.class ++ named) all.0 in
      let parts = append_none (class_broken g s.class) named of.1 in
      let alone = append_none (again_broken g before s) count parts.1 in
      record { of = of.0; class = parts.0; again = alone.0; count = alone.1; start = rest.0; created = behind.0; other = other.0; collection = last.0; parameters = last.1 }

  few_after : (before list : List Head) → each_after (head_broken g) before list ≡ [] → length before ≤ most_attributes → length before + length list ≤ most_attributes
  few_after before [] none le = omega arith
  few_after before (s ∷ list) none le =
      let first = append_none (head_broken g before s) (each_after (head_broken g) (before ++ s ∷ []) list) none in
      let room : (length before == most_attributes) ≡ false = not_broken (length before == most_attributes) (at s.signature.name.place J17) (head_parts before s first.0).count in
      let less : length before < most_attributes = grind (arith, nat_tests) in
      let one : length (before ++ s ∷ []) ≡ length before + 1 = length-append before (s ∷ []) in
      let rest = few_after (before ++ s ∷ []) list first.1 (omega arith) in
      omega (arith, rest)

  -- there are few declarations
  pub few_declared : (list : List Head) → heads_broken g list ≡ [] → length list ≤ most_attributes
  few_declared list none = omega (arith, few_after [] list none (omega arith))

  -- each breaks nothing
  pub head_there : (list : List Head) (i : ℕ) (s : Head) → heads_broken g list ≡ [] → slice_get list i ≡ Some s → IsHead (take i list) s
  head_there list i s none e = head_parts (take i list) s (after_found (head_broken g) list i s none e)

  -- and is for one of the classes
  pub declared_there : (list : List Head) (i : ℕ) (s : Head) → heads_broken g list ≡ [] → slice_get list i ≡ Some s → (c : ℕ) × (class_named g s.class.text ≡ Some c)
  declared_there list i s none e = class_there g s.class (head_there list i s none e).class

  declared_attribute : (s : Head) (c : ℕ) (k : Kind) → class_named g s.class.text ≡ Some c → type_written g s.of ≡ Some k
      → start_broken g s.sort s.of s.circular ≡ [] → created_type_broken g s.sort s.of s.signature.name ≡ []
      → collection_broken g s.of s.collection ≡ [] → SaysCollection s.sort s.signature.parameters s.collection
      → AreTyped g s.signature.parameters → IsAttribute g (attribute_of g s)
  declared_attribute s c k e known start created collection says typed =
      let kind : k ≡ kind_written g s.of = ap (λ o. unwrap_or o kinds.Truth) (sym known) in
      let kept : IsWithin g (kind_written g s.of) = subst (IsWithin g) kind (named_within g s.of.set s.of.name k known) in
      record {
        within = subst (λ o. (class_or_first o).0 < length g) (sym e) (class_within g s.class.text c e);
        class = kept.class;
        elements = kept.elements;
        few = few_params (map (parameter_kind g) s.signature.parameters);
        parameters = params_all (IsParameter g) (map (parameter_kind g) s.signature.parameters) (kinds_kept g s.signature.parameters typed);
        circular = started g s.sort s.of (kind_written g s.of) s.circular (known ∙ ap Some kind) start;
        plain = plain_start g (kind_written g s.of) s.circular;
        collects = collects g (attribute_of g s).declared s.of s.signature.parameters s.collection (known ∙ ap Some kind) refl says collection;
        created = of_class g s.sort s.of (kind_written g s.of) s.signature.name (known ∙ ap Some kind) created;
      }

  -- and declares an attribute of it
  pub declared_attributes : (items : List Item) → heads_broken g (declarations items) ≡ [] → All (IsAttribute g) (attributes_of g (declarations items))
  declared_attributes items none = all_found (IsAttribute g) (attributes_of g (declarations items)) (λ i x e.
      let found = map_found (attribute_of g) (declarations items) i x e in
      let head = found.0 in
      let item = filter_found declared_in items i head found.1 in
      let class = declared_there (declarations items) i head none found.1 in
      let clean = head_there (declarations items) i head none found.1 in
      let known = some_there (type_written g head.of) (not_broken (is_none (type_written g head.of)) (at head.of.place J4) clean.of) in
      subst (IsAttribute g) found.2 (declared_attribute head class.0 known.0 class.1 known.1 clean.start clean.created clean.collection (head_says item.0 head item.1) (are_typed g [] head.signature.parameters clean.parameters)))
