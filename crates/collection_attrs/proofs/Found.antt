-- What the collection is that an attribute is at a node.
use Rattle.std.proofs.Common.{◌≡◌, ℕ, zero, suc, ◌<◌, ◌≤◌, Bool, false, List, [], Option, Some, None, length, slice_get, refl, sym, ap, subst, ◌∙◌, arith}
use Rattle.std.specs.Option.{is_some, option_and_then, option_map}
use Rattle.std.proofs.lemmas.Option.{slice_get_past, slice_get_within}
use Rattle.attr_rules.specs.declared.kinds.Attr.{Attr}
use Rattle.attr_rules.specs.declared.kinds.Collecting.{Collecting}
use Rattle.attr_rules.specs.declared.kinds.Kind.TheVariants.{Truth}
use Rattle.attr_rules.specs.declared.kinds.Method.TheVariants.{Or}
use Rattle.attr_rules.specs.Rules.{Attribute, attribute_at, collecting_at, collecting_in, method_at, method_in, root_at, root_in}
use Rattle.equation_law.specs.declared.coding.Args.{Args}
use Rattle.equation_law.specs.declared.coding.Instance.TheVariants.{Attr as attribute_coded}
use Rattle.equation_law.specs.Codes.{Naming, arguments_for, reference_by, source_names}
use Rattle.equation_law.specs.Collections.{Collection}
use Rattle.equation_law.specs.Equations.{collection_at, collection_of, kind_or_truth, offers_below, root_over}
use Rattle.equation_law.specs.Names.{Argument, At, Attribute as attribute, NodeName, Null, Reference, Source}
use Rattle.equation_law.specs.Program.{Program, text_of}
use Rattle.equation_law.specs.Reading.{ByEachIn, Told}
use Rattle.equation_law.proofs.Codes.{sources_named}
use Rattle.collection_attrs.specs.declared.collectors.Collector.{Collector}
use Rattle.collection_attrs.specs.Surveys.{AreCollectionOf, Collections, IsCollectorBy, IsCollectorOf, IsForEach}
use Rattle.collection_attrs.specs.Walks.{IsFor, Walk}

-- an attribute that is no collection, or how it collects
record CollectsAt (p : Program) (a : ℕ) (m : NodeName) (c : Collection) : Type 0 where
  pub collecting : Collecting
  pub collects : collecting_at p.rules.attributes a ≡ Some collecting
  pub is : collection_at p a m collecting ≡ c

-- the collection that there is
abbrev collection_or : Option Collection → Collection
collection_or None = record { method = Or; kind = Truth; node = Source 0; offers = [] }
collection_or (Some c) = c

module _ (p : Program) where
  collects_from : (a : ℕ) (m : NodeName) (c : Collection) (o : Option Collecting) → collecting_at p.rules.attributes a ≡ o → option_map (collection_at p a m) o ≡ Some c → CollectsAt p a m c
  collects_from a m c None f e = cc
  collects_from a m c (Some x) f e = let same : collection_at p a m x ≡ c = cc in record { collecting = x; collects = f; is = same }

  -- the arguments don't count
  any_arguments : (a : ℕ) (n : Reference) (xs ys : List Argument) → collection_of p (attribute a n xs) ≡ collection_of p (attribute a n ys)
  any_arguments a Null xs ys = refl
  any_arguments a (At m) xs ys = refl

  collects_at : (a : ℕ) (n : Reference) (c : Collection) → collection_of p (attribute a n []) ≡ Some c → (m : NodeName) × (n ≡ At m) × CollectsAt p a m c
  collects_at a Null c e = cc
  collects_at a (At m) c e = (m, refl, collects_from a m c (collecting_at p.rules.attributes a) refl e)

  pub node_is : {names : Naming} {of : Collector} {c : Collection} → IsCollectorBy p names of c → reference_by names.node of.node.0 ≡ At c.node
  node_is {names} {of} {c} h = let s = collects_at of.attr.0 (reference_by names.node of.node.0) c h.is in s.1 ∙ ap (λ (d : Collection). At d.node) s.2.is

  pub one_collection : {names : Naming} {of : Collector} {c d : Collection} → IsCollectorBy p names of c → IsCollectorBy p names of d → c ≡ d
  one_collection {names} {of} {c} {d} g h = let a = g.is in let b = h.is in cc

  known_attribute : (a : ℕ) (x : Collecting) (o : Option Attribute) → slice_get p.rules.attributes a ≡ o → option_and_then collecting_in o ≡ Some x → a < length p.rules.attributes
  known_attribute a x None f e = cc
  known_attribute a x (Some y) f e = slice_get_within p.rules.attributes a y f

  pub attribute_known : {of : Collector} {c : Collections} → IsCollectorOf p of c → of.attr.0 < length p.rules.attributes
  attribute_known {of} {c} h =
      let names = source_names (text_of p) in
      let s = collects_at of.attr.0 (reference_by names.node of.node.0) (c names) (h names (sources_named p)).is in
      known_attribute of.attr.0 s.2.collecting (slice_get p.rules.attributes of.attr.0) refl s.2.collects

  -- what is offered to it
  pub offers_are : {names : Naming} {of : Collector} {c : Collection} → IsCollectorBy p names of c → c.offers ≡ offers_below p of.attr.0 (root_over p (root_at p.rules of.attr.0) (reference_by names.node of.node.0))
  offers_are {names} {of} {c} h =
      let s = collects_at of.attr.0 (reference_by names.node of.node.0) c h.is in
      let root : s.2.collecting.root ≡ root_at p.rules of.attr.0 = sym (ap (option_and_then root_in) s.2.collects) in
      sym (ap (λ (d : Collection). d.offers) s.2.is) ∙ (λ i. offers_below p of.attr.0 (root_over p (root i) (sym s.1 i)))

  pub walk_for : (c : Collection) (w : Walk) (a r : ℕ) → w.attribute ≡ a → w.root ≡ r → c.offers ≡ offers_below p a (Some r) → IsFor p w c
  walk_for c w a r attr root is = is ∙ sym (λ i. offers_below p (attr i) (Some (root i)))

  pub walk_for_each : {S : Type 0} (t : Told S) (c : Collections) (w : Walk) (a r : ℕ) → w.attribute ≡ a → w.root ≡ r → ByEachIn t (λ names. (c names).offers ≡ offers_below p a (Some r)) → IsForEach p t w c
  walk_for_each t c w a r attr root is = λ names in_it. walk_for (c names) w a r attr root (is names in_it)

  -- ---- an instance that is a collection, and one that is none

  collector_from : (names : Naming) (of : Collector) (m : NodeName) (d : Attr) (o : Option Collecting) → reference_by names.node of.node.0 ≡ At m → collecting_at p.rules.attributes of.attr.0 ≡ o → Some of.method ≡ option_map method_in o → attribute_at p.rules of.attr.0 ≡ Some d → of.kind ≡ d.kind
      → (c : Collection) × (collection_of p (attribute of.attr.0 (reference_by names.node of.node.0) []) ≡ Some c) × IsCollectorBy p names of c
  collector_from names of m d None at collects method known kind = cc
  collector_from names of m d (Some x) at collects method known kind =
      let same : of.method ≡ x.method = cc in
      let is : collection_of p (attribute of.attr.0 (reference_by names.node of.node.0) []) ≡ Some (collection_at p of.attr.0 m x) =
      ap (λ (n : Reference). collection_of p (attribute of.attr.0 n [])) at ∙ ap (option_map (collection_at p of.attr.0 m)) collects
      in
      (collection_at p of.attr.0 m x, is, record { is = is; method = sym same; kind = ap (λ (o : Option Attr). kind_or_truth (option_map (λ y. y.kind) o)) known ∙ sym kind })

  pub collector_is : (of : Collector) (xs : Args) (d : Attr) → (of.node.0 ≡ 0 → ⊥) → Some of.method ≡ method_at p.rules of.attr.0 → attribute_at p.rules of.attr.0 ≡ Some d → of.kind ≡ d.kind
      → (c : Collections) × AreCollectionOf p (attribute_coded of.attr of.node xs) c × IsCollectorOf p of c
  collector_is of xs d some method known kind = at_node of.node.0 refl
    where
      its : Collections
      its = λ names. collection_or (collection_of p (attribute of.attr.0 (reference_by names.node of.node.0) []))

      found_by : (names : Naming) (k : ℕ) → of.node.0 ≡ suc k → (c : Collection) × (collection_of p (attribute of.attr.0 (reference_by names.node of.node.0) []) ≡ Some c) × IsCollectorBy p names of c
      found_by names k e = collector_from names of (names.node k) d (collecting_at p.rules.attributes of.attr.0) (ap (reference_by names.node) e) refl method known kind

      at_node : (n : ℕ) → of.node.0 ≡ n → (c : Collections) × AreCollectionOf p (attribute_coded of.attr of.node xs) c × IsCollectorOf p of c
      at_node zero e = absurd (some e)
      at_node (suc k) e = (
        its,
        λ names named. let found = found_by names k e in any_arguments of.attr.0 (reference_by names.node of.node.0) (arguments_for p names of.attr.0 xs) [] ∙ found.1 ∙ ap (λ (c : Collection). Some c) (sym (ap collection_or found.1)),
        λ names named. let found = found_by names k e in subst (IsCollectorBy p names of) (sym (ap collection_or found.1)) found.2,
      )

  -- at null none is one
  pub none_at_null : (names : Naming) (a n : ℕ) (xs : List Argument) → n ≡ 0 → collection_of p (attribute a (reference_by names.node n) xs) ≡ None
  none_at_null names a zero xs e = refl
  none_at_null names a (suc k) xs e = absurd (omega (arith, e))

  uncollected : (a : ℕ) (n : Reference) (xs : List Argument) → collecting_at p.rules.attributes a ≡ None → collection_of p (attribute a n xs) ≡ None
  uncollected a Null xs e = refl
  uncollected a (At m) xs e = ap (option_map (collection_at p a m)) e

  -- without a method an attribute is none, known or not
  methodless : (o : Option Collecting) → option_map method_in o ≡ None → o ≡ None
  methodless None e = refl
  methodless (Some x) e = cc

  pub none_without_method : (a : ℕ) (n : Reference) (xs : List Argument) → method_at p.rules a ≡ None → collection_of p (attribute a n xs) ≡ None
  none_without_method a n xs e = uncollected a n xs (methodless (collecting_at p.rules.attributes a) e)

  pub none_unknown : (a : ℕ) (n : Reference) (xs : List Argument) → length p.rules.attributes ≤ a → collection_of p (attribute a n xs) ≡ None
  none_unknown a n xs past = uncollected a n xs (ap (option_and_then collecting_in) (slice_get_past p.rules.attributes a past))

-- what is said not to be there
none_of : {A : Type 0} (o : Option A) → is_some o ≡ false → o ≡ None
none_of None e = refl
none_of (Some x) e = absurd (cc)

pub none_there : (o : Option Collection) (b : Bool) → b ≡ is_some o → b ≡ false → o ≡ None
none_there o b is unsaid = none_of o (sym is ∙ unsaid)
