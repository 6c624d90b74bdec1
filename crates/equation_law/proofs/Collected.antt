-- A collection demands only instances of its program, and comes to a value of its type.
use Rattle.std.proofs.Common.{◌≡◌, ℕ, Bool, true, false, cond, List, [], ◌∷◌, ◌++◌, eqb, map, Option, Some, None, All, slice_get, refl, sym, ap, subst, ◌∙◌}
use Rattle.std.specs.List.{filter, flat_map}
use Rattle.std.specs.Option.{option_and_then, option_map}
use Rattle.std.proofs.lemmas.Bool.{eqb-true}
use Rattle.std.proofs.lemmas.List.Elements.{All-head, All-tail}
use Rattle.ast_grammar.specs.declared.grammar.ClassId.{ClassId}
use Rattle.ast_grammar.specs.Grammar.{Class}
use Rattle.attr_rules.specs.declared.expression.SetOperator.{SetOperator}
use Rattle.attr_rules.specs.declared.expression.SetOperator.TheVariants.{Union}
use Rattle.attr_rules.specs.declared.kinds.Attr.{Attr}
use Rattle.attr_rules.specs.declared.kinds.Collecting.{Collecting}
use Rattle.attr_rules.specs.declared.kinds.Kind.{Kind}
use Rattle.attr_rules.specs.declared.kinds.Kind.TheVariants as kinds
use Rattle.attr_rules.specs.declared.kinds.Method.{Method}
use Rattle.attr_rules.specs.declared.types.ValueType.{ValueType}
use Rattle.attr_rules.specs.declared.types.ValueType.TheVariants as types
use Rattle.attr_rules.specs.Expression.{Expression}
use Rattle.attr_rules.specs.Rules.{Attribute as DeclaredAttribute, Collects, Combines, Contribution, IsAttribute, IsCollection, IsContribution, IsOf as Fits, all_nodes, all_texts, ands, collecting_at, collecting_in, contributed, contribution_names, is_collection, nodes_by_one, ors, sums, texts_by_one}
use Rattle.attr_rules.specs.Types.{fits, is_below, is_set, of_nodes, set_of as set_of_type}
use Rattle.solutions.specs.Asking.{Demands, next}
use Rattle.equation_law.specs.Checked.{IsAt, IsProgram, int as int_value, truth as truth_value}
use Rattle.equation_law.specs.Collections.{Offer, collection_demands, combine, fresh, gathered, offer_place, offered}
use Rattle.equation_law.specs.Equations.{attribute_kind, collection_at, is_of_class, is_offered, kind_or_truth, offers_at, offers_below, root_for, subtree, world_of}
use Rattle.equation_law.specs.Meaning.{meaning_of}
use Rattle.equation_law.specs.Names.{At, Instance, NodeName, Reference, Source, same_reference}
use Rattle.equation_law.specs.Program.{Program, class_of, declared_of}
use Rattle.equation_law.specs.Values.{Value, as_kind, default_of, node, set_operate, single, truth}
use Rattle.equation_law.proofs.Above.{both_hold, each_of, through}
use Rattle.equation_law.proofs.Among.{Among}
use Rattle.equation_law.proofs.Lists.{some_of}
use Rattle.equation_law.proofs.Typed.{AreBounds, AreNames, KeepsAll, all_behind, default_keeps, source_ref, typed_keeps}
use Rattle.equation_law.proofs.TypedValues.{IsOf, IsValueIn, fitting, of_value, sets_keep, single_keeps, value_read}

-- the set of an element that fits is of a type that fits: of texts, and of nodes of a class
text_set : (g : List Class) (t : ValueType) → fits g t kinds.Text ≡ true → (u : ValueType) × (set_of_type t ≡ Some u) × (fits g u kinds.Texts ≡ true)
text_set g types.Null e = cc
text_set g types.Empty e = cc
text_set g (types.Of kinds.Truth) e = cc
text_set g (types.Of kinds.Int) e = cc
text_set g (types.Of kinds.Text) e = (types.Of kinds.Texts, refl, refl)
text_set g (types.Of (kinds.Node d)) e = cc
text_set g (types.Of kinds.Texts) e = cc
text_set g (types.Of (kinds.Nodes d)) e = cc

node_set : (g : List Class) (c : ClassId) (t : ValueType) → fits g t (kinds.Node c) ≡ true → (u : ValueType) × (set_of_type t ≡ Some u) × (fits g u (kinds.Nodes c) ≡ true)
node_set g c types.Null e = (types.Empty, refl, refl)
node_set g c types.Empty e = cc
node_set g c (types.Of kinds.Truth) e = cc
node_set g c (types.Of kinds.Int) e = cc
node_set g c (types.Of kinds.Text) e = cc
node_set g c (types.Of (kinds.Node d)) e = (of_nodes d, refl, e)
node_set g c (types.Of kinds.Texts) e = cc
node_set g c (types.Of (kinds.Nodes d)) e = cc

-- what is made of two sets is read as it is
made_same : (o : SetOperator) (k : Kind) (v w : Value) → as_kind k (set_operate o k v w) ≡ set_operate o k v w
made_same o kinds.Truth v w = refl
made_same o kinds.Int v w = refl
made_same o kinds.Text v w = refl
made_same o (kinds.Node c) v w = refl
made_same o kinds.Texts v w = refl
made_same o (kinds.Nodes c) v w = refl

-- and the first of them may be read before
operated_same : (o : SetOperator) (k : Kind) (v w : Value) → set_operate o k (as_kind k v) w ≡ set_operate o k v w
operated_same o kinds.Truth v w = refl
operated_same o kinds.Int v w = refl
operated_same o kinds.Text v w = refl
operated_same o (kinds.Node c) v w = refl
operated_same o kinds.Texts v w = refl
operated_same o (kinds.Nodes c) v w = refl

-- a source node of the class or of a subclass
pub at_of : (p : Program) (k : ℕ) (c : ClassId) → is_of_class p c (Source k) ≡ true → IsAt p k c
at_of p k c e = known (class_of p k) refl e
  where
    known : (o : Option ClassId) → class_of p k ≡ o → is_below p.grammar o c ≡ true → IsAt p k c
    known None f h = cc
    known (Some d) f h = record { class = d; of = f; below = h }

-- An offer to an attribute: a contribution of the rules to it, at a node of its class or of a subclass.
pub record IsOffer (p : Program) (a : ℕ) (o : Offer) : Type 0 where
  pub allowed : IsContribution p.grammar p.rules.attributes o.contribution
  pub attribute : o.contribution.target.0 ≡ a
  pub stands : IsAt p o.node o.contribution.class

abbrev pub AreOffers : Program → ℕ → List Offer → Type 0
AreOffers p a [] = Unit {0}
AreOffers p a (o ∷ os) = IsOffer p a o × AreOffers p a os

both_offers : (p : Program) (a : ℕ) (os us : List Offer) → AreOffers p a os → AreOffers p a us → AreOffers p a (os ++ us)
both_offers p a [] us f g = g
both_offers p a (o ∷ os) us f g = (f.0, both_offers p a os us f.1 g)

module _ (p : Program) (good : IsProgram p) where
  -- an attribute that doesn't collect is no collection
  pub uncollected : (a : ℕ) (d : Attr) → declared_of p a ≡ Some d → collecting_at p.rules.attributes a ≡ None → is_collection d.sort ≡ false
  uncollected a d e none =
      let s = some_of (λ (x : DeclaredAttribute). x.declared) (slice_get p.rules.attributes a) d e in
      let allowed = each_of (IsAttribute p.grammar) p.rules.attributes a s.0 good.rules.attributes s.1 in
      let bare : s.0.collecting ≡ None = sym (ap (option_and_then collecting_in) s.1) ∙ none in
      subst (λ (x : Attr). is_collection x.sort ≡ false) s.2 (subst (Collects p.grammar s.0.declared) bare allowed.collects)

  -- an attribute that collects
  pub record IsCollected (a : ℕ) (c : Collecting) : Type 0 where
    pub attribute : Attr
    pub declared : declared_of p a ≡ Some attribute
    pub collection : IsCollection p.grammar attribute c
    pub kind : attribute_kind p a ≡ attribute.kind

  pub collected : (a : ℕ) (c : Collecting) → collecting_at p.rules.attributes a ≡ Some c → IsCollected a c
  collected a c e =
      let s = through collecting_in (slice_get p.rules.attributes a) c e in
      let allowed = each_of (IsAttribute p.grammar) p.rules.attributes a s.0 good.rules.attributes s.1 in
      let there : declared_of p a ≡ Some s.0.declared = ap (option_map (λ (x : DeclaredAttribute). x.declared)) s.1 in
      record {
        attribute = s.0.declared;
        declared = there;
        collection = subst (Collects p.grammar s.0.declared) s.2 allowed.collects;
        kind = ap (λ (o : Option Attr). kind_or_truth (option_map (λ (x : Attr). x.kind) o)) there;
      }

  -- what is offered at a node
  some_offers : (a k : ℕ) (cs : List Contribution) → All (IsContribution p.grammar p.rules.attributes) cs → AreOffers p a (map (λ c. record { contribution = c; node = k }) (filter (is_offered p a k) cs))
  some_offers a k [] all = tt
  some_offers a k (c ∷ cs) all =
      let rest = some_offers a k cs (All-tail (IsContribution p.grammar p.rules.attributes) c cs all) in
      let others = filter (is_offered p a k) cs in
      elim (is_offered p a k c) as (λ b. is_offered p a k c ≡ b → AreOffers p a (map (λ c. record { contribution = c; node = k }) (cond b (c ∷ others) others))) [
        | true ↦ λ e.
            let both = both_hold (eqb c.target.0 a) (is_of_class p c.class (Source k)) e in (
              record {
                allowed = All-head (IsContribution p.grammar p.rules.attributes) c cs all;
                attribute = eqb-true c.target.0 a both.0;
                stands = at_of p k c.class both.1;
              },
              rest,
            )
        | false ↦ λ e. rest
      ] refl

  over_nodes : (a : ℕ) (ks : List ℕ) → AreOffers p a (flat_map (offers_at p a) ks)
  over_nodes a [] = tt
  over_nodes a (k ∷ ks) = both_offers p a (offers_at p a k) (flat_map (offers_at p a) ks) (some_offers a k p.rules.contributions good.rules.contributions) (over_nodes a ks)

  -- and below a root
  pub are_offers : (a : ℕ) (o : Option ℕ) → AreOffers p a (offers_below p a o)
  are_offers a None = tt
  are_offers a (Some r) = over_nodes a (subtree p.tree r)

  module _ (U : Among) (M : Instance → Value → Type 0) (bounds : AreBounds p U M) where
    -- what a contribution names at a node of its class
    names_of_offer : (c : ClassId) (o : Offer) → IsAt p o.node c → AreNames p U (contribution_names p.grammar p.rules.attributes c) (offer_place o)
    names_of_offer c o stands = record {
      grammar = refl;
      attribute = λ a d e. e;
      node = λ k b e. absurd (cc);
      this = λ b e. let same : c ≡ b = cc in source_ref p U M bounds o.node b (subst (IsAt p o.node) same stands);
      variables = λ k t e. absurd (cc);
    }

    -- a value of a type, read at it where that leaves it
    read_there : (k : Kind) (v : Value) → as_kind k v ≡ v → IsOf p U (types.Of k) v → IsValueIn p U k v
    read_there k v same h = subst (IsValueIn p U k) same (value_read p U bounds.int_value bounds.text_value k v h)

    -- where nothing counts
    fresh_keeps : (m : Method) (k : Kind) → Combines m k → IsValueIn p U k (fresh m k)
    fresh_keeps _ _ texts_by_one = read_there kinds.Texts (default_of kinds.Texts) refl (default_keeps p U M bounds kinds.Texts)
    fresh_keeps _ _ (nodes_by_one c) = read_there (kinds.Nodes c) (default_of (kinds.Nodes c)) refl (default_keeps p U M bounds (kinds.Nodes c))
    fresh_keeps _ _ all_texts = read_there kinds.Texts (default_of kinds.Texts) refl (default_keeps p U M bounds kinds.Texts)
    fresh_keeps _ _ (all_nodes c) = read_there (kinds.Nodes c) (default_of (kinds.Nodes c)) refl (default_keeps p U M bounds (kinds.Nodes c))
    fresh_keeps _ _ sums = read_there kinds.Int (default_of kinds.Int) refl (default_keeps p U M bounds kinds.Int)
    fresh_keeps _ _ ors = (truth_value false, tt)
    fresh_keeps _ _ ands = (truth_value true, tt)

    -- the union with a set of a type that fits
    union_keeps : (k : Kind) → is_set (types.Of k) ≡ true → (u : ValueType) → fits p.grammar u k ≡ true → (v w : Value) → IsValueIn p U k v → IsOf p U u w → IsValueIn p U k (set_operate Union k v w)
    union_keeps k set u fit v w is h =
        subst (IsValueIn p U k) (operated_same Union k v w) (read_there k (set_operate Union k (as_kind k v) w) (made_same Union k (as_kind k v) w)
        (sets_keep p U Union (types.Of k) set (as_kind k v) w (of_value p U bounds.literal bounds.value_text k v is.0 is.1) (fitting p U k u fit w h)))

    -- and with one value more
    combine_keeps : (m : Method) (k : Kind) → Combines m k → (t : ValueType) → fits p.grammar t (contributed m k) ≡ true → (so_far v : Value) → IsValueIn p U k so_far → IsOf p U t v → IsValueIn p U k (combine m k so_far v)
    combine_keeps _ _ texts_by_one t e so_far v is h = let u = text_set p.grammar t e in union_keeps kinds.Texts refl u.0 u.2 so_far (single v) is (single_keeps p U t u.0 u.1 v h)
    combine_keeps _ _ (nodes_by_one c) t e so_far v is h = let u = node_set p.grammar c t e in union_keeps (kinds.Nodes c) refl u.0 u.2 so_far (single v) is (single_keeps p U t u.0 u.1 v h)
    combine_keeps _ _ all_texts t e so_far v is h = union_keeps kinds.Texts refl t e so_far v is h
    combine_keeps _ _ (all_nodes c) t e so_far v is h = union_keeps (kinds.Nodes c) refl t e so_far v is h
    combine_keeps _ _ sums t e so_far v is h = (int_value _ (bounds.int_value _ (bounds.wrapped _)), tt)
    combine_keeps _ _ ors t e so_far v is h = (truth_value _, tt)
    combine_keeps _ _ ands t e so_far v is h = (truth_value _, tt)

    -- one of two
    one_of : (P : Value → Type 0) (c d : Demands Instance Value) (b : Bool) → KeepsAll p U M P c → KeepsAll p U M P d → KeepsAll p U M P (cond b c d)
    one_of P c d true f g = f
    one_of P c d false f g = g

    -- what follows an expression of a contribution
    expression_keeps : (P : Value → Type 0) (o : Offer) (k : Kind) (e : Expression) (typed : Fits (contribution_names p.grammar p.rules.attributes o.contribution.class) k e) → IsAt p o.node o.contribution.class
        → (f : Value → Demands Instance Value) → ((v : Value) → IsOf p U typed.type v → KeepsAll p U M P (f v)) → KeepsAll p U M P (next (meaning_of (world_of p) e (offer_place o)) f)
    expression_keeps P o k e typed stands f h =
        all_behind p U M (IsOf p U typed.type) P (meaning_of (world_of p) e (offer_place o)) f (typed_keeps p U M bounds good typed.typed (offer_place o) (names_of_offer o.contribution.class o stands)) h

    -- what follows an offer
    offered_keeps : (P : Value → Type 0) (n : Reference) (o : Offer) (allowed : IsContribution p.grammar p.rules.attributes o.contribution) → IsAt p o.node o.contribution.class
        → (counts : Value → Demands Instance Value) (passed : Demands Instance Value) → ((v : Value) → IsOf p U allowed.value.type v → KeepsAll p U M P (counts v)) → KeepsAll p U M P passed
        → KeepsAll p U M P (offered (world_of p) n o counts passed)
    offered_keeps P n o allowed stands counts passed f g =
        let c = o.contribution in
        let own = next (meaning_of (world_of p) c.value (offer_place o)) counts in
        let received = next (meaning_of (world_of p) c.receiver (offer_place o)) (λ r. cond (same_reference (node r) n) own passed) in
        let value = expression_keeps P o _ c.value allowed.value stands counts f in
        let receiver = expression_keeps P o _ c.receiver allowed.receiver stands (λ r. cond (same_reference (node r) n) own passed) (λ r h. one_of P own passed (same_reference (node r) n) value g) in
        expression_keeps P o _ c.condition allowed.condition stands (λ b. cond (truth b) received passed) (λ b h. one_of P received passed (truth b) receiver g)

    -- what is offered to a collection comes to a value of its type
    gathered_keeps : (a : ℕ) (c : Collecting) (is : IsCollected a c) (e : collecting_at p.rules.attributes a ≡ Some c) (n : Reference) (so_far : Value) (os : List Offer) → AreOffers p a os → IsValueIn p U (attribute_kind p a) so_far
        → KeepsAll p U M (IsValueIn p U (attribute_kind p a)) (gathered (world_of p) c.method (attribute_kind p a) n so_far os)
    gathered_keeps a c is e n so_far [] are h = h
    gathered_keeps a c is e n so_far (o ∷ os) are h =
        let offer = are.0 in
        let k = attribute_kind p a in
        let collects : collecting_at p.rules.attributes a ≡ Some offer.allowed.collecting = ap (collecting_at p.rules.attributes) (sym offer.attribute) ∙ offer.allowed.collects in
        let declared : declared_of p a ≡ Some offer.allowed.attribute = ap (declared_of p) (sym offer.attribute) ∙ offer.allowed.declared in
        let method : offer.allowed.collecting ≡ c = cc in
        let attribute : offer.allowed.attribute ≡ is.attribute = (let f = is.declared in cc) in
        let kind : contributed offer.allowed.collecting.method offer.allowed.attribute.kind ≡ contributed c.method k = (λ i. contributed (method i).method ((ap (λ (x : Attr). x.kind) attribute ∙ sym is.kind) i)) in
        let fit = subst (λ (x : Kind). fits p.grammar offer.allowed.value.type x ≡ true) kind offer.allowed.value.fit in
        let combines = subst (Combines c.method) (sym is.kind) is.collection.combines in
        offered_keeps (IsValueIn p U k) n o offer.allowed offer.stands (λ v. gathered (world_of p) c.method k n (combine c.method k so_far v) os) (gathered (world_of p) c.method k n so_far os)
        (λ v g. gathered_keeps a c is e n (combine c.method k so_far v) os are.1 (combine_keeps c.method k combines offer.allowed.value.type fit so_far v h g))
        (gathered_keeps a c is e n so_far os are.1 h)

    -- each collection
    pub collection_keeps : (a : ℕ) (n : NodeName) (c : Collecting) → collecting_at p.rules.attributes a ≡ Some c → KeepsAll p U M (IsValueIn p U (attribute_kind p a)) (collection_demands (world_of p) (collection_at p a n c))
    collection_keeps a n c e =
        let is = collected a c e in
        gathered_keeps a c is e (At n) (fresh c.method (attribute_kind p a)) (collection_at p a n c).offers (are_offers a (root_for p c.root n)) (fresh_keeps c.method (attribute_kind p a) (subst (Combines c.method) (sym is.kind) is.collection.combines))
