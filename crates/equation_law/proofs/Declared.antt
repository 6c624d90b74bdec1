-- In a program that breaks no rule an instance is circular where its attribute is declared so.
use Rattle.std.proofs.Common.{◌≡◌, ℕ, Bool, true, false, ◌&&◌, cond, List, Option, Some, None, slice_get, refl, sym, ap, subst, ◌∙◌}
use Rattle.std.specs.Option.{option_and_then, option_map}
use Rattle.ast_grammar.specs.declared.grammar.ClassId.{ClassId}
use Rattle.attr_rules.specs.declared.kinds.Attr.{Attr}
use Rattle.attr_rules.specs.declared.kinds.Kind.{Kind}
use Rattle.attr_rules.specs.declared.kinds.Sort.{Sort}
use Rattle.attr_rules.specs.declared.kinds.Sort.TheVariants.{Syn, Inh, Nta, Coll}
use Rattle.attr_rules.specs.declared.kinds.Start.{Start}
use Rattle.attr_rules.specs.Rising.{rises}
use Rattle.attr_rules.specs.Rules.{Attribute as DeclaredAttribute, Equation, IsAttribute, IsEquation, IsStart, Rises, circular_at, collecting_at, declared_at, declares_circular, has_own_equations, is_collection, is_inherited, may_be_circular, nodes, texts, truths}
use Rattle.attr_rules.specs.Typing.{IsConcrete}
use Rattle.attr_rules.proofs.Permitted.{rising_test}
use Rattle.equation_law.specs.Checked.{IsInstance, IsNodeAt, IsProgram, of_attribute, of_query}
use Rattle.equation_law.specs.Equations.{Site, attribute_kind, collection_at, collection_of, equation_of, equation_rises, equations_of, inherited_site, inherits, is_declared, is_ordered, kind_in, kind_or_truth, site_at, site_of, site_rises, synthesized_site}
use Rattle.equation_law.specs.Names.{Argument, At, Attribute, Instance, NodeName, Reference, made_by}
use Rattle.equation_law.specs.Program.{Program, declared_of, equation_for}
use Rattle.equation_law.proofs.Above.{each_of, there_is}
use Rattle.equation_law.proofs.Collected.{collected}
use Rattle.equation_law.proofs.Created.{equation_is, node_class}
use Rattle.equation_law.proofs.Demanded.{own_equations}
use Rattle.equation_law.proofs.Inherited.{inherited_above, inherited_there}
use Rattle.equation_law.proofs.Lists.{some_of}
use Rattle.equation_law.proofs.Sites.{rises_as_site, site_equation}

-- a type at which the rounds of a circular attribute may start has an order
start_ordered : (k : Kind) (s : Start) → IsStart k s → is_ordered k ≡ true
start_ordered _ _ truths = refl
start_ordered _ _ texts = refl
start_ordered _ _ (nodes c) = refl

-- an attribute that may be circular is no collection
circular_sort : (s : Sort) → may_be_circular s ≡ true → is_collection s ≡ false
circular_sort Syn e = refl
circular_sort Inh e = refl
circular_sort Nta e = cc
circular_sort Coll e = cc

module _ (p : Program) (good : IsProgram p) where
  -- the attributes that are declared circular
  abbrev Circular : ℕ → Bool
  Circular = circular_at p.rules.attributes

  -- what is declared of an attribute holds of it
  allowed_attribute : (a : ℕ) (d : Attr) → declared_of p a ≡ Some d → d.circular ≡ true → is_ordered d.kind ≡ true
  allowed_attribute a d e c =
      let s = some_of (λ (x : DeclaredAttribute). x.declared) (slice_get p.rules.attributes a) d e in
      let allowed = each_of (IsAttribute p.grammar) p.rules.attributes a s.0 good.rules.attributes s.1 in
      let start = (allowed.circular (ap (λ (x : Attr). x.circular) s.2 ∙ c)).1 in
      subst (λ (x : Attr). is_ordered x.kind ≡ true) s.2 (start_ordered s.0.declared.kind s.0.declared.start start)

  -- an equation of the rules whose attribute is circular rises
  body_rises : (q : Equation) (allowed : IsEquation p.grammar p.rules.attributes q) → Rises p.rules.attributes q → allowed.attribute.circular ≡ true → rises Circular q.body ≡ true
  body_rises q allowed up c = rising_test Circular (up (ap declares_circular allowed.declared ∙ c))

  module _ (a : ℕ) (n : NodeName) (xs : List Argument) (d : Attr) (e : declared_of p a ≡ Some d) (stands : IsNodeAt p n d.class) (circular : d.circular ≡ true) where
    -- the root of what it would make
    abbrev root : Reference
    root = made_by (Attribute a (At n) xs) 0

    synthesized_rises : has_own_equations d.sort ≡ true → site_rises Circular (synthesized_site p a n xs) ≡ true
    synthesized_rises s =
        let class = node_class p good n stands.there in
        let one : class.0 ≡ stands.class = let f = class.1 in let g = stands.of in cc in
        let q = equation_is p good a stands.class d (subst (λ (c : ClassId). IsConcrete p.grammar c.0) one class.2) e s stands.below in
        let there : synthesized_site p a n xs ≡ Some (site_at p a n xs q.equation) =
        ap (λ (o : Option ClassId). option_map (site_at p a n xs) (option_and_then (equation_for p a) o)) stands.of ∙ ap (λ (o : Option Equation). option_map (site_at p a n xs) o) q.is
        in
        let declared : declared_of p a ≡ Some q.allowed.attribute = ap (declared_at p.rules.attributes) (sym q.attribute) ∙ q.allowed.declared in
        let same : d ≡ q.allowed.attribute = cc in
        ap (site_rises Circular) there ∙ body_rises q.equation q.allowed q.rises (ap (λ (x : Attr). x.circular) (sym same) ∙ circular)

    inherited_rises : is_inherited d.sort ≡ true → site_rises Circular (inherited_site p a xs root n) ≡ true
    inherited_rises s =
        let site = there_is (inherited_site p a xs root n) (inherited_there p good a xs root n stands.class d stands.there stands.of e s stands.below) in
        let up = inherited_above p good a xs root n stands.there site.0 site.1 in
        let q = up.found in
        let allowed = each_of (IsEquation p.grammar p.rules.attributes) p.rules.equations up.number q.equation good.rules.equations q.is in
        let first : declared_of p q.first ≡ Some allowed.attribute = ap (declared_at p.rules.attributes) (sym q.attribute) ∙ allowed.declared in
        let alike = good.rules.alike a q.first d allowed.attribute e s q.named first in
        ap (site_rises Circular) site.1 ∙ ap (λ (x : Site). rises Circular x.body) (sym up.is) ∙ body_rises q.equation allowed (each_of (Rises p.rules.attributes) p.rules.equations up.number q.equation good.rising q.is) (sym alike.2 ∙ circular)

    attribute_rises : is_collection d.sort ≡ false → site_rises Circular (site_of p (Attribute a (At n) xs)) ≡ true
    attribute_rises r =
        subst (λ (o : Option Attr). site_rises Circular (cond (inherits o) (inherited_site p a xs root n) (synthesized_site p a n xs)) ≡ true) (sym e)
        (elim (is_inherited d.sort) as (λ x. is_inherited d.sort ≡ x → site_rises Circular (cond x (inherited_site p a xs root n) (synthesized_site p a n xs)) ≡ true) [
          | true ↦ λ s. inherited_rises s
          | false ↦ λ s. synthesized_rises (own_equations d.sort s r)
        ] refl)

  -- a circular attribute is no collection
  never_collected : (a : ℕ) (d : Attr) → declared_of p a ≡ Some d → d.circular ≡ true → is_collection d.sort ≡ false
  never_collected a d e c =
      let s = some_of (λ (x : DeclaredAttribute). x.declared) (slice_get p.rules.attributes a) d e in
      let allowed = each_of (IsAttribute p.grammar) p.rules.attributes a s.0 good.rules.attributes s.1 in
      subst (λ (x : Attr). is_collection x.sort ≡ false) s.2 (circular_sort s.0.declared.sort (allowed.circular (ap (λ (x : Attr). x.circular) s.2 ∙ c)).0)

  no_collection : (a : ℕ) (n : NodeName) (xs : List Argument) (d : Attr) → declared_of p a ≡ Some d → d.circular ≡ true → collection_of p (Attribute a (At n) xs) ≡ None
  no_collection a n xs d e c =
      elim (collecting_at p.rules.attributes a) as (λ o. collecting_at p.rules.attributes a ≡ o → option_map (collection_at p a n) o ≡ None) [
        | None ↦ λ none. refl
        | Some m ↦ λ is.
            let t = collected p good a m is in
            let same = t.declared in
            let one : t.attribute ≡ d = cc in
            let sort : is_collection d.sort ≡ true = ap (λ (x : Attr). is_collection x.sort) (sym one) ∙ t.collection.collection in
            let never = never_collected a d e c in
            absurd (cc)
      ] refl

  declared_rises : (i : Instance) → IsInstance p i → is_declared p i ≡ true → (is_ordered (kind_in p i) && equation_rises Circular (equation_of p i)) ≡ true
  declared_rises _ (of_attribute {a = a} {n = n} {xs = xs} d e stands q) h =
      let circular : d.circular ≡ true = ap declares_circular (sym e) ∙ h in
      let ordered : is_ordered (attribute_kind p a) ≡ true = ap (λ (o : Option Attr). is_ordered (kind_or_truth (option_map (λ x. x.kind) o))) e ∙ allowed_attribute a d e circular in
      let i = Attribute a (At n) xs in
      let rising : equation_rises Circular (equation_of p i) ≡ true =
      ap (equation_rises Circular) (site_equation p i (no_collection a n xs d e circular)) ∙ rises_as_site Circular (site_of p i) ∙ attribute_rises a n xs d e stands circular (never_collected a d e circular)
      in
      ap (λ x. x && equation_rises Circular (equation_of p i)) ordered ∙ rising
  declared_rises _ (of_query e o) h = cc

  pub as_declared : (i : Instance) → IsInstance p i → (equations_of p).circular i ≡ is_declared p i
  unfolding equations_of
  as_declared i h =
      let both = is_ordered (kind_in p i) && equation_rises Circular (equation_of p i) in
      elim (is_declared p i) as (λ b. is_declared p i ≡ b → (b && both) ≡ b) [
        | true ↦ λ c. declared_rises i h c
        | false ↦ λ c. refl
      ] refl
