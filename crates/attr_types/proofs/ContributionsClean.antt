-- What holds of contributions that break nothing.
use Rattle.std.proofs.Common.{◌≡◌, ℕ, ◌<◌, length, List, [], ◌++◌, All, true, Option, Some, None, is_none, map, refl, ap, sym, ◌∙◌, subst, if◌then◌else◌}
use Rattle.std.specs.List.{flat_map}
use Rattle.std.specs.Option.{is_some, option_and_then, unwrap_or}
use Rattle.broken_rules.specs.Notes.{at}
use Rattle.broken_rules.specs.declared.rule.Rule.TheVariants.{J14}
use Rattle.broken_rules.proofs.Clean.{append_none, flat_map_found, not_broken}
use Rattle.superclasses.proofs.Lines.{sub_then}
use Rattle.ast_grammar.specs.declared.grammar.ClassId.{ClassId}
use Rattle.ast_grammar.specs.Grammar.{Class, class_named, is_sub, superclasses_of}
use Rattle.aspect_items.specs.Expressions.{Expr}
use Rattle.aspect_items.specs.Items.{Contribution as WrittenContribution, Item}
use Rattle.expr_typing.specs.declared.standing.Stands.TheVariants.{Anywhere}
use Rattle.expr_typing.specs.Fitting.{misfit}
use Rattle.expr_typing.specs.Typed.{body_of, known}
use Rattle.expr_typing.proofs.FormsTyped.{fitting}
use Rattle.expr_typing.proofs.MembersTyped.{names_in}
use Rattle.attr_bodies.specs.Bodies.{expr_broken, operand_broken}
use Rattle.attr_bodies.proofs.TypedClean.{typed}
use Rattle.attr_rules.specs.declared.kinds.Attr.{Attr}
use Rattle.attr_rules.specs.declared.kinds.Collecting.{Collecting}
use Rattle.attr_rules.specs.declared.kinds.Kind.{Kind}
use Rattle.attr_rules.specs.declared.kinds.Kind.TheVariants as kinds
use Rattle.attr_rules.specs.declared.types.ValueType.{ValueType}
use Rattle.attr_rules.specs.declared.types.ValueType.TheVariants as types
use Rattle.attr_rules.specs.Rules.{Attribute, IsContribution, IsOf, attribute_named, collecting_at, contributed, contribution_names, declared_at}
use Rattle.attr_rules.specs.Types.{fits}
use Rattle.attr_rules.specs.Typing.{truth}
use Rattle.attr_scope.specs.Scope.{Scope}
use Rattle.attr_scope.specs.Written.{contributions}
use Rattle.attr_scope.specs.WrittenTypes.{class_numbered}
use Rattle.attr_scope.specs.Classes.{class_broken, class_or_first}
use Rattle.attr_scope.proofs.AttributesFound.{named_has}
use Rattle.attr_scope.proofs.ClassesFound.{class_there, class_within}
use Rattle.attr_scope.proofs.ItemsFound.{all_found, map_found, some_there}
use Rattle.attr_heads.specs.Contributions.{aim_of, collection_named, collection_of, contribution_broken, contributions_broken, if_collection, no_collection_broken}
use Rattle.attr_types.specs.Phases.{condition_broken, condition_said, contributed_as, contribution_of, expressions_broken, kind_or_truth, scope_at, wanted_from}

-- what fits a class fits each one above it
fits_above : (g : List Class) (t : ValueType) (c d : ClassId) → is_sub g c.0 d.0 ≡ true → fits g t (kinds.Node c) ≡ true → fits g t (kinds.Node d) ≡ true
fits_above g types.Null c d below fit = refl
fits_above g types.Empty c d below fit = absurd (cc)
fits_above g (types.Of kinds.Truth) c d below fit = absurd (cc)
fits_above g (types.Of kinds.Int) c d below fit = absurd (cc)
fits_above g (types.Of kinds.Text) c d below fit = absurd (cc)
fits_above g (types.Of (kinds.Node b)) c d below fit = sub_then (superclasses_of g) b.0 c.0 d.0 fit below
fits_above g (types.Of kinds.Texts) c d below fit = absurd (cc)
fits_above g (types.Of (kinds.Nodes b)) c d below fit = absurd (cc)

module _ (g : List Class) (attributes : List Attribute) (class : ClassId) where
  abbrev here : Scope
  here = scope_at g attributes class

  -- an expression that breaks nothing and fits
  operand_there : (wanted : Kind) (e : Expr) → operand_broken here Anywhere wanted e ≡ [] → IsOf (contribution_names g attributes class) wanted (body_of here e)
  operand_there wanted e none =
      let parts = append_none (expr_broken here Anywhere e) (misfit g wanted (known here e) e) none in
      let body = typed here (record { superclasses = refl }) (record { known = λ k v is. absurd (cc) }) e Anywhere refl parts.0 in
      record { type = body.type; typed = body.typed; fit = fitting (names_in here) wanted (known here e) body.type e body.is parts.1 }

  condition_there : (o : Option Expr) → condition_broken here o ≡ [] → IsOf (contribution_names g attributes class) kinds.Truth (condition_said here o)
  condition_there None none = record { type = types.Of kinds.Truth; typed = truth true; fit = refl }
  condition_there (Some e) none = operand_there kinds.Truth e none

module _ (g : List Class) (attributes : List Attribute) where
  -- the collection that a class has by a name
  record IsCollectionOf (c a : ℕ) : Type 0 where
    attribute : Attr
    declared : declared_at attributes a ≡ Some attribute
    has : is_sub g c attribute.class.0 ≡ true
    collecting : Collecting
    collects : collecting_at attributes a ≡ Some collecting

  some_from_if : (o : Option Collecting) (b a : ℕ) → (if is_some o then Some b else None) ≡ Some a → (b ≡ a) × (x : Collecting) × (o ≡ Some x)
  some_from_if None b a e = absurd (cc)
  some_from_if (Some x) b a e = ((let same : b ≡ a = cc in same), x, refl)

  found_from : (c : ClassId) (name : List ℕ) (o : Option ℕ) (a : ℕ) → attribute_named (superclasses_of g) attributes c name ≡ o → option_and_then (if_collection attributes) o ≡ Some a → IsCollectionOf c.0 a
  found_from c name None a named e = absurd (cc)
  found_from c name (Some b) a named e =
      let parts = some_from_if (collecting_at attributes b) b a e in
      let has = named_has g attributes c name b named in
      subst (IsCollectionOf c.0) parts.0 (record { attribute = has.attribute; declared = has.declared; has = has.has; collecting = parts.1; collects = parts.2 })

  collection_there : (c : ℕ) (name : List ℕ) (a : ℕ) → collection_named g attributes name c ≡ Some a → IsCollectionOf c a
  collection_there c name a e = found_from (class_numbered c) name (attribute_named (superclasses_of g) attributes (class_numbered c) name) a refl e

  contribution_there : (c : WrittenContribution) → contribution_broken g attributes c ≡ [] → expressions_broken g attributes c ≡ [] → IsContribution g attributes (contribution_of g attributes c)
  contribution_there c none bodies =
      let lacking = no_collection_broken g attributes c.name (class_named g c.class.text) in
      let heads = append_none (class_broken g c.contributor) (class_broken g c.class ++ lacking) none in
      let targets = append_none (class_broken g c.class) lacking heads.1 in
      let contributor = class_there g c.contributor heads.0 in
      let class = class_there g c.class targets.0 in
      let nothing : no_collection_broken g attributes c.name (Some class.0) ≡ [] = ap (no_collection_broken g attributes c.name) (sym class.1) ∙ targets.1 in
      let named = some_there (collection_named g attributes c.name.text class.0) (not_broken (is_none (collection_named g attributes c.name.text class.0)) (at c.name.place J14) nothing) in
      let is_of : collection_of g attributes c ≡ Some named.0 = ap (option_and_then (collection_named g attributes c.name.text)) class.1 ∙ named.1 in
      let there = collection_there class.0 c.name.text named.0 named.1 in
      let aim = aim_of g attributes c in
      let scope = scope_at g attributes aim.contributor in
      let receiver_is : aim.receiver ≡ class_numbered class.0 = ap class_or_first class.1 in
      let number_is : aim.collection.0 ≡ named.0 = ap (λ o. unwrap_or o 0) is_of in
      let declared : declared_at attributes aim.collection.0 ≡ Some there.attribute = ap (declared_at attributes) number_is ∙ there.declared in
      let collects : collecting_at attributes aim.collection.0 ≡ Some there.collecting = ap (collecting_at attributes) number_is ∙ there.collects in
      let wants : wanted_from attributes aim.collection.0 ≡ contributed there.collecting.method there.attribute.kind = (λ i. contributed_as (collects i) (kind_or_truth (declared i))) in
      let value = operand_broken scope Anywhere (wanted_from attributes aim.collection.0) c.value in
      let rest = operand_broken scope Anywhere (kinds.Node aim.receiver) c.receiver ++ value in
      let first = append_none (condition_broken scope c.condition) rest bodies in
      let last = append_none (operand_broken scope Anywhere (kinds.Node aim.receiver) c.receiver) value first.1 in
      let receiver = operand_there g attributes aim.contributor (kinds.Node aim.receiver) c.receiver last.0 in
      let below : is_sub g aim.receiver.0 there.attribute.class.0 ≡ true = ap (λ (d : ClassId). is_sub g d.0 there.attribute.class.0) receiver_is ∙ there.has in
      record {
        within = subst (λ o. (class_or_first o).0 < length g) (sym contributor.1) (class_within g c.contributor.text contributor.0 contributor.1);
        attribute = there.attribute;
        declared = declared;
        collecting = there.collecting;
        collects = collects;
        condition = condition_there g attributes aim.contributor c.condition first.0;
        receiver = record { type = receiver.type; typed = receiver.typed; fit = fits_above g receiver.type aim.receiver there.attribute.class below receiver.fit };
        value = subst (λ k. IsOf (contribution_names g attributes aim.contributor) k (body_of scope c.value)) wants (operand_there g attributes aim.contributor (wanted_from attributes aim.collection.0) c.value last.1);
      }

  -- each contribution is well typed
  pub contributions_there : (items : List Item) → contributions_broken g attributes (contributions items) ≡ [] → flat_map (expressions_broken g attributes) (contributions items) ≡ []
      → All (IsContribution g attributes) (map (contribution_of g attributes) (contributions items))
  contributions_there items heads bodies = all_found (IsContribution g attributes) (map (contribution_of g attributes) (contributions items)) (λ i x is.
      let found = map_found (contribution_of g attributes) (contributions items) i x is in
      let c = found.0 in
      subst (IsContribution g attributes) found.2
      (contribution_there c (flat_map_found (contribution_broken g attributes) (contributions items) i c heads found.1)
      (flat_map_found (expressions_broken g attributes) (contributions items) i c bodies found.1)))
