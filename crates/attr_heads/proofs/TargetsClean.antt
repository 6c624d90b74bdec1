-- What holds of equations whose heads break nothing.
use Rattle.std.proofs.Common.{◌≡◌, ℕ, ◌<◌, List, [], ◌++◌, ◌&&◌, true, false, Option, Some, None, is_none, All, bytes_eq, codes, length, slice_get, take, if◌then◌else◌, refl, ap, sym, ◌∙◌, subst, arith}
use Rattle.std.specs.Option.{option_and_then, option_map, option_or}
use Rattle.std.proofs.lemmas.Bool.{and_parts}
use Rattle.std.proofs.lemmas.Option.{slice_get_within}
use Rattle.std.proofs.lemmas.Slice.Eq.{bytes_eq-Decides}
use Rattle.broken_rules.specs.Notes.{at}
use Rattle.broken_rules.specs.declared.rule.Rule.TheVariants.{J5, J6, J15}
use Rattle.broken_rules.proofs.Clean.{append_none, not_broken}
use Rattle.ast_grammar.proofs.Inherited.{length-superclasses_of}
use Rattle.ast_grammar.specs.Grammar.{Class, Component, component_at, component_named, is_sub, superclasses_of}
use Rattle.attr_rules.specs.Accessors.{behind}
use Rattle.attr_rules.specs.Dispatching.{IsTarget}
use Rattle.attr_rules.specs.declared.dispatch.Reach.{Reach}
use Rattle.attr_rules.specs.declared.dispatch.Reach.TheVariants.{Own, Component as AtComponent, Created as AtCreated, Children}
use Rattle.attr_rules.specs.declared.dispatch.Target.{Target}
use Rattle.attr_rules.specs.declared.kinds.Attr.{Attr}
use Rattle.attr_rules.specs.Rules.{Attribute, GivesValue, at_component, attribute_named, declared_at, declared_of, first_inherited, first_of_name, is_for_nodes, is_higher_order, is_inherited}
use Rattle.aspect_items.specs.Expressions.{Name}
use Rattle.aspect_items.specs.Items.{Signature}
use Rattle.attr_scope.specs.Classes.{class_broken}
use Rattle.attr_heads.specs.Created.{created_attribute, if_higher_order, declares_higher_order}
use Rattle.attr_heads.specs.Parameters.{all_parameters_broken, differ, parameter_names, parameters_broken, path_parameters}
use Rattle.attr_heads.specs.Paths.{at_created, component_behind, if_for_nodes, node_component, node_component_named, path_broken, reach_broken, reach_named, reach_of}
use Rattle.attr_heads.specs.Targets.{attribute_for, attribute_given, class_of, differing_broken, differing_from, given_broken, if_own, is_given, is_own, lacking_broken, own_attribute, second_broken, target, target_by, target_given, target_of, target_or_first, targets_broken, targets_of, types_declared, unknown_broken}
use Rattle.attr_scope.specs.Written.{Given}
use Rattle.attr_scope.proofs.ClassesFound.{class_there, class_within}
use Rattle.attr_scope.proofs.ItemsFound.{after_found, all_found, map_found, position_found, some_from, some_there}
use Rattle.attr_heads.proofs.ParametersClean.{AreTyped, are_typed}
use Rattle.attr_scope.proofs.AttributesFound.{named_has}

-- A class has the higher-order attribute of a number.
pub record HasCreated (g : List Class) (attributes : List Attribute) (c b : ℕ) : Type 0 where
  pub attribute : Attr
  pub declared : declared_at attributes b ≡ Some attribute
  pub higher_order : is_higher_order attribute.sort ≡ true
  pub has : is_sub g c attribute.class.0 ≡ true

-- Nodes of the class have what a path leads to.
abbrev pub IsReached : List Class → List Attribute → ℕ → Reach → Type 0
IsReached g attributes c Own = Unit {0}
IsReached g attributes c (AtComponent k) = (x : Component) × (component_at g c k.0 ≡ Some x) × (is_for_nodes x.shape ≡ true)
IsReached g attributes c (AtCreated b) = HasCreated g attributes c b.0
IsReached g attributes c Children = Unit {0}

-- A path leads to the first inherited attribute of a name.
abbrev pub IsFirst : List Attribute → Reach → ℕ → Type 0
IsFirst attributes Own a = Unit {0}
IsFirst attributes (AtComponent k) a = first_of_name attributes a ≡ Some a
IsFirst attributes (AtCreated b) a = first_of_name attributes a ≡ Some a
IsFirst attributes Children a = first_of_name attributes a ≡ Some a

-- A target is that of an attribute to which an equation of a class of the grammar gives a value.
pub record IsFound (g : List Class) (attributes : List Attribute) (t : Target) : Type 0 where
  pub within : t.class.0 < length g
  pub attribute : Attr
  pub declared : declared_at attributes t.attribute.0 ≡ Some attribute
  pub gives : GivesValue g t.class t.reach attribute
  pub first : IsFirst attributes t.reach t.attribute.0
  pub reached : IsReached g attributes t.class.0 t.reach

-- The parameters of an equation are of known types, and are those of its attribute.
pub record HasParameters (g : List Class) (s : Signature) (d : Attr) : Type 0 where
  pub typed : AreTyped g s.parameters
  pub same : differ g (types_declared d) s.parameters ≡ false

and_then_from : {X Y : Type 0} (f : X → Option Y) (o : Option X) (y : Y) → option_and_then f o ≡ Some y → (x : X) × (o ≡ Some x) × (f x ≡ Some y)
and_then_from f None y e = absurd (cc)
and_then_from f (Some x) y e = (x, refl, e)

-- a reach that a path has
abbrev IsPath : Reach → Type 0
IsPath Own = ⊥
IsPath (AtComponent k) = Unit {0}
IsPath (AtCreated b) = Unit {0}
IsPath Children = Unit {0}

module _ (g : List Class) (attributes : List Attribute) (c : ℕ) where
  -- a reach that a path has, and that nodes of the class have
  abbrev IsWay : Reach → Type 0
  IsWay r = IsPath r × IsReached g attributes c r

  component_there : (k n : ℕ) → node_component g c n ≡ Some k → IsReached g attributes c (at_component k)
  component_there k n e =
      let at = and_then_from (if_for_nodes n) (component_at g c n) k e in
      let x = at.0 in
      elim (is_for_nodes x.shape) as (λ b. is_for_nodes x.shape ≡ b → (if b then Some n else None) ≡ Some k → IsReached g attributes c (at_component k)) [
        | true ↦ λ nodes same. (let here : n ≡ k = cc in subst (λ m. IsReached g attributes c (at_component m)) here (x, at.1, nodes))
        | false ↦ λ nodes same. absurd (cc)
      ] refl at.2

  behind_there : (name : List ℕ) (k : ℕ) → component_behind g c name ≡ Some k → IsWay (at_component k)
  behind_there name k e =
      let named = and_then_from (node_component_named g c) (behind (codes "get") name) k e in
      let number = and_then_from (node_component g c) (component_named g c named.0) k named.2 in
      (tt, component_there k number.0 number.2)

  higher_order_is : (o : Option Attr) (d : Attr) → o ≡ Some d → declares_higher_order o ≡ true → is_higher_order d.sort ≡ true
  higher_order_is o d is makes = ap declares_higher_order (sym is) ∙ makes

  created_there : (name : List ℕ) (b : ℕ) → created_attribute g attributes name c ≡ Some b → IsWay (at_created b)
  created_there name b e =
      let at = and_then_from (if_higher_order attributes) (attribute_named (superclasses_of g) attributes (record { 0 = c }) name) b e in
      let makes = declares_higher_order (declared_at attributes at.0) in
      elim makes as (λ t. makes ≡ t → (if t then Some at.0 else None) ≡ Some b → IsWay (at_created b)) [
        | true ↦ λ higher same. (
            let here : at.0 ≡ b = cc in
            let has = named_has g attributes (record { 0 = c }) name at.0 at.1 in
            subst (λ n. IsWay (at_created n)) here (
              tt,
              record {
                attribute = has.attribute;
                declared = has.declared;
                higher_order = higher_order_is (declared_at attributes at.0) has.attribute has.declared higher;
                has = has.has;
              },
            )
            )
        | false ↦ λ higher same. absurd (cc)
      ] refl at.2

  either_there : (name : List ℕ) (o : Option ℕ) (r : Reach) → component_behind g c name ≡ o
      → option_or (option_map at_component o) (option_map at_created (created_attribute g attributes name c)) ≡ Some r → IsWay r
  either_there name None r none e =
      let b = some_from at_created (created_attribute g attributes name c) r e in
      subst IsWay b.2 (created_there name b.0 b.1)
  either_there name (Some k) r some e =
      let same : at_component k ≡ r = cc in
      subst IsWay same (behind_there name k some)

  reach_there : (name : List ℕ) (r : Reach) → reach_named g attributes c name ≡ Some r → IsWay r
  reach_there name r e =
      let either = option_or (option_map at_component (component_behind g c name)) (option_map at_created (created_attribute g attributes name c)) in
      elim (bytes_eq name (codes "getChild")) as (λ b. (if b then Some Children else either) ≡ Some r → IsWay r) [
        | true ↦ λ h. (let same : Children ≡ r = cc in subst IsWay same (tt, tt))
        | false ↦ λ h. either_there name (component_behind g c name) r refl h
      ] e

  reach_known : (p : Signature) (o : Option Reach) → reach_broken g attributes c p o ≡ [] → (r : Reach) × (o ≡ Some r)
  reach_known p None e = absurd (cc)
  reach_known p (Some r) e = (r, refl)

  gives_path : (r : Reach) (d : Attr) → IsPath r → is_inherited d.sort ≡ true → GivesValue g (record { 0 = c }) r d
  gives_path Own d path inherited = absurd path
  gives_path (AtComponent k) d path inherited = inherited
  gives_path (AtCreated b) d path inherited = inherited
  gives_path Children d path inherited = inherited

first_path : (attributes : List Attribute) (r : Reach) (a : ℕ) → IsPath r → first_of_name attributes a ≡ Some a → IsFirst attributes r a
first_path attributes Own a path first = absurd path
first_path attributes (AtComponent k) a path first = first
first_path attributes (AtCreated b) a path first = first
first_path attributes Children a path first = first

module _ (g : List Class) (attributes : List Attribute) where
  own_found : (o : Option ℕ) (a : ℕ) → option_and_then (if_own attributes) o ≡ Some a → (o ≡ Some a) × (is_own (declared_at attributes a) ≡ true)
  own_found None a e = absurd (cc)
  own_found (Some b) a e =
      elim (is_own (declared_at attributes b)) as (λ t. is_own (declared_at attributes b) ≡ t → (if t then Some b else None) ≡ Some a → (Some b ≡ Some a) × (is_own (declared_at attributes a) ≡ true)) [
        | true ↦ λ h same. (let here : b ≡ a = cc in (same, subst (λ n. is_own (declared_at attributes n) ≡ true) here h))
        | false ↦ λ h same. absurd (cc)
      ] refl e

  -- an inherited attribute that is the first of its name
  record IsFirstNamed (a : ℕ) : Type 0 where
    attribute : Attr
    declared : declared_at attributes a ≡ Some attribute
    inherited : is_inherited attribute.sort ≡ true
    first : first_of_name attributes a ≡ Some a

  first_found : (name : List ℕ) (a : ℕ) → first_inherited attributes name ≡ Some a → IsFirstNamed a
  first_found name a e =
      let found = position_found (λ (x : Attribute). is_inherited x.declared.sort && bytes_eq x.name name) attributes a e in
      let parts = and_parts (is_inherited found.0.declared.sort) (bytes_eq found.0.name name) found.2 in
      record {
        attribute = found.0.declared;
        declared = ap (option_map declared_of) found.1;
        inherited = parts.0;
        first = ap (option_and_then (λ (x : Attribute). first_inherited attributes x.name)) found.1 ∙ ap (first_inherited attributes) ((bytes_eq-Decides found.0.name name).0 parts.1) ∙ e;
      }

  -- what an equation of a class is for, with a path or without
  found_by : (c : ℕ) (path : Option Signature) (n : Name) → c < length g → path_broken g attributes (Some c) path ≡ [] → lacking_broken g attributes path (Some c) n ≡ []
      → (t : Target) × (target_by (Some c) (reach_of g attributes (Some c) path) (attribute_for g attributes (Some c) path n.text) ≡ Some t) × IsFound g attributes t
  found_by c None n within way lacking =
      let own = some_there (own_attribute g attributes n.text c) (not_broken (is_none (own_attribute g attributes n.text c)) (at n.place J5) lacking) in
      let named = own_found (attribute_named (superclasses_of g) attributes (record { 0 = c }) n.text) own.0 own.1 in
      let has = named_has g attributes (record { 0 = c }) n.text own.0 named.0 in (
        target c Own own.0,
        ap (target_by (Some c) (Some Own)) own.1,
        record { within = within; attribute = has.attribute; declared = has.declared; gives = (has.has, ap is_own (sym has.declared) ∙ named.1); first = tt; reached = tt },
      )
  found_by c (Some p) n within way lacking =
      let reach = reach_known g attributes c p (reach_named g attributes c p.name.text) way in
      let there = reach_there g attributes c p.name.text reach.0 reach.1 in
      let attribute = some_there (first_inherited attributes n.text) (not_broken (is_none (first_inherited attributes n.text)) (at n.place J5) lacking) in
      let first = first_found n.text attribute.0 attribute.1 in (
        target c reach.0 attribute.0,
        (λ i. target_by (Some c) (reach.1 i) (attribute.1 i)),
        record {
          within = within;
          attribute = first.attribute;
          declared = first.declared;
          gives = gives_path g attributes c reach.0 first.attribute there.0 first.inherited;
          first = first_path attributes reach.0 attribute.0 there.0 first.first;
          reached = there.1;
        },
      )

  -- the rules on the head of an equation, each for itself
  record IsClean (e : Given) : Type 0 where
    class : class_broken g e.class ≡ []
    way : path_broken g attributes (class_of g e) e.path ≡ []
    parameters : parameters_broken g (parameter_names (path_parameters e.path)) e.attribute.parameters ≡ []
    lacking : lacking_broken g attributes e.path (class_of g e) e.attribute.name ≡ []
    differing : differing_broken g attributes e.attribute (attribute_given g attributes e) ≡ []

  given_parts : (before : List Given) (e : Given) → given_broken g attributes before e ≡ [] → IsClean e
  given_parts before e none =
      let unknown = (append_none (unknown_broken g attributes e) (second_broken g attributes before e.attribute.name (target_of g attributes e)) none).0 in
      let way = path_broken g attributes (class_of g e) e.path in
      let parameters = all_parameters_broken g e.path e.attribute in
      let lacking = lacking_broken g attributes e.path (class_of g e) e.attribute.name in
      let differing = differing_broken g attributes e.attribute (attribute_given g attributes e) in
      let named = append_none (class_broken g e.class) (way ++ (parameters ++ (lacking ++ differing))) unknown in
      let parts = append_none way (parameters ++ (lacking ++ differing)) named.1 in
      let rest = append_none parameters (lacking ++ differing) parts.1 in
      let last = append_none lacking differing rest.1 in
      let own = append_none (parameters_broken g [] (path_parameters e.path)) (parameters_broken g (parameter_names (path_parameters e.path)) e.attribute.parameters) rest.0 in
      record { class = named.0; way = parts.0; parameters = own.1; lacking = last.0; differing = last.1 }

  -- what an equation is for, of which this is known
  record IsFor (e : Given) : Type 0 where
    target : Target
    is : target_of g attributes e ≡ Some target
    found : IsFound g attributes target

  clean_target : (e : Given) → IsClean e → IsFor e
  clean_target e clean =
      let class = class_there g e.class clean.class in
      let found = found_by class.0 e.path e.attribute.name (class_within g e.class.text class.0 class.1) (ap (λ o. path_broken g attributes o e.path) (sym class.1) ∙ clean.way)
      (ap (λ o. lacking_broken g attributes e.path o e.attribute.name) (sym class.1) ∙ clean.lacking)
      in
      record { target = found.0; is = ap (λ o. target_by o (reach_of g attributes o e.path) (attribute_for g attributes o e.path e.attribute.name.text)) class.1 ∙ found.1; found = found.2 }

  target_there : (before : List Given) (e : Given) → given_broken g attributes before e ≡ [] → IsFound g attributes (target_given g attributes e)
  target_there before e none = let given = clean_target e (given_parts before e none) in subst (λ o. IsFound g attributes (target_or_first o)) (sym given.is) given.found

  -- the attribute of what an equation is for
  attribute_by : (c : Option ℕ) (r : Option Reach) (a : Option ℕ) (t : Target) → target_by c r a ≡ Some t → a ≡ Some t.attribute.0
  attribute_by None r a t e = absurd (cc)
  attribute_by (Some c) None a t e = absurd (cc)
  attribute_by (Some c) (Some r) None t e = absurd (cc)
  attribute_by (Some c) (Some r) (Some a) t e = let same : target c r a ≡ t = cc in ap (λ (u : Target). Some u.attribute.0) same

  parameters_there : (before : List Given) (e : Given) → given_broken g attributes before e ≡ [] → (d : Attr) → declared_at attributes (target_given g attributes e).attribute.0 ≡ Some d → HasParameters g e.attribute d
  parameters_there before e none d declared =
      let clean = given_parts before e none in
      let given = clean_target e clean in
      let is : target_given g attributes e ≡ given.target = ap target_or_first given.is in
      let attribute = attribute_by (class_of g e) (reach_of g attributes (class_of g e) e.path) (attribute_given g attributes e) given.target given.is in
      let there : option_and_then (declared_at attributes) (attribute_given g attributes e) ≡ Some d =
      ap (option_and_then (declared_at attributes)) attribute ∙ ap (λ (u : Target). declared_at attributes u.attribute.0) (sym is) ∙ declared
      in
      let none_differs : differing_from g e.attribute (Some d) ≡ [] = ap (differing_from g e.attribute) (sym there) ∙ clean.differing in
      record {
        typed = are_typed g (parameter_names (path_parameters e.path)) e.attribute.parameters clean.parameters;
        same = not_broken (differ g (types_declared d) e.attribute.parameters) (at e.attribute.name.place J15) none_differs;
      }

  -- what an equation is for is known, and no equation before is for the same
  pub given_once : (before : List Given) (e : Given) → given_broken g attributes before e ≡ [] → (target_of g attributes e ≡ Some (target_given g attributes e)) × (is_given g attributes (target_given g attributes e) before ≡ false)
  given_once before e none =
      let given = clean_target e (given_parts before e none) in
      let known : target_of g attributes e ≡ Some (target_given g attributes e) = given.is ∙ ap (λ o. Some (target_or_first o)) (sym given.is) in
      let second = (append_none (unknown_broken g attributes e) (second_broken g attributes before e.attribute.name (target_of g attributes e)) none).1 in
      (known, not_broken (is_given g attributes (target_given g attributes e) before) (at e.attribute.name.place J6) (ap (second_broken g attributes before e.attribute.name) (sym known) ∙ second))

  -- what an equation is for, is there
  pub given_target : (list : List Given) (i : ℕ) (e : Given) → targets_broken g attributes list ≡ [] → slice_get list i ≡ Some e → IsFound g attributes (target_given g attributes e)
  given_target list i e none is = target_there (take i list) e (after_found (given_broken g attributes) list i e none is)

  -- and its parameters are those of its attribute
  pub given_parameters : (list : List Given) (i : ℕ) (e : Given) (none : targets_broken g attributes list ≡ []) (is : slice_get list i ≡ Some e) → HasParameters g e.attribute (given_target list i e none is).attribute
  given_parameters list i e none is =
      let found = given_target list i e none is in
      parameters_there (take i list) e (after_found (given_broken g attributes) list i e none is) found.attribute found.declared

  target_within : (t : Target) → IsFound g attributes t → IsTarget (length (superclasses_of g)) (length attributes) t
  target_within t found = record {
    class = omega (arith, length-superclasses_of g, found.within);
    attribute =
        let at = some_from declared_of (slice_get attributes t.attribute.0) found.attribute found.declared in
        slice_get_within attributes t.attribute.0 at.0 at.1;
  }

  -- all are among the classes and the attributes
  pub targets_within : (list : List Given) → targets_broken g attributes list ≡ [] → All (IsTarget (length (superclasses_of g)) (length attributes)) (targets_of g attributes list)
  targets_within list none = all_found (IsTarget (length (superclasses_of g)) (length attributes)) (targets_of g attributes list) (λ i t is.
      let found = map_found (target_given g attributes) list i t is in
      subst (IsTarget (length (superclasses_of g)) (length attributes)) found.2 (target_within (target_given g attributes found.0) (given_target list i found.0 none found.1)))
