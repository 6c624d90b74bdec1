-- The names and shapes of what breaks nothing.
use Rattle.std.proofs.Common.{◌≡◌, ℕ, ◌<◌, List, [], ◌∷◌, ◌++◌, Bool, true, false, not, ◌||◌, All, length, map, position, reverse, slice_get, unwrap_or, Option, Some, None, refl, ap, ◌∙◌, codes, if◌then◌else◌, subst}
use Rattle.std.proofs.lemmas.List.{length-map}
use Rattle.std.proofs.lemmas.List.Elements.{All-append, All-map, All-nil}
use Rattle.std.proofs.lemmas.List.Quantifiers.{position-Some}
use Rattle.std.specs.List.{flat_map}
use Rattle.std.specs.Option.{is_some}
use Rattle.std.specs.Str.{bytes_eq}
use Rattle.rag_io.specs.Words.{is_one_of, is_reserved}
use Rattle.broken_rules.specs.Notes.{at}
use Rattle.broken_rules.specs.declared.rule.Rule.TheVariants.{G5, G8}
use Rattle.broken_rules.proofs.Clean.{append_none, flat_map_none, not_broken}
use Rattle.names.proofs.Numbering.{number_known}
use Rattle.ast_rules.specs.declared.written.Form.{Form}
use Rattle.ast_rules.specs.declared.written.Form.TheVariants as forms
use Rattle.ast_rules.specs.Members.{components_at, components_in}
use Rattle.ast_rules.specs.Naming.{component_broken, form_broken, is_class, kept_words, names_of, reserved_broken, superclass_broken, type_broken, type_of}
use Rattle.ast_rules.specs.Written.{Name, WrittenComponent, WrittenRule}
use Rattle.ast_grammar.specs.declared.grammar.Shape.TheVariants as shapes
use Rattle.ast_grammar.specs.Grammar.{HasShape, IsComponent, may_name}
use Rattle.ast_grammar.specs.Written.{class_called, class_for, component_written, inherited_first, shape_of, token_shape}
use Rattle.ast_grammar.proofs.Clean.{AreClean, superclasses_in}
use Rattle.superclasses.specs.Superclasses.{upwards}

All-flat_map : {X Y : Type 0} (P : Y → Type 0) (f : X → List Y) (xs : List X) → ((x : X) → All P (f x)) → All P (flat_map f xs)
All-flat_map P f [] h = All-nil P
All-flat_map P f (x ∷ xs) h = All-append P (f x) (flat_map f xs) (h x) (All-flat_map P f xs h)

-- a name that breaks nothing may stand
may_stand : (n : Name) → reserved_broken n ≡ [] → may_name n.text ≡ true
may_stand n none = ap not (not_broken (is_reserved n.text || is_one_of kept_words n.text) (at n.place G8) none)

not_so : (b : Bool) → not b ≡ false → b ≡ true
not_so true h = refl
not_so false h = cc

-- where one of the names passes, its number is below their count
below_if : (p : List ℕ → Bool) (names : List (List ℕ)) (o : Option ℕ) → position p names ≡ o → is_some o ≡ true → unwrap_or o 0 < length names
below_if p names None e some = cc
below_if p names (Some k) e some = (position-Some p names k [] e).0

module _ (rules : List WrittenRule) where
  known_below : (name : List ℕ) → is_class rules name ≡ true → (class_called rules name).0 < length rules
  known_below name known =
      let found : is_some (position (bytes_eq name) (names_of rules)) ≡ true = number_known (names_of rules) name ∙ known in
      subst (λ n. (class_called rules name).0 < n) (length-map rules (λ (r : WrittenRule). r.name.text)) (below_if (bytes_eq name) (names_of rules) (position (bytes_eq name) (names_of rules)) refl found)

  type_below : (n : Name) → type_broken (is_class rules) n ≡ [] → (class_called rules n.text).0 < length rules
  type_below n none = known_below n.text (not_so (is_class rules n.text) (not_broken (not (is_class rules n.text)) (at n.place G5) none))

  token_shaped : (int truth : Bool) → HasShape (length rules) (if int then shapes.Int else if truth then shapes.Truth else shapes.Text) (record { 0 = 0 })
  token_shaped true truth = refl
  token_shaped false true = refl
  token_shaped false false = refl

  token_typed : (type : Option Name) → HasShape (length rules) (token_shape type) (record { 0 = 0 })
  token_typed None = refl
  token_typed (Some type) = token_shaped (bytes_eq type.text (codes "int")) (bytes_eq type.text (codes "boolean"))

  shaped : (form : Form) (c : WrittenComponent) → form_broken (is_class rules) form c ≡ [] → HasShape (length rules) (shape_of form c.type_name) (class_for rules form c)
  shaped forms.Child c none = type_below (type_of c) none
  shaped forms.List c none = type_below (type_of c) none
  shaped forms.Optional c none = type_below (type_of c) none
  shaped forms.Token c none = token_typed c.type_name

  component_fits : (c : WrittenComponent) → component_broken (is_class rules) c ≡ [] → IsComponent (length rules) (component_written rules c)
  component_fits c none =
      let parts = append_none (form_broken (is_class rules) c.form c) (reserved_broken c.name) none in
      record { named = may_stand c.name parts.1; shaped = shaped c.form c parts.0 }

  module _ (clean : AreClean rules) where
    rule_parts : (i : ℕ) (rule : WrittenRule) → slice_get rules i ≡ Some rule → (reserved_broken rule.name ≡ []) × (flat_map (component_broken (is_class rules)) rule.components ≡ [])
    rule_parts i rule e =
        let rest = reserved_broken rule.name ++ flat_map (component_broken (is_class rules)) rule.components in
        append_none (reserved_broken rule.name) (flat_map (component_broken (is_class rules)) rule.components) (append_none (superclass_broken (is_class rules) rule.superclass) rest (clean.named i rule e)).1

    pub rule_may_stand : (i : ℕ) (rule : WrittenRule) → slice_get rules i ≡ Some rule → may_name rule.name.text ≡ true
    rule_may_stand i rule e = may_stand rule.name (rule_parts i rule e).0

    own_fit : (j : ℕ) (o : Option WrittenRule) → slice_get rules j ≡ o → All (λ c. IsComponent (length rules) (component_written rules c)) (components_in o)
    own_fit j None e = All-nil (λ c. IsComponent (length rules) (component_written rules c))
    own_fit j (Some rule) e = λ k d lt. component_fits _ (flat_map_none (component_broken (is_class rules)) rule.components k d (rule_parts j rule e).1 lt)

    -- each component of a class, inherited or its own
    pub components_fit : (i : ℕ) → All (IsComponent (length rules)) (map (component_written rules) (inherited_first rules i))
    components_fit i =
        All-map (IsComponent (length rules)) (component_written rules) (inherited_first rules i)
        (All-flat_map (λ c. IsComponent (length rules) (component_written rules c)) (components_at rules) (reverse (upwards (superclasses_in rules) i)) (λ j. own_fit j (slice_get rules j) refl))
