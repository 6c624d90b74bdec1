-- Attributes of one name are of unrelated classes, and none has the name of an accessor, where their declarations break nothing.
use Rattle.std.proofs.Common.{◌≡◌, ℕ, ◌<◌, ◌&&◌, ◌||◌, true, false, List, [], Some, length, slice_get, take, zero-add, sym, ap, ◌∙◌, subst, bytes_eq}
use Rattle.std.proofs.lemmas.Bool.{and_from, or_right}
use Rattle.std.proofs.lemmas.Slice.Eq.{bytes_eq-Decides}
use Rattle.broken_rules.specs.Notes.{at}
use Rattle.broken_rules.specs.declared.rule.Rule.TheVariants.{J3}
use Rattle.broken_rules.proofs.Clean.{not_broken}
use Rattle.ast_grammar.specs.Grammar.{Class, class_named, is_sub}
use Rattle.attr_rules.specs.Accessors.{is_spelled}
use Rattle.attr_rules.specs.Rules.{Attribute}
use Rattle.attr_scope.specs.Classes.{class_or_first}
use Rattle.attr_scope.specs.Written.{Head}
use Rattle.attr_scope.proofs.ItemsFound.{before_fails, either_false, map_found, range_fails, same_place}
use Rattle.attr_heads.specs.Heads.{again_for, are_related, attribute_of, attributes_of, heads_broken, has_declaration, is_taken}
use Rattle.attr_heads.proofs.DeclaredClean.{declared_there, head_there}

module _ (g : List Class) (list : List Head) (none : heads_broken g list ≡ []) where
  -- an attribute is that of a declaration: none before is for a related class and of its name, and that is no accessor's
  record IsAlone (a : ℕ) (x : Attribute) : Type 0 where
    head : Head
    there : slice_get list a ≡ Some head
    declares : attribute_of g head ≡ x
    class : ℕ
    named : class_named g head.class.text ≡ Some class
    kept : x.declared.class.0 ≡ class
    alone : has_declaration g class head.signature.name.text (take a list) ≡ false
    free : is_taken g class head.signature.name.text ≡ false

  declared_alone : (a : ℕ) (x : Attribute) → slice_get (attributes_of g list) a ≡ Some x → IsAlone a x
  declared_alone a x there =
      let found = map_found (attribute_of g) list a x there in
      let class = declared_there g list a found.0 none found.1 in
      let name = found.0.signature.name in
      let again = ap (again_for g (take a list) name) (sym class.1) ∙ (head_there g list a found.0 none found.1).again in
      let clear = either_false (has_declaration g class.0 name.text (take a list)) (is_taken g class.0 name.text)
      (not_broken (has_declaration g class.0 name.text (take a list) || is_taken g class.0 name.text) (at name.place J3) again)
      in
      record {
        head = found.0;
        there = found.1;
        declares = found.2;
        class = class.0;
        named = class.1;
        kept = ap (λ (z : Attribute). z.declared.class.0) (sym found.2) ∙ ap (λ o. (class_or_first o).0) class.1;
        alone = clear.0;
        free = clear.1;
      }

  -- of two of one name for related classes the first isn't before the second
  none_before : (a b : ℕ) (x y : Attribute) → IsAlone a x → IsAlone b y → x.name ≡ y.name → (is_sub g x.declared.class.0 y.declared.class.0 || is_sub g y.declared.class.0 x.declared.class.0) ≡ true → a < b → ⊥
  none_before a b x y first second same related lt =
      let name = second.head.signature.name.text in
      let test = λ (h : Head). are_related g (class_named g h.class.text) second.class && bytes_eq h.signature.name.text name in
      let fails : test first.head ≡ false = before_fails test list a b first.head second.alone first.there lt in
      let relates : are_related g (class_named g first.head.class.text) second.class ≡ true =
      ap (λ o. are_related g o second.class) first.named ∙ (λ i. is_sub g (sym first.kept i) (sym second.kept i) || is_sub g (sym second.kept i) (sym first.kept i)) ∙ related
      in
      let names : first.head.signature.name.text ≡ name = ap (λ (z : Attribute). z.name) first.declares ∙ same ∙ ap (λ (z : Attribute). z.name) (sym second.declares) in
      let passes : test first.head ≡ true =
      and_from (are_related g (class_named g first.head.class.text) second.class) (bytes_eq first.head.signature.name.text name) relates ((bytes_eq-Decides first.head.signature.name.text name).1 names)
      in
      absurd (cc)

  -- two attributes of one name, of which one's class is the other's or below it, are one
  pub one_attribute : (a b : ℕ) (x y : Attribute) → slice_get (attributes_of g list) a ≡ Some x → slice_get (attributes_of g list) b ≡ Some y → x.name ≡ y.name → is_sub g x.declared.class.0 y.declared.class.0 ≡ true → a ≡ b
  one_attribute a b x y first second same below =
      let one = declared_alone a x first in
      let other = declared_alone b y second in
      same_place a b (none_before a b x y one other same (ap (λ t. t || is_sub g y.declared.class.0 x.declared.class.0) below))
      (none_before b a y x other one (sym same) (or_right (is_sub g y.declared.class.0 x.declared.class.0) (is_sub g x.declared.class.0 y.declared.class.0) below))

  -- an attribute's name isn't that of an accessor of a class that has it
  pub no_accessor : (a c : ℕ) (x : Attribute) → slice_get (attributes_of g list) a ≡ Some x → c < length g → is_sub g c x.declared.class.0 ≡ true → is_spelled g c x.name ≡ false
  no_accessor a c x there within below =
      let here = declared_alone a x there in
      let name = here.head.signature.name.text in
      let test = λ (d : ℕ). is_sub g d here.class && is_spelled g d name in
      let fails : test c ≡ false = subst (λ d. test d ≡ false) (zero-add c) (range_fails test 0 (length g) c here.free within) in
      ap (λ (z : Attribute). is_spelled g c z.name) (sym here.declares) ∙ ap (λ t. t && is_spelled g c name) (sym (subst (λ n. is_sub g c n ≡ true) here.kept below)) ∙ fails
