-- Attributes that are found by their names.
use Rattle.std.proofs.Common.{◌≡◌, ℕ, List, ◌&&◌, true, Some, ap}
use Rattle.std.specs.Option.{option_map}
use Rattle.std.specs.Str.{bytes_eq}
use Rattle.std.proofs.lemmas.Bool.{and_parts}
use Rattle.superclasses.specs.Superclasses.{is_sub as is_below}
use Rattle.ast_grammar.specs.declared.grammar.ClassId.{ClassId}
use Rattle.ast_grammar.specs.Grammar.{Class, is_sub, superclasses_of}
use Rattle.attr_rules.specs.declared.kinds.Attr.{Attr}
use Rattle.attr_rules.specs.Rules.{Attribute, attribute_named, declared_at, declared_of}
use Rattle.attr_scope.proofs.ItemsFound.{position_found}

-- A class has the attribute of a number.
pub record HasAttribute (g : List Class) (attributes : List Attribute) (c a : ℕ) : Type 0 where
  pub attribute : Attr
  pub declared : declared_at attributes a ≡ Some attribute
  pub has : is_sub g c attribute.class.0 ≡ true

module _ (g : List Class) (attributes : List Attribute) where
  -- what is found by name is an attribute of the class
  pub named_has : (c : ClassId) (name : List ℕ) (a : ℕ) → attribute_named (superclasses_of g) attributes c name ≡ Some a → HasAttribute g attributes c.0 a
  named_has c name a e =
      let found = position_found (λ (x : Attribute). is_below (superclasses_of g) c.0 x.declared.class.0 && bytes_eq x.name name) attributes a e in
      record {
        attribute = found.0.declared;
        declared = ap (option_map declared_of) found.1;
        has = (and_parts (is_sub g c.0 found.0.declared.class.0) (bytes_eq found.0.name name) found.2).0;
      }
