-- What a name means behind a receiver of a class, is what it spells or names.
use Rattle.std.proofs.Common.{◌≡◌, ◌↔◌, ℕ, zero, suc, ◌<◌, ◌≤◌, List, [], ◌∷◌, Bool, true, false, ◌&&◌, Option, Some, None, get_or, length, nat_lt, position, slice_get, if◌then◌else◌, refl, ap, sym, ◌∙◌, arith}
use Rattle.std.specs.Option.{option_map}
use Rattle.std.specs.Str.{bytes_eq}
use Rattle.std.proofs.lemmas.Bool.{and_parts, lt-ltb, ltb-true}
use Rattle.std.proofs.lemmas.List.Quantifiers.{position-Some}
use Rattle.std.proofs.lemmas.Option.{get_or_from_slice_get, slice_get-get_or}
use Rattle.std.proofs.lemmas.Slice.Eq.{bytes_eq-Decides}
use Rattle.superclasses.specs.Superclasses.{is_sub as is_below}
use Rattle.ast_grammar.specs.declared.grammar.ClassId.{ClassId}
use Rattle.ast_grammar.specs.Grammar.{IsGrammar, is_sub}
use Rattle.attr_rules.specs.declared.accessors.Accessor.{Accessor}
use Rattle.attr_rules.specs.declared.kinds.AttrId.{AttrId}
use Rattle.attr_rules.specs.Accessors.{accessor_of, arguments_of}
use Rattle.attr_rules.specs.Rules.{Attribute, attribute_named}
use Rattle.attr_scope.specs.declared.scope.Member.TheVariants as members
use Rattle.attr_scope.specs.Scope.{Scope, attribute_in, calls, either_member, member_of}
use Rattle.attr_scope.specs.ScopeKept.{IsScope}
use Rattle.typing_rules.specs.MemberRules.{IsMeant, IsNamed, Spells}
use Rattle.typing_rules.proofs.AccessorsSpelled.{accessor_meant, accessor_none}
use Rattle.typing_rules.proofs.NamesMean.{position_further, position_here}

no_place : (j : ℕ) → j < 0 → ⊥
no_place j lt = omega (arith, lt)

-- the first that passes
position_is : {X : Type 0} (p : X → Bool) (xs : List X) (i : ℕ) (x : X) → slice_get xs i ≡ Some x → p x ≡ true → ((j : ℕ) (y : X) → j < i → slice_get xs j ≡ Some y → p y ≡ false) → position p xs ≡ Some i
position_is p [] i x is passes none = absurd (cc)
position_is p (y ∷ ys) zero x is passes none = let same : y ≡ x = cc in position_here p y ys (ap p same ∙ passes)
position_is p (y ∷ ys) (suc i) x is passes none =
    position_further p y ys (none zero y (omega arith) refl) ∙ ap (option_map suc) (position_is p ys i x is passes (λ j z lt at_j. none (suc j) z (omega (arith, lt)) at_j))

not_true : (b : Bool) → (b ≡ true → ⊥) → b ≡ false
not_true true h = absurd (h refl)
not_true false h = refl

-- what a member is of
calls_by : (x : Option Accessor) (o : Option ℕ) (a : AttrId) → either_member x o ≡ Some (members.Calls a) → (x ≡ None) × (o ≡ Some a.0)
calls_by None None a e = absurd (cc)
calls_by None (Some k) a e = let same : calls k ≡ members.Calls a = cc in let number : (record { 0 = k }) ≡ a = cc in (refl, ap (λ (b : AttrId). Some b.0) number)
calls_by (Some x) o a e = absurd (cc)

reads_by : (y : Option Accessor) (o : Option ℕ) (x : Accessor) → either_member y o ≡ Some (members.Reads x) → y ≡ Some x
reads_by None None x e = absurd (cc)
reads_by None (Some k) x e = absurd (cc)
reads_by (Some y) o x e = cc

module _ (s : Scope) (is_scope : IsScope s) (c : ClassId) (name : List ℕ) where
  abbrev passes : Attribute → Bool
  passes a = is_below s.known.superclasses c.0 a.declared.class.0 && bytes_eq a.name name

  above_same : (a : Attribute) → is_below s.known.superclasses c.0 a.declared.class.0 ≡ is_sub s.grammar c.0 a.declared.class.0
  above_same a = ap (λ above. is_below above c.0 a.declared.class.0) is_scope.superclasses

  passes_if : (a : Attribute) → a.name ≡ name → is_sub s.grammar c.0 a.declared.class.0 ≡ true → passes a ≡ true
  passes_if a named has = λ i. (above_same a ∙ has) i && (bytes_eq-Decides a.name name).1 named i

  if_passes : (a : Attribute) → passes a ≡ true → (a.name ≡ name) × (is_sub s.grammar c.0 a.declared.class.0 ≡ true)
  if_passes a h =
      let parts = and_parts (is_below s.known.superclasses c.0 a.declared.class.0) (bytes_eq a.name name) h in
      ((bytes_eq-Decides a.name name).0 parts.1, sym (above_same a) ∙ parts.0)

  none_earlier : (a b : ℕ) (y : Attribute) → ((k : ℕ) → k < a → passes (get_or s.known.attributes k y) ≡ false) → slice_get s.known.attributes b ≡ Some y → passes y ≡ true → a ≤ b
  none_earlier a b y none at_b h =
      let later : b < a → ⊥ = λ lt. let never : true ≡ false = sym h ∙ ap passes (sym (get_or_from_slice_get s.known.attributes b y y at_b)) ∙ none b lt in cc in
      omega (arith, later)

  position_named : (a : ℕ) → c.0 < length s.grammar → position passes s.known.attributes ≡ Some a → IsNamed s c name a
  position_named a within e =
      let xs = s.known.attributes in
      elim xs as (λ ys. xs ≡ ys → IsNamed s c name a) [
        | [] ↦ λ is. absurd (let never : position passes [] ≡ Some a = ap (position passes) (sym is) ∙ e in cc)
        | y ∷ ys ↦ λ is.
            let at_a = position-Some passes xs a y e in
            let x = get_or xs a y in
            let h = if_passes x at_a.1 in
            record {
              attribute = x;
              within = within;
              found = slice_get-get_or xs a y at_a.0;
              named = h.0;
              has = h.1;
              first = λ b z at_b named has. none_earlier a b z (position-Some passes xs a z e).2 at_b (passes_if z named has);
            }
      ] refl

  named_position : (a : ℕ) → IsNamed s c name a → position passes s.known.attributes ≡ Some a
  named_position a n =
      position_is passes s.known.attributes a n.attribute n.found (passes_if n.attribute n.named n.has) (λ j y lt at_j.
      not_true (passes y) (λ h. let both = if_passes y h in let least = n.first j y at_j both.0 both.1 in omega (arith, least, lt)))

  in_named : (a : ℕ) (b : Bool) → nat_lt c.0 (length s.grammar) ≡ b → (if b then attribute_named s.known.superclasses s.known.attributes c name else None) ≡ Some a → IsNamed s c name a
  in_named a true is e = position_named a (ltb-true c.0 (length s.grammar) is) e
  in_named a false is e = absurd (cc)

  named_in : (a : ℕ) → IsNamed s c name a → attribute_in s name c ≡ Some a
  named_in a n = ap (λ b. if b then attribute_named s.known.superclasses s.known.attributes c name else None) (lt-ltb c.0 (length s.grammar) n.within) ∙ named_position a n

-- what a name means is an accessor
pub reads_meant : (s : Scope) (c : ClassId) (name : List ℕ) (n : ℕ) (x : Accessor) → IsGrammar s.grammar → ((member_of s name n c ≡ Some (members.Reads x)) × (length (arguments_of x.access) ≡ n)) ↔ IsMeant s.grammar c.0 name n x
reads_meant s c name n x is_grammar =
    let law = accessor_meant s.grammar c.0 n name x is_grammar in (
      (λ h. law.0 (reads_by (accessor_of s.grammar c.0 name n) (attribute_in s name c) x h.0, h.1)),
      (λ m. let there = law.1 m in (ap (λ o. either_member o (attribute_in s name c)) there.0, there.1)),
    )

-- or an attribute
pub calls_meant : (s : Scope) (c : ClassId) (name : List ℕ) (n : ℕ) (a : AttrId) → IsGrammar s.grammar → IsScope s → (member_of s name n c ≡ Some (members.Calls a)) ↔ (((x : Accessor) → Spells s.grammar c.0 name x → ⊥) × IsNamed s c name a.0)
calls_meant s c name n a is_grammar is_scope =
    let law = accessor_none s.grammar c.0 n name is_grammar in (
      (λ e. let both = calls_by (accessor_of s.grammar c.0 name n) (attribute_in s name c) a e in (law.0 both.0, in_named s is_scope c name a.0 (nat_lt c.0 (length s.grammar)) refl both.1)),
      (λ h. (λ i. either_member (law.1 h.0 i) (attribute_in s name c)) ∙ ap (option_map calls) (named_in s is_scope c name a.0 h.1)),
    )
