-- Attributes with the numbers of their names.
use Rattle.std.proofs.Common.{◌≡◌, ◌==◌, ◌&&◌, ℕ, zero, suc, ◌+◌, ◌<◌, ◌≤◌, true, false, List, [], ◌∷◌, ◌++◌, Option, Some, None, Vec, All, length, map, position, take, get_or, slice_get, inl, inr, refl, ap, sym, subst, ◌∙◌, arith}
use Rattle.std.specs.declared.alloc.Global.{Global}
use Rattle.std.specs.Option.{option_and_then, option_map}
use Rattle.std.specs.Str.{bytes_eq}
use Rattle.std.proofs.Math.ListN.{length-append}
use Rattle.std.proofs.lemmas.Bool.{and_right, false_from_ne_true}
use Rattle.std.proofs.lemmas.Bool.Decides.{eqb_tells}
use Rattle.std.proofs.lemmas.List.{map_push, take_more}
use Rattle.std.proofs.lemmas.List.Elements.{All-head, All-push, All-tail, All-weaker}
use Rattle.std.proofs.lemmas.Option.{get_or_from_slice_get, slice_get-get_or, slice_get-map, slice_get_past, slice_get_within}
use Rattle.std.proofs.lemmas.Slice.Eq.{bytes_eq-Decides}
use Rattle.rag_io.specs.Pool.{ArePooled, number_of}
use Rattle.rag_io.proofs.Numbers.{number_at, text_at as text_of_number}
use Rattle.superclasses.specs.Superclasses.{is_sub}
use Rattle.ast_grammar.specs.declared.grammar.ClassId.{ClassId}
use Rattle.ast_grammar.proofs.Positions.{position-map, position_agree, position_none}
use Rattle.attr_rules.specs.declared.attributes.KeptAttr.{KeptAttr}
use Rattle.attr_rules.specs.declared.attributes.NamedAttr.{NamedAttr}
use Rattle.attr_rules.specs.declared.kinds.AttrId.{AttrId}
use Rattle.attr_rules.specs.KeptAttributes.{AreKept, Extends, attribute_in, attributes_in, seen_attribute, text_at, text_or_empty}
use Rattle.attr_rules.specs.RowsKept.{at_place, at_row}
use Rattle.attr_rules.specs.Rules.{Attribute, AttributeSet, attribute_named, first_inherited, first_of_name, is_inherited, number_of_attribute}

slice_get_front : {X : Type 0} (xs ys : List X) (n : ℕ) → n < length xs → slice_get (xs ++ ys) n ≡ slice_get xs n
slice_get_front [] ys n h = absurd (omega arith)
slice_get_front (x ∷ xs) ys zero h = refl
slice_get_front (x ∷ xs) ys (suc n) h = slice_get_front xs ys n (omega arith)

-- attributes whose names are among the first texts are the same by all
same_attributes : (first rest : List (List ℕ)) (kept : List KeptAttr) → All (λ (a : KeptAttr). a.name < length first) kept → attributes_in (first ++ rest) kept ≡ attributes_in first kept
same_attributes first rest [] within = refl
same_attributes first rest (a ∷ kept) within =
    let here : text_at (first ++ rest) a.name ≡ text_at first a.name = ap text_or_empty (slice_get_front first rest a.name (All-head (λ (b : KeptAttr). b.name < length first) a kept within)) in
    (λ i. record { name = here i; declared = a.declared; collecting = a.collecting } ∷ same_attributes first rest kept (All-tail (λ (b : KeptAttr). b.name < length first) a kept within) i)

-- the attributes so far
pub record SoFar (names : List (List ℕ)) (kept : List KeptAttr) (list : List NamedAttr) (i most : ℕ) : Type 0 where
  pub attributes : attributes_in names kept ≡ map seen_attribute (take i list)
  pub within : All (λ (a : KeptAttr). a.name < length names) kept
  pub few : length names ≤ most + i

-- one more
pub so_far_more : (names all : List (List ℕ)) (list : List NamedAttr) (i most : ℕ) (d : NamedAttr) (a : KeptAttr) {kept later : List KeptAttr} → i < length list → Extends names all → length all ≤ suc (length names)
    → slice_get all a.name ≡ Some (get_or list i d).name.now → a.declared ≡ (get_or list i d).declared → a.collecting ≡ (get_or list i d).collecting → later ≡ kept ++ a ∷ [] → SoFar names kept list i most → SoFar all later list (i + 1) most
so_far_more names all list i most d a {kept} {later} within extends one text declared collecting pushed before =
    let old : attributes_in all kept ≡ attributes_in names kept = ap (λ ts. attributes_in ts kept) extends.are ∙ same_attributes names extends.rest kept before.within in
    let long : length all ≡ length names + length extends.rest = ap length extends.are ∙ length-append names extends.rest in
    let new : attribute_in all a ≡ seen_attribute (get_or list i d) = (λ j. record { name = text_or_empty (text j); declared = declared j; collecting = collecting j }) in
    record {
      attributes =
          ap (attributes_in all) pushed ∙ map_push (attribute_in all) kept a ∙ ap (λ xs. xs ++ attribute_in all a ∷ []) (old ∙ before.attributes) ∙ ap (λ x. map seen_attribute (take i list) ++ x ∷ []) new
          ∙ sym (ap (map seen_attribute) (take_more list i d within) ∙ map_push seen_attribute (take i list) (get_or list i d));
      within = rw pushed (All-push (λ (b : KeptAttr). b.name < length all) kept a (All-weaker (λ (b : KeptAttr). b.name < length names) (λ (b : KeptAttr). b.name < length all) (λ b h. omega (arith, h, long)) kept before.within) (slice_get_within all a.name _ text));
      few = omega (arith, one, before.few);
    }

-- names by their numbers
module _ (names : List (List ℕ)) (pooled : ArePooled names) (name : List ℕ) where
  numbered : (n : ℕ) → n < length names → bytes_eq (text_at names n) name ≡ true → number_of names name ≡ Some n
  numbered n within same =
      let at : slice_get names n ≡ Some (get_or names n []) = slice_get-get_or names n [] within in
      let is : get_or names n [] ≡ name = sym (ap text_or_empty at) ∙ (bytes_eq-Decides (text_at names n) name).0 same in
      number_at name names n pooled.distinct (at ∙ ap Some is)

  -- no text is a name that has no number
  other_text : (n : ℕ) → n < length names → number_of names name ≡ None → bytes_eq (text_at names n) name ≡ false
  other_text n within none = false_from_ne_true _ (λ same. let some = numbered n within same in absurd cc)

  -- a text is a name where it has the name's number
  same_text : (n m : ℕ) → n < length names → number_of names name ≡ Some m → bytes_eq (text_at names n) name ≡ (n == m)
  same_text n m within some = elim (eqb_tells n m) [
    | inl t ↦
        let is : text_at names n ≡ name = ap text_or_empty (ap (slice_get names) t.1 ∙ text_of_number name names m some) in
        (bytes_eq-Decides (text_at names n) name).1 is ∙ sym t.0
    | inr t ↦ false_from_ne_true _ (λ same. let other = numbered n within same in let equal : n ≡ m = cc in t.1 equal) ∙ sym t.0
  ]

module _ (superclasses : List (Option ℕ)) (names : List (List ℕ)) (kept : List KeptAttr) (rows : List (Vec (Option AttrId) Global)) (inherited : List (Option AttrId)) (are : AreKept superclasses names kept rows inherited) (class : ClassId) (name : List ℕ) where
  -- the first attribute, by the texts of the names
  first_by_text : attribute_named superclasses (attributes_in names kept) class name ≡ position (λ a. is_sub superclasses class.0 a.declared.class.0 && bytes_eq (text_at names a.name) name) kept
  first_by_text = position-map (attribute_in names) (λ a. is_sub superclasses class.0 a.declared.class.0 && bytes_eq a.name name) kept

  none_named : number_of names name ≡ None → attribute_named superclasses (attributes_in names kept) class name ≡ None
  none_named none =
      first_by_text
      ∙ position_none (λ a. is_sub superclasses class.0 a.declared.class.0 && bytes_eq (text_at names a.name) name) kept (λ k d h.
      and_right (is_sub superclasses class.0 (get_or kept k d).declared.class.0) _ (other_text names are.numbered.pooled name (get_or kept k d).name (are.numbered.within k d h) none))

  found_named : (m : ℕ) → number_of names name ≡ Some m → class.0 < length superclasses → option_map number_of_attribute (at_row rows class.0 m) ≡ attribute_named superclasses (attributes_in names kept) class name
  found_named m some known =
      are.placed.each class.0 m known (slice_get_within names m name (text_of_number name names m some))
      ∙ sym (first_by_text ∙ position_agree (λ a. is_sub superclasses class.0 a.declared.class.0 && bytes_eq (text_at names a.name) name) (λ a. is_sub superclasses class.0 a.declared.class.0 && (a.name == m)) kept (λ k d h.
      ap (λ b. is_sub superclasses class.0 (get_or kept k d).declared.class.0 && b) (same_text names are.numbered.pooled name (get_or kept k d).name m (are.numbered.within k d h) some)))

  module _ (set : AttributeSet) (seen : record { superclasses = superclasses; attributes = attributes_in names kept } ≡ set) where
    pub unknown_name : {o : Option AttrId} → o ≡ None → number_of names name ≡ None → option_map number_of_attribute o ≡ attribute_named set.superclasses set.attributes class name
    unknown_name {o} is none = ap (option_map number_of_attribute) is ∙ sym (none_named none) ∙ ap (λ (a : AttributeSet). attribute_named a.superclasses a.attributes class name) seen

    pub known_name : (m : ℕ) {o : Option AttrId} → o ≡ at_row rows class.0 m → number_of names name ≡ Some m → class.0 < length set.superclasses → option_map number_of_attribute o ≡ attribute_named set.superclasses set.attributes class name
    known_name m {o} is some known =
        let inside : class.0 < length superclasses = omega (arith, ap (λ (a : AttributeSet). length a.superclasses) seen) in
        ap (option_map number_of_attribute) is ∙ found_named m some inside ∙ ap (λ (a : AttributeSet). attribute_named a.superclasses a.attributes class name) seen

-- the first inherited attribute of the name of a kept one
module _ (superclasses : List (Option ℕ)) (names : List (List ℕ)) (kept : List KeptAttr) (rows : List (Vec (Option AttrId) Global)) (inherited : List (Option AttrId)) (are : AreKept superclasses names kept rows inherited) where
  own_number : (n : ℕ) → n < length names → number_of names (text_at names n) ≡ Some n
  own_number n within = numbered names are.numbered.pooled (text_at names n) n within ((bytes_eq-Decides (text_at names n) (text_at names n)).1 refl)

  -- it is found by its number
  first_of_number : (n : ℕ) → n < length names → option_map number_of_attribute (at_place inherited n) ≡ first_inherited (attributes_in names kept) (text_at names n)
  first_of_number n within =
      are.firsts.each n within
      ∙ sym (position-map (attribute_in names) (λ a. is_inherited a.declared.sort && bytes_eq a.name (text_at names n)) kept
      ∙ position_agree (λ a. is_inherited a.declared.sort && bytes_eq (text_at names a.name) (text_at names n)) (λ a. is_inherited a.declared.sort && (a.name == n)) kept (λ k d h.
      ap (λ b. is_inherited (get_or kept k d).declared.sort && b) (same_text names are.numbered.pooled (text_at names n) (get_or kept k d).name n (are.numbered.within k d h) (own_number n within))))

  name_within : (a : ℕ) (d : KeptAttr) → slice_get kept a ≡ Some d → d.name < length names
  name_within a d here = subst (λ (x : KeptAttr). x.name < length names) (get_or_from_slice_get kept a d d here) (are.numbered.within a d (slice_get_within kept a d here))

  module _ (set : AttributeSet) (seen : record { superclasses = superclasses; attributes = attributes_in names kept } ≡ set) (a : ℕ) where
    -- what is kept of the attribute of this number, if there is one
    first_there : {x : Option KeptAttr} → slice_get kept a ≡ x → option_and_then (λ (y : Attribute). first_inherited (attributes_in names kept) y.name) (option_map (attribute_in names) x) ≡ first_of_name set.attributes a
    first_there {x} here =
        ap (option_and_then (λ (y : Attribute). first_inherited (attributes_in names kept) y.name)) (ap (option_map (attribute_in names)) (sym here) ∙ sym (slice_get-map (attribute_in names) kept a))
        ∙ ap (λ (s : AttributeSet). first_of_name s.attributes a) seen

    pub first_unknown : {o : Option AttrId} → o ≡ None → length kept ≤ a → option_map number_of_attribute o ≡ first_of_name set.attributes a
    first_unknown {o} is past = ap (option_map number_of_attribute) is ∙ first_there (slice_get_past kept a past)

    pub first_known : (d : KeptAttr) {o : Option AttrId} → slice_get kept a ≡ Some d → o ≡ at_place inherited d.name → option_map number_of_attribute o ≡ first_of_name set.attributes a
    first_known d {o} here is = ap (option_map number_of_attribute) is ∙ first_of_number d.name (name_within a d here) ∙ first_there here

  module _ (set : AttributeSet) (seen : record { superclasses = superclasses; attributes = attributes_in names kept } ≡ set) (name : List ℕ) where
    -- the first inherited attribute of a name, by its number, if it has one
    none_inherited : number_of names name ≡ None → first_inherited (attributes_in names kept) name ≡ None
    none_inherited none =
        position-map (attribute_in names) (λ a. is_inherited a.declared.sort && bytes_eq a.name name) kept
        ∙ position_none (λ a. is_inherited a.declared.sort && bytes_eq (text_at names a.name) name) kept (λ k d h.
        and_right (is_inherited (get_or kept k d).declared.sort) _ (other_text names are.numbered.pooled name (get_or kept k d).name (are.numbered.within k d h) none))

    pub unknown_inherited : {o : Option AttrId} → o ≡ None → number_of names name ≡ None → option_map number_of_attribute o ≡ first_inherited set.attributes name
    unknown_inherited {o} is none = ap (option_map number_of_attribute) is ∙ sym (none_inherited none) ∙ ap (λ (s : AttributeSet). first_inherited s.attributes name) seen

    pub known_inherited : (m : ℕ) {o : Option AttrId} → o ≡ at_place inherited m → number_of names name ≡ Some m → option_map number_of_attribute o ≡ first_inherited set.attributes name
    known_inherited m {o} is some =
        let there : slice_get names m ≡ Some name = text_of_number name names m some in
        ap (option_map number_of_attribute) is ∙ first_of_number m (slice_get_within names m name there) ∙ ap (first_inherited (attributes_in names kept)) (ap text_or_empty there)
        ∙ ap (λ (s : AttributeSet). first_inherited s.attributes name) seen
