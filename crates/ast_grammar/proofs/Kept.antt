-- Grammars in memory, and as they are seen.
use Rattle.std.proofs.Common.{◌≡◌, ◌≢◌, ◌==◌, ℕ, ◌+◌, ◌<◌, ◌≤◌, Bool, true, false, List, [], ◌∷◌, Option, Some, None, All, length, map, position, get_or, slice_get, refl, ap, sym, subst, ◌∙◌, inl, inr, arith}
use Rattle.std.specs.Str.{bytes_eq}
use Rattle.std.specs.Option.{option_map}
use Rattle.std.proofs.lemmas.Bool.{eq-eqb, eqb-true, false_from_ne_true}
use Rattle.std.proofs.lemmas.Bool.Decides.{eqb_tells}
use Rattle.std.proofs.lemmas.List.{length-map, get_or_default}
use Rattle.std.proofs.lemmas.Option.{slice_get-map, slice_get-get_or, slice_get_read, get_or_from_slice_get}
use Rattle.std.proofs.lemmas.Slice.Eq.{bytes_eq-Decides}
use Rattle.rag_io.proofs.Numbers.{number_at, text_at}
use Rattle.rag_io.specs.Pool.{ArePooled, number_of}
use Rattle.ast_grammar.specs.declared.grammar.Component as kept_component
use Rattle.ast_grammar.specs.declared.grammar.KeptClass.{KeptClass}
use Rattle.ast_grammar.specs.Grammar.{Class, Component, IsGrammar, class_named, component_at, component_named, components_in, components_of, name_of_component, most_classes, most_components}
use Rattle.ast_grammar.specs.Kept.{AreNamed, IsKept, class_of, component_of, grammar_of, name_in}
use Rattle.ast_grammar.proofs.Allowed.{all_at, components_short}
use Rattle.ast_grammar.proofs.Positions.{position-map, position_agree, position_here, position_none}

-- this is the number that was found
abbrev is_number : Option ℕ → ℕ → Bool
is_number None n = false
is_number (Some m) n = n == m

module _ (names : List (List ℕ)) (pooled : ArePooled names) (name : List ℕ) where
  -- the name of a number is the name whose number it is
  numbered : (n : ℕ) → n < length names → bytes_eq (name_in names n) name ≡ true → number_of names name ≡ Some n
  numbered n within same =
      let is : name_in names n ≡ name = (bytes_eq-Decides (name_in names n) name).0 same in
      number_at name names n pooled.distinct (slice_get-get_or names n [] within ∙ ap Some is)

  not_found : (n : ℕ) → n < length names → number_of names name ≡ None → bytes_eq (name_in names n) name ≡ false
  not_found n within none = false_from_ne_true _ (λ same. let some = numbered n within same in absurd (cc))

  found : (n m : ℕ) → n < length names → number_of names name ≡ Some m → bytes_eq (name_in names n) name ≡ (n == m)
  found n m within some = elim (eqb_tells n m) [
    | inl t ↦
        let is : name_in names n ≡ name = ap (name_in names) t.1 ∙ get_or_from_slice_get names m name [] (text_at name names m some) in
        (bytes_eq-Decides (name_in names n) name).1 is ∙ sym t.0
    | inr t ↦ false_from_ne_true _ (λ same. let other = numbered n within same in let equal : n ≡ m = cc in t.1 equal) ∙ sym t.0
  ]

  named_if : (o : Option ℕ) (n : ℕ) → n < length names → number_of names name ≡ o → bytes_eq (name_in names n) name ≡ is_number o n
  named_if None n within is = not_found n within is
  named_if (Some m) n within is = found n m within is

module _ (names : List (List ℕ)) (superclasses : List (Option ℕ)) (classes : List KeptClass) (kept : IsKept names superclasses classes) where
  pub count : length (grammar_of names classes) ≡ length classes
  count = length-map classes (class_of names)

  pub few_kept : length classes ≤ most_classes
  few_kept = omega (arith, kept.allowed.few, count)

  number_kept : (k : ℕ) (d : KeptClass) → k < length classes → (get_or classes k d).name ≡ k + 1
  number_kept k d within = kept.numbered k (get_or classes k d) (slice_get-get_or classes k d within)

  -- the names of the classes, by their numbers
  class_at : (name : List ℕ) (o : Option ℕ) → number_of names name ≡ o → class_named (grammar_of names classes) name ≡ position (λ c. is_number o c.name) classes
  class_at name o is =
      let by_name : KeptClass → Bool = λ c. bytes_eq (name_in names c.name) name in
      position-map (class_of names) (λ c. bytes_eq c.name name) classes
      ∙ position_agree by_name (λ c. is_number o c.name) classes (λ k d within. named_if names kept.pooled name o (get_or classes k d).name (let at = number_kept k d within in let more : length classes < length names = kept.names_of_classes in omega arith) is)

  module _ (name : List ℕ) where
    -- a name that has no number
    pub class_unknown : number_of names name ≡ None → class_named (grammar_of names classes) name ≡ None
    class_unknown none = class_at name None none ∙ position_none (λ c. false) classes (λ k d within. refl)

    differs : (k m : ℕ) (d : KeptClass) → k < length classes → k + 1 ≢ m → ((get_or classes k d).name == m) ≡ false
    differs k m d within apart = false_from_ne_true _ (λ same. apart (sym (number_kept k d within) ∙ eqb-true (get_or classes k d).name m same))

    -- one whose number is none of a class
    pub class_outside : (m : ℕ) → number_of names name ≡ Some m → ((k : ℕ) → k < length classes → k + 1 ≢ m) → class_named (grammar_of names classes) name ≡ None
    class_outside m some outside = class_at name (Some m) some ∙ position_none (λ c. c.name == m) classes (λ k d within. differs k m d within (outside k within))

    pub class_found : (n m : ℕ) → number_of names name ≡ Some m → m ≡ n + 1 → n < length classes → class_named (grammar_of names classes) name ≡ Some n
    class_found n m some is within =
        class_at name (Some m) some
        ∙ position_here (λ c. c.name == m) classes n within (λ k d before. differs k m d (omega arith) (λ same. absurd (omega arith))) (λ d. eq-eqb (get_or classes n d).name m (number_kept n d within ∙ sym is))

  -- the class c is kept at the number n of the grammar g
  module _ {g : List Class} (n : ℕ) (c : KeptClass) (is : grammar_of names classes ≡ g) (known : n < length g) (here : c ≡ get_or classes n c) where
    pub within_kept : n < length classes
    within_kept = omega (arith, ap length is, count)

    pub there_kept : slice_get classes n ≡ Some c
    there_kept = slice_get_read classes (length classes) n c refl within_kept here

    pub class_kept : slice_get g n ≡ Some (class_of names c)
    class_kept = ap (λ (cs : List Class). slice_get cs n) (sym is) ∙ slice_get-map (class_of names) classes n ∙ ap (option_map (class_of names)) there_kept

    pub components_kept : components_of g n ≡ map (component_of names) c.components.items
    components_kept = ap components_in class_kept

    pub arity_kept : length (components_of g n) ≡ length c.components.items
    arity_kept = ap length components_kept ∙ length-map c.components.items (component_of names)

    -- the class has at most so many components
    pub short_kept : length c.components.items ≤ most_components
    short_kept = omega (arith, arity_kept, components_short n (subst IsGrammar is kept.allowed))

    pub name_kept : c.name < length names
    name_kept = omega (arith, within_kept, kept.names_of_classes, kept.numbered n c there_kept)

    pub names_kept : All (λ p. p.name < length names) c.components.items
    names_kept = (all_at (AreNamed names) classes n c kept.components there_kept).named

    -- the component at the place k
    module _ (k : ℕ) (p : kept_component.Component) (within : k < length (components_of g n)) (is_there : p ≡ get_or c.components.items k p) where
      pub place_kept : k < length c.components.items
      place_kept = omega (arith, arity_kept)

      pub component_kept : component_at g n k ≡ Some (component_of names p)
      component_kept =
          ap (λ (ps : List Component). slice_get ps k) components_kept ∙ slice_get-map (component_of names) c.components.items k
          ∙ ap (option_map (component_of names)) (slice_get_read c.components.items (length c.components.items) k p refl place_kept is_there)

      pub component_name_kept : p.name < length names
      component_name_kept = subst (λ (q : kept_component.Component). q.name < length names) (sym is_there) (names_kept k p place_kept)

      pub component_named_kept : (name : List ℕ) → slice_get names p.name ≡ Some name → option_map name_of_component (component_at g n k) ≡ Some name
      component_named_kept name text = ap (option_map name_of_component) component_kept ∙ ap Some (get_or_from_slice_get names p.name name [] text)

    by_number : (name : List ℕ) (o : Option ℕ) → number_of names name ≡ o → component_named g n name ≡ position (λ p. is_number o p.name) c.components.items
    by_number name o number =
        let by_name : kept_component.Component → Bool = λ p. bytes_eq (name_in names p.name) name in
        ap (position (λ p. bytes_eq p.name name)) components_kept ∙ position-map (component_of names) (λ p. bytes_eq p.name name) c.components.items
        ∙ position_agree by_name (λ p. is_number o p.name) c.components.items (λ k d within. named_if names kept.pooled name o (get_or c.components.items k d).name (names_kept k d within) number)

-- a component by the number of its name: none has a name without a number
pub component_unknown : (names : List (List ℕ)) (superclasses : List (Option ℕ)) (classes : List KeptClass) {g : List Class} (n : ℕ) (name : List ℕ)
    → IsKept names superclasses classes → grammar_of names classes ≡ g → n < length g → number_of names name ≡ None → component_named g n name ≡ None
component_unknown names superclasses [] n name kept is known none = absurd (let none : length (grammar_of names []) ≡ length _ = ap length is in omega arith)
component_unknown names superclasses (d ∷ classes) n name kept is known none =
    let c = get_or (d ∷ classes) n d in
    by_number names superclasses (d ∷ classes) kept n c is known (get_or_default (d ∷ classes) n d c (omega (arith, ap length is, count names superclasses (d ∷ classes) kept))) name None none
    ∙ position_none (λ p. false) c.components.items (λ k d within. refl)

pub component_found : (names : List (List ℕ)) (superclasses : List (Option ℕ)) (classes : List KeptClass) {g : List Class} (n : ℕ) (name : List ℕ) (c : KeptClass) (m : ℕ) {held : List kept_component.Component} {found : Option ℕ}
    → IsKept names superclasses classes → grammar_of names classes ≡ g → n < length g → c ≡ get_or classes n c → number_of names name ≡ Some m → held ≡ c.components.items
    → found ≡ position (λ p. p.name == m) held → found ≡ component_named g n name
component_found names superclasses classes n name c m kept is known here some same found =
    found ∙ ap (position (λ p. p.name == m)) same ∙ sym (by_number names superclasses classes kept n c is known here name (Some m) some)
