-- What is kept of the classes of rules is the grammar that they write.
use Rattle.std.proofs.Common.{◌≡◌, ℕ, zero, suc, ◌+◌, ◌<◌, ◌≤◌, Bool, true, false, not, ◌&&◌, ◌||◌, List, [], ◌∷◌, ◌++◌, All, length, map, get_or, position, slice_get, Option, Some, None, reverse, refl, ap, sym, ◌∙◌, subst, arith, add-zero, zero-add, append_assoc, append-nil, length-append, if◌then◌else◌}
use Rattle.std.specs.List.{flat_map}
use Rattle.std.specs.Option.{is_some, unwrap_or}
use Rattle.std.specs.Str.{bytes_eq}
use Rattle.std.proofs.Math.Bool.{or-true}
use Rattle.std.proofs.lemmas.List.{length-map, map-append}
use Rattle.std.proofs.lemmas.List.Elements.{All-head, All-tail, All-map}
use Rattle.std.proofs.lemmas.List.Folds.{list_any-append}
use Rattle.std.proofs.lemmas.List.Quantifiers.{position-Some}
use Rattle.std.proofs.lemmas.Simd.{map-map}
use Rattle.std.proofs.lemmas.Option.{slice_get-get_or, slice_get_within, get_or_from_slice_get}
use Rattle.std.proofs.lemmas.Cmp.{nat_list_eq_equiv}
use Rattle.names.proofs.Numbering.{number_known}
use Rattle.names.proofs.Once.{among_once, once_distinct}
use Rattle.names.specs.Among.{is_among, with_name, with_names}
use Rattle.rag_io.proofs.Numbers.{text_at}
use Rattle.rag_io.specs.Distinct.{are_distinct}
use Rattle.rag_io.specs.Words.{IsWord}
use Rattle.superclasses.specs.Superclasses.{line_of, upwards}
use Rattle.ast_rules.specs.Members.{components_at, components_in, names_of_components}
use Rattle.ast_rules.specs.Naming.{names_of}
use Rattle.ast_rules.specs.Reading.{AreNamed as AreWords}
use Rattle.ast_rules.specs.Superclasses.{superclass_numbers}
use Rattle.ast_rules.specs.Written.{WrittenComponent, WrittenRule}
use Rattle.ast_grammar.specs.Building.{AreKeptOf, AreSmall, IsKeptOf, component_numbered}
use Rattle.ast_grammar.specs.Grammar.{IsGrammar, components_of, most_components, superclasses_of}
use Rattle.ast_grammar.specs.Kept.{AreNamed, IsKept, class_of, component_of, grammar_of, name_in}
use Rattle.ast_grammar.specs.Written.{class_written, classes_from, component_written, grammar_written, inherited_first, name_number, name_table}
use Rattle.ast_grammar.specs.declared.grammar.Component as kept_component
use Rattle.ast_grammar.specs.declared.grammar.KeptClass.{KeptClass}
use Rattle.ast_grammar.proofs.Allowed.{components_short}
use Rattle.ast_grammar.proofs.CleanMembers.{farthest_first, first_above}
use Rattle.ast_grammar.proofs.Table.{named_in, pooled_table, with_names-append}
use Rattle.ast_grammar.proofs.WrittenClasses.{class_count, class_names, components_are, rule_at, superclasses_are}

-- names are added behind those that are there
record Extends (ks names : List (List ℕ)) : Type 0 where
  extra : List (List ℕ)
  is : names ≡ ks ++ extra

extends_if : (b : Bool) (ks : List (List ℕ)) (n : List ℕ) → (extra : List (List ℕ)) × ((if b then ks else ks ++ n ∷ []) ≡ ks ++ extra)
extends_if true ks n = ([], sym (append-nil ks))
extends_if false ks n = (n ∷ [], refl)

extends : (ks ns : List (List ℕ)) → Extends ks (with_names ks ns)
extends ks [] = record { extra = []; is = sym (append-nil ks) }
extends ks (n ∷ ns) =
    let more = extends (with_name ks n) ns in
    let one = extends_if (is_among ks n) ks n in
    record { extra = one.0 ++ more.extra; is = more.is ∙ ap (λ xs. xs ++ more.extra) one.1 ∙ append_assoc ks one.0 more.extra }

-- the empty name is none of a class
none_empty : (rules : List WrittenRule) → All (λ (rule : WrittenRule). IsWord rule.name.text) rules → is_among (names_of rules) [] ≡ false
none_empty [] words = refl
none_empty (rule ∷ rules) words =
    let P : WrittenRule → Type 0 = λ (r : WrittenRule). IsWord r.name.text in
    (λ j. ap (bytes_eq []) (All-head P rule rules words).are j || none_empty rules (All-tail P rule rules words) j)

-- a name of a component is one of its rule's, and so of all
among_components : (cs : List WrittenComponent) (k : ℕ) (c : WrittenComponent) → slice_get cs k ≡ Some c → is_among (names_of_components cs) c.name.text ≡ true
among_components [] k c e = absurd (cc)
among_components (d ∷ cs) zero c e =
    let others = is_among (names_of_components cs) c.name.text in
    let same : d ≡ c = cc in
    ap (λ (x : WrittenComponent). bytes_eq c.name.text x.name.text || others) same ∙ ap (λ b. b || others) (nat_list_eq_equiv.refl c.name.text)
among_components (d ∷ cs) (suc k) c e = ap (λ b. bytes_eq c.name.text d.name.text || b) (among_components cs k c e) ∙ or-true (bytes_eq c.name.text d.name.text)

among_rules : (rules : List WrittenRule) (j k : ℕ) (c : WrittenComponent) → slice_get (components_at rules j) k ≡ Some c → is_among (flat_map named_in rules) c.name.text ≡ true
among_rules [] j k c e = absurd (cc)
among_rules (rule ∷ rules) zero k c e =
    list_any-append (bytes_eq c.name.text) (named_in rule) (flat_map named_in rules) ∙ ap (λ b. b || is_among (flat_map named_in rules) c.name.text) (among_components rule.components k c e)
among_rules (rule ∷ rules) (suc j) k c e =
    list_any-append (bytes_eq c.name.text) (named_in rule) (flat_map named_in rules) ∙ ap (λ b. is_among (named_in rule) c.name.text || b) (among_rules rules j k c e) ∙ or-true (is_among (named_in rule) c.name.text)

-- lists of what two functions make of some items are equal where the functions agree
map_agree : {X Y : Type 0} (f g : X → Y) (xs : List X) → ((k : ℕ) (x : X) → slice_get xs k ≡ Some x → f x ≡ g x) → map f xs ≡ map g xs
map_agree f g [] same = refl
map_agree f g (x ∷ xs) same = (λ i. same 0 x refl i ∷ map_agree f g xs (λ k. same (suc k)) i)

-- a number that was found, or none
found_or : (o : Option ℕ) → is_some o ≡ true → (n : ℕ) × (o ≡ Some n)
found_or None there = absurd (cc)
found_or (Some n) there = (n, refl)

below_if : (names : List (List ℕ)) (name : List ℕ) (o : Option ℕ) → position (bytes_eq name) names ≡ o → 0 < length names → unwrap_or o 0 < length names
below_if names name None is some = some
below_if names name (Some n) is some = (position-Some (bytes_eq name) names n [] is).0

-- the name of a rule, in front of other names
name_front : (rules : List WrittenRule) (k : ℕ) (rule : WrittenRule) (extra : List (List ℕ)) → slice_get rules k ≡ Some rule → get_or (names_of rules ++ extra) k [] ≡ rule.name.text
name_front [] k rule extra e = absurd (cc)
name_front (first ∷ rules) zero rule extra e = let same : first ≡ rule = cc in ap (λ (r : WrittenRule). r.name.text) same
name_front (first ∷ rules) (suc k) rule extra e = name_front rules k rule extra e

module _ (rules : List WrittenRule) where
  abbrev table : List (List ℕ)
  table = name_table rules

  -- the names of the classes stand in the table behind the empty one
  table_begins : are_distinct bytes_eq (names_of rules) ≡ true → AreWords rules → Extends ([] ∷ names_of rules) table
  table_begins distinct named =
      let all : are_distinct bytes_eq ([] ∷ names_of rules) ≡ true = (λ j. not (none_empty rules named.words j) && distinct j) in
      let classes : with_names ([] ∷ []) (names_of rules) ≡ [] ∷ names_of rules = once_distinct ([] ∷ names_of rules) all in
      let more = extends ([] ∷ names_of rules) (flat_map named_in rules) in
      record { extra = more.extra; is = with_names-append ([] ∷ []) (names_of rules) (flat_map named_in rules) ∙ ap (λ ks. with_names ks (flat_map named_in rules)) classes ∙ more.is }

  -- the name of a component stands in the table at its number
  name_at_number : (j k : ℕ) (c : WrittenComponent) → slice_get (components_at rules j) k ≡ Some c → name_in table (name_number rules c.name.text) ≡ c.name.text
  name_at_number j k c e =
      let name = c.name.text in
      let classes = is_among (names_of rules) name in
      let listed : is_among (names_of rules ++ flat_map named_in rules) name ≡ true = list_any-append (bytes_eq name) (names_of rules) (flat_map named_in rules) ∙ ap (λ b. classes || b) (among_rules rules j k c e) ∙ or-true classes in
      let there : is_among table name ≡ true = among_once ([] ∷ (names_of rules ++ flat_map named_in rules)) name ∙ ap (λ b. bytes_eq name [] || b) listed ∙ or-true (bytes_eq name []) in
      let found = found_or (position (bytes_eq name) table) (number_known table name ∙ there) in
      ap (λ (o : Option ℕ). name_in table (unwrap_or o 0)) found.1 ∙ get_or_from_slice_get table found.0 name [] (text_at name table found.0 found.1)

  -- so the components of a class are those that are written
  components_along : (line : List ℕ) → map (component_of table) (map (component_numbered rules) (flat_map (components_at rules) line)) ≡ map (component_written rules) (flat_map (components_at rules) line)
  components_along line =
      map-map (component_of table) (component_numbered rules) (flat_map (components_at rules) line)
      ∙ map_along line
    where
      at_class : (j : ℕ) → map (λ c. component_of table (component_numbered rules c)) (components_at rules j) ≡ map (component_written rules) (components_at rules j)
      at_class j = map_agree (λ c. component_of table (component_numbered rules c)) (component_written rules) (components_at rules j)
          (λ k c e. ap (λ (name : List ℕ). record (component_written rules c) { name = name }) (name_at_number j k c e))

      map_along : (line : List ℕ) → map (λ c. component_of table (component_numbered rules c)) (flat_map (components_at rules) line) ≡ map (component_written rules) (flat_map (components_at rules) line)
      map_along [] = refl
      map_along (j ∷ line) =
          map-append (λ c. component_of table (component_numbered rules c)) (components_at rules j) (flat_map (components_at rules) line)
          ∙ (λ i. at_class j i ++ map_along line i) ∙ sym (map-append (component_written rules) (components_at rules j) (flat_map (components_at rules) line))

  module _ (begins : Extends ([] ∷ names_of rules) table) where
    -- and so are the classes
    class_name_at : (k : ℕ) (rule : WrittenRule) → slice_get rules k ≡ Some rule → name_in table (k + 1) ≡ rule.name.text
    class_name_at k rule e =
        let next : k + 1 ≡ suc k = omega arith in
        ap (λ ns. name_in ns (k + 1)) begins.is ∙ ap (name_in (([] ∷ names_of rules) ++ begins.extra)) next ∙ name_front rules k rule begins.extra e

    class_made : (k : ℕ) (rule : WrittenRule) (c : KeptClass) → slice_get rules k ≡ Some rule → IsKeptOf rules k rule c → class_of table c ≡ class_written rules k rule
    class_made k rule c e kept =
        let name : name_in table c.name ≡ rule.name.text = ap (name_in table) kept.name ∙ class_name_at k rule e in
        let components : map (component_of table) c.components.items ≡ map (component_written rules) (inherited_first rules k) = ap (map (component_of table)) kept.components ∙ components_along (reverse (upwards (superclass_numbers (names_of rules) rules) k)) in
        (λ i. record { name = name i; abstract = kept.abstract i; superclass = kept.superclass i; components = components i })

-- the classes from a number on, one by one
made_from : (table : List (List ℕ)) (all : List WrittenRule) (i : ℕ) (rules : List WrittenRule) (classes : List KeptClass) → length classes ≡ length rules
    → ((k : ℕ) (rule : WrittenRule) (c : KeptClass) → slice_get rules k ≡ Some rule → slice_get classes k ≡ Some c → class_of table c ≡ class_written all (i + k) rule)
    → map (class_of table) classes ≡ classes_from all i rules
made_from table all i [] [] count each = refl
made_from table all i [] (c ∷ classes) count each = absurd (omega arith)
made_from table all i (rule ∷ rules) [] count each = absurd (omega arith)
made_from table all i (rule ∷ rules) (c ∷ classes) count each =
    let first = each 0 rule c refl refl ∙ ap (λ n. class_written all n rule) (add-zero i) in
    let later = made_from table all (i + 1) rules classes (omega arith) (λ k r d there kept. each (suc k) r d there kept ∙ ap (λ n. class_written all n r) (let shifted : i + suc k ≡ (i + 1) + k = omega arith in shifted)) in
    (λ j. first j ∷ later j)

-- a class has at most as many own components as it has
own_short : (rules : List WrittenRule) → IsGrammar (grammar_written rules) → (k : ℕ) (rule : WrittenRule) → slice_get rules k ≡ Some rule → length rule.components ≤ most_components
own_short rules allowed k rule e =
    let within = slice_get_within rules k rule e in
    let above = farthest_first rules (line_of (superclass_numbers (names_of rules) rules) k) in
    let all : length (inherited_first rules k) ≡ length above + length (components_at rules k) = ap length (first_above rules k) ∙ length-append above (components_at rules k) in
    let own : length (components_at rules k) ≡ length rule.components = ap (λ o. length (components_in o)) e in
    let count : length (components_of (grammar_written rules) k) ≡ length (inherited_first rules k) = ap length (components_are rules k within) ∙ length-map (inherited_first rules k) (component_written rules) in
    omega (arith, components_short k allowed)

pub small_rules : (rules : List WrittenRule) → IsGrammar (grammar_written rules) → AreSmall rules
small_rules rules allowed = record {
  few = omega (arith, allowed.few, class_count rules);
  short = λ k d within. own_short rules allowed k (get_or rules k d) (slice_get-get_or rules k d within);
}

pub distinct_rules : (rules : List WrittenRule) → IsGrammar (grammar_written rules) → are_distinct bytes_eq (names_of rules) ≡ true
distinct_rules rules allowed = ap (are_distinct bytes_eq) (sym (class_names rules)) ∙ allowed.distinct

module _ (rules : List WrittenRule) (allowed : IsGrammar (grammar_written rules)) (named : AreWords rules) (classes : List KeptClass) (kept : AreKeptOf rules classes) where
  begins : Extends ([] ∷ names_of rules) (name_table rules)
  begins = table_begins rules (distinct_rules rules allowed) named

  -- what is kept is the grammar that the rules write
  pub made : grammar_of (name_table rules) classes ≡ grammar_written rules
  made =
      let each = λ (k : ℕ) (rule : WrittenRule) (c : KeptClass) (there : slice_get rules k ≡ Some rule) (here : slice_get classes k ≡ Some c).
      class_made rules begins k rule c there (kept.each k rule c there here) ∙ ap (λ n. class_written rules n rule) (sym (zero-add k)) in
      made_from (name_table rules) rules 0 rules classes kept.count each

  many : length rules < length (name_table rules)
  many = omega (arith, ap length begins.is, length-append ([] ∷ names_of rules) begins.extra, length-map rules (λ (r : WrittenRule). r.name.text))

  -- the class of a number is kept of a rule
  kept_at : (k : ℕ) (c : KeptClass) → slice_get classes k ≡ Some c → (rule : WrittenRule) × IsKeptOf rules k rule c
  kept_at k c e =
      let rule = rule_at rules k (let within : k < length classes = slice_get_within classes k c e in omega (arith, kept.count)) in
      (rule.0, kept.each k rule.0 c rule.1 e)

  named_class : (k : ℕ) (c : KeptClass) → slice_get classes k ≡ Some c → AreNamed (name_table rules) c
  named_class k c e =
      let P : kept_component.Component → Type 0 = λ (p : kept_component.Component). p.name < length (name_table rules) in
      record {
        named = subst (All P) (sym (kept_at k c e).1.components) (All-map P (component_numbered rules) (inherited_first rules k)
            (λ n d within. let x = get_or (inherited_first rules k) n d in below_if (name_table rules) x.name.text (position (bytes_eq x.name.text) (name_table rules)) refl (omega (arith, many))));
      }

  pub is_kept : (superclasses : List (Option ℕ)) → superclasses ≡ superclass_numbers (names_of rules) rules → IsKept (name_table rules) superclasses classes
  is_kept superclasses is = record {
    allowed = subst IsGrammar (sym made) allowed;
    pooled = pooled_table rules (small_rules rules allowed);
    names_of_classes = omega (arith, many, kept.count);
    numbered = λ k c e. (kept_at k c e).1.name;
    components = λ k d within. named_class k (get_or classes k d) (slice_get-get_or classes k d within);
    superclasses_are = is ∙ sym (superclasses_are rules) ∙ ap superclasses_of (sym made);
  }
