-- The table of the names of a grammar.
use Rattle.std.proofs.Common.{◌≡◌, ℕ, ◌+◌, ◌*◌, ◌<◌, ◌≤◌, Bool, true, false, List, [], ◌∷◌, ◌++◌, All, length, map, get_or, take, Option, Some, None, if◌then◌else◌, refl, ap, sym, ◌∙◌, subst, arith, append-nil, length-append}
use Rattle.std.specs.List.{flat_map}
use Rattle.std.specs.Option.{is_some}
use Rattle.std.proofs.lemmas.List.{length-map, map-append, length-take-le, take_all, take_more}
use Rattle.std.proofs.Math.ListN.{get_or-map}
use Rattle.std.proofs.lemmas.List.Concat.{flat_map-append}
use Rattle.std.proofs.lemmas.List.Elements.{All-head, All-tail, All-take}
use Rattle.ast_rules.specs.Members.{names_of_components}
use Rattle.ast_rules.specs.Naming.{names_of}
use Rattle.ast_rules.specs.Written.{WrittenComponent, WrittenRule, seen_component, seen_rule, seen_rules}
use Rattle.ast_rules.specs.declared.written.WrittenComponent as kept_written_component
use Rattle.ast_rules.specs.declared.written.WrittenRule as kept_written_rule
use Rattle.ast_grammar.specs.Building.{AreSmall}
use Rattle.ast_grammar.specs.Grammar.{most_classes, most_components}
use Rattle.ast_grammar.specs.Written.{name_table}
use Rattle.names.proofs.Numbering.{number_known}
use Rattle.names.specs.Among.{is_among, with_name, with_names}
use Rattle.rag_io.proofs.Numbers.{pooled_push}
use Rattle.rag_io.specs.Pool.{ArePooled, most_texts, number_of, with_text}

-- a text of a pool is added as a name is
pub with_text_is : (texts : List (List ℕ)) (text : List ℕ) → with_text texts text ≡ with_name texts text
with_text_is texts text = ap (λ (b : Bool). if b then texts else texts ++ text ∷ []) (number_known texts text)

pub with_names-append : (ks ns ms : List (List ℕ)) → with_names ks (ns ++ ms) ≡ with_names (with_names ks ns) ms
with_names-append ks [] ms = refl
with_names-append ks (n ∷ ns) ms = with_names-append (with_name ks n) ns ms

length-with_if : (b : Bool) (ks : List (List ℕ)) (n : List ℕ) → length (if b then ks else ks ++ n ∷ []) ≤ length ks + 1
length-with_if true ks n = omega arith
length-with_if false ks n = omega (arith, length-append ks (n ∷ []))

-- each name is one more at most
pub length-with_names : (ks ns : List (List ℕ)) → length (with_names ks ns) ≤ length ks + length ns
length-with_names ks [] = omega arith
length-with_names ks (n ∷ ns) = omega (arith, length-with_names (with_name ks n) ns, length-with_if (is_among ks n) ks n)

pooled_if : (o : Option ℕ) (ks : List (List ℕ)) (n : List ℕ) → number_of ks n ≡ o → ArePooled ks → length ks < most_texts → ArePooled (if is_some o then ks else ks ++ n ∷ [])
pooled_if None ks n is pooled room = pooled_push ks n pooled is room
pooled_if (Some k) ks n is pooled room = pooled

pooled_with : (ks : List (List ℕ)) (n : List ℕ) → ArePooled ks → length ks < most_texts → ArePooled (with_name ks n)
pooled_with ks n pooled room = subst ArePooled (with_text_is ks n) (pooled_if (number_of ks n) ks n refl pooled room)

-- a pool with names for which there is room
pub pooled_names : (ks ns : List (List ℕ)) → ArePooled ks → length ks + length ns ≤ most_texts → ArePooled (with_names ks ns)
pooled_names ks [] pooled room = pooled
pooled_names ks (n ∷ ns) pooled room = pooled_names (with_name ks n) ns (pooled_with ks n pooled (omega arith)) (omega (arith, length-with_if (is_among ks n) ks n))

-- a list of what is seen, up to the next item
pub seen_more : {X Y Z : Type 0} (see : X → Y) (f : Y → Z) (xs : List X) (i : ℕ) {x : X} → x ≡ get_or xs i x → i < length xs → map f (take (i + 1) (map see xs)) ≡ map f (take i (map see xs)) ++ f (see x) ∷ []
seen_more see f xs i {x} is lt =
    let ys = map see xs in
    let there : i < length ys = omega (arith, length-map xs see) in
    let here : get_or ys i (see x) ≡ see x = get_or-map see xs i x ∙ ap see (sym is) in
    ap (map f) (take_more ys i (see x) there ∙ ap (λ y. take i ys ++ y ∷ []) here) ∙ map-append f (take i ys) (see x ∷ [])

-- a turn of a loop that adds the name of each item
module _ {X Y : Type 0} (see : X → Y) (name : Y → List ℕ) (xs : List X) (old : List (List ℕ)) (i : ℕ) where
  pub names_turn : {x : X} {names more : List (List ℕ)}
      → x ≡ get_or xs i x → i < length xs → more ≡ with_name names (name (see x)) → names ≡ with_names old (map name (take i (map see xs))) → more ≡ with_names old (map name (take (i + 1) (map see xs)))
  names_turn {x} is lt e h =
      e ∙ ap (λ ns. with_name ns (name (see x))) h ∙ sym (with_names-append old (map name (take i (map see xs))) (name (see x) ∷ [])) ∙ ap (with_names old) (sym (seen_more see name xs i is lt))

  -- there is room for one more
  pub room_for : {names : List (List ℕ)} → names ≡ with_names old (map name (take i (map see xs))) → i < length xs → length old + length xs ≤ most_texts → length names < most_texts
  room_for h lt room =
      let few = take i (map see xs) in
      omega (arith, ap length h, length-with_names old (map name few), length-map few name, length-take-le i (map see xs) (let same : length (map see xs) ≡ length xs = length-map xs see in omega arith))

-- the names of the components of a rule
abbrev pub named_in : WrittenRule → List (List ℕ)
named_in rule = names_of_components rule.components

-- rules with few components have few names
count_names : (rules : List WrittenRule) → All (λ (rule : WrittenRule). length rule.components ≤ most_components) rules → length (flat_map named_in rules) ≤ most_components * length rules
count_names [] short = omega arith
count_names (rule ∷ rules) short =
    let P : WrittenRule → Type 0 = λ (r : WrittenRule). length r.components ≤ most_components in
    let first : length rule.components ≤ most_components = All-head P rule rules short in
    omega (arith, length-append (named_in rule) (flat_map named_in rules), length-map rule.components (λ (x : WrittenComponent). x.name.text), count_names rules (All-tail P rule rules short))

-- a table has room for the names of few rules
table_room : (rules : List WrittenRule) → AreSmall rules → (ns : List (List ℕ)) → length ns ≤ most_components * most_classes → length (with_names ([] ∷ []) (names_of rules)) + length ns ≤ most_texts
table_room rules small ns le = omega (arith, length-with_names ([] ∷ []) (names_of rules), length-map rules (λ (r : WrittenRule). r.name.text), small.few)

pub pooled_table : (rules : List WrittenRule) → AreSmall rules → ArePooled (name_table rules)
pooled_table rules small =
    let all = flat_map named_in rules in
    let classes : length (names_of rules) ≤ most_classes = omega (arith, length-map rules (λ (r : WrittenRule). r.name.text), small.few) in
    let count : length (names_of rules ++ all) ≤ most_classes + most_components * most_classes = omega (arith, length-append (names_of rules) all, count_names rules small.short, small.few) in
    pooled_names ([] ∷ []) (names_of rules ++ all) (record { distinct = refl; few = omega arith; empty_first = refl }) (omega arith)

-- a turn of the loop that adds the names of each rule's components
module _ (items : List kept_written_rule.WrittenRule) (i : ℕ) (rule : kept_written_rule.WrittenRule) (is : rule ≡ get_or items i rule) (lt : i < length items) where
  rules_more : take (i + 1) (seen_rules items) ≡ take i (seen_rules items) ++ seen_rule rule ∷ []
  rules_more =
      let there : i < length (seen_rules items) = omega (arith, length-map items seen_rule) in
      take_more (seen_rules items) i (seen_rule rule) there ∙ ap (λ y. take i (seen_rules items) ++ y ∷ []) (get_or-map seen_rule items i rule ∙ ap seen_rule (sym is))

  pub table_turn : (old : List (List ℕ)) {names more : List (List ℕ)} {components : List kept_written_component.WrittenComponent}
      → components ≡ rule.components.items → more ≡ with_names names (names_of_components (map seen_component components))
      → names ≡ with_names old (flat_map named_in (take i (seen_rules items))) → more ≡ with_names old (flat_map named_in (take (i + 1) (seen_rules items)))
  table_turn old {components = components} same e h =
      let now = flat_map named_in (take i (seen_rules items)) in
      e ∙ (λ j. with_names (h j) (names_of_components (map seen_component (same j)))) ∙ sym (with_names-append old now (named_in (seen_rule rule)))
      ∙ ap (with_names old) (sym (ap (flat_map named_in) rules_more ∙ flat_map-append named_in (take i (seen_rules items)) (seen_rule rule ∷ []) ∙ ap (λ ns. now ++ ns) (append-nil (named_in (seen_rule rule)))))

  pub turn_room : AreSmall (seen_rules items) → {names : List (List ℕ)} {components : List kept_written_component.WrittenComponent} → components ≡ rule.components.items
      → names ≡ with_names (with_names ([] ∷ []) (names_of (seen_rules items))) (flat_map named_in (take i (seen_rules items))) → length names + length components ≤ most_texts
  turn_room small same h =
      let P : WrittenRule → Type 0 = λ (r : WrittenRule). length r.components ≤ most_components in
      let front = take (i + 1) (seen_rules items) in
      let before = flat_map named_in (take i (seen_rules items)) in
      let own = named_in (seen_rule rule) in
      let all : flat_map named_in front ≡ before ++ own = ap (flat_map named_in) rules_more ∙ flat_map-append named_in (take i (seen_rules items)) (seen_rule rule ∷ []) ∙ ap (λ ns. before ++ ns) (append-nil own) in
      let within : i + 1 ≤ length (seen_rules items) = omega (arith, length-map items seen_rule) in
      let few : length front ≤ most_classes = omega (arith, length-take-le (i + 1) (seen_rules items) within, small.few) in
      let total : length before + length own ≤ most_components * most_classes = omega (arith, ap length all, length-append before own, count_names front (All-take P (i + 1) (seen_rules items) small.short)) in
      let base = with_names ([] ∷ []) (names_of (seen_rules items)) in
      let room = table_room (seen_rules items) small (before ++ own) (omega (arith, length-append before own)) in
      omega (arith, ap length h, ap length same, length-with_names base before, room, length-append before own, length-map rule.components.items seen_component, length-map (map seen_component rule.components.items) (λ (x : WrittenComponent). x.name.text))

-- the table is whole
pub table_done : (items : List kept_written_rule.WrittenRule) (i : ℕ) {names : List (List ℕ)} → length items ≤ i
    → names ≡ with_names (with_names ([] ∷ []) (names_of (seen_rules items))) (flat_map named_in (take i (seen_rules items))) → names ≡ name_table (seen_rules items)
table_done items i past h =
    let rules = seen_rules items in
    h ∙ ap (λ rs. with_names (with_names ([] ∷ []) (names_of rules)) (flat_map named_in rs)) (take_all i rules (omega (arith, length-map items seen_rule))) ∙ sym (with_names-append ([] ∷ []) (names_of rules) (flat_map named_in rules))
