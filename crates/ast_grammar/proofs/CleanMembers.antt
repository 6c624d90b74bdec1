-- The components of a class that inherits: of different names, and few.
use Rattle.std.proofs.Common.{◌≡◌, ℕ, ◌+◌, ◌≤◌, ◌==◌, List, [], ◌∷◌, ◌++◌, Bool, true, false, not, ◌&&◌, ◌||◌, length, reverse, slice_get, Option, Some, None, refl, ap, sym, ◌∙◌, arith, append_assoc, append-nil, length-append, subst}
use Rattle.std.proofs.Math.Bool.{or_comm}
use Rattle.std.proofs.lemmas.Bool.Decides.{nat_tests}
use Rattle.std.proofs.lemmas.List.{map-append, length-map, reverse-append}
use Rattle.std.proofs.lemmas.List.Concat.{flat_map-append}
use Rattle.std.proofs.lemmas.List.Folds.{list_any-append}
use Rattle.std.specs.List.{flat_map}
use Rattle.std.specs.Str.{bytes_eq}
use Rattle.rag_io.specs.Distinct.{are_distinct}
use Rattle.broken_rules.specs.Notes.{at, broken_if, each_after}
use Rattle.broken_rules.specs.declared.broken.Broken.{Broken}
use Rattle.broken_rules.specs.declared.rule.Rule.TheVariants.{G6, G10}
use Rattle.broken_rules.proofs.Clean.{append_none, not_broken}
use Rattle.names.specs.Among.{is_among}
use Rattle.names.proofs.Distinct.{distinct_snoc}
use Rattle.superclasses.specs.Superclasses.{line_of, superclass_of, upwards}
use Rattle.superclasses.proofs.Lines.{line_none, line_steps}
use Rattle.ast_rules.specs.Members.{components_at, components_in, inherited_names, member_broken, names_along, names_of_components}
use Rattle.ast_rules.specs.Written.{WrittenComponent, WrittenRule}
use Rattle.ast_grammar.specs.Grammar.{most_components}
use Rattle.ast_grammar.specs.Written.{inherited_first}
use Rattle.ast_grammar.proofs.Clean.{AreClean, superclasses_in}

-- one more class, which is farther
farther : {X : Type 0} (f : ℕ → List X) (c : ℕ) (line : List ℕ) → flat_map f (reverse (c ∷ line)) ≡ flat_map f (reverse line) ++ f c
farther f c line = ap (flat_map f) (reverse-append (c ∷ []) line) ∙ flat_map-append f (reverse line) (c ∷ []) ∙ ap (λ zs. flat_map f (reverse line) ++ zs) (append-nil (f c))

module _ (rules : List WrittenRule) where
  -- the components along a line, the farthest first
  abbrev pub farthest_first : List ℕ → List WrittenComponent
  farthest_first line = flat_map (components_at rules) (reverse line)

  along_count : (line : List ℕ) → length (names_along rules line) ≡ length (farthest_first line)
  along_count [] = refl
  along_count (c ∷ line) =
      let own = names_of_components (components_at rules c) in
      let left : length (names_along rules (c ∷ line)) ≡ length own + length (names_along rules line) = length-append own (names_along rules line) in
      let right : length (farthest_first (c ∷ line)) ≡ length (farthest_first line) + length (components_at rules c) = ap length (farther (components_at rules) c line) ∙ length-append (farthest_first line) (components_at rules c) in
      omega (arith, left, right, along_count line, length-map (components_at rules c) (λ (x : WrittenComponent). x.name.text))

  along_among : (line : List ℕ) (q : List ℕ) → is_among (names_along rules line) q ≡ is_among (names_of_components (farthest_first line)) q
  along_among [] q = refl
  along_among (c ∷ line) q =
      let own = names_of_components (components_at rules c) in
      let above = names_of_components (farthest_first line) in
      let names : names_of_components (farthest_first (c ∷ line)) ≡ above ++ own = ap names_of_components (farther (components_at rules) c line) ∙ map-append (λ (x : WrittenComponent). x.name.text) (farthest_first line) (components_at rules c) in
      list_any-append (bytes_eq q) own (names_along rules line) ∙ ap (λ b. is_among own q || b) (along_among line q)
      ∙ or_comm (is_among own q) (is_among above q) ∙ sym (list_any-append (bytes_eq q) above own) ∙ ap (λ ns. is_among ns q) (sym names)

  -- a class's own components come behind those of its line
  pub first_above : (i : ℕ) → inherited_first rules i ≡ farthest_first (line_of (superclasses_in rules) i) ++ components_at rules i
  first_above i = farther (components_at rules) i (line_of (superclasses_in rules) i)

neither : (a b : Bool) → (a || b) ≡ false → (a ≡ false) × (b ≡ false)
neither true b h = cc
neither false b h = (refl, h)

module _ (known : List ℕ → Bool) (count : ℕ) where
  -- a component that breaks nothing has a new name, and is not the 17th
  fits_behind : (before : List WrittenComponent) (c : WrittenComponent) → member_broken known count before c ≡ [] → (known c.name.text ≡ false) × (is_among (names_of_components before) c.name.text ≡ false) × ((count + length before == 16) ≡ false)
  fits_behind before c none =
      let again = known c.name.text || is_among (names_of_components before) c.name.text in
      let tests = append_none (broken_if again (at c.name.place G6)) (broken_if (count + length before == 16) (at c.name.place G10)) none in
      let new = neither (known c.name.text) (is_among (names_of_components before) c.name.text) (not_broken again (at c.name.place G6) tests.0) in
      (new.0, new.1, not_broken (count + length before == 16) (at c.name.place G10) tests.1)

  -- so none of some components is the 17th
  at_most_sixteen : (before cs : List WrittenComponent) → each_after (member_broken known count) before cs ≡ [] → count + length before ≤ most_components → count + length (before ++ cs) ≤ most_components
  at_most_sixteen before [] none le = subst (λ zs. count + length zs ≤ most_components) (sym (append-nil before)) le
  at_most_sixteen before (c ∷ cs) none le =
      let parts = append_none (member_broken known count before c) (each_after (member_broken known count) (before ++ c ∷ []) cs) none in
      let not_last : (count + length before == 16) ≡ false = (fits_behind before c parts.0).2 in
      let one_more : length (before ++ c ∷ []) ≡ length before + 1 = length-append before (c ∷ []) in
      let room : count + length (before ++ c ∷ []) ≤ most_components = grind (arith, nat_tests) in
      subst (λ zs. count + length zs ≤ most_components) (append_assoc before (c ∷ []) cs) (at_most_sixteen (before ++ c ∷ []) cs parts.1 room)

  module _ (names : List (List ℕ)) (same : (q : List ℕ) → known q ≡ is_among names q) where
    -- the names, and then those of some components
    abbrev names_then : List WrittenComponent → List (List ℕ)
    names_then cs = names ++ names_of_components cs

    then_more : (before : List WrittenComponent) (c : WrittenComponent) → names_then (before ++ c ∷ []) ≡ names_then before ++ c.name.text ∷ []
    then_more before c = ap (λ ns. names ++ ns) (map-append (λ (x : WrittenComponent). x.name.text) before (c ∷ [])) ∙ sym (append_assoc names (names_of_components before) (c.name.text ∷ []))

    -- and none has a name twice
    each_new : (before cs : List WrittenComponent) → each_after (member_broken known count) before cs ≡ [] → are_distinct bytes_eq (names_then before) ≡ true → are_distinct bytes_eq (names_then (before ++ cs)) ≡ true
    each_new before [] none d = ap (λ zs. are_distinct bytes_eq (names_then zs)) (append-nil before) ∙ d
    each_new before (c ∷ cs) none d =
        let parts = append_none (member_broken known count before c) (each_after (member_broken known count) (before ++ c ∷ []) cs) none in
        let new = fits_behind before c parts.0 in
        let nowhere : is_among (names_then before) c.name.text ≡ false = list_any-append (bytes_eq c.name.text) names (names_of_components before) ∙ (λ j. (sym (same c.name.text) ∙ new.0) j || new.1 j) in
        let longer : are_distinct bytes_eq (names_then (before ++ c ∷ [])) ≡ true = ap (are_distinct bytes_eq) (then_more before c) ∙ distinct_snoc (names_then before) c.name.text ∙ (λ j. d j && not (nowhere j)) in
        ap (λ zs. are_distinct bytes_eq (names_then zs)) (sym (append_assoc before (c ∷ []) cs)) ∙ each_new (before ++ c ∷ []) cs parts.1 longer

-- What holds of the components of a class.
pub record AreFew (components : List WrittenComponent) : Type 0 where
  pub short : length components ≤ most_components
  pub distinct : are_distinct bytes_eq (names_of_components components) ≡ true

-- what components break behind others of these names
abbrev pub broken_behind : List (List ℕ) → List WrittenComponent → List Broken
broken_behind names cs = each_after (member_broken (is_among names) (length names)) [] cs

module _ (rules : List WrittenRule) (clean : AreClean rules) where
  own_none : (i : ℕ) (o : Option WrittenRule) → slice_get rules i ≡ o → broken_behind (inherited_names rules (superclasses_in rules) i) (components_in o) ≡ []
  own_none i None e = refl
  own_none i (Some rule) e = (append_none (broken_if (i == 256) (at rule.name.place G10)) (broken_behind (inherited_names rules (superclasses_in rules) i) rule.components) (clean.members i rule e)).1

  -- a class has few components where its line has
  few_with_own : (i : ℕ) (line : List ℕ) → line_of (superclasses_in rules) i ≡ line → AreFew (farthest_first rules line) → AreFew (inherited_first rules i)
  few_with_own i line e few =
      let above = farthest_first rules line in
      let own = components_at rules i in
      let names = names_along rules line in
      let all : inherited_first rules i ≡ above ++ own = first_above rules i ∙ ap (λ l. farthest_first rules l ++ own) e in
      let none : broken_behind names own ≡ [] = ap (λ l. broken_behind (names_along rules l) own) (sym e) ∙ own_none i (slice_get rules i) refl in
      let count : length names ≡ length above = along_count rules line in
      let short : length above ≤ most_components = few.short in
      let all_short : length names + length own ≤ most_components = at_most_sixteen (is_among names) (length names) [] own none (omega arith) in
      let first : are_distinct bytes_eq (names_of_components above ++ []) ≡ true = ap (are_distinct bytes_eq) (append-nil (names_of_components above)) ∙ few.distinct in
      subst AreFew (sym all) (record {
        short = omega (arith, all_short, count, length-append above own);
        distinct = ap (are_distinct bytes_eq) (map-append (λ (x : WrittenComponent). x.name.text) above own) ∙ each_new (is_among names) (length names) (names_of_components above) (along_among rules line) [] own none first;
      })

  -- by the line from a class on
  few_along : (line : List ℕ) (i : ℕ) (o : Option ℕ) → superclass_of (superclasses_in rules) i ≡ o → line_of (superclasses_in rules) i ≡ line → AreFew (inherited_first rules i)
  few_along [] i o e l = few_with_own i [] l (record { short = omega arith; distinct = refl })
  few_along (c ∷ line) i None e l = let empty : line_of (superclasses_in rules) i ≡ [] = line_none (superclasses_in rules) i e in cc
  few_along (c ∷ line) i (Some b) e l =
      let s = superclasses_in rules in
      let steps : line_of s i ≡ b ∷ line_of s b = line_steps s clean.free i b e in
      let rest : line_of s b ≡ line = cc in
      few_with_own i (upwards s b) steps (few_along line b (superclass_of s b) refl rest)

  pub few_components : (i : ℕ) → AreFew (inherited_first rules i)
  few_components i = few_along (line_of (superclasses_in rules) i) i (superclass_of (superclasses_in rules) i) refl refl

  -- the components of a class are those of its superclass and then its own
  pub own_behind : (a b : ℕ) → superclass_of (superclasses_in rules) a ≡ Some b → inherited_first rules a ≡ inherited_first rules b ++ components_at rules a
  own_behind a b e = first_above rules a ∙ ap (λ l. farthest_first rules l ++ components_at rules a) (line_steps (superclasses_in rules) clean.free a b e)
