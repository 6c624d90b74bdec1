-- What a class inherits, and its own components.
use Rattle.std.proofs.Common.{◌≡◌, ℕ, ◌+◌, ◌-◌, ◌^◌, ◌<◌, ◌≤◌, min, map, List, [], ◌∷◌, ◌++◌, Bool, true, false, not, ◌||◌, ◌==◌, length, Option, None, get_or, take, slice_get, ap, sym, ◌∙◌, arith, refl, subst}
use Rattle.std.proofs.lemmas.Bool.Decides.{nat_tests}
use Rattle.std.proofs.lemmas.List.{map-append, take_more, append-nil, length-take-le, length-map, get_or_default}
use Rattle.std.proofs.lemmas.List.Concat.{flat_map-append}
use Rattle.std.proofs.lemmas.List.Folds.{list_any-append}
use Rattle.std.proofs.Math.ListN.{length-append}
use Rattle.std.proofs.Math.Bool.{or-false, or_assoc}
use Rattle.std.specs.Str.{bytes_eq}
use Rattle.std.specs.Prelude.{Result, Ok, Err, OnOk}
use Rattle.broken_rules.specs.declared.broken.Broken.{Broken}
use Rattle.broken_rules.specs.declared.rule.Rule.TheVariants.{G6, G10}
use Rattle.broken_rules.specs.Notes.{Notes, at, broken_if, each_after}
use Rattle.broken_rules.proofs.Noting.{notes_then}
use Rattle.names.specs.Among.{is_among, with_name}
use Rattle.names.proofs.Keys.{among_with}
use Rattle.ast_rules.specs.Written.{WrittenComponent, WrittenRule, seen_component}
use Rattle.ast_rules.specs.declared.written.WrittenComponent as kept_written_component
use Rattle.ast_rules.proofs.Seen.{index_seen, item_seen, notes_each_after_seen}
use Rattle.superclasses.specs.Superclasses.{line_of}
use Rattle.ast_rules.specs.Members.{Adds, Inherits, names_of_components, components_at, components_in, names_along, member_broken, class_broken}

not_not : (b : Bool) → not (not b) ≡ b
not_not true = refl
not_not false = refl

names-snoc : (cs : List WrittenComponent) (c : WrittenComponent) (q : List ℕ) → is_among (names_of_components (cs ++ c ∷ [])) q ≡ (is_among (names_of_components cs) q || bytes_eq q c.name.text)
names-snoc cs c q =
    ap (λ ns. is_among ns q) (map-append (λ (x : WrittenComponent). x.name.text) cs (c ∷ []))
    ∙ list_any-append (bytes_eq q) (names_of_components cs) (c.name.text ∷ []) ∙ ap (λ b. is_among (names_of_components cs) q || b) (or-false (bytes_eq q c.name.text))

pub adds_none : (old : List (List ℕ)) → Adds old (names_of_components []) old
adds_none old = record { adds = λ q. sym (or-false (is_among old q)) }

pub adds_more : (old : List (List ℕ)) (cs : List WrittenComponent) (i : ℕ) (names : List (List ℕ)) {more : List (List ℕ)} {c : WrittenComponent} {text : List ℕ} → text ≡ c.name.text → more ≡ with_name names text
    → Adds old (names_of_components (take i cs)) names → c ≡ get_or cs i c → i < length cs → Adds old (names_of_components (take (i + 1) cs)) more
adds_more old cs i names {more} {c} {text} t e h is lt = record {
  adds = λ q. ap (λ ns. is_among ns q) e ∙ among_with names text q ∙ (λ j. h.adds q j || bytes_eq q (t j)) ∙ or_assoc (is_among old q) (is_among (names_of_components (take i cs)) q) (bytes_eq q c.name.text)
      ∙ ap (λ b. is_among old q || b) (sym (names-snoc (take i cs) c q) ∙ ap (λ zs. is_among (names_of_components zs) q) (sym (take_more cs i c lt ∙ ap (λ y. take i cs ++ y ∷ []) (sym is))));
}

-- the same, by the item that stands there
pub adds_item : (old : List (List ℕ)) (items : List kept_written_component.WrittenComponent) (i : ℕ) (names : List (List ℕ)) {more : List (List ℕ)} (d : kept_written_component.WrittenComponent) → more ≡ with_name names (seen_component (get_or items i d)).name.text
    → Adds old (names_of_components (take i (map seen_component items))) names → i < length items → Adds old (names_of_components (take (i + 1) (map seen_component items))) more
adds_item old items i names {more} d e h lt =
    adds_more old (map seen_component items) i names {c = seen_component (get_or items i d)} refl e h (item_seen seen_component items i (get_or_default items i d (get_or items i d) lt)) (index_seen seen_component items i lt)

pub inherits_none : (classes : List WrittenRule) → Inherits classes [] [] 0
inherits_none classes = record { known = λ q. refl; counted = refl }

along-snoc : (classes : List WrittenRule) (line : List ℕ) (j : ℕ) → names_along classes (line ++ j ∷ []) ≡ names_along classes line ++ names_of_components (components_at classes j)
along-snoc classes line j =
    flat_map-append (λ k. names_of_components (components_at classes k)) line (j ∷ []) ∙ ap (λ ns. names_along classes line ++ ns) (append-nil (names_of_components (components_at classes j)))

capped : (count a b all : ℕ) → count ≡ min a (2 ^ 64 - 1) → all ≡ a + b → min (count + b) (2 ^ 64 - 1) ≡ min all (2 ^ 64 - 1)
capped count a b all h e = omega arith

-- the names of the components of one more class were added
pub inherits_more : (rules : List WrittenRule) (line : List ℕ) (names more : List (List ℕ)) (count n : ℕ) (j : ℕ) (own : List WrittenComponent) → Inherits rules line names count → own ≡ components_at rules j
    → Adds names (names_of_components own) more → n ≡ min (count + length own) (2 ^ 64 - 1) → Inherits rules (line ++ j ∷ []) more n
inherits_more rules line names more count n j own h o a e =
    let all : names_along rules (line ++ j ∷ []) ≡ names_along rules line ++ names_of_components own = along-snoc rules line j ∙ ap (λ cs. names_along rules line ++ names_of_components cs) (sym o) in
    let size : length (names_along rules (line ++ j ∷ [])) ≡ length (names_along rules line) + length own =
    ap length all ∙ length-append (names_along rules line) (names_of_components own) ∙ ap (λ k. length (names_along rules line) + k) (length-map own (λ (c : WrittenComponent). c.name.text)) in
    record {
      known = λ q. a.adds q ∙ ap (λ b. b || is_among (names_of_components own) q) (h.known q) ∙ sym (ap (λ ns. is_among ns q) all ∙ list_any-append (bytes_eq q) (names_along rules line) (names_of_components own));
      counted = e ∙ capped count (length (names_along rules line)) (length own) (length (names_along rules (line ++ j ∷ []))) h.counted size;
    }

-- there is no class of this number
pub inherits_same : (rules : List WrittenRule) (line : List ℕ) (names : List (List ℕ)) (count : ℕ) (j : ℕ) → slice_get rules j ≡ None → Inherits rules line names count → Inherits rules (line ++ j ∷ []) names count
inherits_same rules line names count j none h =
    let same : names_along rules (line ++ j ∷ []) ≡ names_along rules line = along-snoc rules line j ∙ ap (λ r. names_along rules line ++ names_of_components (components_in r)) none ∙ append-nil (names_along rules line) in
    record {
      known = λ q. h.known q ∙ ap (λ ns. is_among ns q) (sym same);
      counted = h.counted ∙ ap (λ ns. min (length ns) (2 ^ 64 - 1)) (sym same);
    }

sixteen : (count i : ℕ) → (min (count + i) (2 ^ 64 - 1) == 16) ≡ (count + i == 16)
sixteen count i = grind (arith, nat_tests)

sixteen_of : (count a i : ℕ) → count ≡ min a (2 ^ 64 - 1) → (count + i == 16) ≡ (a + i == 16)
sixteen_of count a i h = grind (arith, nat_tests)

-- what is noted for one component
pub member_noted : (old names : List (List ℕ)) (count : ℕ) (cs : List WrittenComponent) (i : ℕ) (c : WrittenComponent) {text : List ℕ} {d many : Bool} {k m n : Option Broken} → d ≡ not (is_among names text) → text ≡ c.name.text
    → Adds old (names_of_components (take i cs)) names → i ≤ length cs → Notes (broken_if (not d) (at c.name.place G6)) k m → many ≡ (min (count + i) (2 ^ 64 - 1) == 16) → Notes (broken_if many (at c.name.place G10)) m n
    → Notes (member_broken (is_among old) count (take i cs) c) k n
member_noted old names count cs i c {text} {d} {many} {k} {m} {n} is t h le g e f =
    let twice : not d ≡ (is_among old c.name.text || is_among (names_of_components (take i cs)) c.name.text) = ap not is ∙ not_not (is_among names text) ∙ ap (is_among names) t ∙ h.adds c.name.text in
    let full : many ≡ (count + length (take i cs) == 16) = e ∙ sixteen count i ∙ ap (λ x. count + x == 16) (sym (length-take-le i cs le)) in
    notes_then (subst (λ b. Notes (broken_if b (at c.name.place G6)) k m) twice g) (subst (λ b. Notes (broken_if b (at c.name.place G10)) m n) full f)

-- the same, by the item that stands there, behind what was noted for the items before it
pub member_item : (old names : List (List ℕ)) (count : ℕ) (items : List kept_written_component.WrittenComponent) (i : ℕ) (d : kept_written_component.WrittenComponent) {added many : Bool} {a k m n : Option Broken} → added ≡ not (is_among names (seen_component (get_or items i d)).name.text)
    → Adds old (names_of_components (take i (map seen_component items))) names → i < length items → Notes (each_after (member_broken (is_among old) count) [] (take i (map seen_component items))) a k
    → Notes (broken_if (not added) (at (get_or items i d).name.place G6)) k m → many ≡ (min (count + i) (2 ^ 64 - 1) == 16) → Notes (broken_if many (at (get_or items i d).name.place G10)) m n
    → Notes (each_after (member_broken (is_among old) count) [] (take (i + 1) (map seen_component items))) a n
member_item old names count items i d is h lt noted g e f =
    notes_each_after_seen seen_component items i (member_broken (is_among old) count) {x = get_or items i d} (get_or_default items i d (get_or items i d) lt) lt noted
    (member_noted old names count (map seen_component items) i (seen_component (get_or items i d)) is refl h (omega (arith, length-map items seen_component)) g e f)

-- what is noted for one class
pub class_noted : (classes : List WrittenRule) (ups : List (Option ℕ)) (i : ℕ) (c : WrittenRule) (names : List (List ℕ)) (count : ℕ) {own : List WrittenComponent} {d : Bool} {k m n : Option Broken} → Inherits classes (line_of ups i) names count → own ≡ c.components
    → d ≡ (i == 256) → Notes (broken_if d (at c.name.place G10)) k m → Notes (each_after (member_broken (is_among names) count) [] own) m n → Notes (class_broken classes ups i c) k n
class_noted classes ups i c names count {own} {d} {k} {m} {n} h o is g f =
    let all = names_along classes (line_of ups i) in
    let same : member_broken (is_among names) count ≡ member_broken (is_among all) (length all) =
    (λ t before x. broken_if (h.known x.name.text t || is_among (names_of_components before) x.name.text) (at x.name.place G6) ++ broken_if (sixteen_of count (length all) (length before) h.counted t) (at x.name.place G10)) in
    notes_then (subst (λ b. Notes (broken_if b (at c.name.place G10)) k m) is g) (subst (λ z. Notes (each_after z [] c.components) m n) same (subst (λ xs. Notes (each_after (member_broken (is_among names) count) [] xs) m n) o f))

pub on_ok : {T E P Q : Type 0} (r : Result T E) → (P → Q) → OnOk r P → OnOk r Q
on_ok (Ok x) f h = f h
on_ok (Err e) f h = tt
