-- The names of the classes, and what the phase of names comes to.
use Rattle.std.proofs.Common.{◌≡◌, ℕ, ◌<◌, List, [], ◌∷◌, Bool, true, false, not, Option, None, length, get_or, take, refl, subst}
use Rattle.std.specs.List.{flat_map}
use Rattle.std.specs.Str.{bytes_eq}
use Rattle.rag_io.specs.Distinct.{are_distinct}
use Rattle.broken_rules.specs.declared.broken.Broken.{Broken}
use Rattle.broken_rules.specs.declared.rule.Rule.TheVariants.{G2}
use Rattle.broken_rules.specs.Notes.{Notes, at, broken_if, each_after}
use Rattle.broken_rules.specs.Order.{first_of}
use Rattle.broken_rules.proofs.Clean.{append_none, each_after_none, not_broken}
use Rattle.broken_rules.proofs.Noting.{ends_of, notes_if, notes_then}
use Rattle.broken_rules.proofs.Order.{none_is}
use Rattle.names.specs.Among.{is_among}
use Rattle.names.specs.Known.{Knows, Numbers}
use Rattle.names.proofs.Distinct.{distinct_each}
use Rattle.names.proofs.Known.{was_new}
use Rattle.ast_rules.specs.Naming.{again_broken, is_class, names_of, naming_broken, rule_broken}
use Rattle.ast_rules.specs.Written.{WrittenRule}

-- G2 is noted by whether the name was new
pub again_noted : (before : List WrittenRule) (r : WrittenRule) {names : List (List ℕ)} {text : List ℕ} {added : Bool} {a b : Option Broken}
    → added ≡ not (is_among names text) → text ≡ r.name.text → Knows names (is_class before) → Notes (broken_if (not added) (at r.name.place G2)) a b → Notes (again_broken before r) a b
again_noted before r {names} {text} {added} {a} {b} is t known h = notes_if (not added) (is_class before r.name.text) (at r.name.place G2) (was_new (is_class before) is t known) h

-- what the phase noted
pub naming_ends : (rules : List WrittenRule) {names : List (List ℕ)} {old m new r : Option Broken} → Knows names (is_class rules) → old ≡ None → Notes (each_after again_broken [] rules) old m
    → Notes (flat_map (rule_broken (is_among names)) rules) m new → r ≡ new → first_of (naming_broken rules) ≡ r
naming_ends rules {names} {old} {m} {new} {r} known e h k is =
    let same : is_among names ≡ is_class rules = (λ j q. known.knows q j) in
    ends_of e (notes_then h (subst (λ (test : List ℕ → Bool). Notes (flat_map (rule_broken test) rules) m new) same k)) is

fresh : (rules : List WrittenRule) (d : WrittenRule) → each_after again_broken [] rules ≡ [] → (i : ℕ) → i < length rules → is_class (take i rules) (get_or rules i d).name.text ≡ false
fresh rules d none i lt =
    not_broken (is_class (take i rules) (get_or rules i d).name.text) (at (get_or rules i d).name.place G2) (each_after_none again_broken rules i d none lt)

-- where G2 is broken nowhere, no name stands twice
distinct_classes : (rules : List WrittenRule) → each_after again_broken [] rules ≡ [] → are_distinct bytes_eq (names_of rules) ≡ true
distinct_classes [] none = refl
distinct_classes (r ∷ rules) none = distinct_each (λ (c : WrittenRule). c.name.text) (r ∷ rules) r (fresh (r ∷ rules) r none)

-- where nothing is broken, the names are those of the classes in their order
pub naming_names : (rules : List WrittenRule) {names : List (List ℕ)} → Numbers names (names_of rules) → first_of (naming_broken rules) ≡ None → names ≡ names_of rules
naming_names rules h none =
    h.numbers (distinct_classes rules (append_none (each_after again_broken [] rules) (flat_map (rule_broken (is_class rules)) rules) (none_is (naming_broken rules) none)).0)
