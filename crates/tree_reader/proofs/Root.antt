-- The root of a tree is named by the first token.
use Rattle.std.proofs.Common.{◌≡◌, List, [], ◌∷◌, Bool, Option, Some, option_map, slice_get, ap, sym, subst, ◌∙◌}
use Rattle.broken_rules.specs.declared.broken.Broken.{Broken}
use Rattle.broken_rules.specs.declared.rule.Rule.TheVariants.{N6}
use Rattle.broken_rules.specs.Notes.{Notes, at, broken_if}
use Rattle.rag_io.specs.Tokens.{Lexed, seen_token, seen_tokens}
use Rattle.rag_io.specs.declared.token.Place.{Place}
use Rattle.rag_io.specs.declared.token.Token as kept_token
use Rattle.ast_grammar.specs.declared.grammar.ClassId.{ClassId}
use Rattle.ast_grammar.specs.Grammar.{Class, class_named, number_of}
use Rattle.tree_arena.specs.Terms.{first_class}
use Rattle.tree_syntax.specs.Written.{Written, IsNode, Argument, Spells, node, brackets, text, int, negative, truth, Writes}
use Rattle.tree_reader.specs.Breaking.{is_apart, root_broken}

-- what the root breaks, by a token
abbrev broken_first : List Class → Lexed → List Broken
broken_first g t = broken_if (is_apart g (class_named g t.text) first_class) (at t.place N6)

-- a node begins with its name
begins_with : {w : Written} {ts rest : List Lexed} → Spells Argument w ts rest → IsNode w → (g : List Class) (t : Lexed) (more : List Lexed) → ts ≡ t ∷ more → broken_first g t ≡ root_broken g w
begins_with (node {t = u} kind opens inner closes behind) is g t more e =
    let same : t ≡ u = cc in
    ap (broken_first g) same
begins_with (brackets opens are inner closes behind) is g t more e = absurd is
begins_with (text kind behind) is g t more e = absurd is
begins_with (int kind behind) is g t more e = absurd is
begins_with (negative sign kind behind) is g t more e = absurd is
begins_with (truth kind word behind) is g t more e = absurd is

-- the first of some tokens in memory
first_token : (g : List Class) (tokens : List kept_token.Token) (name : kept_token.Token) (w : Written) → Some name ≡ slice_get tokens 0 → Writes (seen_tokens tokens) w
    → broken_first g (seen_token name) ≡ root_broken g w
first_token g [] name w first writes = absurd (cc)
first_token g (t ∷ more) name w first writes =
    let same : name ≡ t = cc in
    begins_with writes.spells writes.node g (seen_token name) (seen_tokens more) (ap (λ (x : kept_token.Token). seen_token x ∷ seen_tokens more) (sym same))

-- what was noted of it is what the root breaks
pub root_noted : (g : List Class) (tokens : List kept_token.Token) (name : kept_token.Token) (w : Written) (class : Option ClassId) (first : ClassId) {apart : Bool} {place : Place} {old new : Option Broken}
    → Some name ≡ slice_get tokens 0 → Writes (seen_tokens tokens) w → option_map number_of class ≡ class_named g name.text.now → first.0 ≡ 0
    → apart ≡ is_apart g (option_map number_of class) first → place ≡ (seen_token name).place → Notes (broken_if apart (at place N6)) old new → Notes (root_broken g w) old new
root_noted g tokens name w class first {apart} {place} {old} {new} begins writes found zero is stands noted =
    let wanted : first ≡ first_class = (λ i. record { 0 = zero i }) in
    let tested : apart ≡ is_apart g (class_named g name.text.now) first_class = is ∙ (λ i. is_apart g (found i) (wanted i)) in
    subst (λ bs. Notes bs old new) ((λ i. broken_if (tested i) (at (stands i) N6)) ∙ first_token g tokens name w begins writes) noted
