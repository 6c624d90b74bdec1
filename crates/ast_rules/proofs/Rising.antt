-- The places of rules that are read of a file rise.
use Rattle.std.proofs.Common.{◌≡◌, ℕ, zero, suc, ◌+◌, ◌-◌, ◌<◌, ◌≤◌, ◌==◌, ◌⊎◌, inl, inr, max, true, List, [], ◌∷◌, ◌++◌, length, map, slice_get, get_or, Option, Some, refl, ap, sym, subst, ◌∙◌, arith}
use Rattle.std.specs.List.{All, AllByRecursion, Contains}
use Rattle.std.proofs.lemmas.Bool.{and_parts, or_cases, eqb-true, leb-true}
use Rattle.std.proofs.lemmas.List.{length-map}
use Rattle.std.proofs.lemmas.List.Elements.{All-nil, All-cons, All-push, All-weaker, All-map, All-contains}
use Rattle.std.proofs.lemmas.Option.{slice_get-get_or, slice_get_within, get_or_from_slice_get}
use Rattle.rag_io.specs.declared.token.Place.{Place}
use Rattle.rag_io.specs.Places.{IsAhead, PlacesRise}
use Rattle.rag_io.specs.Tokens.{Lexed, AreTokens}
use Rattle.rag_io.proofs.Places.{places_rise}
use Rattle.ll_parser.specs.declared.symbols.Symbol.{Symbol}
use Rattle.ll_parser.specs.Grammar.{Derives, done, token, act, rule, shift}
use Rattle.ll_parser.specs.Table.{member}
use Rattle.ast_rules.proofs.Levels.{actions, needed, level_after, leads, opened}
use Rattle.ast_rules.specs.AstGrammar.{ast_grammar}
use Rattle.ast_rules.specs.Building.{Building, name_at, name_in, nothing, after, built}
use Rattle.ast_rules.specs.Members.{AllAhead, Rises, places_of}
use Rattle.ast_rules.specs.Reading.{SaysRules}
use Rattle.ast_rules.specs.Tokens.{token_class}
use Rattle.ast_rules.specs.Written.{WrittenComponent, WrittenRule}

-- a number of a list passes what each of them passes
pub at_listed : (Q : ℕ → Type 0) (a : ℕ) (xs : List ℕ) → member a xs ≡ true → AllByRecursion Q xs → Q a
at_listed Q a [] e all = absurd (cc)
at_listed Q a (x ∷ xs) e all = elim (or_cases (a == x) (member a xs) e) [
  | inl same ↦ subst Q (sym (eqb-true a x same)) all.0
  | inr more ↦ at_listed Q a xs more all.1
]

-- no rules
none_rise : Rises []
none_rise = record { ahead = λ i j rule later lt here there. absurd (let within : j < 0 = slice_get_within [] j later there in omega arith) }

-- the item of a number, of a list with one put last
push_cases : {X : Type 0} (xs : List X) (x y : X) (i : ℕ) → slice_get (xs ++ x ∷ []) i ≡ Some y → (slice_get xs i ≡ Some y) ⊎ ((i ≡ length xs) × (x ≡ y))
push_cases [] x y zero e = inr (refl, cc)
push_cases [] x y (suc i) e = absurd (cc)
push_cases (z ∷ xs) x y zero e = inl e
push_cases (z ∷ xs) x y (suc i) e = elim (push_cases xs x y i e) [ inl h ↦ inl h | inr h ↦ inr (ap suc h.0, h.1) ]

contains_got : {X : Type 0} (xs : List X) (i : ℕ) (x : X) → slice_get xs i ≡ Some x → Contains xs x
contains_got xs i x e = (i, slice_get_within xs i x e, get_or_from_slice_get xs i x x e)

-- rules that rise, and one that stands behind them
rises_push : (rules : List WrittenRule) (r : WrittenRule) → Rises rules → ((rule : WrittenRule) → Contains rules rule → AllAhead rule r) → Rises (rules ++ r ∷ [])
rises_push rules r rises behind = record {
  ahead = λ i j rule later lt here there.
      elim (push_cases rules r later j there) [
        | inl at ↦ elim (push_cases rules r rule i here) [
          | inl from ↦ rises.ahead i j rule later lt from at
          | inr end ↦ absurd (let last : i ≡ length rules = end.0 in let within : j < length rules = slice_get_within rules j later at in omega arith)
        ]
        | inr end ↦ elim (push_cases rules r rule i here) [
          | inl from ↦ subst (AllAhead rule) end.1 (behind rule (contains_got rules i rule from))
          | inr both ↦ absurd (let last : i ≡ length rules = both.0 in let same : j ≡ length rules = end.0 in omega arith)
        ]
      ];
}

module _ (ts : List Lexed) where
  -- a place at which one of these tokens stands
  abbrev Stands : ℕ → ℕ → Place → Type 0
  Stands from to p = (n : ℕ) × (from ≤ n) × (n < to) × (p ≡ (name_at ts n).place)

  wider : (low to from high : ℕ) (p : Place) → from ≤ low → to ≤ high → Stands low to p → Stands from high p
  wider low to from high p left right s =
      let least : low ≤ s.0 = s.1 in
      let most : s.0 < to = s.2 in
      (s.0, omega arith, omega arith, s.3)

  -- What is known at a level, behind some tokens: the rules of before stand before the token of a number, and of the rule that is
  -- being read all stands from there on.
  record Known (l at : ℕ) (name word : Place) (components : List WrittenComponent) (rules : List WrittenRule) : Type 0 where
    from : ℕ
    bound : from ≤ at
    read : 1 ≤ l → from < at
    named : 2 ≤ l → Stands from at name
    worded : 3 ≤ l → Stands from at word
    parts : All (λ (c : WrittenComponent). Stands from at c.name.place) components
    before : All (λ (r : WrittenRule). All (Stands 0 from) (places_of r)) rules
    rises : Rises rules

  abbrev Holds : ℕ → Building → Type 0
  Holds l b = Known l b.at b.name.place b.word.place b.components b.rules

  holds_nothing : Holds 0 (nothing ts)
  holds_nothing = record {
    from = 0;
    bound = omega arith;
    read = λ h. absurd (omega arith);
    named = λ h. absurd (omega arith);
    worded = λ h. absurd (omega arith);
    parts = All-nil (λ (c : WrittenComponent). Stands 0 0 c.name.place);
    before = All-nil (λ (r : WrittenRule). All (Stands 0 0) (places_of r));
    rises = none_rise;
  }

  -- one more token
  holds_read : (l : ℕ) (b : Building) → Holds l b → Holds (max l 1) (after ts b shift)
  holds_read l b h =
      let bound : h.from ≤ b.at = h.bound in
      let more = λ (p : Place) (s : Stands h.from b.at p). wider h.from b.at h.from (b.at + 1) p (omega arith) (omega arith) s in
      record {
        from = h.from;
        bound = omega arith;
        read = λ k. omega arith;
        named = λ k. more b.name.place (h.named (omega arith));
        worded = λ k. more b.word.place (h.worded (omega arith));
        parts = All-weaker (λ (c : WrittenComponent). Stands h.from b.at c.name.place) (λ (c : WrittenComponent). Stands h.from (b.at + 1) c.name.place)
            (λ c s. more c.name.place s) b.components h.parts;
        before = h.before;
        rises = h.rises;
      }

  -- the last token stands among those that were read of the rule
  last_stands : (from at : ℕ) → from < at → Stands from at (name_at ts (at - 1)).place
  last_stands from at lt = (at - 1, omega arith, omega arith, refl)

  holds_name : (l : ℕ) (b : Building) → 1 ≤ l → Holds l b → Holds 2 (after ts b 3)
  holds_name l b least h = record {
    from = h.from;
    bound = h.bound;
    read = λ k. h.read least;
    named = λ k. last_stands h.from b.at (h.read least);
    worded = λ k. absurd (omega arith);
    parts = h.parts;
    before = h.before;
    rises = h.rises;
  }

  holds_word : (l : ℕ) (b : Building) → 2 ≤ l → Holds l b → Holds 3 (after ts b 5)
  holds_word l b least h =
      let read : h.from < b.at = h.read (omega arith) in
      record {
        from = h.from;
        bound = h.bound;
        read = λ k. read;
        named = λ k. h.named least;
        worded = λ k. last_stands h.from b.at read;
        parts = h.parts;
        before = h.before;
        rises = h.rises;
      }

  holds_component : (l : ℕ) (b : Building) (c : WrittenComponent) → c.name.place ≡ b.word.place → 3 ≤ l → Holds l b
      → Known l b.at b.name.place b.word.place (b.components ++ c ∷ []) b.rules
  holds_component l b c same least h = record {
    from = h.from;
    bound = h.bound;
    read = h.read;
    named = h.named;
    worded = h.worded;
    parts = All-push (λ (c : WrittenComponent). Stands h.from b.at c.name.place) b.components c h.parts (subst (Stands h.from b.at) (sym same) (h.worded least));
    before = h.before;
    rises = h.rises;
  }

  module _ (rise : (i j : ℕ) → i < j → j < length ts → IsAhead (name_at ts i).place (name_at ts j).place) where
    stands_ahead : (at : ℕ) (p q : Place) {to : ℕ} → to ≤ length ts → Stands 0 at p → Stands at to q → IsAhead p q
    stands_ahead at p q {to} within s u =
        let left : s.0 < at = s.2 in
        let right : at ≤ u.0 = u.1 in
        let most : u.0 < to = u.2 in
        subst (λ (x : Place). IsAhead x q) (sym s.3) (subst (IsAhead (name_at ts s.0).place) (sym u.3) (rise s.0 u.0 (omega arith) (omega arith)))

    holds_rule : (l : ℕ) (b : Building) → 2 ≤ l → b.at ≤ length ts → Holds l b → Holds 0 (after ts b 11)
    holds_rule l b least within h =
        let r : WrittenRule = record { abstract = b.abstract; name = b.name; superclass = b.superclass; components = b.components } in
        let bound : h.from ≤ b.at = h.bound in
        let places : All (Stands h.from b.at) (places_of r) = All-cons (Stands h.from b.at) b.name.place (map (λ (c : WrittenComponent). c.name.place) b.components) (h.named least)
        (All-map (Stands h.from b.at) (λ (c : WrittenComponent). c.name.place) b.components h.parts) in
        let wide = λ (rule : WrittenRule) (all : All (Stands 0 h.from) (places_of rule)).
        All-weaker (Stands 0 h.from) (Stands 0 b.at) (λ p s. wider 0 h.from 0 b.at p (omega arith) bound s) (places_of rule) all in
        record {
          from = b.at;
          bound = omega arith;
          read = λ k. absurd (omega arith);
          named = λ k. absurd (omega arith);
          worded = λ k. absurd (omega arith);
          parts = All-nil (λ (c : WrittenComponent). Stands b.at b.at c.name.place);
          before = All-push (λ (rule : WrittenRule). All (Stands 0 b.at) (places_of rule)) b.rules r
              (All-weaker (λ (rule : WrittenRule). All (Stands 0 h.from) (places_of rule)) (λ (rule : WrittenRule). All (Stands 0 b.at) (places_of rule)) wide b.rules h.before)
              (All-weaker (Stands h.from b.at) (Stands 0 b.at) (λ p s. wider h.from b.at 0 b.at p (omega arith) (omega arith) s) (places_of r) places);
          rises = rises_push b.rules r h.rises (λ rule among p q left right.
              stands_ahead h.from p q within (All-contains (Stands 0 h.from) (places_of rule) p (All-contains (λ (rule : WrittenRule). All (Stands 0 h.from) (places_of rule)) b.rules rule h.before among) left)
              (All-contains (Stands h.from b.at) (places_of r) q places right));
        }

    -- an action at a level that it needs
    holds_after : (l : ℕ) (b : Building) (a : ℕ) → member a actions ≡ true → needed a ≤ l → b.at ≤ length ts → Holds l b → Holds (level_after l a) (after ts b a) × ((after ts b a).at ≡ b.at)
    holds_after l b a listed least within h = at_listed (λ a. needed a ≤ l → Holds (level_after l a) (after ts b a) × ((after ts b a).at ≡ b.at)) a actions listed (
      λ k. (h, refl),
      (
        λ k. (h, refl),
        (
          λ k. (holds_name l b k h, refl),
          (
            λ k. (h, refl),
            (
              λ k. (holds_word l b k h, refl),
              (
                λ k. (h, refl),
                (
                  λ k. (holds_component l b _ refl k h, refl),
                  (
                    λ k. (holds_component l b _ refl k h, refl),
                    (
                      λ k. (holds_component l b _ refl k h, refl),
                      (
                        λ k. (holds_component l b _ refl k h, refl),
                        (λ k. (holds_rule l b k within h, refl), tt),
                      ),
                    ),
                  ),
                ),
              ),
            ),
          ),
        ),
      ),
    ) least

    -- the rules that are built along a derivation rise
    built_rise : {s : List Symbol} {cs es : List ℕ} → Derives ast_grammar s cs es → (l : ℕ) (b : Building) → leads 0 l s ≡ true → b.at + length cs ≡ length ts → Holds l b → Rises (built ts b es).rules
    built_rise done l b e all h = h.rises
    built_rise (token {ts = cs} d) l b e all h = built_rise d (max l 1) (after ts b shift) e (omega arith) (holds_read l b h)
    built_rise (act {a} {ts = cs} d) l b e all h =
        let parts = and_parts _ _ e in
        let can = and_parts _ _ parts.0 in
        let next = holds_after l b a can.0 (leb-true (needed a) l can.1) (omega arith) h in
        built_rise d (level_after l a) (after ts b a) parts.1 (ap (λ n. n + length cs) next.1 ∙ all) next.0
    built_rise (rule {s = s} p r at is d) l b e all h = built_rise d l b (opened 0 l ast_grammar p r s refl at is e) all h

-- the places of names that tokens write rise
names_rise : (ts : List Lexed) → PlacesRise ts → (i j : ℕ) → i < j → j < length ts → IsAhead (name_at ts i).place (name_at ts j).place
names_rise [] rise i j lt within = absurd (omega arith)
names_rise (t ∷ more) rise i j lt within =
    let ts = t ∷ more in
    let first : slice_get ts i ≡ Some (get_or ts i t) = slice_get-get_or ts i t (omega arith) in
    let second : slice_get ts j ≡ Some (get_or ts j t) = slice_get-get_or ts j t within in
    subst (λ (o : Option Lexed). IsAhead (name_in o).place (name_at ts j).place) (sym first)
    (subst (λ (o : Option Lexed). IsAhead (get_or ts i t).place (name_in o).place) (sym second) (rise i j (get_or ts i t) (get_or ts j t) lt first second))

-- the rules that some tokens say rise
pub rises : (ts : List Lexed) (said : List WrittenRule) → AreTokens ts → SaysRules ts said → Rises said
rises ts said tokens says =
    let all : 0 + length (map token_class ts) ≡ length ts = omega (arith, length-map ts token_class) in
    subst Rises (sym says.rules)
    (built_rise ts (names_rise ts (places_rise tokens)) says.reading.runs 0 (nothing ts) refl all (holds_nothing ts))
