-- Of the rules that some tokens say there is one at least.
use Rattle.std.proofs.Common.{◌≡◌, ℕ, zero, suc, ◌<◌, ◌==◌, ◌⊎◌, inl, inr, max, Bool, true, false, not, ◌||◌, List, [], ◌∷◌, ◌++◌, length, Some, refl, ap, sym, subst, ◌∙◌, arith, length-append}
use Rattle.std.specs.List.{list_all}
use Rattle.std.proofs.lemmas.Bool.{and_parts, or_cases, eqb-true}
use Rattle.std.proofs.Math.Bool.{or-true}
use Rattle.rag_io.specs.Tokens.{Lexed}
use Rattle.ll_parser.specs.declared.symbols.Symbol.{Symbol}
use Rattle.ll_parser.specs.declared.symbols.Symbol.TheVariants.{Terminal, Nonterminal, Action}
use Rattle.ll_parser.specs.Grammar.{Derives, Production, done, token, act, rule, nth, shift}
use Rattle.ll_parser.specs.Table.{member}
use Rattle.ast_rules.proofs.Levels.{actions, level_after, leads, opened}
use Rattle.ast_rules.proofs.Rising.{at_listed}
use Rattle.ast_rules.specs.AstGrammar.{ast_grammar}
use Rattle.ast_rules.specs.Building.{Building, nothing, after, built}
use Rattle.ast_rules.specs.Reading.{SaysRules}
use Rattle.ast_rules.specs.Written.{WrittenRule}

-- some action ends a rule, or a nonterminal leads to one
abbrev ends_rule : List Symbol → Bool
ends_rule [] = false
ends_rule (Terminal c ∷ s) = ends_rule s
ends_rule (Action a ∷ s) = (a == 11) || ends_rule s
ends_rule (Nonterminal n ∷ s) = ((n == 0) || (n == 2)) || ends_rule s

or_first : (x y : Bool) → x ≡ true → (x || y) ≡ true
or_first x y e = ap (λ b. b || y) e

or_second : (x y : Bool) → y ≡ true → (x || y) ≡ true
or_second x y e = ap (λ b. x || b) e ∙ or-true x

ends_rule-left : (xs s : List Symbol) → ends_rule xs ≡ true → ends_rule (xs ++ s) ≡ true
ends_rule-left [] s e = absurd (cc)
ends_rule-left (Terminal c ∷ xs) s e = ends_rule-left xs s e
ends_rule-left (Action a ∷ xs) s e = elim (or_cases (a == 11) (ends_rule xs) e) [
  | inl h ↦ or_first (a == 11) (ends_rule (xs ++ s)) h
  | inr h ↦ or_second (a == 11) (ends_rule (xs ++ s)) (ends_rule-left xs s h)
]
ends_rule-left (Nonterminal n ∷ xs) s e = elim (or_cases ((n == 0) || (n == 2)) (ends_rule xs) e) [
  | inl h ↦ or_first ((n == 0) || (n == 2)) (ends_rule (xs ++ s)) h
  | inr h ↦ or_second ((n == 0) || (n == 2)) (ends_rule (xs ++ s)) (ends_rule-left xs s h)
]

ends_rule-right : (xs s : List Symbol) → ends_rule s ≡ true → ends_rule (xs ++ s) ≡ true
ends_rule-right [] s e = e
ends_rule-right (Terminal c ∷ xs) s e = ends_rule-right xs s e
ends_rule-right (Action a ∷ xs) s e = or_second (a == 11) (ends_rule (xs ++ s)) (ends_rule-right xs s e)
ends_rule-right (Nonterminal n ∷ xs) s e = or_second ((n == 0) || (n == 2)) (ends_rule (xs ++ s)) (ends_rule-right xs s e)

-- a production of such a nonterminal ends one
abbrev row_ends : Production → Bool
row_ends r = not ((r.of == 0) || (r.of == 2)) || ends_rule r.body

row_at : (rows : List Production) (p : ℕ) (r : Production) → list_all row_ends rows ≡ true → nth rows p ≡ Some r → row_ends r ≡ true
row_at [] p r e h = absurd (cc)
row_at (x ∷ rows) zero r e h = let same : x ≡ r = cc in subst (λ y. row_ends y ≡ true) same (and_parts (row_ends x) (list_all row_ends rows) e).0
row_at (x ∷ rows) (suc p) r e h = row_at rows p r (and_parts (row_ends x) (list_all row_ends rows) e).1 h

ends_opened : (p : ℕ) (r : Production) {n : ℕ} (s : List Symbol) → nth ast_grammar p ≡ Some r → r.of ≡ n → ends_rule (Nonterminal n ∷ s) ≡ true → ends_rule (r.body ++ s) ≡ true
ends_opened p r {n} s at is e = elim (or_cases ((n == 0) || (n == 2)) (ends_rule s) e) [
  | inl h ↦
      let row = row_at ast_grammar p r refl at in
      let closed : not ((r.of == 0) || (r.of == 2)) ≡ false = ap (λ m. not ((m == 0) || (m == 2))) is ∙ ap not h in
      ends_rule-left r.body s (sym (ap (λ b. b || ends_rule r.body) closed) ∙ row)
  | inr h ↦ ends_rule-right r.body s h
]

module _ (ts : List Lexed) where
  -- each action keeps the rules that there are, and the last of them adds one
  keeps : (b : Building) (a : ℕ) → member a actions ≡ true → (a ≡ 11) ⊎ (0 < length b.rules) → 0 < length (after ts b a).rules
  keeps b a listed some = at_listed (λ a. (a ≡ 11) ⊎ (0 < length b.rules) → 0 < length (after ts b a).rules) a actions listed (
    other 1 (λ e. absurd (omega arith)),
    (
      other 2 (λ e. absurd (omega arith)),
      (
        other 3 (λ e. absurd (omega arith)),
        (
          other 4 (λ e. absurd (omega arith)),
          (
            other 5 (λ e. absurd (omega arith)),
            (
              other 6 (λ e. absurd (omega arith)),
              (
                other 7 (λ e. absurd (omega arith)),
                (
                  other 8 (λ e. absurd (omega arith)),
                  (other 9 (λ e. absurd (omega arith)), (other 10 (λ e. absurd (omega arith)), (λ k. added, tt))),
                ),
              ),
            ),
          ),
        ),
      ),
    ),
  ) some
    where
      other : (a : ℕ) → (a ≡ 11 → ⊥) → (a ≡ 11) ⊎ (0 < length b.rules) → 0 < length b.rules
      other a not_last (inl last) = absurd (not_last last)
      other a not_last (inr more) = more

      added : 0 < length (after ts b 11).rules
      added = omega (arith, length-append b.rules (record { abstract = b.abstract; name = b.name; superclass = b.superclass; components = b.components } ∷ []))

  built_some : {s : List Symbol} {cs es : List ℕ} → Derives ast_grammar s cs es → (l : ℕ) (b : Building) → leads 0 l s ≡ true → (ends_rule s ≡ true) ⊎ (0 < length b.rules) → 0 < length (built ts b es).rules
  built_some done l b e (inl m) = absurd (cc)
  built_some done l b e (inr m) = m
  built_some (token d) l b e m = built_some d (max l 1) (after ts b shift) e m
  built_some (act {a} {s} d) l b e m =
      let parts = and_parts _ _ e in
      let listed = (and_parts _ _ parts.0).0 in
      let ended : (ends_rule s ≡ true) ⊎ (0 < length (after ts b a).rules) = elim m [
        | inl k ↦ elim (or_cases (a == 11) (ends_rule s) k) [
          | inl here ↦ inr (keeps b a listed (inl (eqb-true a 11 here)))
          | inr later ↦ inl later
        ]
        | inr some ↦ inr (keeps b a listed (inr some))
      ] in
      built_some d (level_after l a) (after ts b a) parts.1 ended
  built_some (rule {s = s} p r at is d) l b e m =
      built_some d l b (opened 0 l ast_grammar p r s refl at is e) (elim m [ inl k ↦ inl (ends_opened p r s at is k) | inr some ↦ inr some ])

-- some rule is said
pub some_rule : (ts : List Lexed) (said : List WrittenRule) → SaysRules ts said → 0 < length said
some_rule ts said says = subst (λ (rules : List WrittenRule). 0 < length rules) (sym says.rules) (built_some ts says.reading.runs 0 (nothing ts) refl (inl refl))
