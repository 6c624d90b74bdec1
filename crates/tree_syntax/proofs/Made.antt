-- The tokens that write something are a sentence.
use Rattle.std.proofs.Common.{◌≡◌, ℕ, Bool, true, false, List, [], ◌∷◌, ◌++◌, map, codes, Some, inl, inr, refl, subst}
use Rattle.rag_io.specs.declared.token.Place.{Place}
use Rattle.rag_io.specs.declared.token.TokenKind.TheVariants.{Name, Text, Int}
use Rattle.rag_io.specs.Tokens.{Lexed}
use Rattle.ll_parser.specs.declared.symbols.Symbol.{Symbol}
use Rattle.ll_parser.specs.declared.symbols.Symbol.TheVariants.{Terminal, Nonterminal}
use Rattle.ll_parser.specs.Grammar.{Production, nth, shift, done, token, rule}
use Rattle.ll_parser.specs.Sentences.{Makes, Sentence}
use Rattle.tree_syntax.proofs.Classes.{class_is, zero_at_end, sign_is, name_cases}
use Rattle.tree_syntax.specs.Tokens.{token_class}
use Rattle.tree_syntax.specs.TreePrintedGrammar.{tree_printed_grammar}
use Rattle.tree_syntax.specs.Written.{Written, Node, AreNodes, IsNode, Mode, Start, Argument, Behind, Writes, Spells, none, some, over, comma, node, brackets, text, int, negative, truth, truth_word}

-- symbols make the classes of some tokens
record MakesTokens (s : List Symbol) (ts : List Lexed) : Type 0 where
  makes : Makes tree_printed_grammar s (map token_class ts)

-- a nonterminal, by a production
by_rule : (s : List Symbol) (p : ℕ) {r : Production} {ts : List Lexed} → nth tree_printed_grammar p ≡ Some r → MakesTokens (r.body ++ s) ts → MakesTokens (Nonterminal r.of ∷ s) ts
by_rule s p {r} at m = record { makes = record { events = m.makes.events; runs = rule p r at refl m.makes.runs } }

-- a token of a class
by_token : {s : List Symbol} {ts : List Lexed} (t : Lexed) (c : ℕ) → token_class t ≡ c → MakesTokens s ts → MakesTokens (Terminal c ∷ s) (t ∷ ts)
by_token {s} {ts} t c is m = subst (λ x. MakesTokens (Terminal x ∷ s) (t ∷ ts)) is (record { makes = record { events = shift ∷ m.makes.events; runs = token m.makes.runs } })

-- a name
name_made : {ts : List Lexed} (s : List Symbol) (t : Lexed) → t.kind ≡ Name → MakesTokens s ts → MakesTokens (Nonterminal 2 ∷ s) (t ∷ ts)
name_made s t k m = elim (name_cases t k) [
  | (inl is) ↦ by_rule s 2 refl (by_token t 1 is m)
  | (inr (inl is)) ↦ by_rule s 3 refl (by_token t 2 is m)
  | (inr (inr is)) ↦ by_rule s 4 refl (by_token t 3 is m)
]

-- a truth value
truth_made : {ts : List Lexed} (s : List Symbol) (t : Lexed) (b : Bool) → t.kind ≡ Name → t.text ≡ truth_word b → MakesTokens s ts → MakesTokens (Nonterminal 5 ∷ s) (t ∷ ts)
truth_made s t true k e m = by_rule s 14 refl (by_token t 2 (class_is t Name (truth_word true) k e) m)
truth_made s t false k e m = by_rule s 15 refl (by_token t 3 (class_is t Name (truth_word false) k e) m)

-- what makes the tokens of arguments
abbrev symbols_of : Mode → List Symbol
symbols_of Start = Nonterminal 3 ∷ []
symbols_of Argument = Nonterminal 5 ∷ Nonterminal 4 ∷ []
symbols_of Behind = Nonterminal 4 ∷ []

-- and what makes those of nodes
abbrev node_symbols_of : Mode → List Symbol
node_symbols_of Start = Nonterminal 6 ∷ []
node_symbols_of Argument = Nonterminal 1 ∷ Nonterminal 7 ∷ []
node_symbols_of Behind = Nonterminal 7 ∷ []

-- what is spelled from some tokens to others, the symbols make
record Made (mode : Mode) (w : Written) (ts rest : List Lexed) : Type 0 where
  arguments : (s : List Symbol) → MakesTokens s rest → MakesTokens (symbols_of mode ++ s) ts
  nodes : AreNodes w → (s : List Symbol) → MakesTokens s rest → MakesTokens (node_symbols_of mode ++ s) ts

-- a node, by its arguments
node_made : {ts us : List Lexed} {w : Written} (s : List Symbol) (t o c : Lexed) → t.kind ≡ Name → token_class o ≡ 6 → token_class c ≡ 7
    → Made Start w ts (c ∷ us) → MakesTokens s us → MakesTokens (Nonterminal 1 ∷ s) (t ∷ o ∷ ts)
node_made s t o c name opens closes arguments m =
    by_rule s 1 refl (name_made (Terminal 6 ∷ Nonterminal 3 ∷ Terminal 7 ∷ s) t name (by_token o 6 opens (arguments.arguments (Terminal 7 ∷ s) (by_token c 7 closes m))))

-- by what is spelled
made : {mode : Mode} {w : Written} {ts rest : List Lexed} → Spells mode w ts rest → Made mode w ts rest
made none = record { arguments = λ s m. by_rule s 6 refl m; nodes = λ n s m. by_rule s 17 refl m }
made (some first) = let i = made first in record { arguments = λ s m. by_rule s 5 refl (i.arguments s m); nodes = λ n s m. by_rule s 16 refl (i.nodes n s m) }
made over = record { arguments = λ s m. by_rule s 8 refl m; nodes = λ n s m. by_rule s 19 refl m }
made (comma {t} is next) =
    let i = made next in
    record {
      arguments = λ s m. by_rule s 7 refl (by_token t 10 (sign_is t (codes ",") is) (i.arguments s m));
      nodes = λ n s m. by_rule s 18 refl (by_token t 10 (sign_is t (codes ",") is) (i.nodes n s m));
    }
made (node {t} {o} {c} name opens arguments closes behind) =
    let i = made arguments in
    let b = made behind in
    let at_o = sign_is o (codes "(") opens in
    let at_c = sign_is c (codes ")") closes in
    record {
      arguments = λ s m. by_rule (Nonterminal 4 ∷ s) 9 refl (node_made (Nonterminal 4 ∷ s) t o c name at_o at_c i (b.arguments s m));
      nodes = λ n s m. node_made (Nonterminal 7 ∷ s) t o c name at_o at_c i (b.nodes n s m);
    }
made (brackets {o} {c} opens are nodes closes behind) =
    let i = made nodes in
    let b = made behind in
    let at_o = sign_is o (codes "[") opens in
    let at_c = sign_is c (codes "]") closes in
    record {
      arguments = λ s m. by_rule (Nonterminal 4 ∷ s) 10 refl (by_token o 8 at_o (i.nodes are (Terminal 9 ∷ Nonterminal 4 ∷ s) (by_token c 9 at_c (b.arguments s m))));
      nodes = λ n s m. absurd n;
    }
made (text {t} is behind) =
    let b = made behind in
    record { arguments = λ s m. by_rule (Nonterminal 4 ∷ s) 11 refl (by_token t 4 (class_is t Text t.text is refl) (b.arguments s m)); nodes = λ n s m. absurd n }
made (int {t} is behind) =
    let b = made behind in
    record { arguments = λ s m. by_rule (Nonterminal 4 ∷ s) 12 refl (by_token t 5 (class_is t Int t.text is refl) (b.arguments s m)); nodes = λ n s m. absurd n }
made (negative {s = minus} {t} sign is behind) =
    let b = made behind in
    let at_minus = sign_is minus (codes "-") sign in
    record {
      arguments = λ s m. by_rule (Nonterminal 4 ∷ s) 13 refl (by_token minus 11 at_minus (by_token t 5 (class_is t Int t.text is refl) (b.arguments s m)));
      nodes = λ n s m. absurd n;
    }
made (truth {t} {b = holds} name word behind) =
    let b = made behind in
    record { arguments = λ s m. truth_made (Nonterminal 4 ∷ s) t holds name word (b.arguments s m); nodes = λ n s m. absurd n }

-- a node with an argument behind it is more than one
more_than_one : (name : List ℕ) (p : Place) (arguments : Written) {w : Written} {ts rest : List Lexed} → Spells Argument w ts rest → IsNode (Node name p arguments w) → ⊥
more_than_one name p arguments (node kind opens inner closes behind) is = is
more_than_one name p arguments (brackets opens are nodes closes behind) is = is
more_than_one name p arguments (text kind behind) is = is
more_than_one name p arguments (int kind behind) is = is
more_than_one name p arguments (negative sign kind behind) is = is
more_than_one name p arguments (truth kind word behind) is = is

-- one node is made by the nonterminal of nodes, and nothing follows it
one_made : {w : Written} {ts : List Lexed} (end : Lexed) → token_class end ≡ 0 → IsNode w → Spells Argument w ts (end ∷ []) → MakesTokens (Nonterminal 1 ∷ Terminal 0 ∷ []) ts
one_made end ends is (node {t} {o} {c} name opens arguments closes over) =
    node_made (Terminal 0 ∷ []) t o c name (sign_is o (codes "(") opens) (sign_is c (codes ")") closes) (made arguments) (by_token end 0 ends (record { makes = record { events = []; runs = done } }))
one_made end ends is (node {t} {arguments = a} name opens arguments closes (comma sign next)) = absurd (more_than_one t.text t.place a next is)
one_made end ends is (brackets opens are nodes closes behind) = absurd is
one_made end ends is (text kind behind) = absurd is
one_made end ends is (int kind behind) = absurd is
one_made end ends is (negative sign kind behind) = absurd is
one_made end ends is (truth kind word behind) = absurd is

-- the tokens that write something are a sentence
pub sentence_of : {ts : List Lexed} {w : Written} → Writes ts w → Sentence tree_printed_grammar 0 (map token_class ts)
sentence_of writes = (by_rule (Terminal 0 ∷ []) 0 refl (one_made writes.end (zero_at_end writes.end writes.ends) writes.node writes.spells)).makes
