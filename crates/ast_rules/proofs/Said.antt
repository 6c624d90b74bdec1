-- What is read of a parse.
use Rattle.std.proofs.Common.{◌≡◌, ℕ, List, Bool, true, false, IsTrue, codes, not, map, take, refl, ap, sym, subst, ◌∙◌}
use Rattle.std.proofs.lemmas.List.{take-map}
use Rattle.std.specs.Str.{bytes_eq}
use Rattle.ll_parser.specs.Grammar.{IsSentence, IsFault}
use Rattle.ll_parser.specs.Sentences.{FirstFault}
use Rattle.ll_parser.proofs.Sentences.{fault_there, sentence_there}
use Rattle.rag_io.specs.Tokens.{Lexed, seen_token, seen_tokens}
use Rattle.rag_io.specs.declared.token.Token as kept_token
use Rattle.ast_rules.proofs.AstSentences.{printed_sentences}
use Rattle.ast_rules.specs.AstGrammar.{ast_grammar}
use Rattle.ast_rules.specs.AstPrintedGrammar.{ast_printed_grammar}
use Rattle.ast_rules.specs.Building.{name_at, written}
use Rattle.ast_rules.specs.Reading.{BeginsComponent, SaysRules, SyntaxRule, left_out, outside}
use Rattle.ast_rules.specs.Tokens.{token_class}
use Rattle.ast_rules.specs.Written.{Name, WrittenRule}
use Rattle.broken_rules.specs.declared.rule.Rule.TheVariants.{G1, G9}

-- the classes of the tokens before one of them
pub classes_before : (ts : List kept_token.Token) (i : ℕ) → map token_class (seen_tokens (take i ts)) ≡ take i (map token_class (seen_tokens ts))
classes_before ts i = sym (take-map token_class i (seen_tokens ts) ∙ ap (map token_class) (take-map seen_token i ts))

-- a fault of the table's grammar is one of the printed grammar
pub printed_fault : {cs : List ℕ} {i : ℕ} → IsFault ast_grammar 0 cs i → FirstFault ast_printed_grammar 0 cs i
printed_fault fault = fault_there printed_sentences fault

-- a sentence of the table's grammar is one of the printed grammar, and its events write the rules
pub says_rules : {ts : List Lexed} {es : List ℕ} {said : List WrittenRule} → IsSentence ast_grammar 0 (map token_class ts) es → said ≡ written ts es → SaysRules ts said
says_rules {ts} {es} reading is = record { sentence = sentence_there printed_sentences reading; events = es; reading = reading; rules = is }

not_false : (b : Bool) → not b ≡ false → b ≡ true
not_false true e = refl
not_false false e = absurd (cc)

module _ (ts : List Lexed) (i : ℕ) (token : Name) (is : token ≡ name_at ts i) where
  same_text : bytes_eq token.text (codes "/") ≡ bytes_eq (name_at ts i).text (codes "/")
  same_text = ap (λ (n : Name). bytes_eq n.text (codes "/")) is

  -- another token than `/`
  pub outside_by_text : not (bytes_eq token.text (codes "/")) ≡ true → SyntaxRule ts i G1
  outside_by_text other = outside (λ slash b. let e = ap not (sym slash ∙ sym same_text) ∙ other in absurd (cc))

  module _ (before : List ℕ) (behind : before ≡ take i (map token_class ts)) where
    -- a place where no component begins
    pub outside_by_place : (test : Bool) → test ≡ false → (BeginsComponent before → IsTrue test) → SyntaxRule ts i G1
    outside_by_place test fails begins = outside (λ slash b. let yes = begins (subst BeginsComponent (sym behind) b) in absurd (cc))

    -- `/` where one begins
    pub left_out_by : (test : Bool) → test ≡ true → (IsTrue test → BeginsComponent before) → not (bytes_eq token.text (codes "/")) ≡ false → SyntaxRule ts i G9
    left_out_by test holds begins slash = left_out (sym same_text ∙ not_false (bytes_eq token.text (codes "/")) slash) (subst BeginsComponent behind (begins (cc)))
