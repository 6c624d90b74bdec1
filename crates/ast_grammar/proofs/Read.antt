-- What is read of some tokens, by the rules that they say.
use Rattle.std.proofs.Common.{◌≡◌, ℕ, List, Option, None, Result, Ok, Err, refl, ap, sym, subst, ◌∙◌}
use Rattle.std.specs.Result.{IsErrAnd}
use Rattle.broken_rules.specs.Answers.{Answers, Refuses}
use Rattle.broken_rules.specs.declared.broken.ReadFault.{ReadFault}
use Rattle.broken_rules.specs.declared.broken.ReadFault.TheVariants as faults
use Rattle.rag_io.specs.Tokens.{AreTokens, Lexed}
use Rattle.superclasses.specs.Superclasses.{AreWithin}
use Rattle.ast_rules.proofs.Named.{named_rules}
use Rattle.ast_rules.proofs.SomeRule.{some_rule}
use Rattle.ast_rules.specs.Naming.{names_of}
use Rattle.ast_rules.specs.Phases.{grammar_phases}
use Rattle.ast_rules.specs.Reading.{AreNamed, SaysRules}
use Rattle.ast_rules.specs.Superclasses.{superclass_numbers}
use Rattle.ast_rules.specs.Written.{WrittenRule, seen_rules}
use Rattle.ast_rules.specs.declared.written.WrittenRule as kept_written_rule
use Rattle.ast_grammar.specs.Grammar.{Class, IsGrammar}
use Rattle.ast_grammar.specs.Reading.{ReadsAst, SaysGrammar, checked}
use Rattle.ast_grammar.specs.Written.{grammar_written}
use Rattle.ast_grammar.proofs.CleanRules.{clean_grammar}
use Rattle.ast_grammar.proofs.WrittenClasses.{superclasses_are}

-- what the tokens of some bytes say as a grammar is one
pub said_allowed : {ts : List Lexed} {g : List Class} → AreTokens ts → SaysGrammar ts g → IsGrammar g
said_allowed {ts} tokens s = subst IsGrammar (sym s.classes) (clean_grammar s.rules (named_rules ts s.rules tokens s.said) (some_rule ts s.rules s.said) s.clean)

refused : (ts : List Lexed) (rules : List WrittenRule) (e : ReadFault) → SaysRules ts rules → Refuses (grammar_phases rules) e → ReadsAst ts (Err e)
refused ts rules (faults.Broken b) says answer = checked says answer
refused ts rules faults.Memory says answer = tt

-- why rules are refused is handed on
handed_on : (ts : List Lexed) (rules : List WrittenRule) (r : Result (List Class) ReadFault) (e : ReadFault) → IsErrAnd r (λ x. x ≡ e) → SaysRules ts rules → Refuses (grammar_phases rules) e → ReadsAst ts r
handed_on ts rules (Ok g) e h says answer = absurd h
handed_on ts rules (Err x) e h says answer = subst (λ (y : ReadFault). ReadsAst ts (Err y)) (sym h) (refused ts rules e says answer)

-- The rules that are read stand in a list, of which the first copy is checked and the second is built of.
module _ (ts : List Lexed) (tokens : AreTokens ts) (read first second : List kept_written_rule.WrittenRule) (says : SaysRules ts (seen_rules read)) (once : first ≡ read) (twice : second ≡ read) where
  same_rules : seen_rules first ≡ seen_rules second
  same_rules = ap seen_rules (once ∙ sym twice)

  said_again : SaysRules ts (seen_rules second)
  said_again = subst (λ rs. SaysRules ts (seen_rules rs)) (sym twice) says

  pub named_again : AreNamed (seen_rules read) → AreNamed (seen_rules second)
  named_again named = subst (λ rs. AreNamed (seen_rules rs)) (sym twice) named

  pub read_refused : (r : Result (List Class) ReadFault) (e : ReadFault) → IsErrAnd r (λ x. x ≡ e) → Refuses (grammar_phases (seen_rules first)) e → ReadsAst ts r
  read_refused r e h answer = handed_on ts (seen_rules first) r e h (subst (λ rs. SaysRules ts (seen_rules rs)) (sym once) says) answer

  module _ (answer : Answers (grammar_phases (seen_rules first)) None) where
    unbroken : Answers (grammar_phases (seen_rules second)) None
    unbroken = subst (λ rs. Answers (grammar_phases rs) None) same_rules answer

    pub read_grammar : {g : List Class} → g ≡ grammar_written (seen_rules second) → SaysGrammar ts g
    read_grammar is = record { rules = seen_rules second; said = said_again; clean = unbroken; classes = is }

    pub read_allowed : IsGrammar (grammar_written (seen_rules second))
    read_allowed = said_allowed tokens (read_grammar refl)

    pub read_numbers : {numbers : List (Option ℕ)} → numbers ≡ superclass_numbers (names_of (seen_rules first)) (seen_rules first) → numbers ≡ superclass_numbers (names_of (seen_rules second)) (seen_rules second)
    read_numbers is = is ∙ ap (λ rs. superclass_numbers (names_of rs) rs) same_rules

-- the superclasses of a grammar are classes of it
pub numbers_within : (rules : List WrittenRule) {numbers : List (Option ℕ)} → IsGrammar (grammar_written rules) → numbers ≡ superclass_numbers (names_of rules) rules → AreWithin numbers
numbers_within rules allowed is = subst AreWithin (superclasses_are rules ∙ sym is) allowed.within
