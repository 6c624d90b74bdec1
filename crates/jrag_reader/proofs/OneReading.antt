-- Some tokens say one part or have one first broken rule, and not both.
use Rattle.std.proofs.Common.{◌≡◌, ℕ, ◌≤◌, List, [], ◌∷◌, ◌++◌, length, take, Some, None, sym, ap, subst, ◌∙◌, arith}
use Rattle.std.proofs.lemmas.List.{length-take-le, length-map}
use Rattle.broken_rules.proofs.Answering.{one_answer}
use Rattle.broken_rules.specs.Answers.{Answers}
use Rattle.broken_rules.specs.declared.broken.Broken.{Broken}
use Rattle.broken_rules.specs.declared.rule.Rule.TheVariants.{J17}
use Rattle.ll_parser.proofs.OneFault.{one_first}
use Rattle.ll_parser.specs.Grammar.{Derives, start as start_symbols}
use Rattle.jrag_syntax.specs.JragGrammar.{jrag_grammar}
use Rattle.rag_io.specs.Tokens.{Lexed}
use Rattle.token_texts.specs.Texts.{texts_broken}
use Rattle.jrag_syntax.specs.JragPrintedGrammar.{jrag_printed_grammar}
use Rattle.jrag_syntax.specs.Reading.{nonterminal_of, classes_of, StopsWith}
use Rattle.jrag_syntax.specs.Tokens.{token_class}
use Rattle.jrag_syntax.specs.declared.classes.Start.{Start}
use Rattle.jrag_syntax.specs.declared.classes.Start.TheVariants as starts
use Rattle.jrag_syntax.proofs.JragSentences.{printed_events}
use Rattle.jrag_syntax.proofs.OneReading.{one_said, one_syntax_fault, said_or_fault}
use Rattle.aspect_items.specs.Expressions.{Expr}
use Rattle.aspect_items.specs.Items.{Item}
use Rattle.aspect_limits.specs.Limits.{limits_broken, long_broken}
use Rattle.jrag_reader.specs.Parts.{Part, Items, expr_in, items_in}
use Rattle.jrag_reader.specs.Reading.{IsFirstBroken, SaysExpr, SaysItems, SaysWhole, stopped, too_many}
use Rattle.jrag_reader.proofs.Again.{one_part}
use Rattle.jrag_reader.proofs.Counting.{stop_count, tokens_in}
use Rattle.jrag_reader.proofs.Fronts.{same_long}

some_is : (b c : Broken) → Some b ≡ Some c → b ≡ c
some_is b c same = cc

none_is_not : (b : Broken) → None ≡ Some b → ⊥
none_is_not b same = cc

some_items : (a b : List Item) → Some a ≡ Some b → a ≡ b
some_items a b same = cc

some_exprs : (a b : Expr) → Some a ≡ Some b → a ≡ b
some_exprs a b same = cc

module _ (start : Start) (pool : List (List ℕ)) (ts : List Lexed) where
  pub one_whole : (p q : Part) → SaysWhole start pool ts p → SaysWhole start pool ts q → p ≡ q
  one_whole p q says also = one_part says.events says.sentence.reading says.part also.part

  -- two stops are at one fault
  same_number : (b c : Broken) (es fs : List ℕ) (stops : StopsWith start ts b es) (other : StopsWith start ts c fs)
      → stops.fault.number ≡ other.fault.number
  same_number b c es fs stops other =
      one_first jrag_printed_grammar (nonterminal_of start) (classes_of start ts) stops.fault.number other.fault.number stops.fault.fault other.fault.fault

  -- of the tokens before it, each has an event
  all_before : (b : Broken) (es : List ℕ) (stops : StopsWith start ts b es) → length (take stops.fault.number ts) ≤ tokens_in es
  all_before b es stops =
      let inside = stops.fault.fault.inside in
      let count = length-take-le stops.fault.number ts (omega (arith, inside, length-map ts (token_class start))) in
      omega (arith, stop_count start ts b es stops, count)

  -- and they break the same
  same_long_before : (b c : Broken) (es fs : List ℕ) (stops : StopsWith start ts b es) (other : StopsWith start ts c fs)
      → long_broken None (take stops.fault.number ts) es ≡ long_broken None (take stops.fault.number ts) fs
  same_long_before b c es fs stops other =
      let number = same_number b c es fs stops other in
      let before = stops.fault.fault.before in
      let runs = printed_events start before.sentence.runs in
      let first = stops.leading.each before.rest before.sentence.events runs in
      let also = subst (λ n. Derives jrag_grammar (start_symbols (nonterminal_of start)) (take n (classes_of start ts) ++ before.rest) before.sentence.events) number runs in
      let second = other.leading.each before.rest before.sentence.events also in
      same_long (take stops.fault.number ts) es fs first.0 second.0 (all_before b es stops)
      (subst (λ n. length (take n ts) ≤ tokens_in fs) (sym number) (all_before c fs other)) (sym first.2 ∙ second.2)

  -- all that they break by their number
  same_limits : (b c : Broken) (es fs : List ℕ) (stops : StopsWith start ts b es) (other : StopsWith start ts c fs)
      → limits_broken pool (take stops.fault.number ts) es ≡ limits_broken pool (take other.fault.number ts) fs
  same_limits b c es fs stops other =
      ap (λ bs. texts_broken J17 pool (take stops.fault.number ts) ++ bs) (same_long_before b c es fs stops other)
      ∙ ap (λ n. limits_broken pool (take n ts) fs) (same_number b c es fs stops other)

  one_of_phases : (bs cs : List Broken) (b c : Broken) → bs ≡ cs → Answers (bs ∷ []) (Some b) → Answers (cs ∷ []) (Some c) → b ≡ c
  one_of_phases bs cs b c same first second = some_is b c (one_answer first (subst (λ xs. Answers (xs ∷ []) (Some c)) (sym same) second))

  one_stop : (b c f g : Broken) (es fs : List ℕ) (stops : StopsWith start ts f es) (other : StopsWith start ts g fs)
      → Answers ((f ∷ limits_broken pool (take stops.fault.number ts) es) ∷ []) (Some b)
      → Answers ((g ∷ limits_broken pool (take other.fault.number ts) fs) ∷ []) (Some c) → b ≡ c
  one_stop b c f g es fs stops other first second =
      let same : f ∷ limits_broken pool (take stops.fault.number ts) es ≡ g ∷ limits_broken pool (take other.fault.number ts) fs =
      ap (λ x. x ∷ limits_broken pool (take stops.fault.number ts) es) (one_syntax_fault start ts f g stops.fault other.fault)
      ∙ ap (λ xs. g ∷ xs) (same_limits f g es fs stops other) in
      one_of_phases _ _ b c same first second

  pub one_broken : (b c : Broken) → IsFirstBroken start pool ts b → IsFirstBroken start pool ts c → b ≡ c
  one_broken b c (stopped {fault = f} {events = es} stops first) (stopped {fault = g} {events = fs} other second) = one_stop b c f g es fs stops other first second
  one_broken b c (stopped {fault = f} stops first) (too_many {events = fs} says second) = absurd (said_or_fault start ts fs f says stops.fault)
  one_broken b c (too_many {events = es} says first) (stopped {fault = g} other second) = absurd (said_or_fault start ts es g says other.fault)
  one_broken b c (too_many {events = es} says first) (too_many {events = fs} also second) =
      one_of_phases _ _ b c (ap (limits_broken pool ts) (one_said start ts es fs says also)) first second

  pub whole_or_broken : (p : Part) (b : Broken) → SaysWhole start pool ts p → IsFirstBroken start pool ts b → ⊥
  whole_or_broken p b says (stopped {fault = f} stops first) = said_or_fault start ts says.events f says.sentence stops.fault
  whole_or_broken p b says (too_many {events = es} also first) =
      let same = one_said start ts says.events es says.sentence also in
      none_is_not b (one_answer says.within (subst (λ xs. Answers (limits_broken pool ts xs ∷ []) (Some b)) (sym same) first))

items_of_parts : (a b : List Item) → Items a ≡ Items b → a ≡ b
items_of_parts a b same = some_items a b (ap items_in same)

-- one list of items
pub one_items : (pool : List (List ℕ)) (ts : List Lexed) (a b : List Item) → SaysItems pool ts a → SaysItems pool ts b → a ≡ b
one_items pool ts a b says also = items_of_parts a b (one_whole starts.File pool ts (Items a) (Items b) says also)

-- one expression
pub one_expr : (pool : List (List ℕ)) (ts : List Lexed) (a b : Expr) → SaysExpr pool ts a → SaysExpr pool ts b → a ≡ b
one_expr pool ts a b says also =
    some_exprs a b (sym says.is ∙ ap expr_in (one_whole starts.Expression pool ts says.part also.part says.says also.says) ∙ also.is)

pub expr_or_broken : (pool : List (List ℕ)) (ts : List Lexed) (e : Expr) (b : Broken) → SaysExpr pool ts e → IsFirstBroken starts.Expression pool ts b → ⊥
expr_or_broken pool ts e b says breaks = whole_or_broken starts.Expression pool ts says.part b says.says breaks
