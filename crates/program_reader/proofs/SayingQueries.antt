-- What the lines of some bytes say.
use Rattle.std.proofs.Common.{◌≡◌, ℕ, ◌+◌, ◌<◌, ◌≤◌, List, [], ◌∷◌, ◌++◌, Option, Some, None, Result, Ok, Err, map, length, refl, sym, ap, subst, ◌∙◌, append-nil, append_assoc, arith}
use Rattle.rag_io.specs.declared.Memory.{Memory}
use Rattle.rag_io.specs.declared.token.Place.{Place}
use Rattle.rag_io.specs.Tokens.{Lexed, IsTokens, IsFirstBad, first_place}
use Rattle.rag_io.proofs.Readings.{one_list, not_both}
use Rattle.ll_parser.specs.Grammar.{IsSentence}
use Rattle.ast_grammar.specs.Grammar.{Class}
use Rattle.attr_rules.specs.declared.queries.QueryEq.{QueryEq}
use Rattle.attr_rules.specs.Queries.{Query}
use Rattle.attr_rules.specs.Rules.{RuleSet}
use Rattle.attr_types.specs.Asked.{query_named}
use Rattle.tree_arena.specs.Nodes.{Node}
use Rattle.program_reader.specs.Queries.{query_class, SaysQuery, SaysLines, over, silent, query, SaysQueries, AreLines, none, most_lines}
use Rattle.program_reader.specs.QueryGrammar.{query_grammar}
use Rattle.program_reader.specs.QuerySteps.{IsCall, AnswersCall, AnswersQuery, AnswersLine, SaysLine, IsFirstLine, Adds, nothing, one, IsWrong, SaysBehind, IsSofar}
use Rattle.rag_io.specs.Decimal.{decimal}
use Rattle.program_reader.specs.Tokens.{place_at, text_at}
use Rattle.program_reader.proofs.Lines.{parted, joined, some_line, one_lines}

module _ (g : List Class) (rules : RuleSet) (tree : List Node) where
  -- there is one call of a name at a number
  pub one_call : {digits name : List ℕ} {place : Place} {e f : Query} → IsCall g rules tree digits name place e → IsCall g rules tree digits name place f → e ≡ f
  one_call {digits} {name} {place} {e} {f} a b =
      let class : a.class ≡ b.class = let both = sym a.node ∙ b.node in cc in
      let both : Some e ≡ Some f = sym a.is ∙ ap (λ c. query_named g rules (decimal digits) c name place) class ∙ b.is in
      cc

  -- what tokens say is the call of their words
  pub call_of : {ts : List Lexed} {e : Query} → SaysQuery g rules tree ts e → IsCall g rules tree (text_at ts 1) (text_at ts 3) (place_at ts 3) e
  call_of s = record { class = s.class; node = s.node; is = s.is }

  -- tokens that are a sentence say the call of their words
  pub query_by : (ts : List Lexed) {events : List ℕ} (r : Result (Option QueryEq) Memory) → IsSentence query_grammar 0 (map query_class ts) events → AnswersCall g rules tree (text_at ts 1) (text_at ts 3) (place_at ts 3) r → AnswersQuery g rules tree ts r
  query_by ts {events = events} (Ok (Some q)) s a = record { events = events; sentence = s; class = a.class; node = a.node; is = a.is }
  query_by ts (Ok None) s a = λ e says. a e (call_of says)
  query_by ts (Err m) s a = tt

  -- a line says what its tokens say
  pub line_by : {line : List ℕ} {ts : List Lexed} (r : Result (Option QueryEq) Memory) → IsTokens first_place line ts → AnswersQuery g rules tree ts r → AnswersLine g rules tree line r
  line_by {ts = ts} (Ok (Some q)) scanned a = record { tokens = ts; scanned = scanned; says = a }
  line_by (Ok None) scanned a = λ e says. a e (subst (λ us. SaysQuery g rules tree us e) (one_list says.scanned scanned) says.says)
  line_by (Err m) scanned a = tt

  -- a line with a bad place says nothing
  pub no_line : {line : List ℕ} {p : Place} → IsFirstBad first_place line p → (e : Query) → SaysLine g rules tree line e → ⊥
  no_line bad e says = not_both says.scanned bad

  -- tokens, a line, lines and some bytes say one query, or one list of queries
  pub one_query : {ts : List Lexed} {e f : Query} → SaysQuery g rules tree ts e → SaysQuery g rules tree ts f → e ≡ f
  one_query a b = one_call (call_of a) (call_of b)

  pub one_line : {line : List ℕ} {e f : Query} → SaysLine g rules tree line e → SaysLine g rules tree line f → e ≡ f
  one_line {f = f} a b = one_query a.says (subst (λ ts. SaysQuery g rules tree ts f) (one_list b.scanned a.scanned) b.says)

  pub one_said : {lines : List (List ℕ)} {a b : List Query} → SaysLines g rules tree lines a → SaysLines g rules tree lines b → a ≡ b
  one_said over over = refl
  one_said (silent s a) (silent t b) = one_said a b
  one_said (silent s a) (query t i q b) = cc
  one_said (query s i p a) (silent t b) = cc
  one_said (query {e = e} {es = es} {ts = ts} s i p a) (query {e = f} {es = fs} {ts = us} t j q b) =
      let first : e ≡ f = one_line (record { tokens = ts; scanned = i; says = p }) (record { tokens = us; scanned = j; says = q }) in
      ap (λ x. x ∷ es) first ∙ ap (λ xs. f ∷ xs) (one_said a b)

  pub one_queries : {bytes : List ℕ} {a b : List Query} → SaysQueries g rules tree bytes a → SaysQueries g rules tree bytes b → a ≡ b
  one_queries {b = b} x y = one_said x.said (subst (λ ls. SaysLines g rules tree ls b) (one_lines y.are_lines x.are_lines) y.said)

  -- behind the last line
  pub sofar_ends : {bytes rest : List ℕ} {n : ℕ} {old : List Query} → IsSofar g rules tree bytes n rest old → rest ≡ [] → n ≤ most_lines → SaysQueries g rules tree bytes old
  sofar_ends {bytes} {n = n} {old = old} sofar e few =
      subst (SaysQueries g rules tree bytes) (append-nil old) (sofar.forth [] (record { lines = []; are_lines = subst (λ x. AreLines x []) (sym e) none; few = omega arith; said = over }))

  -- with too many lines
  pub sofar_many : {bytes rest : List ℕ} {n : ℕ} {old : List Query} → IsSofar g rules tree bytes n rest old → 0 < length rest → most_lines ≤ n → (all : List Query) → SaysQueries g rules tree bytes all → ⊥
  sofar_many sofar some many all says =
      let b = (sofar.back all says).2 in
      absurd (omega (arith, b.few, some_line b.are_lines some))

  -- behind one more line
  module _ {bytes rest line behind : List ℕ} {n : ℕ} {old : List Query} (sofar : IsSofar g rules tree bytes n rest old) (some : 0 < length rest) (first : IsFirstLine rest line behind) where
    -- the line and those behind it
    with_line : {es fs : List Query} (s : SaysBehind g rules tree (n + 1) behind es) → SaysLines g rules tree (line ∷ s.lines) fs → SaysBehind g rules tree n rest fs
    with_line s said = record { lines = line ∷ s.lines; are_lines = joined first some s.are_lines; few = omega (arith, s.few); said = said }

    -- what the lines behind say, the bytes say behind what was read
    goes_forth : {new : List Query} → Adds g rules tree line old new → (es : List Query) → SaysBehind g rules tree (n + 1) behind es → SaysQueries g rules tree bytes (new ++ es)
    goes_forth (nothing quiet same) es s = subst (λ x. SaysQueries g rules tree bytes (x ++ es)) (sym same) (sofar.forth es (with_line s (silent quiet s.said)))
    goes_forth (one e loud says same) es s =
        let longer = sofar.forth (e ∷ es) (with_line s (query loud says.scanned says.says s.said)) in
        subst (SaysQueries g rules tree bytes) (sym (ap (λ x. x ++ es) same ∙ append_assoc old (e ∷ []) es)) longer

    -- the lines behind
    fewer : {es : List Query} {others : List (List ℕ)} → AreLines behind others → n + length (line ∷ others) ≤ most_lines → SaysLines g rules tree others es → SaysBehind g rules tree (n + 1) behind es
    fewer {others = others} a few said = record { lines = others; are_lines = a; few = omega arith; said = said }

    -- what the bytes say is what was read, and what the lines behind say
    goes_back_to : {new : List Query} → Adds g rules tree line old new → (all es : List Query) → all ≡ old ++ es → (others : List (List ℕ)) → AreLines behind others → n + length (line ∷ others) ≤ most_lines → SaysLines g rules tree (line ∷ others) es
        → (fs : List Query) × (all ≡ new ++ fs) × SaysBehind g rules tree (n + 1) behind fs
    goes_back_to (nothing quiet same) all es is others a few (silent q said) = (es, is ∙ ap (λ x. x ++ es) (sym same), fewer a few said)
    goes_back_to (nothing quiet same) all es is others a few (query l i q said) = cc
    goes_back_to (one e loud says same) all es is others a few (silent q said) = cc
    goes_back_to (one e loud says same) all es is others a few (query {e = f} {es = fs} {ts = ts} l i q said) =
        let are : f ≡ e = one_line (record { tokens = ts; scanned = i; says = q }) says in
        (fs, is ∙ ap (λ x. old ++ x ∷ fs) are ∙ sym (append_assoc old (e ∷ []) fs) ∙ ap (λ x. x ++ fs) (sym same), fewer a few said)

    goes_back : {new : List Query} → Adds g rules tree line old new → (all : List Query) → SaysQueries g rules tree bytes all → (es : List Query) × (all ≡ new ++ es) × SaysBehind g rules tree (n + 1) behind es
    goes_back adds all says =
        let b = sofar.back all says in
        let p = parted line behind b.2.are_lines some first in
        goes_back_to adds all b.0 b.1 p.others p.behind (subst (λ x. n + length x ≤ most_lines) p.are b.2.few) (subst (λ x. SaysLines g rules tree x b.0) p.are b.2.said)

    pub sofar_goes : {new : List Query} → Adds g rules tree line old new → IsSofar g rules tree bytes (n + 1) behind new
    sofar_goes adds = record { forth = goes_forth adds; back = goes_back adds }

    -- a line that says no query
    wrong_line : {es : List Query} {others : List (List ℕ)} → IsWrong g rules tree line → SaysLines g rules tree (line ∷ others) es → ⊥
    wrong_line wrong (silent q said) = let l = wrong.loud in cc
    wrong_line wrong (query {e = e} {ts = ts} l i q said) = wrong.none e (record { tokens = ts; scanned = i; says = q })

    pub sofar_wrong : IsWrong g rules tree line → (all : List Query) → SaysQueries g rules tree bytes all → ⊥
    sofar_wrong wrong all says =
        let b = sofar.back all says in
        let p = parted line behind b.2.are_lines some first in
        wrong_line wrong (subst (λ x. SaysLines g rules tree x b.0) p.are b.2.said)
