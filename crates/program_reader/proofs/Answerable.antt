-- What a query asks is well typed, and what the four files say breaks no rule.
use Rattle.std.proofs.Common.{◌≡◌, ℕ, List, All, length, sym, ap, subst, arith}
use Rattle.std.proofs.lemmas.List.Elements.{All-cons}
use Rattle.rag_io.specs.Tokens.{Lexed}
use Rattle.rag_io.specs.Pool.{ArePooled}
use Rattle.ast_grammar.specs.FromBytes.{ReadsGrammar}
use Rattle.ast_grammar.specs.Grammar.{Class, IsGrammar, superclasses_of}
use Rattle.ast_grammar.proofs.Read.{said_allowed}
use Rattle.attr_rules.specs.Queries.{Query}
use Rattle.attr_rules.specs.Rules.{AreRules, EquationsRise, RuleSet}
use Rattle.attr_types.specs.Phases.{phases_of, rules_of}
use Rattle.attr_types.proofs.Accepted.{accepted}
use Rattle.attr_types.proofs.AskedTyped.{asked_typed}
use Rattle.attr_types.proofs.MadeWell.{equations_made}
use Rattle.aspect_items.specs.Items.{Item as AspectItem}
use Rattle.monotone_check.specs.Equations.{equations_broken}
use Rattle.monotone_check.proofs.PermittedRises.{equations_rise}
use Rattle.equation_law.specs.Checked.{HasSourcesAlone, IsProgram, IsTyped, NoneCreated}
use Rattle.tree_arena.specs.Nodes.{Node}
use Rattle.tree_arena.specs.Terms.{IsTreeOf}
use Rattle.tree_reader.specs.FromBytes.{ReadsTree}
use Rattle.tree_reader.proofs.Said.{said_tree}
use Rattle.equation_law.specs.Program.{Program, class_of}
use Rattle.program_reader.specs.Files.{AreAccepted, SaysProgram, no_texts}
use Rattle.run_io.specs.Files.{Contents}
use Rattle.program_reader.specs.Queries.{SaysLines, over, silent, query, SaysQuery, SaysQueries}
use Rattle.rag_io.specs.Decimal.{decimal}
use Rattle.program_reader.specs.Tokens.{place_at, text_at}
use Rattle.equation_law.proofs.Plain.{plain_alone}
use Rattle.program_reader.proofs.NoneCreated.{none_created}
use Rattle.program_reader.proofs.Pooled.{kept_pooled, one_pooled}
use Rattle.program_reader.proofs.Tested.{clean_front, clean_last}

-- what tokens and lines ask
module _ (p : Program) (good : AreRules p.grammar p.rules) where
  query_typed : {ts : List Lexed} (q : Query) → SaysQuery p.grammar p.rules p.tree ts q → IsTyped p q
  query_typed {ts} q s =
      let asked = asked_typed p.grammar p.rules good.superclasses (class_of p) (class_of p 0) (decimal (text_at ts 1)) (place_at ts 3) s.class s.node (text_at ts 3) q s.is in
      record {
        type = asked.type;
        typed = asked.typed;
        kept = asked.kept;
      }

  lines_typed : {lines : List (List ℕ)} {qs : List Query} → SaysLines p.grammar p.rules p.tree lines qs → All (IsTyped p) qs
  lines_typed over = λ k d h. absurd (omega arith)
  lines_typed (silent e more) = lines_typed more
  lines_typed (query {e = q} {es = qs} s scanned says more) = All-cons (IsTyped p) q qs (query_typed q says) (lines_typed more)

  -- what the bytes of a query file ask is well typed in the program
  queries_typed : {bytes : List ℕ} {qs : List Query} → SaysQueries p.grammar p.rules p.tree bytes qs → All (IsTyped p) qs
  queries_typed says = lines_typed says.said

-- the rules have the superclasses that count for them
pub superclasses_in : (rules : RuleSet) (g : List Class) (aspects : List AspectItem) → rules ≡ rules_of g aspects → rules.superclasses ≡ superclasses_of g
unfolding rules_of
superclasses_in rules g aspects are = ap (λ (r : RuleSet). r.superclasses) are

-- what the bytes of a grammar file say breaks no rule
pub grammar_allowed : {g : List Class} {bytes : List ℕ} → ReadsGrammar bytes g → IsGrammar g
grammar_allowed {bytes = bytes} s = said_allowed (record { bytes = bytes; scanned = s.scanned }) s.says

-- and what the bytes of a tree file say is a tree of the grammar
pub tree_allowed : {g : List Class} {before : List (List ℕ)} {bytes : List ℕ} {tree : List Node} {texts : List (List ℕ)} → ReadsTree g before bytes tree texts
    → IsTreeOf g (length texts) tree
tree_allowed {g} {tree = tree} s = subst (λ (x : List (List ℕ)). IsTreeOf g (length x) tree) (sym s.pooled) (said_tree s.says)

-- accepted aspects make rules of the grammar
rules_allowed : (rules : RuleSet) (g : List Class) (aspects : List AspectItem) → IsGrammar g → AreAccepted g aspects → rules ≡ rules_of g aspects → AreRules g rules
rules_allowed rules g aspects grammar a are = subst (AreRules g) (sym are) (accepted g aspects grammar (clean_front (phases_of g aspects) (equations_broken (rules_of g aspects)) a.clean))

-- and the equations of circular attributes in them rise
rules_rise : (rules : RuleSet) (g : List Class) (aspects : List AspectItem) → AreAccepted g aspects → rules ≡ rules_of g aspects → EquationsRise rules
rules_rise rules g aspects a are = subst EquationsRise (sym are) (equations_rise (rules_of g aspects) (equations_made g aspects) (clean_last (phases_of g aspects) (equations_broken (rules_of g aspects)) a.clean))

-- the four files say a program that breaks no rule, whose texts are those of a pool
pub is_program : (held : Contents) (p : Program) → SaysProgram held p → ArePooled p.texts → IsProgram p
is_program held p s pooled =
    let rules = rules_allowed p.rules p.grammar s.written (grammar_allowed s.grammar) s.accepted s.rules in
    record {
      grammar = grammar_allowed s.grammar;
      rules = rules;
      rising = rules_rise p.rules p.grammar s.written s.accepted s.rules;
      texts = pooled;
      tree = tree_allowed s.tree;
      queries = queries_typed p rules s.queries;
    }

-- those texts are
pub said_program : (held : Contents) (p : Program) → SaysProgram held p → IsProgram p
said_program held p s =
    let between : ArePooled s.between = subst ArePooled (sym s.aspects.are_pooled) (kept_pooled no_texts s.aspects.tokens one_pooled) in
    is_program held p s (subst ArePooled (sym s.tree.pooled) (kept_pooled s.between s.tree.tokens between))

-- and make nothing
pub said_alone : (held : Contents) (p : Program) → SaysProgram held p → HasSourcesAlone p
said_alone held p s = plain_alone p (said_program held p s) (subst NoneCreated (sym s.rules) (none_created p.grammar s.written s.accepted.built))
