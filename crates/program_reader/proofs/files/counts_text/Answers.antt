use Rattle.std.proofs.Common.{◌≡◌, List, ℕ, subst, Err, Ok, ap, sym, ◌∙◌}
use Rattle.std.proofs.lemmas.Result.{IfErr-weaker, IfOk-at_ok, IfOk-weaker}
use Rattle.ast_grammar.specs.FromBytes.{AnswersGrammar, ReadsGrammar}
use Rattle.attr_rules.specs.Rules.{RuleSet}
use Rattle.aspect_items.specs.Items.{seen_aspects}
use Rattle.run_io.specs.Fetched.{seen_pair}
use Rattle.program_reader.specs.Built.{IsCheckRefusal}
use Rattle.program_reader.specs.Files.{SaysCounts, counts_of}
use Rattle.program_reader.specs.declared.files.Refusal.TheVariants.{Memory as NoMemory}
use Rattle.program_reader.proofs.Unread.{check_aspects_refused, check_grammar_refused, check_rules_refused, written_there}
use Rattle.program_reader.proofs.files.counts_text.Goals as goal

pub returns-in-Err-clause-refused : goal.returns-in-Err-clause-refused
returns-in-Err-clause-refused c = check_grammar_refused (seen_pair c.args.contents.now) c.broken_file.result c.in-Err.fault
    (subst (λ (b : List ℕ). AnswersGrammar b (Err c.in-Err.fault)) c.deref.ensures.value c.in-Err.ensures) c.broken_file.ensures

pub returns-in-Err-read_jrag_bytes-clause-refused : goal.returns-in-Err-read_jrag_bytes-clause-refused
returns-in-Err-read_jrag_bytes-clause-refused c =
    let fault = c.in-Err-read_jrag_bytes.fault in
    check_aspects_refused (seen_pair c.args.contents.now) c.broken_file-in-Err-read_jrag_bytes.result fault c.read_jrag_bytes.new.pool
    (subst (λ (b : List ℕ). ReadsGrammar b c.in-Ok.grammar) c.deref.ensures.value c.in-Ok.ensures)
    (written_there c.read_jrag_bytes.new.pool c.in_ok-pool.ensures.said c.deref-2.ensures.value (Err fault) c.in-Err-read_jrag_bytes.ensures.says)
    c.broken_file-in-Err-read_jrag_bytes.ensures

pub returns-in-Err-check_rules-clause-refused : goal.returns-in-Err-check_rules-clause-refused
returns-in-Err-check_rules-clause-refused c =
    check_rules_refused (seen_pair c.args.contents.now) c.broken_file-in-Err-check_rules.result c.in-Err-check_rules.fault
    (subst (λ (b : List ℕ). ReadsGrammar b c.in-Ok.grammar) c.deref.ensures.value c.in-Ok.ensures)
    (written_there c.read_jrag_bytes.new.pool c.in_ok-pool.ensures.said c.deref-2.ensures.value (Ok c.in-Ok-read_jrag_bytes.aspects) c.in-Ok-read_jrag_bytes.ensures.says)
    c.in-Err-check_rules.ensures c.broken_file-in-Err-check_rules.ensures

pub returns-clause-said : goal.returns-clause-said
returns-clause-said c =
    let g = c.in-Ok.grammar in
    let aspects = seen_aspects c.in-Ok-read_jrag_bytes.aspects in
    let held = seen_pair c.args.contents.now in
    IfOk-weaker c.or_refused.result (λ text. c.line_of.result ≡ Ok text) (λ text. SaysCounts held text.items)
    (λ text same. record {
      classes = g;
      aspects = aspects;
      between = c.read_jrag_bytes.new.pool;
      grammar = subst (λ (b : List ℕ). ReadsGrammar b g) c.deref.ensures.value c.in-Ok.ensures;
      written = written_there c.read_jrag_bytes.new.pool c.in_ok-pool.ensures.said c.deref-2.ensures.value (Ok c.in-Ok-read_jrag_bytes.aspects) c.in-Ok-read_jrag_bytes.ensures.says;
      clean = c.in-Ok-check_rules.ensures.clean;
      counted = IfOk-at_ok _ same c.line_of.ensures ∙ c.counted-counts.ensures ∙ ap (λ (r : RuleSet). counts_of g r aspects) c.in-Ok-check_rules.ensures.are;
    })
    c.or_refused.ensures.said

pub returns-clause-refused : goal.returns-clause-refused
returns-clause-refused c =
    let held = seen_pair c.args.contents.now in
    IfErr-weaker c.or_refused.result (λ refusal. refusal ≡ NoMemory) (IsCheckRefusal held) (λ refusal none. subst (IsCheckRefusal held) (sym none) tt) c.or_refused.ensures.refused
