use Rattle.std.proofs.Common.{◌≡◌, ◌++◌, ◌∷◌, reverse, ap, subst, sym, ◌∙◌, [], arith, get_or, take, length}
use Rattle.ll_parser.specs.declared.symbols.Symbol.TheVariants.{Terminal, Nonterminal}
use Rattle.ll_parser.specs.Grammar.{start}
use Rattle.ll_parser.proofs.Steps.{ready_start, sofar_start}
use Rattle.ll_parser.proofs.Coding.{read_more, leading_at, fault_at, next_at, ended_at, one_default}
use Rattle.ll_parser.specs.Stack.{rows_of, choice_of, Sofar, Ready}
use Rattle.ll_parser.proofs.parser.parse.Goals as goal

pub tokens-init : goal.tokens-init
tokens-init g c =
    let e : start c.args.n ≡ reverse c.push-2.new.self.items = let a = c.in_ok-push-2.ensures.items in let b = c.in_ok-push.ensures.items in let d = c.new-stack.ensures.items in
    sym (ap reverse (a ∙ ap (λ z. z ++ Nonterminal c.args.n ∷ []) (b ∙ ap (λ z. z ++ Terminal 0 ∷ []) d))) in
    record {
      sofar = subst (λ s. Sofar (rows_of c.args.table.now) c.args.n [] s c.args.events.now.items) e (subst (λ x. Sofar (rows_of c.args.table.now) c.args.n [] (start c.args.n) x) (sym c.requires.1.1.1) (sofar_start (rows_of c.args.table.now) c.args.n));
      ready = subst (λ s. Ready (rows_of c.args.table.now) g.facts s) e (ready_start (rows_of c.args.table.now) c.args.n (choice_of c.args.table.now.choice.now) g.facts c.requires.0);
      read = omega arith;
      over = λ h. absurd (omega arith);
    }

pub returns-in-Ok-false : goal.returns-in-Ok-false
returns-in-Ok-false g c =
    let i = c.tokens.invariant in
    let s = rw c.in-Ok-false.field-0-test at c.in-Ok-false.ensures in (
      fault_at (rows_of c.args.table.now) c.args.n g.facts (choice_of c.args.table.now.choice.now) c.args.codes.now c.tokens.i (reverse c.tokens.stack.items) c.tokens.events.items c.requires.0 i.sofar i.ready s.0 (omega arith),
      leading_at (rows_of c.args.table.now) c.args.n _ c.tokens.events.items c.advance.new.events.items _ (reverse c.tokens.stack.items) i.sofar i.read s.1
          (c.truncate.ensures.items ∙ ap (λ k. take k c.advance.new.events.items) (let e : c.len-before.result ≡ length c.tokens.events.items = omega (arith, c.tokens.events.ok.0, c.len-before.ensures) in e)),
    )

pub tokens-preserved : goal.tokens-preserved
tokens-preserved g c =
    let i = c.tokens.invariant in
    let s = rw c.in-Ok-true.field-0-test at c.in-Ok-true.ensures in
    record {
      sofar = next_at (rows_of c.args.table.now) c.args.n c.args.codes.now c.tokens.i (reverse c.tokens.stack.items) (reverse c.advance.new.stack.items) c.tokens.events.items c.advance.new.events.items i.sofar s.0 (omega arith);
      ready = s.1;
      read = read_more c.args.codes.now c.tokens.i c.tokens.events.items c.advance.new.events.items i.read s.3 (omega arith);
      over = λ h e. s.2 (one_default c.args.codes.now c.tokens.i 0 1 (omega arith) ∙ ap (λ k. get_or c.args.codes.now k 1) (omega arith) ∙ e);
    }

pub returns : goal.returns
returns g c = ended_at (rows_of c.args.table.now) c.args.n c.args.codes.now c.tokens.i (reverse c.tokens.stack.items) c.tokens.events.items c.tokens.invariant.sofar c.tokens.invariant.over (omega arith) c.requires.1.0 c.requires.1.1.0
