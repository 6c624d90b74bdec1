use Rattle.rag_io.specs.Tokens.{seen_tokens}
use Rattle.ast_grammar.proofs.Read.{named_again, read_allowed, read_grammar, read_numbers, read_refused}
use Rattle.ast_grammar.proofs.reading.read_ast.Goals as goal

pub returns-in_err-numbers : goal.returns-in_err-numbers
returns-in_err-numbers c =
    read_refused (seen_tokens c.args.tokens.now) c.requires c.in_ok-rules.rules.items c.deref.result.now c.deref.result.now c.in_ok-rules.ensures.says c.deref.ensures.value c.deref.ensures.value
    c.from_residual-in_err-numbers.result c.in_err-numbers.field-0.0 c.from_residual-in_err-numbers.ensures.1 c.in_err-numbers.ensures.phases

pub build-requires-clause-allowed : goal.build-requires-clause-allowed
build-requires-clause-allowed c =
    read_allowed (seen_tokens c.args.tokens.now) c.requires c.in_ok-rules.rules.items c.deref.result.now c.deref-2.result.now c.in_ok-rules.ensures.says c.deref.ensures.value c.deref-2.ensures.value c.in_ok-numbers.ensures.phases

pub build-requires-clause-words : goal.build-requires-clause-words
build-requires-clause-words c =
    named_again (seen_tokens c.args.tokens.now) c.requires c.in_ok-rules.rules.items c.deref.result.now c.deref-2.result.now c.in_ok-rules.ensures.says c.deref.ensures.value c.deref-2.ensures.value
    c.in_ok-rules.ensures.words

pub build-requires-clause-superclasses : goal.build-requires-clause-superclasses
build-requires-clause-superclasses c =
    read_numbers (seen_tokens c.args.tokens.now) c.requires c.in_ok-rules.rules.items c.deref.result.now c.deref-2.result.now c.in_ok-rules.ensures.says c.deref.ensures.value c.deref-2.ensures.value c.in_ok-numbers.ensures.phases
    c.in_ok-numbers.ensures.superclasses

pub returns : goal.returns
returns c =
    read_grammar (seen_tokens c.args.tokens.now) c.requires c.in_ok-rules.rules.items c.deref.result.now c.deref-2.result.now c.in_ok-rules.ensures.says c.deref.ensures.value c.deref-2.ensures.value c.in_ok-numbers.ensures.phases
    c.in_ok-build.ensures
