use Rattle.std.proofs.Common.{refl, ◌∙◌}
use Rattle.token_texts.proofs.Quoted.{quoted_tokens}
use Rattle.tree_reader.proofs.Read.{is_read, read_clean, read_is_tree, read_refused, read_says}
use Rattle.tree_reader.proofs.reading.read_tree.Goals as goal

pub pool_texts-requires : goal.pool_texts-requires
pool_texts-requires c = quoted_tokens c.requires

pub returns-in_err-answer-clause-says : goal.returns-in_err-answer-clause-says
returns-in_err-answer-clause-says c =
    let texts = c.in_ok-texts.ensures in
    let codes = c.deref.ensures.value ∙ texts.codes in
    let read = is_read c.in_ok-check_syntax.ensures c.new-broken.ensures codes texts.pooled texts.noted c.note_root.ensures c.in_ok-laying.ensures in
    read_refused read c.from_residual-in_err-answer.result c.in_err-answer.field-0.0 c.in_err-answer.ensures c.from_residual-in_err-answer.ensures.1

pub of_nodes-requires : goal.of_nodes-requires
of_nodes-requires c =
    let texts = c.in_ok-texts.ensures in
    let codes = c.deref.ensures.value ∙ texts.codes in
    let read = is_read c.in_ok-check_syntax.ensures c.new-broken.ensures codes texts.pooled texts.noted c.note_root.ensures c.in_ok-laying.ensures in
    let unbroken = read_clean read c.in_ok-answer.field-0 c.in_ok-answer.ensures in
    read_is_tree read unbroken c.classes-classes.ensures.allowed _ refl

pub returns-clause-says : goal.returns-clause-says
returns-clause-says c =
    let texts = c.in_ok-texts.ensures in
    let codes = c.deref.ensures.value ∙ texts.codes in
    let read = is_read c.in_ok-check_syntax.ensures c.new-broken.ensures codes texts.pooled texts.noted c.note_root.ensures c.in_ok-laying.ensures in
    let unbroken = read_clean read c.in_ok-answer.field-0 c.in_ok-answer.ensures in
    read_says read unbroken _ _ refl c.in_ok-of_nodes.ensures
