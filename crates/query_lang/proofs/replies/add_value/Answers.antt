use Rattle.std.proofs.Common.{rules, ◌≡◌, ◌++◌, OnOk, ap, map, refl, ◌∙◌}
use Rattle.std.specs.Fmt.{signed_decimal}
use Rattle.equation_law.specs.Codes.{reference_of, single_of, source_names, value_of}
use Rattle.equation_law.specs.Program.{text_of as text_in}
use Rattle.equation_law.specs.Systems.{program_of}
use Rattle.equation_law.specs.Values.{Int, Node, Text, Truth}
use Rattle.query_lang.specs.Replies.{in_braces, of_int, of_text, of_truth}
use Rattle.query_lang.specs.Singles.{single_text}
use Rattle.equation_law.proofs.Sources.{source_naming}
use Rattle.query_lang.proofs.ReplyTexts.{code_has, set_has, text_added}
use Rattle.query_lang.proofs.replies.add_value.Goals as goal

pub returns-in-Truth : goal.returns-in-Truth
returns-in-Truth c =
    let texts = text_in (program_of c.args.system.now) in
    text_added c.add_truth.result (value_of texts c.args.value.now) (Truth c.in-Truth.truth) _ c.args.text.now.items c.add_truth.new.text.items (ap (value_of texts) c.in-Truth.is) (of_truth c.in-Truth.truth) c.add_truth.ensures

pub returns-in-Int : goal.returns-in-Int
returns-in-Int c =
    let texts = text_in (program_of c.args.system.now) in
    let added : OnOk c.add_int.result (c.add_int.new.text.items ≡ c.args.text.now.items ++ signed_decimal c.in-Int.int) = search rules in
    text_added c.add_int.result (value_of texts c.args.value.now) (Int c.in-Int.int) _ c.args.text.now.items c.add_int.new.text.items (ap (value_of texts) c.in-Int.is) (of_int c.in-Int.int) added

pub returns-in-Text : goal.returns-in-Text
returns-in-Text c =
    let texts = text_in (program_of c.args.system.now) in
    text_added c.add_text.result (value_of texts c.args.value.now) (Text (texts c.in-Text.number.0)) _ c.args.text.now.items c.add_text.new.text.items (ap (value_of texts) c.in-Text.is) (of_text (texts c.in-Text.number.0)) c.add_text.ensures

pub returns-in-Node : goal.returns-in-Node
returns-in-Node c =
    let texts = text_in (program_of c.args.system.now) in
    let reference = reference_of c.in-Node.node.0 in
    text_added c.add_node.result (value_of texts c.args.value.now) (Node reference) _ c.args.text.now.items c.add_node.new.text.items (ap (value_of texts) c.in-Node.is) (code_has c.in-Node.node.0) c.add_node.ensures

pub returns-in_ok-list-in-Texts : goal.returns-in_ok-list-in-Texts
returns-in_ok-list-in-Texts c =
    let texts = text_in (program_of c.args.system.now) in
    let v = value_of texts c.args.value.now in
    let list = c.deref.result.now in
    let named = source_naming (program_of c.args.system.now) in
    let has = set_has texts c.args.value.now list c.in-Texts.is (ap (map (single_of texts)) c.deref.ensures.value ∙ c.in_ok-list-in-Texts.ensures (source_names texts) named.0 named.1) in
    text_added c.add_set.result v v (in_braces (map (single_text texts) list)) c.args.text.now.items c.add_set.new.text.items refl has c.add_set.ensures
