use Rattle.std.proofs.Common.{◌≡◌, ◌++◌, ◌∷◌, [], ◌<◌, ◌^◌, List, ℕ, Option, codes, length, reverse, ap, sym, subst, ◌∙◌, arith, rules}
use Rattle.std.proofs.lemmas.List.{length-append}
use Rattle.std.proofs.lemmas.Result.{on_ok_weaker}
use Rattle.rag_io.specs.Quoting.{quoted}
use Rattle.tree_writer.specs.declared.parts.Part.{Part}
use Rattle.tree_writer.specs.declared.parts.Part.TheVariants.{CloseList}
use Rattle.tree_writer.specs.Canonical.{argument_text, int_text, text_or_empty}
use Rattle.tree_writer.specs.Parts.{PutsNodes}
use Rattle.tree_writer.proofs.Integers.{int_some}
use Rattle.tree_writer.proofs.Subtrees.{IsTokenShape}
use Rattle.tree_writer.proofs.Turns.{argument_child, argument_known, argument_text_known, argument_token, child_before, child_goes_on, child_part, child_still, listed_goes_on, puts_before, token_before, token_goes_on, token_still}
use Rattle.tree_writer.proofs.writing.write_argument.Goals as goal

pub component-requires-clause-within : goal.component-requires-clause-within
component-requires-clause-within g c = argument_known c.args.n c.args.k c.class_of-class.result c.requires.part c.class_of-class.ensures.class

pub child-child-requires : goal.child-child-requires
child-child-requires g c =
    let looked = c.class_of-class in
    child_still (λ m t h. g.met.N.ShowsNodes.still c.args.nodes.now looked.new.self m t looked.ensures.kept h) c.args.n c.args.k 0
    (argument_child c.args.n c.args.k looked.result c.component.result.now c.requires.part looked.ensures.class c.component.ensures c.in-Child.is)

pub write_node-requires : goal.write_node-requires
write_node-requires g c =
    let laws = g.met.N.ShowsNodes in
    let looked = c.class_of-class in
    let child = c.child-child in
    record {
      part = child_part (λ m t h. laws.still looked.new.self child.new.self m t child.ensures.kept (laws.still c.args.nodes.now looked.new.self m t looked.ensures.kept h))
          c.args.n c.args.k child.result looked.result c.component.result.now c.requires.part looked.ensures.class c.component.ensures c.in-Child.is
          (child_before (λ m t h. laws.still c.args.nodes.now looked.new.self m t looked.ensures.kept h) (g.N.ShowsNodes.shows child.new.self) c.args.n c.args.k 0 child.result child.ensures.child);
    }

pub returns-in-Child-clause-on : goal.returns-in-Child-clause-on
returns-in-Child-clause-on g c =
    let laws = g.met.N.ShowsNodes in
    let looked = c.class_of-class in
    let child = c.child-child in
    on_ok_weaker c.write_node.result
    (λ on whole half. on whole
    (child_goes_on (λ m t h. laws.still looked.new.self child.new.self m t child.ensures.kept (laws.still c.args.nodes.now looked.new.self m t looked.ensures.kept h))
    c.args.n c.args.k child.result looked.result c.component.result.now c.args.text.now.items (reverse c.args.stack.now.items) whole looked.ensures.class c.component.ensures c.in-Child.is
    (child_before (λ m t h. laws.still c.args.nodes.now looked.new.self m t looked.ensures.kept h) (g.N.ShowsNodes.shows child.new.self) c.args.n c.args.k 0 child.result child.ensures.child) half))
    c.write_node.ensures.on

pub returns-in_ok-push-in-List-clause-on : goal.returns-in_ok-push-in-List-clause-on
returns-in_ok-push-in-List-clause-on g c =
    let laws = g.met.N.ShowsNodes in
    let looked = c.class_of-class in
    let put = c.push_nodes in
    let written : c.add.new.text.items ≡ c.args.text.now.items ++ codes "[" =
    subst (λ (b : List ℕ). c.add.new.text.items ≡ c.args.text.now.items ++ b) c.as_slice.ensures c.in_ok-add-in-List.ensures
    in
    on_ok_weaker put.result
    (λ puts.
    listed_goes_on (λ m t h. laws.still looked.new.self put.new.nodes m t put.ensures.kept (laws.still c.args.nodes.now looked.new.self m t looked.ensures.kept h))
    c.args.n c.args.k looked.result c.component.result.now c.args.text.now.items c.add.new.text.items (reverse c.args.stack.now.items) (reverse put.new.stack.items)
    looked.ensures.class c.component.ensures c.in-List.is written
    (puts_before (λ m t h. laws.still c.args.nodes.now looked.new.self m t looked.ensures.kept h) (g.N.ShowsNodes.shows put.new.nodes) c.args.n c.args.k (CloseList ∷ reverse c.args.stack.now.items) (reverse put.new.stack.items)
    (subst (λ (ps : List Part). PutsNodes (g.N.ShowsNodes.shows looked.new.self) (g.N.ShowsNodes.shows put.new.nodes) c.args.n c.args.k ps (reverse put.new.stack.items))
    c.in_ok-push-in-List.ensures puts)))
    put.ensures.put

pub token-code-requires : goal.token-code-requires
token-code-requires g c =
    let looked = c.class_of-class in
    token_still (λ m t h. g.met.N.ShowsNodes.still c.args.nodes.now looked.new.self m t looked.ensures.kept h) c.args.n c.args.k
    (argument_token c.args.n c.args.k looked.result c.component.result.now c.requires.part looked.ensures.class c.component.ensures (subst IsTokenShape (sym c.in-Text.is) tt))

pub token-code-requires-in-Int : goal.token-code-requires-in-Int
token-code-requires-in-Int g c =
    let looked = c.class_of-class in
    token_still (λ m t h. g.met.N.ShowsNodes.still c.args.nodes.now looked.new.self m t looked.ensures.kept h) c.args.n c.args.k
    (argument_token c.args.n c.args.k looked.result c.component.result.now c.requires.part looked.ensures.class c.component.ensures (subst IsTokenShape (sym c.in-Int.is) tt))

pub token-code-requires-in-Truth : goal.token-code-requires-in-Truth
token-code-requires-in-Truth g c =
    let looked = c.class_of-class in
    token_still (λ m t h. g.met.N.ShowsNodes.still c.args.nodes.now looked.new.self m t looked.ensures.kept h) c.args.n c.args.k
    (argument_token c.args.n c.args.k looked.result c.component.result.now c.requires.part looked.ensures.class c.component.ensures (subst IsTokenShape (sym c.in-Truth.is) tt))

pub get-requires : goal.get-requires
get-requires g c =
    let looked = c.class_of-class in
    argument_text_known c.args.n c.args.k looked.result c.component.result.now c.requires.part looked.ensures.class c.component.ensures c.token-code.result c.in-Text.is
    (token_before (λ m t h. g.met.N.ShowsNodes.still c.args.nodes.now looked.new.self m t looked.ensures.kept h) c.args.n c.args.k c.token-code.result c.token-code.ensures.token)

pub returns-in-Text-clause-on : goal.returns-in-Text-clause-on
returns-in-Text-clause-on g c =
    let laws = g.met.N.ShowsNodes in
    let looked = c.class_of-class in
    let token = c.token-code in
    let same : quoted c.get.result.now ≡ argument_text c.args.source.now.pool.now c.component.result.now.shape token.result [] =
    sym (ap (λ s. argument_text c.args.source.now.pool.now s token.result []) c.in-Text.is ∙ ap (λ (o : Option (List ℕ)). quoted (text_or_empty o)) c.get.ensures.text)
    in
    on_ok_weaker c.push_quoted.result
    (λ written.
    token_goes_on (λ m t h. laws.still looked.new.self token.new.self m t token.ensures.kept (laws.still c.args.nodes.now looked.new.self m t looked.ensures.kept h))
    c.args.n c.args.k token.result looked.result c.component.result.now c.args.text.now.items c.push_quoted.new.into.items (reverse c.args.stack.now.items) looked.ensures.class
    c.component.ensures (subst IsTokenShape (sym c.in-Text.is) tt)
    (token_before (λ m t h. laws.still c.args.nodes.now looked.new.self m t looked.ensures.kept h) c.args.n c.args.k token.result token.ensures.token)
    (written ∙ ap (λ (t : List ℕ). c.args.text.now.items ++ t) same))
    c.push_quoted.ensures

pub returns-in-Int-clause-on : goal.returns-in-Int-clause-on
returns-in-Int-clause-on g c =
    let laws = g.met.N.ShowsNodes in
    let looked = c.class_of-class in
    let token = c.token-code-in-Int in
    on_ok_weaker c.add_int.result
    (λ written.
    token_goes_on (λ m t h. laws.still looked.new.self token.new.self m t token.ensures.kept (laws.still c.args.nodes.now looked.new.self m t looked.ensures.kept h))
    c.args.n c.args.k token.result looked.result c.component.result.now c.args.text.now.items c.add_int.new.text.items (reverse c.args.stack.now.items) looked.ensures.class
    c.component.ensures (subst IsTokenShape (sym c.in-Int.is) tt)
    (token_before (λ m t h. laws.still c.args.nodes.now looked.new.self m t looked.ensures.kept h) c.args.n c.args.k token.result token.ensures.token)
    (written ∙ ap (λ s. c.args.text.now.items ++ argument_text c.args.source.now.pool.now s token.result []) (sym c.in-Int.is)))
    c.add_int.ensures

pub returns-in-Int-clause-more : goal.returns-in-Int-clause-more
returns-in-Int-clause-more g c =
    let fits : c.token-code-in-Int.result < 2 ^ 32 = search rules in
    let some = int_some c.token-code-in-Int.result fits in
    on_ok_weaker c.add_int.result
    (λ written.
    let long = ap length written in
    let both = length-append c.args.text.now.items (int_text c.token-code-in-Int.result) in
    omega (arith, some, long, both))
    c.add_int.ensures

pub returns-in-Truth-clause-on : goal.returns-in-Truth-clause-on
returns-in-Truth-clause-on g c =
    let laws = g.met.N.ShowsNodes in
    let looked = c.class_of-class in
    let token = c.token-code-in-Truth in
    on_ok_weaker c.add_truth.result
    (λ written.
    token_goes_on (λ m t h. laws.still looked.new.self token.new.self m t token.ensures.kept (laws.still c.args.nodes.now looked.new.self m t looked.ensures.kept h))
    c.args.n c.args.k token.result looked.result c.component.result.now c.args.text.now.items c.add_truth.new.text.items (reverse c.args.stack.now.items) looked.ensures.class
    c.component.ensures (subst IsTokenShape (sym c.in-Truth.is) tt)
    (token_before (λ m t h. laws.still c.args.nodes.now looked.new.self m t looked.ensures.kept h) c.args.n c.args.k token.result token.ensures.token)
    (written ∙ ap (λ s. c.args.text.now.items ++ argument_text c.args.source.now.pool.now s token.result []) (sym c.in-Truth.is)))
    c.add_truth.ensures
