use Rattle.std.proofs.Common.{◌≡◌, ◌<◌, ◌^◌, length, map, rules, sym, ap, subst, ◌∙◌, arith}
use Rattle.groups.specs.Groups.{AreWithin, groups_of}
use Rattle.tree_arena.specs.Arena.{kept_of}
use Rattle.tree_arena.specs.Kept.{node_of}
use Rattle.tree_arena.specs.Parts.{codes_of, keys_of}
use Rattle.tree_arena.proofs.Arena.{is_kept, nodes_shown}
use Rattle.tree_arena.proofs.Counted.{codes_numbered}
use Rattle.tree_arena.proofs.Hanging.{keys_within, length-keys_of}
use Rattle.tree_arena.proofs.tree.Tree.of_nodes.Goals as goal

pub places-requires-clause-within : goal.places-requires-clause-within
places-requires-clause-within c =
    let seen = map node_of c.args.nodes.items in
    let keys : c.deref-6.result.now ≡ keys_of seen = search rules in
    let codes : c.in_ok-codes.codes.items ≡ codes_of seen = search rules in
    let parts : c.len-parts.result ≡ length c.in_ok-codes.codes.items = search rules in
    subst (λ ks. AreWithin ks c.len-parts.result) (sym keys) (keys_within seen c.requires (parts ∙ ap length codes))

pub of-requires-clause-few : goal.of-requires-clause-few
of-requires-clause-few c =
    let seen = map node_of c.args.nodes.items in
    let keys : c.deref-11.result.now ≡ keys_of seen = search rules in
    let few = c.requires.tree.few in
    omega (arith, ap length keys, length-keys_of seen)

pub of-requires-clause-within : goal.of-requires-clause-within
of-requires-clause-within c =
    let seen = map node_of c.args.nodes.items in
    let keys : c.deref-11.result.now ≡ keys_of seen = search rules in
    let codes : c.in_ok-codes.codes.items ≡ codes_of seen = search rules in
    let parts : c.len-parts.result ≡ length c.in_ok-codes.codes.items = search rules in
    subst (λ ks. AreWithin ks c.len-parts.result) (sym keys) (keys_within seen c.requires (parts ∙ ap length codes))

pub invariant_of-result : goal.invariant_of-result
invariant_of-result c =
    let seen = map node_of c.args.nodes.items in
    let all = c.in_ok-codes.codes.items in
    let keys : c.deref-11.result.now ≡ keys_of seen = search rules in
    let codes : all ≡ codes_of seen = search rules in
    let kept : c.in_ok-kept.kept.items ≡ kept_of seen = search rules in
    let parts : c.len-parts.result ≡ length all = search rules in
    let few : length all < 2 ^ 32 = omega (arith, ap length codes, codes_numbered seen c.requires) in
    let children : c.in_ok-children.children ≡ groups_of c.deref-11.result.now c.len-parts.result = search rules in
    is_kept seen c.requires kept codes few (children ∙ (λ j. groups_of (keys j) (parts j)))

pub returns : goal.returns
returns c =
    let seen = map node_of c.args.nodes.items in
    let codes : c.in_ok-codes.codes.items ≡ codes_of seen = search rules in
    let kept : c.in_ok-kept.kept.items ≡ kept_of seen = search rules in
    nodes_shown seen kept codes
