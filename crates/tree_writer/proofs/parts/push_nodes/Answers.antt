use Rattle.std.proofs.Common.{◌≡◌, ◌-◌, ◌≤◌, suc, reverse, arith}
use Rattle.tree_writer.specs.Showing.{hung_at}
use Rattle.tree_writer.proofs.Listing.{puts_more}
use Rattle.tree_writer.proofs.parts.push_nodes.Goals as goal

pub places-preserved : goal.places-preserved
places-preserved g c =
    let laws = g.met.N.ShowsNodes in
    let looked = c.child-child in
    let next : suc (c.places.i - 1) ≡ c.places.i = omega arith in
    let within : c.places.i ≤ c.count-count.result = omega arith in
    record {
      kept = laws.further c.args.nodes.now c.places.nodes looked.new.self c.places.invariant.kept looked.ensures.kept;
      put = λ tree shown.
          puts_more (λ m t h. laws.still c.places.nodes looked.new.self m t looked.ensures.kept h) (hung_at tree c.args.k) (c.places.i - 1) c.places.i looked.result c.count-count.result
          (reverse c.args.stack.now.items) (reverse c.places.stack.items) (reverse c.push_listed.new.stack.items) next (c.count-count.ensures.count tree shown) within
          (λ child at. looked.ensures.child tree child (laws.still c.args.nodes.now c.places.nodes c.args.n tree c.places.invariant.kept shown) at)
          (c.places.invariant.put tree shown) c.in_ok-push_listed.ensures;
    }
