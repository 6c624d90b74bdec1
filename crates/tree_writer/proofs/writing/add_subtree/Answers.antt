use Rattle.std.proofs.Common.{◌≡◌, ◌∷◌, ◌++◌, [], List, reverse, subst, sym, ap, ◌∙◌}
use Rattle.std.proofs.lemmas.List.{reverse-append}
use Rattle.tree_writer.specs.declared.parts.Part.{Part}
use Rattle.tree_writer.specs.declared.parts.Part.TheVariants.{Node}
use Rattle.tree_writer.specs.Canonical.{tree_text}
use Rattle.tree_writer.specs.Parts.{IsHalfway}
use Rattle.tree_writer.proofs.Turns.{begins}
use Rattle.tree_writer.proofs.writing.add_subtree.Goals as goal

pub parts-init : goal.parts-init
parts-init g c =
    let grammar = c.args.grammar.now in
    let pool = c.args.pool.now in
    let root : reverse c.push.new.stack.items ≡ Node c.args.n ∷ [] = c.in_ok-push.ensures ∙ ap (λ (ps : List Part). Node c.args.n ∷ reverse ps) c.new-stack.ensures.items in
    record {
      kept = g.met.N.ShowsNodes.same c.args.nodes.now;
      half = λ tree shown grown.
          subst (λ (ps : List Part). IsHalfway grammar pool (g.N.ShowsNodes.shows c.args.nodes.now) c.args.text.now.items ps (c.args.text.now.items ++ tree_text grammar pool tree)) (sym root)
          (begins c.args.n c.args.text.now.items tree shown grown);
    }

pub parts-preserved : goal.parts-preserved
parts-preserved g c =
    let grammar = c.args.grammar.now in
    let pool = c.args.pool.now in
    let taken : reverse c.parts.stack.items ≡ c.in-Some.part ∷ reverse c.pop.new.self.items =
    ap reverse c.in-Some.ensures.items ∙ reverse-append c.pop.new.self.items (c.in-Some.part ∷ [])
    in
    record {
      kept = g.met.N.ShowsNodes.further c.args.nodes.now c.parts.nodes c.write_part.new.nodes c.parts.invariant.kept c.write_part.ensures.kept;
      half = λ tree shown grown.
          c.in_ok-write_part.ensures.on (c.args.text.now.items ++ tree_text grammar pool tree)
          (subst (λ (ps : List Part). IsHalfway grammar pool (g.N.ShowsNodes.shows c.parts.nodes) c.parts.text.items ps (c.args.text.now.items ++ tree_text grammar pool tree)) taken
          (c.parts.invariant.half tree shown grown));
    }
