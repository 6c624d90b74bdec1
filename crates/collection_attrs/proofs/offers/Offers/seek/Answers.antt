use Rattle.std.proofs.Common.{◌≡◌, ℕ, List, map, ◌∙◌, ap, arith, length, subst, sym}
use Rattle.std.proofs.lemmas.Option.{slice_get_within}
use Rattle.tree_arena.specs.Nodes.{Node, end_in}
use Rattle.tree_arena.proofs.Subtrees.{end_within}
use Rattle.equation_law.specs.Systems.{program_of}
use Rattle.collection_attrs.specs.Surveys.{noted_in}
use Rattle.collection_attrs.specs.Walks.{IsNext, IsStanding, Walk}
use Rattle.collection_attrs.proofs.Sought.{stands_next}
use Rattle.collection_attrs.proofs.offers.Offers.seek.Goals as goal

pub next_from-requires-clause-within : goal.next_from-requires-clause-within
next_from-requires-clause-within c =
    let p = program_of c.args.system.now in
    let same : length c.tree.result.now ≡ length p.tree = ap length c.tree.ensures in
    let root : c.self.inside.root ≡ c.args.self.now.root = ap (λ (w : Walk). w.root) c.self.view_is in
    let inside = c.requires.inside in
    let w = end_within c.tree.result.now c.self.inside.root (omega (arith, same, inside, root)) in
    omega (arith, same, w, c.end-end.ensures)

pub returns-in-Some-clause-stands : goal.returns-in-Some-clause-stands
returns-in-Some-clause-stands c =
    let p = program_of c.args.system.now in
    let o = c.self.inside in
    let w : Walk = record { attribute = o.attr.0; root = o.root; node = o.node; contribution = o.contribution; notes = map noted_in o.entries.items } in
    let h : IsStanding p w = subst (IsStanding p) (sym c.self.view_is) c.requires in
    let end : c.end-end.result ≡ end_in p.tree o.root = c.end-end.ensures ∙ ap (λ (t : List Node). end_in t o.root) c.tree.ensures in
    let n = subst (λ (e : ℕ). IsNext p o.attr.0 o.node o.contribution e c.in-Some.node c.in-Some.number) end c.in-Some.ensures.some in
    stands_next p w h c.in-Some.node c.in-Some.number n (slice_get_within p.rules.contributions c.in-Some.number n.contribution n.is)
