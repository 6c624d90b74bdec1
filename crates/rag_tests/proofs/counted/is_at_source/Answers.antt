-- Null and the source nodes are known to all, and so are no arguments.
use Rattle.std.proofs.Common.{◌≡◌, ℕ, List, [], ◌∷◌, None, ap, not, slice_get, sym, subst, ◌∙◌}
use Rattle.std.proofs.lemmas.Bool.{ltb-false}
use Rattle.attr_rules.specs.declared.kinds.Kind.{Kind}
use Rattle.tree_arena.specs.Nodes.{most_nodes}
use Rattle.equation_law.specs.declared.coding.Instance.{Instance as CodedInstance}
use Rattle.equation_law.specs.Codes.{codes_in}
use Rattle.equation_law.specs.Program.{attribute_parameters}
use Rattle.memo_cells.specs.Agreeing.{AreKnownCodes, IsKnownInstance}
use Rattle.circular_eval.proofs.Knowing.{source_known}
use Rattle.rag_tests.proofs.Singles.{none_is}
use Rattle.rag_tests.proofs.counted.is_at_source.Goals as goal

-- no codes are known
none_known : (ms : List CodedInstance) (ks : List Kind) (cs : List ℕ) → slice_get cs 0 ≡ None → AreKnownCodes ms ks cs
none_known ms [] cs e = tt
none_known ms (k ∷ ks) [] e = tt
none_known ms (k ∷ ks) (c ∷ cs) e = cc

pub returns : goal.returns
returns c = λ yes p.
    let low = ltb-false most_nodes c.in-Attr.node.0 (sym c.is_made.ensures ∙ c.if-is_made.false) in
    let none : slice_get (codes_in c.in-Attr.args) 0 ≡ None = sym c.code_at.ensures ∙ none_is c.code_at.result (not c.is_none.result) (sym c.is_none.ensures) (ap not yes) in
    subst (IsKnownInstance p []) (sym c.in-Attr.is) (source_known [] c.in-Attr.node.0 low, none_known [] (attribute_parameters p c.in-Attr.attr.0) (codes_in c.in-Attr.args) none)
