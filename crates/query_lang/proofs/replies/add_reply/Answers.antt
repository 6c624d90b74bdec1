use Rattle.std.proofs.Common.{rules, ◌≡◌, ◌≤◌, ℕ, List, [], ◌∷◌, ◌++◌, OnOk, ap, append_assoc, arith, length, subst, ◌∙◌}
use Rattle.std.proofs.lemmas.Result.{on_ok_weaker}
use Rattle.tree_arena.specs.Nodes.{Node, most_nodes}
use Rattle.equation_law.specs.Systems.{program_of}
use Rattle.query_lang.proofs.NamedSources.{reply_named}
use Rattle.query_lang.proofs.replies.add_reply.Goals as goal

pub returns-clause-sources : goal.returns-clause-sources
returns-clause-sources c =
    let of = c.in_ok-add_value.ensures in
    let put : OnOk c.map_err.result (c.push.new.self.items ≡ c.add_value.new.text.items ++ 10 ∷ []) = search rules in
    on_ok_weaker c.map_err.result (λ e. record {
      text = of.text;
      of_value = of.of_value;
      added = e ∙ ap (λ (t : List ℕ). t ++ 10 ∷ []) of.added ∙ append_assoc c.args.text.now.items of.text (10 ∷ []);
    }) put

pub returns-clause-named : goal.returns-clause-named
returns-clause-named c =
    let counted = c.len.ensures.number in
    let few = subst (λ (t : List Node). length t ≤ most_nodes) c.tree.ensures (omega (arith, c.len.ensures.few, counted)) in
    reply_named (program_of c.args.system.now) few c.args.value.now c.args.text.now.items c.push.new.self.items c.map_err.result (returns-clause-sources c)
