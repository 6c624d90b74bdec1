use Rattle.std.proofs.Common.{◌++◌, List, ap, ◌∙◌}
use Rattle.equation_law.specs.declared.coding.Instance.{Instance as CodedInstance}
use Rattle.caller_pass.proofs.solving.behind.Goals as goal

pub returns : goal.returns
returns c =
    let h = c.in_ok-push_path.ensures in
    record {
      part = h.part;
      joined = c.new.ensures ∙ c.in_ok-push_all.ensures ∙ ap (λ (l : List CodedInstance). c.push_path.new.list.items ++ l) c.list.ensures ∙ ap (λ (l : List CodedInstance). l ++ c.args.chain.now) (h.added ∙ ap (λ (l : List CodedInstance). l ++ h.part) c.new-list.ensures.items);
      path = h.path;
    }
