use Rattle.std.proofs.Common.{◌≡◌, [], ◌∷◌, ◌++◌, Vec, ap, ◌∙◌, rules}
use Rattle.std.specs.declared.alloc.Global.{Global}
use Rattle.attr_rules.specs.declared.dispatch.Target.{Target}
use Rattle.attr_rules.specs.declared.kinds.EqId.{EqId}
use Rattle.attr_rules.proofs.OwnPaths.{adds_there}
use Rattle.attr_rules.proofs.paths.add.Goals as goal

pub returns-in-Ok : goal.returns-in-Ok
returns-in-Ok c =
    let pushed : c.push.new.self.items ≡ c.index-lists-target.result.items ++ (c.args.target, c.args.equation) ∷ [] = search rules in
    adds_there c.args.lists.now c.args.target c.args.equation c.index-lists-target.result c.push.new.self c.requires
    (pushed ∙ ap (λ (v : Vec (Target × EqId) Global). v.items ++ (c.args.target, c.args.equation) ∷ []) c.index-lists-target.is)
