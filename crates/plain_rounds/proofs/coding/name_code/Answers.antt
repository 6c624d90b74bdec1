use Rattle.std.proofs.Common.{subst, sym, ◌∙◌}
use Rattle.equation_law.specs.Program.{text_of}
use Rattle.equation_law.specs.Systems.{program_of}
use Rattle.plain_rounds.specs.declared.naming.Name.{Name}
use Rattle.plain_rounds.specs.Coding.{IsNameCoded}
use Rattle.plain_rounds.specs.Named.{arguments_named, name_in, reference_named}
use Rattle.made_trees.proofs.Following.{follow_more, follow_on}
use Rattle.plain_rounds.proofs.Coded.{name_added}
use Rattle.plain_rounds.proofs.coding.name_code.Goals as goal

pub returns-in_err-add-clause-follow : goal.returns-in_err-add-clause-follow
returns-in_err-add-clause-follow c = follow_on c.instance_code.ensures.follow (follow_more c.add.ensures.more)

pub returns-in_ok-add-clause-follow : goal.returns-in_ok-add-clause-follow
returns-in_ok-add-clause-follow c = follow_on c.instance_code.ensures.follow (follow_more c.add.ensures.more)

pub returns-in_ok-add-clause-code : goal.returns-in_ok-add-clause-code
returns-in_ok-add-clause-code c =
    let p = program_of c.args.system.now in
    let texts = text_of p in
    let i = c.in-Attribute.name in
    subst (λ (n : Name). IsNameCoded p c.add.new.self.makers (name_in texts n) c.in_ok-instance.instance) (sym c.in-Attribute.is)
    (name_added c.args.system.now c.add.new.self c.instance_code.new.makers.makers c.in_ok-instance.instance i.attr.0 (reference_named texts i.node) (arguments_named texts i.args) c.in_ok-add.field-0.0 (c.in_ok-add.ensures.same ∙ c.in_ok-instance.ensures.same) c.in_ok-add.ensures.trees c.in_ok-add.ensures.more c.in_ok-add.ensures.root c.in_ok-instance.ensures.code)
