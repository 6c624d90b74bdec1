use Rattle.attr_heads.proofs.Declaring.{adds_new_name, even_new_name}
use Rattle.attr_heads.proofs.declared.Declared.insert_new.Goals as goal

pub returns-clause-even : goal.returns-clause-even
returns-clause-even c = λ even. even_new_name c.args.self.now _ c.args.name.now c.args.class c.in_ok-classes.classes even c.requires c.in_ok-insert.ensures.names c.in_ok-classes.ensures c.in_ok-push.ensures

pub returns-clause-added : goal.returns-clause-added
returns-clause-added c = λ even. adds_new_name c.args.self.now _ c.args.name.now c.args.class c.in_ok-classes.classes even c.requires c.in_ok-insert.ensures.names c.in_ok-classes.ensures c.in_ok-push.ensures
