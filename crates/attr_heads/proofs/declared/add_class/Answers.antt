use Rattle.std.proofs.Common.{ap, sym, ◌∙◌, nat_eq}
use Rattle.std.specs.List.{list_any}
use Rattle.attr_heads.proofs.Declaring.{adds_known}
use Rattle.attr_heads.proofs.declared.add_class.Goals as goal

pub returns-then-contains : goal.returns-then-contains
returns-then-contains c =
    adds_known c.args.classes.now.items c.args.class (ap (list_any (λ y. nat_eq y.0 c.args.class.0)) (sym c.deref.ensures.value) ∙ sym c.contains.ensures.value ∙ c.if-contains.true)
