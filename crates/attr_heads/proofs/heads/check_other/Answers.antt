use Rattle.std.proofs.Common.{refl, sym, ◌∙◌}
use Rattle.std.proofs.lemmas.Result.{on_ok_weaker}
use Rattle.attr_scope.specs.Seen.{seen_head}
use Rattle.attr_heads.proofs.InheritedNoted.{first_more, first_same}
use Rattle.attr_heads.proofs.heads.check_other.Goals as goal

pub returns-then-not-is_inherited-clause-told : goal.returns-then-not-is_inherited-clause-told
returns-then-not-is_inherited-clause-told c = λ before told. first_same before (seen_head c.args.head.now) (sym c.is_inherited.ensures ∙ c.if-not-is_inherited.true) told

pub returns-clause-told : goal.returns-clause-told
returns-clause-told c =
    on_ok_weaker c.insert.result
    (λ kept before told. first_more before (seen_head c.args.head.now) c.args.head.now (sym c.is_inherited.ensures ∙ c.if-not-is_inherited.false) refl c.deref-2.ensures.value kept told)
    c.insert.ensures
