use Rattle.std.proofs.Common.{◌≡◌, ◌++◌, OnOk, rules, subst}
use mir.Syntax.{w32}
use mir.Val.{SFits}
use Rattle.tree_writer.proofs.Numbers.{signed_text}
use Rattle.tree_writer.proofs.writing.add_int.Goals as goal

pub returns : goal.returns
returns c =
    let fits : SFits w32 c.cast_signed.result = search rules in
    subst (λ t. OnOk c.add_signed.result (c.add_signed.new.text.items ≡ c.args.text.now.items ++ t))
    (signed_text c.args.code c.cast_signed.result c.ranges.code.fits fits c.cast_signed.ensures) c.add_signed.ensures
