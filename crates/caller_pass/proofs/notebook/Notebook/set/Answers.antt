use Rattle.std.proofs.Common.{sym, subst}
use Rattle.caller_pass.specs.Keeping.{Notes}
use Rattle.caller_pass.specs.Noting.{AreNoted}
use Rattle.caller_pass.proofs.Noted.{copy_noted}
use Rattle.caller_pass.proofs.notebook.Notebook.set.Goals as goal

pub returns : goal.returns
returns c = λ p ms names by notes.
    let i = c.args.i.now in
    let x = c.in_ok-value.value.now in
    let kept = subst (λ (n : Notes). AreNoted p ms n.sets) (sym c.self.view_is) notes in
    copy_noted p ms names by i x c.copy.result c.ok.result c.ok.ensures.value c.copy.ensures.same c.copy.ensures.elements (kept i x (sym c.in_ok-value.ensures.value))
