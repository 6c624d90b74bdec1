use Rattle.std.proofs.Common.{Option, subst, sym}
use Rattle.equation_law.specs.declared.coding.TreeImage.{TreeImage}
use Rattle.equation_law.specs.Codes.{source_names}
use Rattle.equation_law.specs.Program.{text_of}
use Rattle.plain_rounds.specs.Places.{IsImaged}
use Rattle.plain_rounds.proofs.Imaged.{imaged_copied}
use Rattle.plain_rounds.proofs.values.NamedValue.copy.Goals as goal

pub returns-clause-held : goal.returns-clause-held
returns-clause-held c = λ p h. (
  c.in_ok-value.ensures.elements p h.0,
  subst (λ (o : Option TreeImage). IsImaged p c.in_ok-value.value o) (sym c.in_ok-image.ensures)
      (imaged_copied p (source_names (text_of p)) c.in_ok-value.value c.args.self.now.value c.args.self.now.image (c.in_ok-value.ensures.same (source_names (text_of p))) h.1),
)
