-- From parts that fit a form, whatever lies below, its action makes one part of the form's whole.
use Rattle.std.proofs.Common.{◌≡◌, ℕ, true, List, ◌++◌, reverse}
use Rattle.jrag_syntax.specs.declared.classes.Start.{Start}
use Rattle.jrag_reader.specs.Forms.{Form, forms, forms_of_expressions, forms_of_items, forms_of_details, forms_of_optionals}
use Rattle.jrag_reader.specs.Parts.{Part}
use Rattle.jrag_reader.specs.Saying.{IsAmong}
use Rattle.jrag_reader.proofs.Fits.{all_fit, MakesOne}
use Rattle.jrag_reader.proofs.MakesDetails.{makes_details}
use Rattle.jrag_reader.proofs.MakesExpressions.{makes_expressions}
use Rattle.jrag_reader.proofs.MakesItems.{makes_items}
use Rattle.jrag_reader.proofs.MakesOptionals.{makes_optionals}
use Rattle.jrag_reader.proofs.Rows.{Makes, split}
use Rattle.jrag_reader.proofs.SideBySide.{stand}

module _ (start : Start) (action : ℕ) (f : Form) where
  of_tables : IsAmong f (forms action) → Makes start action f
  of_tables =
      split f (forms_of_expressions action) (forms_of_items action ++ (forms_of_details action ++ forms_of_optionals action)) (makes_expressions start action f)
      (split f (forms_of_items action) (forms_of_details action ++ forms_of_optionals action) (makes_items start action f)
      (split f (forms_of_details action) (forms_of_optionals action) (makes_details start action f) (makes_optionals start action f)))

  pub makes : IsAmong f (forms action) → (parts : List Part) → all_fit start (reverse f.parts) parts ≡ true → MakesOne start action parts f.whole
  makes among parts fit = of_tables among parts (stand start (reverse f.parts) parts fit)
