-- What the forms of what may be left out make of parts that fit.
use Rattle.std.proofs.Common.{ℕ, [], ◌∷◌, Some, None, refl}
use Rattle.jrag_syntax.specs.declared.classes.Start.{Start}
use Rattle.jrag_reader.specs.Forms.{Form, Word, Expression, Parameters, Body, Condition, Path, Method, Root, form, sign, choice, forms_of_optionals}
use Rattle.jrag_reader.specs.Parts.{Perhaps, Behind, PerhapsNamed}
use Rattle.jrag_reader.specs.Saying.{IsAmong}
use Rattle.jrag_reader.proofs.Rows.{Makes, one, row, no_more}
use Rattle.jrag_reader.proofs.SideBySide.{over, ◌on◌, token, word, expression, parameters}

module _ (start : Start) where
  body : Makes start 47 (form (sign 42 ∷ Expression choice ∷ []) Body)
  body _ (expression {e = e} is on token _ on over) = record { part = Perhaps (Some e); is = λ below. rw is; fitting = refl }

  no_body : Makes start 48 (form [] Body)
  no_body _ over = record { part = Perhaps None; is = λ below. refl; fitting = refl }

  path : Makes start 49 (form (sign 35 ∷ Word ∷ sign 36 ∷ Parameters ∷ sign 37 ∷ []) Path)
  path _ (token _ on parameters {ps = ps} on token _ on word {n = n} named on token _ on over) =
      record { part = Behind (Some (record { name = n; parameters = ps })); is = λ below. rw named; fitting = refl }

  no_path : Makes start 50 (form [] Path)
  no_path _ over = record { part = Behind None; is = λ below. refl; fitting = refl }

  method : Makes start 51 (form (sign 26 ∷ Word ∷ []) Method)
  method _ (word {n = n} named on token _ on over) = record { part = PerhapsNamed (Some n); is = λ below. rw named; fitting = refl }

  no_method : Makes start 52 (form [] Method)
  no_method _ over = record { part = PerhapsNamed None; is = λ below. refl; fitting = refl }

  root : Makes start 53 (form (sign 27 ∷ Word ∷ []) Root)
  root _ (word {n = n} named on token _ on over) = record { part = PerhapsNamed (Some n); is = λ below. rw named; fitting = refl }

  no_root : Makes start 54 (form [] Root)
  no_root _ over = record { part = PerhapsNamed None; is = λ below. refl; fitting = refl }

  condition : Makes start 55 (form (sign 11 ∷ Expression choice ∷ []) Condition)
  condition _ (expression {e = e} is on token _ on over) = record { part = Perhaps (Some e); is = λ below. rw is; fitting = refl }

  no_condition : Makes start 56 (form [] Condition)
  no_condition _ over = record { part = Perhaps None; is = λ below. refl; fitting = refl }

  -- the table of what may be left out
  pub makes_optionals : (a : ℕ) (f : Form) → IsAmong f (forms_of_optionals a) → Makes start a f
  makes_optionals a f =
      row start a 47 f _ _ (one start 47 _ body) (
      row start a 48 f _ _ (one start 48 _ no_body) (
      row start a 49 f _ _ (one start 49 _ path) (
      row start a 50 f _ _ (one start 50 _ no_path) (
      row start a 51 f _ _ (one start 51 _ method) (
      row start a 52 f _ _ (one start 52 _ no_method) (
      row start a 53 f _ _ (one start 53 _ root) (
      row start a 54 f _ _ (one start 54 _ no_root) (
      row start a 55 f _ _ (one start 55 _ condition) (
      row start a 56 f _ _ (one start 56 _ no_condition)
      no_more)))))))))
