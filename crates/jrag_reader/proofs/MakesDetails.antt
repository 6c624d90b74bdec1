-- What the forms of parts of items, and of arguments, make of parts that fit.
use Rattle.std.proofs.Common.{ℕ, true, false, [], ◌∷◌, ◌++◌, Some, None, refl}
use Rattle.jrag_syntax.specs.Tokens.{token_class}
use Rattle.jrag_syntax.specs.declared.classes.Start.{Start}
use Rattle.jrag_reader.specs.Forms.{Form, OneOf, Word, Expression, Arguments, SomeArguments, OfType, Parameters, SomeParameters, Lazy, HigherOrder, Absent, Modifiers, Circularity, form, sign, type_names, choice, forms_of_details}
use Rattle.jrag_reader.specs.Making.{type_name_by}
use Rattle.jrag_reader.specs.Parts as parts
use Rattle.jrag_reader.specs.Parts.{Typed, Flag}
use Rattle.jrag_reader.specs.Saying.{IsAmong}
use Rattle.jrag_reader.proofs.Rows.{Makes, one, two, row, no_more}
use Rattle.jrag_reader.proofs.SideBySide.{over, ◌on◌, token, word, expression, some_arguments, of_type, some_parameters, lazy, higher_order}

module _ (start : Start) where
  no_arguments : Makes start 7 (form [] Arguments)
  no_arguments _ over = record { part = parts.Arguments []; is = λ below. refl; fitting = refl }

  first_argument : Makes start 8 (form (Expression choice ∷ []) SomeArguments)
  first_argument _ (expression {e = e} is on over) = record { part = parts.Arguments (e ∷ []); is = λ below. rw is; fitting = refl }

  argument : Makes start 9 (form (SomeArguments ∷ sign 41 ∷ Expression choice ∷ []) SomeArguments)
  argument _ (expression {e = e} is on token _ on some_arguments {es = es} on over) =
      record { part = parts.Arguments (es ++ e ∷ []); is = λ below. rw is; fitting = refl }

  present_lazy : Makes start 35 (form (sign 10 ∷ []) Lazy)
  present_lazy _ (token _ on over) = record { part = Flag true; is = λ below. refl; fitting = refl }

  present_higher_order : Makes start 35 (form (sign 9 ∷ []) HigherOrder)
  present_higher_order _ (token _ on over) = record { part = Flag true; is = λ below. refl; fitting = refl }

  left_out : Makes start 36 (form [] Absent)
  left_out _ over = record { part = Flag false; is = λ below. refl; fitting = refl }

  no_modifiers : Makes start 37 (form [] Modifiers)
  no_modifiers _ over = record { part = parts.Modifiers false false; is = λ below. refl; fitting = refl }

  lazy_first : Makes start 38 (form (sign 10 ∷ HigherOrder ∷ []) Modifiers)
  lazy_first _ (higher_order {b = b} on token _ on over) = record { part = parts.Modifiers true b; is = λ below. refl; fitting = refl }

  higher_order_first : Makes start 39 (form (sign 9 ∷ Lazy ∷ []) Modifiers)
  higher_order_first _ (lazy {b = b} on token _ on over) = record { part = parts.Modifiers b true; is = λ below. refl; fitting = refl }

  plain_type : Makes start 40 (form (OneOf type_names ∷ []) OfType)
  plain_type _ (token {t = t} _ on over) =
      record { part = Typed (record { place = t.place; set = false; name = type_name_by (token_class start t) t.text }); is = λ below. refl; fitting = refl }

  set_type : Makes start 41 (form (sign 21 ∷ sign 49 ∷ OneOf type_names ∷ sign 51 ∷ []) OfType)
  set_type _ (token _ on token {t = t} _ on token _ on token {t = front} _ on over) =
      record { part = Typed (record { place = front.place; set = true; name = type_name_by (token_class start t) t.text }); is = λ below. refl; fitting = refl }

  no_parameters : Makes start 42 (form [] Parameters)
  no_parameters _ over = record { part = parts.Parameters []; is = λ below. refl; fitting = refl }

  first_parameter : Makes start 43 (form (OfType ∷ Word ∷ []) SomeParameters)
  first_parameter _ (word {n = n} named on of_type {t = t} on over) =
      record { part = parts.Parameters (record { of = t; name = n } ∷ []); is = λ below. rw named; fitting = refl }

  parameter : Makes start 44 (form (SomeParameters ∷ sign 41 ∷ OfType ∷ Word ∷ []) SomeParameters)
  parameter _ (word {n = n} named on of_type {t = t} on token _ on some_parameters {ps = ps} on over) =
      record { part = parts.Parameters (ps ++ record { of = t; name = n } ∷ []); is = λ below. rw named; fitting = refl }

  circular : Makes start 45 (form (sign 28 ∷ sign 38 ∷ Expression choice ∷ sign 39 ∷ []) Circularity)
  circular _ (token _ on expression {e = e} is on token _ on token {t = t} _ on over) =
      record { part = parts.Circularity (Some (record { place = t.place; bottom = e })); is = λ below. rw is; fitting = refl }

  not_circular : Makes start 46 (form [] Circularity)
  not_circular _ over = record { part = parts.Circularity None; is = λ below. refl; fitting = refl }

  -- the table of details
  pub makes_details : (a : ℕ) (f : Form) → IsAmong f (forms_of_details a) → Makes start a f
  makes_details a f =
      row start a 7 f _ _ (one start 7 _ no_arguments) (
      row start a 8 f _ _ (one start 8 _ first_argument) (
      row start a 9 f _ _ (one start 9 _ argument) (
      row start a 35 f _ _ (two start 35 _ _ present_lazy present_higher_order) (
      row start a 36 f _ _ (one start 36 _ left_out) (
      row start a 37 f _ _ (one start 37 _ no_modifiers) (
      row start a 38 f _ _ (one start 38 _ lazy_first) (
      row start a 39 f _ _ (one start 39 _ higher_order_first) (
      row start a 40 f _ _ (one start 40 _ plain_type) (
      row start a 41 f _ _ (one start 41 _ set_type) (
      row start a 42 f _ _ (one start 42 _ no_parameters) (
      row start a 43 f _ _ (one start 43 _ first_parameter) (
      row start a 44 f _ _ (one start 44 _ parameter) (
      row start a 45 f _ _ (one start 45 _ circular) (
      row start a 46 f _ _ (one start 46 _ not_circular)
      no_more))))))))))))))
