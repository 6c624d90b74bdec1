-- What the forms of items make of parts that fit.
use Rattle.std.proofs.Common.{ℕ, [], ◌∷◌, ◌++◌, refl}
use Rattle.jrag_syntax.specs.declared.classes.Start.{Start}
use Rattle.jrag_reader.specs.Forms.{Form, Word, Expression, OfType, Parameters, Lazy, Modifiers, Circularity, Body, Condition, Path, Method, Root, Item, Aspects, Opened, form, sign, target, choice, forms_of_items}
use Rattle.aspect_items.specs.Items.{Declared, Inherits, Equates, Collects, Contributes}
use Rattle.jrag_reader.specs.Parts.{Made, Items}
use Rattle.jrag_reader.specs.Parts as parts
use Rattle.jrag_reader.specs.Saying.{IsAmong}
use Rattle.jrag_reader.proofs.Rows.{Makes, one, row, no_more}
use Rattle.jrag_reader.proofs.SideBySide.{over, ◌on◌, token, word, expression, of_type, parameters, lazy, modifiers, circularity, body, condition, path, method, root, item, aspects, opened}

module _ (start : Start) where
  no_items : Makes start 26 (form [] Aspects)
  no_items _ over = record { part = Items []; is = λ below. refl; fitting = refl }

  open_aspect : Makes start 27 (form (Aspects ∷ sign 4 ∷ Word ∷ sign 33 ∷ []) Opened)
  open_aspect _ (token _ on word named on token _ on aspects {is = is} on over) = record { part = parts.Opened is; is = λ below. rw named; fitting = refl }

  further_item : Makes start 28 (form (Opened ∷ Item ∷ []) Opened)
  further_item _ (item {i = i} on opened {is = is} on over) = record { part = parts.Opened (is ++ i ∷ []); is = λ below. refl; fitting = refl }

  close_aspect : Makes start 29 (form (Opened ∷ sign 34 ∷ []) Aspects)
  close_aspect _ (token _ on opened {is = is} on over) = record { part = Items is; is = λ below. refl; fitting = refl }

  synthesized : Makes start 30 (form (sign 5 ∷ Modifiers ∷ OfType ∷ target (Parameters ∷ sign 37 ∷ Circularity ∷ Body ∷ sign 40 ∷ [])) Item)
  synthesized _ (token _ on body {e = e} on circularity {c = c} on token _ on parameters {ps = ps} on token _ on word {n = n} named on token _
      on word {n = class} classed on of_type {t = t} on modifiers {a = a} {b = b} on token _ on over) =
      record {
        part = Made (Declared (record {
          lazy = a;
          higher_order = b;
          of = t;
          class = class;
          signature = record { name = n; parameters = ps };
          circular = c;
          body = e;
        }));
        is = λ below. rw (named, classed);
        fitting = refl;
      }

  inherited : Makes start 31 (form (sign 6 ∷ Lazy ∷ OfType ∷ target (Parameters ∷ sign 37 ∷ Circularity ∷ sign 40 ∷ [])) Item)
  inherited _ (token _ on circularity {c = c} on token _ on parameters {ps = ps} on token _ on word {n = n} named on token _
      on word {n = class} classed on of_type {t = t} on lazy {b = b} on token _ on over) =
      record {
        part = Made (Inherits (record { lazy = b; of = t; class = class; signature = record { name = n; parameters = ps }; circular = c }));
        is = λ below. rw (named, classed);
        fitting = refl;
      }

  equation : Makes start 32 (form (sign 7 ∷ target (Parameters ∷ sign 37 ∷ Path ∷ sign 42 ∷ Expression choice ∷ sign 40 ∷ [])) Item)
  equation _ (token _ on expression {e = e} is on token _ on path {s = s} on token _ on parameters {ps = ps} on token _ on word {n = n} named on token _
      on word {n = class} classed on token _ on over) =
      record {
        part = Made (Equates (record { class = class; signature = record { name = n; parameters = ps }; inherited = s; body = e }));
        is = λ below. rw (is, named, classed);
        fitting = refl;
      }

  collection : Makes start 33 (form (sign 8 ∷ OfType ∷ target (sign 37 ∷ sign 38 ∷ Expression choice ∷ sign 39 ∷ Method ∷ Root ∷ sign 40 ∷ [])) Item)
  collection _ (token _ on root {n = r} on method {n = m} on token _ on expression {e = e} is on token _ on token _ on token _ on word {n = n} named on token _
      on word {n = class} classed on of_type {t = t} on token _ on over) =
      record {
        part = Made (Collects (record { of = t; class = class; name = n; fresh = e; method = m; root = r }));
        is = λ below. rw (is, named, classed);
        fitting = refl;
      }

  contribution : Makes start 34
      (form (Word ∷ sign 25 ∷ Expression choice ∷ Condition ∷ sign 12 ∷ target (sign 37 ∷ sign 13 ∷ Expression choice ∷ sign 40 ∷ [])) Item)
  contribution _ (token _ on expression {e = receiver} is_receiver on token _ on token _ on token _ on word {n = n} named on token _
      on word {n = class} classed on token _ on condition {e = c} on expression {e = value} is_value on token _ on word {n = contributor} contributes on over) =
      record {
        part = Made (Contributes (record { contributor = contributor; value = value; condition = c; class = class; name = n; receiver = receiver }));
        is = λ below. rw (is_receiver, named, classed, is_value, contributes);
        fitting = refl;
      }

  -- the table of items
  pub makes_items : (a : ℕ) (f : Form) → IsAmong f (forms_of_items a) → Makes start a f
  makes_items a f =
      row start a 26 f _ _ (one start 26 _ no_items) (
      row start a 27 f _ _ (one start 27 _ open_aspect) (
      row start a 28 f _ _ (one start 28 _ further_item) (
      row start a 29 f _ _ (one start 29 _ close_aspect) (
      row start a 30 f _ _ (one start 30 _ synthesized) (
      row start a 31 f _ _ (one start 31 _ inherited) (
      row start a 32 f _ _ (one start 32 _ equation) (
      row start a 33 f _ _ (one start 33 _ collection) (
      row start a 34 f _ _ (one start 34 _ contribution)
      no_more))))))))
