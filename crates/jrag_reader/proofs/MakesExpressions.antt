-- What the forms of expressions make of parts that fit.
use Rattle.std.proofs.Common.{◌≡◌, ℕ, true, List, [], ◌∷◌, Option, Some, None, refl, is_some, ap, option_map}
use Rattle.ll_parser.specs.Table.{every}
use Rattle.jrag_syntax.specs.Tokens.{token_class}
use Rattle.jrag_syntax.specs.declared.classes.Start.{Start}
use Rattle.aspect_items.specs.Expressions as expressions
use Rattle.jrag_reader.specs.Forms.{Form, OneOf, Word, Quantifier, Expression, Sourced, Arguments, form, sign, members, forms_of_expressions}
use Rattle.jrag_reader.specs.Forms.{choice, equality, relation, sum, product, unary, operand, postfix, primary, literals, quantifiers, names}
use Rattle.jrag_reader.specs.Forms as levels
use Rattle.jrag_reader.specs.Making.{make, make_binary, literal_by, operator_by, quantifier_by, name_of, integer_of, named}
use Rattle.jrag_reader.specs.Parts.{Part, Formed, Quantifying}
use Rattle.jrag_reader.specs.Saying.{IsAmong}
use Rattle.aspect_items.specs.declared.expression.Quantifier as declared
use Rattle.jrag_reader.proofs.Fits.{fits}
use Rattle.jrag_reader.proofs.Rows.{Makes, holds_of_member, found, one, two, row, no_more}
use Rattle.jrag_reader.proofs.SideBySide.{over, ◌on◌, token, word, quantifier, expression, sourced, arguments}

module _ (start : Start) where
  quantifying : Makes start 3 (form (OneOf quantifiers ∷ []) Quantifier)
  quantifying _ (token {t = t} among on over) =
      let q = found (quantifier_by (token_class start t)) (holds_of_member (λ c. is_some (quantifier_by c)) quantifiers (token_class start t) refl among) in
      record { part = Quantifying q.0 (name_of t); is = λ below. ap (λ o. Some (named o (name_of t) ∷ below)) q.1; fitting = refl }

  name_fits : (q : Option declared.Quantifier) (n : expressions.Name) → fits start Word (named q n) ≡ true
  name_fits None n = refl
  name_fits (Some q) n = refl

  name : Makes start 3 (form (OneOf names ∷ []) Word)
  name _ (token {t = t} among on over) =
      let n = named (quantifier_by (token_class start t)) (name_of t) in
      record { part = n; is = λ below. refl; fitting = name_fits (quantifier_by (token_class start t)) (name_of t) }

  literal : Makes start 4 (form (OneOf literals ∷ []) (Expression primary))
  literal _ (token {t = t} among on over) =
      let e = found (literal_by (token_class start t) t) (holds_of_member (λ c. is_some (literal_by c t)) literals (token_class start t) refl among) in
      record { part = Formed e.0; is = λ below. ap (option_map (λ e. Formed e ∷ below)) e.1; fitting = refl }

  text : Makes start 5 (form (sign 3 ∷ []) (Expression primary))
  text _ (token {t = t} {code = code} among on over) = record { part = Formed (expressions.Text t.place code); is = λ below. refl; fitting = refl }

  source : Makes start 6 (form (sign 59 ∷ sign 2 ∷ []) Sourced)
  source _ (token {t = digits} _ on token {t = at} _ on over) =
      record { part = Formed (expressions.Source at.place (integer_of digits)); is = λ below. refl; fitting = refl }

  call : Makes start 10 (form (Word ∷ sign 36 ∷ Arguments ∷ sign 37 ∷ []) (Expression primary))
  call _ (token _ on arguments {es = es} on token _ on word {n = n} is on over) =
      record { part = Formed (expressions.Call n (expressions.arguments_of es)); is = λ below. rw is; fitting = refl }

  member_of_expression : Makes start 11 (members (Expression postfix))
  member_of_expression _ (token _ on arguments {es = es} on token _ on word {n = n} named on token _ on expression {e = e} is on over) =
      record { part = Formed (expressions.Member e n (expressions.arguments_of es)); is = λ below. rw (named, is); fitting = refl }

  member_of_source : Makes start 11 (members Sourced)
  member_of_source _ (token _ on arguments {es = es} on token _ on word {n = n} named on token _ on sourced {e = e} on over) =
      record { part = Formed (expressions.Member e n (expressions.arguments_of es)); is = λ below. rw named; fitting = refl }

  tree : Makes start 12 (form (sign 14 ∷ Word ∷ sign 36 ∷ Arguments ∷ sign 37 ∷ []) (Expression primary))
  tree _ (token _ on arguments {es = es} on token _ on word {n = n} named on token {t = t} _ on over) =
      record { part = Formed (expressions.New t.place n (expressions.arguments_of es)); is = λ below. rw named; fitting = refl }

  quantified : Makes start 13
      (form (Quantifier ∷ sign 36 ∷ Word ∷ sign 44 ∷ Expression choice ∷ sign 57 ∷ Expression choice ∷ sign 37 ∷ []) (Expression primary))
  quantified _ (token _ on expression {e = read} is_read on token _ on expression {e = range} is_range on token _ on word {n = bound} named on token _
      on quantifier {q = q} {n = n} on over) =
      record { part = Formed (expressions.Quantified q n.place bound range read); is = λ below. rw (is_read, is_range, named); fitting = refl }

  group : Makes start 14 (form (sign 36 ∷ Expression choice ∷ sign 37 ∷ []) (Expression primary))
  group _ (token _ on expression {e = e} is on token {t = t} _ on over) =
      record { part = Formed (expressions.Group t.place e); is = λ below. rw is; fitting = refl }

  cast : Makes start 15 (form (sign 36 ∷ Word ∷ sign 37 ∷ Expression operand ∷ []) (Expression operand))
  cast _ (expression {e = e} is on token _ on word {n = n} named on token {t = t} _ on over) =
      record { part = Formed (expressions.Cast t.place n e); is = λ below. rw (is, named); fitting = refl }

  negation : Makes start 16 (form (sign 56 ∷ Expression unary ∷ []) (Expression unary))
  negation _ (expression {e = e} is on token {t = t} _ on over) = record { part = Formed (expressions.Not t.place e); is = λ below. rw is; fitting = refl }

  negative : Makes start 17 (form (sign 54 ∷ Expression unary ∷ []) (Expression unary))
  negative _ (expression {e = e} is on token {t = t} _ on over) = record { part = Formed (expressions.Negate t.place e); is = λ below. rw is; fitting = refl }

  -- an operator between two operands, of some actions
  binary : (action left right : ℕ) (signs : List ℕ) → every (λ c. is_some (operator_by c)) signs ≡ true
      → ((parts : List Part) → make start action parts ≡ make_binary start parts)
      → Makes start action (form (Expression left ∷ OneOf signs ∷ Expression right ∷ []) (Expression left))
  binary action left right signs known same _ (expression {e = b} is_b on token {t = t} among on expression {e = a} is_a on over) =
      let o = found (operator_by (token_class start t)) (holds_of_member (λ c. is_some (operator_by c)) signs (token_class start t) known among) in
      record {
        part = Formed (expressions.Binary o.0 a b);
        is = λ below. rw (same _, is_b, is_a) (ap (option_map (λ o. Formed (expressions.Binary o a b) ∷ below)) o.1);
        fitting = refl;
      }

  instance : Makes start 21 (form (Expression relation ∷ sign 20 ∷ Word ∷ []) (Expression relation))
  instance _ (word {n = n} named on token _ on expression {e = e} is on over) =
      record { part = Formed (expressions.InstanceOf e n); is = λ below. rw (named, is); fitting = refl }

  alternative : Makes start 25 (form (Expression levels.or ∷ sign 43 ∷ Expression choice ∷ sign 44 ∷ Expression choice ∷ []) (Expression choice))
  alternative _ (expression {e = b} is_b on token _ on expression {e = a} is_a on token _ on expression {e = c} is_c on over) =
      record { part = Formed (expressions.If c a b); is = λ below. rw (is_b, is_a, is_c); fitting = refl }

  -- the table of expressions
  pub makes_expressions : (a : ℕ) (f : Form) → IsAmong f (forms_of_expressions a) → Makes start a f
  makes_expressions a f =
      row start a 3 f _ _ (two start 3 _ _ quantifying name) (
      row start a 4 f _ _ (one start 4 _ literal) (
      row start a 5 f _ _ (one start 5 _ text) (
      row start a 6 f _ _ (one start 6 _ source) (
      row start a 10 f _ _ (one start 10 _ call) (
      row start a 11 f _ _ (two start 11 _ _ member_of_expression member_of_source) (
      row start a 12 f _ _ (one start 12 _ tree) (
      row start a 13 f _ _ (one start 13 _ quantified) (
      row start a 14 f _ _ (one start 14 _ group) (
      row start a 15 f _ _ (one start 15 _ cast) (
      row start a 16 f _ _ (one start 16 _ negation) (
      row start a 17 f _ _ (one start 17 _ negative) (
      row start a 18 f _ _ (one start 18 _ (binary 18 product unary (55 ∷ []) refl (λ parts. refl))) (
      row start a 19 f _ _ (one start 19 _ (binary 19 sum product (53 ∷ 54 ∷ []) refl (λ parts. refl))) (
      row start a 20 f _ _ (one start 20 _ (binary 20 relation sum (49 ∷ 50 ∷ 51 ∷ 52 ∷ []) refl (λ parts. refl))) (
      row start a 21 f _ _ (one start 21 _ instance) (
      row start a 22 f _ _ (one start 22 _ (binary 22 equality relation (47 ∷ 48 ∷ []) refl (λ parts. refl))) (
      row start a 23 f _ _ (one start 23 _ (binary 23 levels.and equality (46 ∷ []) refl (λ parts. refl))) (
      row start a 24 f _ _ (one start 24 _ (binary 24 levels.or levels.and (45 ∷ []) refl (λ parts. refl))) (
      row start a 25 f _ _ (one start 25 _ alternative)
      no_more)))))))))))))))))))
