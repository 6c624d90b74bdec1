-- What tokens say fits the sort that they say it of.
use Rattle.std.proofs.Common.{◌≡◌, ℕ, true, List, [], ◌∷◌, ◌++◌, Option, Some, reverse, refl, ap, ◌∙◌, subst, append-nil}
use Rattle.std.proofs.lemmas.Bool.{and_from}
use Rattle.ll_parser.specs.Table.{member}
use Rattle.rag_io.specs.Tokens.{Lexed}
use Rattle.jrag_syntax.specs.Tokens.{token_class}
use Rattle.jrag_syntax.specs.declared.classes.Start.{Start}
use Rattle.jrag_reader.specs.Forms.{Sort, Form, forms, is_also}
use Rattle.jrag_reader.specs.Forms as sorts
use Rattle.jrag_reader.specs.Making.{make}
use Rattle.jrag_reader.specs.Parts.{Part, Token, Named, Quantifying, Formed, Arguments, Parameters, Flag}
use Rattle.jrag_reader.specs.Saying.{IsAmong, Says, SayAll, one, made, also, none, more}
use Rattle.jrag_reader.proofs.Fits.{fits, all_fit, MakesOne}
use Rattle.jrag_reader.proofs.Makes.{makes}
use Rattle.jrag_reader.proofs.Rows.{holds_of_member}
use Rattle.jrag_reader.proofs.SideBySide.{never}

module _ (start : Start) where
  token_also : (cs ds : List ℕ) (p : Part) → is_also (sorts.OneOf cs) (sorts.OneOf ds) ≡ true → fits start (sorts.OneOf cs) p ≡ true
      → fits start (sorts.OneOf ds) p ≡ true
  token_also cs ds (Token t code) within fit = holds_of_member (λ c. member c ds) cs (token_class start t) within fit
  token_also cs ds _ within fit = never fit

  word_also : (l : ℕ) (p : Part) → fits start sorts.Word p ≡ true → fits start (sorts.Expression l) p ≡ true
  word_also l (Named n) fit = refl
  word_also l (Quantifying q n) fit = refl
  word_also l _ fit = never fit

  quantifier_also : (p : Part) → fits start sorts.Quantifier p ≡ true → fits start sorts.Word p ≡ true
  quantifier_also (Quantifying q n) fit = refl
  quantifier_also _ fit = never fit

  expression_also : (m l : ℕ) (p : Part) → fits start (sorts.Expression m) p ≡ true → fits start (sorts.Expression l) p ≡ true
  expression_also m l (Named n) fit = refl
  expression_also m l (Quantifying q n) fit = refl
  expression_also m l (Formed e) fit = refl
  expression_also m l _ fit = never fit

  sourced_also : (l : ℕ) (p : Part) → fits start sorts.Sourced p ≡ true → fits start (sorts.Expression l) p ≡ true
  sourced_also l (Formed e) fit = refl
  sourced_also l _ fit = never fit

  arguments_also : (p : Part) → fits start sorts.SomeArguments p ≡ true → fits start sorts.Arguments p ≡ true
  arguments_also (Arguments es) fit = refl
  arguments_also _ fit = never fit

  parameters_also : (p : Part) → fits start sorts.SomeParameters p ≡ true → fits start sorts.Parameters p ≡ true
  parameters_also (Parameters ps) fit = refl
  parameters_also _ fit = never fit

  lazy_also : (p : Part) → fits start sorts.Absent p ≡ true → fits start sorts.Lazy p ≡ true
  lazy_also (Flag b) fit = refl
  lazy_also _ fit = never fit

  higher_order_also : (p : Part) → fits start sorts.Absent p ≡ true → fits start sorts.HigherOrder p ≡ true
  higher_order_also (Flag b) fit = refl
  higher_order_also _ fit = never fit

  -- what fits a sort fits each sort that it is also of
  pub also_fits : (s r : Sort) (p : Part) → is_also s r ≡ true → fits start s p ≡ true → fits start r p ≡ true
  also_fits (sorts.OneOf cs) (sorts.OneOf ds) p is fit = token_also cs ds p is fit
  also_fits sorts.Word sorts.Word p is fit = fit
  also_fits sorts.Word (sorts.Expression l) p is fit = word_also l p fit
  also_fits sorts.Quantifier sorts.Quantifier p is fit = fit
  also_fits sorts.Quantifier sorts.Word p is fit = quantifier_also p fit
  also_fits sorts.Quantifier (sorts.Expression l) p is fit = word_also l p (quantifier_also p fit)
  also_fits (sorts.Expression m) (sorts.Expression l) p is fit = expression_also m l p fit
  also_fits sorts.Sourced sorts.Sourced p is fit = fit
  also_fits sorts.Sourced (sorts.Expression l) p is fit = sourced_also l p fit
  also_fits sorts.Arguments sorts.Arguments p is fit = fit
  also_fits sorts.SomeArguments sorts.SomeArguments p is fit = fit
  also_fits sorts.SomeArguments sorts.Arguments p is fit = arguments_also p fit
  also_fits sorts.OfType sorts.OfType p is fit = fit
  also_fits sorts.Parameters sorts.Parameters p is fit = fit
  also_fits sorts.SomeParameters sorts.SomeParameters p is fit = fit
  also_fits sorts.SomeParameters sorts.Parameters p is fit = parameters_also p fit
  also_fits sorts.Lazy sorts.Lazy p is fit = fit
  also_fits sorts.HigherOrder sorts.HigherOrder p is fit = fit
  also_fits sorts.Absent sorts.Absent p is fit = fit
  also_fits sorts.Absent sorts.Lazy p is fit = lazy_also p fit
  also_fits sorts.Absent sorts.HigherOrder p is fit = higher_order_also p fit
  also_fits sorts.Modifiers sorts.Modifiers p is fit = fit
  also_fits sorts.Circularity sorts.Circularity p is fit = fit
  also_fits sorts.Body sorts.Body p is fit = fit
  also_fits sorts.Condition sorts.Condition p is fit = fit
  also_fits sorts.Path sorts.Path p is fit = fit
  also_fits sorts.Method sorts.Method p is fit = fit
  also_fits sorts.Root sorts.Root p is fit = fit
  also_fits sorts.Item sorts.Item p is fit = fit
  also_fits sorts.Aspects sorts.Aspects p is fit = fit
  also_fits sorts.Opened sorts.Opened p is fit = fit
  also_fits _ _ p is fit = never is

-- two answers of one step are one
same_part : (answer : Option (List Part)) (p q : Part) → answer ≡ Some (p ∷ []) → answer ≡ Some (q ∷ []) → p ≡ q
same_part answer p q first second = cc

module _ (start : Start) (action : ℕ) (parts : List Part) (whole : Sort) (p : Part) (is : make start action parts ≡ Some (p ∷ []))
    (makes_one : MakesOne start action parts whole) where
  -- the part that an action makes is the one that it makes with nothing below
  part_made : makes_one.part ≡ p
  part_made =
      same_part (make start action parts) makes_one.part p
      (subst (λ ps. make start action ps ≡ Some (makes_one.part ∷ [])) (append-nil parts) (makes_one.is [])) is

  pub made_fits : fits start whole p ≡ true
  made_fits = subst (λ q. fits start whole q ≡ true) part_made makes_one.fitting

  pub made_over : (below : List Part) → make start action (parts ++ below) ≡ Some (p ∷ below)
  made_over below = makes_one.is below ∙ ap (λ q. Some (q ∷ below)) part_made

mutual
  pub says_fits : {start : Start} {texts : List (List ℕ)} {s : Sort} {ts : List Lexed} {p : Part} → Says start texts s ts p → fits start s p ≡ true
  says_fits (one among) = among
  says_fits {start = start} {p = p} (made {parts = parts} action f among said is) =
      made_fits start action parts f.whole p is (makes start action f among parts (say_all_fit said))
  says_fits {start = start} {s = r} {p = p} (also {s = s} is said) = also_fits start s r p is (says_fits said)

  pub say_all_fit : {start : Start} {texts : List (List ℕ)} {asked : List Sort} {ts : List Lexed} {parts : List Part} → SayAll start texts asked ts parts
      → all_fit start asked parts ≡ true
  say_all_fit none = refl
  say_all_fit {start = start} (more {s = s} {sorts = others} {p = p} {parts = parts} all said) =
      and_from (fits start s p) (all_fit start others parts) (says_fits said) (say_all_fit all)

-- what an action makes of the parts of a form, it makes of them whatever lies below
pub made_below : {start : Start} {texts : List (List ℕ)} {ts : List Lexed} {parts : List Part} {p : Part} (action : ℕ) (f : Form) → IsAmong f (forms action)
    → SayAll start texts (reverse f.parts) ts parts → make start action parts ≡ Some (p ∷ []) → (below : List Part)
    → make start action (parts ++ below) ≡ Some (p ∷ below)
made_below {start = start} {parts = parts} {p = p} action f among said is =
    made_over start action parts f.whole p is (makes start action f among parts (say_all_fit said))
