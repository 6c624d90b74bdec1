-- The sorts of parts that lie on the stack of a reader: what each symbol of the grammar takes from them and puts there.
use Rattle.std.proofs.Common.{◌≡◌, ℕ, ◌==◌, Bool, true, false, cond, ◌&&◌, List, [], ◌∷◌, Option, Some, None, reverse, refl, ◌||◌}
use Rattle.ll_parser.specs.declared.symbols.Symbol.{Symbol}
use Rattle.ll_parser.specs.declared.symbols.Symbol.TheVariants.{Terminal, Nonterminal, Action}
use Rattle.ll_parser.specs.Grammar.{Production}
use Rattle.ll_parser.specs.Table.{entry}
use Rattle.jrag_syntax.specs.JragGrammar.{jrag_grammar}
use Rattle.jrag_reader.specs.Forms.{Sort, OneOf, Word, Quantifier, Expression, Sourced, Arguments, SomeArguments, OfType, Parameters, SomeParameters}
use Rattle.jrag_reader.specs.Forms.{Lazy, HigherOrder, Modifiers, Circularity}
use Rattle.jrag_reader.specs.Forms.{Body, Condition, Path, Method, Root, Item, Aspects, Opened, is_also, Form, form, sign, forms, names, plain_names}
use Rattle.jrag_reader.specs.Forms.{quantifiers, type_names}
use Rattle.jrag_reader.specs.Forms.{choice, or, and, equality, relation, sum, product, unary, cast, operand, postfix, primary}

-- from nothing, and from one part
abbrev fresh : Sort → List Form
fresh s = form [] s ∷ []

abbrev further : Sort → Sort → List Form
further r s = form (r ∷ []) s ∷ []

-- Of what each nonterminal makes what: of the parts that lie there before it, in order, and its own tokens one part.
abbrev pub forms_of_nonterminals : List (List Form)
forms_of_nonterminals =
    fresh Aspects ∷
    fresh (Expression choice) ∷
    further Aspects Aspects ∷
    further Opened Opened ∷
    fresh Item ∷
    fresh Modifiers ∷
    fresh HigherOrder ∷
    fresh Lazy ∷
    fresh Circularity ∷
    fresh Body ∷
    -- 10
    fresh Path ∷
    fresh Method ∷
    fresh Root ∷
    fresh Condition ∷
    fresh Parameters ∷
    further SomeParameters SomeParameters ∷
    fresh OfType ∷
    fresh (OneOf type_names) ∷
    fresh (OneOf names) ∷
    fresh (OneOf plain_names) ∷
    -- 20
    fresh (OneOf quantifiers) ∷
    fresh (Expression choice) ∷
    fresh (Expression choice) ∷
    further (Expression product) (Expression choice) ∷
    further (Expression or) (Expression choice) ∷
    fresh (Expression or) ∷
    further (Expression or) (Expression or) ∷
    fresh (Expression and) ∷
    further (Expression and) (Expression and) ∷
    fresh (Expression equality) ∷
    -- 30
    further (Expression equality) (Expression equality) ∷
    fresh (Expression relation) ∷
    further (Expression relation) (Expression relation) ∷
    fresh (Expression sum) ∷
    further (Expression sum) (Expression sum) ∷
    fresh (Expression product) ∷
    further (Expression product) (Expression product) ∷
    fresh (Expression unary) ∷
    fresh (Expression cast) ∷
    fresh (Expression operand) ∷
    -- 40: behind `(`, and perhaps a name and `)`
    further (sign 36) (Expression operand) ∷
    (form (sign 36 ∷ Word ∷ []) (Expression operand) ∷ []) ∷
    (form (sign 36 ∷ Quantifier ∷ []) (Expression operand) ∷ []) ∷
    (form (sign 36 ∷ Word ∷ sign 37 ∷ []) (Expression operand) ∷ []) ∷
    fresh (Expression choice) ∷
    (form (Expression postfix ∷ []) (Expression choice) ∷ form (Sourced ∷ []) (Expression choice) ∷ []) ∷
    further (Expression postfix) (Expression choice) ∷
    further Word (Expression primary) ∷
    further Quantifier (Expression primary) ∷
    (form (Quantifier ∷ sign 36 ∷ []) (Expression primary) ∷ []) ∷
    -- 50
    (form (Quantifier ∷ sign 36 ∷ Word ∷ []) (Expression primary) ∷ []) ∷
    (form (Quantifier ∷ sign 36 ∷ Quantifier ∷ []) (Expression primary) ∷ []) ∷
    (form (Expression postfix ∷ []) (Expression postfix) ∷ form (Sourced ∷ []) Sourced ∷ []) ∷
    fresh Arguments ∷
    further SomeArguments SomeArguments ∷
    fresh (Expression primary) ∷
    fresh Sourced ∷
    fresh (Expression primary) ∷
    []

abbrev pub forms_of : ℕ → List Form
forms_of n = entry [] forms_of_nonterminals n

-- the sorts on a stack below some that may be taken from it, the last one first
abbrev pub taken : List Sort → List Sort → Option (List Sort)
taken [] stack = Some stack
taken (r ∷ rs) [] = None
taken (r ∷ rs) (s ∷ stack) = cond (is_also s r) (taken rs stack) None

abbrev pub put : Option (List Sort) → Sort → Option (List Sort) → Option (List Sort)
put None s other = other
put (Some stack) s other = Some (s ∷ stack)

-- the first of some forms whose parts lie there puts what they are in their place
abbrev pub replaced : List Form → List Sort → Option (List Sort)
replaced [] stack = None
replaced (f ∷ fs) stack = put (taken (reverse f.parts) stack) f.whole (replaced fs stack)

-- actions that say only where an outermost expression begins and ends
abbrev pub marks : ℕ → Bool
marks a = (a == 1) || (a == 2)

-- what lies on a stack behind a symbol, and behind some
abbrev pub passed : Symbol → List Sort → Option (List Sort)
passed (Terminal c) stack = Some (sign c ∷ stack)
passed (Action a) stack = cond (marks a) (Some stack) (replaced (forms a) stack)
passed (Nonterminal n) stack = replaced (forms_of n) stack

abbrev pub then_passed : (List Sort → Option (List Sort)) → Option (List Sort) → Option (List Sort)
then_passed f None = None
then_passed f (Some stack) = f stack

abbrev pub all_passed : List Symbol → List Sort → Option (List Sort)
all_passed [] stack = Some stack
all_passed (x ∷ xs) stack = then_passed (all_passed xs) (passed x stack)

-- a stack has one part, of a sort that is also another
abbrev pub is_one : Sort → Option (List Sort) → Bool
is_one r None = false
is_one r (Some []) = false
is_one r (Some (s ∷ [])) = is_also s r
is_one r (Some (s ∷ t ∷ stack)) = false

-- a body makes of the parts of a form what they are to be
abbrev pub body_fits : List Symbol → Form → Bool
body_fits body f = is_one f.whole (all_passed body (reverse f.parts))

abbrev pub body_fits_all : List Symbol → List Form → Bool
body_fits_all body [] = true
body_fits_all body (f ∷ fs) = body_fits body f && body_fits_all body fs

-- the whole test
abbrev pub sorts_fit : List Production → Bool
sorts_fit [] = true
sorts_fit (r ∷ rs) = body_fits_all r.body (forms_of r.of) && sorts_fit rs

pub sorted : sorts_fit jrag_grammar ≡ true
sorted = refl
