-- The forms of aspects and expressions: of which parts each is made, and what it is.
use Rattle.std.specs.Prelude.{ℕ, ◌==◌, nat_le, Bool, true, false, List, [], ◌∷◌, ◌++◌, if◌then◌else◌}
use Rattle.ll_parser.specs.Table.{every, member}

-- The sorts of parts. An expression has the level of its operator: 0 for a choice, which binds least, to 11 for what needs no parentheses anywhere.
pub data Sort : Type 0 where
  -- a token of one of these classes
  OneOf : List ℕ → Sort
  -- a name, and one that is the word of a quantifier
  Word : Sort
  Quantifier : Sort
  Expression : ℕ → Sort
  -- `@k`, with or without calls behind it
  Sourced : Sort
  -- the arguments of a call, and at least one of them
  Arguments : Sort
  SomeArguments : Sort
  OfType : Sort
  Parameters : Sort
  SomeParameters : Sort
  -- `lazy` or not, `nta` or not, and neither
  Lazy : Sort
  HigherOrder : Sort
  Absent : Sort
  Modifiers : Sort
  Circularity : Sort
  -- what may be left out: `= e`, `when e`, an attribute behind a path, `with` and a name, `root` and a name
  Body : Sort
  Condition : Sort
  Path : Sort
  Method : Sort
  Root : Sort
  Item : Sort
  -- some aspects, and some with one that isn't closed yet
  Aspects : Sort
  Opened : Sort

-- the levels of expressions
abbrev pub choice : ℕ
choice = 0

abbrev pub or : ℕ
or = 1

abbrev pub and : ℕ
and = 2

abbrev pub equality : ℕ
equality = 3

abbrev pub relation : ℕ
relation = 4

abbrev pub sum : ℕ
sum = 5

abbrev pub product : ℕ
product = 6

abbrev pub unary : ℕ
unary = 7

abbrev pub cast : ℕ
cast = 8

-- what may be cast
abbrev pub operand : ℕ
operand = 9

-- with or without calls behind it
abbrev pub postfix : ℕ
postfix = 10

abbrev pub primary : ℕ
primary = 11

-- the classes of names, of those that are the words of quantifiers, of literals and of types
abbrev pub quantifiers : List ℕ
quantifiers = 29 ∷ 30 ∷ 31 ∷ 32 ∷ []

abbrev pub plain_names : List ℕ
plain_names = 1 ∷ 25 ∷ 26 ∷ 27 ∷ 28 ∷ []

abbrev pub names : List ℕ
names = 1 ∷ 25 ∷ 26 ∷ 27 ∷ 28 ∷ 29 ∷ 30 ∷ 31 ∷ 32 ∷ []

abbrev pub literals : List ℕ
literals = 2 ∷ 15 ∷ 16 ∷ 17 ∷ 18 ∷ 19 ∷ []

abbrev pub type_names : List ℕ
type_names = 1 ∷ 22 ∷ 23 ∷ 24 ∷ 25 ∷ 26 ∷ 27 ∷ 28 ∷ 29 ∷ 30 ∷ 31 ∷ 32 ∷ []

-- a part of the first sort is one of the second
abbrev pub is_also : Sort → Sort → Bool
is_also (OneOf cs) (OneOf ds) = every (λ c. member c ds) cs
is_also Word Word = true
is_also Word (Expression l) = nat_le l primary
is_also Quantifier Quantifier = true
is_also Quantifier Word = true
is_also Quantifier (Expression l) = nat_le l primary
is_also (Expression m) (Expression l) = nat_le l m
is_also Sourced Sourced = true
is_also Sourced (Expression l) = nat_le l cast
is_also Arguments Arguments = true
is_also SomeArguments SomeArguments = true
is_also SomeArguments Arguments = true
is_also OfType OfType = true
is_also Parameters Parameters = true
is_also SomeParameters SomeParameters = true
is_also SomeParameters Parameters = true
is_also Lazy Lazy = true
is_also HigherOrder HigherOrder = true
is_also Absent Absent = true
is_also Absent Lazy = true
is_also Absent HigherOrder = true
is_also Modifiers Modifiers = true
is_also Circularity Circularity = true
is_also Body Body = true
is_also Condition Condition = true
is_also Path Path = true
is_also Method Method = true
is_also Root Root = true
is_also Item Item = true
is_also Aspects Aspects = true
is_also Opened Opened = true
is_also _ _ = false

-- a form: the sorts of its parts in order, and of what they are together
pub record Form : Type 0 where
  pub parts : List Sort
  pub whole : Sort

abbrev pub sign : ℕ → Sort
sign c = OneOf (c ∷ [])

abbrev pub form : List Sort → Sort → Form
form parts whole = record { parts = parts; whole = whole }

-- an operator of these classes between operands of two levels, with the level of the left one
abbrev pub between : ℕ → List ℕ → ℕ → List Form
between left signs right = form (Expression left ∷ OneOf signs ∷ Expression right ∷ []) (Expression left) ∷ []

-- calls behind a receiver
abbrev pub members : Sort → Form
members receiver = form (receiver ∷ sign 35 ∷ Word ∷ sign 36 ∷ Arguments ∷ sign 37 ∷ []) receiver

-- the forms of expressions, each by its action
abbrev pub forms_of_expressions : ℕ → List Form
forms_of_expressions a =
    if a == 3 then form (OneOf quantifiers ∷ []) Quantifier ∷ form (OneOf names ∷ []) Word ∷ []
    else if a == 4 then form (OneOf literals ∷ []) (Expression primary) ∷ []
    else if a == 5 then form (sign 3 ∷ []) (Expression primary) ∷ []
    else if a == 6 then form (sign 59 ∷ sign 2 ∷ []) Sourced ∷ []
    else if a == 10 then form (Word ∷ sign 36 ∷ Arguments ∷ sign 37 ∷ []) (Expression primary) ∷ []
    else if a == 11 then members (Expression postfix) ∷ members Sourced ∷ []
    else if a == 12 then form (sign 14 ∷ Word ∷ sign 36 ∷ Arguments ∷ sign 37 ∷ []) (Expression primary) ∷ []
    else if a == 13 then form (Quantifier ∷ sign 36 ∷ Word ∷ sign 44 ∷ Expression choice ∷ sign 57 ∷ Expression choice ∷ sign 37 ∷ []) (Expression primary) ∷ []
    else if a == 14 then form (sign 36 ∷ Expression choice ∷ sign 37 ∷ []) (Expression primary) ∷ []
    else if a == 15 then form (sign 36 ∷ Word ∷ sign 37 ∷ Expression operand ∷ []) (Expression operand) ∷ []
    else if a == 16 then form (sign 56 ∷ Expression unary ∷ []) (Expression unary) ∷ []
    else if a == 17 then form (sign 54 ∷ Expression unary ∷ []) (Expression unary) ∷ []
    else if a == 18 then between product (55 ∷ []) unary
    else if a == 19 then between sum (53 ∷ 54 ∷ []) product
    else if a == 20 then between relation (49 ∷ 50 ∷ 51 ∷ 52 ∷ []) sum
    else if a == 21 then form (Expression relation ∷ sign 20 ∷ Word ∷ []) (Expression relation) ∷ []
    else if a == 22 then between equality (47 ∷ 48 ∷ []) relation
    else if a == 23 then between and (46 ∷ []) equality
    else if a == 24 then between or (45 ∷ []) and
    else if a == 25 then form (Expression or ∷ sign 43 ∷ Expression choice ∷ sign 44 ∷ Expression choice ∷ []) (Expression choice) ∷ []
    else []

-- a class, `.` and a name; what stands behind a type of a declaration
abbrev pub target : List Sort → List Sort
target rest = Word ∷ sign 35 ∷ Word ∷ sign 36 ∷ rest

-- the forms of items
abbrev pub forms_of_items : ℕ → List Form
forms_of_items a =
    if a == 26 then form [] Aspects ∷ []
    else if a == 27 then form (Aspects ∷ sign 4 ∷ Word ∷ sign 33 ∷ []) Opened ∷ []
    else if a == 28 then form (Opened ∷ Item ∷ []) Opened ∷ []
    else if a == 29 then form (Opened ∷ sign 34 ∷ []) Aspects ∷ []
    else if a == 30 then form (sign 5 ∷ Modifiers ∷ OfType ∷ target (Parameters ∷ sign 37 ∷ Circularity ∷ Body ∷ sign 40 ∷ [])) Item ∷ []
    else if a == 31 then form (sign 6 ∷ Lazy ∷ OfType ∷ target (Parameters ∷ sign 37 ∷ Circularity ∷ sign 40 ∷ [])) Item ∷ []
    else if a == 32 then form (sign 7 ∷ target (Parameters ∷ sign 37 ∷ Path ∷ sign 42 ∷ Expression choice ∷ sign 40 ∷ [])) Item ∷ []
    else if a == 33 then form (sign 8 ∷ OfType ∷ target (sign 37 ∷ sign 38 ∷ Expression choice ∷ sign 39 ∷ Method ∷ Root ∷ sign 40 ∷ [])) Item ∷ []
    else if a == 34 then form (Word ∷ sign 25 ∷ Expression choice ∷ Condition ∷ sign 12 ∷ target (sign 37 ∷ sign 13 ∷ Expression choice ∷ sign 40 ∷ [])) Item ∷ []
    else []

-- the forms of parts of items, and of arguments
abbrev pub forms_of_details : ℕ → List Form
forms_of_details a =
    if a == 7 then form [] Arguments ∷ []
    else if a == 8 then form (Expression choice ∷ []) SomeArguments ∷ []
    else if a == 9 then form (SomeArguments ∷ sign 41 ∷ Expression choice ∷ []) SomeArguments ∷ []
    else if a == 35 then form (sign 10 ∷ []) Lazy ∷ form (sign 9 ∷ []) HigherOrder ∷ []
    else if a == 36 then form [] Absent ∷ []
    else if a == 37 then form [] Modifiers ∷ []
    else if a == 38 then form (sign 10 ∷ HigherOrder ∷ []) Modifiers ∷ []
    else if a == 39 then form (sign 9 ∷ Lazy ∷ []) Modifiers ∷ []
    else if a == 40 then form (OneOf type_names ∷ []) OfType ∷ []
    else if a == 41 then form (sign 21 ∷ sign 49 ∷ OneOf type_names ∷ sign 51 ∷ []) OfType ∷ []
    else if a == 42 then form [] Parameters ∷ []
    else if a == 43 then form (OfType ∷ Word ∷ []) SomeParameters ∷ []
    else if a == 44 then form (SomeParameters ∷ sign 41 ∷ OfType ∷ Word ∷ []) SomeParameters ∷ []
    else if a == 45 then form (sign 28 ∷ sign 38 ∷ Expression choice ∷ sign 39 ∷ []) Circularity ∷ []
    else if a == 46 then form [] Circularity ∷ []
    else []

-- the forms of what may be left out
abbrev pub forms_of_optionals : ℕ → List Form
forms_of_optionals a =
    if a == 47 then form (sign 42 ∷ Expression choice ∷ []) Body ∷ []
    else if a == 48 then form [] Body ∷ []
    else if a == 49 then form (sign 35 ∷ Word ∷ sign 36 ∷ Parameters ∷ sign 37 ∷ []) Path ∷ []
    else if a == 50 then form [] Path ∷ []
    else if a == 51 then form (sign 26 ∷ Word ∷ []) Method ∷ []
    else if a == 52 then form [] Method ∷ []
    else if a == 53 then form (sign 27 ∷ Word ∷ []) Root ∷ []
    else if a == 54 then form [] Root ∷ []
    else if a == 55 then form (sign 11 ∷ Expression choice ∷ []) Condition ∷ []
    else if a == 56 then form [] Condition ∷ []
    else []

-- all forms, by their actions; most have one
abbrev pub forms : ℕ → List Form
forms a = forms_of_expressions a ++ (forms_of_items a ++ (forms_of_details a ++ forms_of_optionals a))
