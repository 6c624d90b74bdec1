-- The rules of types: which expressions, as they are written, are of which type.
use Rattle.std.specs.Prelude.{◌≡◌, ℕ, ◌+◌, ◌≤◌, Bool, true, All, List, [], ◌∷◌, Some, IsSome, codes}
use Rattle.rag_io.specs.declared.token.Place.{Place}
use Rattle.ast_grammar.specs.declared.grammar.ClassId.{ClassId}
use Rattle.ast_grammar.specs.Grammar.{class_named}
use Rattle.attr_rules.specs.declared.accessors.Access.TheVariants as access
use Rattle.attr_rules.specs.declared.accessors.Accessor.{Accessor}
use Rattle.attr_rules.specs.declared.expression.SetOperator.{SetOperator}
use Rattle.attr_rules.specs.declared.expression.SetOperator.TheVariants.{Union, Inter, Minus}
use Rattle.attr_rules.specs.declared.kinds.Attr.{Attr}
use Rattle.attr_rules.specs.declared.kinds.AttrId.{AttrId}
use Rattle.attr_rules.specs.declared.kinds.Kind.{Kind}
use Rattle.attr_rules.specs.declared.kinds.Kind.TheVariants as kinds
use Rattle.attr_rules.specs.declared.types.ValueType.{ValueType}
use Rattle.attr_rules.specs.declared.types.ValueType.TheVariants as types
use Rattle.attr_rules.specs.Accessors.{arguments_of, type_read}
use Rattle.attr_rules.specs.Rules.{declared_at}
use Rattle.attr_rules.specs.Types.{class_of_number, common, comparable, elements_of, fits, is_node, is_set, may_be_element, of_class, parameter_kinds, set_of}
use Rattle.aspect_items.specs.declared.expression.Operator.{Operator}
use Rattle.aspect_items.specs.declared.expression.Operator.TheVariants as signs
use Rattle.aspect_items.specs.declared.expression.Quantifier.{Quantifier}
use Rattle.aspect_items.specs.declared.expression.Quantifier.TheVariants as quantifiers
use Rattle.aspect_items.specs.Expressions.{Expr, Arguments, Name, no_more, argument, Truth, Null, Empty, This, Int, Text, Variable as Named, Call, Member, Quantified, Group, Cast, Not, Negate, Binary, InstanceOf, If}
use Rattle.attr_scope.specs.declared.scope.Member.TheVariants as members
use Rattle.attr_scope.specs.Scope.{Scope, Variable, member_of, with_variable}
use Rattle.expr_typing.specs.declared.set_forms.SetForm.{SetForm}
use Rattle.expr_typing.specs.declared.set_forms.SetForm.TheVariants as forms
use Rattle.expr_typing.specs.Typed.{count}

-- Among some variables, the innermost first, a name is that of the innermost one that has it, whose values are of this type.
pub data Means : List Variable → List ℕ → ValueType → Type 0 where
  innermost : {vs : List Variable} {name : List ℕ} (v : Variable) (t : ValueType) → v.name ≡ name → v.type ≡ Some t → Means (v ∷ vs) name t
  further : {vs : List Variable} {name : List ℕ} {t : ValueType} (v : Variable) → (v.name ≡ name → ⊥) → Means vs name t → Means (v ∷ vs) name t

-- the values of each name are of a type that is known
abbrev pub NamesAreKnown : Scope → Type 0
NamesAreKnown s = All (λ (v : Variable). IsSome v.type) s.variables

-- the forms of sets, which are written as calls without receiver, by their names
pub data IsForm : List ℕ → SetForm → Type 0 where
  union : IsForm (codes "union") (forms.Makes Union)
  inter : IsForm (codes "inter") (forms.Makes Inter)
  minus : IsForm (codes "minus") (forms.Makes Minus)
  single : IsForm (codes "single") forms.Single
  contains : IsForm (codes "contains") forms.Contains
  size : IsForm (codes "size") forms.Size

-- the operators on two integers, and the type of what they give
pub data OnInts : Operator → Kind → Type 0 where
  multiply : OnInts signs.Multiply kinds.Int
  add : OnInts signs.Add kinds.Int
  subtract : OnInts signs.Subtract kinds.Int
  less : OnInts signs.Less kinds.Truth
  at_most : OnInts signs.AtMost kinds.Truth
  greater : OnInts signs.Greater kinds.Truth
  at_least : OnInts signs.AtLeast kinds.Truth

-- the operators on two truth values
pub data OnTruths : Operator → Type 0 where
  and : OnTruths signs.And
  or : OnTruths signs.Or

-- those that compare
pub data Compares : Operator → Type 0 where
  equal : Compares signs.Equal
  differ : Compares signs.Differ

-- the forms that ask a condition of all elements
pub data Asks : Quantifier → Type 0 where
  any : Asks quantifiers.Any
  all : Asks quantifiers.All

-- the greatest literal; directly behind a unary `-` it is one more
abbrev pub greatest_literal : ℕ
greatest_literal = 2147483647

-- a scope with the name of an element more
abbrev pub with_element : Scope → Name → Kind → Scope
with_element s n k = with_variable s (record { name = n.text; type = Some (types.Of k) })

mutual
  -- In a scope, an expression is of a type. A source node `@k` and `new` are of none: the first stands in queries alone, and the second makes a tree,
  -- as the whole right side of an equation of a higher-order attribute or as a child of another `new`.
  pub data IsTyped : Scope → Expr → ValueType → Type 0 where
    truth : {s : Scope} (p : Place) (b : Bool) → IsTyped s (Truth p b) (types.Of kinds.Truth)
    null : {s : Scope} (p : Place) → IsTyped s (Null p) types.Null
    empty : {s : Scope} (p : Place) → IsTyped s (Empty p) types.Empty
    this : {s : Scope} (p : Place) → IsTyped s (This p) (of_class s.this)
    literal : {s : Scope} (p : Place) (n : ℕ) → n ≤ greatest_literal → IsTyped s (Int p n) (types.Of kinds.Int)
    text : {s : Scope} (p : Place) (n : ℕ) → IsTyped s (Text p n) (types.Of kinds.Text)
    variable : {s : Scope} (n : Name) (t : ValueType) → Means s.variables n.text t → IsTyped s (Named n) t
    -- a call behind a receiver, which is of a class; and one without, which is on `this`, unless it is one of the forms of sets
    member : {s : Scope} {e : Expr} {es : Arguments} (n : Name) (c : ClassId) (t : ValueType) → IsTyped s e (of_class c) → IsCalled s c n es t → IsTyped s (Member e n es) t
    alone : {s : Scope} {es : Arguments} (n : Name) (t : ValueType) → ((f : SetForm) → IsForm n.text f → ⊥) → IsCalled s s.this n es t → IsTyped s (Call n es) t
    -- what is made of two sets is of their common type
    made : {s : Scope} {a b : Expr} (n : Name) (o : SetOperator) (t u v : ValueType) → IsForm n.text (forms.Makes o) → IsTyped s a t → IsTyped s b u → is_set t ≡ true → is_set u ≡ true → common s.grammar t u ≡ Some v → IsTyped s (Call n (argument a (argument b no_more))) v
    single : {s : Scope} {e : Expr} (n : Name) (t u : ValueType) → IsForm n.text forms.Single → IsTyped s e t → set_of t ≡ Some u → IsTyped s (Call n (argument e no_more)) u
    contains : {s : Scope} {a b : Expr} (n : Name) (t u : ValueType) → IsForm n.text forms.Contains → IsTyped s a t → IsTyped s b u → may_be_element s.grammar t u ≡ true → IsTyped s (Call n (argument a (argument b no_more))) (types.Of kinds.Truth)
    size : {s : Scope} {e : Expr} (n : Name) (t : ValueType) → IsForm n.text forms.Size → IsTyped s e t → is_set t ≡ true → IsTyped s (Call n (argument e no_more)) (types.Of kinds.Int)
    -- `each` is of the type of its body, which is a set; `any` and `all` ask a truth value; `first` goes over a list, and gives an element
    each : {s : Scope} {r e : Expr} (p : Place) (n : Name) (k : Kind) (t : ValueType) → GoesOver s r k → IsTyped (with_element s n k) e t → is_set t ≡ true → IsTyped s (Quantified quantifiers.Each p n r e) t
    asked : {s : Scope} {r e : Expr} (q : Quantifier) (p : Place) (n : Name) (k : Kind) → Asks q → GoesOver s r k → IsTyped (with_element s n k) e (types.Of kinds.Truth) → IsTyped s (Quantified q p n r e) (types.Of kinds.Truth)
    first : {s : Scope} {r e : Expr} (p : Place) (n : Name) (c : ClassId) → IsList s r c → IsTyped (with_element s n (kinds.Node c)) e (types.Of kinds.Truth) → IsTyped s (Quantified quantifiers.First p n r e) (of_class c)
    group : {s : Scope} {e : Expr} (p : Place) (t : ValueType) → IsTyped s e t → IsTyped s (Group p e) t
    -- a cast and a test take nodes of whatever class, and `null`
    cast : {s : Scope} {e : Expr} (p : Place) (n : Name) (c : ℕ) (t : ValueType) → class_named s.grammar n.text ≡ Some c → IsTyped s e t → is_node t ≡ true → IsTyped s (Cast p n e) (class_of_number c)
    instance_of : {s : Scope} {e : Expr} (n : Name) (c : ℕ) (t : ValueType) → class_named s.grammar n.text ≡ Some c → IsTyped s e t → is_node t ≡ true → IsTyped s (InstanceOf e n) (types.Of kinds.Truth)
    not : {s : Scope} {e : Expr} (p : Place) → IsTyped s e (types.Of kinds.Truth) → IsTyped s (Not p e) (types.Of kinds.Truth)
    negate : {s : Scope} {e : Expr} (p : Place) → IsTyped s e (types.Of kinds.Int) → IsTyped s (Negate p e) (types.Of kinds.Int)
    least : {s : Scope} (p q : Place) (n : ℕ) → n ≤ greatest_literal + 1 → IsTyped s (Negate p (Int q n)) (types.Of kinds.Int)
    ints : {s : Scope} {a b : Expr} (o : Operator) (k : Kind) → OnInts o k → IsTyped s a (types.Of kinds.Int) → IsTyped s b (types.Of kinds.Int) → IsTyped s (Binary o a b) (types.Of k)
    truths : {s : Scope} {a b : Expr} (o : Operator) → OnTruths o → IsTyped s a (types.Of kinds.Truth) → IsTyped s b (types.Of kinds.Truth) → IsTyped s (Binary o a b) (types.Of kinds.Truth)
    compared : {s : Scope} {a b : Expr} (o : Operator) (t u : ValueType) → Compares o → IsTyped s a t → IsTyped s b u → comparable t u ≡ true → IsTyped s (Binary o a b) (types.Of kinds.Truth)
    choice : {s : Scope} {c a b : Expr} (t u v : ValueType) → IsTyped s c (types.Of kinds.Truth) → IsTyped s a t → IsTyped s b u → common s.grammar t u ≡ Some v → IsTyped s (If c a b) v

  -- The call of a name at nodes of a class, with arguments that fit: of what an accessor reads, or of what an attribute is declared.
  pub data IsCalled : Scope → ClassId → Name → Arguments → ValueType → Type 0 where
    reads : {s : Scope} {c : ClassId} {n : Name} {es : Arguments} (x : Accessor) (t : ValueType) → member_of s n.text (count es) c ≡ Some (members.Reads x) → type_read x.access x.class ≡ Some t → Fit s es (arguments_of x.access) → IsCalled s c n es t
    calls : {s : Scope} {c : ClassId} {n : Name} {es : Arguments} (a : AttrId) (d : Attr) → member_of s n.text (count es) c ≡ Some (members.Calls a) → declared_at s.known.attributes a.0 ≡ Some d → Fit s es (parameter_kinds d.params) → IsCalled s c n es (types.Of d.kind)

  -- The arguments are as many as are wanted, and each fits.
  pub data Fit : Scope → Arguments → List Kind → Type 0 where
    end : {s : Scope} → Fit s no_more []
    more : {s : Scope} {e : Expr} {es : Arguments} {k : Kind} {ks : List Kind} (t : ValueType) → IsTyped s e t → fits s.grammar t k ≡ true → Fit s es ks → Fit s (argument e es) (k ∷ ks)

  -- The call of an accessor of a whole list, whose elements are nodes of this class. It stands in ranges alone.
  pub data IsList : Scope → Expr → ClassId → Type 0 where
    listed : {s : Scope} {e : Expr} (n : Name) (c : ClassId) (x : Accessor) → IsTyped s e (of_class c) → member_of s n.text 0 c ≡ Some (members.Reads x) → x.access ≡ access.Elements → IsList s (Member e n no_more) x.class
    listed_alone : {s : Scope} (n : Name) (x : Accessor) → ((f : SetForm) → IsForm n.text f → ⊥) → member_of s n.text 0 s.this ≡ Some (members.Reads x) → x.access ≡ access.Elements → IsList s (Call n no_more) x.class

  -- What stands as a range, with the type of the elements: a whole list, or a set other than that of `empty`.
  pub data GoesOver : Scope → Expr → Kind → Type 0 where
    list : {s : Scope} {e : Expr} (c : ClassId) → IsList s e c → GoesOver s e (kinds.Node c)
    set : {s : Scope} {e : Expr} (t : ValueType) (k : Kind) → IsTyped s e t → elements_of t ≡ Some k → GoesOver s e k

-- an expression is of a type by the rules, which fits this one
abbrev pub IsOf : Scope → Kind → Expr → Type 0
IsOf s wanted e = (t : ValueType) × IsTyped s e t × (fits s.grammar t wanted ≡ true)
