-- The classes that declare a name, and those that are added.
use Rattle.std.proofs.Common.{◌≡◌, ℕ, suc, ◌+◌, nat_eq, nat_lt, Bool, true, false, cond, if◌then◌else◌, not, ◌||◌, ◌&&◌, List, [], ◌∷◌, ◌++◌, Option, Some, None, Ok, Err, OnOk, Result, Vec, get_or, is_some, length, length-append, position, slice_get, slice_set, refl, sym, ap, subst, ◌∙◌, arith, option_map, option_and_then, bytes_eq}
use Rattle.std.specs.List.{list_any, position_or_len}
use Rattle.std.specs.Vec.{with_item}
use Rattle.std.specs.declared.alloc.Global.{Global}
use Rattle.std.proofs.Math.Bool.{or-false}
use Rattle.std.proofs.lemmas.Bool.{eqb-true}
use Rattle.std.proofs.lemmas.Bool.Decides.{nat_tests}
use Rattle.std.proofs.lemmas.Cmp.{nat_list_eq_equiv}
use Rattle.std.proofs.lemmas.Slice.Eq.{bytes_eq-Decides}
use Rattle.ast_grammar.specs.declared.grammar.ClassId.{ClassId}
use Rattle.names.specs.Among.{is_among, with_name}
use Rattle.names.proofs.Numbering.{number_known}
use Rattle.attr_heads.specs.declared.declared.Declared.{Declared}
use Rattle.attr_heads.specs.DeclaredNames.{Adds, AddsClass, IsEven, classes_in, classes_under}

-- where a class is one of some, adding it changes no answer
either_way : (a b : Bool) → (b ≡ true → a ≡ true) → a ≡ (a || b)
either_way true b h = refl
either_way false true h = h refl
either_way false false h = refl

or_right : (a b : Bool) → b ≡ true → (a || b) ≡ true
or_right true b h = refl
or_right false b h = h

class_there : (f : ClassId → Bool) (classes : List ClassId) (class : ClassId) → list_any (λ y. nat_eq y.0 class.0) classes ≡ true → f class ≡ true → list_any f classes ≡ true
class_there f [] class h k = cc
class_there f (c ∷ classes) class h k =
    elim (nat_eq c.0 class.0) as (λ b. nat_eq c.0 class.0 ≡ b → (b || list_any (λ y. nat_eq y.0 class.0) classes) ≡ true → list_any f (c ∷ classes) ≡ true) [
      | true ↦ λ e g. (let same : f c ≡ true = ap (λ n. f (record { 0 = n })) (eqb-true c.0 class.0 e) ∙ k in ap (λ b. b || list_any f classes) same)
      | false ↦ λ e g. or_right (f c) (list_any f classes) (class_there f classes class g k)
    ] refl h

pub adds_known : (classes : List ClassId) (class : ClassId) → list_any (λ y. nat_eq y.0 class.0) classes ≡ true → AddsClass classes class classes
adds_known classes class h = record { adds = λ f. either_way (list_any f classes) (f class) (class_there f classes class h) }

-- the place of an item, by the first
one_further : (n m : ℕ) → nat_lt (1 + n) (m + 1) ≡ nat_lt n m
one_further n m = grind (arith, nat_tests)

later : (b : Bool) (l : ℕ) → (if b then Some (1 + l) else None) ≡ option_map suc (if b then Some l else None)
later true l = let same : 1 + l ≡ suc l = omega arith in ap Some same
later false l = refl

first_or : (b : Bool) (l n : ℕ) → (if nat_lt (if not b then 1 + l else 0) (n + 1) then Some (if not b then 1 + l else 0) else None) ≡ cond b (Some 0) (option_map suc (if nat_lt l n then Some l else None))
first_or true l n = let some : nat_lt 0 (n + 1) ≡ true = grind (arith, nat_tests) in ap (λ b. if b then Some 0 else None) some
first_or false l n = ap (λ b. if b then Some (1 + l) else None) (one_further l n) ∙ later (nat_lt l n) l

position-cons : {X : Type 0} (p : X → Bool) (x : X) (xs : List X) → position p (x ∷ xs) ≡ cond (p x) (Some 0) (option_map suc (position p xs))
position-cons p x xs =
    let longer : length (x ∷ xs) ≡ length xs + 1 = omega arith in
    ap (λ n. if nat_lt (position_or_len p (x ∷ xs)) n then Some (position_or_len p (x ∷ xs)) else None) longer ∙ first_or (p x) (position_or_len p xs) (length xs)

-- the classes that stand beside the first name that is this
abbrev beside : List (List ℕ) → List (Vec ClassId Global) → List ℕ → List ClassId
beside [] classes q = []
beside (n ∷ names) [] q = []
beside (n ∷ names) (c ∷ classes) q = cond (bytes_eq q n) c.items (beside names classes q)

none_under : (o : Option ℕ) → classes_in (option_and_then (slice_get []) o) ≡ []
none_under None = refl
none_under (Some n) = refl

further : (c : Vec ClassId Global) (classes : List (Vec ClassId Global)) (o : Option ℕ) → classes_in (option_and_then (slice_get (c ∷ classes)) (option_map suc o)) ≡ classes_in (option_and_then (slice_get classes) o)
further c classes None = refl
further c classes (Some n) = refl

here_or : (b : Bool) (c : Vec ClassId Global) (classes : List (Vec ClassId Global)) (o : Option ℕ) → classes_in (option_and_then (slice_get (c ∷ classes)) (cond b (Some 0) (option_map suc o))) ≡ cond b c.items (classes_in (option_and_then (slice_get classes) o))
here_or true c classes o = refl
here_or false c classes o = further c classes o

under_is : (names : List (List ℕ)) (classes : List (Vec ClassId Global)) (q : List ℕ) → classes_under names classes q ≡ beside names classes q
under_is [] classes q = refl
under_is (n ∷ names) [] q = none_under (position (bytes_eq q) (n ∷ names))
under_is (n ∷ names) (c ∷ classes) q =
    ap (λ o. classes_in (option_and_then (slice_get (c ∷ classes)) o)) (position-cons (bytes_eq q) n names) ∙ here_or (bytes_eq q n) c classes (position (bytes_eq q) names)
    ∙ ap (cond (bytes_eq q n) c.items) (under_is names classes q)

-- a class more for a name
same_test : (q n m : List ℕ) → bytes_eq n m ≡ true → bytes_eq q m ≡ bytes_eq q n
same_test q n m e = ap (bytes_eq q) (sym ((bytes_eq-Decides n m).0 e))

apart : (q n m : List ℕ) → bytes_eq n m ≡ false → bytes_eq q m ≡ true → bytes_eq q n ≡ false
apart q n m e f = ap (λ z. bytes_eq z n) ((bytes_eq-Decides q m).0 f) ∙ nat_list_eq_equiv.symm m n ∙ e

put_here : (b : Bool) (f : ClassId → Bool) (class : ClassId) (x y rest : List ClassId) → AddsClass x class y → list_any f (cond b y rest) ≡ (list_any f (cond b x rest) || (b && f class))
put_here true f class x y rest h = h.adds f
put_here false f class x y rest h = sym (or-false (list_any f rest))

put_later : (b d : Bool) (f : ClassId → Bool) (class : ClassId) (x rest more : List ClassId) → (b ≡ true → d ≡ false) → list_any f more ≡ (list_any f rest || (d && f class)) → list_any f (cond b x more) ≡ (list_any f (cond b x rest) || (d && f class))
put_later true d f class x rest more differs h = sym (ap (λ e. list_any f x || (e && f class)) (differs refl) ∙ or-false (list_any f x))
put_later false d f class x rest more differs h = h

number_before : (o : Option ℕ) (n : ℕ) → option_map suc o ≡ Some n → (k : ℕ) × (o ≡ Some k) × (n ≡ suc k)
number_before None n h = absurd cc
number_before (Some k) n h = (k, refl, cc)

module _ (f : ClassId → Bool) (name : List ℕ) (class : ClassId) (x y : Vec ClassId Global) (added : AddsClass x.items class y.items) (q : List ℕ) where
  abbrev Put : List (List ℕ) → List (Vec ClassId Global) → ℕ → Type 0
  Put names classes n = list_any f (beside names (slice_set classes n y) q) ≡ (list_any f (beside names classes q) || (bytes_eq q name && f class))

  put_first : (m : List ℕ) (names : List (List ℕ)) (c : Vec ClassId Global) (classes : List (Vec ClassId Global)) (n : ℕ) → bytes_eq name m ≡ true → Some 0 ≡ Some n → x ≡ get_or (c ∷ classes) n x → Put (m ∷ names) (c ∷ classes) n
  put_first m names c classes n e at is =
      let first : 0 ≡ n = cc in
      let there : x ≡ c = is ∙ ap (λ k. get_or (c ∷ classes) k x) (sym first) in
      subst (λ k. Put (m ∷ names) (c ∷ classes) k) first
      (put_here (bytes_eq q m) f class c.items y.items (beside names classes q) (subst (λ (z : Vec ClassId Global). AddsClass z.items class y.items) there added)
      ∙ ap (λ b. list_any f (cond (bytes_eq q m) c.items (beside names classes q)) || (b && f class)) (same_test q name m e))

  put_beside : (names : List (List ℕ)) (classes : List (Vec ClassId Global)) (n : ℕ) → length classes ≡ length names → position (bytes_eq name) names ≡ Some n → x ≡ get_or classes n x → Put names classes n
  put_beside [] classes n even at is = absurd cc
  put_beside (m ∷ names) [] n even at is = absurd (let none : 0 ≡ length (m ∷ names) = even in omega arith)
  put_beside (m ∷ names) (c ∷ classes) n even at is =
      elim (bytes_eq name m) as (λ b. bytes_eq name m ≡ b → cond b (Some 0) (option_map suc (position (bytes_eq name) names)) ≡ Some n → Put (m ∷ names) (c ∷ classes) n) [
        | true ↦ λ e g. put_first m names c classes n e g is
        | false ↦ λ e g. (
            let k = number_before (position (bytes_eq name) names) n g in
            subst (λ k. Put (m ∷ names) (c ∷ classes) k) (sym k.2)
            (put_later (bytes_eq q m) (bytes_eq q name) f class c.items (beside names classes q) (beside names (slice_set classes k.0 y) q) (apart q name m e)
            (put_beside names classes k.0 (omega (arith, even)) k.1 (is ∙ ap (λ k. get_or (c ∷ classes) k x) k.2)))
            )
      ] refl (sym (position-cons (bytes_eq name) m names) ∙ at)

not_either : (a b : Bool) → (a || b) ≡ false → (a ≡ false) × (b ≡ false)
not_either true b h = cc
not_either false b h = (refl, h)

only_here : (b : Bool) (f : ClassId → Bool) (class : ClassId) (v : List ClassId) → v ≡ class ∷ [] → list_any f (cond b v []) ≡ (false || (b && f class))
only_here true f class v e = ap (list_any f) e ∙ or-false (f class)
only_here false f class v e = refl

-- a name more, with one class
beside_more : (names : List (List ℕ)) (classes : List (Vec ClassId Global)) (name : List ℕ) (class : ClassId) (v : Vec ClassId Global) → length classes ≡ length names → is_among names name ≡ false → v.items ≡ class ∷ []
    → (f : ClassId → Bool) (q : List ℕ) → list_any f (beside (names ++ name ∷ []) (classes ++ v ∷ []) q) ≡ (list_any f (beside names classes q) || (bytes_eq q name && f class))
beside_more [] [] name class v even new is f q = only_here (bytes_eq q name) f class v.items is
beside_more [] (c ∷ classes) name class v even new is f q = absurd (let none : length (c ∷ classes) ≡ 0 = even in omega arith)
beside_more (n ∷ names) [] name class v even new is f q = absurd (let none : 0 ≡ length (n ∷ names) = even in omega arith)
beside_more (n ∷ names) (c ∷ classes) name class v even new is f q =
    let parts = not_either (bytes_eq name n) (is_among names name) new in
    put_later (bytes_eq q n) (bytes_eq q name) f class c.items (beside names classes q) (beside (names ++ name ∷ []) (classes ++ v ∷ []) q) (apart q name n parts.0)
    (beside_more names classes name class v (omega (arith, even)) parts.1 is f q)

-- a class more was put at the name's number
adds_at : (old : Declared) (name : List ℕ) (class : ClassId) (n : ℕ) (x y : Vec ClassId Global) → IsEven old → position (bytes_eq name) old.names ≡ Some n → x ≡ get_or old.classes.items n x → AddsClass x.items class y.items
    → Adds old class name (record { names = old.names; classes = with_item old.classes n y })
adds_at old name class n x y even at is added = record {
  adds = λ f q.
      ap (list_any f) (under_is old.names (slice_set old.classes.items n y) q) ∙ put_beside f name class x y added q old.names old.classes.items n even.long at is
      ∙ ap (λ classes. list_any f classes || (bytes_eq q name && f class)) (sym (under_is old.names old.classes.items q));
}

pub adds_known_name : {T E : Type 0} (r : Result T E) (old : Declared) (name : List ℕ) (class : ClassId) (n : ℕ) (x y : Vec ClassId Global) → IsEven old → position (bytes_eq name) old.names ≡ Some n → x ≡ get_or old.classes.items n x → OnOk r (AddsClass x.items class y.items)
    → OnOk r (Adds old class name (record { names = old.names; classes = with_item old.classes n y }))
adds_known_name (Ok u) old name class n x y even at is added = adds_at old name class n x y even at is added
adds_known_name (Err e) old name class n x y even at is added = tt

module _ (old new : Declared) (name : List ℕ) (class : ClassId) (v : Vec ClassId Global) (even : IsEven old) (none : position (bytes_eq name) old.names ≡ None)
    (names : new.names ≡ with_name old.names name) (only : v.items ≡ class ∷ []) (classes : new.classes.items ≡ old.classes.items ++ v ∷ []) where
  fresh : is_among old.names name ≡ false
  fresh = sym (number_known old.names name) ∙ ap is_some none

  longer : new.names ≡ old.names ++ name ∷ []
  longer = names ∙ ap (λ b. if b then old.names else old.names ++ name ∷ []) fresh

  pub even_new_name : IsEven new
  even_new_name = record { long = ap length classes ∙ length-append old.classes.items (v ∷ []) ∙ ap (λ n. n + 1) even.long ∙ sym (ap length longer ∙ length-append old.names (name ∷ [])) }

  pub adds_new_name : Adds old class name new
  adds_new_name = record {
    adds = λ f q.
        ap (list_any f) (under_is new.names new.classes.items q ∙ (λ i. beside (longer i) (classes i) q)) ∙ beside_more old.names old.classes.items name class v even.long fresh only f q
        ∙ ap (λ classes. list_any f classes || (bytes_eq q name && f class)) (sym (under_is old.names old.classes.items q));
  }
