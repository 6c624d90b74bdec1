-- What finitely many elements are: a list has exactly these.
use Rattle.std.proofs.Common.{◌≡◌, ℕ, zero, suc, ◌<◌, List, [], ◌∷◌, ◌++◌, map, length, get_or, refl, sym, subst, inl, inr, ◌⊎◌, arith}
use Rattle.std.proofs.lemmas.Bool.{cases_lt}

-- x is an element
abbrev pub In : {A : Type 0} → List A → A → Type 0
In [] x = ⊥
In (y ∷ ys) x = (x ≡ y) ⊎ In ys x

pub record Finite {A : Type 0} (P : A → Type 0) : Type 0 where
  pub elements : List A
  pub sound : (x : A) → In elements x → P x
  pub whole : (x : A) → P x → In elements x

-- the elements of two lists
pub in_left : {A : Type 0} (xs ys : List A) (x : A) → In xs x → In (xs ++ ys) x
in_left [] ys x h = absurd h
in_left (y ∷ xs) ys x h = elim h [
  | inl e ↦ inl e
  | inr k ↦ inr (in_left xs ys x k)
]

pub in_right : {A : Type 0} (xs ys : List A) (x : A) → In ys x → In (xs ++ ys) x
in_right [] ys x h = h
in_right (y ∷ xs) ys x h = inr (in_right xs ys x h)

pub in_either : {A : Type 0} (xs ys : List A) (x : A) → In (xs ++ ys) x → In xs x ⊎ In ys x
in_either [] ys x h = inr h
in_either (y ∷ xs) ys x h = elim h [
  | inl e ↦ inl (inl e)
  | inr k ↦ elim (in_either xs ys x k) [
    | inl l ↦ inl (inr l)
    | inr r ↦ inr r
  ]
]

finite_one : {A : Type 0} (a : A) → Finite (λ (x : A). x ≡ a)
finite_one a = record {
  elements = a ∷ [];
  sound = λ x h. elim h [
    | inl e ↦ e
    | inr n ↦ absurd n
  ];
  whole = λ x e. inl e;
}

-- the same, said in other words
finite_same : {A : Type 0} {P Q : A → Type 0} → Finite P → ((x : A) → P x → Q x) → ((x : A) → Q x → P x) → Finite Q
finite_same f to from = record { elements = f.elements; sound = λ x h. to x (f.sound x h); whole = λ x h. f.whole x (from x h) }

-- what they are mapped to
in_map : {A B : Type 0} (f : A → B) (xs : List A) (x : A) → In xs x → In (map f xs) (f x)
in_map f [] x h = absurd h
in_map f (y ∷ xs) x h = elim h [
  | inl e ↦ inl (λ i. f (e i))
  | inr k ↦ inr (in_map f xs x k)
]

map_in : {A B : Type 0} (f : A → B) (xs : List A) (y : B) → In (map f xs) y → (x : A) × In xs x × (y ≡ f x)
map_in f [] y h = absurd h
map_in f (x ∷ xs) y h = elim h [
  | inl e ↦ (x, inl refl, e)
  | inr k ↦ (let rest = map_in f xs y k in (rest.0, inr rest.1, rest.2))
]

pub finite_map : {A B : Type 0} {P : A → Type 0} (f : A → B) → Finite P → Finite (λ (y : B). (x : A) × P x × (y ≡ f x))
finite_map f g = record {
  elements = map f g.elements;
  sound = λ y h. let from = map_in f g.elements y h in (from.0, g.sound from.0 from.1, from.2);
  whole = λ y h. subst (λ z. In (map f g.elements) z) (sym h.2) (in_map f g.elements h.0 (g.whole h.0 h.1));
}

-- those of each number below n
finite_over : {A : Type 0} (Q : ℕ → A → Type 0) (n : ℕ) → ((k : ℕ) → Finite (Q k)) → Finite (λ (x : A). (k : ℕ) × (k < n) × Q k x)
finite_over Q zero f = record { elements = []; sound = λ x h. absurd h; whole = λ x h. absurd (let below = h.1 in omega arith) }
finite_over Q (suc n) f =
    let rest = finite_over Q n f in
    let last = f n in
    record {
      elements = rest.elements ++ last.elements;
      sound = λ x h. elim (in_either rest.elements last.elements x h) [
        | inl a ↦ (let there = rest.sound x a in (there.0, (let below = there.1 in omega arith), there.2))
        | inr b ↦ (n, omega arith, last.sound x b)
      ];
      whole = λ x h. elim (cases_lt h.0 n) [
        | inl l ↦ in_left rest.elements last.elements x (rest.whole x (h.0, l, h.2))
        | inr m ↦ (let is : h.0 ≡ n = (let below = h.1 in omega arith) in in_right rest.elements last.elements x (last.whole x (subst (λ j. Q j x) is h.2)))
      ];
    }

-- the numbers below n
pub finite_below : (n : ℕ) → Finite (λ (k : ℕ). k < n)
finite_below n = finite_same (finite_over (λ j k. k ≡ j) n (λ j. finite_one j)) (λ k h. subst (λ j. j < n) (sym h.2) h.1) (λ k h. (k, h, refl))

-- each element of a list is among them
pub at_place : {A : Type 0} (xs : List A) (k : ℕ) (x : A) → k < length xs → get_or xs k x ≡ x → In xs x
at_place [] k x h e = absurd (omega arith)
at_place (y ∷ xs) zero x h e = inl (sym e)
at_place (y ∷ xs) (suc k) x h e = inr (at_place xs k x (omega arith) e)
