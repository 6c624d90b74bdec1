-- Lemmas in the words of the code.
use Rattle.std.proofs.Common.{sum_by, ◌==◌, cond, count_by, ◌≡◌, ℕ, zero, suc, ◌+◌, ◌-◌, ◌<◌, ◌≤◌, List, [], ◌∷◌, ◌++◌, length, take, reverse, get_or, append_assoc, append-nil, Some, None, Result, Ok, refl, sym, ap, subst, ◌∙◌, arith}
use Rattle.std.proofs.lemmas.List.{length-take-le, reverse-append, take_more}
use Rattle.std.proofs.lemmas.List.Sums.{sum_by-append}
use Rattle.ll_parser.specs.Table.{Claims, made}
use Rattle.ll_parser.proofs.Theory.{stack_lives, is_table}
use Rattle.ll_parser.proofs.Steps.{sofar_next, sofar_ends, sofar_begins, sofar_stuck, sofar_leading}
use Rattle.ll_parser.specs.declared.symbols.Symbol.{Symbol}
use Rattle.ll_parser.specs.declared.symbols.Symbol.TheVariants.{Terminal, Nonterminal, Action}
use Rattle.ll_parser.specs.declared.symbols.Step.TheVariants.{Goes, Shifts, Stops}
use Rattle.ll_parser.specs.declared.symbols.Memory.{Memory}
use Rattle.ll_parser.specs.declared.symbols.Step.{Step}
use Rattle.ll_parser.specs.Grammar.{Production, nth, shift, Derives, start, IsFault, IsSentence, Leading}
use Rattle.ll_parser.specs.Stack.{Adds, Moves, shifts, acts, goes, wrong, none, spent, body_at, listed, Chosen, Works, Sofar, Shifted, Stuck, Ready, Kept}

module _ (starts : List ℕ) (bodies : List Symbol) where
  abbrev pub row_at : ℕ → ℕ → Production
  row_at n k = record { of = n; body = reverse (body_at bodies (get_or starts k 0) (get_or starts (k + 1) 0)) }

  pub nth_inside : (of : List ℕ) (k p d : ℕ) → p < length of → nth (listed starts bodies k of) p ≡ Some (row_at (get_or of p d) (k + p))
  nth_inside [] k p d h = absurd (omega arith)
  nth_inside (n ∷ of) k zero d h = let a : suc k ≡ (k + 0) + 1 = omega arith in let b : k ≡ k + 0 = omega arith in
      ap (λ x. Some (record { of = n; body = reverse (body_at bodies (get_or starts x.0 0) (get_or starts x.1 0)) })) (let e : ◌≡◌ {A = ℕ × ℕ} (k, suc k) (k + 0, (k + 0) + 1) = cc in e)
  nth_inside (n ∷ of) k (suc p) d h = let b : suc k + p ≡ k + suc p = omega arith in
      nth_inside of (suc k) p d (omega arith) ∙ ap (λ x. Some (row_at (get_or of p d) x)) b

  pub nth_outside : (of : List ℕ) (k p : ℕ) → length of ≤ p → nth (listed starts bodies k of) p ≡ None
  nth_outside [] k p h = refl
  nth_outside (n ∷ of) k zero h = absurd (omega arith)
  nth_outside (n ∷ of) k (suc p) h = nth_outside of (suc k) p (omega arith)

pub chosen_other : (P : List Production) (p n : ℕ) (r : Production) → nth P p ≡ Some r → (r.of ≡ n → ⊥) → Chosen P p n None
chosen_other P p n r h d q e f = let a : q ≡ r = cc in d (subst (λ x. x.of ≡ n) a f)

pub chosen_outside : (P : List Production) (p n : ℕ) → nth P p ≡ None → Chosen P p n None
chosen_outside P p n h q e f = absurd (cc)

pub shifts_by : {P : List Production} {ch : ℕ → ℕ → ℕ} {t c : ℕ} {top : Symbol} {s : List Symbol} {es es' : List ℕ} → top ≡ Terminal c → c ≡ t → es' ≡ es ++ 255 ∷ [] → Moves P ch t (top ∷ s) es (Ok Shifts) s es'
shifts_by {P} {ch} {t} {c} {top} {s} {es} {es'} a b e = let x : Terminal t ≡ top = cc in let y : es ++ shift ∷ [] ≡ es' = sym e in
    subst (λ z. Moves P ch t (z ∷ s) es (Ok Shifts) s es') x (subst (λ z. Moves P ch t (Terminal t ∷ s) es (Ok Shifts) s z) y shifts)

pub wrong_by : {P : List Production} {ch : ℕ → ℕ → ℕ} {t c : ℕ} {top : Symbol} {s s' : List Symbol} {es : List ℕ} → top ≡ Terminal c → (c ≡ t → ⊥) → Moves P ch t (top ∷ s) es (Ok Stops) s' es
wrong_by {P} {ch} {t} {c} {top} {s} {s'} {es} a b = subst (λ z. Moves P ch t (z ∷ s) es (Ok Stops) s' es) (sym a) (wrong b)

pub acts_by : {P : List Production} {ch : ℕ → ℕ → ℕ} {t c : ℕ} {top : Symbol} {s : List Symbol} {es es' : List ℕ} → top ≡ Action c → es' ≡ es ++ c ∷ [] → Moves P ch t (top ∷ s) es (Ok Goes) s es'
acts_by {P} {ch} {t} {c} {top} {s} {es} {es'} a e =
    subst (λ z. Moves P ch t (z ∷ s) es (Ok Goes) s es') (sym a) (subst (λ z. Moves P ch t (Action c ∷ s) es (Ok Goes) s z) (sym e) acts)

pub goes_by : {P : List Production} {ch : ℕ → ℕ → ℕ} {t n p : ℕ} {top : Symbol} {new : List Symbol} {es : List ℕ} (items b : List Symbol) → top ≡ Nonterminal n → p ≡ ch n t → Chosen P p n (Some (reverse b)) → new ≡ items ++ b → Moves P ch t (top ∷ reverse items) es (Ok Goes) (reverse new) es
goes_by {P} {ch} {t} {n} {p} {top} {new} {es} items b a i h e =
    let r = h.0 in
    let x : r.body ++ reverse items ≡ reverse new = ap (λ z. z ++ reverse items) h.3 ∙ sym (reverse-append items b) ∙ ap reverse (sym e) in
    let y : nth P (ch n t) ≡ Some r = ap (nth P) (sym i) ∙ h.1 in
    subst (λ z. Moves P ch t (z ∷ reverse items) es (Ok Goes) (reverse new) es) (sym a) (subst (λ z. Moves P ch t (Nonterminal n ∷ reverse items) es (Ok Goes) z es) x (goes r y h.2))

pub none_by : {P : List Production} {ch : ℕ → ℕ → ℕ} {t n p : ℕ} {top : Symbol} {s s' : List Symbol} {es : List ℕ} → top ≡ Nonterminal n → p ≡ ch n t → Chosen P p n None → Moves P ch t (top ∷ s) es (Ok Stops) s' es
none_by {P} {ch} {t} {n} {p} {top} {s} {s'} {es} a i h =
    subst (λ z. Moves P ch t (z ∷ s) es (Ok Stops) s' es) (sym a) (none (λ r x y. h r (ap (nth P) i ∙ x) y))

module _ (starts of : List ℕ) (bodies : List Symbol) (p n x : ℕ) (lt : p < length of) (found : (d : ℕ) → x ≡ get_or of p d) where
  there_is : nth (listed starts bodies 0 of) p ≡ Some (row_at starts bodies x p)
  there_is = let a : 0 + p ≡ p = omega arith in nth_inside starts bodies of 0 p 0 lt ∙ ap (λ k. Some (row_at starts bodies (get_or of p 0) k)) a ∙ ap (λ y. Some (row_at starts bodies y p)) (sym (found 0))

  pub row_is : (b : List Symbol) (i j : ℕ) → x ≡ n → b ≡ body_at bodies i j → i ≡ get_or starts p 0 → j ≡ get_or starts (p + 1) 0 → Chosen (listed starts bodies 0 of) p n (Some (reverse b))
  row_is b i j e h k l = (row_at starts bodies x p, there_is, e, ap reverse (sym (h ∙ ap (λ z. body_at bodies z j) k ∙ ap (λ z. body_at bodies (get_or starts p 0) z) l)))

  pub row_other : (x ≡ n → ⊥) → Chosen (listed starts bodies 0 of) p n None
  row_other d = chosen_other (listed starts bodies 0 of) p n (row_at starts bodies x p) there_is d

pub row_outside : (starts of : List ℕ) (bodies : List Symbol) (p n : ℕ) → length of ≤ p → Chosen (listed starts bodies 0 of) p n None
row_outside starts of bodies p n h = chosen_outside (listed starts bodies 0 of) p n (nth_outside starts bodies of 0 p h)

pub ruleset moves = (shifts_by, wrong_by, acts_by, goes_by, none_by, spent)

-- the top of a stack
pub popped : {items : List Symbol} {x : Symbol} (rest : List Symbol) → items ≡ rest ++ x ∷ [] → x ∷ reverse rest ≡ reverse items
popped {items} {x} rest e = sym (ap reverse e ∙ reverse-append rest (x ∷ []))

pub moved : {P : List Production} {ch : ℕ → ℕ → ℕ} {t : ℕ} {x : Symbol} {s' : List Symbol} {es es' : List ℕ} {o p : Result _ Memory} (items rest : List Symbol)
    → items ≡ rest ++ x ∷ [] → o ≡ p → Moves P ch t (x ∷ reverse rest) es o s' es' → Moves P ch t (reverse items) es p s' es'
moved {P} {ch} {t} {x} {s'} {es} {es'} {o} {p} items rest e q m = subst (λ z. Moves P ch t z es p s' es') (popped rest e) (subst (λ z. Moves P ch t (x ∷ reverse rest) es z s' es') q m)

pub empty_of : (xs : List Symbol) → length xs ≡ 0 → reverse xs ≡ []
empty_of [] e = refl
empty_of (x ∷ xs) e = absurd (omega arith)

pub fault_at : (P : List Production) (n : ℕ) (F : Claims) (choice : ℕ → ℕ → ℕ) (ts : List ℕ) (i : ℕ) (s : List Symbol) (es : List ℕ) → Works P n choice F → Sofar P n (take i ts) s es → Ready P F s → Stuck P (get_or ts i 0) s → i < length ts → IsFault P n ts i
fault_at P n F choice ts i s es works a y b h = record {
  inside = omega arith;
  before = sofar_begins a (stack_lives P F (made P F) (is_table P n F works.fits) y.good);
  here = λ w fs r. sofar_stuck a b w fs (subst (λ z. Derives P (start n) (z ++ w) fs) (take_more ts i 0 h) r);
}

pub next_at : (P : List Production) (n : ℕ) (ts : List ℕ) (i : ℕ) (s s' : List Symbol) (es es' : List ℕ) → Sofar P n (take i ts) s es → Shifted P (get_or ts i 0) s es s' es' → i < length ts → Sofar P n (take (i + 1) ts) s' es'
next_at P n ts i s s' es es' a b h = subst (λ z. Sofar P n z s' es') (sym (take_more ts i 0 h)) (sofar_next a b)

pub one_default : (ts : List ℕ) (i d e : ℕ) → i < length ts → get_or ts i d ≡ get_or ts i e
one_default [] i d e h = absurd (omega arith)
one_default (t ∷ ts) zero d e h = refl
one_default (t ∷ ts) (suc i) d e h = one_default ts i d e (omega arith)

pub ended_at : (P : List Production) (n : ℕ) (ts : List ℕ) (i : ℕ) (s : List Symbol) (es : List ℕ) → Sofar P n (take i ts) s es → (0 < i → get_or ts (i - 1) 1 ≡ 0 → s ≡ []) → i ≡ length ts → 0 < length ts → get_or ts (length ts - 1) 1 ≡ 0 → IsSentence P n ts es
ended_at P n ts i s es a f e h z =
    let e2 : s ≡ [] = f (omega arith) (ap (λ k. get_or ts (k - 1) 1) e ∙ z) in
    let t : take i ts ≡ ts = ap (λ k. take k ts) e ∙ take_all ts in
    sofar_ends (subst (λ x. Sofar P n ts x es) e2 (subst (λ x. Sofar P n x s es) t a))
  where
    take_all : (ts : List ℕ) → take (length ts) ts ≡ ts
    take_all [] = refl
    take_all (t ∷ ts) = ap (λ z. t ∷ z) (take_all ts)

pub kept_none : (es : List ℕ) → Kept es es
kept_none es = record { more = []; is = sym (append-nil es) }

pub kept_moves : {P : List Production} {ch : ℕ → ℕ → ℕ} {t : ℕ} {s s' : List Symbol} {es0 es es' : List ℕ} {o : Step} → Kept es0 es → Moves P ch t s es (Ok o) s' es' → Kept es0 es'
kept_moves {es0 = es0} k (shifts {es = es}) = record { more = k.more ++ shift ∷ []; is = ap (λ z. z ++ shift ∷ []) k.is ∙ append_assoc es0 k.more (shift ∷ []) }
kept_moves {es0 = es0} k (acts {a} {es = es}) = record { more = k.more ++ a ∷ []; is = ap (λ z. z ++ a ∷ []) k.is ∙ append_assoc es0 k.more (a ∷ []) }
kept_moves k (goes r h e) = k
kept_moves k (wrong d) = k
kept_moves k (none d) = k

-- the last step of a token
pub adds_shifts : {P : List Production} {ch : ℕ → ℕ → ℕ} {t : ℕ} {s s' : List Symbol} {es0 es es' : List ℕ} → Kept es0 es
    → Moves P ch t s es (Ok Shifts) s' es' → Adds es0 es'
adds_shifts {es0 = es0} k (shifts {es = es}) =
    record { more = k.more; is = ap (λ z. z ++ shift ∷ []) k.is ∙ append_assoc es0 k.more (shift ∷ []) }

-- Each of some tokens has an event of its own.
abbrev pub AreRead : List ℕ → List ℕ → Type 0
AreRead us es = length us ≤ count_by (λ e. e == shift) es

-- so does one more
pub read_more : (ts : List ℕ) (i : ℕ) (es es' : List ℕ) → AreRead (take i ts) es → Adds es es' → i < length ts → AreRead (take (i + 1) ts) es'
read_more ts i es es' read a within =
    let is_shift : ℕ → ℕ = λ e. cond (e == shift) 1 0 in
    let count = ap (sum_by is_shift) a.is ∙ sum_by-append is_shift es (a.more ++ shift ∷ []) in
    let last = sum_by-append is_shift a.more (shift ∷ []) in
    omega (arith, read, count, last, length-take-le i ts (omega arith), length-take-le (i + 1) ts (omega arith))

pub leading_at : (P : List Production) (n : ℕ) (us es es' new : List ℕ) (s : List Symbol) → Sofar P n us s es → AreRead us es → Kept es es'
    → new ≡ take (length es) es' → Leading P n us new
leading_at P n us es es' new s a read k e =
    let f : es ≡ new = sym (e ∙ ap (take (length es)) k.is ∙ front es k.more) in
    subst (λ z. Leading P n us z) f (sofar_leading a read)
  where
    front : (xs ys : List ℕ) → take (length xs) (xs ++ ys) ≡ xs
    front [] ys = refl
    front (x ∷ xs) ys = ap (λ z. x ∷ z) (front xs ys)
