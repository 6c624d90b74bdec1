-- The names of a list, each once.
use Rattle.std.proofs.Common.{◌≡◌, ℕ, ◌+◌, ◌<◌, ◌≤◌, List, [], ◌∷◌, ◌++◌, Bool, true, false, not, ◌&&◌, ◌||◌, if◌then◌else◌, length, get_or, take, map, refl, ap, sym, ◌∙◌, append_assoc}
use Rattle.std.proofs.Math.Bool.{or-false, or_assoc}
use Rattle.std.proofs.lemmas.List.{append-nil}
use Rattle.std.proofs.lemmas.List.Folds.{list_any-append}
use Rattle.std.specs.Str.{bytes_eq}
use Rattle.rag_io.specs.Distinct.{are_distinct}
use Rattle.names.specs.Among.{is_among, with_name, with_names, each_once}
use Rattle.names.proofs.Distinct.{distinct_snoc, names_more, names_all}
use Rattle.names.proofs.Keys.{among_with}

with_names-snoc : (ks ns : List (List ℕ)) (n : List ℕ) → with_names ks (ns ++ n ∷ []) ≡ with_name (with_names ks ns) n
with_names-snoc ks [] n = refl
with_names-snoc ks (m ∷ ns) n = with_names-snoc (with_name ks m) ns n

pub once_snoc : (ns : List (List ℕ)) (n : List ℕ) → each_once (ns ++ n ∷ []) ≡ with_name (each_once ns) n
once_snoc ns n = with_names-snoc [] ns n

-- a turn of a loop that inserts the name of each item
pub once_each : {X : Type 0} (f : X → List ℕ) (xs : List X) (i : ℕ) {x : X} {text : List ℕ} {names more : List (List ℕ)}
    → x ≡ get_or xs i x → i < length xs → text ≡ f x → more ≡ with_name names text → names ≡ each_once (map f (take i xs)) → more ≡ each_once (map f (take (i + 1) xs))
once_each f xs i {x} is lt t e h = e ∙ (λ j. with_name (h j) (t j)) ∙ sym (ap each_once (names_more f xs i x is lt) ∙ once_snoc (map f (take i xs)) (f x))

-- and its end, where it went over a copy xs of ys
pub once_all : {X : Type 0} (f : X → List ℕ) (ys xs : List X) (i : ℕ) {names : List (List ℕ)} → xs ≡ ys → names ≡ each_once (map f (take i xs)) → length xs ≤ i → names ≡ each_once (map f ys)
once_all f ys xs i e h le = h ∙ ap each_once (names_all f xs i le ∙ ap (map f) e)

among_with_names : (ks ns : List (List ℕ)) (q : List ℕ) → is_among (with_names ks ns) q ≡ (is_among ks q || is_among ns q)
among_with_names ks [] q = sym (or-false (is_among ks q))
among_with_names ks (n ∷ ns) q = among_with_names (with_name ks n) ns q ∙ ap (λ b. b || is_among ns q) (among_with ks n q) ∙ or_assoc (is_among ks q) (bytes_eq q n) (is_among ns q)

pub among_once : (ns : List (List ℕ)) (q : List ℕ) → is_among (each_once ns) q ≡ is_among ns q
among_once ns q = among_with_names [] ns q

distinct_if : (b : Bool) (ks : List (List ℕ)) (n : List ℕ) → is_among ks n ≡ b → are_distinct bytes_eq ks ≡ true → are_distinct bytes_eq (if b then ks else ks ++ n ∷ []) ≡ true
distinct_if true ks n e d = d
distinct_if false ks n e d = distinct_snoc ks n ∙ (λ j. d j && not (e j))

distinct_with_names : (ks ns : List (List ℕ)) → are_distinct bytes_eq ks ≡ true → are_distinct bytes_eq (with_names ks ns) ≡ true
distinct_with_names ks [] d = d
distinct_with_names ks (n ∷ ns) d = distinct_with_names (with_name ks n) ns (distinct_if (is_among ks n) ks n refl d)

-- no name stands twice there
pub distinct_once : (ns : List (List ℕ)) → are_distinct bytes_eq (each_once ns) ≡ true
distinct_once ns = distinct_with_names [] ns refl

both : (a b : Bool) → (a && b) ≡ true → (a ≡ true) × (b ≡ true)
both true true h = (refl, refl)
both true false h = cc
both false b h = cc

not_so : (b : Bool) → not b ≡ true → b ≡ false
not_so true h = cc
not_so false h = refl

front_not : (a b d e : Bool) → (not (a || b) && d) ≡ true → (d ≡ true → e ≡ true) → (not a && e) ≡ true
front_not true b d e h k = cc
front_not false true d e h k = cc
front_not false false d e h k = k h

distinct_front : (ks ns : List (List ℕ)) → are_distinct bytes_eq (ks ++ ns) ≡ true → are_distinct bytes_eq ks ≡ true
distinct_front [] ns d = refl
distinct_front (k ∷ ks) ns d =
    front_not (is_among ks k) (is_among ns k) (are_distinct bytes_eq (ks ++ ns)) (are_distinct bytes_eq ks) (ap (λ b. not b && are_distinct bytes_eq (ks ++ ns)) (sym (list_any-append (bytes_eq k) ks ns)) ∙ d) (distinct_front ks ns)

with_names-distinct : (ks ns : List (List ℕ)) → are_distinct bytes_eq (ks ++ ns) ≡ true → with_names ks ns ≡ ks ++ ns
with_names-distinct ks [] d = sym (append-nil ks)
with_names-distinct ks (n ∷ ns) d =
    let moved : are_distinct bytes_eq ((ks ++ n ∷ []) ++ ns) ≡ true = ap (are_distinct bytes_eq) (append_assoc ks (n ∷ []) ns) ∙ d in
    let front : (are_distinct bytes_eq ks && not (is_among ks n)) ≡ true = sym (distinct_snoc ks n) ∙ distinct_front (ks ++ n ∷ []) ns moved in
    let fresh : is_among ks n ≡ false = not_so _ (both _ _ front).1 in
    ap (λ b. with_names (if b then ks else ks ++ n ∷ []) ns) fresh ∙ with_names-distinct (ks ++ n ∷ []) ns moved ∙ append_assoc ks (n ∷ []) ns

-- where none stands twice, they are the list
pub once_distinct : (ns : List (List ℕ)) → are_distinct bytes_eq ns ≡ true → each_once ns ≡ ns
once_distinct ns d = with_names-distinct [] ns d
