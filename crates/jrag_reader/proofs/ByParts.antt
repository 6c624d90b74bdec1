-- A derivation by parts, with the tokens themselves and the events on the way.
use Rattle.std.proofs.Common.{◌≡◌, ℕ, List, [], ◌∷◌, ◌++◌, map, Some, append_assoc, refl, sym, ap, ◌∙◌}
use Rattle.ll_parser.specs.declared.symbols.Symbol.{Symbol}
use Rattle.ll_parser.specs.declared.symbols.Symbol.TheVariants.{Terminal, Nonterminal, Action}
use Rattle.ll_parser.specs.Grammar.{Production, nth, shift, Derives, done, token, act, rule}
use Rattle.rag_io.specs.Tokens.{Lexed}

pub data ByParts (class : Lexed → ℕ) (P : List Production) : List Symbol → List Lexed → List ℕ → Type 0 where
  by_none : ByParts class P [] [] []
  by_token : {c : ℕ} {s : List Symbol} {ts : List Lexed} {es : List ℕ} (t : Lexed) → class t ≡ c → ByParts class P s ts es
      → ByParts class P (Terminal c ∷ s) (t ∷ ts) (shift ∷ es)
  by_act : {a : ℕ} {s : List Symbol} {ts : List Lexed} {es : List ℕ} → ByParts class P s ts es → ByParts class P (Action a ∷ s) ts (a ∷ es)
  by_rule : {n : ℕ} {s : List Symbol} {us vs ts : List Lexed} {fs gs es : List ℕ} (p : ℕ) (r : Production) → nth P p ≡ Some r → r.of ≡ n
      → ByParts class P r.body us fs → ByParts class P s vs gs → ts ≡ us ++ vs → es ≡ fs ++ gs → ByParts class P (Nonterminal n ∷ s) ts es

pub record Divided (class : Lexed → ℕ) (P : List Production) (xs ys : List Symbol) (ts : List Lexed) (es : List ℕ) : Type 0 where
  pub front : List Lexed
  pub back : List Lexed
  pub said : List ℕ
  pub later : List ℕ
  pub is : ts ≡ front ++ back
  pub says : es ≡ said ++ later
  pub first : ByParts class P xs front said
  pub second : ByParts class P ys back later

pub divided : {class : Lexed → ℕ} {P : List Production} {ts : List Lexed} {es : List ℕ} (xs ys : List Symbol) → ByParts class P (xs ++ ys) ts es
    → Divided class P xs ys ts es
divided {ts = ts} {es = es} [] ys d = record { front = []; back = ts; said = []; later = es; is = refl; says = refl; first = by_none; second = d }
divided (Terminal c ∷ xs) ys (by_token t e d) =
    let q = divided xs ys d in
    record {
      front = t ∷ q.front;
      back = q.back;
      said = shift ∷ q.said;
      later = q.later;
      is = ap (λ z. t ∷ z) q.is;
      says = ap (λ z. shift ∷ z) q.says;
      first = by_token t e q.first;
      second = q.second;
    }
divided (Action a ∷ xs) ys (by_act d) =
    let q = divided xs ys d in
    record {
      front = q.front;
      back = q.back;
      said = a ∷ q.said;
      later = q.later;
      is = q.is;
      says = ap (λ z. a ∷ z) q.says;
      first = by_act q.first;
      second = q.second;
    }
divided (Nonterminal n ∷ xs) ys (by_rule {us = us} {fs = fs} p r h e b d t k) =
    let q = divided xs ys d in
    record {
      front = us ++ q.front;
      back = q.back;
      said = fs ++ q.said;
      later = q.later;
      is = t ∙ ap (λ z. us ++ z) q.is ∙ sym (append_assoc us q.front q.back);
      says = k ∙ ap (λ z. fs ++ z) q.says ∙ sym (append_assoc fs q.said q.later);
      first = by_rule p r h e b q.first refl refl;
      second = q.second;
    }

-- each derivation of the classes of some tokens
pub by_parts : {class : Lexed → ℕ} {P : List Production} {s : List Symbol} {cs es : List ℕ} → Derives P s cs es
    → (ts : List Lexed) → cs ≡ map class ts → ByParts class P s ts es
by_parts done [] e = by_none
by_parts done (t ∷ ts) e = absurd (cc)
by_parts (token d) [] e = absurd (cc)
by_parts {class} (token {c = c} {ts = cs} d) (t ∷ ts) e =
    let a : class t ≡ c = cc in
    let b : cs ≡ map class ts = cc in
    by_token t a (by_parts d ts b)
by_parts (act d) ts e = by_act (by_parts d ts e)
by_parts (rule {s = s} p r h e d) ts k = let q = divided r.body s (by_parts d ts k) in by_rule p r h e q.first q.second q.is q.says
