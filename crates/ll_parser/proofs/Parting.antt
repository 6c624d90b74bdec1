-- A derivation of some symbols with others behind them, as two derivations.
use Rattle.std.proofs.Common.{◌≡◌, ℕ, List, [], ◌∷◌, ◌++◌, append_assoc, refl, sym, ap, subst, ◌∙◌}
use Rattle.ll_parser.specs.declared.symbols.Symbol.{Symbol}
use Rattle.ll_parser.specs.declared.symbols.Symbol.TheVariants.{Terminal, Nonterminal, Action}
use Rattle.ll_parser.specs.Grammar.{Production, shift, Derives, done, token, act, rule}
use Rattle.ll_parser.specs.Sentences.{Makes}
use Rattle.ll_parser.proofs.Theory.{join}

-- with the events of both
pub record Cut (P : List Production) (xs ys : List Symbol) (ts es : List ℕ) : Type 0 where
  pub front : List ℕ
  pub back : List ℕ
  pub said : List ℕ
  pub later : List ℕ
  pub is : ts ≡ front ++ back
  pub says : es ≡ said ++ later
  pub first : Derives P xs front said
  pub second : Derives P ys back later

pub cut : {P : List Production} {zs : List Symbol} {ts es : List ℕ} → Derives P zs ts es → (xs ys : List Symbol) → zs ≡ xs ++ ys → Cut P xs ys ts es
cut {P} {zs} {ts} {es} d [] ys e =
    record { front = []; back = ts; said = []; later = es; is = refl; says = refl; first = done; second = subst (λ z. Derives P z ts es) e d }
cut done (x ∷ xs) ys e = absurd (cc)
cut {P} (token {c} {s} d) (x ∷ xs) ys e =
    let a : s ≡ xs ++ ys = cc in
    let b : Terminal c ≡ x = cc in
    let q = cut d xs ys a in
    record {
      front = c ∷ q.front;
      back = q.back;
      said = shift ∷ q.said;
      later = q.later;
      is = ap (λ z. c ∷ z) q.is;
      says = ap (λ z. shift ∷ z) q.says;
      first = subst (λ z. Derives P (z ∷ xs) (c ∷ q.front) (shift ∷ q.said)) b (token q.first);
      second = q.second;
    }
cut {P} (act {a} {s} d) (x ∷ xs) ys e =
    let f : s ≡ xs ++ ys = cc in
    let b : Action a ≡ x = cc in
    let q = cut d xs ys f in
    record {
      front = q.front;
      back = q.back;
      said = a ∷ q.said;
      later = q.later;
      is = q.is;
      says = ap (λ z. a ∷ z) q.says;
      first = subst (λ z. Derives P (z ∷ xs) q.front (a ∷ q.said)) b (act q.first);
      second = q.second;
    }
cut {P} (rule {n} {s} p r h k d) (x ∷ xs) ys e =
    let f : s ≡ xs ++ ys = cc in
    let b : Nonterminal n ≡ x = cc in
    let g : r.body ++ s ≡ (r.body ++ xs) ++ ys = ap (λ z. r.body ++ z) f ∙ sym (append_assoc r.body xs ys) in
    let q = cut d (r.body ++ xs) ys g in
    record {
      front = q.front;
      back = q.back;
      said = q.said;
      later = q.later;
      is = q.is;
      says = q.says;
      first = subst (λ z. Derives P (z ∷ xs) q.front q.said) b (rule p r h k q.first);
      second = q.second;
    }

-- the same tokens and events, written differently
pub written : {P : List Production} {s : List Symbol} {ts us es fs : List ℕ} → ts ≡ us → es ≡ fs → Derives P s us fs → Derives P s ts es
written {P} {s} {ts} {us} {es} {fs} a b d = subst (λ z. Derives P s z es) (sym a) (subst (λ z. Derives P s us z) (sym b) d)

-- whatever the events are
pub record Parted (P : List Production) (xs ys : List Symbol) (ts : List ℕ) : Type 0 where
  pub front : List ℕ
  pub back : List ℕ
  pub is : ts ≡ front ++ back
  pub first : Makes P xs front
  pub second : Makes P ys back

pub parted : {P : List Production} {zs : List Symbol} {ts es : List ℕ} → Derives P zs ts es → (xs ys : List Symbol) → zs ≡ xs ++ ys → Parted P xs ys ts
parted d xs ys e =
    let q = cut d xs ys e in
    record {
      front = q.front;
      back = q.back;
      is = q.is;
      first = record { events = q.said; runs = q.first };
      second = record { events = q.later; runs = q.second };
    }

pub both : {P : List Production} {xs ys : List Symbol} {us vs : List ℕ} → Makes P xs us → Makes P ys vs → Makes P (xs ++ ys) (us ++ vs)
both a b = record { events = a.events ++ b.events; runs = join a.runs b.runs }
