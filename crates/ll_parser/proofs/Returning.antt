-- What a factored grammar derives, a plain grammar derives: each factored nonterminal stands for what completes some plain symbols.
use Rattle.std.proofs.Common.{◌≡◌, ℕ, zero, suc, Bool, true, false, List, [], ◌∷◌, ◌++◌, append_assoc, append-nil, Option, Some, None, refl, sym, ap, subst, ◌∙◌}
use Rattle.ll_parser.specs.declared.symbols.Symbol.{Symbol}
use Rattle.ll_parser.specs.declared.symbols.Symbol.TheVariants.{Terminal, Nonterminal, Action}
use Rattle.ll_parser.specs.Grammar.{Production, nth, shift, Derives, done, token, act, rule}
use Rattle.ll_parser.specs.Sentences.{Makes}
use Rattle.ll_parser.proofs.Including.{Includes, laws, ways}
use Rattle.ll_parser.proofs.Parting.{parted, both}
use Rattle.ll_parser.proofs.Searching.{Each, try_each, Search, chosen, search}

-- derivations by parts
pub data Big (Q : List Production) : List Symbol → List ℕ → Type 0 where
  big_done : Big Q [] []
  big_token : {c : ℕ} {s : List Symbol} {ts : List ℕ} → Big Q s ts → Big Q (Terminal c ∷ s) (c ∷ ts)
  big_act : {a : ℕ} {s : List Symbol} {ts : List ℕ} → Big Q s ts → Big Q (Action a ∷ s) ts
  big_rule : {n : ℕ} {s : List Symbol} {us vs ts : List ℕ} (p : ℕ) (r : Production) → nth Q p ≡ Some r → r.of ≡ n → Big Q r.body us → Big Q s vs → ts ≡ us ++ vs → Big Q (Nonterminal n ∷ s) ts

pub record BigParted (Q : List Production) (xs ys : List Symbol) (ts : List ℕ) : Type 0 where
  pub front : List ℕ
  pub back : List ℕ
  pub is : ts ≡ front ++ back
  pub first : Big Q xs front
  pub second : Big Q ys back

big_parted : {Q : List Production} {ts : List ℕ} (xs ys : List Symbol) → Big Q (xs ++ ys) ts → BigParted Q xs ys ts
big_parted {ts = ts} [] ys d = record { front = []; back = ts; is = refl; first = big_done; second = d }
big_parted (Terminal c ∷ xs) ys (big_token d) = let q = big_parted xs ys d in record { front = c ∷ q.front; back = q.back; is = ap (λ z. c ∷ z) q.is; first = big_token q.first; second = q.second }
big_parted (Action a ∷ xs) ys (big_act d) = let q = big_parted xs ys d in record { front = q.front; back = q.back; is = q.is; first = big_act q.first; second = q.second }
big_parted (Nonterminal n ∷ xs) ys (big_rule {us = us} p r h e b d t) =
    let q = big_parted xs ys d in
    record { front = us ++ q.front; back = q.back; is = t ∙ ap (λ z. us ++ z) q.is ∙ sym (append_assoc us q.front q.back); first = big_rule p r h e b q.first refl; second = q.second }

pub runs_big : {Q : List Production} {s : List Symbol} {ts es : List ℕ} → Derives Q s ts es → Big Q s ts
runs_big done = big_done
runs_big (token d) = big_token (runs_big d)
runs_big (act d) = big_act (runs_big d)
runs_big (rule {s = s} p r h e d) = let q = big_parted r.body s (runs_big d) in big_rule p r h e q.first q.second q.is

-- the search in a grammar that has no table: each production in turn
module _ (P : List Production) where
  abbrev pub seek : (k p : ℕ) → Search P (Includes P) → (m : ℕ) (a b : List Symbol) → Option (Includes P a (Nonterminal m ∷ b))
  seek zero p rec m a b = None
  seek (suc k) p rec m a b = elim (nth P p) [
    | None ↦ None
    | (Some r) ↦ elim (chosen P (Includes P) (laws P) rec p m a b) [ None ↦ seek k (suc p) rec m a b | (Some i) ↦ Some i ]
  ]

  abbrev pub try_include : ℕ → Search P (Includes P)
  try_include k a b = search P (Includes P) (laws P) (ways P (seek 200 0)) k a b

abbrev pub as_long : (a b : List Symbol) → Bool
as_long [] [] = true
as_long [] (y ∷ ys) = false
as_long (x ∷ xs) [] = false
as_long (x ∷ xs) (y ∷ ys) = as_long xs ys

pub record Stripped (P : List Production) (a b : List Symbol) : Type 0 where
  pub rest : List Symbol
  pub tail : List Symbol
  pub is : a ≡ rest ++ tail
  pub within : Includes P tail b

-- a without what b includes at its end
abbrev pub strip : (P : List Production) (a b : List Symbol) → Option (Stripped P a b)
strip P [] b = elim (try_include P 40 [] b) [ None ↦ None | (Some i) ↦ Some (record { rest = []; tail = []; is = refl; within = i }) ]
strip P (x ∷ xs) b = elim (as_long (x ∷ xs) b) [
  | true ↦ elim (try_include P 40 (x ∷ xs) b) [ None ↦ None | (Some i) ↦ Some (record { rest = []; tail = x ∷ xs; is = refl; within = i }) ]
  | false ↦ elim (strip P xs b) [ None ↦ None | (Some r) ↦ Some (record { rest = x ∷ r.rest; tail = r.tail; is = ap (λ z. x ∷ z) r.is; within = r.within }) ]
]

module _ (Q P : List Production) (before whole : ℕ → List Symbol) where
  abbrev pub after_strip : {a b : List Symbol} → Option (Stripped P a b) → (List Symbol → Option (List Symbol)) → Option (List Symbol)
  after_strip None f = None
  after_strip (Some r) f = f r.rest

  -- the plain symbols that come of a, and a body behind it
  abbrev pub walk : List Symbol → List Symbol → Option (List Symbol)
  walk a [] = Some a
  walk a (Terminal c ∷ s) = walk (a ++ Terminal c ∷ []) s
  walk a (Action k ∷ s) = walk a s
  walk a (Nonterminal n ∷ s) = after_strip (strip P a (before n)) (λ r. walk (r ++ whole n) s)

  pub record Returns (r : Production) : Type 0 where
    pub comes : List Symbol
    pub walks : walk (before r.of) r.body ≡ Some comes
    pub within : Includes P comes (whole r.of)

  abbrev pub Returning : List Production → Type 0
  Returning rs = Each Returns rs

  one_token : (c : ℕ) → Makes P (Terminal c ∷ []) (c ∷ [])
  one_token c = record { events = shift ∷ []; runs = token done }

  pub back : Returning Q → {s : List Symbol} {ts : List ℕ} → Big Q s ts → (a w : List Symbol) → walk a s ≡ Some w → (v : List ℕ) → Makes P a v → Makes P w (v ++ ts)
  back f big_done a w e v m = let k : a ≡ w = cc in subst (λ z. Makes P w z) (sym (append-nil v)) (subst (λ z. Makes P z v) k m)
  back f (big_token {c} {s} {ts} d) a w e v m = subst (λ z. Makes P w z) (append_assoc v (c ∷ []) ts) (back f d (a ++ Terminal c ∷ []) w e (v ++ c ∷ []) (both m (one_token c)))
  back f (big_act d) a w e v m = back f d a w e v m
  back f (big_rule {n} {s} {us} {vs} {ts} p r h k b d t) a w e v m =
      elim (strip P a (before n)) as (λ o. after_strip o (λ x. walk (x ++ whole n) s) ≡ Some w → Makes P w (v ++ ts)) [
        | None ↦ λ g. absurd (cc)
        | (Some x) ↦ λ g.
            let q = parted m.runs x.rest x.tail x.is in
            let y = f p r h in
            let q2 : Makes P (before r.of) q.back = subst (λ z. Makes P (before z) q.back) (sym k) (x.within q.back q.second) in
            let i : Makes P (whole r.of) (q.back ++ us) = y.within (q.back ++ us) (back f b (before r.of) y.comes y.walks q.back q2) in
            let j : Makes P (x.rest ++ whole n) (q.front ++ (q.back ++ us)) = both q.first (subst (λ z. Makes P (whole z) (q.back ++ us)) k i) in
            let z : Makes P w ((q.front ++ (q.back ++ us)) ++ vs) = back f d (x.rest ++ whole n) w g (q.front ++ (q.back ++ us)) j in
            let l : (q.front ++ (q.back ++ us)) ++ vs ≡ v ++ ts =
            ap (λ u. u ++ vs) (sym (append_assoc q.front q.back us)) ∙ append_assoc (q.front ++ q.back) us vs ∙ ap (λ u. u ++ (us ++ vs)) (sym q.is) ∙ ap (λ u. v ++ u) (sym t) in
            subst (λ u. Makes P w u) l z
      ] e

module _ (Q P : List Production) (before whole : ℕ → List Symbol) where
  abbrev pub returned : ℕ → (r : Production) (o : Option (List Symbol)) → walk Q P before whole (before r.of) r.body ≡ o → Option (Returns Q P before whole r)
  returned k r None h = None
  returned k r (Some c) h = elim (try_include P k c (whole r.of)) [ None ↦ None | (Some i) ↦ Some (record { comes = c; walks = h; within = i }) ]

  abbrev pub returning : ℕ → (rs : List Production) → Option (Returning Q P before whole rs)
  returning k rs = try_each (Returns Q P before whole) (λ r. returned k r (walk Q P before whole (before r.of) r.body) refl) rs
