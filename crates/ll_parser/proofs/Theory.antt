-- What a right table gives.
use Rattle.std.proofs.Common.{◌≡◌, ℕ, zero, suc, ◌+◌, ◌<◌, ◌≤◌, ◌==◌, Bool, true, false, cond, not, ◌&&◌, ◌||◌, List, [], ◌∷◌, ◌++◌, append_assoc, append-nil, Option, Some, None, refl, sym, ap, subst, ◌∙◌, inl, inr, ◌⊎◌, arith}
use Rattle.std.proofs.lemmas.Bool.{ltb-true, eqb-true, and_parts}
use Rattle.ll_parser.specs.declared.symbols.Symbol.{Symbol}
use Rattle.ll_parser.specs.declared.symbols.Symbol.TheVariants.{Terminal, Nonterminal, Action}
use Rattle.ll_parser.specs.Grammar.{Production, nth, shift, Derives, done, token, act, rule}
use Rattle.ll_parser.specs.Table.{Claims, member, every, within, begins, vanishes, cost, follows, uses, inner, with_row, bind, grow, list_of, made, row_fits, rows_fit, fits}
use Rattle.ll_parser.specs.Stack.{In, here, there, Good, bare, good_token, good_act, good_rule, Closed, closed_token, closed_act, closed_rule}
use Rattle.ll_parser.proofs.Members.{in_left, in_right, in_either, member_in, every_in, within_in}

pub record RowFits (F : Claims) (have : List ℕ) (p : ℕ) (r : Production) : Type 0 where
  pub first : within (begins F r.body []) (F.first r.of) ≡ true
  pub empty : (not (vanishes F r.body) || F.empty r.of) ≡ true
  pub follow : follows F r.of r.body ≡ true
  pub choice : every (λ t. F.choice r.of t == p) (begins F r.body (F.follow r.of)) ≡ true
  pub cost : cost F r.body 0 < F.weight r.of
  pub uses : uses have r.body ≡ true
  pub inner : inner r.body ≡ true

row_parts : (F : Claims) (have : List ℕ) (p : ℕ) (r : Production) → row_fits F have p r ≡ true → RowFits F have p r
row_parts F have p r e =
    let e1 = and_parts _ _ e in
    let e2 = and_parts _ _ e1.1 in
    let e3 = and_parts _ _ e2.1 in
    let e4 = and_parts _ _ e3.1 in
    let e5 = and_parts _ _ e4.1 in
    let e6 = and_parts _ _ e5.1 in
    record { first = e1.0; empty = e2.0; follow = e3.0; choice = e4.0; cost = ltb-true _ _ e5.0; uses = e6.0; inner = e6.1 }

row_at : (F : Claims) (have : List ℕ) (k : ℕ) (rs : List Production) → rows_fit F have k rs ≡ true → (p : ℕ) (r : Production) → nth rs p ≡ Some r → RowFits F have (k + p) r
row_at F have k [] e p r h = absurd (cc)
row_at F have k (x ∷ rs) e zero r h =
    let a : x ≡ r = cc in
    let b : k ≡ k + 0 = omega arith in
    subst (λ q. RowFits F have q r) b (subst (λ y. RowFits F have k y) a (row_parts F have k x (and_parts _ _ e).0))
row_at F have k (x ∷ rs) e (suc p) r h =
    let b : suc k + p ≡ k + suc p = omega arith in
    subst (λ q. RowFits F have q r) b (row_at F have (suc k) rs (and_parts (row_fits F have k x) _ e).1 p r h)

-- Derivations one behind the other.
pub join : {P : List Production} {xs ys : List Symbol} {ts us es fs : List ℕ} → Derives P xs ts es → Derives P ys us fs → Derives P (xs ++ ys) (ts ++ us) (es ++ fs)
join done b = b
join (token a) b = token (join a b)
join (act a) b = act (join a b)
join {P} {ys = ys} {us = us} {fs = fs} (rule {n} {s} {ts} {es} p r h e a) b = rule p r h e (subst (λ z. Derives P z (ts ++ us) (es ++ fs)) (append_assoc r.body s ys) (join a b))

begins_append : (F : Claims) (xs ys : List Symbol) (k : List ℕ) → begins F (xs ++ ys) k ≡ begins F xs (begins F ys k)
begins_append F [] ys k = refl
begins_append F (Terminal c ∷ xs) ys k = refl
begins_append F (Action a ∷ xs) ys k = begins_append F xs ys k
begins_append F (Nonterminal n ∷ xs) ys k = ap (λ z. F.first n ++ cond (F.empty n) z []) (begins_append F xs ys k)

cond_in : (b : Bool) {t : ℕ} (xs : List ℕ) → In t (cond b xs []) → (b ≡ true) × In t xs
cond_in true xs h = (refl, h)
cond_in false xs h = elim h [ ]

in_cond : (b : Bool) {t : ℕ} (xs : List ℕ) → b ≡ true → In t xs → In t (cond b xs [])
in_cond true xs e h = h
in_cond false xs e h = absurd (cc)

begins_more : (F : Claims) {t : ℕ} (s : List Symbol) (k l : List ℕ) → (In t k → In t l) → In t (begins F s k) → In t (begins F s l)
begins_more F [] k l f h = f h
begins_more F (Terminal c ∷ s) k l f h = h
begins_more F (Action a ∷ s) k l f h = begins_more F s k l f h
begins_more F (Nonterminal n ∷ s) k l f h = elim (in_either (F.first n) _ h) [
  | inl a ↦ in_left _ a
  | inr b ↦ let c = cond_in (F.empty n) (begins F s k) b in in_right (F.first n) (in_cond (F.empty n) _ c.0 (begins_more F s k l f c.1))
]

begins_split : (F : Claims) {t : ℕ} (s : List Symbol) (k : List ℕ) → In t (begins F s k) → In t (begins F s []) ⊎ ((vanishes F s ≡ true) × In t k)
begins_split F [] k h = inr (refl, h)
begins_split F (Terminal c ∷ s) k h = inl h
begins_split F (Action a ∷ s) k h = begins_split F s k h
begins_split F (Nonterminal n ∷ s) k h = elim (in_either (F.first n) _ h) [
  | inl a ↦ inl (in_left _ a)
  | inr b ↦ let c = cond_in (F.empty n) (begins F s k) b in
      elim (begins_split F s k c.1) [
        | inl d ↦ inl (in_right (F.first n) (in_cond (F.empty n) _ c.0 d))
        | inr d ↦ let e : (F.empty n && vanishes F s) ≡ true = rw (c.0, d.0) refl in inr (e, d.1)
      ]
]

cost_split : (F : Claims) (s : List Symbol) (k : ℕ) → cost F s k ≤ cost F s 0 + cond (vanishes F s) k 0
cost_split F [] k = omega arith
cost_split F (Terminal c ∷ s) k = omega arith
cost_split F (Action a ∷ s) k = omega (arith, cost_split F s k)
cost_split F (Nonterminal n ∷ s) k = elim (F.empty n) as (λ b. F.weight n + cond b (cost F s k) 0 ≤ (F.weight n + cond b (cost F s 0) 0) + cond (b && vanishes F s) k 0) [
  | true ↦ omega (arith, cost_split F s k)
  | false ↦ omega arith
]

not_true : (b : Bool) → not b ≡ true → b ≡ false
not_true true e = cc
not_true false e = refl

cost_append : (F : Claims) (xs ys : List Symbol) (k : ℕ) → cost F (xs ++ ys) k ≡ cost F xs (cost F ys k)
cost_append F [] ys k = refl
cost_append F (Terminal c ∷ xs) ys k = refl
cost_append F (Action a ∷ xs) ys k = ap (λ z. 1 + z) (cost_append F xs ys k)
cost_append F (Nonterminal n ∷ xs) ys k = ap (λ z. F.weight n + cond (F.empty n) z 0) (cost_append F xs ys k)

cond_less : (a b : Bool) (k : ℕ) → (not a || b) ≡ true → cond a k 0 ≤ cond b k 0
cond_less true true k e = omega arith
cond_less true false k e = absurd (cc)
cond_less false true k e = omega arith
cond_less false false k e = omega arith

-- some tokens that symbols derive
pub record Lives (P : List Production) (s : List Symbol) : Type 0 where
  pub tokens : List ℕ
  pub events : List ℕ
  pub runs : Derives P s tokens events

-- The table's facts for the rows of a grammar.
pub record IsTable (P : List Production) (F : Claims) (have : List ℕ) : Type 0 where
  pub rows : (p : ℕ) (r : Production) → nth P p ≡ Some r → RowFits F have p r
  pub lives : (n : ℕ) → In n have → Lives P (Nonterminal n ∷ [])

empty_case : (F : Claims) (s : List Symbol) (b : Bool) → (not (vanishes F s) || b) ≡ true → vanishes F s ≡ true → b ≡ true
empty_case F s b e v = let f : (not true || b) ≡ true = rw v at e in f

module _ (P : List Production) (F : Claims) (have : List ℕ) (T : IsTable P F have) where
  -- The first token of what is derived is among those that may stand first.
  pub runs_begins : {t : ℕ} {s : List Symbol} {w es : List ℕ} → Derives P s (t ∷ w) es → In t (begins F s [])
  runs_begins (token a) = here
  runs_begins (act a) = runs_begins a
  runs_begins {t} (rule {n} {s} p r h e a) =
      let b = subst (λ k. In t k) (begins_append F r.body s []) (runs_begins a) in
      let f = T.rows p r h in
      let g : In t (F.first r.of ++ cond (F.empty r.of) (begins F s []) []) = elim (begins_split F r.body (begins F s []) b) [
        | inl c ↦ in_left (cond (F.empty r.of) (begins F s []) []) (within_in (begins F r.body []) (F.first r.of) f.first c)
        | inr c ↦ in_right (F.first r.of) (in_cond (F.empty r.of) (begins F s []) (empty_case F r.body (F.empty r.of) f.empty c.0) c.1)
      ] in
      subst (λ m. In t (F.first m ++ cond (F.empty m) (begins F s []) [])) e g

  -- A nonterminal derives tokens by the production that the table gives, and by no other.
  pub only : {t n : ℕ} {s : List Symbol} {w es : List ℕ} → Good F have (Nonterminal n ∷ s) → Derives P (Nonterminal n ∷ s) (t ∷ w) es
      → (r : Production) × (nth P (F.choice n t) ≡ Some r) × (r.of ≡ n) × Derives P (r.body ++ s) (t ∷ w) es
  only {t} (good_rule {n} {s} f u g) (rule p r h e a) =
      let b : In t (begins F r.body (begins F s [])) = subst (λ k. In t k) (begins_append F r.body s []) (runs_begins a) in
      let f' : In t (begins F s []) → In t (F.follow r.of) = subst (λ m. In t (begins F s []) → In t (F.follow m)) (sym e) (f t) in
      let c : In t (begins F r.body (F.follow r.of)) = begins_more F r.body (begins F s []) (F.follow r.of) f' b in
      let d : F.choice r.of t ≡ p = eqb-true _ _ (every_in (λ x. F.choice r.of x == p) (begins F r.body (F.follow r.of)) (T.rows p r h).choice c) in
      let i : nth P (F.choice n t) ≡ Some r = ap (λ m. nth P (F.choice m t)) (sym e) ∙ ap (nth P) d ∙ h in
      (r, i, e, a)

  good_body : (n : ℕ) (b s : List Symbol) → follows F n b ≡ true → uses have b ≡ true → ((t : ℕ) → In t (begins F s []) → In t (F.follow n)) → Good F have s → Good F have (b ++ s)
  good_body n [] s e u f g = g
  good_body n (Terminal c ∷ b) s e u f g = good_token (good_body n b s e u f g)
  good_body n (Action a ∷ b) s e u f g = good_act (good_body n b s e u f g)
  good_body n (Nonterminal m ∷ b) s e u f g =
      let p = and_parts (within (begins F b (F.follow n)) (F.follow m)) (follows F n b) e in
      let q = and_parts (member m have) (uses have b) u in
      good_rule
      (λ t h. let h' = subst (λ k. In t k) (begins_append F b s []) h in within_in (begins F b (F.follow n)) (F.follow m) p.0 (begins_more F b (begins F s []) (F.follow n) (f t) h'))
      q.0
      (good_body n b s p.1 q.1 f g)

  pub good_goes : {n : ℕ} {s : List Symbol} (p : ℕ) (r : Production) → Good F have (Nonterminal n ∷ s) → nth P p ≡ Some r → r.of ≡ n → Good F have (r.body ++ s)
  good_goes p r (good_rule {n} {s} f u g) h e =
      let k = T.rows p r h in
      let f' : (t : ℕ) → In t (begins F s []) → In t (F.follow r.of) = subst (λ m. (t : ℕ) → In t (begins F s []) → In t (F.follow m)) (sym e) f in
      good_body r.of r.body s k.follow k.uses f' g

  pub stack_lives : {s : List Symbol} → Good F have s → Lives P s
  stack_lives bare = record { tokens = []; events = []; runs = done }
  stack_lives (good_token {c} g) = let l = stack_lives g in record { tokens = c ∷ l.tokens; events = shift ∷ l.events; runs = token l.runs }
  stack_lives (good_act {a} g) = let l = stack_lives g in record { tokens = l.tokens; events = a ∷ l.events; runs = act l.runs }
  stack_lives (good_rule {n} f u g) =
      let l = stack_lives g in
      let m = T.lives n (member_in n have u) in
      record { tokens = m.tokens ++ l.tokens; events = m.events ++ l.events; runs = join m.runs l.runs }

  closed_body : (b s : List Symbol) → inner b ≡ true → Closed s → Closed (b ++ s)
  closed_body [] s i c = c
  closed_body (Terminal x ∷ b) s i c = let p = and_parts (not (x == 0)) (inner b) i in closed_token (not_true (x == 0) p.0) (closed_body b s p.1 c)
  closed_body (Action a ∷ b) s i c = closed_act (closed_body b s i c)
  closed_body (Nonterminal n ∷ b) s i c = closed_rule (closed_body b s i c)

  pub closed_goes : {n : ℕ} {s : List Symbol} (p : ℕ) (r : Production) → Closed (Nonterminal n ∷ s) → nth P p ≡ Some r → Closed (r.body ++ s)
  closed_goes p r (closed_rule {n} {s} c) h = closed_body r.body s (T.rows p r h).inner c

  -- a step into a production takes less
  pub cost_goes : {n : ℕ} (s : List Symbol) (p : ℕ) (r : Production) → nth P p ≡ Some r → r.of ≡ n → cost F (r.body ++ s) 0 < cost F (Nonterminal n ∷ s) 0
  cost_goes {n} s p r h e =
      let k = T.rows p r h in
      let a = cost_append F r.body s 0 in
      let b = cost_split F r.body (cost F s 0) in
      let c : cond (vanishes F r.body) (cost F s 0) 0 ≤ cond (F.empty r.of) (cost F s 0) 0 = cond_less (vanishes F r.body) (F.empty r.of) (cost F s 0) k.empty in
      let d : cost F (r.body ++ s) 0 < F.weight r.of + cond (F.empty r.of) (cost F s 0) 0 = omega (arith, a, b, c, k.cost) in
      subst (λ m. cost F (r.body ++ s) 0 < F.weight m + cond (F.empty m) (cost F s 0) 0) e d

-- The test computes, and gives all this.
body_lives : (P : List Production) (have : List ℕ) (s : List Symbol) → ((n : ℕ) → In n have → Lives P (Nonterminal n ∷ [])) → uses have s ≡ true → Lives P s
body_lives P have [] f u = record { tokens = []; events = []; runs = done }
body_lives P have (Terminal c ∷ s) f u = let l = body_lives P have s f u in record { tokens = c ∷ l.tokens; events = shift ∷ l.events; runs = token l.runs }
body_lives P have (Action a ∷ s) f u = let l = body_lives P have s f u in record { tokens = l.tokens; events = a ∷ l.events; runs = act l.runs }
body_lives P have (Nonterminal n ∷ s) f u =
    let p = and_parts (member n have) (uses have s) u in
    let l = body_lives P have s f p.1 in
    let m = f n (member_in n have p.0) in
    record { tokens = m.tokens ++ l.tokens; events = m.events ++ l.events; runs = join m.runs l.runs }

more_live : (P : List Production) (have : List ℕ) (r : Production) → ((n : ℕ) → In n have → Lives P (Nonterminal n ∷ [])) → Lives P (Nonterminal r.of ∷ []) → (n : ℕ) → In n (r.of ∷ have) → Lives P (Nonterminal n ∷ [])
more_live P have r f l n here = l
more_live P have r f l n (there h) = f n h

row_lives : (P : List Production) (p : ℕ) (r : Production) → nth P p ≡ Some r → Lives P r.body → Lives P (Nonterminal r.of ∷ [])
row_lives P p r h l = record { tokens = l.tokens; events = l.events; runs = rule p r h refl (subst (λ z. Derives P z l.tokens l.events) (sym (append-nil r.body)) l.runs) }

with_live : (P : List Production) (have : List ℕ) (p : ℕ) (o : Option Production) (out : List ℕ) → nth P p ≡ o → ((n : ℕ) → In n have → Lives P (Nonterminal n ∷ [])) → with_row have o ≡ Some out → (n : ℕ) → In n out → Lives P (Nonterminal n ∷ [])
with_live P have p None out h f e n i = absurd (cc)
with_live P have p (Some r) out h f e n i = elim (uses have r.body) as (λ b. uses have r.body ≡ b → cond b (Some (r.of ∷ have)) None ≡ Some out → Lives P (Nonterminal n ∷ [])) [
  | true ↦ λ u k. let q : r.of ∷ have ≡ out = cc in
      more_live P have r f (row_lives P p r h (body_lives P have r.body f u)) n (subst (λ z. In n z) (sym q) i)
  | false ↦ λ u k. absurd (cc)
] refl e

ways_live : (P : List Production) (have ps out : List ℕ) → ((n : ℕ) → In n have → Lives P (Nonterminal n ∷ [])) → grow P have ps ≡ Some out → (n : ℕ) → In n out → Lives P (Nonterminal n ∷ [])
ways_live P have [] out f e n i = let q : have ≡ out = cc in f n (subst (λ z. In n z) (sym q) i)
ways_live P have (p ∷ ps) out f e n i = elim (with_row have (nth P p)) as (λ o. with_row have (nth P p) ≡ o → bind o (λ h. grow P h ps) ≡ Some out → Lives P (Nonterminal n ∷ [])) [
  | None ↦ λ a b. absurd (cc)
  | (Some h) ↦ λ a b. ways_live P h ps out (with_live P have p (nth P p) h refl f a) b n i
] refl e

made_lives : (P : List Production) (F : Claims) (n : ℕ) → In n (made P F) → Lives P (Nonterminal n ∷ [])
made_lives P F n i = elim (grow P [] F.ways) as (λ o. grow P [] F.ways ≡ o → In n (list_of o) → Lives P (Nonterminal n ∷ [])) [
  | None ↦ λ e j. elim j [ ]
  | (Some out) ↦ λ e j. ways_live P [] F.ways out (λ m k. elim k [ ]) e n j
] refl i

pub is_table : (P : List Production) (n : ℕ) (F : Claims) → fits P n F ≡ true → IsTable P F (made P F)
is_table P n F e =
    let p = and_parts (rows_fit F (made P F) 0 P) (member n (made P F) && member 0 (F.follow n)) e in
    record {
      rows = λ k r h. let z : 0 + k ≡ k = omega arith in subst (λ m. RowFits F (made P F) m r) z (row_at F (made P F) 0 P p.0 k r h);
      lives = made_lives P F;
    }

pub start_in : (P : List Production) (n : ℕ) (F : Claims) → fits P n F ≡ true → (member n (made P F) ≡ true) × (member 0 (F.follow n) ≡ true)
start_in P n F e = and_parts (member n (made P F)) (member 0 (F.follow n)) (and_parts (rows_fit F (made P F) 0 P) (member n (made P F) && member 0 (F.follow n)) e).1
