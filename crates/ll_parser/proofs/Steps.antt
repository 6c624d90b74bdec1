-- Steps of a reader, whole tokens, and whole lists.
use Rattle.std.proofs.Common.{count_by, ◌≤◌, length, ◌≡◌, ℕ, ◌<◌, ◌==◌, false, List, [], ◌∷◌, ◌++◌, append_assoc, append-nil, Some, Ok, refl, sym, ap, subst, ◌∙◌, arith}
use Rattle.ll_parser.specs.declared.symbols.Symbol.{Symbol}
use Rattle.ll_parser.specs.declared.symbols.Symbol.TheVariants.{Terminal, Nonterminal, Action}
use Rattle.ll_parser.specs.declared.symbols.Step.TheVariants.{Goes, Shifts, Stops}
use Rattle.ll_parser.specs.Grammar.{Production, nth, shift, Derives, done, token, act, rule, start, Begins, IsSentence, Leading}
use Rattle.ll_parser.specs.Table.{Claims, cost, made}
use Rattle.ll_parser.specs.Stack.{In, here, there, Good, bare, good_token, good_act, good_rule, last, closed_token, closed_act, closed_rule, Proper, over, open_at, Gives, Leads, Shifted, Stuck, Moves, shifts, acts, goes, wrong, none, Works, Ready, Sofar}
use Rattle.ll_parser.proofs.Members.{member_in}
use Rattle.ll_parser.proofs.Theory.{IsTable, Lives, only, good_goes, closed_goes, cost_goes, is_table, start_in}

pub leads_start : (P : List Production) (t : ℕ) (s : List Symbol) (es : List ℕ) → Leads P t s es s es
leads_start P t s es = record { forth = λ w all g. g; back = λ w all g. g }

act_parts : {P : List Production} {a : ℕ} {s : List Symbol} {ts es : List ℕ} → Derives P (Action a ∷ s) ts es → (fs : List ℕ) × (es ≡ a ∷ fs) × Derives P s ts fs
act_parts (act {es = es} r) = (es, refl, r)

token_parts : {P : List Production} {c t : ℕ} {s : List Symbol} {ts es : List ℕ} → Derives P (Terminal c ∷ s) (t ∷ ts) es → (fs : List ℕ) × (es ≡ shift ∷ fs) × (c ≡ t) × Derives P s ts fs
token_parts (token {es = es} r) = (es, refl, refl, r)

one_more : (es : List ℕ) (a : ℕ) (fs : List ℕ) → (es ++ a ∷ []) ++ fs ≡ es ++ (a ∷ fs)
one_more es a fs = append_assoc es (a ∷ []) fs

gives_act : {P : List Production} {a : ℕ} {s : List Symbol} {es ts all : List ℕ} → Gives P s (es ++ a ∷ []) ts all → Gives P (Action a ∷ s) es ts all
gives_act {a = a} {es = es} g = record { later = a ∷ g.later; runs = act g.runs; total = g.total ∙ one_more es a g.later }

act_gives : {P : List Production} {a : ℕ} {s : List Symbol} {es ts all : List ℕ} → Gives P (Action a ∷ s) es ts all → Gives P s (es ++ a ∷ []) ts all
act_gives {a = a} {es = es} g =
    let p = act_parts g.runs in
    record { later = p.0; runs = p.2; total = g.total ∙ ap (λ z. es ++ z) p.1 ∙ sym (one_more es a p.0) }

gives_token : {P : List Production} {t : ℕ} {s : List Symbol} {es ts all : List ℕ} → Gives P s (es ++ shift ∷ []) ts all → Gives P (Terminal t ∷ s) es (t ∷ ts) all
gives_token {es = es} g = record { later = shift ∷ g.later; runs = token g.runs; total = g.total ∙ one_more es shift g.later }

token_gives : {P : List Production} {t : ℕ} {s : List Symbol} {es ts all : List ℕ} → Gives P (Terminal t ∷ s) es (t ∷ ts) all → Gives P s (es ++ shift ∷ []) ts all
token_gives {es = es} g =
    let p = token_parts g.runs in
    record { later = p.0; runs = p.3; total = g.total ∙ ap (λ z. es ++ z) p.1 ∙ sym (one_more es shift p.0) }

module _ (P : List Production) (first : ℕ) (choice : ℕ → ℕ → ℕ) (F : Claims) (works : Works P first choice F) where
  abbrev table : IsTable P F (made P F)
  table = is_table P first F works.fits

  same_row : (n t : ℕ) (r : Production) → nth P (choice n t) ≡ Some r → nth P (F.choice n t) ≡ Some r
  same_row n t r h = ap (nth P) (works.same n t) ∙ h

  row_same : (n t : ℕ) (r : Production) → nth P (F.choice n t) ≡ Some r → nth P (choice n t) ≡ Some r
  row_same n t r h = ap (nth P) (sym (works.same n t)) ∙ h

  proper_goes : {n : ℕ} {s : List Symbol} (p : ℕ) (r : Production) → Proper (Nonterminal n ∷ s) → nth P p ≡ Some r → Proper (r.body ++ s)
  proper_goes p r (open_at c) h = open_at (closed_goes P F (made P F) table p r c h)

  -- One step before t keeps all that the reader keeps, and there are fewer steps left.
  pub leads_goes : {t : ℕ} {s0 s s' : List Symbol} {es0 es es' : List ℕ} → Leads P t s0 es0 s es → Ready P F s → Moves P choice t s es (Ok Goes) s' es' → Leads P t s0 es0 s' es'
  leads_goes l y acts = record { forth = λ w all g. l.forth w all (gives_act g); back = λ w all g. act_gives (l.back w all g) }
  leads_goes {t} l y (goes {n} {s} {es} r h e) = record {
    forth = λ w all g. l.forth w all (record { later = g.later; runs = rule (choice n t) r h e g.runs; total = g.total });
    back = λ w all g0.
        let g = l.back w all g0 in
        let o = only P F (made P F) table y.good g.runs in
        let q : o.0 ≡ r = let a = row_same n t o.0 o.1 in cc in
        record { later = g.later; runs = subst (λ x. Derives P (x.body ++ s) (t ∷ w) g.later) q o.3; total = g.total };
  }

  pub ready_goes : {t : ℕ} {s s' : List Symbol} {es es' : List ℕ} → Ready P F s → Moves P choice t s es (Ok Goes) s' es' → Ready P F s'
  ready_goes y m = ready_by y.good y.proper m
    where
      ready_by : {t : ℕ} {s s' : List Symbol} {es es' : List ℕ} → Good F (made P F) s → Proper s → Moves P choice t s es (Ok Goes) s' es' → Ready P F s'
      ready_by (good_act g) (open_at (closed_act c)) acts = record { good = g; proper = open_at c }
      ready_by {t} g p (goes {n} r h e) = record { good = good_goes P F (made P F) table (F.choice n t) r g (same_row n t r h) e; proper = proper_goes (choice n t) r p h }

  pub cost_less : {t : ℕ} {s s' : List Symbol} {es es' : List ℕ} → Moves P choice t s es (Ok Goes) s' es' → cost F s' 0 < cost F s 0
  cost_less acts = omega arith
  cost_less {t} (goes {n} {s} r h e) = cost_goes P F (made P F) table s (F.choice n t) r (same_row n t r h) e

  -- The last step of a token.
  pub leads_shifts : {t : ℕ} {s0 s s' : List Symbol} {es0 es es' : List ℕ} → Leads P t s0 es0 s es → Moves P choice t s es (Ok Shifts) s' es' → Shifted P t s0 es0 s' es'
  leads_shifts l shifts = record { forth = λ w all g. l.forth (w) all (gives_token g); back = λ w all g. token_gives (l.back w all g) }

  pub ready_shifts : {t : ℕ} {s s' : List Symbol} {es es' : List ℕ} → Ready P F s → Moves P choice t s es (Ok Shifts) s' es' → Ready P F s'
  ready_shifts y m = ready_by y.good y.proper m
    where
      ready_by : {t : ℕ} {s s' : List Symbol} {es es' : List ℕ} → Good F (made P F) s → Proper s → Moves P choice t s es (Ok Shifts) s' es' → Ready P F s'
      ready_by (good_token g) (open_at last) shifts = record { good = g; proper = over }
      ready_by (good_token g) (open_at (closed_token e c)) shifts = record { good = g; proper = open_at c }
      ready_by bare p m = elim m [ ]
      ready_by (good_act g) p m = elim m [ ]
      ready_by (good_rule f u g) p m = elim m [ ]

  pub over_shifts : {t : ℕ} {s s' : List Symbol} {es es' : List ℕ} → Ready P F s → Moves P choice t s es (Ok Shifts) s' es' → t ≡ 0 → s' ≡ []
  over_shifts y m = over_by y.proper m
    where
      over_by : {t : ℕ} {s s' : List Symbol} {es es' : List ℕ} → Proper s → Moves P choice t s es (Ok Shifts) s' es' → t ≡ 0 → s' ≡ []
      over_by over m = elim m [ ]
      over_by (open_at (closed_act c)) m = elim m [ ]
      over_by (open_at (closed_rule c)) m = elim m [ ]
      over_by (open_at last) shifts = λ z. refl
      over_by {t} (open_at (closed_token e c)) shifts = λ z. let b : (0 == 0) ≡ false = subst (λ x. (x == 0) ≡ false) z e in absurd (cc)

  -- No step before t.
  stops_here : {t : ℕ} {s s' : List Symbol} {es es' w fs : List ℕ} → Ready P F s → Moves P choice t s es (Ok Stops) s' es' → Derives P s (t ∷ w) fs → ⊥
  stops_here y (wrong d) r = d (token_parts r).2
  stops_here {t} y (none {n} d) r = let o = only P F (made P F) table y.good r in d o.0 (row_same n t o.0 o.1) o.2

  pub leads_stops : {t : ℕ} {s0 s s' : List Symbol} {es0 es es' : List ℕ} → Leads P t s0 es0 s es → Ready P F s → Moves P choice t s es (Ok Stops) s' es' → Stuck P t s0
  leads_stops {es0 = es0} l y m = record { nothing = λ w fs r. stops_here y m (l.back w (es0 ++ fs) (record { later = fs; runs = r; total = refl })).runs }

  pub leads_empty : {t : ℕ} {s0 : List Symbol} {es0 es : List ℕ} → Leads P t s0 es0 [] es → Stuck P t s0
  leads_empty {es0 = es0} l = record { nothing = λ w fs r. elim (l.back w (es0 ++ fs) (record { later = fs; runs = r; total = refl })).runs [ ] }

  -- Whole lists.
  pub ready_start : Ready P F (start first)
  ready_start =
      let s = start_in P first F works.fits in
      let f = member_in 0 (F.follow first) s.1 in
      record {
        good = good_rule (λ t i. end_first t i f) s.0 (good_token bare);
        proper = open_at (closed_rule last);
      }
    where
      end_first : (t : ℕ) → In t (0 ∷ []) → In 0 (F.follow first) → In t (F.follow first)
      end_first t here h = h
      end_first t (there i) h = elim i [ ]

pub sofar_start : (P : List Production) (n : ℕ) → Sofar P n [] (start n) []
sofar_start P n = record { forth = λ w all g. g; back = λ w all g. g }

pub sofar_next : {P : List Production} {n : ℕ} {us : List ℕ} {t : ℕ} {s s' : List Symbol} {es es' : List ℕ} → Sofar P n us s es → Shifted P t s es s' es' → Sofar P n (us ++ t ∷ []) s' es'
sofar_next {P} {n} {us} {t} a b = record {
  forth = λ w all g. subst (λ z. Gives P (start n) [] z all) (sym (one_more us t w)) (a.forth (t ∷ w) all (b.forth w all g));
  back = λ w all g. b.back w all (a.back (t ∷ w) all (subst (λ z. Gives P (start n) [] z all) (one_more us t w) g));
}

pub sofar_ends : {P : List Production} {n : ℕ} {us es : List ℕ} → Sofar P n us [] es → IsSentence P n us es
sofar_ends {P} {n} {us} {es} a =
    let g = a.forth [] es (record { later = []; runs = done; total = sym (append-nil es) }) in
    let e : g.later ≡ es = sym g.total in
    record {
      runs = subst (λ z. Derives P (start n) us z) e (subst (λ z. Derives P (start n) z g.later) (append-nil us) g.runs);
      only = λ fs r. let h = a.back [] fs (record { later = fs; runs = subst (λ z. Derives P (start n) z fs) (sym (append-nil us)) r; total = refl }) in
          ends_by es h.runs h.total;
    }
  where
    ends_by : {P : List Production} (es : List ℕ) {fs later : List ℕ} → Derives P [] [] later → fs ≡ es ++ later → fs ≡ es
    ends_by es done e = e ∙ append-nil es

pub sofar_begins : {P : List Production} {n : ℕ} {us es : List ℕ} {s : List Symbol} → Sofar P n us s es → Lives P s → Begins P n us
sofar_begins {es = es} a l =
    let g = a.forth l.tokens (es ++ l.events) (record { later = l.events; runs = l.runs; total = refl }) in
    record { rest = l.tokens; events = g.later; runs = g.runs }

pub sofar_leading : {P : List Production} {n : ℕ} {us es : List ℕ} {s : List Symbol} → Sofar P n us s es → length us ≤ count_by (λ e. e == shift) es
    → Leading P n us es
sofar_leading {s = s} a read = record { read = read; stack = s; each = λ w fs r. let g = a.back w fs (record { later = fs; runs = r; total = refl }) in (g.later, g.runs, g.total) }

pub sofar_stuck : {P : List Production} {n : ℕ} {us es : List ℕ} {s : List Symbol} {t : ℕ} → Sofar P n us s es → Stuck P t s → (w fs : List ℕ) → Derives P (start n) ((us ++ t ∷ []) ++ w) fs → ⊥
sofar_stuck {P} {n} {us} {t = t} a b w fs r =
    let g = a.back (t ∷ w) fs (record { later = fs; runs = subst (λ z. Derives P (start n) z fs) (one_more us t w) r; total = refl }) in
    b.nothing w g.later g.runs
