-- When all that one stack derives is derived by another, whatever the events: a test that computes, and grammars that include others.
use Rattle.std.proofs.Common.{◌≡◌, ℕ, List, [], ◌∷◌, ◌++◌, append_assoc, Option, Some, None, refl, sym, ap, subst, ◌∙◌}
use Rattle.ll_parser.specs.declared.symbols.Symbol.{Symbol}
use Rattle.ll_parser.specs.declared.symbols.Symbol.TheVariants.{Terminal, Nonterminal, Action}
use Rattle.ll_parser.specs.Grammar.{Production, nth, shift, Derives, done, token, act, rule}
use Rattle.ll_parser.specs.Sentences.{Makes}
use Rattle.ll_parser.proofs.Parting.{parted, both}
use Rattle.ll_parser.proofs.Searching.{Each, try_each, InPlace, Laws, Search, Ways, chosen, search}

abbrev pub Includes : List Production → List Symbol → List Symbol → Type 0
Includes P a b = (ts : List ℕ) → Makes P a ts → Makes P b ts

same_head : {P : List Production} (x : Symbol) (a b : List Symbol) → Includes P a b → Includes P (x ∷ a) (x ∷ b)
same_head {P} x a b i ts m =
    let q = parted m.runs (x ∷ []) a refl in
    subst (λ z. Makes P (x ∷ b) z) (sym q.is) (both q.first (i q.back q.second))

pub act_left : {P : List Production} (k : ℕ) {a b : List Symbol} → Includes P a b → Includes P (Action k ∷ a) b
act_left {P} k {a} {b} i ts m = act_off m.runs i
  where
    act_off : {P : List Production} {k : ℕ} {a b : List Symbol} {ts es : List ℕ} → Derives P (Action k ∷ a) ts es → Includes P a b → Makes P b ts
    act_off (act {ts = ts} {es = es} d) i = i ts (record { events = es; runs = d })

pub act_right : {P : List Production} (k : ℕ) {a b : List Symbol} → Includes P a b → Includes P a (Action k ∷ b)
act_right k i ts m = let r = i ts m in record { events = k ∷ r.events; runs = act r.runs }

row_right : {P : List Production} (p m : ℕ) (r : Production) (a b : List Symbol) → nth P p ≡ Some r → r.of ≡ m → Includes P a (r.body ++ b)
    → Includes P a (Nonterminal m ∷ b)
row_right p m r a b h e i ts x = let y = i ts x in record { events = y.events; runs = rule p r h e y.runs }

rows_left : {P : List Production} (n : ℕ) (a b : List Symbol) → Each (InPlace P (Includes P) n a b) P → Includes P (Nonterminal n ∷ a) b
rows_left {P} n a b f ts m = row_off m.runs f
  where
    row_off : {P : List Production} {n : ℕ} {a b : List Symbol} {ts es : List ℕ} → Derives P (Nonterminal n ∷ a) ts es
        → Each (InPlace P (Includes P) n a b) P → Makes P b ts
    row_off (rule {ts = ts} {es = es} p r h e d) f = f p r h e ts (record { events = es; runs = d })

pub laws : (P : List Production) → Laws P (Includes P)
laws P = record { none = λ ts m. m; same = same_head; left = rows_left; right = row_right }

-- The search skips actions on both sides.
abbrev pub ways : (P : List Production) → (Search P (Includes P) → (m : ℕ) (a b : List Symbol) → Option (Includes P a (Nonterminal m ∷ b)))
    → Ways P (Includes P)
ways P row = record {
  act_left = λ rec k a b. elim (rec a b) [ None ↦ None | (Some i) ↦ Some (act_left k i) ];
  act_right = λ rec k a b. elim (rec a b) [ None ↦ None | (Some i) ↦ Some (act_right k i) ];
  row_right = row;
}

module _ (P : List Production) (choice : ℕ → ℕ → ℕ) where
  -- the production that a table gives
  abbrev pub by_table : Search P (Includes P) → (m : ℕ) (a b : List Symbol) → Option (Includes P a (Nonterminal m ∷ b))
  by_table rec m [] b = chosen P (Includes P) (laws P) rec (choice m 63) m [] b
  by_table rec m (Terminal t ∷ a) b = chosen P (Includes P) (laws P) rec (choice m t) m (Terminal t ∷ a) b
  by_table rec m (Action k ∷ a) b = None
  by_table rec m (Nonterminal n ∷ a) b = None

  -- Does b derive all that a derives? None: not found within so many steps.
  abbrev pub include : ℕ → Search P (Includes P)
  include k a b = search P (Includes P) (laws P) (ways P by_table) k a b

  -- A grammar into this one, where each nonterminal stands for some symbols.
  abbrev pub meant : (ℕ → List Symbol) → List Symbol → List Symbol
  meant M [] = []
  meant M (Terminal c ∷ s) = Terminal c ∷ meant M s
  meant M (Action a ∷ s) = meant M s
  meant M (Nonterminal n ∷ s) = M n ++ meant M s

  abbrev pub Fits : (ℕ → List Symbol) → Production → Type 0
  Fits M r = Includes P (meant M r.body) (M r.of)

  abbrev pub Fitting : List Production → (ℕ → List Symbol) → Type 0
  Fitting Q M = Each (Fits M) Q

  abbrev pub fitting : ℕ → (Q : List Production) (M : ℕ → List Symbol) → Option (Fitting Q M)
  fitting k Q M = try_each (Fits M) (λ r. include k (meant M r.body) (M r.of)) Q

  meant_append : (M : ℕ → List Symbol) (a b : List Symbol) → meant M (a ++ b) ≡ meant M a ++ meant M b
  meant_append M [] b = refl
  meant_append M (Terminal c ∷ a) b = ap (λ z. Terminal c ∷ z) (meant_append M a b)
  meant_append M (Action c ∷ a) b = meant_append M a b
  meant_append M (Nonterminal n ∷ a) b = ap (λ z. M n ++ z) (meant_append M a b) ∙ sym (append_assoc (M n) (meant M a) (meant M b))

  -- What the other grammar derives, this one derives.
  pub carried : (Q : List Production) (M : ℕ → List Symbol) → Fitting Q M → {s : List Symbol} {ts es : List ℕ} → Derives Q s ts es → Makes P (meant M s) ts
  carried Q M f done = record { events = []; runs = done }
  carried Q M f (token d) = let m = carried Q M f d in record { events = shift ∷ m.events; runs = token m.runs }
  carried Q M f (act d) = carried Q M f d
  carried Q M f (rule {n} {s} {ts} p r h e d) =
      let m = carried Q M f d in
      let q = parted m.runs (meant M r.body) (meant M s) (meant_append M r.body s) in
      let x = both (f p r h q.front q.first) q.second in
      subst (λ k. Makes P (M k ++ meant M s) ts) e (subst (λ z. Makes P (M r.of ++ meant M s) z) (sym q.is) x)
