-- When all that one stack derives is derived by another with the same events: a test that computes, and grammars that carry others.
use Rattle.std.proofs.Common.{◌≡◌, ℕ, zero, suc, ◌==◌, true, false, List, [], ◌∷◌, ◌++◌, append_assoc, Option, Some, None, refl, sym, ap, subst, ◌∙◌}
use Rattle.ll_parser.specs.declared.symbols.Symbol.{Symbol}
use Rattle.ll_parser.specs.declared.symbols.Symbol.TheVariants.{Terminal, Nonterminal, Action}
use Rattle.ll_parser.specs.Grammar.{Production, nth, Derives, done, token, act, rule}
use Rattle.ll_parser.proofs.Parting.{cut, written}
use Rattle.ll_parser.proofs.Searching.{Each, try_each, InPlace, Laws, Search, expand, chosen, matched, search}
use Rattle.ll_parser.proofs.Theory.{join}

abbrev pub Carries : List Production → List Symbol → List Symbol → Type 0
Carries P a b = (ts es : List ℕ) → Derives P a ts es → Derives P b ts es

same_head : {P : List Production} (x : Symbol) (a b : List Symbol) → Carries P a b → Carries P (x ∷ a) (x ∷ b)
same_head x a b i ts es d = let q = cut d (x ∷ []) a refl in written q.is q.says (join q.first (i q.back q.later q.second))

row_right : {P : List Production} (p m : ℕ) (r : Production) (a b : List Symbol) → nth P p ≡ Some r → r.of ≡ m → Carries P a (r.body ++ b)
    → Carries P a (Nonterminal m ∷ b)
row_right p m r a b h e i ts es d = rule p r h e (i ts es d)

rows_left : {P : List Production} (n : ℕ) (a b : List Symbol) → Each (InPlace P (Carries P) n a b) P → Carries P (Nonterminal n ∷ a) b
rows_left n a b f ts es (rule p r h e d) = f p r h e ts es d

pub laws : (P : List Production) → Laws P (Carries P)
laws P = record { none = λ ts es d. d; same = same_head; left = rows_left; right = row_right }

module _ (P : List Production) (choice : ℕ → ℕ → ℕ) where
  abbrev pub peek_rows : (List Symbol → Option ℕ) → ℕ → List Production → Option ℕ
  peek_rows f n [] = None
  peek_rows f n (r ∷ rs) = elim (r.of == n) [
    | true ↦ elim (f r.body) [ None ↦ peek_rows f n rs | (Some t) ↦ Some t ]
    | false ↦ peek_rows f n rs
  ]

  -- one of the tokens that some symbols begin with
  abbrev pub peek : ℕ → List Symbol → Option ℕ
  peek zero s = None
  peek (suc k) [] = None
  peek (suc k) (Terminal t ∷ s) = Some t
  peek (suc k) (Action j ∷ s) = peek k s
  peek (suc k) (Nonterminal n ∷ s) = elim (peek_rows (λ x. peek k x) n P) [ None ↦ peek k s | (Some t) ↦ Some t ]

  -- the production that a table gives at a token
  abbrev pub at : Search P (Carries P) → (t m : ℕ) (a b : List Symbol) → Option (Carries P a (Nonterminal m ∷ b))
  at rec t m a b = chosen P (Carries P) (laws P) rec (choice m t) m a b

  -- Behind actions it is that of a token that may stand there, or the one that derives no tokens.
  abbrev pub behind_actions : Search P (Carries P) → (m : ℕ) (a b : List Symbol) → Option (Carries P a (Nonterminal m ∷ b))
  behind_actions rec m a b = elim (peek 30 a) [
    | None ↦ at rec 63 m a b
    | (Some t) ↦ elim (at rec t m a b) [ None ↦ at rec 63 m a b | (Some i) ↦ Some i ]
  ]

  abbrev pub by_table : Search P (Carries P) → (m : ℕ) (a b : List Symbol) → Option (Carries P a (Nonterminal m ∷ b))
  by_table rec m [] b = at rec 63 m [] b
  by_table rec m (Terminal t ∷ a) b = at rec t m (Terminal t ∷ a) b
  by_table rec m (Action k ∷ a) b = behind_actions rec m (Action k ∷ a) b
  by_table rec m (Nonterminal n ∷ a) b = None

  -- An action stands on both sides.
  abbrev pub act_left : Search P (Carries P) → (k : ℕ) (a b : List Symbol) → Option (Carries P (Action k ∷ a) b)
  act_left rec k a [] = None
  act_left rec k a (Terminal d ∷ b) = None
  act_left rec k a (Action j ∷ b) = matched P (Carries P) (laws P) rec Action k j a b None
  act_left rec k a (Nonterminal m ∷ b) = by_table rec m (Action k ∷ a) b

  abbrev pub act_right : Search P (Carries P) → (k : ℕ) (a b : List Symbol) → Option (Carries P a (Action k ∷ b))
  act_right rec k [] b = None
  act_right rec k (Terminal t ∷ a) b = None
  act_right rec k (Action j ∷ a) b = None
  act_right rec k (Nonterminal n ∷ a) b = expand P (Carries P) (laws P) rec n a (Action k ∷ b)

  -- Does b derive all that a derives, with the same events? None: not found within so many steps.
  abbrev pub carry : ℕ → Search P (Carries P)
  carry k a b = search P (Carries P) (laws P) (record { act_left = act_left; act_right = act_right; row_right = by_table }) k a b

-- A grammar into another, where each nonterminal stands for some symbols, and actions stay.
abbrev pub translated : (ℕ → List Symbol) → List Symbol → List Symbol
translated M [] = []
translated M (Terminal c ∷ s) = Terminal c ∷ translated M s
translated M (Action a ∷ s) = Action a ∷ translated M s
translated M (Nonterminal n ∷ s) = M n ++ translated M s

translated_append : (M : ℕ → List Symbol) (a b : List Symbol) → translated M (a ++ b) ≡ translated M a ++ translated M b
translated_append M [] b = refl
translated_append M (Terminal c ∷ a) b = ap (λ z. Terminal c ∷ z) (translated_append M a b)
translated_append M (Action c ∷ a) b = ap (λ z. Action c ∷ z) (translated_append M a b)
translated_append M (Nonterminal n ∷ a) b = ap (λ z. M n ++ z) (translated_append M a b) ∙ sym (append_assoc (M n) (translated M a) (translated M b))

-- a production, of a nonterminal that stands for some symbols
abbrev pub Follows : List Production → (ℕ → List Symbol) → Production → Type 0
Follows P M r = Carries P (translated M r.body) (M r.of)

abbrev pub Carrying : List Production → List Production → (ℕ → List Symbol) → Type 0
Carrying P Q M = Each (Follows P M) Q

abbrev pub carrying : (P : List Production) → (ℕ → ℕ → ℕ) → ℕ → (Q : List Production) (M : ℕ → List Symbol) → Option (Carrying P Q M)
carrying P choice k Q M = try_each (Follows P M) (λ r. carry P choice k (translated M r.body) (M r.of)) Q

-- What the other grammar derives, this one derives with the same events.
pub derived : (P Q : List Production) (M : ℕ → List Symbol) → Carrying P Q M → {s : List Symbol} {ts es : List ℕ} → Derives Q s ts es
    → Derives P (translated M s) ts es
derived P Q M f done = done
derived P Q M f (token d) = token (derived P Q M f d)
derived P Q M f (act d) = act (derived P Q M f d)
derived P Q M f (rule {n} {s} {ts} {es} p r h e d) =
    let q = cut (derived P Q M f d) (translated M r.body) (translated M s) (translated_append M r.body s) in
    subst (λ k. Derives P (M k ++ translated M s) ts es) e (written q.is q.says (join (f p r h q.front q.said q.first) q.second))
