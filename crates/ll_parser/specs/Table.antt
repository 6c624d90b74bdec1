-- What makes a table of choices right for a grammar: a test that computes.
use Rattle.std.specs.Prelude.{ℕ, zero, suc, ◌+◌, ◌==◌, List, [], ◌∷◌, ◌++◌, Option, Some, None, Bool, true, false, cond, ◌&&◌, ◌||◌, not}
use Rattle.std.proofs.Math.Dec.{ltb}
use Rattle.ll_parser.specs.declared.symbols.Symbol.{Symbol}
use Rattle.ll_parser.specs.declared.symbols.Symbol.TheVariants.{Terminal, Nonterminal, Action}
use Rattle.ll_parser.specs.Grammar.{Production, nth}

-- What is claimed of a grammar.
pub record Claims : Type 0 where
  pub first : ℕ → List ℕ  -- tokens that may stand first in a nonterminal
  pub empty : ℕ → Bool  -- it may derive no tokens
  pub follow : ℕ → List ℕ  -- tokens that may stand behind it
  pub weight : ℕ → ℕ  -- more than that of what is met before its first token
  pub ways : List ℕ  -- productions, each over nonterminals of earlier ones
  pub choice : ℕ → ℕ → ℕ  -- the production for a nonterminal at a token

abbrev pub member : ℕ → List ℕ → Bool
member t [] = false
member t (x ∷ xs) = (t == x) || member t xs

abbrev pub every : (ℕ → Bool) → List ℕ → Bool
every p [] = true
every p (x ∷ xs) = p x && every p xs

abbrev pub within : List ℕ → List ℕ → Bool
within xs ys = every (λ x. member x ys) xs

-- the tokens that may stand first in symbols that stand before k
abbrev pub begins : Claims → List Symbol → List ℕ → List ℕ
begins F [] k = k
begins F (Terminal c ∷ s) k = c ∷ []
begins F (Action a ∷ s) k = begins F s k
begins F (Nonterminal n ∷ s) k = F.first n ++ cond (F.empty n) (begins F s k) []

abbrev pub vanishes : Claims → List Symbol → Bool
vanishes F [] = true
vanishes F (Terminal c ∷ s) = false
vanishes F (Action a ∷ s) = vanishes F s
vanishes F (Nonterminal n ∷ s) = F.empty n && vanishes F s

-- how many steps are left before a token
abbrev pub cost : Claims → List Symbol → ℕ → ℕ
cost F [] k = k
cost F (Terminal c ∷ s) k = 1
cost F (Action a ∷ s) k = 1 + cost F s k
cost F (Nonterminal n ∷ s) k = F.weight n + cond (F.empty n) (cost F s k) 0

-- behind each nonterminal stand only the tokens that may
abbrev pub follows : Claims → ℕ → List Symbol → Bool
follows F n [] = true
follows F n (Terminal c ∷ s) = follows F n s
follows F n (Action a ∷ s) = follows F n s
follows F n (Nonterminal m ∷ s) = within (begins F s (F.follow n)) (F.follow m) && follows F n s

abbrev pub uses : List ℕ → List Symbol → Bool
uses have [] = true
uses have (Terminal c ∷ s) = uses have s
uses have (Action a ∷ s) = uses have s
uses have (Nonterminal n ∷ s) = member n have && uses have s

-- the end of the file stands in no production
abbrev pub inner : List Symbol → Bool
inner [] = true
inner (Terminal c ∷ s) = not (c == 0) && inner s
inner (Action a ∷ s) = inner s
inner (Nonterminal n ∷ s) = inner s

-- the nonterminals that derive something, by ways and those before
abbrev pub with_row : List ℕ → Option Production → Option (List ℕ)
with_row have None = None
with_row have (Some r) = cond (uses have r.body) (Some (r.of ∷ have)) None

abbrev pub bind : Option (List ℕ) → (List ℕ → Option (List ℕ)) → Option (List ℕ)
bind None f = None
bind (Some x) f = f x

abbrev pub grow : List Production → List ℕ → List ℕ → Option (List ℕ)
grow P have [] = Some have
grow P have (p ∷ ps) = bind (with_row have (nth P p)) (λ h. grow P h ps)

abbrev pub list_of : Option (List ℕ) → List ℕ
list_of None = []
list_of (Some x) = x

abbrev pub made : List Production → Claims → List ℕ
made P F = list_of (grow P [] F.ways)

abbrev pub row_fits : Claims → List ℕ → ℕ → Production → Bool
row_fits F have p r =
    within (begins F r.body []) (F.first r.of) && ((not (vanishes F r.body) || F.empty r.of) && (follows F r.of r.body
    && (every (λ t. F.choice r.of t == p) (begins F r.body (F.follow r.of)) && (ltb (cost F r.body 0) (F.weight r.of) && (uses have r.body && inner r.body)))))

abbrev pub rows_fit : Claims → List ℕ → ℕ → List Production → Bool
rows_fit F have k [] = true
rows_fit F have k (r ∷ rs) = row_fits F have k r && rows_fit F have (suc k) rs

-- the whole test
abbrev pub fits : List Production → ℕ → Claims → Bool
fits P n F = rows_fit F (made P F) 0 P && (member n (made P F) && member 0 (F.follow n))

-- Tables of claims by number.
abbrev pub entry : {A : Type 0} → A → List A → ℕ → A
entry d [] n = d
entry d (x ∷ xs) zero = x
entry d (x ∷ xs) (suc n) = entry d xs n

abbrev pub numbers : List (List ℕ) → ℕ → List ℕ
numbers xs n = entry [] xs n

abbrev pub flag : List Bool → ℕ → Bool
flag xs n = entry false xs n

abbrev pub number : List ℕ → ℕ → ℕ
number xs n = entry 0 xs n
