-- The way back from the cell of an instance to its first key.
use Rattle.std.proofs.Common.{◌≡◌, ◌≢◌, ℕ, ◌-◌, ◌/◌, ◌^◌, ◌<◌, ◌≤◌, List, [], ◌∷◌, reverse, length, Option, Some, None, sym, subst, arith}
use mathlib.Core.Logic.{dite}
use native.Mathlib.Decide.{ℕ_discrete}
use Rattle.std.proofs.lemmas.List.{length-reverse, length-take}
use Rattle.attr_rules.specs.declared.kinds.Attr.{Attr}
use Rattle.attr_rules.specs.declared.kinds.Kind.{Kind}
use Rattle.equation_law.specs.Codes.{AreCodes}
use Rattle.equation_law.specs.Names.{Attribute, Instance, Query}
use Rattle.equation_law.specs.Program.{Program, attribute_parameters, declared_of, kinds_or_none}
use Rattle.memo_cells.specs.declared.view.Frame.{Frame}
use Rattle.memo_cells.specs.declared.view.View.{View}
use Rattle.memo_cells.specs.Keys.{attribute_word, query_word}
use Rattle.memo_cells.specs.Naming.{IsCellOf, IsFirstKey, IsNamed, StandsFor}
use Rattle.memo_cells.specs.Standing.{IsPassOf}
use Rattle.memo_cells.specs.Steps.{KeySeen}
use Rattle.memo_cells.specs.Views.{Has, IsAtLeast}
use Rattle.memo_cells.proofs.Naming.{named_later}

-- k is a key word on the way to i, at most n arguments behind the first
abbrev pub IsBehind : View → Instance → ℕ → ℕ → Type 0
IsBehind v (Attribute a r xs) k n = (node : ℕ) × (cs : List ℕ) × IsNamed v k a node cs × (length cs ≤ n)
IsBehind v (Query q) k n = (q < 2 ^ 32) × (k ≡ query_word q)

-- there are at most three arguments
few_kinds : (d : Option Attr) → length (kinds_or_none d) ≤ 3
few_kinds None = omega arith
few_kinds (Some d) = let e = length-take d.params.count (d.params.first ∷ d.params.second ∷ d.params.third ∷ []) in omega (arith, e)

few_codes : (p : Program) (ks : List Kind) (cs : List ℕ) → AreCodes p ks cs → length cs ≤ length ks
few_codes p [] [] h = omega arith
few_codes p [] (c ∷ cs) h = absurd h
few_codes p (k ∷ ks) [] h = omega arith
few_codes p (k ∷ ks) (c ∷ cs) h = let rest = few_codes p ks cs h.1 in omega (arith, rest)

pub behind_cell : (p : Program) (v : View) (k : ℕ) (i : Instance) → StandsFor p v k i → IsBehind v i k 3
behind_cell p v k (Attribute a r xs) h =
    let codes = few_codes p (attribute_parameters p a) h.codes h.good in
    let kinds = few_kinds (declared_of p a) in
    let turned = length-reverse h.codes in
    (h.node, reverse h.codes, h.named, omega (arith, codes, kinds, turned))
behind_cell p v k (Query q) h = h

pub behind_later : (v w : View) (i : Instance) (k n : ℕ) → IsAtLeast v w → IsBehind v i k n → IsBehind w i k n
behind_later v w (Attribute a r xs) k n more h = (h.0, h.1, named_later v w more k a h.0 h.1 h.2, h.3)
behind_later v w (Query q) k n more h = h

-- a word with an argument
record IsAfter (v : View) (i : Instance) (k n : ℕ) : Type 0 where
  pub slot : ℕ
  pub key : ℕ
  pub there : Has v.keys (slot, key)
  pub at : (k - 2 ^ 62) / 2 ^ 32 ≡ slot
  pub behind : IsBehind v i key (n - 1)

after_named : (v : View) (k a node n : ℕ) (cs : List ℕ) → IsNamed v k a node cs → length cs ≤ n → k / 2 ^ 61 ≡ 2 → (s j : ℕ) × Has v.keys (s, j) × ((k - 2 ^ 62) / 2 ^ 32 ≡ s) × ((ds : List ℕ) × IsNamed v j a node ds × (length ds ≤ n - 1))
after_named v k a node n [] h few e = absurd (omega (arith, h.0, h.1, h.2, e))
after_named v k a node n (c ∷ cs) h few e = (h.0, h.1, h.2, omega (arith, h.4, h.5, h.6), (cs, h.3, omega (arith, few)))

after : (v : View) (i : Instance) (k n : ℕ) → IsBehind v i k n → k / 2 ^ 61 ≡ 2 → IsAfter v i k n
after v (Attribute a r xs) k n h e = let t = after_named v k a h.0 n h.1 h.2 h.3 e in record { slot = t.0; key = t.1; there = t.2; at = t.3; behind = (h.0, t.4.0, t.4.1, t.4.2) }
after v (Query q) k n h e = absurd (omega (arith, h.0, h.1, e))

-- a key that is read where one is known is that one
read_key : (f : Frame) (u v : View) (place key found : ℕ) → IsPassOf f v → IsAtLeast u v → KeySeen f u v place found → Has u.keys (place, key) → key ≡ found
read_key f u v place key found own kept seen there = dite (ℕ_discrete found 0) (λ z. absurd (seen.free z key (kept.keys place key there))) (λ nz. own.one_key place key found (kept.keys place key there) (seen.claimed nz))

module _ (f : Frame) (u v : View) (own : IsPassOf f v) (kept : IsAtLeast u v) where
  pub behind_first : (p : Program) (i : Instance) (slot found : ℕ) → KeySeen f u v slot found → IsCellOf p f u i slot → IsBehind v i found 3
  behind_first p i slot found seen cell = subst (λ (k : ℕ). IsBehind v i k 3) (read_key f u v slot cell.0 found own kept seen cell.1.1) (behind_later u v i cell.0 3 kept (behind_cell p u cell.0 i cell.2))

  pub behind_next : (i : Instance) (k n m found : ℕ) → IsBehind u i k n → k / 2 ^ 61 ≡ 2 → KeySeen f u v ((k - 2 ^ 62) / 2 ^ 32) found → m ≡ n - 1 → IsBehind v i found m
  behind_next i k n m found h e seen less =
      let t = after u i k n h e in
      let there : Has u.keys ((k - 2 ^ 62) / 2 ^ 32, t.key) = subst (λ (s : ℕ). Has u.keys (s, t.key)) (sym t.at) t.there in
      let behind : IsBehind v i found (n - 1) = subst (λ (j : ℕ). IsBehind v i j (n - 1)) (read_key f u v ((k - 2 ^ 62) / 2 ^ 32) t.key found own kept seen there) (behind_later u v i t.key (n - 1) kept t.behind) in
      subst (λ (l : ℕ). IsBehind v i found l) (sym less) behind

pub behind_place : (f : Frame) (v : View) (i : Instance) (k n : ℕ) → IsPassOf f v → IsBehind v i k n → k / 2 ^ 61 ≡ 2 → (k - 2 ^ 62) / 2 ^ 32 < f.cells
behind_place f v i k n own h e = let t = after v i k n h e in let within = own.within t.slot t.key t.there in omega (arith, within, t.at)

end_named : (v : View) (k a node : ℕ) (cs : List ℕ) → IsNamed v k a node cs → k / 2 ^ 61 ≢ 2 → (a < 2 ^ 16) × ((n : ℕ) × (n < 2 ^ 32) × (k ≡ attribute_word a n))
end_named v k a node [] h e = (h.0, (node, h.1, h.2))
end_named v k a node (c ∷ cs) h e = absurd (e (omega (arith, h.4, h.5, h.6)))

pub behind_end : (v : View) (i : Instance) (k n : ℕ) → IsBehind v i k n → k / 2 ^ 61 ≢ 2 → IsFirstKey i k
behind_end v (Attribute a r xs) k n h e = end_named v k a h.0 h.1 h.2 e
behind_end v (Query q) k n h e = h

last_named : (v : View) (k a node : ℕ) (cs : List ℕ) → IsNamed v k a node cs → length cs ≤ 0 → (a < 2 ^ 16) × ((n : ℕ) × (n < 2 ^ 32) × (k ≡ attribute_word a n))
last_named v k a node [] h le = (h.0, (node, h.1, h.2))
last_named v k a node (c ∷ cs) h le = absurd (omega (arith, le))

pub behind_last : (v : View) (i : Instance) (k n : ℕ) → IsBehind v i k n → n ≡ 0 → IsFirstKey i k
behind_last v (Attribute a r xs) k n h z = last_named v k a h.0 h.1 h.2 (omega (arith, h.3, z))
behind_last v (Query q) k n h z = h
