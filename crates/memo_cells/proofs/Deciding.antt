-- Whether a pass knows an instance as settled is decided: what it knows is a list, and so are the keys on a way.
use Rattle.std.proofs.Common.{◌≡◌, ℕ, zero, suc, true, false, ◌-◌, ◌/◌, ◌%◌, ◌^◌, ◌<◌, ◌≤◌, ◌⊎◌, inl, inr, ⊎_elim, List, [], ◌∷◌, length, refl, sym, ap, subst, ◌∙◌, arith}
use mathlib.Core.Logic.{dite}
use native.Mathlib.Decide.{ℕ_discrete, dec_lt}
use Rattle.equation_law.specs.Names.{Attribute, Instance, Query, same_instance}
use Rattle.equation_law.specs.Program.{Program}
use Rattle.equation_law.specs.Systems.{program_of}
use Rattle.equation_law.proofs.Names.{same_instance_is, same_instance_self}
use Rattle.memo_cells.specs.declared.view.Frame.{Frame}
use Rattle.memo_cells.specs.declared.view.View.{View}
use Rattle.memo_cells.specs.Keys.{argument_word, attribute_word, query_word}
use Rattle.memo_cells.specs.Naming.{IsNamed, StandsFor}
use Rattle.memo_cells.specs.Standing.{IsPassOf, Knows}
use Rattle.memo_cells.specs.Views.{Has}
use Rattle.memo_cells.proofs.Firsts.{behind_cell}
use Rattle.memo_cells.proofs.Agreeing.{IsOpen, own_open}
use Rattle.memo_cells.proofs.Naming.{stands_once}

-- a key that is seen claimed at a place
key_at : (xs : List (ℕ × ℕ)) (s : ℕ) → ((j : ℕ) × Has xs (s, j)) ⊎ ((j : ℕ) → ¬ Has xs (s, j))
key_at [] s = inr (λ j h. h)
key_at (x ∷ xs) s =
    dite (ℕ_discrete x.0 s) (λ e. inl (x.1, inl (λ i. (sym e i, x.1))))
    (λ apart. ⊎_elim (λ h. inl (h.0, inr h.1)) (λ none. inr (λ j h. ⊎_elim (λ is. apart (sym (ap (λ (y : ℕ × ℕ). y.0) is))) (none j) h)) (key_at xs s))

module _ (v : View) (one_key : (s j k : ℕ) → Has v.keys (s, j) → Has v.keys (s, k) → j ≡ k) where
  -- k is the key word of an attribute with at most so many arguments, on a way that is seen claimed
  abbrev IsNamedWithin : ℕ → ℕ → Type 0
  IsNamedWithin n k = (a m : ℕ) × (cs : List ℕ) × IsNamed v k a m cs × (length cs ≤ n)

  -- without an argument
  first_within : (n k : ℕ) → IsNamedWithin n k ⊎ ((a m : ℕ) → ¬ IsNamed v k a m [])
  first_within n k =
      dite (ℕ_discrete k (attribute_word ((k - 2 ^ 61) / 2 ^ 32) (k % 2 ^ 32)))
      (λ is. dite (dec_lt ((k - 2 ^ 61) / 2 ^ 32) (2 ^ 16)) (λ few. inl ((k - 2 ^ 61) / 2 ^ 32, k % 2 ^ 32, [], (few, omega arith, is), omega arith)) (λ many. inr (λ a m h. many (omega (arith, h.0, h.1, h.2)))))
      (λ other. inr (λ a m h. other (omega (arith, h.0, h.1, h.2))))

  -- the slot and the code of a key word with an argument
  last_is : (k s c : ℕ) → s < 2 ^ 29 → c < 2 ^ 32 → k ≡ argument_word s c → ((k - 2 ^ 62) / 2 ^ 32 ≡ s) × (k % 2 ^ 32 ≡ c)
  last_is k s c low small is = (omega (arith, low, small, is), omega (arith, low, small, is))

  pub named_within : (n k : ℕ) → IsNamedWithin n k ⊎ (¬ IsNamedWithin n k)
  named_within zero k = ⊎_elim inl (λ none. inr (λ h. no_argument h.0 h.1 h.2 h.3 h.4 none)) (first_within 0 k)
    where
      no_argument : (a m : ℕ) (cs : List ℕ) → IsNamed v k a m cs → length cs ≤ 0 → ((b l : ℕ) → ¬ IsNamed v k b l []) → ⊥
      no_argument a m [] h few none = none a m h
      no_argument a m (c ∷ cs) h few none = omega (arith, few)
  named_within (suc n) k = ⊎_elim inl (λ none. by_slot (named_within n) none (key_at v.keys ((k - 2 ^ 62) / 2 ^ 32))) (first_within (suc n) k)
    where
      s : ℕ
      s = (k - 2 ^ 62) / 2 ^ 32

      -- it has no last argument, or one whose slot has no such key
      not_named : ((a m : ℕ) → ¬ IsNamed v k a m []) → ((t j a m : ℕ) (c : ℕ) (cs : List ℕ) → Has v.keys (t, j) → IsNamed v j a m cs → t < 2 ^ 29 → c < 2 ^ 32 → k ≡ argument_word t c → length cs ≤ n → ⊥) → (a m : ℕ) (cs : List ℕ) → IsNamed v k a m cs → length cs ≤ suc n → ⊥
      not_named none last a m [] h few = none a m h
      not_named none last a m (c ∷ cs) h few = last h.0 h.1 a m c cs h.2 h.3 h.4 h.5 h.6 (omega (arith, few))

      by_key : ((j : ℕ) → IsNamedWithin n j ⊎ (¬ IsNamedWithin n j)) → ((a m : ℕ) → ¬ IsNamed v k a m []) → (j : ℕ) → Has v.keys (s, j) → IsNamedWithin (suc n) k ⊎ (¬ IsNamedWithin (suc n) k)
      by_key fewer none j has =
          let other : (¬ ((s < 2 ^ 29) × (k ≡ argument_word s (k % 2 ^ 32)) × IsNamedWithin n j)) → ¬ IsNamedWithin (suc n) k =
          λ no h. not_named none
          (λ t l a m c cs there named low small is few.
          let at = last_is k t c low small is in
          let same : l ≡ j = one_key s l j (subst (λ (x : ℕ). Has v.keys (x, l)) (sym at.0) there) has in
          no (omega (arith, at.0, low), is ∙ (λ i. argument_word (sym at.0 i) (sym at.1 i)), (a, m, cs, subst (λ (x : ℕ). IsNamed v x a m cs) same named, few)))
          h.0 h.1 h.2 h.3 h.4 in
          dite (dec_lt s (2 ^ 29))
          (λ low. dite (ℕ_discrete k (argument_word s (k % 2 ^ 32)))
          (λ is. ⊎_elim (λ h. inl (h.0, h.1, k % 2 ^ 32 ∷ h.2, (s, j, has, h.3, low, omega arith, is), (let few = h.4 in omega (arith, few)))) (λ none_there. inr (other (λ h. none_there h.2))) (fewer j))
          (λ not_so. inr (other (λ h. not_so h.1))))
          (λ high. inr (other (λ h. high h.0)))

      by_slot : ((j : ℕ) → IsNamedWithin n j ⊎ (¬ IsNamedWithin n j)) → ((a m : ℕ) → ¬ IsNamed v k a m []) → ((j : ℕ) × Has v.keys (s, j)) ⊎ ((j : ℕ) → ¬ Has v.keys (s, j)) → IsNamedWithin (suc n) k ⊎ (¬ IsNamedWithin (suc n) k)
      by_slot fewer none at = ⊎_elim (λ h. by_key fewer none h.0 h.1)
          (λ no_key. inr (λ h. not_named none (λ t l a m c cs there named low small is few. no_key l (subst (λ (x : ℕ). Has v.keys (x, l)) (sym (last_is k t c low small is).0) there)) h.0 h.1 h.2 h.3 h.4)) at

module _ (p : Program) (f : Frame) (v : View) (same : p ≡ program_of f.system.value) (own : IsPassOf f v) where
  -- a key that is seen claimed stands for an instance or not
  stands_or_not : (i : Instance) (s k : ℕ) → Has v.keys (s, k) → StandsFor p v k i ⊎ (¬ StandsFor p v k i)
  stands_or_not (Query q) s k has = dite (dec_lt q (2 ^ 32)) (λ low. dite (ℕ_discrete k (query_word q)) (λ is. inl (low, is)) (λ other. inr (λ h. other h.1))) (λ high. inr (λ h. high h.0))
  stands_or_not (Attribute a r xs) s k has =
      ⊎_elim
      (λ h.
      let it = own.named s k h.0 h.1 h.2 has h.3 in
      let stands : StandsFor p v k it.0 = subst (λ (q : Program). StandsFor q v k it.0) (sym same) it.1 in
      elim (same_instance it.0 (Attribute a r xs)) as (λ b. same_instance it.0 (Attribute a r xs) ≡ b → StandsFor p v k (Attribute a r xs) ⊎ (¬ StandsFor p v k (Attribute a r xs))) [
        | true ↦ λ e. inl (subst (λ (j : Instance). StandsFor p v k j) (same_instance_is it.0 (Attribute a r xs) e) stands)
        | false ↦ λ e. inr (λ other. (let one = stands_once v own.one_key p (subst (λ (q : Program). IsOpen q v.made) (sym same) (own_open f v [] own)) k it.0 (Attribute a r xs) stands other in let yes = subst (λ (j : Instance). same_instance it.0 j ≡ true) one (same_instance_self it.0) in cc))
      ] refl)
      (λ none. inr (λ h. none (let b = behind_cell p v k (Attribute a r xs) h in (a, b.0, b.1, b.2, b.3))))
      (named_within v own.one_key 3 k)

  pub knows_or_not : (i : Instance) → Knows p v i ⊎ (¬ Knows p v i)
  knows_or_not i = among v.values (λ x h. h) (λ k. inl k) (λ none. inr (λ k. none (k.slot, k.key, k.code) k.settled k.stands))
    where
      among : {X : Type 0} (xs : List (ℕ × ℕ × ℕ)) → ((x : ℕ × ℕ × ℕ) → Has xs x → Has v.values x) → (Knows p v i → X) → (((x : ℕ × ℕ × ℕ) → Has xs x → ¬ StandsFor p v x.1 i) → X) → X
      among {X = X} [] within found missed = missed (λ x h s. h)
      among {X = X} (x ∷ xs) within found missed =
          ⊎_elim (λ stands. found (record { key = x.1; stands = stands; slot = x.0; code = x.2; settled = within x (inl refl) }))
          (λ none. among {X = X} xs (λ y h. within y (inr h)) found (λ rest. missed (λ y h s. ⊎_elim (λ is. none (subst (λ (z : ℕ × ℕ × ℕ). StandsFor p v z.1 i) is s)) (λ later. rest y later s) h)))
          (stands_or_not i x.0 x.1 (own.valued x.0 x.1 x.2 (within x (inl refl))))
