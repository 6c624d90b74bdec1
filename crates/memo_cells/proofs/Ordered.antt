-- The words after a claim, and after a step on the value words.
use Rattle.std.proofs.Common.{◌≡◌, ◌≢◌, ℕ, true, false, ◌<◌, ◌⊎◌, sym, ap, ◌∙◌, inl, inr, ⊎_elim, subst, arith}
use Rattle.std.specs.Int.{bit_at}
use Rattle.std.proofs.lemmas.Nat.Bits.{bit_at-zero}
use mathlib.Core.Logic.{dite}
use native.Mathlib.Decide.{ℕ_discrete, dec_le, dec_lt}
use Rattle.memo_cells.specs.Keys.{is_set_word, start}
use Rattle.memo_cells.specs.Words.{AreOrdered, Before, IsCoded}

-- of two places one is before the other
one_before : (n s p q : ℕ) → p < n → q < n → p ≢ q → Before n s p q ⊎ Before n s q p
one_before n s p q lp lq ne =
    dite (dec_le s p)
    (λ a. dite (dec_le s q)
    (λ b. dite (dec_lt q p) (λ h. inl (lq, (λ _. (b, h)), (λ l _. h))) (λ h. inr (lp, (λ _. (a, omega arith)), (λ l m. omega arith))))
    (λ b. inr (lp, (λ c. absurd (b c)), (λ l m. absurd (omega arith)))))
    (λ a. dite (dec_le s q)
    (λ b. inl (lq, (λ c. absurd (a c)), (λ l m. absurd (omega arith))))
    (λ b. dite (dec_lt q p) (λ h. inl (lq, (λ c. absurd (a c)), (λ l m. h))) (λ h. inr (lp, (λ c. absurd (b c)), (λ l m. omega arith)))))

module _ (n : ℕ) where
  -- a key that stands at no place before p on its way, where p is free, stands nowhere
  pub stands_nowhere : (formed : ℕ → Type 0) (settled : ℕ → ℕ → Type 0) (raised : ℕ → Type 0) (element : ℕ → ℕ → Type 0) (K W : ℕ → ℕ) (p k : ℕ) → AreOrdered formed settled raised element n K W → p < n → K p ≡ 0 → k ≢ 0 → ((q : ℕ) → Before n (start n k) p q → K q ≢ k) → (q : ℕ) → q < n → K q ≢ k
  stands_nowhere formed settled raised element K W p k o lt free nz passed q lq e =
      let apart : p ≢ q = λ s. nz (sym e ∙ (ap K (sym s) ∙ free)) in
      ⊎_elim (λ b. passed q b e) (λ b. o.reached q p lq (λ z. nz (sym e ∙ z)) (subst (λ z. Before n (start n z) q p) (sym e) b) free) (one_before n (start n k) p q lt lq apart)

-- what codes a value goes on to do so
pub coded_later : (settled settled' : ℕ → ℕ → Type 0) (raised raised' : ℕ → Type 0) (k w : ℕ) → ((c : ℕ) → settled k c → settled' k c) → (raised k → raised' k) → IsCoded settled raised k w → IsCoded settled' raised' k w
coded_later settled settled' raised raised' k w f g h = ⊎_elim (λ x. inl (x.0, x.1, f x.0 x.2)) (λ x. inr (x.0, g x.1)) h

-- what is formed, settled, raised and an element before a step, is so after it
module _ (n : ℕ) (formed formed' : ℕ → Type 0) (settled settled' : ℕ → ℕ → Type 0) (raised raised' : ℕ → Type 0) (element element' : ℕ → ℕ → Type 0) (form : (k : ℕ) → formed k → formed' k) (settle : (k c : ℕ) → settled k c → settled' k c) (raise : (k : ℕ) → raised k → raised' k) (part : (k b : ℕ) → element k b → element' k b) where
  -- the key k is claimed at the free place p
  pub ordered_claim : (K W K' W' : ℕ → ℕ) (p k : ℕ) → AreOrdered formed settled raised element n K W → p < n → K p ≡ 0 → k ≢ 0 → formed' k → ((q : ℕ) → Before n (start n k) p q → (K q ≢ 0) × (K q ≢ k)) → K' p ≡ k
      → ((q : ℕ) → q ≢ p → K' q ≡ K q) → ((q : ℕ) → W' q ≡ W q) → AreOrdered formed' settled' raised' element' n K' W'
  ordered_claim K W K' W' p k o lt free nz is passed here else beside =
      let fresh : (q : ℕ) → q < n → K q ≢ k = stands_nowhere n formed settled raised element K W p k o lt free nz (λ q b. (passed q b).1) in
      let stays : (q : ℕ) → K q ≢ 0 → K' q ≡ K q = λ q h. else q (λ e. h (ap K e ∙ free)) in
      record {
        formed_keys = λ q lq h.
            dite (ℕ_discrete q p) (λ e. subst formed' (sym (ap K' e ∙ here)) is) (λ ne. subst formed' (sym (else q ne)) (form (K q) (o.formed_keys q lq (λ z. h (else q ne ∙ z)))));
        once = λ i j li lj h e.
            dite (ℕ_discrete i p)
            (λ a. dite (ℕ_discrete j p) (λ b. a ∙ sym b) (λ b. absurd (fresh j lj (sym (else j b) ∙ (sym e ∙ (ap K' a ∙ here))))))
            (λ a. dite (ℕ_discrete j p) (λ b. absurd (fresh i li (sym (else i a) ∙ (e ∙ (ap K' b ∙ here))))) (λ b. o.once i j li lj (λ z. h (else i a ∙ z)) (sym (else i a) ∙ (e ∙ else j b))));
        reached = λ i q li h b.
            dite (ℕ_discrete i p)
            (λ a.
            let b' : Before n (start n k) p q = let same : K' i ≡ k = ap K' a ∙ here in subst (λ (z : ℕ × ℕ). Before n (start n z.1) z.0 q) (λ t. (a t, same t)) b in
            let old = (passed q b').0 in
            λ z. old (sym (stays q old) ∙ z)
            )
            (λ a.
            let b' : Before n (start n (K i)) i q = subst (λ z. Before n (start n z) i q) (else i a) b in
            let old = o.reached i q li (λ z. h (else i a ∙ z)) b' in
            λ z. old (sym (stays q old) ∙ z)
            );
        keyed = λ q lq h. let old = o.keyed q lq (λ z. h (beside q ∙ z)) in λ z. old (sym (stays q old) ∙ z);
        coded = λ q lq plain h.
            let there = o.keyed q lq (λ z. h (beside q ∙ z)) in
            let same = stays q there in
            let old = coded_later settled settled' raised raised' (K q) (W q) (settle (K q)) (raise (K q)) (o.coded q lq (sym (ap is_set_word same) ∙ plain) (λ z. h (beside q ∙ z))) in
            subst (λ (z : ℕ × ℕ). IsCoded settled' raised' z.0 z.1) (λ t. (sym same t, sym (beside q) t)) old;
        elements = λ q b lq set low e.
            let one : bit_at (W q) b ≡ 1 = ap (λ (y : ℕ). bit_at y b) (sym (beside q)) ∙ e in
            let there = o.keyed q lq (λ z. let none : bit_at (W q) b ≡ 0 = ap (λ (y : ℕ). bit_at y b) z ∙ bit_at-zero b in omega (arith, none, one)) in
            let same = stays q there in
            subst (λ (z : ℕ). element' z b) (sym same) (part (K q) b (o.elements q b lq (sym (ap is_set_word same) ∙ set) low one));
      }

  -- value words change, and no key word does
  pub ordered_words : (K W W' : ℕ → ℕ) → AreOrdered formed settled raised element n K W → ((p : ℕ) → p < n → W' p ≢ 0 → K p ≢ 0)
      → ((p : ℕ) → p < n → is_set_word (K p) ≡ false → W' p ≢ 0 → IsCoded settled' raised' (K p) (W' p)) → ((p b : ℕ) → p < n → is_set_word (K p) ≡ true → b < 64 → bit_at (W' p) b ≡ 1 → element' (K p) b) → AreOrdered formed' settled' raised' element' n K W'
  ordered_words K W W' o key code bit = record { formed_keys = λ q lq h. form (K q) (o.formed_keys q lq h); once = o.once; reached = o.reached; keyed = key; coded = code; elements = bit }

  -- a word that doesn't change codes what it did
  pub same_coded : (K W W' : ℕ → ℕ) (p : ℕ) → AreOrdered formed settled raised element n K W → p < n → is_set_word (K p) ≡ false → W' p ≡ W p → W' p ≢ 0 → IsCoded settled' raised' (K p) (W' p)
  same_coded K W W' p o lt plain same nz =
      subst (λ (w : ℕ). IsCoded settled' raised' (K p) w) (sym same) (coded_later settled settled' raised raised' (K p) (W p) (settle (K p)) (raise (K p)) (o.coded p lt plain (λ z. nz (same ∙ z))))

  pub same_elements : (K W W' : ℕ → ℕ) (p b : ℕ) → AreOrdered formed settled raised element n K W → p < n → is_set_word (K p) ≡ true → b < 64 → W' p ≡ W p → bit_at (W' p) b ≡ 1 → element' (K p) b
  same_elements K W W' p b o lt set low same e = part (K p) b (o.elements p b lt set low (ap (λ (y : ℕ). bit_at y b) (sym same) ∙ e))
