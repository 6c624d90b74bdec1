-- A text ends behind the first quote that no backslash escapes.
use Rattle.std.proofs.Common.{◌≡◌, ℕ, suc, ◌+◌, List, [], ◌∷◌, ◌++◌, length, take, Bool, true, false, ◌==◌, if◌then◌else◌, Option, Some, None, add-one, refl, sym, subst, ap, ◌∙◌, arith}
use Rattle.std.proofs.lemmas.Bool.{cond_both, cond-true, cond-false, eqb-true}
use Rattle.std.proofs.lemmas.Bool.Decides.{nat_tests}
use Rattle.rag_io.specs.declared.lexeme.TextStep.{TextStep}
use Rattle.rag_io.specs.declared.lexeme.TextStep.TheVariants.{Inside, Closes, Breaks}
use Rattle.rag_io.specs.Lexemes.{TextBody, closed, plain, escape, is_plain, is_escape, quote, backslash}
use Rattle.rag_io.specs.Fronts.{one_more, text_step, text_end}

-- a plain byte is no quote
plain_is_no_quote : (b : ℕ) → is_plain b ≡ true → (b == quote) ≡ false
plain_is_no_quote b h = grind (arith, nat_tests)

-- a plain byte is no backslash
plain_is_no_backslash : (b : ℕ) → is_plain b ≡ true → (b == backslash) ≡ false
plain_is_no_backslash b h = grind (arith, nat_tests)

-- a byte inside the text
text_end-inside : (escaped next : Bool) (b : ℕ) (bytes : List ℕ) → text_step escaped b ≡ Inside next → text_end escaped (b ∷ bytes) ≡ one_more (text_end next bytes)
unfolding text_end
text_end-inside escaped next b bytes step = rw (step, text_end) refl

-- a plain byte stands inside the text
text_step-plain : (b : ℕ) → is_plain b ≡ true → text_step false b ≡ Inside false
text_step-plain b is = cond-false _ _ _ (plain_is_no_quote b is) ∙ cond-false _ _ _ (plain_is_no_backslash b is) ∙ cond-true _ _ _ is

-- the end of a text, from behind its opening quote
pub text_end-append : {body : List ℕ} (rest : List ℕ) → TextBody body → text_end false (body ++ rest) ≡ Some (length body)
unfolding text_end
text_end-append rest closed = refl
text_end-append rest (plain {body} b is more) =
    text_end-inside false false b (body ++ rest) (text_step-plain b is) ∙ ap one_more (text_end-append rest more) ∙ ap Some (add-one (length body))
text_end-append rest (escape {body} b is more) =
    text_end-inside false true backslash (b ∷ (body ++ rest)) refl
    ∙ ap one_more (text_end-inside true false b (body ++ rest) (cond-true _ _ _ is) ∙ ap one_more (text_end-append rest more))
    ∙ (let e : length body + 1 + 1 ≡ suc (suc (length body)) = omega arith in ap Some e)

-- what is left of a text's body, where a backslash may stand before
abbrev pub IsLeft : Bool → List ℕ → Type 0
IsLeft true body = TextBody (backslash ∷ body)
IsLeft false body = TextBody body

-- a byte inside a text, before what is left
left_before : (escaped next : Bool) (b : ℕ) (body : List ℕ) → text_step escaped b ≡ Inside next → IsLeft next body → IsLeft escaped (b ∷ body)
left_before true next b body step left =
    cond_both (is_escape b) (Inside false) Breaks (λ s. s ≡ Inside next → TextBody (backslash ∷ (b ∷ body)))
    (λ is inside. let e : next ≡ false = cc in escape b is (subst (λ (n : Bool). IsLeft n body) e left)) (λ _ breaks. cc) step
left_before false next b body step left =
    cond_both (b == quote) Closes (if b == backslash then Inside true else (if is_plain b then Inside false else Breaks)) (λ s. s ≡ Inside next → TextBody (b ∷ body))
    (λ _ closes. cc)
    (λ _. cond_both (b == backslash) (Inside true) (if is_plain b then Inside false else Breaks) (λ s. s ≡ Inside next → TextBody (b ∷ body))
    (λ is inside. let e : next ≡ true = cc in
    subst (λ (x : ℕ). TextBody (x ∷ body)) (sym (eqb-true b backslash is)) (subst (λ (n : Bool). IsLeft n body) e left))
    (λ _. cond_both (is_plain b) (Inside false) Breaks (λ s. s ≡ Inside next → TextBody (b ∷ body))
    (λ is inside. let e : next ≡ false = cc in plain b is (subst (λ (n : Bool). IsLeft n body) e left)) (λ _ breaks. cc))) step

-- the byte that closes a text
left_last : (escaped : Bool) (b : ℕ) → text_step escaped b ≡ Closes → IsLeft escaped (b ∷ [])
left_last true b step = cond_both (is_escape b) (Inside false) Breaks (λ s. s ≡ Closes → TextBody (backslash ∷ (b ∷ []))) (λ _ inside. cc) (λ _ breaks. cc) step
left_last false b step =
    cond_both (b == quote) Closes (if b == backslash then Inside true else (if is_plain b then Inside false else Breaks)) (λ s. s ≡ Closes → TextBody (b ∷ []))
    (λ is _. subst (λ (x : ℕ). TextBody (x ∷ [])) (sym (eqb-true b quote is)) closed)
    (λ _. cond_both (b == backslash) (Inside true) (if is_plain b then Inside false else Breaks) (λ s. s ≡ Closes → TextBody (b ∷ [])) (λ _ inside. cc)
    (λ _. cond_both (is_plain b) (Inside false) Breaks (λ s. s ≡ Closes → TextBody (b ∷ [])) (λ _ inside. cc) (λ _ breaks. cc))) step

-- what the end of a text is
abbrev pub FindsQuote : Bool → List ℕ → Option ℕ → Type 0
FindsQuote escaped bytes None = Unit {0}
FindsQuote escaped bytes (Some n) = IsLeft escaped (take n bytes)

-- one byte more
quote_behind : (escaped next : Bool) (b : ℕ) (bytes : List ℕ) → text_step escaped b ≡ Inside next → (end : Option ℕ) → FindsQuote next bytes end → FindsQuote escaped (b ∷ bytes) (one_more end)
quote_behind escaped next b bytes step None none = tt
quote_behind escaped next b bytes step (Some n) left = rw (add-one n) (left_before escaped next b (take n bytes) step left)

-- up to its end a text is well formed
pub finds_quote : (escaped : Bool) (bytes : List ℕ) → FindsQuote escaped bytes (text_end escaped bytes)
unfolding text_end
finds_quote escaped [] = tt
finds_quote escaped (b ∷ bytes) = go (text_step escaped b) refl (λ next. finds_quote next bytes)
  where
    go : (step : TextStep) → text_step escaped b ≡ step → ((next : Bool) → FindsQuote next bytes (text_end next bytes)) → FindsQuote escaped (b ∷ bytes) (text_end escaped (b ∷ bytes))
    go (Inside next) e rest = rw (text_end-inside escaped next b bytes e) (quote_behind escaped next b bytes e (text_end next bytes) (rest next))
    go Closes e rest = rw (e, text_end) (left_last escaped b e)
    go Breaks e rest = rw (e, text_end) tt
