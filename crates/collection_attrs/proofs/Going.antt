-- How a collection goes on over its offers, one after the other.
use Rattle.std.proofs.Common.{◌≡◌, Bool, true, false, cond, List, [], ◌∷◌, ◌++◌, Option, Some, refl, sym, ap, subst, ◌∙◌}
use Rattle.solutions.specs.Asking.{Demands, Ends, Gives, Halts, Needs, after, asks, at, gives, next}
use Rattle.solutions.proofs.Runs.{ends_more}
use Rattle.attr_rules.specs.declared.kinds.Kind.{Kind}
use Rattle.attr_rules.specs.declared.kinds.Method.{Method}
use Rattle.equation_law.specs.Collections.{Offer, combine, gathered, offer_place, offered}
use Rattle.equation_law.specs.Equations.{world_of}
use Rattle.equation_law.specs.Meaning.{World, meaning_of}
use Rattle.equation_law.specs.Names.{Instance, Reference, same_reference}
use Rattle.equation_law.specs.Program.{Program}
use Rattle.equation_law.specs.Values.{Value, node, truth}
use Rattle.collection_attrs.specs.Passed.{ArePassed, IsPassed, NoneFor, met, unmet}

-- demands one after the other
ends_next : {A : Instance → Value → Type 0} {c : Demands Instance Value} (k : Value → Demands Instance Value) {v w : Value} {ds es : List Instance} → Ends A c v ds → Ends A (k v) w es → Ends A (next c k) w (ds ++ es)
ends_next k gives f = f
ends_next k (asks a e) f = asks a (ends_next k e f)

pub halts_next : {A : Instance → Value → Type 0} {c : Demands Instance Value} (k : Value → Demands Instance Value) {v : Value} {j : Instance} {ds es : List Instance} → Ends A c v ds → Halts A (k v) j es → Halts A (next c k) j (ds ++ es)
halts_next k gives f = f
halts_next k (asks a e) f = after a (halts_next k e f)

pub halts_first : {A : Instance → Value → Type 0} {c : Demands Instance Value} (k : Value → Demands Instance Value) {j : Instance} {ds : List Instance} → Halts A c j ds → Halts A (next c k) j ds
halts_first k (at n) = at n
halts_first k (after a e) = after a (halts_first k e)

-- what follows what follows
next_next : (c : Demands Instance Value) (f g : Value → Demands Instance Value) → next (next c f) g ≡ next c (λ v. next (f v) g)
next_next (Gives v) f g = refl
next_next (Needs j k) f g = (λ i. Needs j (λ v. next_next (k v) f g i))

next_same : (c : Demands Instance Value) (f g : Value → Demands Instance Value) → ((v : Value) → f v ≡ g v) → next c f ≡ next c g
next_same c f g h = (λ i. next c (λ v. h v i))

next_one_of : (b : Bool) (c d : Demands Instance Value) (g : Value → Demands Instance Value) → next (cond b c d) g ≡ cond b (next c g) (next d g)
next_one_of true c d g = refl
next_one_of false c d g = refl

module _ (W : World) (n : Reference) (o : Offer) where
  abbrev Condition : Demands Instance Value
  Condition = meaning_of W o.contribution.condition (offer_place o)

  abbrev Receiver : Demands Instance Value
  Receiver = meaning_of W o.contribution.receiver (offer_place o)

  abbrev Own : Demands Instance Value
  Own = meaning_of W o.contribution.value (offer_place o)

  -- what follows an offer may be put into it
  offered_next : (counts : Value → Demands Instance Value) (passed : Demands Instance Value) (g : Value → Demands Instance Value) → next (offered W n o counts passed) g ≡ offered W n o (λ v. next (counts v) g) (next passed g)
  offered_next counts passed g =
      let received = λ (r : Value). cond (same_reference (node r) n) (next Own counts) passed in
      let received_then = λ (r : Value). cond (same_reference (node r) n) (next Own (λ v. next (counts v) g)) (next passed g) in
      let own : (r : Value) → next (received r) g ≡ received_then r =
      λ r. next_one_of (same_reference (node r) n) (next Own counts) passed g ∙ ap (λ (x : Demands Instance Value). cond (same_reference (node r) n) x (next passed g)) (next_next Own counts g)
      in
      let whole : next (next Receiver received) g ≡ next Receiver received_then = next_next Receiver received g ∙ next_same Receiver (λ r. next (received r) g) received_then own in
      next_next Condition (λ b. cond (truth b) (next Receiver received) passed) g
      ∙ next_same Condition (λ b. next (cond (truth b) (next Receiver received) passed) g) (λ b. cond (truth b) (next Receiver received_then) (next passed g)) (λ b. next_one_of (truth b) (next Receiver received) passed g ∙ ap (λ (x : Demands Instance Value). cond (truth b) x (next passed g)) whole)

-- offers after others
pub gathered_both : (W : World) (m : Method) (k : Kind) (n : Reference) (s : Value) (xs ys : List Offer) → gathered W m k n s (xs ++ ys) ≡ next (gathered W m k n s xs) (λ v. gathered W m k n v ys)
gathered_both W m k n s [] ys = refl
gathered_both W m k n s (o ∷ xs) ys =
    let later = λ (v : Value). gathered W m k n v ys in
    (λ i. offered W n o (λ v. gathered_both W m k n (combine m k s v) xs ys i) (gathered_both W m k n s xs ys i))
    ∙ sym (offered_next W n o (λ v. gathered W m k n (combine m k s v) xs) (gathered W m k n s xs) later)

module _ (p : Program) (A : Instance → Value → Type 0) (n : Reference) (o : Offer) (counts : Value → Demands Instance Value) (passed : Demands Instance Value) where
  abbrev World_of : World
  World_of = world_of p

  abbrev received : Value → Demands Instance Value
  received r = cond (same_reference (node r) n) (next (Own World_of n o) counts) passed

  abbrev under : Value → Demands Instance Value
  under b = cond (truth b) (next (Receiver World_of n o) received) passed

  -- an offer that is passed by, and what follows then
  pub passed_by : {r : Option Reference} → IsPassed p A o r → NoneFor n (r ∷ []) → {v : Value} {es : List Instance} → Ends A passed v es → (ds : List Instance) × Ends A (offered World_of n o counts passed) v ds
  passed_by (unmet {b = b} {demands = ds} c f) none {v} {es} e = (ds ++ es, ends_next under c (subst (λ (t : Bool). Ends A (cond t (next (Receiver World_of n o) received) passed) v es) (sym f) e))
  passed_by (met {b = b} {r = r} {demands = ds} {more = ms} c t q) none {v} {es} e =
      let here : Ends A (received r) v es = subst (λ (x : Bool). Ends A (cond x (next (Own World_of n o) counts) passed) v es) (sym none.0) e in
      (ds ++ (ms ++ es), ends_next under c (subst (λ (x : Bool). Ends A (cond x (next (Receiver World_of n o) received) passed) v (ms ++ es)) (sym t) (ends_next received q here)))

  pub stuck_behind : {r : Option Reference} → IsPassed p A o r → NoneFor n (r ∷ []) → {j : Instance} {es : List Instance} → Halts A passed j es → (ds : List Instance) × Halts A (offered World_of n o counts passed) j ds
  stuck_behind (unmet {b = b} {demands = ds} c f) none {j} {es} e = (ds ++ es, halts_next under c (subst (λ (t : Bool). Halts A (cond t (next (Receiver World_of n o) received) passed) j es) (sym f) e))
  stuck_behind (met {b = b} {r = r} {demands = ds} {more = ms} c t q) none {j} {es} e =
      let here : Halts A (received r) j es = subst (λ (x : Bool). Halts A (cond x (next (Own World_of n o) counts) passed) j es) (sym none.0) e in
      (ds ++ (ms ++ es), halts_next under c (subst (λ (x : Bool). Halts A (cond x (next (Receiver World_of n o) received) passed) j (ms ++ es)) (sym t) (halts_next received q here)))

  -- one that counts: its value, and what follows with it
  pub counted : {r : Reference} → IsPassed p A o (Some r) → same_reference r n ≡ true → {w v : Value} {ws es : List Instance} → Ends A (Own World_of n o) w ws → Ends A (counts w) v es → (ds : List Instance) × Ends A (offered World_of n o counts passed) v ds
  counted (met {b = b} {r = r} {demands = ds} {more = ms} c t q) same {w} {v} {ws} {es} own e =
      let here : Ends A (received r) v (ws ++ es) = subst (λ (x : Bool). Ends A (cond x (next (Own World_of n o) counts) passed) v (ws ++ es)) (sym same) (ends_next counts own e) in
      (ds ++ (ms ++ (ws ++ es)), ends_next under c (subst (λ (x : Bool). Ends A (cond x (next (Receiver World_of n o) received) passed) v (ms ++ (ws ++ es))) (sym t) (ends_next received q here)))

  -- and where what follows is stuck
  pub stuck_after : {r : Reference} → IsPassed p A o (Some r) → same_reference r n ≡ true → {w : Value} {j : Instance} {ws es : List Instance} → Ends A (Own World_of n o) w ws → Halts A (counts w) j es → (ds : List Instance) × Halts A (offered World_of n o counts passed) j ds
  stuck_after (met {b = b} {r = r} {demands = ds} {more = ms} c t q) same {w} {j} {ws} {es} own e =
      let here : Halts A (received r) j (ws ++ es) = subst (λ (x : Bool). Halts A (cond x (next (Own World_of n o) counts) passed) j (ws ++ es)) (sym same) (halts_next counts own e) in
      (ds ++ (ms ++ (ws ++ es)), halts_next under c (subst (λ (x : Bool). Halts A (cond x (next (Receiver World_of n o) received) passed) j (ms ++ (ws ++ es))) (sym t) (halts_next received q here)))

  -- its value is stuck
  pub stuck_value : {r : Reference} → IsPassed p A o (Some r) → same_reference r n ≡ true → {j : Instance} {ws : List Instance} → Halts A (Own World_of n o) j ws → (ds : List Instance) × Halts A (offered World_of n o counts passed) j ds
  stuck_value (met {b = b} {r = r} {demands = ds} {more = ms} c t q) same {j} {ws} own =
      let here : Halts A (received r) j ws = subst (λ (x : Bool). Halts A (cond x (next (Own World_of n o) counts) passed) j ws) (sym same) (halts_first counts own) in
      (ds ++ (ms ++ ws), halts_next under c (subst (λ (x : Bool). Halts A (cond x (next (Receiver World_of n o) received) passed) j (ms ++ ws)) (sym t) (halts_next received q here)))

  -- its receiver is
  pub stuck_receiver : {b : Value} {ds : List Instance} → Ends A (Condition World_of n o) b ds → truth b ≡ true → {j : Instance} {ms : List Instance} → Halts A (Receiver World_of n o) j ms → (es : List Instance) × Halts A (offered World_of n o counts passed) j es
  stuck_receiver {b} {ds} c t {j} {ms} h = (ds ++ ms, halts_next under c (subst (λ (x : Bool). Halts A (cond x (next (Receiver World_of n o) received) passed) j ms) (sym t) (halts_first received h)))

  -- or its condition
  pub stuck_condition : {j : Instance} {ds : List Instance} → Halts A (Condition World_of n o) j ds → (es : List Instance) × Halts A (offered World_of n o counts passed) j es
  stuck_condition {j} {ds} h = (ds, halts_first under h)

-- what was passed stays so while a reader comes to have more values
pub passed_more : {p : Program} {A B : Instance → Value → Type 0} {o : Offer} {r : Option Reference} → ((i : Instance) (v : Value) → A i v → B i v) → IsPassed p A o r → IsPassed p B o r
passed_more g (unmet c f) = unmet (ends_more g c) f
passed_more g (met c t q) = met (ends_more g c) t (ends_more g q)

pub all_passed_more : (p : Program) {A B : Instance → Value → Type 0} → ((i : Instance) (v : Value) → A i v → B i v) → (os : List Offer) (rs : List (Option Reference)) → ArePassed p A os rs → ArePassed p B os rs
all_passed_more p g [] [] h = tt
all_passed_more p g [] (r ∷ rs) h = absurd h
all_passed_more p g (o ∷ os) [] h = absurd h
all_passed_more p g (o ∷ os) (r ∷ rs) h = (passed_more g h.0, all_passed_more p g os rs h.1)
