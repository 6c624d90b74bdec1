-- What is put into a map at a key at which nothing is kept.
use Rattle.std.proofs.Common.{◌≡◌, Bool, true, false, cond, Option, Some, None, is_some, refl, sym, ap, ◌∙◌}
use Rattle.std.specs.HashMap.{HashMap, Updates, get_by}
use Rattle.solutions.specs.Rounds.{or_else}

-- nothing is added
pub or_none : {V : Type 0} (o : Option V) → o ≡ or_else o None
or_none None = refl
or_none (Some v) = refl

-- what isn't there
pub not_there : {V : Type 0} (o : Option V) (b : Bool) → b ≡ is_some o → b ≡ false → o ≡ None
not_there None b e f = refl
not_there (Some v) b e f = cc

-- it is kept from then on, and all else as before
pub first_put : {K X S : Type 0} (eq : K → K → Bool) (m n : HashMap K X S) (j : K) (x : X) → ((q : K) → eq j q ≡ true → get_by (eq q) m ≡ None) → Updates eq m n j (Some x)
    → (q : K) → get_by (eq q) n ≡ or_else (get_by (eq q) m) (cond (eq j q) (Some x) None)
first_put eq m n j x free u q =
    u.0 q ∙ elim (eq j q) as (λ b. eq j q ≡ b → cond b (Some x) (get_by (eq q) m) ≡ or_else (get_by (eq q) m) (cond b (Some x) None)) [
      | true ↦ λ s. sym (ap (λ o. or_else o (Some x)) (free q s))
      | false ↦ λ s. or_none (get_by (eq q) m)
    ] refl
