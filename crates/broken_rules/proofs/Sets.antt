-- `first_of` depends on the set of the broken rules alone, and what comes late doesn't count.
use Rattle.std.proofs.Common.{◌≡◌, List, ◌++◌, false, Option, Some, None, refl, sym, ap, subst, if◌then◌else◌}
use Rattle.broken_rules.specs.declared.broken.Broken.{Broken}
use Rattle.broken_rules.specs.Answers.{Has}
use Rattle.broken_rules.specs.Notes.{Notes}
use Rattle.broken_rules.specs.Order.{is_before, sooner, first_of}
use Rattle.broken_rules.proofs.Noting.{notes_then}
use Rattle.broken_rules.proofs.Order.{first_is, first_of-has, none_is, same_place}

same_of : (fs gs : List Broken) (o p : Option Broken) → first_of fs ≡ o → first_of gs ≡ p → ((f : Broken) → Has fs f → Has gs f) → ((f : Broken) → Has gs f → Has fs f) → o ≡ p
same_of fs gs None None e k to back = refl
same_of fs gs None (Some g) e k to back = absurd (subst (λ zs. Has zs g) (none_is fs e) (back g (first_of-has gs g k)))
same_of fs gs (Some f) None e k to back = absurd (subst (λ zs. Has zs f) (none_is gs k) (to f (first_of-has fs f e)))
same_of fs gs (Some f) (Some g) e k to back =
    ap Some (same_place f g ((first_is gs g k).least f (to f (first_of-has fs f e))) ((first_is fs f e).least g (back g (first_of-has gs g k))))

-- two lists with the same broken rules have one first: for loops that note in another order
pub same_first : (fs gs : List Broken) → ((f : Broken) → Has fs f → Has gs f) → ((f : Broken) → Has gs f → Has fs f) → first_of fs ≡ first_of gs
same_first fs gs to back = same_of fs gs (first_of fs) (first_of gs) refl refl to back

late : (f : Broken) (gs : List Broken) (o : Option Broken) → first_of gs ≡ o → ((g : Broken) → Has gs g → is_before g f ≡ false) → Some f ≡ sooner (Some f) o
late f gs None e h = refl
late f gs (Some g) e h = ap (λ b. Some (if b then g else f)) (sym (h g (first_of-has gs g e)))

-- the rest doesn't count where none of it is before what was found: for loops that stop
pub notes_late : (fs gs : List Broken) (f : Broken) {a : Option Broken} → Notes fs a (Some f) → ((g : Broken) → Has gs g → is_before g f ≡ false) → Notes (fs ++ gs) a (Some f)
notes_late fs gs f h rest = notes_then h (record { is = late f gs (first_of gs) refl rest })
