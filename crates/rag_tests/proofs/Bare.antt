-- An instance without arguments, by its codes.
use Rattle.std.proofs.Common.{◌≡◌, ℕ, List, [], ◌∷◌, refl, sym, subst}
use Rattle.attr_rules.specs.declared.kinds.Kind.{Kind}
use Rattle.equation_law.specs.Checked.{IsInstance}
use Rattle.equation_law.specs.Codes.{arguments_at}
use Rattle.equation_law.specs.Names.{Argument, At, Attribute, Reference, Source}
use Rattle.equation_law.specs.Program.{Program, text_of}

-- no codes stand for no arguments
no_arguments : (texts : ℕ → List ℕ) (ks : List Kind) → arguments_at texts ks [] ≡ []
no_arguments texts [] = refl
no_arguments texts (k ∷ ks) = refl

-- what is coded without arguments
pub coded : (p : Program) (a n : ℕ) (r : Reference) (ks : List Kind) (cs : List ℕ) → r ≡ At (Source n) → cs ≡ [] → IsInstance p (Attribute a (At (Source n)) []) → IsInstance p (Attribute a r (arguments_at (text_of p) ks cs))
coded p a n r ks cs same none i =
    let of_none = subst (λ (list : List Argument). IsInstance p (Attribute a (At (Source n)) list)) (sym (no_arguments (text_of p) ks)) i in
    let of_codes = subst (λ (list : List ℕ). IsInstance p (Attribute a (At (Source n)) (arguments_at (text_of p) ks list))) (sym none) of_none in
    subst (λ (at : Reference). IsInstance p (Attribute a at (arguments_at (text_of p) ks cs))) (sym same) of_codes
