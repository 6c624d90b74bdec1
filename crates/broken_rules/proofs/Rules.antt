-- The numbers and the codes of the rules.
use Rattle.std.proofs.Common.{◌≡◌, ℕ, List, [], ◌∷◌, get_or, codes, refl, sym, ◌∙◌, ap}
use Rattle.broken_rules.specs.declared.rule.Rule.{Rule}
use Rattle.broken_rules.specs.declared.rule.Rule.TheVariants.{G1, G2, G3, G4, G5, G6, G7, G8, G9, G10, J1, J2, J3, J4, J5, J6, J7, J8, J9, J10, J11, J12, J13, J14, J15, J16, J17, M1, M2, M3, M4, M5, N1, N2, N3, N4, N5, N6, N7, Q1, Q2, Q3, Q4, T1, T2, T3, T4, T5, T6, T7}
use Rattle.broken_rules.specs.Codes.{code_of}
use Rattle.broken_rules.specs.Order.{number_of}

in_order : List Rule
in_order = G1 ∷ G2 ∷ G3 ∷ G4 ∷ G5 ∷ G6 ∷ G7 ∷ G8 ∷ G9 ∷ G10 ∷ J1 ∷ J2 ∷ J3 ∷ J4 ∷ J5 ∷ J6 ∷ J7 ∷ J8 ∷ J9 ∷ J10 ∷ J11 ∷ J12 ∷ J13 ∷ J14 ∷ J15 ∷ J16 ∷ J17 ∷ M1 ∷ M2 ∷ M3 ∷ M4 ∷ M5 ∷ N1 ∷ N2 ∷ N3 ∷ N4 ∷ N5 ∷ N6 ∷ N7 ∷ Q1 ∷ Q2 ∷ Q3 ∷ Q4 ∷ T1 ∷ T2 ∷ T3 ∷ T4 ∷ T5 ∷ T6 ∷ T7 ∷ []

in_order-number : (r : Rule) → get_or in_order (number_of r) G1 ≡ r
unfolding in_order
in_order-number G1 = refl
in_order-number G2 = refl
in_order-number G3 = refl
in_order-number G4 = refl
in_order-number G5 = refl
in_order-number G6 = refl
in_order-number G7 = refl
in_order-number G8 = refl
in_order-number G9 = refl
in_order-number G10 = refl
in_order-number J1 = refl
in_order-number J2 = refl
in_order-number J3 = refl
in_order-number J4 = refl
in_order-number J5 = refl
in_order-number J6 = refl
in_order-number J7 = refl
in_order-number J8 = refl
in_order-number J9 = refl
in_order-number J10 = refl
in_order-number J11 = refl
in_order-number J12 = refl
in_order-number J13 = refl
in_order-number J14 = refl
in_order-number J15 = refl
in_order-number J16 = refl
in_order-number J17 = refl
in_order-number M1 = refl
in_order-number M2 = refl
in_order-number M3 = refl
in_order-number M4 = refl
in_order-number M5 = refl
in_order-number N1 = refl
in_order-number N2 = refl
in_order-number N3 = refl
in_order-number N4 = refl
in_order-number N5 = refl
in_order-number N6 = refl
in_order-number N7 = refl
in_order-number Q1 = refl
in_order-number Q2 = refl
in_order-number Q3 = refl
in_order-number Q4 = refl
in_order-number T1 = refl
in_order-number T2 = refl
in_order-number T3 = refl
in_order-number T4 = refl
in_order-number T5 = refl
in_order-number T6 = refl
in_order-number T7 = refl

-- different rules have different numbers
pub number_once : (a b : Rule) → number_of a ≡ number_of b → a ≡ b
number_once a b e = sym (in_order-number a) ∙ ap (λ n. get_or in_order n G1) e ∙ in_order-number b

abbrev pub all_codes : List (List ℕ)
all_codes = codes "G1" ∷ codes "G2" ∷ codes "G3" ∷ codes "G4" ∷ codes "G5" ∷ codes "G6" ∷ codes "G7" ∷ codes "G8" ∷ codes "G9" ∷ codes "G10" ∷ codes "J1" ∷ codes "J2" ∷ codes "J3" ∷ codes "J4" ∷ codes "J5" ∷ codes "J6" ∷ codes "J7" ∷ codes "J8" ∷ codes "J9" ∷ codes "J10" ∷ codes "J11" ∷ codes "J12" ∷ codes "J13" ∷ codes "J14" ∷ codes "J15" ∷ codes "J16" ∷ codes "J17" ∷ codes "M1" ∷ codes "M2" ∷ codes "M3" ∷ codes "M4" ∷ codes "M5" ∷ codes "N1" ∷ codes "N2" ∷ codes "N3" ∷ codes "N4" ∷ codes "N5" ∷ codes "N6" ∷ codes "N7" ∷ codes "Q1" ∷ codes "Q2" ∷ codes "Q3" ∷ codes "Q4" ∷ codes "T1" ∷ codes "T2" ∷ codes "T3" ∷ codes "T4" ∷ codes "T5" ∷ codes "T6" ∷ codes "T7" ∷ []

all_codes-number : (r : Rule) (d : List ℕ) → get_or all_codes (number_of r) d ≡ code_of r
unfolding code_of
all_codes-number G1 d = refl
all_codes-number G2 d = refl
all_codes-number G3 d = refl
all_codes-number G4 d = refl
all_codes-number G5 d = refl
all_codes-number G6 d = refl
all_codes-number G7 d = refl
all_codes-number G8 d = refl
all_codes-number G9 d = refl
all_codes-number G10 d = refl
all_codes-number J1 d = refl
all_codes-number J2 d = refl
all_codes-number J3 d = refl
all_codes-number J4 d = refl
all_codes-number J5 d = refl
all_codes-number J6 d = refl
all_codes-number J7 d = refl
all_codes-number J8 d = refl
all_codes-number J9 d = refl
all_codes-number J10 d = refl
all_codes-number J11 d = refl
all_codes-number J12 d = refl
all_codes-number J13 d = refl
all_codes-number J14 d = refl
all_codes-number J15 d = refl
all_codes-number J16 d = refl
all_codes-number J17 d = refl
all_codes-number M1 d = refl
all_codes-number M2 d = refl
all_codes-number M3 d = refl
all_codes-number M4 d = refl
all_codes-number M5 d = refl
all_codes-number N1 d = refl
all_codes-number N2 d = refl
all_codes-number N3 d = refl
all_codes-number N4 d = refl
all_codes-number N5 d = refl
all_codes-number N6 d = refl
all_codes-number N7 d = refl
all_codes-number Q1 d = refl
all_codes-number Q2 d = refl
all_codes-number Q3 d = refl
all_codes-number Q4 d = refl
all_codes-number T1 d = refl
all_codes-number T2 d = refl
all_codes-number T3 d = refl
all_codes-number T4 d = refl
all_codes-number T5 d = refl
all_codes-number T6 d = refl
all_codes-number T7 d = refl

-- what a table of the codes has for a rule
pub code_at : (table : List (List ℕ)) (i : ℕ) (r : Rule) → table ≡ all_codes → i ≡ number_of r → get_or table i [] ≡ code_of r
code_at table i r e n = (λ j. get_or (e j) (n j) []) ∙ all_codes-number r []
