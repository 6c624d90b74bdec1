-- Broken rules in their order, and the first of a list.
use Rattle.std.specs.Prelude.{ℕ, List, [], ◌∷◌, Bool, Option, Some, None, if◌then◌else◌}
use Rattle.std.specs.declared.cmp.Ordering.{Ordering}
use Rattle.std.specs.Ordering.{nat_cmp, on, then_cmp, is_lt}
use Rattle.broken_rules.specs.declared.broken.Broken.{Broken}
use Rattle.broken_rules.specs.declared.rule.Rule.{Rule}
use Rattle.broken_rules.specs.declared.rule.Rule.TheVariants.{G1, G2, G3, G4, G5, G6, G7, G8, G9, G10, J1, J2, J3, J4, J5, J6, J7, J8, J9, J10, J11, J12, J13, J14, J15, J16, J17, M1, M2, M3, M4, M5, N1, N2, N3, N4, N5, N6, N7, Q1, Q2, Q3, Q4, T1, T2, T3, T4, T5, T6, T7}

abbrev pub number_of : Rule → ℕ
number_of G1 = 0
number_of G2 = 1
number_of G3 = 2
number_of G4 = 3
number_of G5 = 4
number_of G6 = 5
number_of G7 = 6
number_of G8 = 7
number_of G9 = 8
number_of G10 = 9
number_of J1 = 10
number_of J2 = 11
number_of J3 = 12
number_of J4 = 13
number_of J5 = 14
number_of J6 = 15
number_of J7 = 16
number_of J8 = 17
number_of J9 = 18
number_of J10 = 19
number_of J11 = 20
number_of J12 = 21
number_of J13 = 22
number_of J14 = 23
number_of J15 = 24
number_of J16 = 25
number_of J17 = 26
number_of M1 = 27
number_of M2 = 28
number_of M3 = 29
number_of M4 = 30
number_of M5 = 31
number_of N1 = 32
number_of N2 = 33
number_of N3 = 34
number_of N4 = 35
number_of N5 = 36
number_of N6 = 37
number_of N7 = 38
number_of Q1 = 39
number_of Q2 = 40
number_of Q3 = 41
number_of Q4 = 42
number_of T1 = 43
number_of T2 = 44
number_of T3 = 45
number_of T4 = 46
number_of T5 = 47
number_of T6 = 48
number_of T7 = 49

-- by line, then by column, then by the rule's number
unfoldable pub broken_cmp : Broken → Broken → Ordering
broken_cmp = then_cmp (on (λ (b : Broken). b.place.line) nat_cmp) (then_cmp (on (λ (b : Broken). b.place.column) nat_cmp) (on (λ (b : Broken). number_of b.rule) nat_cmp))

abbrev pub is_before : Broken → Broken → Bool
is_before a b = is_lt (broken_cmp a b)

-- the one of two that counts
abbrev pub sooner_of : Broken → Broken → Broken
sooner_of a b = if is_before b a then b else a

abbrev pub sooner : Option Broken → Option Broken → Option Broken
sooner None b = b
sooner (Some a) None = Some a
sooner (Some a) (Some b) = Some (sooner_of a b)

-- the one of a list that counts
abbrev pub first_of : List Broken → Option Broken
first_of [] = None
first_of (b ∷ bs) = sooner (Some b) (first_of bs)
