-- A reader that has values of instances up to one, by the numbers of their attributes and nodes. It is read by the names of source nodes, and
-- knows every code.
use Rattle.std.specs.Prelude.{◌≡◌, ◌<◌, ◌+◌, ◌*◌, ℕ, suc, true}
use Rattle.equation_law.specs.Codes.{source_names}
use Rattle.equation_law.specs.Names.{At, Attribute, Instance, Made, Null, Query, Reference, Source}
use Rattle.equation_law.specs.Program.{Program, text_of}
use Rattle.equation_law.specs.Reading.{Told}
use Rattle.equation_law.specs.Values.{Truth, Value}
use Rattle.rag_tests.specs.Nothing.{IsReadable}

abbrev pub number_of : Reference → ℕ
number_of Null = 0
number_of (At (Source k)) = suc k
number_of (At (Made a r xs q)) = 0

abbrev pub has_below : ℕ → Instance → Value → Type 0
has_below n (Attribute a r xs) v = (a * 1000 + number_of r < n) × (v ≡ Truth true)
has_below n (Query q) v = ⊥

abbrev pub may_have : Instance → Value → Type 0
may_have (Attribute a r xs) v = v ≡ Truth true
may_have (Query q) v = ⊥

abbrev pub late : {S : Type 0} → Program → ℕ → Told S
late p n = record { for = λ q. (q ≡ p) × IsReadable q; has = has_below n; can = may_have; keeps = λ earlier. Unit {0}; names = λ m. m ≡ source_names (text_of p); knows = λ c. Unit {0}; height = λ c. c }
