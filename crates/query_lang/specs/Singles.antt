-- Texts of values by the codes that stand for them.
use Rattle.std.specs.Prelude.{ℕ, Bool, List, [], ◌++◌, codes, if◌then◌else◌}
use Rattle.std.specs.Fmt.{signed_decimal}
use Rattle.rag_io.specs.Quoting.{quoted}
use Rattle.equation_law.specs.declared.coding.Single.{Single}
use Rattle.equation_law.specs.declared.coding.Single.TheVariants as single
use Rattle.equation_law.specs.Codes.{reference_of}
use Rattle.equation_law.specs.Names.{At, Null, Reference}
use Rattle.query_lang.specs.Replies.{node_text, truth_text}

abbrev pub reference_text : Reference → List ℕ
reference_text Null = codes "null"
reference_text (At n) = node_text n

-- the text of a value that is no set, by the texts that the numbers stand for
abbrev pub single_text : (ℕ → List ℕ) → Single → List ℕ
single_text texts (single.Truth b) = truth_text b
single_text texts (single.Int z) = signed_decimal z
single_text texts (single.Text n) = quoted (texts n.0)
single_text texts (single.Node n) = reference_text (reference_of n.0)

-- the text of an element, behind a comma and a space where others stand before it
abbrev pub element_text : Bool → List ℕ → List ℕ
element_text follows text = (if follows then codes ", " else []) ++ text
