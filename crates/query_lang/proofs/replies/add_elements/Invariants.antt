-- What was written, and what is left, are the texts of all.
use Rattle.std.proofs.Common.{◌≡◌, ◌++◌, drop, map}
use Rattle.equation_law.specs.Program.{text_of as text_in}
use Rattle.equation_law.specs.Systems.{program_of}
use Rattle.query_lang.specs.Replies.{joined}
use Rattle.query_lang.specs.Singles.{single_text}
use Rattle.query_lang.proofs.Joining.{left_text}
use Rattle.query_lang.proofs.replies.add_elements.Given as goal

abbrev pub invariant-elements : goal.invariant-elements
invariant-elements l =
    let of = single_text (text_in (program_of l.system)) in
    l.text.items ++ left_text l.i (map of (drop l.i l.list)) ≡ l.initial.text.items ++ joined (map of l.list)
