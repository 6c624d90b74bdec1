-- What is kept of the parameters before one.
use Rattle.std.specs.Prelude.{◌≡◌, ℕ, List, ◌++◌, Option, length}
use Rattle.broken_rules.specs.declared.broken.Broken.{Broken}
use Rattle.broken_rules.specs.Notes.{Notes}
use Rattle.names.specs.Among.{is_among}
use Rattle.names.specs.Known.{Knows}
use Rattle.ast_grammar.specs.Grammar.{Class}
use Rattle.aspect_items.specs.Items.{Parameter}
use Rattle.attr_heads.specs.Parameters.{parameter_broken, parameter_names}

-- what a parameter breaks was noted, whatever so many parameters are before it, whose names are these, with those that the head has before its
-- parenthesis
abbrev pub NotesParameter : List Class → List (List ℕ) → ℕ → Parameter → Option Broken → Option Broken → Type 0
NotesParameter g names count p old new =
    (outer : List (List ℕ)) (before : List Parameter) → Knows names (is_among (outer ++ parameter_names before)) → count ≡ length before → Notes (parameter_broken g outer before p) old new
