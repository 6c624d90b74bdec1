-- What is kept of the inherited attributes that are declared: for each name the first declaration.
use Rattle.std.specs.Prelude.{◌≡◌, ℕ, List, [], ◌∷◌, ◌++◌, Option, Some, None, cond}
use Rattle.std.specs.Borrow.{Bor}
use Rattle.std.specs.HashMap.{HashMap, get_by}
use Rattle.std.specs.Option.{option_map, option_or}
use Rattle.std.specs.Str.{bytes_eq}
use Rattle.broken_rules.specs.declared.broken.Broken.{Broken}
use Rattle.broken_rules.specs.Notes.{Notes}
use Rattle.ast_grammar.specs.Grammar.{Class}
use Rattle.attr_scope.specs.declared.written.Head as kept_head
use Rattle.attr_heads.specs.Heads.{first_inherited, other_broken}
use Rattle.attr_scope.specs.Seen.{seen_head}
use Rattle.attr_scope.specs.Written.{Head}

-- what is kept for a name
abbrev pub head_kept : {S : Type 0} → HashMap (Bor (List ℕ)) kept_head.Head S → List ℕ → Option kept_head.Head
head_kept heads name = get_by (λ (k : Bor (List ℕ)). bytes_eq name k.now) heads

-- what is kept tells the first inherited attribute of each name
pub record TellsFirst {S : Type 0} (list : List Head) (heads : HashMap (Bor (List ℕ)) kept_head.Head S) : Type 0 where
  pub tells : (name : List ℕ) → option_map seen_head (head_kept heads name) ≡ first_inherited list name

-- the declaration is kept for the name, where none was
abbrev pub KeepsFirst : {S : Type 0} → HashMap (Bor (List ℕ)) kept_head.Head S → List ℕ → kept_head.Head → HashMap (Bor (List ℕ)) kept_head.Head S → Type 0
KeepsFirst old name head new = (q : List ℕ) → head_kept new q ≡ option_or (head_kept old q) (cond (bytes_eq q name) (Some head) None)

-- J15 of a declaration was noted, whatever was declared before
abbrev pub NotesOther : {S : Type 0} → List Class → HashMap (Bor (List ℕ)) kept_head.Head S → Head → Option Broken → Option Broken → Type 0
NotesOther g kept h old new = (before : List Head) → TellsFirst before kept → Notes (other_broken g before h) old new

-- what is kept tells of this declaration too, whatever was declared before
abbrev pub TellsFirstMore : {S : Type 0} → HashMap (Bor (List ℕ)) kept_head.Head S → Head → HashMap (Bor (List ℕ)) kept_head.Head S → Type 0
TellsFirstMore old h new = (before : List Head) → TellsFirst before old → TellsFirst (before ++ h ∷ []) new
