-- What is kept of the equations before.
use Rattle.std.specs.Prelude.{◌≡◌, ◌==◌, ◌&&◌, ℕ, Bool, List, [], ◌∷◌, ◌++◌, Option}
use Rattle.std.specs.HashSet.{HashSet, contains_by}
use Rattle.broken_rules.specs.declared.broken.Broken.{Broken}
use Rattle.broken_rules.specs.Notes.{Notes}
use Rattle.attr_rules.specs.declared.dispatch.Reach.{Reach}
use Rattle.attr_rules.specs.declared.dispatch.Target.{Target}
use Rattle.attr_rules.specs.Rules.{Attribute, same_reach}
use Rattle.ast_grammar.specs.Grammar.{Class}
use Rattle.aspect_items.specs.Expressions.{Name}
use Rattle.attr_heads.specs.declared.targets.Key.{Key}
use Rattle.attr_heads.specs.Targets.{is_given, second_broken, target, target_of}
use Rattle.attr_scope.specs.Written.{Given}

-- a key for a class, a reach and an attribute
abbrev pub is_key : ℕ → Reach → ℕ → Key → Bool
is_key c r a k = same_reach k.reach r && ((k.class == c) && (k.attribute == a))

-- the set has a key for what each of the equations is for
pub record Holds {S : Type 0} (g : List Class) (attributes : List Attribute) (before : List Given) (set : HashSet Key S) : Type 0 where
  pub holds : (c : ℕ) (r : Reach) (a : ℕ) → contains_by (is_key c r a) set ≡ is_given g attributes (target c r a) before

-- J6 at the name of an equation for a target, where that is known, was noted, whatever the equations before are
abbrev pub NotesSecond : {S : Type 0} → HashSet Key S → Option Target → Name → Option Broken → Option Broken → Type 0
NotesSecond given target n old new = (g : List Class) (attributes : List Attribute) (before : List Given) → Holds g attributes before given → Notes (second_broken g attributes before n target) old new

-- the set has a key too for what one more equation is for, whatever the equations before are
abbrev pub HoldsMore : {S : Type 0} → HashSet Key S → Option Target → HashSet Key S → Type 0
HoldsMore old target new =
    (g : List Class) (attributes : List Attribute) (before : List Given) (e : Given) → Holds g attributes before old → target ≡ target_of g attributes e → Holds g attributes (before ++ e ∷ []) new
