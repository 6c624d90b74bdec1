-- What stands in a round, told as a reader tells it.
use Rattle.std.specs.Prelude.{◌≡◌, ℕ, Option, Some, None, length}
use Rattle.inherited_walk.specs.Sites.{IsFound}
use Rattle.attr_rules.specs.declared.kinds.AttrId.{AttrId}
use Rattle.equation_law.specs.declared.coding.Args.{Args}
use Rattle.equation_law.specs.declared.coding.EqSite.{EqSite}
use Rattle.equation_law.specs.declared.coding.Instance.{Instance as CodedInstance}
use Rattle.equation_law.specs.declared.coding.Instance.TheVariants as coded
use Rattle.equation_law.specs.declared.coding.NodeRef.{NodeRef}
use Rattle.attr_rules.specs.declared.kinds.Kind.{Kind}
use Rattle.equation_law.specs.declared.coding.TreeImage.{TreeImage}
use Rattle.equation_law.specs.declared.coding.Value.{Value as CodedValue}
use Rattle.equation_law.specs.Codes.{AreCodes, AreElements, IsCoded, reference_by, value_by, value_coded}
use Rattle.equation_law.specs.Created.{Making, token_kinds, token_type}
use Rattle.equation_law.specs.Equations.{kind_in, site_of, token_place, token_value}
use Rattle.equation_law.specs.Program.{making_of}
use Rattle.equation_law.specs.Names.{At, Attribute, Instance, Made, Reference, Row, list_of, made_by}
use Rattle.equation_law.specs.Reading.{Told}
use Rattle.equation_law.specs.Values.{Tree, Value, as_kind, tokens}
use Rattle.made_trees.specs.Made.{maker_at}
use Rattle.plain_rounds.specs.declared.values.NamedValue.{NamedValue}
use Rattle.plain_rounds.specs.Named.{image_making, tokens_by, value_in}
use Rattle.plain_rounds.specs.Places.{IsHeld}
use Rattle.plain_rounds.specs.declared.setting.Setting.{Setting}
use Rattle.plain_rounds.specs.declared.standing.Standing.{Standing}
use Rattle.plain_rounds.specs.Settings.{AreReady, instance_at, naming_at, program_at, standing_in}

-- the value that stands under an instance
abbrev pub standing_at : Standing → Instance → Option Value
standing_at s i = standing_in s.setting s.values.now i

-- A reader for its program, where the places are those of the list. It has these values and no other, is read by what the makers name, and knows every
-- code. What stands above a node that was made has a smaller code.
abbrev pub told_by : Standing → Told Standing
told_by s = record {
  for = λ p. (p ≡ program_at s.setting) × AreReady s.setting s.values.now;
  has = λ i v. standing_at s i ≡ Some v;
  can = λ i v. standing_at s i ≡ Some v;
  keeps = λ earlier. earlier ≡ s;
  names = λ n. n ≡ naming_at s.setting;
  knows = λ c. Unit {0};
  height = λ c. c;
}

-- the value, read at its type, with its elements coded well, or None where there is none
abbrev pub IsStanding : Standing → Instance → Option CodedValue → Type 0
IsStanding s i None = standing_at s i ≡ None
IsStanding s i (Some v) = ((w : Value) × (standing_at s i ≡ Some w) × (value_by (naming_at s.setting) v ≡ as_kind (kind_in (program_at s.setting) i) w)) × AreElements (program_at s.setting) v

-- the same under the instance that a code stands for
abbrev pub IsStandingAt : Standing → CodedInstance → Option CodedValue → Type 0
IsStandingAt s i value = IsStanding s (instance_at s.setting i) value

-- it is so where equations may be evaluated, and the code is one
abbrev pub IsStandingWhereReady : Standing → CodedInstance → Option CodedValue → Type 0
IsStandingWhereReady s i value = AreReady s.setting s.values.now → IsCoded (program_at s.setting) i → IsStandingAt s i value

-- where there is no code it is that of the default
abbrev pub code_or_zero : Option ℕ → ℕ
code_or_zero None = 0
code_or_zero (Some c) = c

-- the code of a token of a node that was made: it stands for the value of the token in the value of what made the node; without a code it is the default
abbrev pub IsTokenIn : Standing → ℕ → ℕ → Option ℕ → Type 0
IsTokenIn s c k result =
    (a q : ℕ) (o : Reference) (xs : Row) → reference_by (naming_at s.setting).node c ≡ At (Made a o xs q) → (w : Value) → standing_at s (Attribute a o (list_of xs)) ≡ Some w
    → (t : Kind) → token_type (making_of (program_at s.setting) a o) q k ≡ Some t → value_coded (naming_at s.setting) t (code_or_zero result) ≡ as_kind t (token_value (tokens w) (token_place (making_of (program_at s.setting) a o) q k))

-- a tree that an instance makes, with as many tokens as its `new` has, coded well
pub record IsTreeOf (s : Setting) (i : CodedInstance) (t : TreeImage) : Type 0 where
  pub making : Making
  pub is : image_making (program_at s) t ≡ Some making
  pub all : length t.tokens ≡ length (token_kinds making.arguments)
  pub codes : AreCodes (program_at s) (token_kinds making.arguments) t.tokens
  pub tree : ℕ
  pub there : maker_at s.makers.now.makers tree ≡ Some i

-- the value that it is
pub record IsTreeValue (s : Setting) (i : CodedInstance) (t : TreeImage) (v : NamedValue) : Type 0 where
  pub is : value_in (program_at s) (naming_at s) v ≡ Tree (made_by (instance_at s i) 0) (tokens_by (naming_at s) (image_making (program_at s) t) t.tokens)
  pub held : IsHeld (program_at s) (Some v)

-- what is found is the equation of an attribute at a node with arguments
abbrev pub FindsAt : Setting → AttrId → NodeRef → Args → Option EqSite → Type 0
FindsAt s a m xs found = IsFound (program_at s) (naming_at s) a.0 (site_of (program_at s) (instance_at s (coded.Attr a m xs))) found
