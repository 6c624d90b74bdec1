-- Where instances stand in a list, and what values stand there.
use Rattle.std.specs.Prelude.{◌≡◌, ℕ, suc, Bool, cond, List, [], ◌∷◌, MatchOption, Option, Some, None, length, slice_get}
use Rattle.std.specs.Option.{option_map, option_and_then}
use Rattle.std.specs.Borrow.{Bor}
use Rattle.std.specs.HashMap.{HashMap, get_by}
use Rattle.equation_law.specs.declared.coding.Instance.{Instance as CodedInstance}
use Rattle.equation_law.specs.declared.coding.NodeRef.{NodeRef}
use Rattle.equation_law.specs.declared.coding.TreeImage.{TreeImage}
use Rattle.equation_law.specs.declared.coding.Value.{Value as CodedValue}
use Rattle.equation_law.specs.declared.coding.Value.TheVariants as coded_value
use Rattle.equation_law.specs.contracts.coding.InstancePartialEq.TheImpl as equality
use Rattle.plain_rounds.specs.declared.values.NamedValue.{NamedValue}
use Rattle.equation_law.specs.Codes.{AreCodes, AreElements, Naming}
use Rattle.equation_law.specs.Created.{Making, token_kinds}
use Rattle.equation_law.specs.Values.{Value}
use Rattle.equation_law.specs.Program.{Program}
use Rattle.plain_rounds.specs.Named.{image_making, value_in}

-- whether two codes are equal
abbrev pub same_code : CodedInstance → CodedInstance → Bool
same_code q r = equality.ghosts.eq q r

-- the first place of a code in a list
abbrev pub first_place : List CodedInstance → CodedInstance → Option ℕ
first_place [] q = None
first_place (n ∷ names) q = cond (same_code n q) (Some 0) (option_map suc (first_place names q))

-- the place that is kept of a code
abbrev pub kept_place : {S : Type 0} → HashMap CodedInstance ℕ S → CodedInstance → Option ℕ
kept_place m q = get_by (same_code q) m

-- the value at a place
abbrev pub value_on : Program → Naming → List (Option NamedValue) → ℕ → Option Value
value_on p n values k = option_and_then (option_map (value_in p n)) (slice_get values k)

-- the value at the place that is kept of a code
abbrev pub found : {S : Type 0} → Program → Naming → HashMap CodedInstance ℕ S → List (Option NamedValue) → CodedInstance → Option Value
found p n m values q = option_and_then (value_on p n values) (kept_place m q)

-- a value that is read is this one, whatever codes stand for, and where none is read there is none
abbrev pub IsRead : Option (Bor NamedValue) → (Program → Naming → Option Value) → Type 0
IsRead read wanted = (p : Program) (n : Naming) → MatchOption read (wanted p n ≡ None) (λ v. wanted p n ≡ Some (value_in p n v.now))

-- a tree that stands beside a value: of a `new` of the program, with as many tokens as that has, coded well, and the value is the node at its root
pub record IsImage (p : Program) (v : CodedValue) (t : TreeImage) : Type 0 where
  pub making : Making
  pub is : image_making p t ≡ Some making
  pub all : length t.tokens ≡ length (token_kinds making.arguments)
  pub codes : AreCodes p (token_kinds making.arguments) t.tokens
  pub root : NodeRef
  pub node : v ≡ coded_value.Node root

abbrev pub IsImaged : Program → CodedValue → Option TreeImage → Type 0
IsImaged p v None = Unit {0}
IsImaged p v (Some t) = IsImage p v t

-- what stands somewhere is nothing, or a value, and the elements of a set are coded well
abbrev pub IsHeld : Program → Option NamedValue → Type 0
IsHeld p None = Unit {0}
IsHeld p (Some v) = AreElements p v.value × IsImaged p v.value v.image
