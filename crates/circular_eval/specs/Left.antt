-- How much is left until no value of a local set can rise any more.
use Rattle.std.specs.Prelude.{ℕ, zero, suc, ◌+◌, ◌-◌, ◌*◌, ◌^◌, cond, List, [], ◌∷◌, length}
use Rattle.code_sets.specs.Members.{has_code}
use Rattle.equation_law.specs.declared.coding.Value.{Value as CodedValue}
use Rattle.equation_law.specs.declared.coding.Value.TheVariants as coded
use Rattle.circular_eval.specs.Local.{Members}

-- codes lie below, and so does the number of members
unfoldable pub code_bound : ℕ
code_bound = 2 ^ 32

unfoldable pub member_bound : ℕ
member_bound = 2 ^ 63

-- how many codes below n aren't among these
abbrev pub missing : ℕ → List ℕ → ℕ
missing zero cs = 0
missing (suc n) cs = cond (has_code cs n) 0 1 + missing n cs

-- how often a value can rise
abbrev pub room : CodedValue → ℕ
room (coded.Truth b) = cond b 0 1
room (coded.Int z) = 0
room (coded.Text n) = 0
room (coded.Node n) = 0
room (coded.Texts cs) = missing code_bound cs
room (coded.Nodes cs) = missing code_bound cs

abbrev pub rooms : Members → ℕ
rooms [] = 0
rooms (e ∷ es) = room e.1.value + rooms es

-- those that are no members yet may bring that much with each
abbrev pub left : Members → ℕ
left es = (member_bound - length es) * (suc code_bound) + rooms es
