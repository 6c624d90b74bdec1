-- Values that are no sets: of those nothing is asked of how they are coded.
use Rattle.std.proofs.Common.{◌≡◌, ℕ, zero, suc, Bool, true, false, List, [], ◌∷◌, map, refl, ap, ◌∙◌}
use Rattle.attr_rules.specs.declared.expression.Operator.{Operator}
use Rattle.attr_rules.specs.declared.expression.Operator.TheVariants.{Add, Subtract, Multiply, Less, AtMost, Greater, AtLeast, Equal}
use Rattle.equation_law.specs.declared.coding.Single.{Single as CodedSingle}
use Rattle.equation_law.specs.declared.coding.Single.TheVariants as singles
use Rattle.equation_law.specs.declared.coding.Value.{Value as CodedValue}
use Rattle.equation_law.specs.declared.coding.Value.TheVariants as coded
use Rattle.equation_law.specs.declared.system.System.{System}
use Rattle.equation_law.specs.Codes.{AreElements, Naming, single_by, value_by}
use Rattle.equation_law.specs.Meaning.{named, operate}
use Rattle.equation_law.specs.Program.{Program}
use Rattle.equation_law.specs.Values.{Int, Node, Nodes, Text, Texts, Tree, Truth, Value}
use Rattle.expr_eval.specs.declared.accessors.Origin.{Origin}
use Rattle.expr_eval.specs.declared.accessors.Origin.TheVariants as origins
use Rattle.expr_eval.specs.Elements.{element_from}

abbrev pub is_plain : Value → Bool
is_plain (Truth b) = true
is_plain (Int z) = true
is_plain (Text t) = true
is_plain (Node n) = true
is_plain (Texts s) = false
is_plain (Nodes s) = false
is_plain (Tree r ts) = false

pub plain_coded : (p : Program) (n : Naming) (v : CodedValue) (w : Value) → value_by n v ≡ w → is_plain w ≡ true → AreElements p v
plain_coded p n (coded.Truth b) w e h = tt
plain_coded p n (coded.Int z) w e h = tt
plain_coded p n (coded.Text k) w e h = tt
plain_coded p n (coded.Node k) w e h = tt
plain_coded p n (coded.Texts cs) w e h = absurd (let none : false ≡ true = ap is_plain e ∙ h in cc)
plain_coded p n (coded.Nodes cs) w e h = absurd (let none : false ≡ true = ap is_plain e ∙ h in cc)

pub operate_plain : (o : Operator) (v w : Value) → is_plain (operate o v w) ≡ true
operate_plain Add v w = refl
operate_plain Subtract v w = refl
operate_plain Multiply v w = refl
operate_plain Less v w = refl
operate_plain AtMost v w = refl
operate_plain Greater v w = refl
operate_plain AtLeast v w = refl
operate_plain Equal v w = refl

pub single_plain : (n : Naming) (s : CodedSingle) → is_plain (single_by n s) ≡ true
single_plain n (singles.Truth b) = refl
single_plain n (singles.Int z) = refl
single_plain n (singles.Text k) = refl
single_plain n (singles.Node k) = refl

pub named_plain : (n : Naming) (names : List CodedSingle) (k : ℕ) → is_plain (named (map (single_by n) names) k) ≡ true
named_plain n [] k = refl
named_plain n (s ∷ names) zero = single_plain n s
named_plain n (s ∷ names) (suc k) = named_plain n names k

pub element_plain : (n : Naming) (s : System) (o : Origin) (i : ℕ) → is_plain (element_from n s o i) ≡ true
element_plain n s (origins.List m k) i = refl
element_plain n s (origins.Set xs) i = named_plain n xs i
