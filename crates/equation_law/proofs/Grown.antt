-- What a reader tells while it goes on.
use Rattle.std.proofs.Common.{ℕ, List, [], ◌∷◌, arith}
use Rattle.attr_rules.specs.declared.kinds.Kind.{Kind}
use Rattle.attr_rules.specs.declared.kinds.Kind.TheVariants as kinds
use Rattle.equation_law.specs.declared.coding.Instance.{Instance as CodedInstance}
use Rattle.equation_law.specs.declared.coding.Instance.TheVariants as coded_instance
use Rattle.equation_law.specs.declared.coding.Value.{Value as CodedValue}
use Rattle.equation_law.specs.declared.coding.Value.TheVariants as coded
use Rattle.equation_law.specs.Codes.{codes_in}
use Rattle.equation_law.specs.Program.{Program, attribute_parameters}
use Rattle.equation_law.specs.Reading.{AreKnownCodes, Grows, IsKnownCode, IsSound, KnowsInstance, KnowsValue, Told}

-- what it has it keeps
pub grows_itself : {S : Type 0} {p : Program} {r : Told S} → IsSound p r → Grows p r r
grows_itself h = record { sound = h; values = λ i v a. a; bound = λ i v a. a; kept = λ x a. a; names = λ n a. a; known = λ c k. k; heights = λ c. omega arith }

pub grows_on : {S : Type 0} {p : Program} {r m s : Told S} → Grows p r m → Grows p m s → Grows p r s
grows_on g h = record {
  sound = h.sound;
  values = λ i v a. h.values i v (g.values i v a);
  bound = λ i v a. g.bound i v (h.bound i v a);
  kept = λ x a. h.kept x (g.kept x a);
  names = λ n a. g.names n (h.names n a);
  known = λ c k. h.known c (g.known c k);
  heights = λ c. omega (arith, g.heights c, h.heights c);
}

-- what a reader knows it knows later
module _ {S : Type 0} {p : Program} {r s : Told S} (g : Grows p r s) where
  pub code_known : (k : Kind) (c : ℕ) → IsKnownCode r k c → IsKnownCode s k c
  code_known kinds.Truth c h = tt
  code_known kinds.Int c h = tt
  code_known kinds.Text c h = tt
  code_known (kinds.Node d) c h = g.known c h
  code_known kinds.Texts c h = tt
  code_known (kinds.Nodes d) c h = tt

  pub codes_known : (ks : List Kind) (cs : List ℕ) → AreKnownCodes r ks cs → AreKnownCodes s ks cs
  codes_known [] cs h = tt
  codes_known (k ∷ ks) [] h = tt
  codes_known (k ∷ ks) (c ∷ cs) h = (code_known k c h.0, codes_known ks cs h.1)

  pub instance_known : (i : CodedInstance) → KnowsInstance p r i → KnowsInstance p s i
  instance_known (coded_instance.Attr a n xs) h = (g.known n.0 h.0, codes_known (attribute_parameters p a.0) (codes_in xs) h.1)
  instance_known (coded_instance.Query q) h = tt

  pub value_known : (v : CodedValue) → KnowsValue r v → KnowsValue s v
  value_known (coded.Truth b) h = tt
  value_known (coded.Int z) h = tt
  value_known (coded.Text n) h = tt
  value_known (coded.Node n) h = g.known n.0 h
  value_known (coded.Texts cs) h = tt
  value_known (coded.Nodes cs) h = λ k d low. g.known _ (h k d low)

-- what a reader knows that knows every code
module _ {S : Type 0} (r : Told S) (knows : (c : ℕ) → r.knows c) where
  pub each_code : (k : Kind) (c : ℕ) → IsKnownCode r k c
  each_code kinds.Truth c = tt
  each_code kinds.Int c = tt
  each_code kinds.Text c = tt
  each_code (kinds.Node d) c = knows c
  each_code kinds.Texts c = tt
  each_code (kinds.Nodes d) c = tt

  pub each_codes : (ks : List Kind) (cs : List ℕ) → AreKnownCodes r ks cs
  each_codes [] cs = tt
  each_codes (k ∷ ks) [] = tt
  each_codes (k ∷ ks) (c ∷ cs) = (each_code k c, each_codes ks cs)

  pub each_instance : (p : Program) (i : CodedInstance) → KnowsInstance p r i
  each_instance p (coded_instance.Attr a n xs) = (knows n.0, each_codes (attribute_parameters p a.0) (codes_in xs))
  each_instance p (coded_instance.Query q) = tt

  pub each_value : (v : CodedValue) → KnowsValue r v
  each_value (coded.Truth b) = tt
  each_value (coded.Int z) = tt
  each_value (coded.Text n) = tt
  each_value (coded.Node n) = knows n.0
  each_value (coded.Texts cs) = tt
  each_value (coded.Nodes cs) = λ k d low. knows _
