-- The classes of nodes, by their codes.
use Rattle.std.proofs.Common.{◌≡◌, ℕ, zero, suc, ◌<◌, ◌≤◌, Option, Some, None, List, length, refl, sym, ap, subst, ◌∙◌, arith}
use Rattle.std.specs.Option.{option_map}
use Rattle.std.proofs.lemmas.Option.{slice_get_past}
use Rattle.ast_grammar.specs.declared.grammar.ClassId.{ClassId}
use Rattle.ast_grammar.specs.Grammar.{Class}
use Rattle.tree_arena.specs.Nodes.{Node, most_nodes}
use Rattle.equation_law.specs.Checked.{TreesFit}
use Rattle.equation_law.specs.Codes.{IsNamingOf, Naming, reference_by, reference_of}
use Rattle.equation_law.specs.Names.{At, Made, NodeName, Reference, Row, Source}
use Rattle.equation_law.specs.Program.{Program, class_at, class_of}
use Rattle.equation_law.specs.Reading.{IsClassOf, class_behind}
use Rattle.equation_law.proofs.Codes.{IsPast, past_tree}

-- a source node past the tree has no class
pub past_class : (p : Program) (k : ℕ) → length p.tree ≤ k → class_of p k ≡ None
past_class p k past = ap (option_map (λ (x : Node). x.class)) (slice_get_past p.tree k past)

-- where a number is that of no class of the grammar, there is no class
pub no_class_told : (g : List Class) (o : Option ClassId) (d : ClassId) → IsClassOf g o d → length g ≤ d.0 → ((c : ClassId) → o ≡ Some c → c.0 < length g) → None ≡ o
no_class_told g None d past out within = refl
no_class_told g (Some c) d same out within = absurd (let low = within c refl in let one : d.0 ≡ c.0 = ap (λ (x : ClassId). x.0) same in omega (arith, low, one, out))

-- a node that was made, and has a class
pub record IsMadeNode (p : Program) (r : Reference) : Type 0 where
  pub maker : ℕ
  pub owner : Reference
  pub arguments : Row
  pub place : ℕ
  pub is : r ≡ At (Made maker owner arguments place)
  pub class : ClassId
  pub of : class_at p (Made maker owner arguments place) ≡ Some class

-- what a code up to those of all source nodes stands for
pub source_is : {p : Program} {n : Naming} → IsNamingOf p n → (k c : ℕ) → c ≤ most_nodes → At (Source k) ≡ reference_of c → reference_by n.node c ≡ At (Source k)
source_is h k zero low e = cc
source_is {n = n} h k (suc c) low e = let same : c ≡ k = cc in ap At (h.sources c (omega (arith, low))) ∙ ap (λ j. At (Source j)) same

module _ (p : Program) (few : length p.tree ≤ most_nodes) {n : Naming} (h : IsNamingOf p n) where
  -- what has a class and a code past those of all source nodes was made
  made_node : (k : ℕ) (x : NodeName) → most_nodes ≤ k → n.node k ≡ x → (c : ClassId) → class_at p x ≡ Some c → IsMadeNode p (At x)
  made_node k (Source j) far e c of =
      let past : length p.tree ≤ j = subst (IsPast p) e (past_tree h few k (omega (arith, few, far))) in
      absurd (let none = past_class p j past in cc)
  made_node k (Made b r ys q) far e c of = record { maker = b; owner = r; arguments = ys; place = q; is = refl; class = c; of = of }

  pub made_behind : (c : ℕ) → most_nodes < c → (d : ClassId) → class_behind p (reference_by n.node c) ≡ Some d → IsMadeNode p (reference_by n.node c)
  made_behind zero far d of = absurd (omega (arith, far))
  made_behind (suc k) far d of = made_node k (n.node k) (omega (arith, far)) refl d of

  -- so it is of a class of the grammar
  pub behind_within : TreesFit p → (c : ℕ) → most_nodes < c → (d : ClassId) → class_behind p (reference_by n.node c) ≡ Some d → d.0 < length p.grammar
  behind_within fit c far d of =
      let m = made_behind c far d of in
      fit.classes m.maker m.place m.owner d (sym (ap (class_behind p) m.is) ∙ of)
