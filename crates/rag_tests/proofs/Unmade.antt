-- Readers that are read by the names of source nodes: nothing was made for them, whatever the program makes.
use Rattle.std.proofs.Common.{◌≡◌, ◌≤◌, ◌<◌, ℕ, zero, suc, Option, None, IsSome, length, refl, sym, subst, ap, ◌∙◌, arith}
use Rattle.std.specs.Option.{option_map}
use Rattle.std.specs.Ordering.{nat_cmp}
use Rattle.std.specs.declared.cmp.Ordering.{Ordering}
use Rattle.std.proofs.lemmas.Option.{slice_get_past}
use Rattle.ast_grammar.specs.declared.grammar.ClassId.{ClassId}
use Rattle.ast_grammar.specs.Grammar.{most_classes}
use Rattle.tree_arena.specs.Nodes.{Node as TreeNode, hanging, most_nodes}
use Rattle.equation_law.specs.declared.coding.NodeRef.{NodeRef}
use Rattle.equation_law.specs.declared.coding.Up.{Up}
use Rattle.equation_law.specs.declared.system.System.{System}
use Rattle.equation_law.specs.Checked.{HasSourcesAlone, IsProgram}
use Rattle.equation_law.specs.Codes.{NamesInOrder, Naming, reference_by, source_names}
use Rattle.equation_law.specs.Equations.{source_or_null, world_of}
use Rattle.equation_law.specs.Meaning.{child_at}
use Rattle.equation_law.specs.Names.{At, Made, Null, Reference, Row}
use Rattle.equation_law.specs.Program.{HangsInside, Program, text_of}
use Rattle.equation_law.specs.Reading.{ArgumentBy, ChildBy, ClassBy, IsClassOf, IsSound, OrderBy, TokenBy, Told, UpBy, class_behind, code_above}
use Rattle.equation_law.specs.Systems.{program_of}
use Rattle.equation_law.proofs.Bare.{few_classes, hangs_inside, order_of}
use Rattle.equation_law.proofs.Bare as bare
use Rattle.equation_law.proofs.Fitting as fitting
use Rattle.equation_law.proofs.Grown.{grows_itself}
use Rattle.equation_law.proofs.Sources.{source_naming}
use Rattle.rag_tests.specs.Nothing.{IsReadable, nothing}

-- the names of source nodes are a naming for the program, whose codes are in their order
pub named_in : (p q : Program) → q ≡ p → (n : Naming) → n ≡ source_names (text_of p) → NamesInOrder q n
named_in p q same n is = subst (λ (r : Program). NamesInOrder r n) (sym same) (subst (λ (m : Naming). NamesInOrder p m) (sym is) (source_naming p))

-- a program that was checked may be read, and so may one that makes nothing
pub readable : (p : Program) → IsProgram p → IsReadable p
readable p good = record { fit = fitting.trees_fit p good; few = good.tree.few }

pub readable_alone : (p : Program) → HasSourcesAlone p → IsReadable p
readable_alone p alone = record { fit = bare.trees_fit p alone; few = alone.few }

-- a reader that has nothing is sound
pub nothing_sound : {S : Type 0} (p : Program) → IsReadable p → IsSound {S = S} p (nothing p)
nothing_sound p may = record {
  for = (refl, may);
  within = λ i v h. h;
  one_value = λ i v w a b. absurd a;
  named = λ n is. (named_in p p refl n is).0;
  some = (source_names (text_of p), refl);
  sources = λ c low. tt;
  fit = may.fit;
  trees = λ a o xs v can m is. absurd can;
}

-- nothing stands past the source nodes, and nothing hangs there
module _ (p : Program) (few : length p.tree ≤ most_nodes) where
  none_stands : (c : ℕ) → most_nodes < c → class_behind p (reference_by (source_names (text_of p)).node c) ≡ None
  none_stands zero past = absurd (omega (arith, past))
  none_stands (suc k) past = ap (option_map (λ (x : TreeNode). x.class)) (slice_get_past p.tree k (omega (arith, few, past)))

  none_hangs : HangsInside p.tree → (k c : ℕ) → most_nodes < c → child_at (world_of p) k (reference_by (source_names (text_of p)).node c) ≡ Null
  none_hangs inside k zero past = absurd (omega (arith, past))
  none_hangs inside k (suc m) past = ap source_or_null (slice_get_past (hanging p.tree m k) 0 (let none = inside m k (omega (arith, few, past)) in omega (arith, none)))

-- no code stands for a node that was made
never_made : {A : Type 0} (p : Program) (a c q : ℕ) (o : Reference) (xs : Row) → reference_by (source_names (text_of p)).node c ≡ At (Made a o xs q) → A
never_made p a zero q o xs is = cc
never_made p a (suc k) q o xs is = cc

-- what such a reader answers, which does nothing meanwhile
module _ {S : Type 0} (r : Told S) (of : System) (for : (q : Program) → IsSound q r → (q ≡ program_of of) × IsReadable q) (by_sources : (n : Naming) → r.names n → n ≡ source_names (text_of (program_of of))) where
  by : (q : Program) → IsSound q r → (n : Naming) → r.names n → n ≡ source_names (text_of q)
  by q sound n is = by_sources n is ∙ ap (λ (x : Program). source_names (text_of x)) (sym (for q sound).0)

  pub class_unmade : (node : NodeRef) (c : ClassId) → c.0 ≡ 65535 → ClassBy r r node c
  class_unmade node c is = record {
    kept = λ q sound. grows_itself sound;
    answer = λ q sound past known n names.
        let few : length q.grammar ≤ most_classes = subst (λ (x : Program). length x.grammar ≤ most_classes) (sym (for q sound).0) (few_classes of) in
        let none = ap (λ (m : Naming). class_behind q (reference_by m.node node.0)) (by q sound n names) ∙ none_stands q (for q sound).1.few node.0 past in
        subst (λ (o : Option ClassId). IsClassOf q.grammar o c) (sym none) (omega (arith, is, few));
  }

  pub child_unmade : (node : NodeRef) (k : ℕ) (result : NodeRef) → result.0 ≡ 0 → ChildBy r r node k result
  child_unmade node k result is = record {
    kept = λ q sound. grows_itself sound;
    answer = λ q sound past known n names.
        let inside : HangsInside q.tree = subst (λ (x : Program). HangsInside x.tree) (sym (for q sound).0) (hangs_inside of) in
        let none = ap (λ (m : Naming). child_at (world_of q) k (reference_by m.node node.0)) (by q sound n names) ∙ none_hangs q (for q sound).1.few inside k node.0 past in
        ap (reference_by n.node) is ∙ sym none;
    known = λ q sound past known. sound.sources result.0 (omega (arith, is));
  }

  pub token_unmade : (node : NodeRef) (k result : ℕ) → TokenBy r r node k result
  token_unmade node k result = record {
    kept = λ q sound. grows_itself sound;
    answer = λ q sound known n names a at o xs is. never_made q a node.0 at o xs (subst (λ (m : Naming). reference_by m.node node.0 ≡ At (Made a o xs at)) (by q sound n names) is);
  }

  pub up_unmade : ((c : ℕ) → most_nodes < c → r.height 0 < r.height c) → (node : NodeRef) (result : Up) → code_above result ≡ 0 → UpBy r r node result
  up_unmade high node result is = record {
    kept = λ q sound. grows_itself sound;
    answer = λ q sound past known n names some.
        let none = ap (λ (m : Naming). class_behind q (reference_by m.node node.0)) (by q sound n names) ∙ none_stands q (for q sound).1.few node.0 past in
        absurd (let never : IsSome {T = ClassId} None = subst (λ (o : Option ClassId). IsSome o) none some in cc);
    known = λ q sound past known. sound.sources (code_above result) (omega (arith, is));
    falls = λ q sound past. subst (λ (c : ℕ). r.height c < r.height node.0) (sym is) (high node.0 past);
  }

  pub argument_unmade : (node : NodeRef) (k result : ℕ) → ArgumentBy r r node k result
  argument_unmade node k result = record {
    kept = λ q sound. grows_itself sound;
    answer = λ q sound known n names a at o xs is. never_made q a node.0 at o xs (subst (λ (m : Naming). reference_by m.node node.0 ≡ At (Made a o xs at)) (by q sound n names) is);
  }

  pub order_unmade : (a b : NodeRef) (result : Ordering) → result ≡ nat_cmp a.0 b.0 → OrderBy r r a b result
  order_unmade a b result is = record {
    kept = λ q sound. grows_itself sound;
    answer = λ q sound one other n names. is ∙ order_of n (named_in q q refl n (by q sound n names)).1 a.0 b.0;
  }
