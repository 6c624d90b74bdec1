-- A reader by what made trees tells of nodes what the makers do. It knows every code.
use Rattle.std.proofs.Common.{◌≡◌, ℕ, ◌<◌, Option, Some, None, IsSome, MatchOption, slice_get, sym, subst, arith}
use Rattle.std.specs.declared.cmp.Ordering.{Ordering}
use Rattle.attr_rules.specs.declared.kinds.Kind.{Kind}
use Rattle.ast_grammar.specs.declared.grammar.ClassId.{ClassId}
use Rattle.tree_arena.specs.Nodes.{most_nodes}
use Rattle.equation_law.specs.declared.coding.NodeRef.{NodeRef}
use Rattle.equation_law.specs.declared.coding.Up.{Up}
use Rattle.equation_law.specs.Codes.{IsCode, Naming, reference_by, value_coded}
use Rattle.equation_law.specs.Equations.{world_of}
use Rattle.equation_law.specs.Meaning.{child_at}
use Rattle.equation_law.specs.Names.{Argument, At, Made, Reference, Row, list_of}
use Rattle.equation_law.specs.Program.{Program, attribute_parameters}
use Rattle.equation_law.specs.Reading.{ArgumentBy, ByEachIn, ChildBy, ClassBy, IsClassOf, IsHigher, IsSound, OrderBy, Told, UpBy, class_behind, code_above, higher_than, reference_cmp}
use Rattle.equation_law.specs.Values.{as_argument}
use Rattle.equation_law.proofs.Bare.{few_classes}
use Rattle.equation_law.proofs.Grown.{each_code, grows_itself}
use Rattle.made_trees.specs.Makers.{IsAbove, IsArgumentAt, Trees, naming_of, program_for, stands_for}

module _ {S : Type 0} (r : Told S) (T : Trees) (for : (p : Program) → IsSound p r → p ≡ program_for T) (by : (n : Naming) → r.names n → n ≡ naming_of T) (knows : (c : ℕ) → r.knows c) where
  -- what holds of the program and the naming of the makers holds of all that it is for
  pub by_makers : (P : Program → Naming → Type 0) → P (program_for T) (naming_of T) → (p : Program) → IsSound p r → ByEachIn r (λ n. P p n)
  by_makers P h p sound n is = subst (λ (q : Program). P q n) (sym (for p sound)) (subst (P (program_for T)) (sym (by n is)) h)

  class_is : (found : Option ClassId) (c : ClassId) → MatchOption found (c.0 ≡ 65535) (λ d. c ≡ d) → IsClassOf (program_for T).grammar found c
  class_is None c is = let few = few_classes T.system in omega (arith, is, few)
  class_is (Some d) c is = is

  pub told_class : (node : NodeRef) (found : Option ClassId) (c : ClassId) → (most_nodes < node.0 → class_behind (program_for T) (stands_for T node.0) ≡ found) → MatchOption found (c.0 ≡ 65535) (λ d. c ≡ d) → ClassBy r r node c
  told_class node found c told is = record {
    kept = λ p sound. grows_itself sound;
    answer = λ p sound past known.
        by_makers (λ p n. IsClassOf p.grammar (class_behind p (reference_by n.node node.0)) c)
        (subst (λ (o : Option ClassId). IsClassOf (program_for T).grammar o c) (sym (told past)) (class_is found c is)) p sound;
  }

  pub told_child : (node : NodeRef) (k : ℕ) (child : NodeRef) → (most_nodes < node.0 → stands_for T child.0 ≡ child_at (world_of (program_for T)) k (stands_for T node.0)) → ChildBy r r node k child
  told_child node k child told = record {
    kept = λ p sound. grows_itself sound;
    answer = λ p sound past known. by_makers (λ p n. reference_by n.node child.0 ≡ child_at (world_of p) k (reference_by n.node node.0)) (told past) p sound;
    known = λ p sound past known. knows child.0;
  }

  pub told_up : r.height ≡ (λ c. c) → (node : NodeRef) (up : Up) → (most_nodes < node.0 → IsAbove T node.0 up) → (most_nodes < node.0 → code_above up < node.0) → UpBy r r node up
  told_up high node up told falls = record {
    kept = λ p sound. grows_itself sound;
    answer = λ p sound past known. by_makers (λ p n. IsSome (class_behind p (reference_by n.node node.0)) → IsHigher n up (higher_than p (reference_by n.node node.0))) (told past) p sound;
    known = λ p sound past known. knows (code_above up);
    falls = λ p sound past. subst (λ (height : ℕ → ℕ). height (code_above up) < height node.0) (sym high) (falls past);
  }

  -- the code of an argument, by a naming of a program
  abbrev IsArgumentIn : ℕ → ℕ → ℕ → Program → Naming → Type 0
  IsArgumentIn c k code p n =
      (a q : ℕ) (o : Reference) (xs : Row) → reference_by n.node c ≡ At (Made a o xs q) → (t : Kind) (x : Argument) → slice_get (attribute_parameters p a) k ≡ Some t → slice_get (list_of xs) k ≡ Some x
      → IsCode p t code × (as_argument t (value_coded n t code) ≡ x)

  pub told_argument : (node : NodeRef) (k code : ℕ) → IsArgumentAt T node.0 k code → ArgumentBy r r node k code
  told_argument node k code told = record {
    kept = λ p sound. grows_itself sound;
    answer = λ p sound known n is a q o xs stands there t x type has.
        let it = by_makers (IsArgumentIn node.0 k code) told p sound n is a q o xs stands t x type has in
        (it.0, it.1, each_code r knows t code);
  }

  pub told_order : (a b : NodeRef) (order : Ordering) → order ≡ reference_cmp (stands_for T a.0) (stands_for T b.0) → OrderBy r r a b order
  told_order a b order told = record {
    kept = λ p sound. grows_itself sound;
    answer = λ p sound one other. by_makers (λ p n. order ≡ reference_cmp (reference_by n.node a.0) (reference_by n.node b.0)) told p sound;
  }
