-- In a program whose nodes are those of its tree alone nothing stands at the codes past those of source nodes. So a reader answers the same at each
-- of them.
use Rattle.std.proofs.Common.{◌≡◌, ℕ, zero, suc, ◌<◌, ◌≤◌, [], Option, Some, None, IsSome, length, refl, sym, ap, ◌∙◌, subst, arith}
use Rattle.std.specs.Cmp.{nat_cmp_is, ranks}
use Rattle.std.specs.Option.{option_and_then, option_map}
use Rattle.std.specs.Ordering.{MatchOrdering, nat_cmp, ordering_reverse}
use Rattle.std.specs.declared.cmp.Ordering.{Ordering}
use Rattle.std.specs.declared.cmp.Ordering.TheVariants.{Less, Equal, Greater}
use Rattle.std.proofs.lemmas.Cmp.{tied_itself}
use Rattle.std.proofs.lemmas.Option.{slice_get_past}
use Rattle.ast_grammar.specs.declared.grammar.ClassId.{ClassId}
use Rattle.ast_grammar.specs.Grammar.{most_classes}
use Rattle.attr_rules.specs.Expression.{Expression}
use Rattle.attr_rules.specs.Rules.{body_at}
use Rattle.tree_arena.specs.Nodes.{Node as TreeNode, child_in, class_in, hanging, most_nodes}
use Rattle.equation_law.specs.declared.coding.NodeRef.{NodeRef}
use Rattle.equation_law.specs.declared.coding.Up.{Up}
use Rattle.equation_law.specs.declared.system.System.{System}
use Rattle.equation_law.specs.Checked.{HasSourcesAlone, TreesFit, token_wanted}
use Rattle.equation_law.specs.Codes.{IsInOrder, IsNamingOf, Naming, reference_by}
use Rattle.equation_law.specs.Created.{Making, making_in, token_type, tree_or_none}
use Rattle.equation_law.specs.Equations.{made_or_null, source_or_null, world_of}
use Rattle.equation_law.specs.Meaning.{child_at}
use Rattle.equation_law.specs.Names.{At, Made, NodeName, Null, Source, node_cmp}
use Rattle.equation_law.specs.Program.{HangsInside, Program, class_at, tree_made}
use Rattle.equation_law.specs.Reading.{ArgumentBy, ByEachIn, ChildBy, ClassBy, IsClassOf, IsSound, OrderBy, TokenBy, Told, UpBy, class_behind, code_above, reference_cmp}
use Rattle.equation_law.specs.Systems.{program_of}
use Rattle.equation_law.proofs.Codes.{IsPast, past_tree}
use Rattle.equation_law.proofs.Grown.{grows_itself}
use Rattle.equation_law.proofs.Orders.{node_total}
use Rattle.equation_law.proofs.Tied.{never_makes}

-- the grammar and the tree of a program that is kept
pub few_classes : (s : System) → length (program_of s).grammar ≤ most_classes
unfolding program_of
few_classes s = s.small

pub hangs_inside : (s : System) → HangsInside (program_of s).tree
unfolding program_of
hangs_inside s = s.whole

module _ (p : Program) (bare : HasSourcesAlone p) where
  -- no node was made
  no_class : (a : ℕ) (r : _) (q : ℕ) → class_in (tree_made p a r) q ≡ None
  no_class a r q = ap (λ (o : Option Making). class_in (tree_or_none o) q) (never_makes p bare a r) ∙ ap (option_map (λ (x : TreeNode). x.class)) (slice_get_past {X = TreeNode} [] q (omega arith))

  -- so what is made fits the grammar
  pub trees_fit : TreesFit p
  trees_fit = record {
    classes = λ a q r c is. absurd (let none = no_class a r q in cc);
    types = λ a q k r. ap (λ (o : Option Making). token_type o q k) (never_makes p bare a r) ∙ sym (ap (λ o. token_wanted p.grammar o k) (no_class a r q));
    plain = λ a r m is. absurd (let none = never_makes p bare a r in cc);
    queries = bare.asked;
  }

  -- no right side is a `new`
  pub no_right_side : (k : ℕ) (m : Making) → option_and_then making_in (body_at p.rules k) ≡ Some m → ⊥
  no_right_side k m is = of (body_at p.rules k) refl is
    where
      of : (o : Option Expression) → body_at p.rules k ≡ o → option_and_then making_in o ≡ Some m → ⊥
      of None e h = cc
      of (Some x) e h = let none = bare.nothing k x e in cc

  module _ {n : Naming} (named : IsNamingOf p n) where
    -- nothing stands past the source nodes
    none_behind : (c : ℕ) → most_nodes < c → class_behind p (reference_by n.node c) ≡ None
    none_behind zero past = absurd (omega (arith, past))
    none_behind (suc k) past = of (n.node k) (past_tree named bare.few k (let few = bare.few in omega (arith, few, past)))
      where
        of : (x : NodeName) → IsPast p x → class_at p x ≡ None
        of (Source j) l = ap (option_map (λ (x : TreeNode). x.class)) (slice_get_past p.tree j l)
        of (Made a r xs q) l = no_class a r q

    -- and nothing hangs there
    none_hangs : HangsInside p.tree → (k c : ℕ) → most_nodes < c → child_at (world_of p) k (reference_by n.node c) ≡ Null
    none_hangs inside k zero past = absurd (omega (arith, past))
    none_hangs inside k (suc m) past = of (n.node m) (past_tree named bare.few m (let few = bare.few in omega (arith, few, past)))
      where
        of : (x : NodeName) → IsPast p x → child_at (world_of p) k (At x) ≡ Null
        of (Source j) l = ap source_or_null (slice_get_past (hanging p.tree j k) 0 (let none = inside j k l in omega (arith, none)))
        of (Made a r xs q) l =
            ap (λ (o : Option Making). made_or_null (Made a r xs) (child_in (tree_or_none o) q k 0)) (never_makes p bare a r) ∙ ap (made_or_null (Made a r xs)) (slice_get_past {X = ℕ} [] 0 (omega arith))

-- By a naming whose codes are in the order of their nodes the order of two codes is that of what they stand for.
pub order_of : (n : Naming) → IsInOrder n → (a b : ℕ) → nat_cmp a b ≡ reference_cmp (reference_by n.node a) (reference_by n.node b)
order_of n rise zero zero = refl
order_of n rise zero (suc k) = sym (nat_cmp_is 0 (suc k) Less (omega arith))
order_of n rise (suc j) zero = sym (nat_cmp_is (suc j) 0 Greater (omega arith))
order_of n rise (suc j) (suc k) = by (nat_cmp (suc j) (suc k)) (ranks (suc j) (suc k))
  where
    by : (o : Ordering) → MatchOrdering o (suc j < suc k) (suc j ≡ suc k) (suc k < suc j) → o ≡ node_cmp (n.node j) (n.node k)
    by Less l = sym (rise j k (omega (arith, l)))
    by Equal e = let same : j ≡ k = cc in sym (tied_itself node_total (n.node j)) ∙ ap (λ i. node_cmp (n.node j) (n.node i)) same
    by Greater l = sym (node_total.antisymm (n.node j) (n.node k) ∙ ap ordering_reverse (rise k j (omega (arith, l))))

-- What a reader of such a program of a system answers, which does nothing meanwhile.
module _ {S : Type 0} (r : Told S) (of : System) (bare : (p : Program) → IsSound p r → (p ≡ program_of of) × HasSourcesAlone p) where
  -- what a code past the source nodes stands for has no class
  behind : (p : Program) → IsSound p r → (c : ℕ) → most_nodes < c → ByEachIn r (λ n. class_behind p (reference_by n.node c) ≡ None)
  behind p sound c past n by = none_behind p (bare p sound).1 (sound.named n by) c past

  pub class_bare : (node : NodeRef) (c : ClassId) → c.0 ≡ 65535 → ClassBy r r node c
  class_bare node c is = record {
    kept = λ p sound. grows_itself sound;
    answer = λ p sound past known n by.
        let few : length p.grammar ≤ most_classes = subst (λ (q : Program). length q.grammar ≤ most_classes) (sym (bare p sound).0) (few_classes of) in
        subst (λ (o : Option ClassId). IsClassOf p.grammar o c) (sym (behind p sound node.0 past n by)) (omega (arith, is, few));
  }

  pub child_bare : (node : NodeRef) (k : ℕ) (result : NodeRef) → result.0 ≡ 0 → ChildBy r r node k result
  child_bare node k result is = record {
    kept = λ p sound. grows_itself sound;
    answer = λ p sound past known n by.
        let inside : HangsInside p.tree = subst (λ (q : Program). HangsInside q.tree) (sym (bare p sound).0) (hangs_inside of) in
        ap (reference_by n.node) is ∙ sym (none_hangs p (bare p sound).1 (sound.named n by) inside k node.0 past);
    known = λ p sound past known. sound.sources result.0 (omega (arith, is));
  }

  pub token_bare : (node : NodeRef) (k result : ℕ) → TokenBy r r node k result
  token_bare node k result = record {
    kept = λ p sound. grows_itself sound;
    answer = λ p sound known n by a q o xs is w has t type. absurd (let none = ap (λ (m : Option Making). token_type m q k) (never_makes p (bare p sound).1 a o) in cc);
  }

  pub up_bare : ((c : ℕ) → most_nodes < c → r.height 0 < r.height c) → (node : NodeRef) (result : Up) → code_above result ≡ 0 → UpBy r r node result
  up_bare high node result is = record {
    kept = λ p sound. grows_itself sound;
    answer = λ p sound past known n by some. absurd (let none : IsSome {T = ClassId} None = subst (λ (o : Option ClassId). IsSome o) (behind p sound node.0 past n by) some in cc);
    known = λ p sound past known. sound.sources (code_above result) (omega (arith, is));
    falls = λ p sound past. subst (λ (c : ℕ). r.height c < r.height node.0) (sym is) (high node.0 past);
  }

  pub argument_bare : (node : NodeRef) (k result : ℕ) → ArgumentBy r r node k result
  argument_bare node k result = record {
    kept = λ p sound. grows_itself sound;
    answer = λ p sound known n by a q o xs is some t x at of_row. absurd (let none : IsSome {T = ClassId} None = subst (λ (c : Option ClassId). IsSome c) (no_class p (bare p sound).1 a o q) some in cc);
  }

  pub order_bare : ((p : Program) → IsSound p r → ByEachIn r IsInOrder) → (a b : NodeRef) (result : Ordering) → result ≡ nat_cmp a.0 b.0 → OrderBy r r a b result
  order_bare rise a b result is = record { kept = λ p sound. grows_itself sound; answer = λ p sound one other n by. is ∙ order_of n (rise p sound n by) a.0 b.0 }
