-- What a reader over these makers needs: they name the nodes, and what made a node stands in smaller codes.
use Rattle.std.proofs.Common.{◌≡◌, ℕ, zero, suc, ◌<◌, ◌≤◌, [], ◌∷◌, List, Some, None, slice_get, arith, refl, sym, ap, subst, ◌∙◌}
use Rattle.std.proofs.lemmas.Option.{same_Some}
use Rattle.ast_grammar.specs.declared.grammar.ClassId.{ClassId}
use Rattle.attr_rules.specs.declared.kinds.AttrId.{AttrId}
use Rattle.attr_rules.specs.declared.kinds.Kind.{Kind}
use Rattle.attr_rules.specs.declared.kinds.Kind.TheVariants as kinds
use Rattle.equation_law.specs.declared.coding.Args.{Args}
use Rattle.equation_law.specs.declared.coding.Instance.TheVariants as coded
use Rattle.equation_law.specs.declared.coding.NodeRef.{NodeRef}
use Rattle.equation_law.specs.Codes.{IsNamingOf, arguments_for, codes_in, reference_by, reference_of}
use Rattle.equation_law.specs.Names.{Argument, At, Attribute, Made, NodeName, Source, row_of}
use Rattle.equation_law.specs.Program.{attribute_parameters}
use Rattle.equation_law.proofs.Keys.{one_key_by}
use Rattle.equation_law.proofs.Names.{same_list}
use Rattle.equation_law.proofs.Pooled.{texts_pooled}
use Rattle.made_trees.specs.Made.{AreNamed, CanMake, IsNamed, MayMake, last_code, node_by_makers}
use Rattle.made_trees.specs.Makers.{AreTrees, IsMakerOf, Trees, naming_of, program_for, stands_for}
use Rattle.made_trees.proofs.Naming.{made_there, maker_coded, maker_makes, naming_is, source_there}

-- a node at its place among codes has one of these at most
named_there : (last : ℕ) (ks : List Kind) (cs : List ℕ) → AreNamed last ks cs → (k c : ℕ) (t : Kind) → slice_get ks k ≡ Some t → slice_get cs k ≡ Some c → IsNamed last t c
named_there last [] cs few k c t type code = cc
named_there last (u ∷ ks) [] few k c t type code = cc
named_there last (u ∷ ks) (d ∷ cs) few zero c t type code = subst (λ (x : Kind). IsNamed last x c) (same_Some u t type) (subst (IsNamed last u) (same_Some d c code) few.0)
named_there last (u ∷ ks) (d ∷ cs) few (suc k) c t type code = named_there last ks cs few.1 k c t type code

module _ (T : Trees) (trees : AreTrees T) where
  -- the makers name the nodes of their program
  pub named : IsNamingOf (program_for T) (naming_of T)
  named = naming_is (program_for T) (texts_pooled T.system) T.makers trees.makers

  -- What made a node could make it behind trees whose codes are all smaller: so its owner and the nodes among its arguments have smaller codes.
  pub record IsMadeBehind (c : ℕ) (a : AttrId) (m : NodeRef) (xs : Args) : Type 0 where
    pub tree : ℕ
    pub may : MayMake (program_for T) tree a.0 m.0 xs
    pub falls : last_code tree < c

  pub made_behind : (c q : ℕ) (a : AttrId) (m : NodeRef) (xs : Args) → IsMakerOf T c (Some (coded.Attr a m xs, q)) → IsMadeBehind c a m xs
  made_behind zero q a m xs maker = absurd (let e = maker.1 in cc)
  made_behind (suc k) q a m xs maker =
      let p = program_for T in
      let ys : List Argument = arguments_for p (naming_of T) a.0 xs in
      let stands : At (node_by_makers p T.makers k) ≡ At (Made a.0 (reference_by (naming_of T).node m.0) (row_of ys) q) = maker.1 in
      let by = made_there p T.makers trees.makers k a.0 (reference_by (naming_of T).node m.0) (row_of ys) q cc in
      let same : by.maker ≡ coded.Attr a m xs =
      one_key_by p (texts_pooled T.system) named by.maker (coded.Attr a m xs) (maker_coded p T.makers trees.makers by.tree by.maker by.there) maker.0
      (by.is ∙ ap (Attribute a.0 (reference_by (naming_of T).node m.0)) (same_list ys))
      in
      let code = by.code in
      record {
        tree = by.tree;
        may = subst (CanMake p by.tree) same (maker_makes p T.makers trees.makers by.tree by.maker by.there);
        falls = omega (arith, code);
      }

  pub owner_falls : (c q : ℕ) (a : AttrId) (m : NodeRef) (xs : Args) → IsMakerOf T c (Some (coded.Attr a m xs, q)) → m.0 < c
  owner_falls c q a m xs maker =
      let behind = made_behind c q a m xs maker in
      let low = behind.may.owner in
      let falls = behind.falls in
      omega (arith, low, falls)

  pub argument_falls : (c q : ℕ) (a : AttrId) (m : NodeRef) (xs : Args) → IsMakerOf T c (Some (coded.Attr a m xs, q)) → (k x : ℕ) (d : ClassId) → slice_get (attribute_parameters (program_for T) a.0) k ≡ Some (kinds.Node d) → slice_get (codes_in xs) k ≡ Some x → x < c
  argument_falls c q a m xs maker k x d type code =
      let behind = made_behind c q a m xs maker in
      let low : x ≤ last_code behind.tree = named_there (last_code behind.tree) (attribute_parameters (program_for T) a.0) (codes_in xs) behind.may.arguments k x (kinds.Node d) type code in
      let falls = behind.falls in
      omega (arith, low, falls)

  -- a code of no node that was made is that of a source node or null
  pub not_made : (c : ℕ) → IsMakerOf T c None → stands_for T c ≡ reference_of c
  not_made zero none = refl
  not_made (suc k) none = of (node_by_makers (program_for T) T.makers k) refl
    where
      of : (x : NodeName) → node_by_makers (program_for T) T.makers k ≡ x → stands_for T (suc k) ≡ reference_of (suc k)
      of (Source j) e = let same = source_there (program_for T) T.makers k j e in ap At e ∙ ap (λ (i : ℕ). At (Source i)) (sym same)
      of (Made a r xs q) e = absurd (none a q r xs (ap At e))
