-- The codes of the arguments with which a node was made.
use Rattle.std.proofs.Common.{◌≡◌, ℕ, zero, suc, List, [], ◌∷◌, Some, None, slice_get, refl, sym, ap, subst, ◌∙◌}
use Rattle.std.proofs.lemmas.Option.{same_Some}
use Rattle.attr_rules.specs.declared.kinds.AttrId.{AttrId}
use Rattle.attr_rules.specs.declared.kinds.Kind.{Kind}
use Rattle.equation_law.specs.declared.coding.Args.{Args}
use Rattle.equation_law.specs.declared.coding.Instance.{Instance as CodedInstance}
use Rattle.equation_law.specs.declared.coding.Instance.TheVariants as coded
use Rattle.equation_law.specs.declared.coding.NodeRef.{NodeRef}
use Rattle.equation_law.specs.Codes.{AreCodes, IsCode, Naming, arguments_by, arguments_for, codes_in, reference_by, value_coded}
use Rattle.equation_law.specs.Names.{Argument, At, Made, Reference, Row, list_of, row_of}
use Rattle.equation_law.specs.Program.{Program, attribute_parameters}
use Rattle.equation_law.specs.Values.{as_argument}
use Rattle.equation_law.proofs.Names.{same_list}
use Rattle.made_trees.specs.Makers.{IsArgumentAt, IsMakerOf, Trees, naming_of, program_for, stands_for}

-- a code at its place is one of its type
pub code_there : (p : Program) (ks : List Kind) (cs : List ℕ) → AreCodes p ks cs → (k c : ℕ) (t : Kind) → slice_get ks k ≡ Some t → slice_get cs k ≡ Some c → IsCode p t c
code_there p [] cs codes k c t type code = cc
code_there p (u ∷ ks) [] codes k c t type code = cc
code_there p (u ∷ ks) (d ∷ cs) codes zero c t type code = subst (λ (x : Kind). IsCode p x c) (same_Some u t type) (subst (IsCode p u) (same_Some d c code) codes.0)
code_there p (u ∷ ks) (d ∷ cs) codes (suc k) c t type code = code_there p ks cs codes.1 k c t type code

module _ (n : Naming) where
  -- what it stands for
  value_there : (ks : List Kind) (cs : List ℕ) (k c : ℕ) (t : Kind) → slice_get ks k ≡ Some t → slice_get cs k ≡ Some c → slice_get (arguments_by n ks cs) k ≡ Some (as_argument t (value_coded n t c))
  value_there [] cs k c t type code = cc
  value_there (u ∷ ks) [] k c t type code = cc
  value_there (u ∷ ks) (d ∷ cs) zero c t type code = (λ i. Some (as_argument (same_Some u t type i) (value_coded n (same_Some u t type i) (same_Some d c code i))))
  value_there (u ∷ ks) (d ∷ cs) (suc k) c t type code = value_there ks cs k c t type code

  -- where no code is left there is no argument
  none_there : (ks : List Kind) (cs : List ℕ) (k : ℕ) → slice_get cs k ≡ None → slice_get (arguments_by n ks cs) k ≡ None
  none_there [] cs k none = refl
  none_there (u ∷ ks) [] k none = refl
  none_there (u ∷ ks) (d ∷ cs) zero none = cc
  none_there (u ∷ ks) (d ∷ cs) (suc k) none = none_there ks cs k none

-- what made a node says with which arguments
module _ (T : Trees) (c q : ℕ) (i : CodedInstance) (a : AttrId) (m : NodeRef) (xs : Args) (is : i ≡ coded.Attr a m xs) (maker : IsMakerOf T c (Some (i, q))) where
  coded_maker : IsMakerOf T c (Some (coded.Attr a m xs, q))
  coded_maker = subst (λ (x : CodedInstance). IsMakerOf T c (Some (x, q))) is maker

  made_as : (b r : ℕ) (o : Reference) (ys : Row) → stands_for T c ≡ At (Made b o ys r) → (a.0 ≡ b) × (arguments_for (program_for T) (naming_of T) a.0 xs ≡ list_of ys)
  made_as b r o ys e =
      let one : At (Made a.0 (reference_by (naming_of T).node m.0) (row_of (arguments_for (program_for T) (naming_of T) a.0 xs)) q) ≡ At (Made b o ys r) = sym coded_maker.1 ∙ e in
      let row : row_of (arguments_for (program_for T) (naming_of T) a.0 xs) ≡ ys = cc in
      (cc, sym (same_list (arguments_for (program_for T) (naming_of T) a.0 xs)) ∙ ap list_of row)

  pub argument_told : (k code : ℕ) → slice_get (codes_in xs) k ≡ Some code → IsArgumentAt T c k code
  argument_told k code there b r o ys e t x type argument =
      let made = made_as b r o ys e in
      let types = ap (λ (y : ℕ). slice_get (attribute_parameters (program_for T) y) k) made.0 ∙ type in
      let value = value_there (naming_of T) (attribute_parameters (program_for T) a.0) (codes_in xs) k code t types there in (
        code_there (program_for T) (attribute_parameters (program_for T) a.0) (codes_in xs) coded_maker.0.1 k code t types there,
        same_Some (as_argument t (value_coded (naming_of T) t code)) x (sym value ∙ ap (λ (ys : List Argument). slice_get ys k) made.1 ∙ argument),
      )

  pub no_argument : (k : ℕ) (code : ℕ) → slice_get (codes_in xs) k ≡ None → IsArgumentAt T c k code
  no_argument k code none b r o ys e t x type argument =
      let made = made_as b r o ys e in
      let wrong : None ≡ Some x = sym (none_there (naming_of T) (attribute_parameters (program_for T) a.0) (codes_in xs) k none) ∙ ap (λ (ys : List Argument). slice_get ys k) made.1 ∙ argument in
      absurd (cc)
