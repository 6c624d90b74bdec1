-- Tokens of trees, by their codes.
use Rattle.std.proofs.Common.{◌≡◌, ℕ, pos, rules, zero, suc, ◌==◌, not, List, [], ◌∷◌, Option, Some, None, length, slice_get, refl, sym, ap, subst, ◌∙◌, arith}
use Rattle.std.specs.Option.{option_and_then}
use Rattle.std.proofs.lemmas.Int.{int_wrap_fits}
use Rattle.std.proofs.lemmas.Option.{same_Some}
use mir.Syntax.{w32}
use mir.Val.{SFits}
use Rattle.attr_rules.specs.declared.kinds.Kind.{Kind}
use Rattle.attr_rules.specs.declared.kinds.Kind.TheVariants as kinds
use Rattle.equation_law.specs.declared.coding.TreeImage.{TreeImage}
use Rattle.equation_law.specs.declared.coding.Value.{Value as CodedValue}
use Rattle.equation_law.specs.declared.coding.Value.TheVariants as coded
use Rattle.equation_law.specs.Codes.{AreCodes, IsCode, Naming, arguments_by, value_by, value_coded}
use Rattle.equation_law.specs.Created.{Making, token_kinds, token_type}
use Rattle.equation_law.specs.Equations.{argument_or_null, token_place, token_value}
use Rattle.equation_law.specs.Names.{Argument}
use Rattle.equation_law.specs.Program.{Program}
use Rattle.equation_law.specs.Reading.{AreTokensOf}
use Rattle.equation_law.specs.Values.{Int, Text, Truth, Value, argument_value, as_argument, as_kind, tokens}
use Rattle.plain_rounds.specs.Standing.{code_or_zero}
use Rattle.plain_rounds.specs.Named.{image_making, tokens_by, with_image}
use Rattle.plain_rounds.specs.Places.{IsImaged}

module _ (p : Program) (n : Naming) (empty : n.text 0 ≡ []) where
  -- the code 0 is that of the default, as which null is read
  none_there : (t : Kind) → value_coded n t 0 ≡ as_kind t (argument_or_null None)
  none_there kinds.Truth = refl
  none_there kinds.Int = let fits : SFits w32 (pos 0) = search rules in ap Int (int_wrap_fits w32 (pos 0) fits)
  none_there kinds.Text = ap Text empty
  none_there (kinds.Node c) = refl
  none_there kinds.Texts = refl
  none_there (kinds.Nodes c) = refl

  -- a code of an argument of one type that is one of another stands for the same there
  alike : (u t : Kind) (c : ℕ) (v : Value) → IsCode p u c → as_argument u (value_coded n u c) ≡ as_argument t v → value_coded n t c ≡ as_kind t (argument_value (as_argument u (value_coded n u c)))
  alike kinds.Truth kinds.Truth c v h e = refl
  alike kinds.Truth kinds.Int c v h e = cc
  alike kinds.Truth kinds.Text c v h e = cc
  alike kinds.Truth (kinds.Node d) c v h e = cc
  alike kinds.Truth kinds.Texts c v h e = refl
  alike kinds.Truth (kinds.Nodes d) c v h e = refl
  alike kinds.Int kinds.Truth c v h e = cc
  alike kinds.Int kinds.Int c v h e = refl
  alike kinds.Int kinds.Text c v h e = cc
  alike kinds.Int (kinds.Node d) c v h e = cc
  alike kinds.Int kinds.Texts c v h e = cc
  alike kinds.Int (kinds.Nodes d) c v h e = cc
  alike kinds.Text kinds.Truth c v h e = cc
  alike kinds.Text kinds.Int c v h e = cc
  alike kinds.Text kinds.Text c v h e = refl
  alike kinds.Text (kinds.Node d) c v h e = cc
  alike kinds.Text kinds.Texts c v h e = cc
  alike kinds.Text (kinds.Nodes d) c v h e = cc
  alike (kinds.Node b) kinds.Truth c v h e = cc
  alike (kinds.Node b) kinds.Int c v h e = cc
  alike (kinds.Node b) kinds.Text c v h e = cc
  alike (kinds.Node b) (kinds.Node d) c v h e = refl
  alike (kinds.Node b) kinds.Texts c v h e = cc
  alike (kinds.Node b) (kinds.Nodes d) c v h e = cc
  alike kinds.Texts kinds.Truth c v h e = ap (λ (x : ℕ). Truth (not (x == 0))) h
  alike kinds.Texts kinds.Int c v h e = cc
  alike kinds.Texts kinds.Text c v h e = cc
  alike kinds.Texts (kinds.Node d) c v h e = cc
  alike kinds.Texts kinds.Texts c v h e = refl
  alike kinds.Texts (kinds.Nodes d) c v h e = refl
  alike (kinds.Nodes b) kinds.Truth c v h e = ap (λ (x : ℕ). Truth (not (x == 0))) h
  alike (kinds.Nodes b) kinds.Int c v h e = cc
  alike (kinds.Nodes b) kinds.Text c v h e = cc
  alike (kinds.Nodes b) (kinds.Node d) c v h e = cc
  alike (kinds.Nodes b) kinds.Texts c v h e = refl
  alike (kinds.Nodes b) (kinds.Nodes d) c v h e = refl

  -- the value of a token of some types
  abbrev IsAlikeAt : List Kind → List ℕ → ℕ → Kind → Type 0
  IsAlikeAt us cs j t = ((x : Argument) → slice_get (arguments_by n us cs) j ≡ Some x → (v : Value) × (x ≡ as_argument t v)) → value_coded n t (code_or_zero (slice_get cs j)) ≡ as_kind t (argument_or_null (slice_get (arguments_by n us cs) j))

  token_at : (us : List Kind) (cs : List ℕ) (j : ℕ) (t : Kind) → length cs ≡ length us → AreCodes p us cs → IsAlikeAt us cs j t
  token_at [] [] j t long codes of = none_there t
  token_at [] (c ∷ cs) j t long codes of = absurd (omega (arith, long))
  token_at (u ∷ us) [] j t long codes of = absurd (omega (arith, long))
  token_at (u ∷ us) (c ∷ cs) zero t long codes of = let is = of (as_argument u (value_coded n u c)) refl in alike u t c is.0 codes.0 is.1
  token_at (u ∷ us) (c ∷ cs) (suc j) t long codes of = token_at us cs j t (omega (arith, long)) codes.1 of

  -- a value without a tree has no tokens
  no_tokens : (v : CodedValue) → tokens (value_by n v) ≡ []
  no_tokens (coded.Truth b) = refl
  no_tokens (coded.Int z) = refl
  no_tokens (coded.Text k) = refl
  no_tokens (coded.Node m) = refl
  no_tokens (coded.Texts cs) = refl
  no_tokens (coded.Nodes cs) = refl

  -- the token that stands at a place in a tree of an instance
  pub token_is : (v : CodedValue) (o : Option TreeImage) (m : Option Making) (q k j : ℕ) (t : Kind) → IsImaged p v o → ((m' : Making) → m ≡ Some m' → AreTokensOf (token_kinds m'.arguments) (tokens (with_image p n (value_by n v) o))) → token_type m q k ≡ Some t → token_place m q k ≡ Some j
      → value_coded n t (code_or_zero (option_and_then (λ (x : TreeImage). slice_get x.tokens j) o)) ≡ as_kind t (token_value (tokens (with_image p n (value_by n v) o)) (Some j))
  token_is v o None q k j t h own type place = cc
  token_is v None (Some m) q k j t h own type place = none_there t ∙ ap (λ (xs : List Argument). as_kind t (argument_or_null (slice_get xs j))) (sym (no_tokens v))
  token_is v (Some i) (Some m) q k j t h own type place =
      let here : slice_get (token_kinds m.arguments) j ≡ Some t = sym (ap (option_and_then (slice_get (token_kinds m.arguments))) place) ∙ type in
      let just : tokens_by n (image_making p i) i.tokens ≡ arguments_by n (token_kinds h.making.arguments) i.tokens = ap (λ (x : Option Making). tokens_by n x i.tokens) h.is in
      let all = own m refl in
      token_at (token_kinds h.making.arguments) i.tokens j t h.all h.codes
      (λ x e. let is = all j x (ap (λ (xs : List Argument). slice_get xs j) just ∙ e) in let same : is.0 ≡ t = same_Some is.0 t (sym is.1 ∙ here) in (is.2, subst (λ (u : Kind). x ≡ as_argument u is.2) same is.3))
      ∙ ap (λ (xs : List Argument). as_kind t (argument_or_null (slice_get xs j))) (sym just)
