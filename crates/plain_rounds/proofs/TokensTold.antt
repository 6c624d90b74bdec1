-- The tokens of the trees that stand in a round.
use Rattle.std.proofs.Common.{◌≡◌, ℕ, Option, Some, None, slice_get, sym, ap, subst, ◌∙◌}
use Rattle.std.specs.Option.{option_and_then}
use Rattle.attr_rules.specs.declared.kinds.Kind.{Kind}
use Rattle.equation_law.specs.declared.coding.Instance.{Instance as CodedInstance}
use Rattle.equation_law.specs.declared.coding.TreeImage.{TreeImage}
use Rattle.equation_law.specs.Codes.{reference_by}
use Rattle.equation_law.specs.Created.{Making, token_kinds, token_type}
use Rattle.equation_law.specs.Equations.{token_place, token_value}
use Rattle.equation_law.specs.Names.{At, Attribute, Instance, Made, Query, Reference, Row, list_of, made_by, row_of}
use Rattle.equation_law.specs.Program.{making_of}
use Rattle.equation_law.specs.Reading.{AreTokensOf}
use Rattle.equation_law.specs.Values.{Value, as_kind, tokens}
use Rattle.equation_law.proofs.Names.{same_list}
use Rattle.equation_law.proofs.Pooled.{first_text, texts_pooled}
use Rattle.made_trees.specs.Makers.{IsMakerOf, IsTokenAt, Trees}
use Rattle.plain_rounds.specs.declared.standing.Standing.{Standing}
use Rattle.plain_rounds.specs.declared.values.NamedValue.{NamedValue}
use Rattle.plain_rounds.specs.Named.{value_in}
use Rattle.plain_rounds.specs.Places.{IsHeld, found}
use Rattle.plain_rounds.specs.Settings.{AreReady, instance_at, naming_at, program_at}
use Rattle.plain_rounds.specs.Standing.{IsTokenIn, standing_at}
use Rattle.plain_rounds.proofs.Settings.{moved, named_there, trees_at}
use Rattle.plain_rounds.proofs.Solving.{found_stands}
use Rattle.plain_rounds.proofs.Told.{own_tokens}
use Rattle.plain_rounds.proofs.Tokens.{token_is}

-- what made a node
made_is : (i : Instance) (m a q : ℕ) (o : Reference) (xs : Row) → made_by i m ≡ At (Made a o xs q) → i ≡ Attribute a o (list_of xs)
made_is (Attribute b r ys) m a q o xs e =
    let attribute : b ≡ a = cc in
    let owner : r ≡ o = cc in
    let row : row_of ys ≡ xs = cc in
    let arguments : ys ≡ list_of xs = sym (same_list ys) ∙ ap list_of row in
    (λ i. Attribute (attribute i) (owner i) (arguments i))
made_is (Query n) m a q o xs e = cc

-- where there is no place there is no type
no_type : {A : Type 0} (m : Option Making) (q k : ℕ) (t : Kind) → token_place m q k ≡ None → token_type m q k ≡ Some t → A
no_type None q k t none type = absurd (cc)
no_type (Some m) q k t none type = absurd (let wrong : None ≡ Some t = sym (ap (option_and_then (slice_get (token_kinds m.arguments))) none) ∙ type in cc)

module _ (s : Standing) (ready : AreReady s.setting s.values.now) (c k : ℕ) where
  -- no node was made
  pub no_node : IsMakerOf s.setting.makers.now c None → IsTokenIn s c k None
  no_node none a q o xs stands w has t type = absurd (subst (λ (T : Trees). IsMakerOf T c None) (moved s.setting) none a q o xs stands)

  module _ (i : CodedInstance) (m : ℕ) (made : IsMakerOf s.setting.makers.now c (Some (i, m))) where
    its : IsMakerOf (trees_at s.setting) c (Some (i, m))
    its = subst (λ (T : Trees). IsMakerOf T c (Some (i, m))) (moved s.setting) made

    found_there : (a q : ℕ) (o : Reference) (xs : Row) → reference_by (naming_at s.setting).node c ≡ At (Made a o xs q)
        → found (program_at s.setting) (naming_at s.setting) s.setting.places.now.map s.values.now i ≡ standing_at s (Attribute a o (list_of xs))
    found_there a q o xs stands =
        found_stands (program_at s.setting) (texts_pooled s.setting.system.now) (named_there s.setting ready.set) s.setting.names.now s.setting.places.now.map s.values.now ready.set.places ready.are.long ready.set.coded i its.0
        ∙ ap (standing_at s) (made_is (instance_at s.setting i) m a q o xs (sym its.1 ∙ stands))

    -- nothing stands under what made it
    pub no_value : found (program_at s.setting) (naming_at s.setting) s.setting.places.now.map s.values.now i ≡ None → IsTokenIn s c k None
    no_value none a q o xs stands w has t type = absurd (let wrong : None ≡ Some w = sym none ∙ found_there a q o xs stands ∙ has in cc)

    -- a value that has the token
    pub token_there : (v : NamedValue) (j : ℕ) → found (program_at s.setting) (naming_at s.setting) s.setting.places.now.map s.values.now i ≡ Some (value_in (program_at s.setting) (naming_at s.setting) v) → IsHeld (program_at s.setting) (Some v) → IsTokenAt s.setting.makers.now c k (Some j)
        → IsTokenIn s c k (option_and_then (λ (x : TreeImage). slice_get x.tokens j) v.image)
    token_there v j value held at a q o xs stands w has t type =
        let p = program_at s.setting in
        let n = naming_at s.setting in
        let place = subst (λ (T : Trees). IsTokenAt T c k (Some j)) (moved s.setting) at a q o xs stands in
        let both : Some (value_in p n v) ≡ Some w = sym value ∙ found_there a q o xs stands ∙ has in
        let same : value_in p n v ≡ w = cc in
        let own = subst (λ (x : Value). (making : Making) → making_of p a o ≡ Some making → AreTokensOf (token_kinds making.arguments) (tokens x)) (sym same) (own_tokens p a o (list_of xs) w (ready.own (Attribute a o (list_of xs)) w has)) in
        token_is p n (first_text s.setting.system.now) v.value v.image (making_of p a o) q k j t held.1 own type place
        ∙ (λ i. as_kind t (token_value (tokens (same i)) (sym place i)))

  -- it has no token there
  pub no_token : IsTokenAt s.setting.makers.now c k None → IsTokenIn s c k None
  no_token at a q o xs stands w has t type = no_type (making_of (program_at s.setting) a o) q k t (subst (λ (T : Trees). IsTokenAt T c k None) (moved s.setting) at a q o xs stands) type
