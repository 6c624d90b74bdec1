use Rattle.std.proofs.Common.{◌≡◌, ℕ, ◌<◌, ◌+◌, suc, Bool, true, false, ◌||◌, Option, Some, slice_get, drop, length, map, refl, sym, ap, ◌∙◌, arith}
use Rattle.std.specs.Option.{option_map}
use Rattle.std.proofs.lemmas.List.{length-map}
use Rattle.std.proofs.lemmas.Option.{slice_get-map, slice_get_read}
use Rattle.attr_rules.specs.declared.kinds.Kind.{Kind}
use Rattle.aspect_items.specs.declared.items.Parameter.{Parameter as Kept}
use Rattle.aspect_items.specs.Items.{seen_parameter, seen_type}
use Rattle.attr_heads.specs.Parameters.{differ, is_other_type, parameter_type, parameter_types}
use Rattle.attr_heads.proofs.Differing.{differ_end, differ_number, differ_step}
use Rattle.attr_heads.proofs.parameters.differ_from.Goals as goal

pub returns-then-others-parameters : goal.returns-then-others-parameters
returns-then-others-parameters c =
    let g = c.args.grammar.now in
    let many = length-map (map seen_parameter c.args.others.now) (parameter_type g) ∙ length-map c.args.others.now seen_parameter in
    let so_many = length-map c.args.parameters.now seen_parameter in
    sym (differ_number g (parameter_types g (map seen_parameter c.args.others.now)) (map seen_parameter c.args.parameters.now) (λ e. c.if-others-parameters.true (sym many ∙ e ∙ so_many)))

pub returns-then-is_other_type : goal.returns-then-is_other_type
returns-then-is_other_type c =
    let g = c.args.grammar.now in
    let k = c.loop-k.k in
    let others = map seen_parameter c.args.others.now in
    let lt : k < length c.args.others.now = c.loop-k-test.true in
    let same = c.if-others-parameters.false in
    let at_others : slice_get others k ≡ Some (seen_parameter c.index-others-k.result) =
    slice_get-map seen_parameter c.args.others.now k ∙ ap (option_map seen_parameter) (slice_get_read c.args.others.now (length c.args.others.now) k c.index-others-k.result refl lt c.index-others-k.is) in
    let at_types = slice_get-map (parameter_type g) others k ∙ ap (option_map (parameter_type g)) at_others in
    let at_parameters : slice_get (map seen_parameter c.args.parameters.now) k ≡ Some (seen_parameter c.index-parameters-k.result) =
    slice_get-map seen_parameter c.args.parameters.now k
    ∙ ap (option_map seen_parameter) (slice_get_read c.args.parameters.now (length c.args.parameters.now) k c.index-parameters-k.result refl (omega (arith, lt, same)) c.index-parameters-k.is) in
    let is_other : is_other_type g (parameter_type g (seen_parameter c.index-others-k.result)) (seen_parameter c.index-parameters-k.result).of ≡ true =
    ap (λ (x : Option Kind). is_other_type g x (seen_parameter c.index-parameters-k.result).of) (sym c.type_written.ensures) ∙ ap (λ (q : Kept). is_other_type g c.type_written.result (seen_type q.of)) c.index-parameters-k.is ∙ sym c.is_other_type.ensures ∙ c.if-is_other_type.true in
    sym (
    c.loop-k.invariant ∙ differ_step g (parameter_types g others) (map seen_parameter c.args.parameters.now) k (parameter_type g (seen_parameter c.index-others-k.result)) (seen_parameter c.index-parameters-k.result) at_types at_parameters
    ∙ ap (λ (b : Bool). b || differ g (drop (suc k) (parameter_types g others)) (drop (suc k) (map seen_parameter c.args.parameters.now))) is_other
    )

pub loop-k-preserved : goal.loop-k-preserved
loop-k-preserved c =
    let g = c.args.grammar.now in
    let k = c.loop-k.k in
    let others = map seen_parameter c.args.others.now in
    let parameters = map seen_parameter c.args.parameters.now in
    let lt : k < length c.args.others.now = c.loop-k-test.true in
    let same = c.if-others-parameters.false in
    let at_others : slice_get others k ≡ Some (seen_parameter c.index-others-k.result) =
    slice_get-map seen_parameter c.args.others.now k ∙ ap (option_map seen_parameter) (slice_get_read c.args.others.now (length c.args.others.now) k c.index-others-k.result refl lt c.index-others-k.is) in
    let at_types = slice_get-map (parameter_type g) others k ∙ ap (option_map (parameter_type g)) at_others in
    let at_parameters : slice_get parameters k ≡ Some (seen_parameter c.index-parameters-k.result) =
    slice_get-map seen_parameter c.args.parameters.now k
    ∙ ap (option_map seen_parameter) (slice_get_read c.args.parameters.now (length c.args.parameters.now) k c.index-parameters-k.result refl (omega (arith, lt, same)) c.index-parameters-k.is) in
    let no_other : is_other_type g (parameter_type g (seen_parameter c.index-others-k.result)) (seen_parameter c.index-parameters-k.result).of ≡ false =
    ap (λ (x : Option Kind). is_other_type g x (seen_parameter c.index-parameters-k.result).of) (sym c.type_written.ensures) ∙ ap (λ (q : Kept). is_other_type g c.type_written.result (seen_type q.of)) c.index-parameters-k.is ∙ sym c.is_other_type.ensures ∙ c.if-is_other_type.false in
    let next : suc k ≡ k + 1 = omega arith in
    c.loop-k.invariant ∙ differ_step g (parameter_types g others) parameters k (parameter_type g (seen_parameter c.index-others-k.result)) (seen_parameter c.index-parameters-k.result) at_types at_parameters
    ∙ ap (λ (b : Bool). b || differ g (drop (suc k) (parameter_types g others)) (drop (suc k) parameters)) no_other ∙ ap (λ (n : ℕ). differ g (drop n (parameter_types g others)) (drop n parameters)) next

pub returns : goal.returns
returns c =
    let g = c.args.grammar.now in
    let past = c.loop-k-test.false in
    let same = c.if-others-parameters.false in
    let many = length-map (map seen_parameter c.args.others.now) (parameter_type g) ∙ length-map c.args.others.now seen_parameter in
    let so_many = length-map c.args.parameters.now seen_parameter in
    sym (
    c.loop-k.invariant
    ∙ differ_end g (parameter_types g (map seen_parameter c.args.others.now)) (map seen_parameter c.args.parameters.now) c.loop-k.k (omega (arith, past, many)) (omega (arith, past, same, so_many))
    )
