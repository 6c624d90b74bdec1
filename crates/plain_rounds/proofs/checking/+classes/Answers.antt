use Rattle.std.proofs.Common.{◌≡◌, ◌<◌, true, false, List, [], None, Some, Option, drop, length, rules, slice_get, subst, sym, ap, ◌∙◌}
use Rattle.std.specs.Option.{option_map}
use Rattle.std.proofs.lemmas.Int.{int_wrap_fits}
use Rattle.std.proofs.lemmas.Option.{slice_get_within}
use mir.Syntax.{w32}
use mir.Val.{SFits}
use Rattle.ast_grammar.specs.declared.grammar.ClassId.{ClassId}
use Rattle.ast_grammar.specs.Grammar.{Class, is_sub}
use Rattle.attr_rules.specs.Rules.{Attribute, RuleSet}
use Rattle.attr_rules.specs.Types.{parameter_kinds}
use Rattle.tree_arena.specs.Nodes.{Node, class_in}
use Rattle.equation_law.specs.Created.{tree_or_none}
use Rattle.equation_law.specs.Program.{declared_of, making_at, text_of}
use Rattle.equation_law.specs.Systems.{program_of}
use Rattle.equation_law.proofs.Lists.{some_of}
use Rattle.equation_law.proofs.Pooled.{texts_pooled}
use Rattle.plain_rounds.specs.declared.naming.NamedArg.{NamedArg}
use Rattle.plain_rounds.specs.declared.naming.NamedArgs.{NamedArgs}
use Rattle.plain_rounds.specs.declared.naming.NamedInstance.{NamedInstance}
use Rattle.plain_rounds.specs.declared.naming.NodeName.{NodeName}
use Rattle.plain_rounds.specs.Checking.{AreForRow, IsForKind, IsInstanceOf, IsNodeWith}
use Rattle.plain_rounds.specs.Named.{argument_named, arguments_named, instance_named, reference_named}
use Rattle.plain_rounds.proofs.Tested.{attribute_at, first_fails, instance_with, int_for, made_with, no_arguments, no_maker, no_owner, none_for, other_arguments, other_class, other_for, others_decide, some_for, source_with, text_for, truth_for}
use Rattle.plain_rounds.proofs.checking.+classes.Goals as goal
use Rattle.plain_rounds.proofs.checking.+classes.Goals.{are_for-then-is_for-2, are_for-else-is_for-2, are_for-then-is_for-4, are_for-else-is_for-4, are_for-then-is_for-5, are_for-else-is_for-5, instance_class-else-is_sub-via-then-is_sub+else-are_for, instance_class-else-is_sub-via-else-is_sub}

pub are_for-returns-then-is_for-3 : goal.are_for-returns-then-is_for-3
are_for-returns-then-is_for-3 t c =
    let p = program_of c.args.system.now in
    let texts = text_of p in
    let ks = parameter_kinds c.args.params in
    let second = parameter_kinds c.rest-second.result in
    subst (λ (l : NamedArgs). AreForRow p c.args.params (arguments_named texts l) c.is_end-then-is_for-3.result) (sym c.in-Two.is)
    (elim c.if-is_for-2.branch [
      | are_for-then-is_for-2 w ↦
          others_decide p ks second c.first_kind-in-Two.result (argument_named texts c.in-Two.x) _ c.is_for-in-Two.result c.is_end-then-is_for-3.result c.first_kind-in-Two.ensures c.rest-second.ensures c.is_for-in-Two.ensures w.if-is_for-2.true
          (others_decide p second (parameter_kinds c.rest-third.result) w.first_kind-then-is_for-2.result (argument_named texts c.in-Two.y) [] w.is_for-then-is_for-2.result c.is_end-then-is_for-3.result w.first_kind-then-is_for-2.ensures (c.rest-third.ensures ∙ ap (drop 1) (c.rest.ensures ∙ sym c.rest-second.ensures)) w.is_for-then-is_for-2.ensures
          (sym w.value-is ∙ c.if-is_for-3.true) (no_arguments p (parameter_kinds c.rest-third.result) c.is_end-then-is_for-3.result c.is_end-then-is_for-3.ensures))
      | are_for-else-is_for-2 w ↦ absurd (let wrong : false ≡ true = sym w.if-is_for-2.false ∙ sym w.value-is ∙ c.if-is_for-3.true in cc)
    ])

pub are_for-returns-else-is_for-3 : goal.are_for-returns-else-is_for-3
are_for-returns-else-is_for-3 t c =
    let p = program_of c.args.system.now in
    let texts = text_of p in
    let ks = parameter_kinds c.args.params in
    let second = parameter_kinds c.rest-second.result in
    subst (λ (l : NamedArgs). AreForRow p c.args.params (arguments_named texts l) c.if-is_for-2.value) (sym c.in-Two.is)
    (elim c.if-is_for-2.branch [
      | are_for-then-is_for-2 w ↦
          others_decide p ks second c.first_kind-in-Two.result (argument_named texts c.in-Two.x) _ c.is_for-in-Two.result c.if-is_for-2.value c.first_kind-in-Two.ensures c.rest-second.ensures c.is_for-in-Two.ensures w.if-is_for-2.true
          (first_fails p second w.first_kind-then-is_for-2.result (argument_named texts c.in-Two.y) [] w.is_for-then-is_for-2.result c.if-is_for-2.value w.first_kind-then-is_for-2.ensures w.is_for-then-is_for-2.ensures (sym w.value-is ∙ c.if-is_for-3.false) c.if-is_for-3.false)
      | are_for-else-is_for-2 w ↦ first_fails p ks c.first_kind-in-Two.result (argument_named texts c.in-Two.x) _ c.is_for-in-Two.result c.if-is_for-2.value c.first_kind-in-Two.ensures c.is_for-in-Two.ensures w.if-is_for-2.false c.if-is_for-3.false
    ])

pub are_for-returns-then-is_for-6 : goal.are_for-returns-then-is_for-6
are_for-returns-then-is_for-6 t c =
    let p = program_of c.args.system.now in
    let texts = text_of p in
    let ks = parameter_kinds c.args.params in
    let second = parameter_kinds c.rest-second.result in
    let third = parameter_kinds c.rest-third.result in
    let all = c.is_end-then-is_for-6.result in
    let end = no_arguments p (parameter_kinds c.rest-then-is_for-6.result) all c.is_end-then-is_for-6.ensures in
    subst (λ (l : NamedArgs). AreForRow p c.args.params (arguments_named texts l) all) (sym c.in-Three.is)
    (elim c.if-is_for-5.branch [
      | are_for-then-is_for-5 v ↦ elim c.if-is_for-4.branch [
        | are_for-then-is_for-4 w ↦
            others_decide p ks second c.first_kind-in-Three.result (argument_named texts c.in-Three.x) _ c.is_for-in-Three.result all c.first_kind-in-Three.ensures c.rest-second.ensures c.is_for-in-Three.ensures w.if-is_for-4.true
            (others_decide p second third w.first_kind-then-is_for-4.result (argument_named texts c.in-Three.y) _ w.is_for-then-is_for-4.result all w.first_kind-then-is_for-4.ensures (c.rest-third.ensures ∙ ap (drop 1) (c.rest.ensures ∙ sym c.rest-second.ensures)) w.is_for-then-is_for-4.ensures
            (sym w.value-is ∙ v.if-is_for-5.true)
            (others_decide p third (parameter_kinds c.rest-then-is_for-6.result) v.first_kind-then-is_for-5.result (argument_named texts c.in-Three.z) [] v.is_for-then-is_for-5.result all v.first_kind-then-is_for-5.ensures c.rest-then-is_for-6.ensures v.is_for-then-is_for-5.ensures (sym v.value-is ∙ c.if-is_for-6.true) end))
        | are_for-else-is_for-4 w ↦ absurd (let wrong : false ≡ true = sym w.if-is_for-4.false ∙ sym w.value-is ∙ v.if-is_for-5.true in cc)
      ]
      | are_for-else-is_for-5 v ↦ absurd (let wrong : false ≡ true = sym v.if-is_for-5.false ∙ sym v.value-is ∙ c.if-is_for-6.true in cc)
    ])

pub are_for-returns-else-is_for-6 : goal.are_for-returns-else-is_for-6
are_for-returns-else-is_for-6 t c =
    let p = program_of c.args.system.now in
    let texts = text_of p in
    let ks = parameter_kinds c.args.params in
    let second = parameter_kinds c.rest-second.result in
    let third = parameter_kinds c.rest-third.result in
    let all = c.if-is_for-5.value in
    subst (λ (l : NamedArgs). AreForRow p c.args.params (arguments_named texts l) all) (sym c.in-Three.is)
    (elim c.if-is_for-5.branch [
      | are_for-then-is_for-5 v ↦ elim c.if-is_for-4.branch [
        | are_for-then-is_for-4 w ↦
            others_decide p ks second c.first_kind-in-Three.result (argument_named texts c.in-Three.x) _ c.is_for-in-Three.result all c.first_kind-in-Three.ensures c.rest-second.ensures c.is_for-in-Three.ensures w.if-is_for-4.true
            (others_decide p second third w.first_kind-then-is_for-4.result (argument_named texts c.in-Three.y) _ w.is_for-then-is_for-4.result all w.first_kind-then-is_for-4.ensures (c.rest-third.ensures ∙ ap (drop 1) (c.rest.ensures ∙ sym c.rest-second.ensures)) w.is_for-then-is_for-4.ensures
            (sym w.value-is ∙ v.if-is_for-5.true)
            (first_fails p third v.first_kind-then-is_for-5.result (argument_named texts c.in-Three.z) [] v.is_for-then-is_for-5.result all v.first_kind-then-is_for-5.ensures v.is_for-then-is_for-5.ensures (sym v.value-is ∙ c.if-is_for-6.false) c.if-is_for-6.false))
        | are_for-else-is_for-4 w ↦ absurd (let wrong : false ≡ true = sym w.if-is_for-4.false ∙ sym w.value-is ∙ v.if-is_for-5.true in cc)
      ]
      | are_for-else-is_for-5 v ↦ elim c.if-is_for-4.branch [
        | are_for-then-is_for-4 w ↦
            others_decide p ks second c.first_kind-in-Three.result (argument_named texts c.in-Three.x) _ c.is_for-in-Three.result all c.first_kind-in-Three.ensures c.rest-second.ensures c.is_for-in-Three.ensures w.if-is_for-4.true
            (first_fails p second w.first_kind-then-is_for-4.result (argument_named texts c.in-Three.y) _ w.is_for-then-is_for-4.result all w.first_kind-then-is_for-4.ensures w.is_for-then-is_for-4.ensures (sym w.value-is ∙ v.if-is_for-5.false) c.if-is_for-6.false)
        | are_for-else-is_for-4 w ↦ first_fails p ks c.first_kind-in-Three.result (argument_named texts c.in-Three.x) _ c.is_for-in-Three.result all c.first_kind-in-Three.ensures c.is_for-in-Three.ensures w.if-is_for-4.false c.if-is_for-6.false
      ]
    ])

pub instance_class-returns-in_err-class : goal.instance_class-returns-in_err-class
instance_class-returns-in_err-class t c =
    let p = program_of c.args.system.now in
    let texts = text_of p in
    let i = c.args.name.now in
    subst (λ (o : Option ClassId). IsInstanceOf p (instance_named texts i) o) (sym c.from_residual.ensures) (no_owner p i.attr.0 (reference_named texts i.node) (arguments_named texts i.args) c.in_err-class.ensures)

pub instance_class-returns-then-are_for : goal.instance_class-returns-then-are_for
instance_class-returns-then-are_for t c =
    let p = program_of c.args.system.now in
    let texts = text_of p in
    let i = c.args.name.now in
    let d = c.attr-declared.result.now in
    let declared = subst (λ (r : RuleSet). option_map (λ (x : Attribute). x.declared) (slice_get r.attributes i.attr.0) ≡ Some d) c.rules-rules.ensures c.attr-declared.ensures in
    let below : is_sub p.grammar c.in_ok-class.class.0 d.class.0 ≡ true = ap (λ (g : List Class). is_sub g c.in_ok-class.class.0 d.class.0) (sym c.grammar.ensures) ∙ sym c.is_sub.ensures.flag ∙ c.if-is_sub.true in
    instance_with p i.attr.0 (reference_named texts i.node) (arguments_named texts i.args) d c.in_ok-class.class declared c.in_ok-class.ensures below (c.are_for.ensures.0 c.if-are_for.true)

pub instance_class-returns-else-is_sub : goal.instance_class-returns-else-is_sub
instance_class-returns-else-is_sub t c =
    let p = program_of c.args.system.now in
    let texts = text_of p in
    let i = c.args.name.now in
    let d = c.attr-declared.result.now in
    let declared = subst (λ (r : RuleSet). option_map (λ (x : Attribute). x.declared) (slice_get r.attributes i.attr.0) ≡ Some d) c.rules-rules.ensures c.attr-declared.ensures in
    elim c.else-is_sub.branch [
      | instance_class-else-is_sub-via-then-is_sub+else-are_for w ↦ other_arguments p i.attr.0 (reference_named texts i.node) (arguments_named texts i.args) d w.are_for.result declared w.are_for.ensures w.if-are_for.false
      | instance_class-else-is_sub-via-else-is_sub w ↦
          let below : is_sub p.grammar c.in_ok-class.class.0 d.class.0 ≡ false = ap (λ (g : List Class). is_sub g c.in_ok-class.class.0 d.class.0) (sym c.grammar.ensures) ∙ sym c.is_sub.ensures.flag ∙ w.if-is_sub.false in
          other_class p i.attr.0 (reference_named texts i.node) (arguments_named texts i.args) d c.in_ok-class.class declared c.in_ok-class.ensures below
    ]

pub is_for-returns-in_default : goal.is_for-returns-in_default
is_for-returns-in_default t c =
    let p = program_of c.args.system.now in
    let texts = text_of p in
    subst (λ (x : NamedArg). IsForKind p c.args.kind (argument_named texts x) false) (sym c.in-Node.is) (none_for p c.args.kind (reference_named texts c.in-Node.node) c.in_default.ensures)

pub is_for-returns-in-Truth : goal.is_for-returns-in-Truth
is_for-returns-in-Truth t c =
    let p = program_of c.args.system.now in
    let texts = text_of p in
    subst (λ (x : NamedArg). IsForKind p c.args.kind (argument_named texts x) c.is_truth.result) (sym c.in-Truth.is) (truth_for p c.args.kind c.in-Truth.field-0 c.is_truth.result c.is_truth.ensures)

pub is_for-returns-in-Int : goal.is_for-returns-in-Int
is_for-returns-in-Int t c =
    let p = program_of c.args.system.now in
    let texts = text_of p in
    let fits : SFits w32 c.in-Int.value = search rules in
    subst (λ (x : NamedArg). IsForKind p c.args.kind (argument_named texts x) c.is_int.result) (sym c.in-Int.is) (int_for p c.args.kind c.in-Int.value c.is_int.result (int_wrap_fits w32 c.in-Int.value fits) c.is_int.ensures)

pub is_for-returns-in-Text : goal.is_for-returns-in-Text
is_for-returns-in-Text t c =
    let p = program_of c.args.system.now in
    let texts = text_of p in
    subst (λ (x : NamedArg). IsForKind p c.args.kind (argument_named texts x) c.is_text.result) (sym c.in-Text.is) (text_for p c.args.kind c.in-Text.field-0.0 c.is_text.result (texts_pooled c.args.system.now) c.is_text.ensures)

pub is_for-returns-in-Some-node_class : goal.is_for-returns-in-Some-node_class
is_for-returns-in-Some-node_class t c =
    let p = program_of c.args.system.now in
    let texts = text_of p in
    let below = c.is_sub.ensures.flag ∙ ap (λ (g : List Class). is_sub g c.in-Some-node_class.class.0 c.in-Some.wanted.0) c.grammar.ensures in
    subst (λ (x : NamedArg). IsForKind p c.args.kind (argument_named texts x) c.is_sub.result) (sym c.in-Node.is) (some_for p c.args.kind (reference_named texts c.in-Node.node) c.in-Some.wanted c.in-Some-node_class.class c.is_sub.result c.in-Some.ensures c.in-Some-node_class.ensures below)

pub is_for-returns-in-None : goal.is_for-returns-in-None
is_for-returns-in-None t c =
    let p = program_of c.args.system.now in
    let texts = text_of p in
    subst (λ (x : NamedArg). IsForKind p c.args.kind (argument_named texts x) c.is_null.result) (sym c.in-Node.is) (other_for p c.args.kind (reference_named texts c.in-Node.node) c.in-Some.wanted c.is_null.result c.in-Some.ensures c.in-None.ensures (c.is_null.ensures texts))

pub node_class-returns-in_err-owner-in-Made : goal.node_class-returns-in_err-owner-in-Made
node_class-returns-in_err-owner-in-Made t c =
    let p = program_of c.args.system.now in
    let texts = text_of p in
    let i = c.in-Made.maker.value in
    let none = subst (λ (x : NamedInstance). IsInstanceOf p (instance_named texts x) None) c.deref.ensures c.in_err-owner-in-Made.ensures in
    subst (λ (o : Option ClassId). IsNodeWith p (reference_named texts c.args.name.now) o) (sym c.from_residual.ensures)
    (subst (λ (x : NodeName). IsNodeWith p (reference_named texts x) None) (sym c.in-Made.is) (no_maker p i.attr.0 (reference_named texts i.node) (arguments_named texts i.args) c.in-Made.position none))

pub node_class-attr-requires : goal.node_class-attr-requires
node_class-attr-requires t c =
    let p = program_of c.args.system.now in
    let texts = text_of p in
    let i = c.in-Made.maker.value in
    let there = subst (λ (x : NamedInstance). IsInstanceOf p (instance_named texts x) (Some c.in_ok-owner-in-Made.owner)) c.deref.ensures c.in_ok-owner-in-Made.ensures in
    let at = attribute_at p i.attr.0 (reference_named texts i.node) (arguments_named texts i.args) there.0 in
    let found = some_of (λ (x : Attribute). x.declared) (slice_get p.rules.attributes i.attr.0) at.declared at.of in
    let within = slice_get_within p.rules.attributes i.attr.0 found.0 found.1 in
    subst (λ (x : NamedInstance). x.attr.0 < length c.rules.result.now.attributes.attributes) (sym c.deref-in-Made.ensures) (subst (λ (r : RuleSet). i.attr.0 < length r.attributes) (sym c.rules.ensures) within)

pub node_class-returns-then-number-len : goal.node_class-returns-then-number-len
node_class-returns-then-number-len t c =
    let p = program_of c.args.system.now in
    let texts = text_of p in
    let class = subst (λ (ns : List Node). class_in ns c.in-Source.number ≡ Some c.class_of.result) c.tree-tree.ensures c.class_of.ensures in
    subst (λ (x : NodeName). IsNodeWith p (reference_named texts x) (Some c.class_of.result)) (sym c.in-Source.is) (source_with p c.in-Source.number c.class_of.result class)

pub node_class-returns-else-not-is_higher_order : goal.node_class-returns-else-not-is_higher_order
node_class-returns-else-not-is_higher_order t c =
    let p = program_of c.args.system.now in
    let texts = text_of p in
    let i = c.in-Made.maker.value in
    let d = c.attr.result.now in
    let there = subst (λ (x : NamedInstance). IsInstanceOf p (instance_named texts x) (Some c.in_ok-owner-in-Made.owner)) c.deref.ensures c.in_ok-owner-in-Made.ensures in
    let declared =
    subst (λ (x : NamedInstance). declared_of p x.attr.0 ≡ Some d) c.deref-in-Made.ensures (subst (λ (r : RuleSet). option_map (λ (x : Attribute). x.declared) (slice_get r.attributes c.deref-in-Made.result.now.attr.0) ≡ Some d) c.rules.ensures c.attr.ensures)
    in
    let class = subst (λ (x : NamedInstance). c.class_made.result ≡ class_in (tree_or_none (making_at p x.attr.0 c.in_ok-owner-in-Made.owner)) c.in-Made.position) c.deref-in-Made-2.ensures c.class_made.ensures in
    subst (λ (x : NodeName). IsNodeWith p (reference_named texts x) c.class_made.result) (sym c.in-Made.is)
    (made_with p i.attr.0 (reference_named texts i.node) (arguments_named texts i.args) c.in-Made.position d c.in_ok-owner-in-Made.owner c.class_made.result declared (sym c.if-not-is_higher_order.ensures) there class)
