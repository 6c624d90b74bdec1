use Rattle.std.proofs.Common.{arith, rules, List, [], ◌∷◌, ◌++◌, ◌+◌, ℕ, ap, refl, subst, sym, ◌∙◌}
use Rattle.std.proofs.lemmas.Int.{to_z-of_z}
use mir.Syntax.{w32}
use mir.Val.{SFits}
use Rattle.equation_law.specs.Checked.{IsInstance}
use Rattle.equation_law.specs.Program.{text_of}
use Rattle.equation_law.specs.Systems.{program_of}
use Rattle.equation_law.specs.Values.{Int}
use Rattle.equation_law.proofs.Pooled.{first_text}
use Rattle.made_trees.specs.Made.{naming_by_makers}
use Rattle.plain_rounds.specs.declared.naming.NamedArg.{NamedArg}
use Rattle.plain_rounds.specs.declared.naming.NamedArgs.{NamedArgs}
use Rattle.plain_rounds.specs.declared.naming.NamedInstance.{NamedInstance}
use Rattle.plain_rounds.specs.declared.naming.NodeName.{NodeName}
use Rattle.plain_rounds.specs.Coding.{AreArgumentsCoded, AreSomeArguments, IsArgumentCoded, IsInstanceCoded, IsNodeCoded, IsSomeNode}
use Rattle.plain_rounds.specs.Named.{argument_named, arguments_named, instance_named, reference_named}
use Rattle.made_trees.proofs.Following.{follow_more, follow_on}
use Rattle.plain_rounds.proofs.Coded.{added, argument_kept, coded_kept, first_of, instance_coded, int_coded, node_argument, makers_of, node_kept, parts, rest_of, some_parts, source_coded, source_few, text_coded, three_coded, truth_coded, two_coded}
use Rattle.plain_rounds.proofs.Sizes.{maker_smaller, one_smaller, owner_smaller, three_smaller, two_smaller}
use Rattle.plain_rounds.proofs.coding.+codes.Goals as goal

pub argument_code-returns-in-Truth-clause-code : goal.argument_code-returns-in-Truth-clause-code
argument_code-returns-in-Truth-clause-code t c =
    let p = program_of c.args.system.now in
    let ms = c.args.makers.now.makers in
    subst (λ (x : NamedArg). IsArgumentCoded p ms (argument_named (text_of p) x) c.code.result) (sym c.in-Truth.is)
    (truth_coded p ms c.in-Truth.value c.code.result c.code.ensures.small (c.code.ensures.value (naming_by_makers p ms) (first_text c.args.system.now) refl))

pub argument_code-returns-in-Int-clause-code : goal.argument_code-returns-in-Int-clause-code
argument_code-returns-in-Int-clause-code t c =
    let p = program_of c.args.system.now in
    let ms = c.args.makers.now.makers in
    let fits : SFits w32 c.in-Int.value = search rules in
    let back = to_z-of_z w32 c.in-Int.value fits in
    subst (λ (x : NamedArg). IsArgumentCoded p ms (argument_named (text_of p) x) c.code-in-Int.result) (sym c.in-Int.is)
    (int_coded p ms c.in-Int.value c.code-in-Int.result c.code-in-Int.type_inv (c.code-in-Int.ensures.value (naming_by_makers p ms) (first_text c.args.system.now) refl ∙ ap Int back))

pub argument_code-returns-in-Text-clause-code : goal.argument_code-returns-in-Text-clause-code
argument_code-returns-in-Text-clause-code t c =
    let p = program_of c.args.system.now in
    let ms = c.args.makers.now.makers in
    subst (λ (x : NamedArg). IsArgumentCoded p ms (argument_named (text_of p) x) c.text_code.result) (sym c.in-Text.is) (text_coded p ms c.text_code.result c.in-Text.number.0 c.text_code.ensures.within c.text_code.ensures.text)

pub argument_code-returns-in_ok-node_code-in-Node-clause-code : goal.argument_code-returns-in_ok-node_code-in-Node-clause-code
argument_code-returns-in_ok-node_code-in-Node-clause-code t c =
    let p = program_of c.args.system.now in
    let ms = c.node_code.new.makers.makers in
    subst (λ (x : NamedArg). IsArgumentCoded p ms (argument_named (text_of p) x) c.in_ok-node_code-in-Node.field-0.0) (sym c.in-Node.is)
    (node_argument p ms (reference_named (text_of p) c.in-Node.node) c.in_ok-node_code-in-Node.field-0.0 (search rules) c.in_ok-node_code-in-Node.ensures.code)

pub argument_codes-argument_code-requires : goal.argument_codes-argument_code-requires
argument_codes-argument_code-requires t c =
    let p = program_of c.args.system.now in
    let there = subst (λ (l : NamedArgs). AreSomeArguments p (arguments_named (text_of p) l)) c.in-One.is c.requires.there in
    let smaller = one_smaller c.args.arguments.now c.in-One.x c.in-One.is in
    (omega (arith, smaller), (c.requires.same, (c.requires.trees, first_of p _ _ there)))

pub argument_codes-argument_code-requires-in-Two : goal.argument_codes-argument_code-requires-in-Two
argument_codes-argument_code-requires-in-Two t c =
    let p = program_of c.args.system.now in
    let there = subst (λ (l : NamedArgs). AreSomeArguments p (arguments_named (text_of p) l)) c.in-Two.is c.requires.there in
    let smaller = two_smaller c.args.arguments.now c.in-Two.x c.in-Two.y c.in-Two.is in
    (omega (arith, smaller), (c.requires.same, (c.requires.trees, first_of p _ _ there)))

pub argument_codes-argument_code-requires-in-Two-2 : goal.argument_codes-argument_code-requires-in-Two-2
argument_codes-argument_code-requires-in-Two-2 t c =
    let p = program_of c.args.system.now in
    let there = subst (λ (l : NamedArgs). AreSomeArguments p (arguments_named (text_of p) l)) c.in-Two.is c.requires.there in
    let smaller = two_smaller c.args.arguments.now c.in-Two.x c.in-Two.y c.in-Two.is in
    (omega (arith, smaller), (c.in_ok-first-in-Two.ensures.same, (c.in_ok-first-in-Two.ensures.trees, first_of p _ _ (rest_of p _ _ there))))

pub argument_codes-argument_code-requires-in-Three : goal.argument_codes-argument_code-requires-in-Three
argument_codes-argument_code-requires-in-Three t c =
    let p = program_of c.args.system.now in
    let there = subst (λ (l : NamedArgs). AreSomeArguments p (arguments_named (text_of p) l)) c.in-Three.is c.requires.there in
    let smaller = three_smaller c.args.arguments.now c.in-Three.x c.in-Three.y c.in-Three.z c.in-Three.is in
    (omega (arith, smaller), (c.requires.same, (c.requires.trees, first_of p _ _ there)))

pub argument_codes-argument_code-requires-in-Three-2 : goal.argument_codes-argument_code-requires-in-Three-2
argument_codes-argument_code-requires-in-Three-2 t c =
    let p = program_of c.args.system.now in
    let there = subst (λ (l : NamedArgs). AreSomeArguments p (arguments_named (text_of p) l)) c.in-Three.is c.requires.there in
    let smaller = three_smaller c.args.arguments.now c.in-Three.x c.in-Three.y c.in-Three.z c.in-Three.is in
    (omega (arith, smaller), (c.in_ok-first-in-Three.ensures.same, (c.in_ok-first-in-Three.ensures.trees, first_of p _ _ (rest_of p _ _ there))))

pub argument_codes-argument_code-requires-in-Three-3 : goal.argument_codes-argument_code-requires-in-Three-3
argument_codes-argument_code-requires-in-Three-3 t c =
    let p = program_of c.args.system.now in
    let there = subst (λ (l : NamedArgs). AreSomeArguments p (arguments_named (text_of p) l)) c.in-Three.is c.requires.there in
    let smaller = three_smaller c.args.arguments.now c.in-Three.x c.in-Three.y c.in-Three.z c.in-Three.is in
    (omega (arith, smaller), (c.in_ok-second-in-Three.ensures.same, (c.in_ok-second-in-Three.ensures.trees, first_of p _ _ (rest_of p _ _ (rest_of p _ _ there)))))

pub argument_codes-returns-in_err-second-in-Two-clause-follow : goal.argument_codes-returns-in_err-second-in-Two-clause-follow
argument_codes-returns-in_err-second-in-Two-clause-follow t c = follow_on c.argument_code-in-Two.ensures.follow c.argument_code-in-Two-2.ensures.follow

pub argument_codes-returns-in_err-second-in-Three-clause-follow : goal.argument_codes-returns-in_err-second-in-Three-clause-follow
argument_codes-returns-in_err-second-in-Three-clause-follow t c = follow_on c.argument_code-in-Three.ensures.follow c.argument_code-in-Three-2.ensures.follow

pub argument_codes-returns-in_err-third-in-Three-clause-follow : goal.argument_codes-returns-in_err-third-in-Three-clause-follow
argument_codes-returns-in_err-third-in-Three-clause-follow t c = follow_on (follow_on c.argument_code-in-Three.ensures.follow c.argument_code-in-Three-2.ensures.follow) c.argument_code-in-Three-3.ensures.follow

pub argument_codes-returns-in_ok-second-in-Two-clause-follow : goal.argument_codes-returns-in_ok-second-in-Two-clause-follow
argument_codes-returns-in_ok-second-in-Two-clause-follow t c = follow_on c.argument_code-in-Two.ensures.follow c.argument_code-in-Two-2.ensures.follow

pub argument_codes-returns-in_ok-third-in-Three-clause-follow : goal.argument_codes-returns-in_ok-third-in-Three-clause-follow
argument_codes-returns-in_ok-third-in-Three-clause-follow t c = follow_on (follow_on c.argument_code-in-Three.ensures.follow c.argument_code-in-Three-2.ensures.follow) c.argument_code-in-Three-3.ensures.follow

pub argument_codes-returns-in_ok-second-in-Two-clause-codes : goal.argument_codes-returns-in_ok-second-in-Two-clause-codes
argument_codes-returns-in_ok-second-in-Two-clause-codes t c =
    let p = program_of c.args.system.now in
    let texts = text_of p in
    let ms = c.argument_code-in-Two-2.new.makers.makers in
    let codes = c.with-in-Two-2.ensures.codes ∙ ap (λ (l : List ℕ). l ++ c.in_ok-second-in-Two.second ∷ []) (c.with-in-Two.ensures.codes ∙ ap (λ (l : List ℕ). l ++ c.in_ok-first-in-Two.first ∷ []) c.none-in-Two.ensures.codes) in
    subst (λ (l : NamedArgs). AreArgumentsCoded p ms (arguments_named texts l) c.with-in-Two-2.result) (sym c.in-Two.is)
    (c.with-in-Two-2.ensures.row, two_coded p ms _ _ _ _ _ codes (argument_kept p c.in_ok-second-in-Two.ensures.follow c.in_ok-first-in-Two.ensures.code) c.in_ok-second-in-Two.ensures.code)

pub argument_codes-returns-in_ok-third-in-Three-clause-codes : goal.argument_codes-returns-in_ok-third-in-Three-clause-codes
argument_codes-returns-in_ok-third-in-Three-clause-codes t c =
    let p = program_of c.args.system.now in
    let texts = text_of p in
    let ms = c.argument_code-in-Three-3.new.makers.makers in
    let codes =
    c.with-in-Three-3.ensures.codes ∙ ap (λ (l : List ℕ). l ++ c.in_ok-third-in-Three.third ∷ []) (c.with-in-Three-2.ensures.codes ∙ ap (λ (l : List ℕ). l ++ c.in_ok-second-in-Three.second ∷ []) (c.with-in-Three.ensures.codes ∙ ap (λ (l : List ℕ). l ++ c.in_ok-first-in-Three.first ∷ []) c.none-in-Three.ensures.codes))
    in
    let later = c.in_ok-third-in-Three.ensures.follow in
    subst (λ (l : NamedArgs). AreArgumentsCoded p ms (arguments_named texts l) c.with-in-Three-3.result) (sym c.in-Three.is)
    (c.with-in-Three-3.ensures.row, three_coded p ms _ _ _ _ _ _ _ codes (argument_kept p (follow_on c.in_ok-second-in-Three.ensures.follow later) c.in_ok-first-in-Three.ensures.code) (argument_kept p later c.in_ok-second-in-Three.ensures.code) c.in_ok-third-in-Three.ensures.code)

pub instance_code-node_code-requires : goal.instance_code-node_code-requires
instance_code-node_code-requires t c =
    let p = program_of c.args.system.now in
    let texts = text_of p in
    let i = c.args.name.now in
    let smaller = owner_smaller i in
    (omega (arith, smaller), (c.requires.same, (c.requires.trees, (some_parts p i.attr.0 (reference_named texts i.node) (arguments_named texts i.args) c.requires.there).0)))

pub node_code-instance_code-requires : goal.node_code-instance_code-requires
node_code-instance_code-requires t c =
    let p = program_of c.args.system.now in
    let texts = text_of p in
    let i = c.in-Made.maker.value in
    let there = (parts p i.attr.0 (reference_named texts i.node) (arguments_named texts i.args) c.in-Made.position (subst (λ (n : NodeName). IsSomeNode p (reference_named texts n)) c.in-Made.is c.requires.there)).instance in
    let smaller = maker_smaller c.args.name.now c.in-Made.maker c.in-Made.position c.deref.result.now c.in-Made.is c.deref.ensures in
    (omega (arith, smaller), (c.requires.same, (c.requires.trees, subst (λ (x : NamedInstance). IsInstance p (instance_named texts x)) (sym c.deref.ensures) there)))

pub node_code-overflow_add-result : goal.node_code-overflow_add-result
node_code-overflow_add-result t c =
    let p = program_of c.args.system.now in
    let texts = text_of p in
    let i = c.in-Made.maker.value in
    let here = parts p i.attr.0 (reference_named texts i.node) (arguments_named texts i.args) c.in-Made.position (subst (λ (n : NodeName). IsSomeNode p (reference_named texts n)) c.in-Made.is c.requires.there) in
    let coded = subst (λ (x : NamedInstance). IsInstanceCoded p c.instance_code.new.makers.makers (instance_named texts x) c.in_ok-instance-in-Made.instance) c.deref.ensures c.in_ok-instance-in-Made.ensures.code in
    let made =
    added c.args.system.now c.add.new.self c.in_ok-instance-in-Made.instance i.attr.0 (reference_named texts i.node) (arguments_named texts i.args) c.in_ok-root-in-Made.root.0 c.in-Made.position (c.in_ok-root-in-Made.ensures.same ∙ c.in_ok-instance-in-Made.ensures.same) c.in_ok-root-in-Made.ensures.trees
    c.in_ok-root-in-Made.ensures.root (coded_kept p (follow_more c.in_ok-root-in-Made.ensures.more) coded) here.within
    in
    let few = made.fits in
    search (rules, few)

pub node_code-returns-in-Source-clause-code : goal.node_code-returns-in-Source-clause-code
node_code-returns-in-Source-clause-code t c =
    let p = program_of c.args.system.now in
    let texts = text_of p in
    let ms = c.args.makers.now.makers in
    let trees = makers_of c.args.system.now c.args.makers.now c.requires.same c.requires.trees in
    let few = source_few p trees.few c.in-Source.number (subst (λ (n : NodeName). IsSomeNode p (reference_named texts n)) c.in-Source.is c.requires.there) in
    subst (λ (n : NodeName). IsNodeCoded p ms (reference_named texts n) c.of_source.result.0) (sym c.in-Source.is) (source_coded p ms c.in-Source.number c.of_source.result.0 few c.of_source.ensures)

pub node_code-returns-in_ok-root-in-Made-clause-code : goal.node_code-returns-in_ok-root-in-Made-clause-code
node_code-returns-in_ok-root-in-Made-clause-code t c =
    let p = program_of c.args.system.now in
    let texts = text_of p in
    let i = c.in-Made.maker.value in
    let here = parts p i.attr.0 (reference_named texts i.node) (arguments_named texts i.args) c.in-Made.position (subst (λ (n : NodeName). IsSomeNode p (reference_named texts n)) c.in-Made.is c.requires.there) in
    let coded = subst (λ (x : NamedInstance). IsInstanceCoded p c.instance_code.new.makers.makers (instance_named texts x) c.in_ok-instance-in-Made.instance) c.deref.ensures c.in_ok-instance-in-Made.ensures.code in
    let made =
    added c.args.system.now c.add.new.self c.in_ok-instance-in-Made.instance i.attr.0 (reference_named texts i.node) (arguments_named texts i.args) c.in_ok-root-in-Made.root.0 c.in-Made.position (c.in_ok-root-in-Made.ensures.same ∙ c.in_ok-instance-in-Made.ensures.same) c.in_ok-root-in-Made.ensures.trees
    c.in_ok-root-in-Made.ensures.root (coded_kept p (follow_more c.in_ok-root-in-Made.ensures.more) coded) here.within
    in
    subst (λ (n : NodeName). IsNodeCoded p c.add.new.self.makers (reference_named texts n) (c.in_ok-root-in-Made.root.0 + c.in-Made.position)) (sym c.in-Made.is) made.is

pub instance_code-returns-clause-code : goal.instance_code-returns-clause-code
instance_code-returns-clause-code t c =
    let p = program_of c.args.system.now in
    let texts = text_of p in
    let i = c.args.name.now in
    instance_coded p c.argument_codes.new.makers.makers i.attr (reference_named texts i.node) (arguments_named texts i.args) c.in_ok-node.node c.in_ok-args.args c.requires.there (node_kept p c.in_ok-args.ensures.follow c.in_ok-node.ensures.code) c.in_ok-args.ensures.codes

pub instance_code-returns-in_err-args-clause-follow : goal.instance_code-returns-in_err-args-clause-follow
instance_code-returns-in_err-args-clause-follow t c = follow_on c.node_code.ensures.follow c.argument_codes.ensures.follow

pub instance_code-returns-clause-follow : goal.instance_code-returns-clause-follow
instance_code-returns-clause-follow t c = follow_on c.node_code.ensures.follow c.argument_codes.ensures.follow

pub node_code-returns-in_err-root-in-Made-clause-follow : goal.node_code-returns-in_err-root-in-Made-clause-follow
node_code-returns-in_err-root-in-Made-clause-follow t c = follow_on c.instance_code.ensures.follow (follow_more c.add.ensures.more)

pub node_code-returns-in_ok-root-in-Made-clause-follow : goal.node_code-returns-in_ok-root-in-Made-clause-follow
node_code-returns-in_ok-root-in-Made-clause-follow t c = follow_on c.instance_code.ensures.follow (follow_more c.add.ensures.more)
