use Rattle.std.proofs.Common.{◌≡◌, ℕ, [], ◌∷◌, List, Some, true, false, ap, is_some, length, slice_get, subst, sym, ◌∙◌, arith}
use Rattle.std.proofs.lemmas.List.{length-append}
use Rattle.attr_rules.specs.declared.kinds.Kind.{Kind}
use Rattle.attr_rules.specs.Types.{parameter_kinds}
use Rattle.equation_law.specs.Codes.{codes_in}
use Rattle.equation_law.specs.Names.{Argument, list_of}
use Rattle.equation_law.specs.Program.{attribute_parameters}
use Rattle.equation_law.specs.Reading.{AreKnownCodes, IsKnownCode}
use Rattle.equation_law.specs.Systems.{program_of}
use Rattle.equation_law.proofs.Grown.{codes_known, grows_on}
use Rattle.inherited_walk.proofs.Arguments.{AreRead, StandsAt, as_many, count_is, first_wanted, none_wanted, read_all, read_more}
use Rattle.inherited_walk.proofs.Known.{known_more}
use Rattle.inherited_walk.proofs.climb.made_arguments.Goals as goal

pub loop-node-preserved : goal.loop-node-preserved
loop-node-preserved g c =
    let p = program_of c.args.system.now in
    let ks = attribute_parameters p c.args.maker.0 in
    let cs = codes_in c.loop-node.args in
    let wanted = parameter_kinds c.loop-node.wanted in
    let left = parameter_kinds c.rest-wanted.result in
    let code = c.made_arg.result in
    let sound = c.loop-node.invariant.kept.sound in
    let grows = c.made_arg.ensures.kept p sound in
    let told = c.made_arg.ensures.answer p sound (c.loop-node.invariant.kept.known c.args.node.0 c.requires.known) in
    let some : is_some (slice_get wanted 0) ≡ true = ap is_some (sym c.first_kind.ensures) ∙ sym c.is_some.ensures ∙ c.loop-node-test.true in
    let next = first_wanted wanted left some c.rest-wanted.ensures in
    let place : length cs ≡ c.loop-node.args.count = count_is c.loop-node.args c.loop-node.invariant.row in
    record {
      kept = grows_on c.loop-node.invariant.kept grows;
      row = c.with-args.ensures.row;
      count = omega (arith, c.loop-node.invariant.count, ap length next.1, ap length c.with-args.ensures.codes, length-append cs (code ∷ []));
      read = λ n is o xs q at there.
          let many = as_many (grows.sound.named n is) c.args.node.0 c.args.maker.0 o xs q at in
          let before = subst (AreRead p n ks cs (list_of xs)) next.1 (c.loop-node.invariant.read n (grows.names n is) o xs q at there) in
          let stands = subst (λ (k : ℕ). StandsAt p n ks (list_of xs) k code) (sym place) (λ t x e f. let has = told n is c.args.maker.0 q o xs at there t x e f in (has.0, has.1)) in
          subst (λ (ds : List ℕ). AreRead p n ks ds (list_of xs) left) (sym c.with-args.ensures.codes) (read_more p n ks cs (list_of xs) next.0 left code many before stands);
      known = λ n is o xs q at there.
          let many = as_many (grows.sound.named n is) c.args.node.0 c.args.maker.0 o xs q at in
          let s = g.R.Reader.tells c.made_arg.new.self in
          let before = codes_known grows ks cs (c.loop-node.invariant.known n (grows.names n is) o xs q at there) in
          let here = subst (λ (k : ℕ). (t : Kind) (x : Argument) → slice_get ks k ≡ Some t → slice_get (list_of xs) k ≡ Some x → IsKnownCode s t code) (sym place) (λ t x e f. (told n is c.args.maker.0 q o xs at there t x e f).2) in
          subst (AreKnownCodes s ks) (sym c.with-args.ensures.codes) (known_more p s ks cs (list_of xs) code many here before);
    }

pub returns : goal.returns
returns g c =
    let p = program_of c.args.system.now in
    let ks = attribute_parameters p c.args.maker.0 in
    let cs = codes_in c.loop-node.args in
    let wanted = parameter_kinds c.loop-node.wanted in
    let none : is_some (slice_get wanted 0) ≡ false = ap is_some (sym c.first_kind.ensures) ∙ sym c.is_some.ensures ∙ c.loop-node-test.false in
    record {
      kept = c.loop-node.invariant.kept;
      row = c.loop-node.invariant.row;
      known = c.loop-node.invariant.known;
      are = λ n is o xs q at there.
          let many = as_many (c.loop-node.invariant.kept.sound.named n is) c.args.node.0 c.args.maker.0 o xs q at in
          read_all p n ks cs (list_of xs) many (subst (AreRead p n ks cs (list_of xs)) (none_wanted wanted none) (c.loop-node.invariant.read n is o xs q at there));
    }
