use Rattle.std.proofs.Common.{List, [], ◌∷◌, ◌++◌, ◌+◌, arith, map, subst, sym, take}
use Rattle.std.proofs.lemmas.List.{take_all}
use Rattle.equation_law.specs.declared.coding.Instance.{Instance as CodedInstance}
use Rattle.equation_law.specs.Names.{Instance}
use Rattle.equation_law.specs.Checked.{IsInstance}
use Rattle.equation_law.specs.Program.{text_of}
use Rattle.equation_law.specs.Systems.{program_of}
use Rattle.plain_rounds.specs.declared.naming.Name.{Name}
use Rattle.plain_rounds.specs.Coding.{IsNameCoded}
use Rattle.plain_rounds.specs.Named.{name_in}
use Rattle.plain_rounds.proofs.Coded.{AreEachNamed, names_done, names_more}
use Rattle.plain_rounds.proofs.Gathered.{all_at, map_more}
use Rattle.plain_rounds.proofs.coding.codes_of.Goals as goal

pub name_code-requires-clause-there : goal.name_code-requires-clause-there
name_code-requires-clause-there c =
    let p = program_of c.args.system.now in
    subst (λ (n : Name). IsInstance p (name_in (text_of p) n)) (sym c.name-item.is)
    (all_at (name_in (text_of p)) (IsInstance p) c.args.names.now c.loop-name.name-index c.name-item.result c.loop-name-test.true c.requires.there)

pub loop-name-preserved : goal.loop-name-preserved
loop-name-preserved c =
    let p = program_of c.args.system.now in
    let named = name_in (text_of p) in
    let k = c.loop-name.name-index in
    let here = subst (λ (n : Name). IsNameCoded p c.name_code.new.makers.makers (named n) c.in_ok-code.code) c.name-item.is c.in_ok-code.ensures.code in
    let more = names_more p c.in_ok-code.ensures.follow (map named (take k c.args.names.now)) c.loop-name.codes.items _ c.in_ok-code.code c.loop-name.invariant.codes here in
    record {
      same = c.in_ok-code.ensures.same;
      trees = c.in_ok-code.ensures.trees;
      codes = subst (λ (is : List CodedInstance). AreEachNamed p c.name_code.new.makers.makers (map named (take (k + 1) c.args.names.now)) is) (sym c.in_ok-push.ensures.added)
          (subst (λ (xs : List Instance). AreEachNamed p c.name_code.new.makers.makers xs (c.loop-name.codes.items ++ c.in_ok-code.code ∷ [])) (sym (map_more named c.args.names.now k _ c.loop-name-test.true)) more);
    }

pub returns-clause-codes : goal.returns-clause-codes
returns-clause-codes c =
    let p = program_of c.args.system.now in
    let names = c.args.names.now in
    let all = take_all c.loop-name.name-index names (omega (arith, c.loop-name-test.false)) in
    names_done p c.loop-name.makers.makers _ c.loop-name.codes.items (subst (λ (xs : List Name). AreEachNamed p c.loop-name.makers.makers (map (name_in (text_of p)) xs) c.loop-name.codes.items) all c.loop-name.invariant.codes)
