use Rattle.std.proofs.Common.{◌≡◌, true, false, All, List, ◌+◌, ap, arith, length, map, refl, subst, sym, take, ◌∙◌}
use Rattle.std.proofs.lemmas.List.{take_all}
use Rattle.equation_law.specs.Checked.{IsInstance}
use Rattle.equation_law.specs.Program.{text_of}
use Rattle.equation_law.specs.Systems.{program_of}
use Rattle.plain_rounds.specs.declared.naming.Name.{Name}
use Rattle.plain_rounds.specs.Named.{name_in}
use Rattle.plain_rounds.proofs.Gathered.{all_at, all_more}
use Rattle.plain_rounds.proofs.instances.NameList.are_of.Goals as goal

pub returns-then-not-is_instance : goal.returns-then-not-is_instance
returns-then-not-is_instance c =
    let p = program_of c.args.system.now in
    let names = c.deref-name-items.result.now in (
      λ e. cc,
      λ all.
          let here = subst (λ (xs : List Name). All (IsInstance p) (map (name_in (text_of p)) xs)) (sym c.deref-name-items.ensures.value) all in
          let there = c.is_instance.ensures.1 (subst (λ (n : Name). IsInstance p (name_in (text_of p) n)) (sym c.name-item.is) (all_at (name_in (text_of p)) (IsInstance p) names c.loop-name.name-index c.name-item.result c.loop-name-test.true here)) in
          absurd (let no = c.if-not-is_instance.true in let wrong : true ≡ false = sym there ∙ no in cc),
    )

pub loop-name-preserved : goal.loop-name-preserved
loop-name-preserved c =
    let p = program_of c.args.system.now in
    let names = c.deref-name-items.result.now in
    let k = c.loop-name.name-index in
    let there = c.is_instance.ensures.0 c.if-not-is_instance.false in
    let so_far = subst (λ (xs : List Name). All (IsInstance p) (map (name_in (text_of p)) (take k xs))) (sym c.deref-name-items.ensures.value) c.loop-name.invariant in
    subst (λ (xs : List Name). All (IsInstance p) (map (name_in (text_of p)) (take (k + 1) xs))) c.deref-name-items.ensures.value
    (all_more (name_in (text_of p)) (IsInstance p) names k c.name-item.result c.loop-name-test.true so_far (subst (λ (n : Name). IsInstance p (name_in (text_of p) n)) c.name-item.is there))

pub returns : goal.returns
returns c =
    let p = program_of c.args.system.now in
    let names = c.args.self.now.names.items in
    (λ e. subst (λ (xs : List Name). All (IsInstance p) (map (name_in (text_of p)) xs)) (take_all c.loop-name.name-index names (omega (arith, c.loop-name-test.false, ap length c.deref-name-items.ensures.value))) c.loop-name.invariant, λ all. refl)
