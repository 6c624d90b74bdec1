-- The setting, and the end.
use Rattle.std.proofs.Common.{◌≡◌, ℕ, All, List, Some, map, slice_get, sym, subst, ap, ◌∙◌}
use Rattle.solutions.specs.Rounds.{RoundsEnd}
use Rattle.equation_law.specs.declared.coding.Instance.{Instance as CodedInstance}
use Rattle.equation_law.specs.Checked.{IsInstance}
use Rattle.equation_law.specs.Codes.{IsCoded, instance_by}
use Rattle.equation_law.specs.Equations.{equations_of}
use Rattle.equation_law.specs.Names.{Instance}
use Rattle.equation_law.specs.Systems.{program_of}
use Rattle.made_trees.specs.Made.{naming_by_makers}
use Rattle.plain_rounds.specs.declared.rounds.Table.{Table}
use Rattle.plain_rounds.specs.Named.{assigned, instances_in, instances_named, value_at, values_in}
use Rattle.plain_rounds.specs.Places.{first_place}
use Rattle.plain_rounds.specs.Trees.{HaveNumbers}
use Rattle.plain_rounds.proofs.Coded.{no_makers}
use Rattle.plain_rounds.proofs.rounds.plain_rounds.Goals as goal

pub codes_of-requires-clause-trees : goal.codes_of-requires-clause-trees
codes_of-requires-clause-trees c = no_makers c.args.system.now c.new-makers.result c.new-makers.ensures.same c.new-makers.ensures.none c.requires.program

pub last_values-requires : goal.last_values-requires
last_values-requires c =
    let p = program_of c.args.system.now in
    let ms = c.codes_of.new.makers.makers in
    let n = naming_by_makers p ms in
    let codes = c.in_ok-codes.ensures.codes in
    let back = sym c.deref-2.ensures.value in
    record {
      trees = c.in_ok-codes.ensures.trees;
      good = c.requires.program;
      coded = subst (All (IsCoded p)) back codes.coded;
      instances = subst (λ (is : List CodedInstance). All (IsInstance p) (map (instance_by p n) is)) back (subst (All (IsInstance p)) (sym (codes.instances ∙ ap (instances_named p) c.list.ensures)) c.requires.instances);
      numbers = subst (HaveNumbers p n ms) back codes.numbers;
      places = λ q. c.in_ok-places.ensures q ∙ ap (λ (is : List CodedInstance). first_place is q) (c.deref.ensures.value ∙ back);
    }

pub returns-clause-solves : goal.returns-clause-solves
returns-clause-solves c =
    let p = program_of c.args.system.now in
    let n = naming_by_makers p c.codes_of.new.makers.makers in
    let t : Table = record { values = c.in_ok-values.values; makers = c.codes_of.new.makers } in
    let listed : map (instance_by p n) c.deref-2.result.now ≡ instances_in p c.args.names.now = ap (map (instance_by p n)) c.deref-2.ensures.value ∙ c.in_ok-codes.ensures.codes.instances ∙ ap (instances_named p) c.list.ensures in
    record {
      program = ap program_of c.in_ok-codes.ensures.same;
      end = subst (λ (is : List Instance). RoundsEnd (equations_of p) is (assigned is (values_in p t))) listed c.in_ok-values.ensures.end;
      each = subst (λ (is : List Instance). (k : ℕ) (i : Instance) → slice_get is k ≡ Some i → value_at p t k ≡ assigned is (values_in p t) i) listed c.in_ok-values.ensures.each;
    }
