use Rattle.std.proofs.Common.{Ok, subst, sym}
use Rattle.std.proofs.lemmas.Option.{get_or_from_slice_get, slice_get-get_or}
use Rattle.equation_law.specs.declared.coding.Instance.{Instance as CodedInstance}
use Rattle.equation_law.proofs.Grown.{each_instance}
use Rattle.expr_eval.specs.Evaluating.{Evaluates}
use Rattle.expr_eval.specs.Sites.{instance_reads}
use Rattle.plain_rounds.specs.declared.standing.Standing.{Standing}
use Rattle.plain_rounds.specs.Settings.{program_at}
use Rattle.plain_rounds.specs.Standing.{IsTreeOf, IsTreeValue, told_by}
use Rattle.plain_rounds.specs.Steps.{name_at}
use Rattle.plain_rounds.proofs.Told.{done_value, sound, stuck_value, tree_there}
use Rattle.plain_rounds.proofs.Trees.{tree_comes, tree_of}
use Rattle.plain_rounds.proofs.standing.equation_value.Goals as goal

pub evaluate_any-requires-clause-sound : goal.evaluate_any-requires-clause-sound
evaluate_any-requires-clause-sound c = sound (record { setting = c.args.setting.now; values = c.args.values }) c.requires.ready

pub evaluate_any-requires-clause-known : goal.evaluate_any-requires-clause-known
evaluate_any-requires-clause-known c =
    let s = c.args.setting.now in
    each_instance (told_by (record { setting = s; values = c.args.values })) (λ k. tt) (program_at s) _

pub tree_value-requires : goal.tree_value-requires
tree_value-requires c =
    let s = c.args.setting.now in
    let p = program_at s in
    let before : Standing = record { setting = s; values = c.args.values } in
    let after = c.evaluate_any.new.reader in
    let same = get_or_from_slice_get s.names.now c.args.k (name_at s.names.now c.args.k) _ (slice_get-get_or s.names.now c.args.k _ c.requires.within) in
    let e = subst (λ (x : CodedInstance). Evaluates p (told_by before) (told_by after) (instance_reads p x) (Ok c.in_ok-value.field-0)) same c.in_ok-value.ensures in
    subst (λ (x : CodedInstance). IsTreeOf s x c.in-Image.image) (sym same)
    (tree_of before after c.requires.ready c.args.k c.requires.within c.in-Image.image (tree_there p before after (instance_reads p (name_at s.names.now c.args.k)) c.in-Image.image c.in_ok-value.field-0 c.in-Image.is e))

pub returns-in-Done-clause-value : goal.returns-in-Done-clause-value
returns-in-Done-clause-value c =
    let s = c.args.setting.now in
    let p = program_at s in
    let before : Standing = record { setting = s; values = c.args.values } in
    let after = c.evaluate_any.new.reader in
    let same = get_or_from_slice_get s.names.now c.args.k (name_at s.names.now c.args.k) _ (slice_get-get_or s.names.now c.args.k _ c.requires.within) in
    let e = subst (λ (x : CodedInstance). Evaluates p (told_by before) (told_by after) (instance_reads p x) (Ok c.in_ok-value.field-0)) same c.in_ok-value.ensures in
    done_value p before after (instance_reads p (name_at s.names.now c.args.k)) c.in-Done.value c.in_ok-value.field-0 c.in-Done.is e

pub returns-in-Need-clause-value : goal.returns-in-Need-clause-value
returns-in-Need-clause-value c =
    let s = c.args.setting.now in
    let p = program_at s in
    let before : Standing = record { setting = s; values = c.args.values } in
    let after = c.evaluate_any.new.reader in
    let same = get_or_from_slice_get s.names.now c.args.k (name_at s.names.now c.args.k) _ (slice_get-get_or s.names.now c.args.k _ c.requires.within) in
    let e = subst (λ (x : CodedInstance). Evaluates p (told_by before) (told_by after) (instance_reads p x) (Ok c.in_ok-value.field-0)) same c.in_ok-value.ensures in
    stuck_value p before after (instance_reads p (name_at s.names.now c.args.k)) c.in-Need.field-0 c.in_ok-value.field-0 c.in-Need.is e

pub returns-in-Image-clause-value : goal.returns-in-Image-clause-value
returns-in-Image-clause-value c =
    let s = c.args.setting.now in
    let p = program_at s in
    let before : Standing = record { setting = s; values = c.args.values } in
    let after = c.evaluate_any.new.reader in
    let same = get_or_from_slice_get s.names.now c.args.k (name_at s.names.now c.args.k) _ (slice_get-get_or s.names.now c.args.k _ c.requires.within) in
    let e = subst (λ (x : CodedInstance). Evaluates p (told_by before) (told_by after) (instance_reads p x) (Ok c.in_ok-value.field-0)) same c.in_ok-value.ensures in
    tree_comes before after c.requires.ready c.args.k c.requires.within c.in-Image.image (tree_there p before after (instance_reads p (name_at s.names.now c.args.k)) c.in-Image.image c.in_ok-value.field-0 c.in-Image.is e) c.tree_value.result
    (subst (λ (x : CodedInstance). IsTreeValue s x c.in-Image.image c.tree_value.result) same c.tree_value.ensures)
