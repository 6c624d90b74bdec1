use Rattle.std.proofs.Common.{rules, ◌≡◌, List, None, Option, ℕ, map, reverse, sym, subst}
use Rattle.equation_law.specs.declared.coding.Instance.{Instance as CodedInstance}
use Rattle.equation_law.specs.Codes.{instance_by}
use Rattle.circular_eval.specs.Advancing.{IsPath}
use Rattle.circular_eval.proofs.Paths.{LeadsOn, no_tail, tail_more, tail_whole}
use Rattle.circular_eval.proofs.local.Local.path.Goals.{in-Some-at+in_default-get_index, in_default-at}
use Rattle.circular_eval.proofs.local.Local.path.Goals as goal

pub loop-at-preserved : goal.loop-at-preserved
loop-at-preserved c =
    let l = c.args.self.now in
    subst (λ (items : List CodedInstance). LeadsOn l c.before-at.result items) (sym c.in_ok-push-2.ensures)
    (tail_more l c.in-Some-at.number c.loop-at.list.items (c.in-Some-get_index.instance.now, c.in-Some-get_index.member.now) c.before-at.result (sym c.in-Some-get_index.ensures.entry) c.before-at.ensures.same c.before-at.ensures.none (subst (λ (o : Option ℕ). LeadsOn l o c.loop-at.list.items) c.in-Some-at.is c.loop-at.invariant))

pub returns : goal.returns
returns c = λ p names f v number need local is.
    let l = c.args.self.now in
    let list = c.loop-at.list.items in
    let turned : c.new-2.result ≡ reverse list = search rules in
    let goes = λ (o : Option ℕ) (same : c.loop-at.at ≡ o). subst (λ (x : Option ℕ). LeadsOn l x list) same c.loop-at.invariant in
    subst (λ (items : List CodedInstance). IsPath p (instance_by p names l.start) (instance_by p names need) (map (instance_by p names) items)) (sym turned)
    (elim c.match-at.branch [
      | in-Some-at+in_default-get_index w ↦ absurd (no_tail l w.in-Some-at.number list (goes _ w.in-Some-at.is) (sym w.in_default-get_index.ensures.entry) p names f v number need local is)
      | in_default-at w ↦ tail_whole l list (goes None w.in_default-at.is) p names f v number need local is
    ])
