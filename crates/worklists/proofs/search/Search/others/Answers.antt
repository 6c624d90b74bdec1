use Rattle.std.proofs.Common.{◌+◌, ◌≡◌, ◌<◌, ◌∙◌, Bool, List, Some, ℕ, ap, false, get_or, length, refl, slice_get, sym, subst, true, arith}
use Rattle.std.proofs.lemmas.Option.{slice_get-get_or}
use Rattle.worklists.proofs.Searching.{AreOthers, others_all, others_more, others_next, others_none}
use Rattle.worklists.proofs.search.Search.others.Goals as goal
use Rattle.worklists.proofs.search.Search.others.Goals.{then-not-found+in-Ok, else-not-found}

there : (bs cs : List Bool) (n : ℕ) → bs ≡ cs → n < length bs → (b : Bool) → get_or bs n false ≡ b → slice_get cs n ≡ Some b
there bs cs n same low b is = subst (λ (ds : List Bool). slice_get ds n ≡ Some b) same (slice_get-get_or bs n false low ∙ ap Some is)

pub loop-number-init : goal.loop-number-init
loop-number-init c = others_none c.args.self.now.found.items c.new-others.result.items c.new-others.ensures.items

pub loop-number-preserved : goal.loop-number-preserved
loop-number-preserved c =
    elim c.if-not-found.branch [
      | then-not-found+in-Ok w ↦
          subst (λ v. AreOthers c.args.self.now.found.items (c.loop-number.number + 1) v.items) (sym w.others-is)
          (others_more c.args.self.now.found.items c.loop-number.number c.loop-number.others.items w.push.new.self.items (there c.deref-found-items.result.now c.args.self.now.found.items c.loop-number.number c.deref-found-items.ensures.value (omega (arith, c.loop-number.auto.number-end, c.loop-number-test.true)) false w.if-not-found.true) w.in-Ok.ensures.items c.loop-number.invariant)
      | else-not-found w ↦
          subst (λ v. AreOthers c.args.self.now.found.items (c.loop-number.number + 1) v.items) (sym w.others-is)
          (others_next c.args.self.now.found.items c.loop-number.number c.loop-number.others.items true (there c.deref-found-items.result.now c.args.self.now.found.items c.loop-number.number c.deref-found-items.ensures.value (omega (arith, c.loop-number.auto.number-end, c.loop-number-test.true)) true w.if-not-found.false) refl c.loop-number.invariant)
    ]

pub returns : goal.returns
returns c = others_all c.args.self.now.found.items c.loop-number.number c.loop-number.others.items (omega (arith, c.loop-number.auto.number-end, c.loop-number-test.false)) c.loop-number.invariant
