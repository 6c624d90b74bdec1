use Rattle.std.proofs.Common.{[], Some, ap, sym, subst, ◌∙◌, option_map}
use Rattle.ast_grammar.specs.Grammar.{number_of}
use Rattle.broken_rules.specs.Notes.{Notes}
use Rattle.broken_rules.proofs.Noting.{notes_none}
use Rattle.attr_heads.specs.DeclaredNames.{Tells}
use Rattle.attr_heads.specs.Heads.{again_for}
use Rattle.attr_scope.specs.Seen.{seen_head}
use Rattle.attr_heads.proofs.HeadsNoted.{named_noted, told_more, told_same}
use Rattle.attr_heads.proofs.heads.check_named.Goals as goal
use Rattle.attr_heads.proofs.heads.check_named.Goals.{in-Some+in_ok-check_again, in_default}

pub returns-clause-noted : goal.returns-clause-noted
returns-clause-noted c = λ before told long.
    let g = c.args.grammar.now in
    let s = seen_head c.args.head.now in
    elim c.match-check_class.branch [
      | in-Some+in_ok-check_again w ↦
          named_noted g before s (ap (option_map number_of) (sym w.in-Some.is) ∙ c.check_class.ensures.class) long c.check_type.ensures c.check_class.ensures.noted
          (subst (Notes (again_for g before s.signature.name (Some w.in-Some.class.0)) _) (sym w.faults-is) (w.in_ok-check_again.ensures.noted before told)) c.note_if.ensures
      | in_default w ↦
          named_noted g before s (ap (option_map number_of) (sym w.in_default.is) ∙ c.check_class.ensures.class) long c.check_type.ensures c.check_class.ensures.noted
          (subst (Notes [] _) (sym w.faults-is) notes_none) c.note_if.ensures
    ]

pub returns-clause-told : goal.returns-clause-told
returns-clause-told c = λ before told.
    let g = c.args.grammar.now in
    let s = seen_head c.args.head.now in
    elim c.match-check_class.branch [
      | in-Some+in_ok-check_again w ↦ subst (Tells g _) (sym w.declared-is) (told_more g before s c.check_class.ensures.class w.in-Some.is told (w.in_ok-check_again.ensures.kept before told).0 (w.in_ok-check_again.ensures.kept before told).1)
      | in_default w ↦ subst (Tells g _) (sym w.declared-is) (told_same g before s c.check_class.ensures.class w.in_default.is told)
    ]
