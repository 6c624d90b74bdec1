use Rattle.std.proofs.Common.{◌↔◌, ◌≡◌, Bool, true, false, IsTrue, arith, refl, sym, ◌∙◌, length, ◌<◌}
use Rattle.std.proofs.lemmas.List.{get_or_default}
use Rattle.broken_rules.proofs.Noting.{notes_if}
use Rattle.superclasses.proofs.Lines.{above_line}
use Rattle.superclasses.specs.Superclasses.{IsAbove, is_above}
use Rattle.ast_rules.specs.Superclasses.{own_broken}
use Rattle.ast_rules.specs.Written.{seen_rule}
use Rattle.ast_rules.proofs.Seen.{notes_each_from_seen}
use Rattle.ast_rules.proofs.loops.check_superclasses.Goals as goal

-- two tests of one fact
same_test : (a b : Bool) (P : Type 0) → IsTrue a ↔ P → IsTrue b ↔ P → a ≡ b
same_test true b P f g = sym (g.1 (f.0 refl))
same_test false true P f g = f.1 (g.0 refl)
same_test false false P f g = refl

pub loop-i-preserved : goal.loop-i-preserved
loop-i-preserved c =
    let s = c.args.superclasses.now in
    let i = c.loop-i.i in
    let flag = c.index.result.now in
    let len : length c.in_ok-are_own.are_own.items ≡ length s = sym c.in_ok-are_own.are_own.ok.0 ∙ c.in_ok-are_own.ensures.len in
    let lt : i < length c.in_ok-are_own.are_own.items = omega arith in
    let is : flag ≡ is_above s i i = c.index.ensures ∙ get_or_default c.in_ok-are_own.are_own.items i flag false lt ∙ same_test _ _ (IsAbove s i i) (c.in_ok-are_own.ensures.exact i) (above_line s i i) in
    notes_each_from_seen seen_rule c.args.rules.now i (own_broken s) c.index-rules-i.is (omega arith) c.loop-i.invariant (notes_if flag (is_above s i i) _ is c.note_if.ensures)
