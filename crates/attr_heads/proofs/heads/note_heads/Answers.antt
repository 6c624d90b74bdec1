use Rattle.std.proofs.Common.{map, subst, sym, take}
use Rattle.broken_rules.proofs.Noting.{notes_then}
use Rattle.attr_heads.specs.DeclaredNames.{Tells}
use Rattle.attr_heads.specs.Heads.{head_broken}
use Rattle.attr_heads.specs.FirstInherited.{TellsFirst}
use Rattle.attr_scope.specs.Seen.{seen_head}
use Rattle.attr_scope.proofs.Seen.{length-taken, notes_all_after_seen, notes_each_after_seen, taken}
use Rattle.attr_heads.proofs.heads.note_heads.Goals as goal

pub loop-count-preserved : goal.loop-count-preserved
loop-count-preserved c =
    let i = c.loop-count.count in
    let xs = c.args.heads.now in
    let g = c.args.grammar.now in
    let before = take i (map seen_head xs) in
    let told = c.loop-count.invariant.told in
    let first = c.loop-count.invariant.first in
    let longer = sym (taken seen_head xs i c.index-heads-count.is c.loop-count-test.true) in
    record {
      noted = notes_each_after_seen seen_head xs i (head_broken g) c.index-heads-count.is c.loop-count-test.true c.loop-count.invariant.noted
          (notes_then (c.in_ok-check_named.ensures.noted before told (length-taken seen_head xs i c.loop-count-test.true))
          (notes_then c.check_start.ensures (notes_then c.check_created_type.ensures
          (notes_then (c.in_ok-check_other.ensures.noted before first) (notes_then c.check_collection.ensures c.in_ok-check_own_parameters.ensures)))));
      told = subst (λ zs. Tells g zs c.check_named.new.declared) longer (c.in_ok-check_named.ensures.told before told);
      first = subst (λ zs. TellsFirst zs c.check_other.new.inheriting.heads) longer (c.in_ok-check_other.ensures.told before first);
    }

pub returns : goal.returns
returns c = notes_all_after_seen seen_head c.args.heads.now c.loop-count.count (head_broken c.args.grammar.now) c.loop-count.invariant.noted c.loop-count-test.false
