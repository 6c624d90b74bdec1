-- There is no equation and no contribution.
use Rattle.std.proofs.Common.{◌≡◌, ap, arith, length}
use Rattle.rag_tests.proofs.Contributed.{none_numbered}
use Rattle.rag_tests.proofs.forms.no_rules.Goals as goal

pub of_parts-requires-clause-numbered : goal.of_parts-requires-clause-numbered
of_parts-requires-clause-numbered c =
    let none : length c.new.result.items ≡ 0 = ap length c.new.ensures.items in
    none_numbered (length c.new.result.items) c.new-2.result.items (omega (arith, none)) c.new-2.ensures.items
