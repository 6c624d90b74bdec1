use Rattle.std.proofs.Common.{arith, rules, sym, ◌∙◌}
use Rattle.rag_io.proofs.InLine.{moved_token}
use Rattle.rag_io.proofs.Scanning.{seen_last, seen_more, all_read, bad_here, over_blank, over_token, bad_over_blank, bad_over_token}
use Rattle.rag_io.proofs.scanner.scan.Goals as goal

pub returns-in-Nothing : goal.returns-in-Nothing
returns-in-Nothing c = rw (seen_last _ _ _ c.in_ok-push-in-Nothing.ensures.items) (c.next.invariant.tokens _ (all_read _ _ (sym c.in-Nothing.ensures.value)))

pub next-preserved-in-Blank : goal.next-preserved-in-Blank
next-preserved-in-Blank c = record {
  tokens = λ ts more. c.next.invariant.tokens ts (over_blank _ _ _ _ _ _ c.moved-place.ensures.value c.split_at.ensures.front c.split_at.ensures.back ts (sym c.in-Blank.ensures.value) more);
  bad = λ q more. c.next.invariant.bad q (bad_over_blank _ _ _ _ _ _ c.moved-place.ensures.value c.split_at.ensures.front c.split_at.ensures.back q (sym c.in-Blank.ensures.value) more);
  line = omega arith;
  column = omega arith;
  from_one = omega arith;
}

pub next-preserved : goal.next-preserved
next-preserved c =
    let behind = moved_token c.next.place _ _ _ c.in-Token.kind c.split_at-in-Token.ensures.front (search rules) (sym c.in-Token.ensures.value) in
    let moves = (λ i. record { line = c.further-place.ensures.line i; column = c.further-place.ensures.column i }) ∙ behind in
    record {
      tokens = λ ts more. rw (seen_more _ _ _ ts c.in_ok-push-in-Token.ensures.items)
          (c.next.invariant.tokens _ (over_token _ _ _ _ _ _ moves c.split_at-in-Token.ensures.front c.split_at-in-Token.ensures.back c.in-Token.kind ts (sym c.in-Token.ensures.value) more));
      bad = λ q more. c.next.invariant.bad q (bad_over_token _ _ _ _ _ _ moves c.split_at-in-Token.ensures.front c.split_at-in-Token.ensures.back c.in-Token.kind q (sym c.in-Token.ensures.value) more);
      line = omega arith;
      column = omega arith;
      from_one = omega arith;
    }

pub returns-in-Bad : goal.returns-in-Bad
returns-in-Bad c = c.next.invariant.bad c.next.place (bad_here _ _ (sym c.in-Bad.ensures.value))
