use Rattle.std.proofs.Common.{◌≡◌, ℕ, ◌<◌, [], IfOk, Result, Ok, Err, Some, inl, length, arith, refl, sym, subst}
use Rattle.std.specs.Result.{result_ok}
use Rattle.std.proofs.lemmas.Option.{slice_get-get_or}
use Rattle.attr_rules.specs.declared.kinds.Kind.TheVariants as kinds
use Rattle.attr_rules.specs.Expression.{This}
use Rattle.equation_law.specs.declared.system.System.{System}
use Rattle.equation_law.specs.Checked.{IsInstance, of_query}
use Rattle.equation_law.specs.Names.{Query}
use Rattle.equation_law.specs.Program.{Program}
use Rattle.equation_law.specs.Systems.{program_of}
use Rattle.memo_cells.specs.declared.keys.Slot.{Slot}
use Rattle.memo_cells.specs.Keys.{query_word}
use Rattle.memo_cells.specs.Views.{IsSlot}
use Rattle.rag_tests.proofs.cells.claim_query.Goals as goal

-- a query that there is is an instance
query_there : (p : Program) (q : ℕ) → q < length p.queries → IsInstance p (Query q)
query_there p q l = of_query _ (slice_get-get_or p.queries q (record { body = This; kind = kinds.Truth }) l)

pub claim-requires-clause-key : goal.claim-requires-clause-key
claim-requires-clause-key c =
    let there : c.args.query < length (program_of c.args.cells.now.system.value).queries = subst (λ (s : System). c.args.query < length (program_of s).queries) (sym c.requires.system) (omega (arith, c.if-query-replies.false, c.replies.ensures.number)) in
    inl (record {
      of = Query c.args.query;
      instance = query_there (program_of c.args.cells.now.system.value) c.args.query there;
      key = record { prefix = Query c.args.query; of = ([], refl); stands = (omega (arith, c.ranges.query.fits), refl) };
    })

-- what holds of what was answered
ok_is : {T E : Type 0} (P : T → Type 0) (r : Result T E) (x : T) → Some x ≡ result_ok r → IfOk r P → P x
ok_is P (Ok y) x e h = let same : y ≡ x = cc in subst P same h
ok_is P (Err y) x e h = cc

pub word-requires-clause-cell : goal.word-requires-clause-cell
word-requires-clause-cell c =
    let at : IsSlot c.args.cells.now c.claim.new.pass c.in_ok-slot.slot.0 (query_word c.args.query) = ok_is (λ (s : Slot). IsSlot c.args.cells.now c.claim.new.pass s.0 (query_word c.args.query)) c.claim.result c.in_ok-slot.slot c.in_ok-slot.ensures.value c.claim.ensures.slot in
    (Query c.args.query, (query_word c.args.query, (at.0, c.settled-settled.ensures.kept.keys c.in_ok-slot.slot.0 (query_word c.args.query) at.1), (omega (arith, c.ranges.query.fits), refl)))
