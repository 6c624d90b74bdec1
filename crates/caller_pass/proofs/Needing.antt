-- Settling what a local set needs.
use Rattle.std.proofs.Common.{◌≡◌, ℕ, ⊎_elim, List, Result, Ok, Err, map, refl, sym, ap, subst, ◌∙◌, arith}
use Rattle.std.specs.Result.{IsErr, IsErrAnd}
use Rattle.equation_law.specs.declared.coding.Instance.{Instance as CodedInstance}
use Rattle.equation_law.specs.Codes.{Naming, instance_by}
use Rattle.equation_law.specs.Names.{Instance}
use Rattle.equation_law.specs.Program.{Program}
use Rattle.equation_law.specs.Systems.{program_of}
use Rattle.memo_cells.specs.declared.view.Frame.{Frame}
use Rattle.memo_cells.specs.declared.view.View.{View}
use Rattle.memo_cells.specs.Claiming.{ClaimsKeys}
use Rattle.memo_cells.specs.Standing.{IsPassOf}
use Rattle.memo_cells.specs.Views.{IsAtLeast}
use Rattle.memo_cells.proofs.Claiming.{fills_more}
use Rattle.circular_eval.specs.declared.local.Local.{Local}
use Rattle.circular_eval.specs.Advancing.{IsMissing}
use Rattle.circular_eval.specs.Local.{IsLocal}
use Rattle.caller_pass.specs.declared.faults.AskFault.{AskFault}
use Rattle.caller_pass.specs.declared.faults.AskFault.TheVariants.{CellsFull, Circular, Memory}
use Rattle.caller_pass.specs.Answering.{StopsAt, EndsAtLoop, LeavesOne, Solves, SolvesFor}
use Rattle.caller_pass.specs.Waiting.{IsBehind, Needed}
use Rattle.caller_pass.proofs.Falling.{unsettled_falls}
use Rattle.caller_pass.proofs.Lines.{ends_behind}
use Rattle.caller_pass.proofs.Listing.{map_both}

module _ (p : Program) (names : Naming) (f : Frame) (v w : View) (l : Local) (n : CodedInstance) (local : IsLocal p names f v l) (missing : IsMissing p names v l n) (before after : ℕ) where
  -- it is settled, which it wasn't before
  pub settled_for : p ≡ program_of f.system.value → IsPassOf f v → IsPassOf f w → IsAtLeast v w → (done : Unit {0}) → Solves p names f v w (instance_by p names n) before after (Ok done) → LeavesOne p f v w (instance_by p names n) before after → SolvesFor p names f v w l (instance_by p names n) before after (Ok done)
  settled_for same own then kept done h leaves =
      let falls = unsettled_falls p f same v w own then kept (instance_by p names n) missing.unknown h.answer in
      record {
        settled = λ ok. h.answer;
        fault = λ e is. cc;
        claims = h.claims;
        cost = λ ok. ⊎_elim (λ none_more. omega (arith, none_more, falls)) (λ few. few) (h.cost ok);
        start = λ ok unknown known. leaves (instance_by p names l.start) missing.reached local.is_circular unknown known;
      }

  for_fault : (d : AskFault) → ClaimsKeys p (instance_by p names n) v w → StopsAt p names f w (instance_by p names l.start) d → SolvesFor p names f v w l (instance_by p names n) before after (Err d)
  for_fault d claims a = record { settled = λ ok. cc; fault = λ e is. let same : d ≡ e = cc in subst (λ (x : AskFault). StopsAt p names f w (instance_by p names l.start) x) same a; claims = claims; cost = λ ok. cc; start = λ ok. cc }

  -- a loop, behind the path to it
  pub loop_for : (on : CodedInstance) (chain whole : List CodedInstance) → Solves p names f v w (instance_by p names n) before after (Err (Circular on chain)) → IsBehind l chain whole → SolvesFor p names f v w l (instance_by p names n) before after (Err (Circular on whole))
  loop_for on chain whole h behind =
      let needed : Needed p names l (instance_by p names n) = record { number = missing.number; coded = n; noted = missing.noted; is = refl } in
      let path = behind.path p names f v (instance_by p names n) local needed in
      let loop = ends_behind p (instance_by p names l.start) (instance_by p names n) (instance_by p names on) (map (instance_by p names) behind.part) (map (instance_by p names) chain) path h.answer in
      let joined = ap (map (instance_by p names)) behind.joined ∙ map_both (instance_by p names) behind.part chain in
      for_fault (Circular on whole) h.claims (subst (λ (c : List Instance). EndsAtLoop p (instance_by p names l.start) (instance_by p names on) c) (sym joined) loop)

  -- another fault
  pub full_for : Solves p names f v w (instance_by p names n) before after (Err CellsFull) → SolvesFor p names f v w l (instance_by p names n) before after (Err CellsFull)
  full_for h = for_fault CellsFull h.claims (fills_more p (instance_by p names l.start) (instance_by p names n) f w missing.reached h.answer)

  pub memory_for : (r : Result Unit AskFault) → ClaimsKeys p (instance_by p names n) v w → IsErr r × IsErrAnd r (λ e. e ≡ Memory) → SolvesFor p names f v w l (instance_by p names n) before after r
  memory_for (Ok x) claims h = let some = h.0 in cc
  memory_for (Err d) claims h = for_fault d claims (subst (λ (x : AskFault). StopsAt p names f w (instance_by p names l.start) x) (sym h.1) tt)
