-- What asking for an instance says, at each way out.
use Rattle.std.proofs.Common.{◌≡◌, ℕ, ◌⊎◌, inl, inr, ⊎_elim, true, false, ◌||◌, List, [], ◌∷◌, ◌++◌, map, Result, Ok, Err, refl, ap, sym, subst, ◌∙◌, arith}
use Rattle.std.specs.List.{list_any}
use Rattle.std.specs.Result.{IsErr, IsErrAnd}
use Rattle.attr_rules.specs.declared.kinds.Kind.{Kind}
use Rattle.attr_rules.specs.Rules.{is_single}
use Rattle.solutions.specs.Leading.{none}
use Rattle.equation_law.specs.declared.coding.Instance.{Instance as CodedInstance}
use Rattle.equation_law.specs.declared.coding.Value.{Value as CodedValue}
use Rattle.equation_law.specs.Checked.{HasSourcesAlone, IsInstance, IsProgram, IsValue, int, node, nodes, text, texts, tree, truth}
use Rattle.equation_law.specs.Codes.{Naming, instance_by}
use Rattle.equation_law.specs.Equations.{HasValue, kind_in}
use Rattle.equation_law.specs.Loops.{HasLoop}
use Rattle.equation_law.specs.Names.{Instance}
use Rattle.equation_law.specs.Program.{Program}
use Rattle.equation_law.specs.Values.{Value, as_kind}
use Rattle.equation_law.specs.contracts.coding.InstancePartialEq.TheImpl as equality
use Rattle.equation_law.proofs.Keys.{key_is}
use Rattle.equation_law.proofs.QueryValues.{value_typed}
use Rattle.equation_law.proofs.Tied.{never_makes}
use Rattle.memo_cells.specs.declared.view.Frame.{Frame}
use Rattle.memo_cells.specs.declared.view.View.{View}
use Rattle.memo_cells.specs.Causes.{IsLogOn}
use Rattle.memo_cells.specs.Claiming.{ClaimsKeys}
use Rattle.memo_cells.specs.Naming.{LacksCell}
use Rattle.memo_cells.specs.Standing.{Knows}
use Rattle.memo_cells.specs.Views.{Has, IsAtLeast}
use Rattle.memo_cells.proofs.Causes.{log_itself}
use Rattle.memo_cells.proofs.Claiming.{claims_same, claims_then}
use Rattle.memo_cells.proofs.More.{at_least_itself}
use Rattle.caller_pass.specs.declared.faults.AskFault.{AskFault}
use Rattle.caller_pass.specs.declared.faults.AskFault.TheVariants.{CellsFull, Circular, Memory}
use Rattle.caller_pass.specs.declared.waiting.Waiter.{Waiter}
use Rattle.caller_pass.specs.Answering.{AnswersFault, AnswersNoted, AnswersSolve, Asks, AsksNoted, AsksNotedByEach, EndsAtLoop, IsCircular, IsLoop, Solves, StopsAt, WasUnsettled}
use Rattle.caller_pass.specs.Knowing.{IsKnownValue}
use Rattle.caller_pass.specs.Noting.{MayNote}
use Rattle.caller_pass.specs.Waiting.{AnswersWait}
use Rattle.caller_pass.proofs.Falling.{unsettled_less}
use Rattle.caller_pass.proofs.Going.{was_within}
use Rattle.caller_pass.proofs.Listing.{map_both}
use Rattle.caller_pass.proofs.Lines.{each_has, ends_has, ends_twice, has_map, same_last}

-- full cells, handed on
pub full_waits : (p : Program) (names : Naming) (f : Frame) (v : View) (es : List (CodedInstance × Waiter)) (next : CodedInstance) (new : List (CodedInstance × Waiter)) (r : Result Waiter AskFault) → IsErr r × IsErrAnd r (λ e. e ≡ CellsFull) → LacksCell p f v (instance_by p names next) → AnswersWait p names f v es next new r
full_waits p names f v es next new (Ok s) h full = let missing = h.0 in cc
full_waits p names f v es next new (Err e) h full = subst (λ x. AnswersWait p names f v es next new (Err x)) (sym h.1) full

-- a loop is answered only where there is one
pub circular_loop : (X : Type 0) (p : Program) (names : Naming) (f : Frame) (v : View) (i : Instance) (e : AskFault) → StopsAt p names f v i e → IsCircular {X = X} (Err e) → HasLoop p i
circular_loop X p names f v i (Circular on chain) a h = ends_has p i _ _ a
circular_loop X p names f v i CellsFull a h = absurd h
circular_loop X p names f v i Memory a h = absurd h

-- a value of a type is read at it as it is, where nothing is made
pub typed_as : (p : Program) → HasSourcesAlone p → (k : Kind) (v : Value) → IsValue p k v → as_kind k v ≡ v
typed_as p bare _ _ (truth b) = refl
typed_as p bare _ _ (int z h) = refl
typed_as p bare _ _ (text t h) = refl
typed_as p bare _ _ (node c r h) = refl
typed_as p bare _ _ (texts s h) = refl
typed_as p bare _ _ (tree c r ts h) = absurd (let made = h.made in let none = never_makes p bare h.attribute h.owner in cc)
typed_as p bare _ _ (nodes c s h) = refl

known_has : (p : Program) → HasSourcesAlone p → (names : Naming) (f : Frame) (v : View) (i : Instance) (x : CodedValue) → IsProgram p → IsInstance p i → IsKnownValue p names v i x → AnswersNoted p names f v i (Ok x)
known_has p bare names f v i x good instance k = (subst (HasValue p i) (sym (k.coded ∙ typed_as p bare (kind_in p i) k.value (value_typed p good i instance k.value k.known.1))) k.known.1, k.known.0, k.elements, k.nodes)

-- the answer that stood there
pub asked_known : (p : Program) → HasSourcesAlone p → (names : Naming) (f : Frame) (v w : View) (i : Instance) (x : CodedValue) (n : ℕ) → IsProgram p → IsInstance p i → IsKnownValue p names w i x → w.claims ≡ v.claims → AsksNoted p names f v w i n n (Ok x)
asked_known p bare names f v w i x n good instance k claims = record {
  answer = known_has p bare names f w i x good instance k;
  circular = λ h. absurd h;
  claims = claims_same p i v w claims;
  known = λ _. (tt, refl);
  loads = inl refl;
  cost = λ _. inl refl;
}

-- a set that couldn't be read
pub asked_unread : (p : Program) (names : Naming) (f : Frame) (v w : View) (i : Instance) (n : ℕ) (r : Result CodedValue AskFault) → IsErr r × IsErrAnd r (λ e. e ≡ Memory) → is_single (kind_in p i) ≡ false → w.claims ≡ v.claims → AsksNoted p names f v w i n n r
asked_unread p names f v w i n (Ok x) h set claims = let missing = h.0 in cc
asked_unread p names f v w i n (Err e) h set claims = subst (λ (d : AskFault). AsksNoted p names f v w i n n (Err d)) (sym h.1)
    (record { answer = tt; circular = λ no. absurd no; claims = claims_same p i v w claims; known = λ _. (set, refl); loads = inl refl; cost = λ ok. cc })

-- what was read before counts too
pub solves_before : (p : Program) (names : Naming) (f : Frame) (v u w : View) (i : Instance) (m n : ℕ) (r : Result Unit AskFault) → IsAtLeast v u → IsLogOn v u → u.claims ≡ v.claims → IsAtLeast u w → Solves p names f u w i m n r → Solves p names f v w i m n r
solves_before p names f v u w i m n r kept log quiet later h = record {
  answer = h.answer;
  claims = claims_then p i i v u w none (claims_same p i v u quiet) later h.claims;
  loads = ⊎_elim inl (λ was. inr (was_within p f v u w w i kept log (at_least_itself w) (log_itself w) was)) h.loads;
  cost = λ ok. ⊎_elim inl (λ few. inr (let less = unsettled_less v u f.cells kept in omega (arith, few, less))) (h.cost ok);
}

module _ (p : Program) (names : Naming) (f : Frame) (v u w : View) (i : Instance) (m n : ℕ) (unknown : ¬ Knows p v i) where
  -- a fault of settling it
  pub asked_fault : (e : AskFault) (s : Result Unit AskFault) → s ≡ Err e → (r : Result CodedValue AskFault) → IsErr r × IsErrAnd r (λ x. x ≡ e) → Solves p names f v w i m n s → AsksNoted p names f v w i m n r
  asked_fault e s is (Ok x) h solved = let missing = h.0 in cc
  asked_fault e s is (Err d) h solved =
      let answer = subst (λ (x : AskFault). StopsAt p names f w i x) (sym h.1) (subst (λ (y : Result Unit AskFault). AnswersSolve p names f w i y) is solved.answer) in
      record { answer = answer; circular = circular_loop CodedValue p names f w i d answer; claims = solved.claims; known = λ k. absurd (unknown k); loads = solved.loads; cost = λ ok. cc }

  -- it is settled, and its value is read
  module _ (done : Unit {0}) (solved : Solves p names f v u i m n (Ok done)) (kept : IsAtLeast u w) (log : IsLogOn u w) (quiet : w.claims ≡ u.claims) where
    loads_all : (n ≡ m) ⊎ WasUnsettled p f v w i
    loads_all = ⊎_elim inl (λ was. inr (was_within p f v v u w i (at_least_itself v) (log_itself v) kept log was)) solved.loads

    claims_all : ClaimsKeys p i v w
    claims_all = claims_then p i i v u w none solved.claims kept (claims_same p i u w quiet)

    pub asked_value : (x : CodedValue) → HasSourcesAlone p → IsProgram p → IsInstance p i → IsKnownValue p names w i x → AsksNoted p names f v w i m n (Ok x)
    asked_value x bare good instance k = record {
      answer = known_has p bare names f w i x good instance k;
      circular = λ h. absurd h;
      claims = claims_all;
      known = λ k. absurd (unknown k);
      loads = loads_all;
      cost = λ ok. ⊎_elim inl (λ few. inr (let less = unsettled_less u w f.cells kept in omega (arith, few, less))) (solved.cost ok);
    }

    pub asked_memory : (r : Result CodedValue AskFault) → IsErr r × IsErrAnd r (λ e. e ≡ Memory) → AsksNoted p names f v w i m n r
    asked_memory (Ok x) h = let missing = h.0 in cc
    asked_memory (Err e) h = subst (λ (d : AskFault). AsksNoted p names f v w i m n (Err d)) (sym h.1)
        (record { answer = tt; circular = λ no. absurd no; claims = claims_all; known = λ k. absurd (unknown k); loads = loads_all; cost = λ ok. cc })

-- ---- what is asked without notes

-- a chain that is whole, or a fault in its place
module _ (p : Program) (names : Naming) (f : Frame) (v w : View) (i : Instance) (m n : ℕ) where
  pub asks_whole : (on : CodedInstance) (chain : List CodedInstance) (e : AskFault) → AsksNoted p names f v w i m n (Err (Circular on chain)) → AnswersFault p names f w i e → Asks p names f v w i m n (Err e)
  asks_whole on chain e h a = record { answer = a; circular = λ _. h.circular tt; claims = h.claims; known = λ k. absurd (h.known k).0; loads = h.loads; cost = λ ok. cc }

  pub asks_value : (x : CodedValue) → AsksNoted p names f v w i m n (Ok x) → Asks p names f v w i m n (Ok x)
  asks_value x h = record { answer = h.answer; circular = h.circular; claims = h.claims; known = h.known; loads = h.loads; cost = h.cost }

  pub asks_full : AsksNoted p names f v w i m n (Err CellsFull) → Asks p names f v w i m n (Err CellsFull)
  asks_full h = record { answer = h.answer; circular = h.circular; claims = h.claims; known = h.known; loads = h.loads; cost = h.cost }

  pub asks_memory : AsksNoted p names f v w i m n (Err Memory) → Asks p names f v w i m n (Err Memory)
  asks_memory h = record { answer = h.answer; circular = h.circular; claims = h.claims; known = h.known; loads = h.loads; cost = h.cost }

-- what the loop of an answer says of the instances in its chain
pub may_note : (p : Program) (f : Frame) (v w : View) (i : CodedInstance) (m n : ℕ) (r : Result CodedValue AskFault) → AsksNotedByEach p f v w i m n r → MayNote p w.made r
may_note p f v w i m n (Ok x) h = tt
may_note p f v w i m n (Err (Circular on chain)) h = λ j there names named.
    each_has p (instance_by p names i) (instance_by p names on) (map (instance_by p names) chain) (h names named).answer (instance_by p names j) (has_map (instance_by p names) chain j there)
may_note p f v w i m n (Err CellsFull) h = tt
may_note p f v w i m n (Err Memory) h = tt

-- a chain whose end stands in it before is a loop
pub round_loop : (p : Program) (names : Naming) (i : Instance) (on : CodedInstance) (chain : List CodedInstance) → EndsAtLoop p i (instance_by p names on) (map (instance_by p names) chain) → (front : List CodedInstance) × Has front on × ((last : CodedInstance) × (chain ≡ front ++ last ∷ [])) → IsLoop p i (instance_by p names on) (map (instance_by p names) chain)
round_loop p names i on chain l (front, there, (last, is)) =
    let parts = ap (map (instance_by p names)) is ∙ map_both (instance_by p names) front (last ∷ []) in
    let same : instance_by p names last ≡ instance_by p names on = same_last (map (instance_by p names) front) l.front (instance_by p names last) (instance_by p names on) (sym parts ∙ l.ends) in
    ends_twice p i (instance_by p names on) (map (instance_by p names) chain) (map (instance_by p names) front) l (parts ∙ ap (λ (j : Instance). map (instance_by p names) front ++ j ∷ []) same) (has_map (instance_by p names) front on there)

-- what is found among the instances of a list stands in it
pub any_has : (xs : List CodedInstance) (x : CodedInstance) → list_any (λ y. equality.ghosts.eq y x) xs ≡ true → Has xs x
any_has [] x e = cc
any_has (y ∷ xs) x e =
    elim (equality.ghosts.eq y x) as (λ b. equality.ghosts.eq y x ≡ b → (b || list_any (λ z. equality.ghosts.eq z x) xs) ≡ true → Has (y ∷ xs) x) [
      | true ↦ λ same _. inl (sym (key_is y x same))
      | false ↦ λ _ later. inr (any_has xs x later)
    ] refl e
