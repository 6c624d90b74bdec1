-- Steps of putting a text in pieces.
use Rattle.std.proofs.Common.{◌≡◌, ℕ, ◌+◌, ◌-◌, ◌≤◌, List, ◌++◌, length, take, drop, Option, Some, None, Result, Ok, Err, OnErr, ap, sym, subst, ◌∙◌, append_assoc, arith}
use Rattle.std.proofs.Math.Seq.{take-add}
use Rattle.std.proofs.lemmas.List.{length-take, take-take}
use Rattle.rag_io.specs.declared.sink.PutFault.{PutFault}
use Rattle.rag_io.specs.Outside.{Puts, TookFront}
use Rattle.run_io.specs.Taking.{Took, TookSome}

-- the text up to an index, and so many bytes behind it
joined : (text : List ℕ) (at end count : ℕ) → at ≤ end → count ≤ end - at → take at text ++ take count (take (end - at) (drop at text)) ≡ take (at + count) text
joined text at end count le within =
    ap (λ (t : List ℕ). take at text ++ t) (take-take count (end - at) (drop at text) within) ∙ sym (take-add at count text)

-- one piece more
pub took_more : (old mid new : Option (List ℕ)) (text : List ℕ) (at end : ℕ) → at ≤ end → end ≤ length text
    → (u : Unit {0}) → Took old (take at text) mid → Puts mid new (take (end - at) (drop at text)) (Ok u) → Took old (take end text) new
took_more None mid new text at end le within u before puts = tt
took_more (Some a) mid new text at end le within u before puts =
    let e : at + (end - at) ≡ end = omega arith in
    let pieces : take at text ++ take (end - at) (drop at text) ≡ take end text = sym (take-add at (end - at) text) ∙ ap (λ (n : ℕ). take n text) e in
    let now : new ≡ Some ((a ++ take at text) ++ take (end - at) (drop at text)) = subst (λ (m : Option (List ℕ)). Puts m new (take (end - at) (drop at text)) (Ok u)) before puts in
    now ∙ ap Some (append_assoc a (take at text) (take (end - at) (drop at text)) ∙ ap (λ (t : List ℕ). a ++ t) pieces)

-- a front of one piece more
part_front : (a text : List ℕ) (new : Option (List ℕ)) (at end : ℕ) → at ≤ end → end ≤ length text → TookFront (a ++ take at text) (take (end - at) (drop at text)) new → TookSome (Some a) text new
part_front a text new at end le within front =
    let size : length (take (end - at) (drop at text)) ≤ end - at = simp length-take (omega arith) in
    let count : front.count ≤ end - at = omega (arith, front.within) in
    let texts : (a ++ take at text) ++ take front.count (take (end - at) (drop at text)) ≡ a ++ take (at + front.count) text =
    append_assoc a (take at text) (take front.count (take (end - at) (drop at text))) ∙ ap (λ (t : List ℕ). a ++ t) (joined text at end front.count le count) in
    record { count = at + front.count; within = omega arith; took = front.added ∙ ap Some texts }

pub took_part : (old mid new : Option (List ℕ)) (text : List ℕ) (at end : ℕ) (fault : PutFault) → at ≤ end → end ≤ length text
    → Took old (take at text) mid → Puts mid new (take (end - at) (drop at text)) (Err fault) → TookSome old text new
took_part None mid new text at end fault le within before puts = tt
took_part (Some a) mid new text at end fault le within before puts =
    part_front a text new at end le within (subst (λ (m : Option (List ℕ)). Puts m new (take (end - at) (drop at text)) (Err fault)) before puts)

-- what holds anyway, where a call failed
pub where_err : {T E P : Type 0} (r : Result T E) → P → OnErr r P
where_err (Ok v) p = tt
where_err (Err e) p = p
