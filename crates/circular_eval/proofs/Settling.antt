-- The answers of a reader over a local set.
use Rattle.std.proofs.Common.{◌≡◌, ℕ, true, false, cond, [], ◌∷◌, Option, Some, None, Result, Ok, Err, inl, inr, refl, sym, ap, subst, ◌∙◌}
use Rattle.std.specs.Result.{IsErr}
use Rattle.solutions.proofs.Runs.{ends_more}
use Rattle.rag_io.specs.Pool.{ArePooled}
use Rattle.rag_io.specs.declared.Memory.{Memory}
use Rattle.equation_law.specs.declared.coding.Instance.{Instance as CodedInstance}
use Rattle.equation_law.specs.declared.coding.Value.{Value as CodedValue}
use Rattle.equation_law.specs.declared.system.System.{System}
use Rattle.equation_law.specs.Codes.{AreElements, ByEachNaming, IsCoded, Naming, instance_by, instance_of, source_names, value_by}
use Rattle.equation_law.specs.Equations.{is_declared, kind_in}
use Rattle.equation_law.specs.Names.{Instance, same_instance}
use Rattle.equation_law.specs.Orders.{FitsKind}
use Rattle.equation_law.specs.Program.{Program, text_of}
use Rattle.equation_law.specs.Reading.{IsSound, KnowsValue, SettledBy, Settles, Told}
use Rattle.equation_law.specs.Systems.{program_of}
use Rattle.equation_law.specs.Values.{Value, as_kind}
use Rattle.equation_law.proofs.Bare.{no_right_side}
use Rattle.equation_law.proofs.Names.{same_instance_is}
use Rattle.equation_law.proofs.Pooled.{texts_pooled}
use Rattle.expr_eval.specs.declared.sites.Turn.{Turn}
use Rattle.expr_eval.specs.declared.sites.Turn.TheVariants as turns
use Rattle.expr_eval.specs.Evaluating.{AnswersTurn}
use Rattle.expr_eval.specs.Sites.{instance_reads}
use Rattle.expr_eval.proofs.Knowing.{value_in, value_known}
use Rattle.made_trees.specs.Made.{naming_by_makers}
use Rattle.memo_cells.specs.Agreeing.{IsKnownValue}
use Rattle.memo_cells.specs.Working.{ByEachAt, Held, IsOwn, ReadsOn, TellsPass, program_at}
use Rattle.memo_cells.proofs.Agreeing.{own_open}
use Rattle.circular_eval.specs.Local.{AreKept, AreReadable, IsMemberOf, Members, here, local_value, settled}
use Rattle.circular_eval.specs.Looking.{ComesTo, told_here}
use Rattle.circular_eval.specs.Sealed.{IsMemberAt}
use Rattle.circular_eval.proofs.Entries.{at_has}
use Rattle.circular_eval.proofs.Going.{program_on}
use Rattle.circular_eval.proofs.Knowing.{instance_back, instance_told, value_back, value_told}
use Rattle.circular_eval.proofs.Resuming.{other_entry}
use Rattle.circular_eval.proofs.Looking.{fits_read, here_grows, here_same, known_read, none_read, work_reads, work_sound}
use Rattle.circular_eval.proofs.Tied.{declared_same, halts_same, reads_each}

settles_err : {S : Type 0} (p : Program) (s : Told S) (at : Naming → Instance) (r : Result (Option CodedValue) Memory) → IsErr r → Settles p s at r
settles_err p s at (Ok x) e = cc
settles_err p s at (Err m) e = tt

-- the value of a member is of its type
local_fits : (p : Program) (names : Naming) (es : Members) (j : Instance) → AreKept p names es → IsMemberOf p names es j → FitsKind (kind_in p j) (local_value p names es j)
local_fits p names [] j kept (e, there, is) = absurd there
local_fits p names (d ∷ es) j kept (e, there, is) =
    elim (same_instance j (instance_by p names d.0)) as (λ b. same_instance j (instance_by p names d.0) ≡ b → FitsKind (kind_in p j) (cond b (value_by names d.1.value) (local_value p names es j))) [
      | true ↦ λ h. subst (λ (i : Instance). FitsKind (kind_in p i) (value_by names d.1.value)) (sym (same_instance_is j (instance_by p names d.0) h)) (kept d (inl refl)).2
      | false ↦ λ h. local_fits p names es j (λ x q. kept x (inr q)) (e, other_entry p names d e es j there is h, is)
    ] refl

-- an answer for the program of what is held
here_settles : {S : Type 0} (d : Held) (s : System) (es : Members) (keeps : S → Type 0) (i : CodedInstance) (result : Result (Option CodedValue) Memory) (p : Program) → p ≡ program_at d → Settles (program_at d) (told_here d s es keeps) (λ n. instance_by (program_at d) n i) result → Settles p (told_here d s es keeps) (λ n. instance_by p n i) result
here_settles d s es keeps i result p same h = subst (λ (q : Program). Settles q (told_here d s es keeps) (λ n. instance_by q n i) result) (sym same) h

-- where memory is wanting
pub same_settles : {S : Type 0} (d : Held) (s : System) (es : Members) (keeps : S → Type 0) (i : CodedInstance) (r : Result (Option CodedValue) Memory) → IsErr r → SettledBy (told_here d s es keeps) (told_here d s es keeps) i r
same_settles d s es keeps i r e = record {
  kept = λ p sound. here_same d s es keeps p sound;
  answer = λ p sound coded known. settles_err p (told_here d s es keeps) (λ n. instance_by p n i) r e;
}

-- what reads with a work goes on
pub reads : {W : Type 0} (held : W → Held) (x y : W) (r t : Told W) → TellsPass held x r → TellsPass held y t → (i : CodedInstance) (result : Result (Option CodedValue) Memory) → SettledBy r t i result → IsOwn (held x) → ReadsOn (held x) (held y)
reads held x y r t a b i result h own = work_reads held x y r t a b own (h.kept (program_at (held x)) (work_sound held x r a own))

-- What a work has of an undeclared instance by a naming, a reader over a local set has by it.
module _ {W S : Type 0} (held : W → Held) (y : W) (t : Told W) (b : TellsPass held y t) (s : System) (es : Members) (more : S → Type 0) (i : CodedInstance) where
  abbrev q : Program
  q = program_at (held y)

  undeclared_settles : ((names : Naming) → is_declared q (instance_by q names i) ≡ false) → (result : Result (Option CodedValue) Memory) → Settles q t (λ n. instance_by q n i) result → Settles q (told_here (held y) s es more) (λ n. instance_by q n i) result
  undeclared_settles declared (Ok (Some v)) a = (
    λ names agrees.
        let there = a.0 names (b.each names agrees) in
        (there.0, λ others other. settled (declared names) (b.known (instance_by q names i) there.0 there.1), there.2),
    a.1,
    value_told (told_here (held y) s es more) (held y).view.made (λ c k. k) v (value_back t (held y).view.made b.known_alone v a.2),
  )
  undeclared_settles declared (Ok None) a = λ names agrees w h.
      a names (b.each names agrees) w (b.has (instance_by q names i) w (known_read (declared names) (h names agrees)))
  undeclared_settles declared (Err m) a = tt

-- of an undeclared instance, what the work answers
pub work_settles : {W S : Type 0} (held : W → Held) (x y : W) (r t : Told W) → TellsPass held x r → TellsPass held y t → (s : System) (es : Members) (keeps more : S → Type 0) → ((z : S) → ReadsOn (held x) (held y) → keeps z → more z) → (i : CodedInstance) (result : Result (Option CodedValue) Memory) → is_declared (program_of s) (instance_of (program_of s) i) ≡ false → SettledBy r t i result → SettledBy (told_here (held x) s es keeps) (told_here (held y) s es more) i result
work_settles held x y r t a b s es keeps more goes i result e h = record {
  kept = λ p sound.
      let on = reads held x y r t a b i result h sound.for.2 in
      here_grows (held x) (held y) s es keeps more on (λ z. goes z on) p sound;
  answer = λ p sound coded known.
      let on = reads held x y r t a b i result h sound.for.2 in
      let same : p ≡ program_at (held y) = sound.for.0 ∙ sym (program_on (held x) (held y) on.on) in
      let here : program_of s ≡ program_at (held y) = sym (ap program_of sound.for.1) ∙ sym (program_on (held x) (held y) on.on) in
      let work = work_sound held x r a sound.for.2 in
      let told : Settles p t (λ n. instance_by p n i) result = h.answer p (subst (λ (q : Program). IsSound q r) (sym sound.for.0) work) coded (instance_told r (held x).view.made a.knows p i (instance_back (told_here (held x) s es keeps) (held x).view.made (λ c k. k) p i known)) in
      let undeclared = subst (λ (q : Program). is_declared q (instance_of q i) ≡ false) here e in
      here_settles (held y) s es more i result p same
      (undeclared_settles held y t b s es more i
      (λ names. declared_same (program_at (held y)) names (source_names (text_of (program_at (held y)))) i ∙ undeclared)
      result (subst (λ (q : Program). Settles q t (λ n. instance_by q n i) result) same told));
}

-- the program of what is held, and the members there
module _ {S : Type 0} (d : Held) (s : System) (es : Members) (keeps : S → Type 0) (i : CodedInstance) (declared : is_declared (program_of s) (instance_of (program_of s) i) ≡ true) where
  abbrev held_program : Program
  held_program = program_at d

  module _ (p : Program) (sound : IsSound p (told_here d s es keeps)) (coded : IsCoded p i) where
    readable : AreReadable held_program d.view.made es
    readable = subst (λ (u : Program). AreReadable u d.view.made es) sound.for.0 sound.for.3

    good : IsCoded held_program i
    good = subst (λ (u : Program). IsCoded u i) sound.for.0 coded

    declared_by : (names : Naming) → is_declared held_program (instance_by held_program names i) ≡ true
    declared_by names =
        let same : program_of s ≡ held_program = sym (ap program_of sound.for.1) in
        declared_same held_program names (source_names (text_of held_program)) i ∙ subst (λ (u : Program). is_declared u (instance_of u i) ≡ true) same declared

  -- of a member, a copy of its value
  pub member_settles : (x y : CodedValue) (number : ℕ) → IsMemberAt es number i y → ((names : Naming) → value_by names x ≡ value_by names y) → ((p : Program) (names : Naming) → IsMemberOf p names es (instance_by p names i)) → ((p : Program) → ArePooled p.texts → IsCoded p i → ByEachNaming p (λ names. AreKept p names es → local_value p names es (instance_by p names i) ≡ value_by names x)) → ((p : Program) (names : Naming) → AreKept p names es → AreElements p x) → SettledBy (told_here d s es keeps) (told_here d s es keeps) i (Ok (Some x))
  member_settles x y number there copied member is elements = record {
    kept = λ p sound. here_same d s es keeps p sound;
    answer = λ p sound coded known.
        let q = held_program in
        let own : IsOwn d = sound.for.2 in
        let all = readable p sound coded in
        let found : KnowsValue (told_here d s es keeps) y = value_told (told_here d s es keeps) d.view.made (λ c k. k) y (subst (λ (z : CodedValue). IsKnownValue d.view.made z) there.value (all.1 there.entry (at_has es number there.entry there.at)).1) in
        here_settles d s es keeps i (Ok (Some x)) p sound.for.0 (
          λ names agrees.
              let j = instance_by q names i in
              let kept = all.0 names agrees in
              let value = is q (texts_pooled d.frame.system.value) (good p sound coded) names agrees.named kept in
              let fits = subst (λ (y : Value). FitsKind (kind_in q j) y) value (local_fits q names es j kept (member q names)) in (
                local_value q names es j,
                reads_each q d.view es all agrees j (local_value q names es j) (here (declared_by p sound coded names) (member q names)),
                sym (ap (as_kind (kind_in q j)) value ∙ fits_read (kind_in q j) (value_by names x) fits),
              ),
          elements q (naming_by_makers q d.view.made) (all.0 (naming_by_makers q d.view.made) (own_open d.frame d.view [] own)),
          value_known sound x (λ names named. copied names) (value_in sound y found),
        );
  }

  -- of another circular instance, nothing
  pub none_settles : ((p : Program) → ArePooled p.texts → IsCoded p i → ByEachNaming p (λ names. AreKept p names es → ¬ IsMemberOf p names es (instance_by p names i))) → SettledBy (told_here d s es keeps) (told_here d s es keeps) i (Ok None)
  none_settles none = record {
    kept = λ p sound. here_same d s es keeps p sound;
    answer = λ p sound coded known.
        here_settles d s es keeps i (Ok None) p sound.for.0
        (λ names agrees w h.
        none_read (declared_by p sound coded names) (none held_program (texts_pooled d.frame.system.value) (good p sound coded) names agrees.named ((readable p sound coded).0 names agrees)) (h names agrees));
  }

-- what an evaluation came to, by what was read at its end
came_to : {S : Type 0} (e : Held) (s : System) (es : Members) (keeps : S → Type 0) (i : CodedInstance) (turn : Turn) → IsOwn e → AreReadable (program_at e) e.view.made es → AnswersTurn (program_at e) (told_here e s es keeps) (instance_reads (program_at e) i) (Ok turn) → ByEachAt e (λ names. ComesTo (program_at e) names e.view es (instance_by (program_at e) names i) turn)
came_to e s es keeps i (turns.Done x) own all a names agrees =
    let came = a.comes names agrees in
    ((came.0, ends_more (λ j w h. h names agrees) came.1), a.coded, value_back (told_here e s es keeps) e.view.made (λ c k. k) x a.known)
came_to e s es keeps i (turns.Need n) own all a names agrees =
    let wanted = a.wants names agrees in
    ((wanted.0, halts_same (λ j w h. h names agrees) (λ j w h. reads_each (program_at e) e.view es all agrees j w h) wanted.1), a.coded, instance_back (told_here e s es keeps) e.view.made (λ c k. k) (program_at e) n a.known)
came_to e s es keeps i (turns.Image t) own all a names agrees = absurd (no_right_side (program_at e) own.bare t.equation.0 a.making a.is)

pub came_here : {S : Type 0} (p : Program) (e : Held) (s : System) (es : Members) (keeps : S → Type 0) (i : CodedInstance) (turn : Turn) → p ≡ program_at e → IsOwn e → AreReadable p e.view.made es → AnswersTurn p (told_here e s es keeps) (instance_reads p i) (Ok turn) → ByEachAt e (λ names. ComesTo (program_at e) names e.view es (instance_by (program_at e) names i) turn)
came_here p e s es keeps i turn same own all a =
    came_to e s es keeps i turn own (subst (λ (q : Program). AreReadable q e.view.made es) same all)
    (subst (λ (q : Program). AnswersTurn q (told_here e s es keeps) (instance_reads q i) (Ok turn)) same a)
