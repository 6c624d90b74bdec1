-- Notes of the values of instances.
use Rattle.std.proofs.Common.{◌≡◌, ◌⊎◌, ◌<◌, ℕ, zero, suc, true, false, cond, List, [], ◌∷◌, length, get_or, Some, Option, IfSome, IfOk, Result, Ok, Err, OnOk, OnErr, HashMap, HashSet, inl, inr, ⊎_elim, refl, sym, ap, subst, subst₂, ◌∙◌, arith}
use Rattle.std.specs.HashMap.{Updates as MapUpdates, IsUnchanged as IsMapUnchanged, get}
use Rattle.std.specs.HashSet.{Updates as SetUpdates, IsUnchanged as IsSetUnchanged, contains}
use Rattle.std.specs.List.{list_any}
use Rattle.std.specs.Result.{result_ok}
use Rattle.rag_io.specs.declared.Memory.{Memory}
use Rattle.std.specs.Map.{lookup}
use Rattle.equation_law.specs.contracts.coding.InstancePartialEq.TheImpl as equality
use Rattle.attr_rules.specs.declared.kinds.Kind.{Kind}
use Rattle.attr_rules.specs.Rules.{is_single}
use Rattle.equation_law.specs.declared.coding.Instance.{Instance as CodedInstance}
use Rattle.equation_law.specs.declared.coding.Value.{Value as CodedValue}
use Rattle.equation_law.specs.Checked.{HasSourcesAlone, IsInstance, IsProgram}
use Rattle.equation_law.specs.Codes.{AreElements, Naming, instance_by, value_by}
use Rattle.equation_law.specs.Equations.{kind_in}
use Rattle.equation_law.specs.Names.{Instance}
use Rattle.equation_law.specs.Program.{Program}
use Rattle.equation_law.proofs.Keys.{key_is}
use Rattle.equation_law.proofs.QueryValues.{value_typed}
use Rattle.made_trees.specs.Made.{Follow}
use Rattle.memo_cells.specs.Agreeing.{Agrees, IsKnownValue as HasKnownNodes}
use Rattle.memo_cells.specs.declared.keys.Slot.{Slot}
use Rattle.memo_cells.specs.declared.view.View.{View}
use Rattle.memo_cells.specs.SetShown.{IsShownValueAt}
use Rattle.memo_cells.specs.Standing.{Knows}
use Rattle.memo_cells.specs.Views.{Has, IsAtLeast}
use Rattle.memo_cells.specs.Working.{Held, program_at}
use Rattle.memo_cells.proofs.Agreeing.{agrees_before, value_known_later}
use Rattle.circular_eval.proofs.Knowing.{copy_known}
use Rattle.caller_pass.specs.Holding.{IsKindAt, IsKnownCell, IsReadValueAt}
use Rattle.caller_pass.specs.Knowing.{HasEnded, IsKnownValue}
use Rattle.caller_pass.specs.Noting.{AreLooping, AreNoted, IsLooping, IsNoted, IsValueOf, KeepsAmong, KeepsAtMost}
use Rattle.caller_pass.proofs.Asked.{typed_as}
use Rattle.caller_pass.proofs.Knowing.{ended_value, known_shown, set_ordered}

-- what is kept after one more was, if there was memory
pub kept_more : {S T E : Type 0} (m n : HashMap CodedInstance CodedValue S) (i : CodedInstance) (x : CodedValue) (r : Result T E) → OnOk r (MapUpdates equality.ghosts.eq m n i (Some x)) → OnErr r (IsMapUnchanged m n) → (j : CodedInstance) (y : CodedValue) → get equality.ghosts.eq n j ≡ Some y → (get equality.ghosts.eq m j ≡ Some y) ⊎ ((j ≡ i) × (y ≡ x))
kept_more m n i x (Ok t) put same j y there =
    elim (equality.ghosts.eq i j) as (λ b. equality.ghosts.eq i j ≡ b → cond b (Some x) (get equality.ghosts.eq m j) ≡ Some y → (get equality.ghosts.eq m j ≡ Some y) ⊎ ((j ≡ i) × (y ≡ x))) [
      | true ↦ λ equal is. let value : x ≡ y = cc in inr (sym (key_is i j equal), sym value)
      | false ↦ λ other is. inl is
    ] refl (sym (put.0 j) ∙ there)
kept_more m n i x (Err e) put same j y there = inl (ap (λ (es : List (CodedInstance × CodedValue)). lookup (equality.ghosts.eq j) es) (sym same) ∙ there)

pub put_more : {S T E : Type 0} (m n : HashSet CodedInstance S) (i : CodedInstance) (r : Result T E) → OnOk r (SetUpdates equality.ghosts.eq m n i true) → OnErr r (IsSetUnchanged m n) → (j : CodedInstance) → contains equality.ghosts.eq n j ≡ true → (contains equality.ghosts.eq m j ≡ true) ⊎ (j ≡ i)
put_more m n i (Ok t) put same j there =
    elim (equality.ghosts.eq i j) as (λ b. equality.ghosts.eq i j ≡ b → cond b true (contains equality.ghosts.eq m j) ≡ true → (contains equality.ghosts.eq m j ≡ true) ⊎ (j ≡ i)) [
      | true ↦ λ equal is. inr (sym (key_is i j equal))
      | false ↦ λ other is. inl is
    ] refl (sym (put.0 j) ∙ there)
put_more m n i (Err e) put same j there = inl (ap (λ (ks : List CodedInstance). list_any (equality.ghosts.eq j) ks) (sym same) ∙ there)

-- an element stands in its list
pub has_at : {A : Type 0} (xs : List A) (k : ℕ) (d : A) → k < length xs → Has xs (get_or xs k d)
has_at [] k d lt = absurd (omega (arith, lt))
has_at (x ∷ xs) zero d lt = inl refl
has_at (x ∷ xs) (suc k) d lt = inr (has_at xs k d (omega (arith, lt)))

-- a value once more, of which some naming agrees with the makers
pub noted_copy : (p : Program) (ms : List CodedInstance) (names : Naming) → Agrees p ms names → (i : CodedInstance) (x y : CodedValue) → ((n : Naming) → value_by n y ≡ value_by n x) → (AreElements p x → AreElements p y) → IsNoted p ms i x → IsNoted p ms i y
noted_copy p ms names by i x y same elements note good =
    let its = note good in (
      λ names agrees. let h = its.0 names agrees in record { value = h.value; has = h.has; coded = same names ∙ h.coded; elements = elements h.elements },
      copy_known p ms x y same (elements (its.0 names by).elements) its.1,
    )

-- what is noted goes on to be true
pub noted_later : (p : Program) {ms ns : List CodedInstance} → Follow ms ns → (i : CodedInstance) (x : CodedValue) → IsNoted p ms i x → IsNoted p ns i x
noted_later p follow i x note good = let its = note good in ((λ names agrees. its.0 names (agrees_before p follow agrees)), value_known_later p follow x its.1)

pub all_noted_later : (p : Program) {ms ns : List CodedInstance} → Follow ms ns → (es : List (CodedInstance × CodedValue)) → AreNoted p ms es → AreNoted p ns es
all_noted_later p follow es notes i x there = noted_later p follow i x (notes i x there)

pub looping_later : (p : Program) {ms ns : List CodedInstance} → Follow ms ns → (is : List CodedInstance) → AreLooping p ms is → AreLooping p ns is
looping_later p follow is loops i there = λ names agrees. loops i there names (agrees_before p follow agrees)

-- one more is kept
pub more_noted : (p : Program) (ms : List CodedInstance) (es fs : List (CodedInstance × CodedValue)) (i : CodedInstance) (x : CodedValue) → AreNoted p ms es → KeepsAtMost es i x fs → IsNoted p ms i x → AreNoted p ms fs
more_noted p ms es fs i x notes keeps note j y there = ⊎_elim
    (λ before. notes j y before)
    (λ (j_is, y_is). subst₂ (λ (k : CodedInstance) (z : CodedValue). IsNoted p ms k z) (sym j_is) (sym y_is) note)
    (keeps j y there)

pub more_looping : (p : Program) (ms : List CodedInstance) (is ks more : List CodedInstance) → AreLooping p ms is → KeepsAmong is more ks → ((i : CodedInstance) → Has more i → IsLooping p ms i) → AreLooping p ms ks
more_looping p ms is ks more loops keeps new i there = ⊎_elim (λ before. loops i before) (λ now. new i now) (keeps i there)

-- what is noted of an instance is its value, once its cell is seen settled
pub noted_known : (p : Program) (names : Naming) (v : View) (i : Instance) (x : CodedValue) → IsValueOf p names i x → HasKnownNodes v.made x → Knows p v i → IsKnownValue p names v i x
noted_known p names v i x h nodes k = record { value = h.value; known = (k, h.has); coded = h.coded; elements = h.elements; nodes = nodes }

-- a value that is known may be noted
pub known_noted : (p : Program) (names : Naming) (v : View) (i : Instance) (x : CodedValue) → IsKnownValue p names v i x → IsValueOf p names i x
known_noted p names v i x h = record { value = h.value; has = h.known.1; coded = h.coded; elements = h.elements }

-- so may that of an equation that ended
pub ended_noted : (p : Program) → HasSourcesAlone p → (names : Naming) (v : View) (i : Instance) (x : CodedValue) → IsProgram p → IsInstance p i → HasEnded p names v i x → IsValueOf p names i x
ended_noted p bare names v i x good instance h =
    let has = ended_value p names v i x h in
    record { value = value_by names x; has = has; coded = sym (typed_as p bare (kind_in p i) (value_by names x) (value_typed p good i instance (value_by names x) has)); elements = h.elements }

-- a copy of what is noted, if there is memory for one
pub copy_noted : (p : Program) (ms : List CodedInstance) (names : Naming) → Agrees p ms names → (i : CodedInstance) (x : CodedValue) (r : Result CodedValue Memory) (o : Option CodedValue) → o ≡ result_ok r → IfOk r (λ y. (n : Naming) → value_by n y ≡ value_by n x) → IfOk r (λ y. (q : Program) → AreElements q x → AreElements q y) → IsNoted p ms i x → IfSome o (λ y. IsNoted p ms i y)
copy_noted p ms names by i x (Ok y) o is same elements note = subst (λ (z : Option CodedValue). IfSome z (λ y. IsNoted p ms i y)) (sym is) (noted_copy p ms names by i x y same (elements p) note)
copy_noted p ms names by i x (Err m) o is same elements note = subst (λ (z : Option CodedValue). IfSome z (λ y. IsNoted p ms i y)) (sym is) tt

-- the value of a set whose cell was seen settled, by what its words show
pub shown_known : (d e : Held) (i : CodedInstance) (slot : Slot) (kind : Kind) (x : CodedValue) → IsAtLeast d.view e.view → IsKnownCell d i slot → IsKindAt d i kind → is_single kind ≡ false → IsShownValueAt d e slot.0 kind x → IsReadValueAt d e i x
shown_known d e i slot kind x kept known kinds set shown good = λ names named.
    let j = instance_by (program_at d) names i in
    let before = agrees_before (program_at d) kept.made named in
    let k = known good names before in
    known_shown (program_at d) names d.view e.view named j x kept k.1 (shown j k.0 (sym (kinds names before)) (set_ordered kind set))
