-- How the steps of a local set go on from each other.
use Rattle.std.proofs.Common.{◌≡◌, ℕ, ◌<◌, zero, suc, true, List, [], Option, Some, None, slice_get, inr, refl, sym, ap, subst, ◌∙◌, arith}
use Rattle.solutions.specs.Leading.{none}
use Rattle.equation_law.specs.declared.coding.Instance.{Instance as CodedInstance}
use Rattle.equation_law.specs.declared.system.System.{System}
use Rattle.equation_law.specs.Codes.{Naming, instance_by}
use Rattle.equation_law.specs.Equations.{equations_of, kind_in}
use Rattle.equation_law.specs.Loops.{Chain}
use Rattle.equation_law.specs.Names.{Instance}
use Rattle.equation_law.specs.Program.{Program}
use Rattle.equation_law.specs.Systems.{program_of}
use Rattle.equation_law.specs.Values.{Value}
use Rattle.memo_cells.specs.declared.view.Frame.{Frame}
use Rattle.memo_cells.specs.declared.view.View.{View}
use Rattle.memo_cells.specs.Agreeing.{ByEachAgreeing, HasCodeAt, IsElementAt}
use Rattle.memo_cells.specs.Claiming.{ClaimsKeys, CountsCode, FillsCells}
use Rattle.memo_cells.specs.Standing.{IsPassOf}
use Rattle.memo_cells.specs.Views.{Has, IsAtLeast}
use Rattle.memo_cells.specs.Working.{GoesOn, Held, program_at}
use Rattle.memo_cells.proofs.Agreeing.{agrees_before}
use Rattle.memo_cells.proofs.Claiming.{chain_more, claims_same, claims_then, claims_words, fills_words}
use Rattle.memo_cells.proofs.Raising.{Higher}
use Rattle.memo_cells.proofs.Showing.{has_code_more}
use Rattle.memo_cells.specs.SetRaising.{ClaimsWords, LacksWord}
use Rattle.circular_eval.specs.declared.local.Local.{Local}
use Rattle.circular_eval.specs.declared.members.Member.{Member}
use Rattle.circular_eval.specs.Local.{AreMembers, IsLedBy, IsLocal, IsLocalByEach, Members}
use Rattle.circular_eval.specs.Visiting.{GoesOnWith, IsReady}
use Rattle.memo_cells.proofs.Holding.{goes_itself, goes_then}

-- the start leads to each member
led_by : (p : Program) (names : Naming) (start : CodedInstance) (es : Members) (k : ℕ) (i : CodedInstance) (by : Option ℕ) → ((b : ℕ) (d : CodedInstance × Member) → b < k → slice_get es b ≡ Some d → Chain p (instance_by p names start) (instance_by p names d.0)) → IsLedBy p names es start k i by → Chain p (instance_by p names start) (instance_by p names i)
led_by p names start es k i None before h = subst (λ (j : CodedInstance). Chain p (instance_by p names start) (instance_by p names j)) (sym h) none
led_by p names start es k i (Some b) before h = chain_more p (instance_by p names start) (instance_by p names h.1.0.0) (instance_by p names i) (before b h.1.0 h.0 h.1.1) h.1.2

led_chain : (p : Program) (names : Naming) (f : Frame) (v : View) (start : CodedInstance) (es : Members) (set : AreMembers p names f v start es) (bound k : ℕ) (e : CodedInstance × Member) → k < bound → slice_get es k ≡ Some e → Chain p (instance_by p names start) (instance_by p names e.0)
led_chain p names f v start es set zero k e low at = absurd (omega (arith, low))
led_chain p names f v start es set (suc bound) k e low at = led_by p names start es k e.0 e.1.by (λ b d less there. led_chain p names f v start es set bound b d (omega (arith, less, low)) there) (set.members k e at).led

pub member_chain : (p : Program) (names : Naming) (f : Frame) (v : View) (l : Local) → IsLocal p names f v l → (k : ℕ) (e : CodedInstance × Member) → slice_get l.members.entries k ≡ Some e → Chain p (instance_by p names l.start) (instance_by p names e.0)
member_chain p names f v l h k e at = led_chain p names f v l.start l.members.entries h.set (suc k) k e (omega arith) at

-- what calls claimed in turn
pub claims_more : (p : Program) (i : Instance) (u v w : View) → ClaimsKeys p i u v → ClaimsKeys p i v w → IsAtLeast v w → ClaimsKeys p i u w
claims_more p i u v w a b kept = claims_then p i i u v w none a kept b

-- the words of a value that a lower assignment reaches, by what a pass knows
module _ (f : Frame) (v : View) (own : IsPassOf f v) (i j : Instance) (c : Chain (program_of f.system.value) i j) (T : Instance → Value) (is_circular : (equations_of (program_of f.system.value)).circular j ≡ true) (x : Value) (t : Higher (program_of f.system.value) T j x) (codes : List ℕ) where
  abbrev p : Program
  p = program_of f.system.value

  module _ (elements : (k : ℕ) → Has codes k → IsElementAt p v.made (kind_in p j) k × HasCodeAt p v.made (kind_in p j) x k) where
    counted : (k : ℕ) → Has codes k → IsElementAt p v.made (kind_in p j) k × CountsCode p v.made j (kind_in p j) k
    counted k among =
        let e = elements k among in
        (e.0, inr (t.values, t.lower, is_circular, has_code_more p v.made (kind_in p j) x (t.values j) k (t.reaches is_circular) e.1))

    pub claims_raised : (u : View) → ClaimsWords p u v j codes → ClaimsKeys p i u v
    claims_raised u h = claims_words f v [] own i j c codes counted u h

    pub fills_raised : LacksWord p f v j codes → FillsCells p i f v
    fills_raised h = fills_words f v [] own i j c codes counted h

-- the program stays
pub program_on : (d e : Held) → GoesOn d e → program_at e ≡ program_at d
program_on d e on = ap (λ (f : Frame). program_of f.system.value) on.cells

-- what a call claimed, said of the program of what was held before
pub claims_on : (a b : Held) → GoesOn a b → (i j : CodedInstance) → i ≡ j → (v w : View) → ByEachAgreeing (program_at b) w.made (λ names. ClaimsKeys (program_at b) (instance_by (program_at b) names i) v w) → ByEachAgreeing (program_at a) w.made (λ names. ClaimsKeys (program_at a) (instance_by (program_at a) names j) v w)
claims_on a b on i j is v w h = subst (λ (u : Program × CodedInstance). ByEachAgreeing u.0 w.made (λ names. ClaimsKeys u.0 (instance_by u.0 names u.1) v w)) (λ k. (program_on a b on k, is k)) h

pub with_itself : (s : System) (d : Held) (l : Local) → IsReady s d l → GoesOnWith d d l l
with_itself s d l r = record {
  on = goes_itself d r.own;
  local = subst (λ (q : System). IsLocalByEach (program_of q) d.frame d.view l) (sym r.same) r.local;
  start = refl;
  claims = λ names agrees. claims_same (program_at d) (instance_by (program_at d) names l.start) d.view d.view refl;
  some = λ x. x;
}

pub with_then : (a b c : Held) (l m n : Local) → GoesOnWith a b l m → GoesOnWith b c m n → GoesOnWith a c l n
with_then a b c l m n x y =
    record {
      on = goes_then a b c x.on y.on;
      local = subst (λ (f : Frame). IsLocalByEach (program_of f.system.value) f c.view n) x.on.cells y.local;
      start = y.start ∙ x.start;
      claims = λ names agrees.
          claims_more (program_at a) (instance_by (program_at a) names l.start) a.view b.view c.view (x.claims names (agrees_before (program_at a) y.on.kept.made agrees))
          (claims_on a b x.on m.start l.start x.start b.view c.view y.claims names agrees) y.on.kept;
      some = λ h. y.some (x.some h);
    }

-- and the set stays ready
pub ready_then : (s : System) (a b : Held) (l m : Local) → IsReady s a l → GoesOnWith a b l m → IsReady s b m
ready_then s a b l m r x =
    let same : b.frame.system.value ≡ s = ap (λ (f : Frame). f.system.value) x.on.cells ∙ r.same in
    record {
      program = r.program;
      same = same;
      own = x.on.own;
      local = subst (λ (q : Program × Frame). IsLocalByEach q.0 q.1 b.view m) (λ i. (ap program_of r.same i, sym x.on.cells i)) x.local;
    }
