-- The way from the start of a local set to what it needs, from its end on.
use Rattle.std.proofs.Common.{◌≡◌, ℕ, ◌<◌, List, [], ◌∷◌, ◌++◌, Option, Some, None, map, reverse, slice_get, refl, sym, ap, subst, ◌∙◌}
use Rattle.std.proofs.lemmas.List.{reverse-append}
use Rattle.equation_law.specs.declared.coding.Instance.{Instance as CodedInstance}
use Rattle.equation_law.specs.Codes.{Naming, instance_by}
use Rattle.equation_law.specs.Loops.{Leads}
use Rattle.equation_law.specs.Names.{Instance}
use Rattle.equation_law.specs.Program.{Program}
use Rattle.memo_cells.specs.declared.view.Frame.{Frame}
use Rattle.memo_cells.specs.declared.view.View.{View}
use Rattle.circular_eval.specs.declared.local.Local.{Local}
use Rattle.circular_eval.specs.declared.members.Member.{Member}
use Rattle.circular_eval.specs.Advancing.{AreLed, IsPath}
use Rattle.circular_eval.specs.Local.{IsLedBy, IsLocal, IsNeedOf}

-- the start, or led to by this member
abbrev pub IsBefore : Program → Naming → Local → Option ℕ → Instance → Type 0
IsBefore p names l None first = first ≡ instance_by p names l.start
IsBefore p names l (Some k) first = (e : CodedInstance × Member) × (slice_get l.members.entries k ≡ Some e) × Leads p (instance_by p names e.0) first

-- the rest of the way to n, which begins behind this member
pub record IsTail (p : Program) (names : Naming) (l : Local) (n : Instance) (at : Option ℕ) (path : List Instance) : Type 0 where
  pub first : Instance
  pub rest : List Instance
  pub starts : path ≡ first ∷ rest
  pub front : List Instance
  pub ends : path ≡ front ++ n ∷ []
  pub led : AreLed p path
  pub before : IsBefore p names l at first

-- for each program under which it is a local set
abbrev pub LeadsOn : Local → Option ℕ → List CodedInstance → Type 0
LeadsOn l at list = (p : Program) (names : Naming) (f : Frame) (v : View) (number : ℕ) (need : CodedInstance) → IsLocal p names f v l → l.need ≡ Some (number, need) → IsTail p names l (instance_by p names need) at (map (instance_by p names) (reverse list))

need_led : (p : Program) (names : Naming) (l : Local) (number : ℕ) (need : CodedInstance) (f : Frame) (v : View) → IsLocal p names f v l → l.need ≡ Some (number, need) → IsBefore p names l (Some number) (instance_by p names need)
need_led p names l number need f v h e = subst (λ (o : Option (ℕ × CodedInstance)). IsNeedOf p names l.members.entries o) e h.need

need_same : (k m : ℕ) (n i : CodedInstance) → ◌≡◌ {A = Option (ℕ × CodedInstance)} (Some (k, n)) (Some (m, i)) → n ≡ i
need_same k m n i e = let both : ◌≡◌ {A = ℕ × CodedInstance} (k, n) (m, i) = cc in ap (λ (x : ℕ × CodedInstance). x.1) both

pub tail_first : (l : Local) (k : ℕ) (n : CodedInstance) → l.need ≡ Some (k, n) → LeadsOn l (Some k) (n ∷ [])
tail_first l k n is p names f v number need h e =
    let same : n ≡ need = need_same k number n need (sym is ∙ e) in
    record {
      first = instance_by p names n;
      rest = [];
      starts = refl;
      front = [];
      ends = ap (λ (x : CodedInstance). instance_by p names x ∷ []) same;
      led = tt;
      before = need_led p names l k n f v h is;
    }

led_before : (p : Program) (names : Naming) (l : Local) (k : ℕ) (i : CodedInstance) (by after : Option ℕ) → ((b : ℕ) → by ≡ Some b → b < k → after ≡ Some b) → (by ≡ None → after ≡ None) → IsLedBy p names l.members.entries l.start k i by → IsBefore p names l after (instance_by p names i)
led_before p names l k i None after some none h = subst (λ (o : Option ℕ). IsBefore p names l o (instance_by p names i)) (sym (none refl)) (ap (λ (x : CodedInstance). instance_by p names x) h)
led_before p names l k i (Some b) after some none h = subst (λ (o : Option ℕ). IsBefore p names l o (instance_by p names i)) (sym (some b refl h.0)) h.1

led_longer : (p : Program) (i : Instance) (path : List Instance) (first : Instance) (rest : List Instance) → path ≡ first ∷ rest → Leads p i first → AreLed p path → AreLed p (i ∷ path)
led_longer p i path first rest e l h = subst (λ (q : List Instance). AreLed p (i ∷ q)) (sym e) (l, subst (λ (q : List Instance). AreLed p q) e h)

pub tail_more : (l : Local) (k : ℕ) (list : List CodedInstance) (e : CodedInstance × Member) (after : Option ℕ) → slice_get l.members.entries k ≡ Some e → ((b : ℕ) → e.1.by ≡ Some b → b < k → after ≡ Some b) → (e.1.by ≡ None → after ≡ None) → LeadsOn l (Some k) list → LeadsOn l after (list ++ e.0 ∷ [])
tail_more l k list e after at some none h p names f v number need is needs =
    let t = h p names f v number need is needs in
    let path = map (instance_by p names) (reverse list) in
    let both : Some t.before.0 ≡ Some e = sym t.before.1 ∙ at in
    let same : t.before.0 ≡ e = cc in
    let leads : Leads p (instance_by p names e.0) t.first = subst (λ (x : CodedInstance × Member). Leads p (instance_by p names x.0) t.first) same t.before.2 in
    let longer : IsTail p names l (instance_by p names need) after (instance_by p names e.0 ∷ path) = record {
      first = instance_by p names e.0;
      rest = path;
      starts = refl;
      front = instance_by p names e.0 ∷ t.front;
      ends = ap (λ q. instance_by p names e.0 ∷ q) t.ends;
      led = led_longer p (instance_by p names e.0) path t.first t.rest t.starts leads t.led;
      before = led_before p names l k e.0 e.1.by after some none (is.set.members k e at).led;
    } in
    subst (λ (q : List CodedInstance). IsTail p names l (instance_by p names need) after (map (instance_by p names) q)) (sym (reverse-append list (e.0 ∷ []))) longer

-- from the start on it is whole
pub tail_whole : (l : Local) (list : List CodedInstance) → LeadsOn l None list → (p : Program) (names : Naming) (f : Frame) (v : View) (number : ℕ) (need : CodedInstance) → IsLocal p names f v l → l.need ≡ Some (number, need) → IsPath p (instance_by p names l.start) (instance_by p names need) (map (instance_by p names) (reverse list))
tail_whole l list h p names f v number need is needs =
    let t = h p names f v number need is needs in
    record { rest = t.rest; starts = t.starts ∙ ap (λ i. i ∷ t.rest) t.before; front = t.front; ends = t.ends; led = t.led }

-- it goes on only behind a member
pub no_tail : (l : Local) (k : ℕ) (list : List CodedInstance) → LeadsOn l (Some k) list → slice_get l.members.entries k ≡ None → (p : Program) (names : Naming) (f : Frame) (v : View) (number : ℕ) (need : CodedInstance) → IsLocal p names f v l → l.need ≡ Some (number, need) → ⊥
no_tail l k list h none p names f v number need is needs =
    let t = h p names f v number need is needs in
    let both : Some t.before.0 ≡ None = sym t.before.1 ∙ none in
    cc
