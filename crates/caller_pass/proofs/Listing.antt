-- The list of the instances that wait, with those by which their local sets lead to what they need.
use Rattle.std.proofs.Common.{◌≡◌, inl, inr, ⊎_elim, List, [], ◌∷◌, ◌++◌, Option, Some, None, Result, Ok, Err, OnOk, map, refl, sym, ap, subst, ◌∙◌}
use Rattle.rag_io.specs.declared.Memory.{Memory}
use Rattle.equation_law.specs.declared.coding.Instance.{Instance as CodedInstance}
use Rattle.equation_law.specs.Codes.{Naming, instance_by}
use Rattle.equation_law.specs.Names.{Instance}
use Rattle.equation_law.specs.Program.{Program}
use Rattle.memo_cells.specs.declared.view.Frame.{Frame}
use Rattle.memo_cells.specs.declared.view.View.{View}
use Rattle.memo_cells.specs.Views.{Has}
use Rattle.circular_eval.specs.declared.local.Local.{Local}
use Rattle.circular_eval.specs.Advancing.{AreLed, IsPath, IsPathIn}
use Rattle.circular_eval.specs.Local.{IsLocal}
use Rattle.caller_pass.specs.declared.waiting.Waiter.{Waiter}
use Rattle.caller_pass.specs.Waiting.{AreWaiting, HasPart, IsLineTo, Needed, WaitsBy, way_of}
use Rattle.caller_pass.proofs.Lines.{assoc, begins, led_both}

-- a path of the local set to what it needed last, without that
abbrev pub IsPartOf : Option Local → List CodedInstance → Type 0
IsPartOf None part = part ≡ []
IsPartOf (Some l) part = (p : Program) (names : Naming) (f : Frame) (v : View) (n : Instance) → IsLocal p names f v l → Needed p names l n → IsPath p (instance_by p names l.start) n (map (instance_by p names) part ++ n ∷ [])

-- each instance that waits, with the path of its local set behind it
abbrev pub AreListed : List (CodedInstance × Waiter) → List CodedInstance → Type 0
AreListed [] xs = xs ≡ []
AreListed (e ∷ es) xs = (part rest : List CodedInstance) × (xs ≡ e.0 ∷ (part ++ rest)) × IsPartOf (way_of e.1) part × AreListed es rest

-- one more
pub listed_more : (es : List (CodedInstance × Waiter)) (xs : List CodedInstance) (e : CodedInstance × Waiter) (part : List CodedInstance) → AreListed es xs → IsPartOf (way_of e.1) part → AreListed (es ++ e ∷ []) (xs ++ e.0 ∷ part)
listed_more [] xs e part h its = (part, [], ap (λ l. l ++ e.0 ∷ part) h ∙ ap (λ l. e.0 ∷ l) (sym (all part)), its, refl)
  where
    all : (xs : List CodedInstance) → xs ++ [] ≡ xs
    all [] = refl
    all (x ∷ xs) = ap (λ l. x ∷ l) (all xs)
listed_more (d ∷ es) xs e part h its =
    let more = listed_more es h.1 e part h.4 its in
    (h.0, h.1 ++ e.0 ∷ part, ap (λ l. l ++ e.0 ∷ part) h.2 ∙ ap (λ l. d.0 ∷ l) (assoc h.0 h.1 (e.0 ∷ part)), h.3, more)

pub map_both : {A B : Type 0} (g : A → B) (xs ys : List A) → map g (xs ++ ys) ≡ map g xs ++ map g ys
map_both g [] ys = refl
map_both g (x ∷ xs) ys = ap (λ l. g x ∷ l) (map_both g xs ys)

-- one that waits for a local set, and one that doesn't
pub listed_path : (es : List (CodedInstance × Waiter)) (xs : List CodedInstance) (e : CodedInstance × Waiter) (ys zs : List CodedInstance) (l : Local) → AreListed es xs → way_of e.1 ≡ Some l → ys ≡ xs ++ e.0 ∷ [] → HasPart ys zs l → AreListed (es ++ e ∷ []) zs
listed_path es xs e ys zs l h way one part =
    let more = listed_more es xs e part.part h (subst (λ (o : Option Local). IsPartOf o part.part) (sym way) part.path) in
    subst (λ (l : List CodedInstance). AreListed (es ++ e ∷ []) l) (sym (part.added ∙ ap (λ (l : List CodedInstance). l ++ part.part) one ∙ assoc xs (e.0 ∷ []) part.part)) more

pub listed_plain : (es : List (CodedInstance × Waiter)) (xs : List CodedInstance) (e : CodedInstance × Waiter) (ys : List CodedInstance) → AreListed es xs → way_of e.1 ≡ None → ys ≡ xs ++ e.0 ∷ [] → AreListed (es ++ e ∷ []) ys
listed_plain es xs e ys h way one =
    let more = listed_more es xs e [] h (subst (λ (o : Option Local). IsPartOf o []) (sym way) refl) in
    subst (λ (l : List CodedInstance). AreListed (es ++ e ∷ []) l) (sym one) more

has_right : {A : Type 0} (xs ys : List A) (x : A) → Has ys x → Has (xs ++ ys) x
has_right [] ys x h = h
has_right (z ∷ xs) ys x h = inr (has_right xs ys x h)

-- the first of them, or what the last waits for
abbrev next_of : Program → Naming → List (CodedInstance × Waiter) → Instance → Instance
next_of p names [] n = n
next_of p names (e ∷ es) n = instance_by p names e.0

module _ (p : Program) (names : Naming) (f : Frame) (v : View) where
  -- the first waits for the next one
  first_waits : (e : CodedInstance × Waiter) (es : List (CodedInstance × Waiter)) (n : Instance) → AreWaiting p names f v (e ∷ es) n → WaitsBy p names f v (instance_by p names e.0) (way_of e.1) (next_of p names es n) × AreWaiting p names f v es n
  first_waits e [] n h = (h, tt)
  first_waits e (d ∷ es) n h = (h.0, h.1)

  -- it leads there by the path of its local set
  led_by : (i : Instance) (way : Option Local) (part : List CodedInstance) (m : Instance) (tail : List Instance) → IsPartOf way part → WaitsBy p names f v i way m → AreLed p (m ∷ tail) → AreLed p (i ∷ (map (instance_by p names) part ++ m ∷ tail))
  led_by i None part m tail none w led = subst (λ (xs : List CodedInstance). AreLed p (i ∷ (map (instance_by p names) xs ++ m ∷ tail))) (sym none) (w, led)
  led_by i (Some l) part m tail its w led =
      let path = its p names f v m w.1 w.2 in
      let first = begins (map (instance_by p names) part) m (instance_by p names l.start) path.rest tail path.starts in
      let all = led_both p (map (instance_by p names) part) m tail path.led led in
      let front : AreLed p (i ∷ (instance_by p names l.start ∷ first.0)) = (w.0, subst (AreLed p) first.1 all) in
      subst (λ (xs : List Instance). AreLed p (i ∷ xs)) (sym first.1) front

  lines : (es : List (CodedInstance × Waiter)) (xs : List CodedInstance) (n : Instance) → AreListed es xs → AreWaiting p names f v es n → (tail : List Instance) × (map (instance_by p names) xs ++ n ∷ [] ≡ next_of p names es n ∷ tail) × AreLed p (next_of p names es n ∷ tail)
  lines [] xs n h w = ([], ap (λ (l : List CodedInstance). map (instance_by p names) l ++ n ∷ []) h, tt)
  lines (e ∷ es) xs n h w =
      let parts = first_waits e es n w in
      let rest = lines es h.1 n h.4 parts.1 in
      let m = next_of p names es n in
      let whole : map (instance_by p names) xs ++ n ∷ [] ≡ instance_by p names e.0 ∷ (map (instance_by p names) h.0 ++ m ∷ rest.0) =
      ap (λ (l : List CodedInstance). map (instance_by p names) l ++ n ∷ []) h.2
      ∙ ap (λ (l : List Instance). instance_by p names e.0 ∷ (l ++ n ∷ [])) (map_both (instance_by p names) h.0 h.1)
      ∙ ap (λ (l : List Instance). instance_by p names e.0 ∷ l) (assoc (map (instance_by p names) h.0) (map (instance_by p names) h.1) (n ∷ []))
      ∙ ap (λ (l : List Instance). instance_by p names e.0 ∷ (map (instance_by p names) h.0 ++ l)) rest.1 in
      (map (instance_by p names) h.0 ++ m ∷ rest.0, whole, led_by (instance_by p names e.0) (way_of e.1) h.0 m rest.0 h.3 parts.0 rest.2)

all_among : (p : Program) (names : Naming) (es : List (CodedInstance × Waiter)) (xs : List CodedInstance) → AreListed es xs → (e : CodedInstance × Waiter) → Has es e → Has (map (instance_by p names) xs) (instance_by p names e.0)
all_among p names [] xs h e there = absurd there
all_among p names (d ∷ es) xs h e there =
    let rest = has_right (map (instance_by p names) h.0) (map (instance_by p names) h.1) (instance_by p names e.0) in
    subst (λ (l : List CodedInstance). Has (map (instance_by p names) l) (instance_by p names e.0)) (sym h.2) (⊎_elim
    (λ is. inl (ap (λ (x : CodedInstance × Waiter). instance_by p names x.0) is))
    (λ later. inr (subst (λ (l : List Instance). Has l (instance_by p names e.0)) (sym (map_both (instance_by p names) h.0 h.1)) (rest (all_among p names es h.1 h.4 e later))))
    there)

-- the list of them is the line to what the last one waits for
pub listed_line : (p : Program) (names : Naming) (f : Frame) (v : View) (es : List (CodedInstance × Waiter)) (xs : List CodedInstance) (on : CodedInstance) → AreListed es xs → AreWaiting p names f v es (instance_by p names on) → IsLineTo p names es (instance_by p names on) (map (instance_by p names) (xs ++ on ∷ []))
listed_line p names f v es xs on h w =
    let n = instance_by p names on in
    let line = lines p names f v es xs n h w in
    let ends = map_both (instance_by p names) xs (on ∷ []) in
    record {
      front = map (instance_by p names) xs;
      ends = ends;
      led = subst (AreLed p) (sym (ends ∙ line.1)) line.2;
      starts = λ e ds is. (line.0, ends ∙ line.1 ∙ ap (λ (l : List (CodedInstance × Waiter)). next_of p names l n ∷ line.0) is);
      among = λ e there. all_among p names es xs h e there;
    }

-- a path without its end, split off
pub part_of : (l : Local) (chain front : List CodedInstance) (last : CodedInstance) → chain ≡ front ++ last ∷ [] → IsPathIn l chain → (p : Program) (names : Naming) (f : Frame) (v : View) (n : Instance) → IsLocal p names f v l → Needed p names l n → IsPath p (instance_by p names l.start) n (map (instance_by p names) front ++ n ∷ [])
part_of l chain front last is paths p names f v n local needed =
    let path = subst (λ (m : Instance). IsPath p (instance_by p names l.start) m (map (instance_by p names) chain)) needed.is (paths p names f v needed.number needed.coded local needed.noted) in
    let split = ap (map (instance_by p names)) is ∙ map_both (instance_by p names) front (last ∷ []) in
    let end = last_is (map (instance_by p names) front) path.front (instance_by p names last) n (sym split ∙ path.ends) in
    subst (IsPath p (instance_by p names l.start) n) (split ∙ ap (λ (m : Instance). map (instance_by p names) front ++ m ∷ []) end) path
  where
    last_is : (xs ys : List Instance) (a b : Instance) → xs ++ a ∷ [] ≡ ys ++ b ∷ [] → a ≡ b
    last_is [] [] a b e = cc
    last_is [] (y ∷ []) a b e = cc
    last_is [] (y ∷ z ∷ ys) a b e = cc
    last_is (x ∷ []) [] a b e = cc
    last_is (x ∷ z ∷ xs) [] a b e = cc
    last_is (x ∷ xs) (y ∷ ys) a b e = last_is xs ys a b cc

-- it was added
pub part_pushed : (l : Local) (chain front : List CodedInstance) (last : CodedInstance) → chain ≡ front ++ last ∷ [] → IsPathIn l chain → (old new : List CodedInstance) (r : Result Unit Memory) → OnOk r (new ≡ old ++ front) → OnOk r (HasPart old new l)
part_pushed l chain front last is paths old new (Ok x) added = record { part = front; added = added; path = part_of l chain front last is paths }
part_pushed l chain front last is paths old new (Err m) added = tt

-- a path isn't empty
pub no_part : (l : Local) (chain : List CodedInstance) → chain ≡ [] → IsPathIn l chain → (old : List CodedInstance) → HasPart old old l
no_part l chain is paths old = record {
  part = [];
  added = sym (none old);
  path = λ p names f v n local needed.
      let path = paths p names f v needed.number needed.coded local needed.noted in
      let empty : [] ≡ instance_by p names l.start ∷ path.rest = sym (ap (map (instance_by p names)) is) ∙ path.starts in
      cc;
}
  where
    none : {A : Type 0} (xs : List A) → xs ++ [] ≡ xs
    none [] = refl
    none (x ∷ xs) = ap (λ l. x ∷ l) (none xs)
