-- Instances in a line, each of which leads to the next, and the loop that the last one closes.
use Rattle.std.proofs.Common.{◌≡◌, ◌⊎◌, inl, inr, ⊎_elim, true, false, ◌||◌, List, [], ◌∷◌, ◌++◌, map, Option, Some, None, refl, sym, ap, subst, ◌∙◌}
use Rattle.solutions.specs.Leading.{more, none}
use Rattle.equation_law.specs.contracts.coding.InstancePartialEq.TheImpl as equality
use Rattle.equation_law.specs.declared.coding.Instance.{Instance as CodedInstance}
use Rattle.equation_law.specs.Codes.{Naming, instance_by}
use Rattle.equation_law.specs.Equations.{equations_of}
use Rattle.equation_law.specs.Loops.{Chain, HasLoop, Leads}
use Rattle.equation_law.specs.Names.{Instance}
use Rattle.equation_law.specs.Program.{Program}
use Rattle.equation_law.proofs.Keys.{key_is}
use Rattle.memo_cells.specs.declared.view.Frame.{Frame}
use Rattle.memo_cells.specs.declared.view.View.{View}
use Rattle.memo_cells.specs.Views.{Has}
use Rattle.memo_cells.proofs.Claiming.{chain_then}
use Rattle.circular_eval.specs.declared.local.Local.{Local}
use Rattle.circular_eval.specs.Advancing.{AreLed, IsPath}
use Rattle.caller_pass.specs.declared.waiting.Waiter.{Waiter}
use Rattle.caller_pass.specs.Answering.{EndsAtLoop, IsLoop}
use Rattle.caller_pass.specs.Waiting.{AreWaiting, IsLineTo, WaitsBy, waits, way_of}

pub assoc : {A : Type 0} (xs ys zs : List A) → (xs ++ ys) ++ zs ≡ xs ++ (ys ++ zs)
assoc [] ys zs = refl
assoc (x ∷ xs) ys zs = ap (λ l. x ∷ l) (assoc xs ys zs)

pub has_last : {A : Type 0} (xs : List A) (x : A) → Has (xs ++ x ∷ []) x
has_last [] x = inl refl
has_last (y ∷ xs) x = inr (has_last xs x)

pub has_snoc : {A : Type 0} (xs : List A) (y x : A) → Has (xs ++ y ∷ []) x → Has xs x ⊎ (x ≡ y)
has_snoc [] y x h = ⊎_elim inr absurd h
has_snoc (z ∷ xs) y x h = ⊎_elim (λ e. inl (inl e)) (λ later. ⊎_elim (λ l. inl (inr l)) inr (has_snoc xs y x later)) h

-- what stands last
abbrev last_or : {A : Type 0} → A → List A → A
last_or d [] = d
last_or d (x ∷ xs) = last_or x xs

last_is : {A : Type 0} (d : A) (xs : List A) (x : A) → last_or d (xs ++ x ∷ []) ≡ x
last_is d [] x = refl
last_is d (y ∷ xs) x = last_is y xs x

pub same_last : {A : Type 0} (xs ys : List A) (x y : A) → xs ++ x ∷ [] ≡ ys ++ y ∷ [] → x ≡ y
same_last xs ys x y e = sym (last_is x xs x) ∙ ap (last_or x) e ∙ last_is x ys y

pub has_map : {A B : Type 0} (f : A → B) (xs : List A) (x : A) → Has xs x → Has (map f xs) (f x)
has_map f [] x h = absurd h
has_map f (y ∷ xs) x h = ⊎_elim (λ same. inl (ap f same)) (λ later. inr (has_map f xs x later)) h

module _ (p : Program) where
  led_more : (xs : List Instance) (j k : Instance) → AreLed p (xs ++ j ∷ []) → Leads p j k → AreLed p ((xs ++ j ∷ []) ++ k ∷ [])
  led_more [] j k led l = (l, tt)
  led_more (x ∷ []) j k led l = (led.0, (l, tt))
  led_more (x ∷ y ∷ ys) j k led l = (led.0, led_more (y ∷ ys) j k led.1 l)

  led_front : (xs : List Instance) (k : Instance) → AreLed p (xs ++ k ∷ []) → AreLed p xs
  led_front [] k h = tt
  led_front (x ∷ []) k h = tt
  led_front (x ∷ y ∷ ys) k h = (h.0, led_front (y ∷ ys) k h.1)

  led_tail : (x : Instance) (xs : List Instance) → AreLed p (x ∷ xs) → AreLed p xs
  led_tail x [] h = tt
  led_tail x (y ∷ ys) h = h.1

  led_behind : (xs ys : List Instance) → AreLed p (xs ++ ys) → AreLed p ys
  led_behind [] ys h = h
  led_behind (x ∷ xs) ys h = led_behind xs ys (led_tail x (xs ++ ys) h)

  chain_to : (xs : List Instance) (i on : Instance) (ys : List Instance) → AreLed p (i ∷ xs ++ on ∷ ys) → Chain p i on
  chain_to [] i on ys h = more h.0 none
  chain_to (x ∷ xs) i on ys h = more h.0 (chain_to xs x on ys h.1)

  -- the first reaches each of the line
  reaches : (front : List Instance) (i on : Instance) (rest tail : List Instance) → i ∷ rest ≡ front ++ on ∷ tail → AreLed p (front ++ on ∷ tail) → Chain p i on
  reaches [] i on rest tail e led = let same : i ≡ on = cc in subst (λ j. Chain p i j) same none
  reaches (x ∷ xs) i on rest tail e led = let same : x ≡ i = cc in subst (λ j. Chain p j on) same (chain_to xs x on tail led)

  returns_to : (on : Instance) (back : List Instance) → AreLed p (on ∷ back ++ on ∷ []) → (j : Instance) × Leads p on j × Chain p j on
  returns_to on [] h = (on, h.0, none)
  returns_to on (b ∷ bs) h = (b, h.0, chain_to bs b on [] h.1)

  -- such a chain is a loop
  pub loop_has : (i on : Instance) (chain : List Instance) → IsLoop p i on chain → HasLoop p i
  loop_has i on chain l =
      let led = subst (AreLed p) l.twice l.led in
      let round = returns_to on l.back (led_behind l.front (on ∷ l.back ++ on ∷ []) led) in
      record { on = on; to = reaches l.front i on l.rest (l.back ++ on ∷ []) (sym l.starts ∙ l.twice) led; undeclared_on = l.undeclared; then = round.0; out = round.1; back = round.2 }

  -- two lines with a common end
  pub led_both : (xs : List Instance) (j : Instance) (ys : List Instance) → AreLed p (xs ++ j ∷ []) → AreLed p (j ∷ ys) → AreLed p (xs ++ j ∷ ys)
  led_both [] j ys a b = b
  led_both (x ∷ []) j ys a b = (a.0, b)
  led_both (x ∷ y ∷ xs) j ys a b = (a.0, led_both (y ∷ xs) j ys a.1 b)

  -- what waits for something leads to it
  pub waits_chain : (names : Naming) (f : Frame) (v : View) (i : Instance) (way : Option Local) (n : Instance) → WaitsBy p names f v i way n → Chain p i n
  waits_chain names f v i None n w = more w none
  waits_chain names f v i (Some l) n w = more w.0 w.3

  -- the first that waits reaches what the last waits for
  pub waiting_chain : (names : Naming) (f : Frame) (v : View) (e : CodedInstance × Waiter) (es : List (CodedInstance × Waiter)) (n : Instance) → AreWaiting p names f v (e ∷ es) n → Chain p (instance_by p names e.0) n
  waiting_chain names f v e [] n w = waits_chain names f v (instance_by p names e.0) (way_of e.1) n w
  waiting_chain names f v e (d ∷ es) n w = chain_then p (waits_chain names f v (instance_by p names e.0) (way_of e.1) (instance_by p names d.0) w.0) (waiting_chain names f v d es n w.1)

-- one that waits stands among the entries
found : (es : List (CodedInstance × Waiter)) (i : CodedInstance) → waits es i ≡ true → (e : CodedInstance × Waiter) × Has es e × (e.0 ≡ i)
found [] i e = cc
found (x ∷ es) i e =
    elim (equality.ghosts.eq i x.0) as (λ b. equality.ghosts.eq i x.0 ≡ b → (b || waits es i) ≡ true → (e : CodedInstance × Waiter) × Has (x ∷ es) e × (e.0 ≡ i)) [
      | true ↦ λ same _. (x, inl refl, sym (key_is i x.0 same))
      | false ↦ λ _ later. let r = found es i later in (r.0, inr r.1, r.2)
    ] refl e

-- what stands in a list splits it
split : {A : Type 0} (xs : List A) (x : A) → Has xs x → (front back : List A) × (xs ≡ front ++ x ∷ back)
split [] x h = absurd h
split (y ∷ xs) x h = ⊎_elim (λ same. ([], xs, ap (λ z. z ∷ xs) (sym same))) (λ later. let r = split xs x later in (y ∷ r.0, r.1, ap (λ l. y ∷ l) r.2)) h

-- the line to one that waits already is a loop
pub loop_of : (p : Program) (names : Naming) (e : CodedInstance × Waiter) (es : List (CodedInstance × Waiter)) (on : CodedInstance) (line : List Instance) → IsLineTo p names (e ∷ es) (instance_by p names on) line → waits (e ∷ es) on ≡ true → (equations_of p).circular (instance_by p names on) ≡ false → IsLoop p (instance_by p names e.0) (instance_by p names on) line
loop_of p names e es on line l there plain =
    let at = found (e ∷ es) on there in
    let in_front : Has l.front (instance_by p names on) = subst (λ (i : CodedInstance). Has l.front (instance_by p names i)) at.2 (l.among at.0 at.1) in
    let parts = split l.front (instance_by p names on) in_front in
    let first = l.starts e es refl in
    record {
      rest = first.0;
      starts = first.1;
      led = l.led;
      front = parts.0;
      back = parts.1;
      twice = l.ends ∙ ap (λ ns. ns ++ instance_by p names on ∷ []) parts.2 ∙ assoc parts.0 (instance_by p names on ∷ parts.1) (instance_by p names on ∷ []);
      undeclared = plain;
    }

-- what a line begins with
pub begins : (xs : List Instance) (n i : Instance) (rest ys : List Instance) → xs ++ n ∷ [] ≡ i ∷ rest → (r : List Instance) × (xs ++ n ∷ ys ≡ i ∷ r)
begins [] n i rest ys e = let same : n ≡ i = cc in (ys, ap (λ x. x ∷ ys) same)
begins (x ∷ xs) n i rest ys e = let same : x ≡ i = cc in (xs ++ n ∷ ys, ap (λ y. y ∷ xs ++ n ∷ ys) same)

-- what leads to a loop has one
pub loop_before : (p : Program) (i j : Instance) → Chain p i j → HasLoop p j → HasLoop p i
loop_before p i j c h = record { on = h.on; to = chain_then p c h.to; undeclared_on = h.undeclared_on; then = h.then; out = h.out; back = h.back }

-- a loop ends at an instance that has one
pub loop_ends : (p : Program) (i on : Instance) (chain : List Instance) → IsLoop p i on chain → EndsAtLoop p i on chain
loop_ends p i on chain l =
    let round = returns_to p on l.back (led_behind p l.front (on ∷ l.back ++ on ∷ []) (subst (AreLed p) l.twice l.led)) in
    record {
      rest = l.rest;
      starts = l.starts;
      led = l.led;
      front = l.front ++ on ∷ l.back;
      ends = l.twice ∙ sym (assoc l.front (on ∷ l.back) (on ∷ []));
      undeclared = l.undeclared;
      loop = record { on = on; to = none; undeclared_on = l.undeclared; then = round.0; out = round.1; back = round.2 };
    }

-- so does the line to an instance that has one
pub line_ends : (p : Program) (names : Naming) (e : CodedInstance × Waiter) (es : List (CodedInstance × Waiter)) (on : Instance) (line : List Instance) → IsLineTo p names (e ∷ es) on line → HasLoop p on → (equations_of p).circular on ≡ false → EndsAtLoop p (instance_by p names e.0) on line
line_ends p names e es on line l has plain =
    let first = l.starts e es refl in
    record { rest = first.0; starts = first.1; led = l.led; front = l.front; ends = l.ends; undeclared = plain; loop = has }

-- the line to one that waits already, or is known to have a loop
pub met_loop : (p : Program) (names : Naming) (e : CodedInstance × Waiter) (es : List (CodedInstance × Waiter)) (on : CodedInstance) (line : List Instance) → IsLineTo p names (e ∷ es) (instance_by p names on) line → (waits (e ∷ es) on ≡ true) ⊎ HasLoop p (instance_by p names on) → (equations_of p).circular (instance_by p names on) ≡ false → EndsAtLoop p (instance_by p names e.0) (instance_by p names on) line
met_loop p names e es on line l why plain = ⊎_elim
    (λ there. loop_ends p (instance_by p names e.0) (instance_by p names on) line (loop_of p names e es on line l there plain))
    (λ has. line_ends p names e es (instance_by p names on) line l has plain)
    why

-- such a chain behind a path
pub ends_behind : (p : Program) (i n on : Instance) (part chain : List Instance) → IsPath p i n (part ++ n ∷ []) → EndsAtLoop p n on chain → EndsAtLoop p i on (part ++ chain)
ends_behind p i n on part chain path l =
    let whole : part ++ chain ≡ part ++ n ∷ l.rest = ap (λ ns. part ++ ns) l.starts in
    let first = begins part n i path.rest l.rest path.starts in
    record {
      rest = first.0;
      starts = whole ∙ first.1;
      led = subst (AreLed p) (sym whole) (led_both p part n l.rest path.led (subst (AreLed p) l.starts l.led));
      front = part ++ l.front;
      ends = ap (λ ns. part ++ ns) l.ends ∙ sym (assoc part l.front (on ∷ []));
      undeclared = l.undeclared;
      loop = l.loop;
    }

-- each of such a chain has a loop
pub each_has : (p : Program) (i on : Instance) (chain : List Instance) → EndsAtLoop p i on chain → (j : Instance) → Has chain j → HasLoop p j
each_has p i on chain l j there = among l.front (subst (AreLed p) l.ends l.led) (subst (λ (c : List Instance). Has c j) l.ends there)
  where
    among : (front : List Instance) → AreLed p (front ++ on ∷ []) → Has (front ++ on ∷ []) j → HasLoop p j
    among [] led h = ⊎_elim (λ same. subst (HasLoop p) (sym same) l.loop) absurd h
    among (x ∷ xs) led h = ⊎_elim
        (λ same. subst (HasLoop p) (sym same) (loop_before p x on (chain_to p xs x on [] led) l.loop))
        (λ later. among xs (led_tail p x (xs ++ on ∷ []) led) later)
        h

-- where it ends stands twice in it, if it stands in the front
pub ends_twice : (p : Program) (i on : Instance) (chain front : List Instance) → EndsAtLoop p i on chain → chain ≡ front ++ on ∷ [] → Has front on → IsLoop p i on chain
ends_twice p i on chain front l is there =
    let parts = split front on there in
    record {
      rest = l.rest;
      starts = l.starts;
      led = l.led;
      front = parts.0;
      back = parts.1;
      twice = is ∙ ap (λ ns. ns ++ on ∷ []) parts.2 ∙ assoc parts.0 (on ∷ parts.1) (on ∷ []);
      undeclared = l.undeclared;
    }

-- the first of such a chain has a loop
pub ends_has : (p : Program) (i on : Instance) (chain : List Instance) → EndsAtLoop p i on chain → HasLoop p i
ends_has p i on chain l = each_has p i on chain l i (subst (λ (c : List Instance). Has c i) (sym l.starts) (inl refl))

-- so does the start of a local set what its instance waits for
way_chain : (p : Program) (names : Naming) (f : Frame) (v : View) (i : Instance) (way : Option Local) (n : Instance) → WaitsBy p names f v i way n → (l : Local) → way ≡ Some l → Chain p (instance_by p names l.start) n
way_chain p names f v i way n w l is = (subst (λ (o : Option Local). WaitsBy p names f v i o n) is w).3

-- the start of a local set through which one waits reaches what the last waits for
pub start_chain : (p : Program) (names : Naming) (f : Frame) (v : View) (es : List (CodedInstance × Waiter)) (n : Instance) → AreWaiting p names f v es n → (e : CodedInstance × Waiter) → Has es e → (l : Local) → way_of e.1 ≡ Some l → Chain p (instance_by p names l.start) n
start_chain p names f v [] n w e h l is = absurd h
start_chain p names f v (d ∷ []) n w e h l is = ⊎_elim (λ here. way_chain p names f v (instance_by p names d.0) (way_of d.1) n w l (ap (λ (x : CodedInstance × Waiter). (way_of x.1)) (sym here) ∙ is)) absurd h
start_chain p names f v (d ∷ c ∷ es) n w e h l is = ⊎_elim
    (λ here. chain_then p (way_chain p names f v (instance_by p names d.0) (way_of d.1) (instance_by p names c.0) w.0 l (ap (λ (x : CodedInstance × Waiter). (way_of x.1)) (sym here) ∙ is)) (waiting_chain p names f v c es n w.1))
    (λ later. start_chain p names f v (c ∷ es) n w.1 e later l is)
    h
