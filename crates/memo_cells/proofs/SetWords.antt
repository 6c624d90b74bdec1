-- The codes of elements are raised word by word.
use Rattle.std.proofs.Common.{◌≡◌, ◌≢◌, ℕ, zero, suc, false, ◌+◌, ◌*◌, ◌<◌, ◌/◌, ◌%◌, ◌^◌, ◌⊎◌, inl, inr, ⊎_elim, List, [], ◌∷◌, Some, None, get_or, take, drop, refl, sym, ap, ◌∙◌, subst, arith, Fits}
use mir.Syntax.{w32}
use Rattle.std.specs.Int.{bit_at}
use Rattle.std.proofs.Math.Facts.{Fits-lt-pow}
use Rattle.std.specs.List.{slice_get}
use Rattle.std.proofs.lemmas.Nat.Bits.{bit_at-zero}
use Rattle.attr_rules.specs.Rules.{is_single}
use Rattle.equation_law.specs.Equations.{kind_in}
use Rattle.equation_law.specs.Names.{Instance}
use Rattle.equation_law.specs.Program.{Program}
use Rattle.equation_law.specs.Systems.{program_of}
use Rattle.memo_cells.specs.declared.view.Frame.{Frame}
use Rattle.memo_cells.specs.declared.view.View.{View}
use Rattle.memo_cells.specs.Agreeing.{HasCodeAt, IsElementAt}
use Rattle.memo_cells.specs.Keys.{set_word}
use Rattle.memo_cells.specs.Showing.{ShowsCode}
use Rattle.memo_cells.specs.Standing.{HasWord, IsPassOf, MayRaise}
use Rattle.memo_cells.specs.Views.{ClaimsOnly, Has, IsAtLeast, IsFull}
use Rattle.memo_cells.specs.Working.{GoesOn, Held, IsOwn, program_at}
use Rattle.memo_cells.proofs.Agreeing.{element_later, has_code_later}
use Rattle.memo_cells.proofs.Holding.{goes_itself, goes_then, own_then}
use Rattle.memo_cells.proofs.Lifting.{may_show_later}
use Rattle.memo_cells.proofs.Naming.{cell_later, word_later}
use Rattle.memo_cells.proofs.Seeing.{element_set}
use Rattle.memo_cells.proofs.Showing.{shown_later}
use Rattle.memo_cells.proofs.ValueWords.{codes_seen}
use Rattle.memo_cells.specs.SetRaising.{ClaimsWords, HasBits, IsWordWith, LacksWord, MayShowAll, ShowsAll}

-- the first of some elements, and the others
has_split : (xs : List ℕ) (n c : ℕ) → Has xs c → Has (take n xs) c ⊎ Has (drop n xs) c
has_split xs zero c h = inr h
has_split [] (suc n) c h = absurd h
has_split (x ∷ xs) (suc n) c h = ⊎_elim (λ e. inl (inl e)) (λ r. ⊎_elim (λ k. inl (inr k)) inr (has_split xs n c r)) h

take_has : (xs : List ℕ) (n c : ℕ) → Has (take n xs) c → Has xs c
take_has xs zero c h = absurd h
take_has [] (suc n) c h = absurd h
take_has (x ∷ xs) (suc n) c h = ⊎_elim inl (λ r. inr (take_has xs n c r)) h

drop_has : (xs : List ℕ) (n c : ℕ) → Has (drop n xs) c → Has xs c
drop_has xs zero c h = h
drop_has [] (suc n) c h = absurd h
drop_has (x ∷ xs) (suc n) c h = inr (drop_has xs n c h)

first_has : (xs : List ℕ) (n x : ℕ) → 0 < n → slice_get xs 0 ≡ Some x → Has (take n xs) x
first_has [] n x lt e = cc
first_has (y ∷ xs) zero x lt e = absurd (omega (arith, lt))
first_has (y ∷ xs) (suc n) x lt e = inl (let same : y ≡ x = cc in sym same)

first_one : (xs : List ℕ) (x : ℕ) → slice_get xs 0 ≡ Some x → Has xs x
first_one [] x e = cc
first_one (y ∷ xs) x e = inl (let same : y ≡ x = cc in sym same)

-- an element of a list whose elements fit
has_fits : (xs : List ℕ) (x : ℕ) → ((k : ℕ) → Fits w32 (get_or xs k 0)) → Has xs x → x < 2 ^ 32
has_fits [] x fits h = absurd h
has_fits (y ∷ xs) x fits h = ⊎_elim (λ e. let low : y < 2 ^ 32 = Fits-lt-pow {w = w32} {n = y} (fits 0) in omega (arith, low, e)) (λ r. has_fits xs x (λ k. fits (suc k)) r) h

-- what may be shown, later
may_later : (p : Program) (f : Frame) (v w : View) → IsAtLeast v w → (i : Instance) (place : ℕ) (codes : List ℕ) → MayShowAll p f v i place codes → MayShowAll p f w i place codes
may_later p f v w kept i place codes h = record { cell = cell_later v w kept p f i place h.cell; instance = h.instance; value = h.value; may = may_show_later p v w kept i h.value h.may; elements = λ c among. let it = h.elements c among in (element_later p kept.made (kind_in p i) c it.0, has_code_later p kept.made (kind_in p i) h.value c it.1) }

with_later : (p : Program) (v w : View) → IsAtLeast v w → (i : Instance) (codes : List ℕ) (k : ℕ) → IsWordWith p v i codes k → IsWordWith p w i codes k
with_later p v w kept i codes k h = record { word = h.word; key = word_later v w kept p k i h.word h.key; code = h.code; among = h.among; lies = h.lies }

-- one word of the codes that are left
module _ (codes rest : List ℕ) (part : (c : ℕ) → Has rest c → Has codes c) (x count bits : ℕ) (first : slice_get rest 0 ≡ Some x) (word : HasBits rest count bits) where
  lies_in : (c : ℕ) → Has (take count rest) c → c / 64 ≡ x / 64
  lies_in c h = let t = word.one_word c h in let same : t.0 ≡ x = (let both : Some t.0 ≡ Some x = sym t.1 ∙ first in cc) in t.2 ∙ ap (λ (y : ℕ). y / 64) same

  x_first : Has (take count rest) x
  x_first = first_has rest count x word.some first

  pub bits_some : bits ≢ 0
  bits_some z = let set = word.set x x_first in let none : bit_at bits (x % 64) ≡ 0 = ap (λ (y : ℕ). bit_at y (x % 64)) z ∙ bit_at-zero (x % 64) in omega (arith, set, none)

  module _ (p : Program) (f : Frame) (v : View) (i : Instance) (place : ℕ) (all : MayShowAll p f v i place codes) where
    pub may_raise : MayRaise p v place (x / 64) bits
    may_raise = inr (record {
      of = i;
      key = all.cell.0;
      here = all.cell.1.1;
      stands = all.cell.2;
      instance = all.instance;
      value = all.value;
      may = all.may;
      elements = λ b low e.
          let c = word.only b e in
          let lies = lies_in c.0 c.1 in
          let bit = c.2 in
          let at : c.0 ≡ 64 * (x / 64) + b = omega (arith, lies, bit) in
          subst (λ (y : ℕ). IsElementAt p v.made (kind_in p i) y × HasCodeAt p v.made (kind_in p i) all.value y) at (all.elements c.0 (part c.0 (take_has rest count c.0 c.1)));
    })

    -- it is the word of a set
    kind_set : is_single (kind_in p i) ≡ false
    kind_set = element_set p v.made (kind_in p i) x (all.elements x (part x (take_has rest count x x_first))).0

    pub key_with : x < 2 ^ 32 → IsPassOf f v → IsWordWith p v i codes (set_word place (x / 64))
    key_with small own = record {
      word = x / 64;
      key = record { slot = place; key = all.cell.0; there = all.cell.1.1; stands = all.cell.2; low = (let few = own.few in let lt = all.cell.1.0 in omega (arith, few, lt)); small = omega (arith, small); is = refl };
      code = x;
      among = part x (take_has rest count x x_first);
      lies = refl;
    }

    -- once it is raised, the codes of the word are shown
    pub word_shown : (y : ℕ) → HasWord p f v place (x / 64) bits y → (c : ℕ) → Has (take count rest) c → ShowsCode p v i c
    word_shown y raised c h =
        let lies = lies_in c h in
        let at : 64 * (x / 64) + c % 64 ≡ c = omega (arith, lies) in
        subst (ShowsCode p v i) at ((codes_seen p v i (kind_in p i) (x / 64) y kind_set (raised.seen i all.cell) (c % 64) (omega arith)).0 (raised.added (c % 64) (word.set c h)))

-- what the loop over the words keeps: d is what was held first, and e what is held now
pub record RaisesFirst (d e : Held) (place : ℕ) (codes rest : List ℕ) : Type 0 where
  pub on : GoesOn d e
  pub part : (c : ℕ) → Has rest c → Has codes c
  pub shown : (i : Instance) → MayShowAll (program_at d) d.frame d.view i place codes → (c : ℕ) → Has codes c → Has rest c ⊎ ShowsCode (program_at d) e.view i c
  pub claims : (i : Instance) → MayShowAll (program_at d) d.frame d.view i place codes → ClaimsWords (program_at d) d.view e.view i codes

pub raises_none : (d : Held) (place : ℕ) (codes : List ℕ) → IsOwn d → RaisesFirst d d place codes codes
raises_none d place codes own = record { on = goes_itself d own; part = λ c h. h; shown = λ i all c h. inl h; claims = λ i all q. inl refl }

-- a word that may be raised at e
pub raise_may : (d e : Held) (place : ℕ) (codes rest : List ℕ) (so_far : RaisesFirst d e place codes rest) (x count bits : ℕ) → slice_get rest 0 ≡ Some x → HasBits rest count bits → (i : Instance) → MayShowAll (program_at d) d.frame d.view i place codes → MayRaise (program_at e) e.view place (x / 64) bits
raise_may d e place codes rest so_far x count bits first word i all = subst (λ (f : Frame). MayRaise (program_of f.system.value) e.view place (x / 64) bits) (sym so_far.on.cells) (may_raise codes rest so_far.part x count bits first word (program_at d) d.frame e.view i place (may_later (program_at d) d.frame d.view e.view so_far.on.kept i place codes all))

-- a word that was raised at e, and held as g then
module _ (d e g : Held) (place : ℕ) (codes rest : List ℕ) (so_far : RaisesFirst d e place codes rest) (on : GoesOn e g) (x count bits : ℕ) (first : slice_get rest 0 ≡ Some x) (fits : (k : ℕ) → Fits w32 (get_or codes k 0)) (word : HasBits rest count bits) where
  small : x < 2 ^ 32
  small = has_fits codes x fits (so_far.part x (first_one rest x first))

  pub both_on : GoesOn d g
  both_on = goes_then d e g so_far.on on

  -- what may be shown, at what is held then
  module _ (i : Instance) (all : MayShowAll (program_at d) d.frame d.view i place codes) (claims : ClaimsOnly e.view g.view (set_word place (x / 64))) where
    all_then : MayShowAll (program_at d) d.frame g.view i place codes
    all_then = may_later (program_at d) d.frame d.view g.view both_on.kept i place codes all

    key_then : IsWordWith (program_at d) g.view i codes (set_word place (x / 64))
    key_then = key_with codes rest so_far.part x count bits first word (program_at d) d.frame g.view i place all_then small (own_then d g both_on)

    pub claims_words : ClaimsWords (program_at d) d.view g.view i codes
    claims_words q =
        ⊎_elim
        (λ same. ⊎_elim (λ before. inl (same ∙ before)) (λ k. inr (k.0, on.kept.keys q k.0 k.1, with_later (program_at d) e.view g.view on.kept i codes k.0 k.2)) (so_far.claims i all q))
        (λ here. inr (set_word place (x / 64), here, key_then))
        (claims q)

    pub lacks_word : IsFull e.frame g.view (set_word place (x / 64)) → LacksWord (program_at d) d.frame g.view i codes
    lacks_word full = (set_word place (x / 64), key_then, subst (λ (f : Frame). IsFull f g.view (set_word place (x / 64))) so_far.on.cells full)

  pub raises_next : (y : ℕ) → HasWord (program_at e) e.frame g.view place (x / 64) bits y → ClaimsOnly e.view g.view (set_word place (x / 64)) → RaisesFirst d g place codes (drop count rest)
  raises_next y raised claims =
      let here : HasWord (program_at d) d.frame g.view place (x / 64) bits y = subst (λ (f : Frame). HasWord (program_of f.system.value) f g.view place (x / 64) bits y) so_far.on.cells raised in record {
        on = both_on;
        part = λ c h. so_far.part c (drop_has rest count c h);
        shown = λ i all c h.
            ⊎_elim
            (λ left.
            ⊎_elim (λ now. inr (word_shown codes rest so_far.part x count bits first word (program_at d) d.frame g.view i place (may_later (program_at d) d.frame d.view g.view both_on.kept i place codes all) y here c now)) inl (has_split rest count c left))
            (λ old. inr (shown_later (program_at d) e.view g.view on.kept i c old))
            (so_far.shown i all c h);
        claims = λ i all. claims_words i all claims;
      }

none_left : (rest : List ℕ) (c : ℕ) → slice_get rest 0 ≡ None → Has rest c → ⊥
none_left [] c e h = h
none_left (x ∷ rest) c e h = cc

-- with no code left, all are shown
pub raised_all : (d e : Held) (place : ℕ) (codes rest : List ℕ) → RaisesFirst d e place codes rest → slice_get rest 0 ≡ None → (i : Instance) → MayShowAll (program_at d) d.frame d.view i place codes → ShowsAll (program_at e) e.view i codes
raised_all d e place codes rest h none i all =
    subst (λ (f : Frame). ShowsAll (program_of f.system.value) e.view i codes) (sym h.on.cells) (λ c has. ⊎_elim (λ left. absurd (none_left rest c none left)) (λ s. s) (h.shown i all c has))

-- what is said of the cells that were held first is said of those that are held now
pub claims_now : (d e : Held) → GoesOn d e → (i : Instance) (codes : List ℕ) → ClaimsWords (program_at d) d.view e.view i codes → ClaimsWords (program_at e) d.view e.view i codes
claims_now d e on i codes h = subst (λ (f : Frame). ClaimsWords (program_of f.system.value) d.view e.view i codes) (sym on.cells) h

pub lacks_now : (d e : Held) → GoesOn d e → (i : Instance) (codes : List ℕ) → LacksWord (program_at d) d.frame e.view i codes → LacksWord (program_at e) e.frame e.view i codes
lacks_now d e on i codes h = subst (λ (f : Frame). LacksWord (program_of f.system.value) f e.view i codes) (sym on.cells) h
