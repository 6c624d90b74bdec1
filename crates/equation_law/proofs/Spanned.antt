-- The nodes of classes lie from the first to the last.
use Rattle.std.proofs.Common.{◌≡◌, ◌≢◌, ◌⊎◌, ℕ, zero, suc, true, false, ◌+◌, ◌<◌, ◌≤◌, List, [], ◌∷◌, Option, None, Some, length, get_or, set, replicate, slice_get, inl, inr, ⊎_elim, refl, sym, ap, ◌∙◌, subst, arith, length-set, get_or-set_other, get_or-set_same}
use mathlib.Core.Logic.{dite}
use native.Mathlib.Decide.{ℕ_discrete}
use Rattle.std.proofs.lemmas.List.{get_or-replicate, length-replicate}
use Rattle.std.proofs.lemmas.Option.{slice_get_within}
use Rattle.superclasses.proofs.Lines.{sub_steps}
use Rattle.superclasses.proofs.Steps.{listed}
use Rattle.ast_grammar.specs.declared.grammar.ClassId.{ClassId}
use Rattle.ast_grammar.specs.Grammar.{Class, is_sub, superclasses_of}
use Rattle.ast_grammar.proofs.Inherited.{length-superclasses_of}
use Rattle.tree_arena.specs.Nodes.{Node, class_in}
use Rattle.equation_law.specs.declared.spans.Span.{Span}
use Rattle.equation_law.specs.declared.system.System.{System}
use Rattle.equation_law.specs.Spans.{AreFrom, AreOfClasses, AreSpans, IsBelow, IsOfClass, Joins, class_below}
use Rattle.equation_law.specs.Systems.{program_of}
use Rattle.equation_law.proofs.Lists.{some_of}

-- the same nodes by another name
from_same : (P Q : ℕ → Type 0) (a b : ℕ) → ((n : ℕ) → P n → Q n) → ((n : ℕ) → Q n → P n) → AreFrom P a b → AreFrom Q a b
from_same P Q a b there back h = record {
  all = λ n q. h.all n (back n q);
  least = λ some. there a (h.least some);
  last = λ n e. there n (h.last n e);
  ordered = h.ordered;
}

-- there is none
from_none : (P : ℕ → Type 0) → ((n : ℕ) → P n → ⊥) → AreFrom P 0 0
from_none P empty = record { all = λ n q. absurd (empty n q); least = λ some. absurd (omega (arith, some)); last = λ n e. absurd (omega (arith, e)); ordered = omega arith }

-- one more, behind those below n
from_more : (P : ℕ → Type 0) (first end n next : ℕ) → AreFrom (λ k. (k < n) × P k) first end → P n → (end ≡ 0 → next ≡ n) → (0 < end → next ≡ first) → AreFrom (λ k. (k < n + 1) × P k) next (n + 1)
from_more P first zero n next h here none some =
    let same : next ≡ n = none refl in
    let upto : next < n + 1 = omega (arith, same) in
    record {
      all = λ k q. let low : k < n + 1 = q.0 in (dite (ℕ_discrete k n) (λ e. omega (arith, same, e)) (λ apart. let past : k < zero = (h.all k (let under : k < n = omega (arith, low, apart) in (under, q.1))).1 in absurd (omega (arith, past))), low);
      least = λ t. (upto, subst P (sym same) here);
      last = λ k e. subst (λ (m : ℕ). (m < n + 1) × P m) (let is : n ≡ k = omega (arith, e) in is) (omega arith, here);
      ordered = omega (arith, upto);
    }
from_more P first (suc e) n next h here none some =
    let there : 0 < suc e = omega arith in
    let same : next ≡ first = some there in
    let low : first < n = (h.least there).0 in
    let upto : next < n + 1 = omega (arith, same, low) in
    record {
      all = λ k q. let lt : k < n + 1 = q.0 in (dite (ℕ_discrete k n) (λ e. omega (arith, same, low, e)) (λ apart. let past : first ≤ k = (h.all k (let under : k < n = omega (arith, lt, apart) in (under, q.1))).0 in omega (arith, past, same)), lt);
      least = λ t. (upto, subst P (sym same) (h.least there).1);
      last = λ k e. subst (λ (m : ℕ). (m < n + 1) × P m) (let is : n ≡ k = omega (arith, e) in is) (omega arith, here);
      ordered = omega (arith, upto);
    }

-- the nodes of each class below n
pub record AreMet (tree : List Node) (classes n : ℕ) (firsts ends : List ℕ) : Type 0 where
  pub firsts_count : length firsts ≡ classes
  pub ends_count : length ends ≡ classes
  pub each : (c : ℕ) → c < classes → AreFrom (λ k. (k < n) × IsOfClass tree c k) (get_or firsts c 0) (get_or ends c 0)

-- where each is 0
zero_at : (list : List ℕ) (classes c : ℕ) → list ≡ replicate classes 0 → c < classes → get_or list c 0 ≡ 0
zero_at list classes c is low = ap (λ (l : List ℕ). get_or l c 0) is ∙ get_or-replicate classes c 0 0 low

zeros_count : (list : List ℕ) (classes : ℕ) → list ≡ replicate classes 0 → length list ≡ classes
zeros_count list classes is = ap length is ∙ length-replicate classes 0

pub met_none : (tree : List Node) (classes : ℕ) (firsts ends : List ℕ) → firsts ≡ replicate classes 0 → ends ≡ replicate classes 0 → AreMet tree classes 0 firsts ends
met_none tree classes firsts ends f e = record {
  firsts_count = zeros_count firsts classes f;
  ends_count = zeros_count ends classes e;
  each = λ c low.
      subst (λ (y : ℕ × ℕ). AreFrom (λ k. (k < 0) × IsOfClass tree c k) y.0 y.1) (λ i. (sym (zero_at firsts classes c f low) i, sym (zero_at ends classes c e low) i))
      (from_none (λ k. (k < 0) × IsOfClass tree c k) (λ k q. let low : k < 0 = q.0 in omega (arith, low)));
}

-- a node of another class
from_other : (tree : List Node) (n c a b : ℕ) (d : ClassId) → class_in tree n ≡ Some d → c ≢ d.0 → AreFrom (λ k. (k < n) × IsOfClass tree c k) a b → AreFrom (λ k. (k < n + 1) × IsOfClass tree c k) a b
from_other tree n c a b d at apart h =
    from_same (λ k. (k < n) × IsOfClass tree c k) (λ k. (k < n + 1) × IsOfClass tree c k) a b (λ k q. let low : k < n = q.0 in (omega (arith, low), q.1))
    (λ k q.
    let low : k < n + 1 = q.0 in (
      dite (ℕ_discrete k n)
          (λ e.
          let there : class_in tree n ≡ Some q.1.class = subst (λ (m : ℕ). class_in tree m ≡ Some q.1.class) e q.1.of in
          let both : Some q.1.class ≡ Some d = sym there ∙ at in
          let same : q.1.class ≡ d = cc in
          absurd (apart (sym q.1.is ∙ ap (λ (x : ClassId). x.0) same)))
          (λ off. omega (arith, low, off)),
      q.1,
    ))
    h

pub met_other : (tree : List Node) (classes n : ℕ) (firsts ends : List ℕ) (d : ClassId) → class_in tree n ≡ Some d → classes ≤ d.0 → AreMet tree classes n firsts ends → AreMet tree classes (n + 1) firsts ends
met_other tree classes n firsts ends d at past h = record {
  firsts_count = h.firsts_count;
  ends_count = h.ends_count;
  each = λ c low. from_other tree n c (get_or firsts c 0) (get_or ends c 0) d at (λ e. omega (arith, low, past, e)) (h.each c low);
}

pub met_class : (tree : List Node) (classes n : ℕ) (firsts ends : List ℕ) (d : ClassId) (next : ℕ) → class_in tree n ≡ Some d → d.0 < classes → AreMet tree classes n firsts ends → (get_or ends d.0 0 ≡ 0 → next ≡ n) → (0 < get_or ends d.0 0 → next ≡ get_or firsts d.0 0) → AreMet tree classes (n + 1) (set firsts d.0 next) (set ends d.0 (n + 1))
met_class tree classes n firsts ends d next at low h none some =
    let in_firsts : d.0 < length firsts = let many = h.firsts_count in omega (arith, low, many) in
    let in_ends : d.0 < length ends = let many = h.ends_count in omega (arith, low, many) in
    record {
      firsts_count = length-set firsts d.0 next ∙ h.firsts_count;
      ends_count = length-set ends d.0 (n + 1) ∙ h.ends_count;
      each = λ c inside.
          dite (ℕ_discrete c d.0)
          (λ e.
          subst (λ (x : ℕ). AreFrom (λ k. (k < n + 1) × IsOfClass tree x k) (get_or (set firsts d.0 next) x 0) (get_or (set ends d.0 (n + 1)) x 0)) (sym e)
          (subst (λ (y : ℕ × ℕ). AreFrom (λ k. (k < n + 1) × IsOfClass tree d.0 k) y.0 y.1) (λ i. (sym (get_or-set_same firsts d.0 next 0 in_firsts) i, sym (get_or-set_same ends d.0 (n + 1) 0 in_ends) i))
          (from_more (IsOfClass tree d.0) (get_or firsts d.0 0) (get_or ends d.0 0) n next (h.each d.0 low) (record { class = d; of = at; is = refl }) none some)))
          (λ apart.
          subst (λ (y : ℕ × ℕ). AreFrom (λ k. (k < n + 1) × IsOfClass tree c k) y.0 y.1) (λ i. (sym (get_or-set_other firsts d.0 c next 0 apart) i, sym (get_or-set_other ends d.0 c (n + 1) 0 apart) i))
          (from_other tree n c (get_or firsts c 0) (get_or ends c 0) d at apart (h.each c inside)));
    }

-- a node that has a class is one of the tree
class_low : (tree : List Node) (n : ℕ) (c : ClassId) → class_in tree n ≡ Some c → n < length tree
class_low tree n c at = let there = some_of (λ (x : Node). x.class) (slice_get tree n) c at in slice_get_within tree n there.0 there.1

pub met_all : (tree : List Node) (classes n : ℕ) (firsts ends : List ℕ) → length tree ≤ n → AreMet tree classes n firsts ends → AreOfClasses tree classes firsts ends
met_all tree classes n firsts ends end h = record {
  firsts_count = h.firsts_count;
  ends_count = h.ends_count;
  each = λ c low.
      from_same (λ k. (k < n) × IsOfClass tree c k) (IsOfClass tree c) (get_or firsts c 0) (get_or ends c 0) (λ k q. q.1)
      (λ k q. let there = class_low tree k q.class q.of in (omega (arith, there, end), q)) (h.each c low);
}

-- a node of one of the first m classes, which is this one or a subclass
abbrev pub BelowAmong : List Class → List Node → ℕ → ℕ → ℕ → Type 0
BelowAmong g tree c m n = (d : ℕ) × (d < m) × (is_sub g d c ≡ true) × IsOfClass tree d n

pub among_none : (g : List Class) (tree : List Node) (c : ℕ) → AreFrom (BelowAmong g tree c 0) 0 0
among_none g tree c = from_none (BelowAmong g tree c 0) (λ n q. let low : q.0 < 0 = q.1 in omega (arith, low))

-- the nodes of one sort and of another
from_joined : (P Q : ℕ → Type 0) (a b s : Span) → AreFrom P a.first a.end → AreFrom Q b.first b.end → Joins a b s → AreFrom (λ n. P n ⊎ Q n) s.first s.end
from_joined P Q a b s one other j = record {
  all = λ n q.
      ⊎_elim
      (λ x. let lies = one.all n x in let low : a.first ≤ n = lies.0 in let high : n < a.end = lies.1 in let in_s = j.has_first (omega (arith, high)) in let first : s.first ≤ a.first = in_s.0 in let end : a.end ≤ s.end = in_s.1 in (omega (arith, low, first), omega (arith, high, end)))
      (λ x. let lies = other.all n x in let low : b.first ≤ n = lies.0 in let high : n < b.end = lies.1 in let in_s = j.has_second (omega (arith, high)) in let first : s.first ≤ b.first = in_s.0 in let end : b.end ≤ s.end = in_s.1 in (omega (arith, low, first), omega (arith, high, end)))
      q;
  least = λ some. ⊎_elim (λ x. inl (subst P (sym x.1) (one.least x.0))) (λ x. inr (subst Q (sym x.1) (other.least x.0))) (j.first some);
  last = λ n e. ⊎_elim (λ same. inl (one.last n (sym same ∙ e))) (λ same. inr (other.last n (sym same ∙ e))) j.end;
  ordered = j.ordered one.ordered other.ordered;
}

-- one class more, which is this one or a subclass
pub among_more : (g : List Class) (tree : List Node) (c m : ℕ) (a b s : Span) → is_sub g m c ≡ true → AreFrom (BelowAmong g tree c m) a.first a.end → AreFrom (IsOfClass tree m) b.first b.end → Joins a b s → AreFrom (BelowAmong g tree c (m + 1)) s.first s.end
among_more g tree c m a b s sub so_far here j =
    from_same (λ n. BelowAmong g tree c m n ⊎ IsOfClass tree m n) (BelowAmong g tree c (m + 1)) s.first s.end
    (λ n q. ⊎_elim (λ x. let low : x.0 < m = x.1 in (x.0, omega (arith, low), x.2, x.3)) (λ x. (m, omega arith, sub, x)) q)
    (λ n q.
    let low : q.0 < m + 1 = q.1 in
    dite (ℕ_discrete q.0 m) (λ e. inr (subst (λ (x : ℕ). IsOfClass tree x n) e q.3)) (λ apart. inl (q.0, omega (arith, low, apart), q.2, q.3)))
    (from_joined (BelowAmong g tree c m) (IsOfClass tree m) a b s so_far here j)

-- and one that isn't
pub among_other : (g : List Class) (tree : List Node) (c m a b : ℕ) → is_sub g m c ≡ false → AreFrom (BelowAmong g tree c m) a b → AreFrom (BelowAmong g tree c (m + 1)) a b
among_other g tree c m a b isnt h =
    from_same (BelowAmong g tree c m) (BelowAmong g tree c (m + 1)) a b
    (λ n q. let low : q.0 < m = q.1 in (q.0, omega (arith, low), q.2, q.3))
    (λ n q.
    let low : q.0 < m + 1 = q.1 in
    dite (ℕ_discrete q.0 m) (λ e. let sub : is_sub g m c ≡ true = subst (λ (x : ℕ). is_sub g x c ≡ true) e q.2 in let both : true ≡ false = sym sub ∙ isnt in cc) (λ apart. (q.0, omega (arith, low, apart), q.2, q.3)))
    h

-- the class that is below
below_is : (g : List Class) (c : ℕ) (o : Option ClassId) → class_below g c o ≡ true → (d : ClassId) × (o ≡ Some d) × (is_sub g d.0 c ≡ true)
below_is g c None e = cc
below_is g c (Some d) e = (d, refl, e)

-- what is below a class of the grammar is one of its classes
sub_low : (g : List Class) (d c : ℕ) → is_sub g d c ≡ true → c < length g → d < length g
sub_low g d c sub low =
    ⊎_elim (λ e. let same : d ≡ c = e in omega (arith, same, low)) (λ h. let there = listed (superclasses_of g) d h.0 h.1 in let many = length-superclasses_of g in omega (arith, there, many))
    (sub_steps (superclasses_of g) d c sub)

pub among_all : (g : List Class) (tree : List Node) (c m a b : ℕ) → length g ≤ m → c < length g → AreFrom (BelowAmong g tree c m) a b → AreFrom (IsBelow g tree c) a b
among_all g tree c m a b end low h =
    from_same (BelowAmong g tree c m) (IsBelow g tree c) a b
    (λ n q. ap (class_below g c) q.3.of ∙ subst (λ (x : ℕ). is_sub g x c ≡ true) (sym q.3.is) q.2)
    (λ n q.
    let b = below_is g c (class_in tree n) q in
    let inside = sub_low g b.0.0 c b.2 low in
    (b.0.0, omega (arith, inside, end), b.2, record { class = b.0; of = b.1; is = refl }))
    h

-- the nodes of the first n classes and of their subclasses
pub record AreSpansBelow (g : List Class) (tree : List Node) (n : ℕ) (firsts ends : List ℕ) : Type 0 where
  pub firsts_count : length firsts ≡ length g
  pub ends_count : length ends ≡ length g
  pub each : (c : ℕ) → c < n → AreFrom (IsBelow g tree c) (get_or firsts c 0) (get_or ends c 0)

pub spans_none : (g : List Class) (tree : List Node) (classes : ℕ) (firsts ends : List ℕ) → classes ≡ length g → firsts ≡ replicate classes 0 → ends ≡ replicate classes 0 → AreSpansBelow g tree 0 firsts ends
spans_none g tree classes firsts ends many f e = record { firsts_count = zeros_count firsts classes f ∙ many; ends_count = zeros_count ends classes e ∙ many; each = λ c low. absurd (omega (arith, low)) }

pub spans_more : (g : List Class) (tree : List Node) (n : ℕ) (firsts ends : List ℕ) (first end : ℕ) → n < length g → AreSpansBelow g tree n firsts ends → AreFrom (IsBelow g tree n) first end → AreSpansBelow g tree (n + 1) (set firsts n first) (set ends n end)
spans_more g tree n firsts ends first end low h here =
    let in_firsts : n < length firsts = let many = h.firsts_count in omega (arith, low, many) in
    let in_ends : n < length ends = let many = h.ends_count in omega (arith, low, many) in
    record {
      firsts_count = length-set firsts n first ∙ h.firsts_count;
      ends_count = length-set ends n end ∙ h.ends_count;
      each = λ c inside.
          dite (ℕ_discrete c n)
          (λ e.
          subst (λ (x : ℕ). AreFrom (IsBelow g tree x) (get_or (set firsts n first) x 0) (get_or (set ends n end) x 0)) (sym e)
          (subst (λ (y : ℕ × ℕ). AreFrom (IsBelow g tree n) y.0 y.1) (λ i. (sym (get_or-set_same firsts n first 0 in_firsts) i, sym (get_or-set_same ends n end 0 in_ends) i)) here))
          (λ apart.
          subst (λ (y : ℕ × ℕ). AreFrom (IsBelow g tree c) y.0 y.1) (λ i. (sym (get_or-set_other firsts n c first 0 apart) i, sym (get_or-set_other ends n c end 0 apart) i)) (h.each c (omega (arith, inside, apart))));
    }

pub spans_all : (g : List Class) (tree : List Node) (n : ℕ) (firsts ends : List ℕ) → length g ≤ n → AreSpansBelow g tree n firsts ends → AreSpans g tree firsts ends
spans_all g tree n firsts ends end h = record { firsts_count = h.firsts_count; ends_count = h.ends_count; each = λ c low. h.each c (omega (arith, low, end)) }

-- what a system keeps of its classes
pub spans_kept : (s : System) → AreSpans (program_of s).grammar (program_of s).tree s.spans.firsts.items s.spans.ends.items
unfolding program_of
spans_kept s = s.spanned

-- a node below a class is one of the tree
pub below_low : (g : List Class) (tree : List Node) (c n : ℕ) → IsBelow g tree c n → n < length tree
below_low g tree c n h = let b = below_is g c (class_in tree n) h in class_low tree n b.0 b.1

pub span_low : (g : List Class) (tree : List Node) (c a b : ℕ) → AreFrom (IsBelow g tree c) a b → b ≤ length tree
span_low g tree c a zero h = omega arith
span_low g tree c a (suc e) h =
    let there : e < length tree = below_low g tree c e (h.last e refl) in
    omega (arith, there)

-- what stands in a list at a place within it, whatever stands for what is missing
pub item_at : (list : List ℕ) (k x : ℕ) → k < length list → x ≡ get_or list k x → x ≡ get_or list k 0
item_at [] k x low is = absurd (omega (arith, low))
item_at (y ∷ list) zero x low is = is
item_at (y ∷ list) (suc k) x low is = item_at list k x (omega (arith, low)) is
