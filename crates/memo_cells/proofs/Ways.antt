-- The way to the cell of an instance: a key for the attribute at the node, and one for each argument.
use Rattle.std.proofs.Common.{◌≡◌, false, ℕ, zero, suc, ◌+◌, ◌<◌, ◌^◌, Some, None, Option, IfNone, IfSome, Result, Ok, Err, OnErr, slice_get, take, drop, length, List, [], ◌∷◌, ◌++◌, reverse, refl, sym, ap, ◌∙◌, subst, arith, inl, inr, ⊎_elim}
use Rattle.std.proofs.lemmas.List.{append_assoc, append-nil, reverse-append}
use Rattle.std.proofs.lemmas.Option.{slice_get_within}
use Rattle.rag_io.specs.Pool.{ArePooled}
use Rattle.attr_rules.specs.declared.kinds.Kind.{Kind}
use Rattle.equation_law.specs.declared.coding.Args.{Args}
use Rattle.equation_law.specs.declared.coding.Instance.{Instance as CodedInstance}
use Rattle.equation_law.specs.Checked.{IsInstance}
use Rattle.equation_law.specs.Codes.{AreCodes, Naming, arguments_by, codes_in, instance_by, reference_by, value_coded}
use Rattle.equation_law.specs.Names.{Argument, Attribute, Instance, Query}
use Rattle.equation_law.specs.Program.{Program, attribute_parameters}
use Rattle.equation_law.specs.Systems.{program_of}
use Rattle.equation_law.specs.Values.{as_argument}
use Rattle.equation_law.proofs.Codes.{one_reference}
use Rattle.equation_law.proofs.Keys.{one_list}
use Rattle.made_trees.specs.Made.{AreNamed, last_code}
use Rattle.memo_cells.specs.declared.view.Frame.{Frame}
use Rattle.memo_cells.specs.declared.view.View.{View}
use Rattle.memo_cells.specs.Agreeing.{Agrees, AreKnownCodes, ByEachAgreeing, IsKnownNode}
use Rattle.memo_cells.specs.Keys.{argument_word, attribute_word, is_set_word, query_word}
use Rattle.memo_cells.specs.Naming.{ClaimsKeysTo, IsCellOf, IsFormed, IsKeyTo, IsNamed, StandsFor}
use Rattle.memo_cells.specs.Standing.{IsPassOf}
use Rattle.memo_cells.specs.Views.{ClaimsOnly, Has, IsAtLeast, IsNowhere, IsPlain, IsSlot}
use Rattle.memo_cells.proofs.Agreeing.{agrees_before, meaning_each, row_each}
use Rattle.memo_cells.proofs.Naming.{key_later, named_later, named_plain, one_word, stands_known, stands_named}

-- the first of some codes are codes
pub codes_front : (p : Program) (ks : List Kind) (cs ds : List ℕ) → AreCodes p ks (cs ++ ds) → AreCodes p ks cs
codes_front p [] [] ds h = tt
codes_front p (k ∷ ks) [] ds h = tt
codes_front p [] (c ∷ cs) ds h = absurd h
codes_front p (k ∷ ks) (c ∷ cs) ds h = (h.0, codes_front p ks cs ds h.1)

-- and stand for the first of the arguments
pub arguments_front : (n : Naming) (ks : List Kind) (cs ds : List ℕ) → (zs : List Argument) × (arguments_by n ks cs ++ zs ≡ arguments_by n ks (cs ++ ds))
arguments_front n [] cs ds = ([], refl)
arguments_front n (k ∷ ks) [] ds = (arguments_by n (k ∷ ks) ds, refl)
arguments_front n (k ∷ ks) (c ∷ cs) ds = let r = arguments_front n ks cs ds in (r.0, ap (λ (xs : List Argument). as_argument k (value_coded n k c) ∷ xs) r.1)

-- and known where all of them are
known_front : (last : ℕ) (ks : List Kind) (cs ds : List ℕ) → AreNamed last ks (cs ++ ds) → AreNamed last ks cs
known_front last [] cs ds all = tt
known_front last (k ∷ ks) [] ds all = tt
known_front last (k ∷ ks) (c ∷ cs) ds all = (all.0, known_front last ks cs ds all.1)

-- the attribute a at the node of code n, with the first codes of its arguments, stands at the slot s
pub record IsOnWay (f : Frame) (v : View) (a n : ℕ) (done : List ℕ) (s : ℕ) : Type 0 where
  pub key : ℕ
  pub slot : IsSlot f v s key
  pub named : IsNamed v key a n (reverse done)

-- a slot of such a key has no word of a set
pub slot_plain : (f : Frame) (v : View) (s k : ℕ) → IsPassOf f v → IsSlot f v s k → is_set_word k ≡ false → IsPlain v s
slot_plain f v s k own at plain = (k, at.1, plain)

pub way_plain : (f : Frame) (v : View) (a n : ℕ) (done : List ℕ) (s : ℕ) → IsPassOf f v → IsOnWay f v a n done s → IsPlain v s
way_plain f v a n done s own h = slot_plain f v s h.key own h.slot (named_plain v h.key a n (reverse done) h.named)

pub way_later : (f : Frame) (v w : View) (a n : ℕ) (done : List ℕ) (s : ℕ) → IsAtLeast v w → IsOnWay f v a n done s → IsOnWay f w a n done s
way_later f v w a n done s more h = record { key = h.key; slot = (h.slot.0, more.keys s h.key h.slot.1); named = named_later v w more h.key a n (reverse done) h.named }

-- one code more, and those behind it
pub take_more : (cs : List ℕ) (k c : ℕ) → slice_get cs k ≡ Some c → (take (suc k) cs ≡ take k cs ++ c ∷ []) × (take k cs ++ c ∷ drop (suc k) cs ≡ cs)
take_more [] k c e = cc
take_more (x ∷ cs) zero c e = let same : x ≡ c = cc in ((λ i. same i ∷ []), (λ i. sym same i ∷ cs))
take_more (x ∷ cs) (suc k) c e = let rest = take_more cs k c e in (ap (λ (l : List ℕ). x ∷ l) rest.0, ap (λ (l : List ℕ). x ∷ l) rest.1)

-- what some calls claimed in turn
pub claims_on : (p : Program) (u v w : View) (i : Instance) → ClaimsKeysTo p u v i → ClaimsKeysTo p v w i → IsAtLeast v w → ClaimsKeysTo p u w i
claims_on p u v w i a b more s =
    ⊎_elim (λ e. ⊎_elim (λ d. inl (d ∙ e)) inr (b s)) (λ h. inr (h.0, more.keys s h.0 h.1, key_later v w more p i h.0 h.2)) (a s)

pub claims_key : (p : Program) (v w : View) (i : Instance) (k : ℕ) → ClaimsOnly v w k → IsKeyTo p w i k → ClaimsKeysTo p v w i
claims_key p v w i k only key s = ⊎_elim inl (λ h. inr (k, h, key)) (only s)

-- the same by each naming that agrees then
pub claims_on_each : (p : Program) (u v w : View) (i : CodedInstance) → ByEachAgreeing p v.made (λ n. ClaimsKeysTo p u v (instance_by p n i)) → ByEachAgreeing p w.made (λ n. ClaimsKeysTo p v w (instance_by p n i)) → IsAtLeast v w → ByEachAgreeing p w.made (λ n. ClaimsKeysTo p u w (instance_by p n i))
claims_on_each p u v w i a b more n agrees = claims_on p u v w (instance_by p n i) (a n (agrees_before p more.made agrees)) (b n agrees) more

pub claims_key_each : (p : Program) (v w : View) (i : CodedInstance) (k : ℕ) → ClaimsOnly v w k → ByEachAgreeing p w.made (λ n. IsKeyTo p w (instance_by p n i) k) → ByEachAgreeing p w.made (λ n. ClaimsKeysTo p v w (instance_by p n i))
claims_key_each p v w i k only key n named = claims_key p v w (instance_by p n i) k only (key n named)

-- one code more
turned : (done : List ℕ) (c : ℕ) → reverse (done ++ c ∷ []) ≡ c ∷ reverse done
turned done c = reverse-append done (c ∷ [])

module _ (f : Frame) (v : View) (a n : ℕ) where
  pub next_named : (done : List ℕ) (s c : ℕ) → IsOnWay f v a n done s → s < 2 ^ 29 → c < 2 ^ 32 → IsNamed v (argument_word s c) a n (reverse (done ++ c ∷ []))
  next_named done s c h ls lc = subst (λ (cs : List ℕ). IsNamed v (argument_word s c) a n cs) (sym (turned done c)) (s, h.key, h.slot.1, h.named, ls, lc, refl)

  -- a word with more codes goes through one with fewer
  named_through : (s l : ℕ) (cs ds : List ℕ) → Has v.keys (s, l) → IsNamed v l a n (cs ++ ds) → (t m : ℕ) × Has v.keys (t, m) × IsNamed v m a n ds
  named_through s l [] ds has h = (s, l, has, h)
  named_through s l (c ∷ cs) ds has h = named_through h.0 h.1 cs ds h.2 h.3

  module _ (p : Program) {m : Naming} (by : Agrees p v.made m) (pooled : ArePooled p.texts) (own : IsPassOf f v) (xs : Args) (good : AreCodes p (attribute_parameters p a) (codes_in xs)) where
    abbrev i : Instance
    i = Attribute a (reference_by m.node n) (arguments_by m (attribute_parameters p a) (codes_in xs))

    -- its cell has the word with all the codes
    cell_named : (s : ℕ) → IsCellOf p f v i s → (l : ℕ) × Has v.keys (s, l) × IsNamed v l a n (reverse (codes_in xs))
    cell_named s h =
        let node : h.2.node ≡ n = one_reference by.named h.2.node n (h.2.at m by) in
        let codes : h.2.codes ≡ codes_in xs = one_list p pooled by.named (attribute_parameters p a) h.2.codes (codes_in xs) h.2.good good (h.2.arguments m by) in
        (h.0, h.1.1, subst (λ (y : ℕ × List ℕ). IsNamed v h.0 a y.0 (reverse y.1)) (λ t. (node t, codes t)) h.2.named)

    -- where the key of the attribute at the node stands nowhere, there is no cell
    pub nowhere_first : IsNowhere v (attribute_word a n) → (s : ℕ) → ¬ IsCellOf p f v i s
    nowhere_first none s h =
        let cell = cell_named s h in
        let first = named_through s cell.0 (reverse (codes_in xs)) [] cell.1 (subst (λ (cs : List ℕ). IsNamed v cell.0 a n cs) (sym (append-nil (reverse (codes_in xs)))) cell.2) in
        none first.0 (subst (λ (k : ℕ). Has v.keys (first.0, k)) first.3.2 first.2)

    -- nor where that of an argument does
    pub nowhere_next : (done rest : List ℕ) (s c : ℕ) → done ++ c ∷ rest ≡ codes_in xs → IsOnWay f v a n done s → IsNowhere v (argument_word s c) → (t : ℕ) → ¬ IsCellOf p f v i t
    nowhere_next done rest s c all way none t h =
        let cell = cell_named t h in
        let codes : reverse (codes_in xs) ≡ reverse rest ++ c ∷ reverse done =
        ap reverse (sym all) ∙ reverse-append done (c ∷ rest) ∙ ap (λ (cs : List ℕ). cs ++ reverse done) (reverse-append (c ∷ []) rest) ∙ append_assoc (reverse rest) (c ∷ []) (reverse done)
        in
        let next = named_through t cell.0 (reverse rest) (c ∷ reverse done) cell.1 (subst (λ (cs : List ℕ). IsNamed v cell.0 a n cs) codes cell.2) in
        let before = next.3 in
        let word : before.1 ≡ way.key = one_word v own.one_key own.one_place before.1 way.key a n (reverse done) before.3 way.named in
        let slot : before.0 ≡ s = own.one_place before.0 s way.key (subst (λ (j : ℕ). Has v.keys (before.0, j)) word before.2) way.slot.1 in
        let key : next.1 ≡ argument_word s c = before.6 ∙ ap (λ (q : ℕ). argument_word q c) slot in
        none next.0 (subst (λ (k : ℕ). Has v.keys (next.0, k)) key next.2)

-- a key of the way leads to the instance, whose codes are known
module _ (p : Program) (v : View) {m : Naming} (by : Agrees p v.made m) (a n : ℕ) (xs : Args) (good : AreCodes p (attribute_parameters p a) (codes_in xs)) (known : IsKnownNode v.made n × AreKnownCodes v.made (attribute_parameters p a) (codes_in xs)) where
  abbrev of : Instance
  of = Attribute a (reference_by m.node n) (arguments_by m (attribute_parameters p a) (codes_in xs))

  pub key_on_way : IsInstance p of → (k : ℕ) (done rest : List ℕ) → done ++ rest ≡ codes_in xs → IsNamed v k a n (reverse done) → IsKeyTo p v of k
  key_on_way is k done rest all h =
      let front = arguments_front m (attribute_parameters p a) done rest in
      let front_known : AreKnownCodes v.made (attribute_parameters p a) done = known_front (last_code (length v.made)) (attribute_parameters p a) done rest (subst (λ (cs : List ℕ). AreKnownCodes v.made (attribute_parameters p a) cs) (sym all) known.1) in
      record {
        prefix = Attribute a (reference_by m.node n) (arguments_by m (attribute_parameters p a) done);
        of = (front.0, ap (Attribute a (reference_by m.node n)) (front.1 ∙ ap (arguments_by m (attribute_parameters p a)) all));
        stands = record {
          node = n;
          codes = done;
          at = meaning_each p v.made by n (reference_by m.node n) known.0 refl;
          good = codes_front p (attribute_parameters p a) done rest (subst (λ (cs : List ℕ). AreCodes p (attribute_parameters p a) cs) (sym all) good);
          arguments = row_each p v.made by (attribute_parameters p a) done front_known;
          known = (known.0, front_known);
          named = h;
        };
      }

  pub formed_on_way : IsInstance p of → (k : ℕ) (done rest : List ℕ) → done ++ rest ≡ codes_in xs → IsNamed v k a n (reverse done) → IsFormed p v k
  formed_on_way is k done rest all h = inl (record { of = of; instance = is; key = key_on_way is k done rest all h })

-- the way to the first codes
module _ (f : Frame) (v w : View) (a n : ℕ) (xs : Args) (place s : ℕ) (way : IsOnWay f v a n (take place (codes_in xs)) s) (own : IsPassOf f v) (more : IsAtLeast v w) where
  pub fits : s < 2 ^ 29
  fits = let few = own.few in let lt = way.slot.0 in omega (arith, few, lt)

  -- goes on with one more
  module _ (c t : ℕ) (small : c < 2 ^ 32) (at : slice_get (codes_in xs) place ≡ Some c) where
    pub word_next : IsNamed v (argument_word s c) a n (reverse (take place (codes_in xs) ++ c ∷ []))
    word_next = next_named f v a n (take place (codes_in xs)) s c way fits small

    pub way_next : IsSlot f w t (argument_word s c) → IsOnWay f w a n (take (place + 1) (codes_in xs)) t
    way_next slot =
        let one : suc place ≡ place + 1 = omega arith in
        record {
          key = argument_word s c;
          slot = slot;
          named = subst (λ (cs : List ℕ). IsNamed w (argument_word s c) a n (reverse cs)) (sym (take_more (codes_in xs) place c at).0 ∙ ap (λ (k : ℕ). take k (codes_in xs)) one) (named_later v w more (argument_word s c) a n _ word_next);
        }

    pub place_less : place < length (codes_in xs)
    place_less = slice_get_within (codes_in xs) place c at

    -- the word of the next code is one on the way
    next_behind : (take place (codes_in xs) ++ c ∷ []) ++ drop (suc place) (codes_in xs) ≡ codes_in xs
    next_behind = append_assoc (take place (codes_in xs)) (c ∷ []) (drop (suc place) (codes_in xs)) ∙ (take_more (codes_in xs) place c at).1

    pub key_next : (p : Program) {m : Naming} → Agrees p v.made m → IsKnownNode v.made n × AreKnownCodes v.made (attribute_parameters p a) (codes_in xs) → AreCodes p (attribute_parameters p a) (codes_in xs) → IsInstance p (Attribute a (reference_by m.node n) (arguments_by m (attribute_parameters p a) (codes_in xs)))
        → IsKeyTo p v (Attribute a (reference_by m.node n) (arguments_by m (attribute_parameters p a) (codes_in xs))) (argument_word s c)
    key_next p by known good is = key_on_way p v by a n xs good known is (argument_word s c) (take place (codes_in xs) ++ c ∷ []) (drop (suc place) (codes_in xs)) next_behind word_next

    pub key_after : (p : Program) (m : Naming) → Agrees p v.made m → IsKnownNode v.made n × AreKnownCodes v.made (attribute_parameters p a) (codes_in xs) → AreCodes p (attribute_parameters p a) (codes_in xs) → IsInstance p (Attribute a (reference_by m.node n) (arguments_by m (attribute_parameters p a) (codes_in xs)))
        → IsKeyTo p w (Attribute a (reference_by m.node n) (arguments_by m (attribute_parameters p a) (codes_in xs))) (argument_word s c)
    key_after p m by known good is = key_later v w more p (Attribute a (reference_by m.node n) (arguments_by m (attribute_parameters p a) (codes_in xs))) (argument_word s c) (key_next p by known good is)

    -- whatever the codes stand for
    pub way_key_next : (front behind : List ℕ) × (front ++ behind ≡ codes_in xs) × IsNamed w (argument_word s c) a n (reverse front)
    way_key_next = (take place (codes_in xs) ++ c ∷ [], drop (suc place) (codes_in xs), next_behind, named_later v w more (argument_word s c) a n (reverse (take place (codes_in xs) ++ c ∷ [])) word_next)

  -- where the word of the next code stands nowhere, the instance has no cell
  pub nowhere_on : (c : ℕ) → slice_get (codes_in xs) place ≡ Some c → (p : Program) {m : Naming} → Agrees p w.made m → ArePooled p.texts → IsPassOf f w → AreCodes p (attribute_parameters p a) (codes_in xs) → IsNowhere w (argument_word s c)
      → (t : ℕ) → ¬ IsCellOf p f w (Attribute a (reference_by m.node n) (arguments_by m (attribute_parameters p a) (codes_in xs))) t
  nowhere_on c at p by pooled own-later good none =
      nowhere_next f w a n p by pooled own-later xs good (take place (codes_in xs)) (drop (suc place) (codes_in xs)) s c (take_more (codes_in xs) place c at).1 (way_later f v w a n (take place (codes_in xs)) s more way) none

-- with all codes it is the cell of the attribute
take_all : (cs : List ℕ) (k : ℕ) → slice_get cs k ≡ None → take k cs ≡ cs
take_all [] zero e = refl
take_all [] (suc k) e = refl
take_all (x ∷ cs) zero e = cc
take_all (x ∷ cs) (suc k) e = ap (λ (l : List ℕ). x ∷ l) (take_all cs k e)

pub way_ends : (f : Frame) (v : View) → IsPassOf f v → {m : Naming} → Agrees (program_of f.system.value) v.made m → (a n : ℕ) (xs : Args) (place s : ℕ) → slice_get (codes_in xs) place ≡ None → IsOnWay f v a n (take place (codes_in xs)) s
    → IsCellOf (program_of f.system.value) f v (Attribute a (reference_by m.node n) (arguments_by m (attribute_parameters (program_of f.system.value) a) (codes_in xs))) s
way_ends f v own by a n xs place s none way =
    let p = program_of f.system.value in
    let named : IsNamed v way.key a n (reverse (codes_in xs)) = subst (λ (cs : List ℕ). IsNamed v way.key a n (reverse cs)) (take_all (codes_in xs) place none) way.named in
    let it = own.named s way.key a n (reverse (codes_in xs)) way.slot.1 named in
    (way.key, way.slot, subst (StandsFor p v way.key) (sym (stands_named v own.one_key p by way.key a n (codes_in xs) it.0 it.1 named)) it.1)

-- and the pass knows the nodes of the instance
pub way_known : (f : Frame) (v : View) → IsPassOf f v → (a n : ℕ) (xs : Args) (place s : ℕ) → slice_get (codes_in xs) place ≡ None → IsOnWay f v a n (take place (codes_in xs)) s → IsKnownNode v.made n × AreKnownCodes v.made (attribute_parameters (program_of f.system.value) a) (codes_in xs)
way_known f v own a n xs place s none way =
    let named : IsNamed v way.key a n (reverse (codes_in xs)) = subst (λ (cs : List ℕ). IsNamed v way.key a n (reverse cs)) (take_all (codes_in xs) place none) way.named in
    let it = own.named s way.key a n (reverse (codes_in xs)) way.slot.1 named in
    stands_known v own.one_key (program_of f.system.value) way.key a n (codes_in xs) it.0 it.1 named

-- what follows where a call finds something, or nothing
pub some_then : {X : Type 0} {P Q : X → Type 0} (o : Option X) → ((x : X) → P x → Q x) → IfSome o P → IfSome o Q
some_then None more h = tt
some_then (Some x) more h = more x h

pub none_then : {X P Q : Type 0} (o : Option X) → (P → Q) → IfNone o P → IfNone o Q
none_then None more h = more h
none_then (Some x) more h = tt

-- what holds where a call fails, or finds nothing
pub if_none : {X : Type 0} {P : Type 0} (o : Option X) → P → IfNone o P
if_none None h = h
if_none (Some x) h = tt

pub on_err : {T E : Type 0} {P : Type 0} (r : Result T E) → P → OnErr r P
on_err (Ok x) h = tt
on_err (Err e) h = h

-- a query has its own key alone
module _ (p : Program) (v : View) (q : ℕ) (small : q < 2 ^ 32) where
  pub query_key : IsKeyTo p v (Query q) (query_word q)
  query_key = record { prefix = Query q; of = ([], refl); stands = (small, refl) }

  pub query_formed : IsInstance p (Query q) → IsFormed p v (query_word q)
  query_formed is = inl (record { of = Query q; instance = is; key = query_key })
