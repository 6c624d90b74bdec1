-- Forms over elements that go on where they stood.
use Rattle.std.proofs.Common.{◌≡◌, ◌<◌, ◌≤◌, ◌⊎◌, Bor, Result, Ok, Err, List, [], ◌∷◌, refl, sym, ap, subst, ◌∙◌, inl, inr, true, arith, ℕ, length, map, pos}
use Rattle.std.specs.List.{Contains}
use Rattle.std.specs.Result.{IsErr, IsErrAnd}
use Rattle.std.proofs.lemmas.Result.{err_from_is_err_and}
use Rattle.attr_rules.specs.declared.expression.TExpr.{TExpr}
use Rattle.attr_rules.specs.Expression.{Expression, Quantified, QuantifiedSet, Each, EachOfSet, expression_of}
use Rattle.tree_arena.specs.Nodes.{most_nodes}
use Rattle.solutions.specs.Asking.{Demands, Ends, Halts, next}
use Rattle.equation_law.specs.declared.coding.Instance.{Instance as CodedInstance}
use Rattle.equation_law.specs.declared.coding.NodeRef.{NodeRef}
use Rattle.equation_law.specs.declared.coding.Single.{Single as CodedSingle}
use Rattle.equation_law.specs.declared.coding.Value.{Value as CodedValue}
use Rattle.equation_law.specs.declared.system.System.{System}
use Rattle.equation_law.specs.Codes.{AreElements, ByEachNaming, Naming, instance_by, reference_by, single_by, source_names, value_by}
use Rattle.equation_law.specs.Equations.{world_of}
use Rattle.equation_law.specs.Meaning.{Place}
use Rattle.equation_law.specs.Names.{Instance, Source}
use Rattle.equation_law.specs.Program.{Program}
use Rattle.equation_law.specs.Reading.{ByEachIn, Grows, IsSound, KnowsValue, Told}
use Rattle.equation_law.specs.Systems.{program_of}
use Rattle.equation_law.specs.Values.{Value}
use Rattle.set_values.specs.Ordered.{KnowsSingle}
use Rattle.expr_eval.specs.declared.accessors.Elements.{Elements}
use Rattle.expr_eval.specs.declared.accessors.Origin.{Origin}
use Rattle.expr_eval.specs.declared.accessors.Origin.TheVariants as origins
use Rattle.expr_eval.specs.declared.evaluation.Context.{Context}
use Rattle.expr_eval.specs.declared.evaluation.Halt.{Halt}
use Rattle.expr_eval.specs.declared.evaluation.Halt.TheVariants.{Need, Memory}
use Rattle.expr_eval.specs.declared.saved.Going.{Going}
use Rattle.expr_eval.specs.declared.saved.Making.{Making}
use Rattle.expr_eval.specs.declared.saved.Saved.{Saved}
use Rattle.expr_eval.specs.declared.saved.Stand.{Stand}
use Rattle.expr_eval.specs.Elements.{KnowsElements, KnowsOrigin, Rooms, element_from, element_in, elements_in, read_with}
use Rattle.expr_eval.specs.Evaluating.{Answers, Comes, Given, KnowsContext, Places, Stopped, Wants, is_over_form, place_in, places_kept, read_at, reads_at}
use Rattle.expr_eval.specs.Reads.{Advances, GoesOver, IsStood, Reads, ReadsStand, State, places_with, reads_with, state}
use Rattle.expr_eval.specs.Saved.{AddsOne, AreRanged, AreSaved, HasGone, IsFirst, IsGoing, IsRanged, IsTaken, Loses, RangesBy, Stands, TakesIn, begun, body_of, done, made, making_of, over, range_of, ranged}
use Rattle.expr_eval.proofs.Forms.{advances_read, advances_then, answers_as, comes_next, elements_later, naming_in, part_err, wants_next}
use Rattle.expr_eval.proofs.Growing.{comes_more, stands_more}
use Rattle.expr_eval.proofs.Knowing.{InValue, begun_in, by_sources, element_in as element_in_list, made_in, named_in, single_in, single_known, singles_in, value_in, value_known}
use Rattle.expr_eval.proofs.Over.{done_within, gone_begun, gone_ends, gone_further, gone_halts}

-- the fault that is handed on
pub handed : {T : Type 0} (P : Result T Halt → Type 0) {h : Halt} {res : Result T Halt} → IsErr res × IsErrAnd res (λ m. m ≡ h) → P (Err h) → P res
handed P {res = res} f a = let g = err_from_is_err_and res f.1 in subst P (sym (g.1 ∙ ap Err g.2)) a

-- what a form demands: what its elements come from, and then what is said at them
over_part : (p : Program) (place : Place) (e : Expression) → is_over_form e ≡ true → read_at p place e ≡ next (read_at p place (range_of e)) (λ v. over (making_of e) (ranged (world_of p) e v) (read_with p place (body_of e)))
over_part p place (Quantified q k e b) h = refl
over_part p place (QuantifiedSet q e b) h = refl
over_part p place (Each t k e b) h = refl
over_part p place (EachOfSet t e b) h = refl
over_part p place _ h = cc

-- what follows the value that its elements come from
abbrev said_over : System → Place → Expression → Value → Demands Instance Value
said_over s place e v = over (making_of e) (ranged (world_of (program_of s)) e v) (read_with (program_of s) place (body_of e))

-- what it demands is this
whole_of : {S : Type 0} (s : System) (t : Told S) (place : Places) (e : Expression) → is_over_form e ≡ true → (res : Result CodedValue Halt) → Answers (program_of s) t (λ n. next (read_at (program_of s) (place n) (range_of e)) (said_over s (place n) e)) res → Answers (program_of s) t (reads_at (program_of s) place e) res
whole_of s t place e form res a = answers_as (program_of s) t (λ n. next (read_at (program_of s) (place n) (range_of e)) (said_over s (place n) e)) (reads_at (program_of s) place e) res (λ n at. sym (over_part (program_of s) (place n) e form)) a

module _ {S : Type 0} (s : System) {r t : State S} (place : Places) (e : Expression) (form : is_over_form e ≡ true) where
  -- all elements are done with
  pub over_ends : (x : CodedValue) {list : Elements} {stand : Stand} → Advances (program_of s) r t → IsRanged s t.told place e list → Stands s t.told place (making_of e) (body_of e) list stand → stand.next ≡ list.count → ((n : Naming) → value_by n x ≡ value_by n stand.so_far) → AreElements (program_of s) x → Reads (program_of s) r t place e (Ok x)
  over_ends x {list} {stand} kept range stands all same coded =
      let sound = kept.sound.sound in
      let known = value_known sound x (λ n is. same n) (value_in sound stand.so_far stands.known) in
      record { kept = kept; is = whole_of s t.told place e form (Ok x) (record { comes = λ n at. by n at (range n at); coded = coded; known = known }) }
    where
      by : (n : Naming) → t.told.names n → RangesBy s t.told n (place n) e list → Comes t.told.has (next (read_at (program_of s) (place n) (range_of e)) (said_over s (place n) e)) (value_by n x)
      by n at one =
          let f : Value → Demands Instance Value = read_with (program_of s) (place n) (body_of e) in
          let whole = gone_ends (element_in n s list) f list.count (making_of e) stand.next (value_by n stand.so_far) all (stands.gone n at) in
          let there = subst (λ v. Ends t.told.has (over (making_of e) (elements_in n s list) f) v whole.0) (sym (same n)) whole.1 in
          let ends = subst (λ xs. Ends t.told.has (over (making_of e) xs f) (value_by n x) whole.0) one.are there in
          comes_next (said_over s (place n) e) one.comes (whole.0, ends)

  -- a demand at one of them has no value
  pub over_halts : (i : CodedInstance) {list : Elements} {stand : Stand} → Advances (program_of s) r t → IsRanged s t.told place e list → Stands s t.told place (making_of e) (body_of e) list stand → stand.next < list.count
      → Stopped (program_of s) t.told (reads_with s place (body_of e) (λ n. element_in n s list stand.next)) i → Reads (program_of s) r t place e (Err (Need i))
  over_halts i {list} {stand} kept range stands within stopped = record { kept = kept; is = whole_of s t.told place e form (Err (Need i)) (record { wants = λ n at. by n at (range n at); coded = stopped.coded; known = stopped.known }) }
    where
      by : (n : Naming) → t.told.names n → RangesBy s t.told n (place n) e list → Wants t.told.has (next (read_at (program_of s) (place n) (range_of e)) (said_over s (place n) e)) (instance_by (program_of s) n i)
      by n at one =
          let f : Value → Demands Instance Value = read_with (program_of s) (place n) (body_of e) in
          let whole = gone_halts (element_in n s list) f list.count (making_of e) stand.next (value_by n stand.so_far) within (stands.gone n at) (stopped.wants n at).1 in
          let halts = subst (λ xs. Halts t.told.has (over (making_of e) xs f) (instance_by (program_of s) n i) whole.0) one.are whole.1 in
          wants_next (said_over s (place n) e) one.comes (whole.0, halts)

-- what a form that is kept so makes, and what it says
pub makes_by : {m : Making} {a b : TExpr} → m ≡ making_of (expression_of a) → a ≡ b → making_of (expression_of b) ≡ m
makes_by h same = sym (h ∙ ap (λ x. making_of (expression_of x)) same)

pub stands_by : {S : Type 0} {s : System} {t : Told S} {place : Places} {m n : Making} {b d : Expression} {list : Elements} {stand : Stand} → m ≡ n → b ≡ d → Stands s t place m b list stand → Stands s t place n d list stand
stands_by {s = s} {t = t} {place = place} {m = m} {n = n} {b = b} {d = d} {list = list} {stand = stand} x y h = subst (λ o. Stands s t place n o list stand) y (subst (λ o. Stands s t place o b list stand) x h)

pub over_by : {S : Type 0} {s : System} {r t : State S} {place : Places} {m n : Making} {b d : Expression} {list : Elements} {stand : Stand} {res : Result Unit Halt} → m ≡ n → b ≡ d → GoesOver s r t place m b list stand res → GoesOver s r t place n d list stand res
over_by {s = s} {r = r} {t = t} {place = place} {m = m} {n = n} {b = b} {d = d} {list = list} {stand = stand} {res = res} x y h = subst (λ o. GoesOver s r t place n o list stand res) y (subst (λ o. GoesOver s r t place o b list stand res) x h)

-- behind one more element
stands_further : {S : Type 0} {s : System} {t : Told S} {place : Places} {m : Making} {b : Expression} {list : Elements} {now : Stand} (then : Stand) (w : Naming → Value) → Stands s t place m b list now → now.next < list.count
    → ByEachIn t (λ n. Comes t.has (read_with (program_of s) (place n) b (element_in n s list now.next)) (w n)) → then.next ≤ list.count → ((n : Naming) → then.next ≡ done m list.count now.next (w n))
    → ByEachIn t (λ n. value_by n then.so_far ≡ made m (element_in n s list now.next) (value_by n now.so_far) (w n)) → AreElements (program_of s) then.so_far → KnowsValue t then.so_far → Stands s t place m b list then
stands_further {s = s} {t = t} {place = place} {m = m} {b = b} {list = list} {now = now} then w h within ends few next value coded known = record {
  gone = λ n at.
      let element = element_in n s list in
      let f : Value → Demands Instance Value = read_with (program_of s) (place n) b in
      let gone = gone_further element f list.count m now.next (value_by n now.so_far) (w n) within (h.gone n at) (ends n at).1 in
      let counted = subst (λ k. HasGone t.has element f list.count m k (made m (element now.next) (value_by n now.so_far) (w n))) (sym (next n)) gone in
      subst (λ v. HasGone t.has element f list.count m then.next v) (sym (value n at)) counted;
  within = few;
  coded = coded;
  known = known;
}

-- before the first element
stands_begun : {S : Type 0} {s : System} {t : Told S} {place : Places} {m : Making} {b : Expression} {list : Elements} (stand : Stand) → stand.next ≡ 0 → ByEachIn t (λ n. value_by n stand.so_far ≡ begun m) → AreElements (program_of s) stand.so_far → KnowsValue t stand.so_far → Stands s t place m b list stand
stands_begun {s = s} {t = t} {place = place} {m = m} {b = b} {list = list} stand none value coded known = record {
  gone = λ n at.
      let element = element_in n s list in
      let f : Value → Demands Instance Value = read_with (program_of s) (place n) b in
      let counted = subst (λ k. HasGone t.has element f list.count m k (begun m)) (sym none) (gone_begun t.has element f list.count m) in
      subst (λ v. HasGone t.has element f list.count m stand.next v) (sym (value n at)) counted;
  within = subst (λ n. n ≤ list.count) (sym none) (omega arith);
  coded = coded;
  known = known;
}

-- what its elements come from has no value
pub range_stops : {S : Type 0} (s : System) {r t : State S} (place : Places) (names : List CodedSingle) (e : Expression) {h : Halt} → is_over_form e ≡ true → Reads (program_of s) r t place (range_of e) (Err h) → ReadsStand s r t place names (making_of e) e (body_of e) (Err h)
range_stops s {r = r} {t = t} place names e {h = h} form a = record {
  kept = a.kept;
  is = whole_of s t.told place e form (Err h) (part_err (program_of s) t.told (reads_at (program_of s) place (range_of e)) (λ n. said_over s (place n) e) h a.is);
}

-- its elements are known, and it stands before the first of them
pub stood_first : {S : Type 0} (c : Context) (e : Expression) {r t : State S} {u : Told S} {v : CodedValue} {stood : Elements × Stand} → Reads (program_of c.system.now) r t (place_in c) (range_of e) (Ok v) → Grows (program_of c.system.now) t.told u → AreRanged c.system.now u e v stood.0 → KnowsElements u stood.0
    → IsFirst c e stood.1 → ReadsStand c.system.now r (state t.system u t.saved) (place_in c) c.names.now (making_of e) e (body_of e) (Ok stood)
stood_first c e {u = u} {v = v} {stood = stood} a grows are elements first = record {
  kept = advances_then a.kept (advances_read a.kept.sound grows);
  is = record {
    room = first.room;
    elements = elements;
    ranged = λ n at. record { value = value_by n v; comes = comes_more grows.values (a.is.comes n (grows.names n at)); are = are n at };
    stands = stands_begun stood.1 first.next (λ n at. first.so_far n (grows.sound.named n at)) first.coded (value_known grows.sound stood.1.so_far first.so_far (begun_in u.knows (making_of e)));
  };
}

-- what is read with names of which an element is the first is read at the element
pub read_at_element : {S : Type 0} {r s : State S} (c : Context) (x : CodedSingle) {xs : List CodedSingle} {e : Expression} {came : Result CodedValue Halt} → xs ≡ x ∷ c.names.now → Reads (program_of c.system.now) r s (places_kept c.this.0 xs) e came → Reads (program_of c.system.now) r s (places_with c x) e came
read_at_element {r = r} {s = s} c x {xs} {e} {came} same h = subst (λ ys. Reads (program_of c.system.now) r s (places_kept c.this.0 ys) e came) same h

-- the same names stand behind the first
one_room : {names more all : List CodedSingle} → Rooms names all → Rooms more all → names ≡ more
one_room x y = ap behind_first (sym x.1 ∙ y.1)
  where
    behind_first : List CodedSingle → List CodedSingle
    behind_first [] = []
    behind_first (v ∷ vs) = vs

-- where a form stands, as it was saved
pub taken : {S : Type 0} {t : Told S} (c : Context) (e : Expression) (x : Saved) {found : Elements × Stand} → AreSaved c.system.now t x → IsTaken c e x found → IsStood c.system.now t (place_in c) c.names.now (making_of e) e (body_of e) found.0 found.1
taken {t = t} c e x {found = found} all h =
    let s = c.system.now in
    let g = h.0 in
    let one = all g h.1 in
    let names : one.names ≡ c.names.now = one_room one.room h.2.names in
    let place : places_kept g.this.0 one.names ≡ place_in c = (λ i. places_kept (ap (λ (n : NodeRef). n.0) h.2.this i) (names i)) in
    let ranged = subst (λ (o : Places). IsRanged s t o (expression_of g.form.now) g.list) place one.ranged in
    let stands = subst (λ (o : Places). Stands s t o (making_of (expression_of g.form.now)) (body_of (expression_of g.form.now)) g.list g.stand) place one.stands in
    let ranged_here = subst (λ f. IsRanged s t (place_in c) f g.list) h.2.form ranged in
    let stands_here = subst (λ f. Stands s t (place_in c) (making_of f) (body_of f) g.list g.stand) h.2.form stands in
    record {
      room = subst (λ (st : Stand). Rooms c.names.now st.names.items) h.4 h.2.names;
      elements = subst (λ l. KnowsElements t l) h.3 one.elements;
      ranged = subst (λ l. IsRanged s t (place_in c) e l) h.3 ranged_here;
      stands = subst (λ st. Stands s t (place_in c) (making_of e) (body_of e) found.0 st) h.4 (subst (λ l. Stands s t (place_in c) (making_of e) (body_of e) l g.stand) h.3 stands_here);
    }

module _ {S : Type 0} {p : Program} {q : State S} {s : System} {r : Told S} {x : Saved} where
  -- less is saved
  pub loses : (y : Saved) → Advances p q (state s r x) → Loses x y → Advances p q (state s r y)
  loses y h less = record { sound = record { sound = h.sound.sound; saved = λ g kept. h.sound.saved g (less g kept) }; values = h.values; bound = h.bound; kept = h.kept; names = h.names; known = h.known; heights = h.heights }

  -- one more is saved
  pub puts : (y : Saved) (one : Going) → Advances p q (state s r x) → AddsOne x y one → IsGoing s r one → Advances p q (state s r y)
  puts y one h more is = record { sound = record { sound = h.sound.sound; saved = λ g kept. of g (more g kept) }; values = h.values; bound = h.bound; kept = h.kept; names = h.names; known = h.known; heights = h.heights }
    where
      of : (g : Going) → Contains x.goings.items g ⊎ (g ≡ one) → IsGoing s r g
      of g (inl there) = h.sound.saved g there
      of g (inr same) = subst (IsGoing s r) (sym same) is

-- what is saved of a form that stands so
pub going_is : {S : Type 0} {t : Told S} (c : Context) (form : Bor TExpr) (list : Elements) (stand : Stand) → Rooms c.names.now stand.names.items → KnowsContext t c → KnowsElements t list → IsRanged c.system.now t (place_in c) (expression_of form.now) list
    → Stands c.system.now t (place_in c) (making_of (expression_of form.now)) (body_of (expression_of form.now)) list stand → IsGoing c.system.now t (record { form = form; this = c.this; list = list; stand = stand })
going_is c form list stand room known elements ranged stands = record { names = c.names.now; room = room; node = known.this; known = known.names; elements = elements; ranged = ranged; stands = stands }

module _ {S : Type 0} {r m t : State S} {making : Making} {b : Expression} {list : Elements} where
  -- what is said at the next element has no value
  pub stops_at : (c : Context) (h : Halt) (x : CodedSingle) (now then : Stand) → Advances (program_of c.system.now) r m → Stands c.system.now m.told (place_in c) making b list now → now.next < list.count → then.next ≡ now.next → then.so_far ≡ now.so_far
      → ByEachNaming (program_of c.system.now) (λ n. single_by n x ≡ element_in n c.system.now list now.next) → Reads (program_of c.system.now) m t (places_with c x) b (Err h) → GoesOver c.system.now r t (place_in c) making b list then (Err h)
  stops_at c (Need i) x now then before stands within next so_far is a =
      let s = c.system.now in
      let p = program_of s in
      let more : Stands s t.told (place_in c) making b list now = stands_more a.kept.values a.kept.names a.kept.known stands in
      let same : ByEachIn t.told (λ n. single_by n x ≡ element_in n s list then.next) = λ n at. is n (naming_in a.kept n at) ∙ ap (element_in n s list) (sym next) in
      record {
        kept = advances_then before a.kept;
        is = (
          record {
            gone = λ n at.
                let element = element_in n s list in
                let f : Value → Demands Instance Value = read_with p (place_in c n) b in
                let gone = subst (λ (v : CodedValue). HasGone t.told.has element f list.count making now.next (value_by n v)) (sym so_far) (more.gone n at) in
                subst (λ k. HasGone t.told.has element f list.count making k (value_by n then.so_far)) (sym next) gone;
            within = subst (λ n. n ≤ list.count) (sym next) more.within;
            coded = subst (AreElements p) (sym so_far) more.coded;
            known = subst (KnowsValue t.told) (sym so_far) more.known;
          },
          subst (λ n. n < list.count) (sym next) within,
          answers_as p t.told (reads_with s (place_in c) b (λ n. single_by n x)) (reads_with s (place_in c) b (λ n. element_in n s list then.next)) (Err (Need i)) (λ n at. ap (read_with p (place_in c n) b) (same n at)) a.is,
        );
      }
  stops_at c Memory x now then before stands within next so_far is a = record { kept = advances_then before a.kept; is = tt }

-- a fault by its value
pub halted : {S : Type 0} {s : System} {r t : State S} {place : Places} {making : Making} {b : Expression} {list : Elements} {stand : Stand} {h k : Halt} → h ≡ k → GoesOver s r t place making b list stand (Err h) → GoesOver s r t place making b list stand (Err k)
halted {s = s} {r = r} {t = t} {place = place} {making = making} {b = b} {list = list} {stand = stand} same a = subst (λ h. GoesOver s r t place making b list stand (Err h)) same a

-- the reader knows an element that is a node
pub element_known : {S : Type 0} {t : Told S} (s : System) (x : CodedSingle) (list : Elements) (i : ℕ) → IsSound (program_of s) t → length (program_of s).tree ≤ most_nodes → ByEachNaming (program_of s) (λ n. single_by n x ≡ element_in n s list i) → KnowsElements t list → KnowsSingle t x
element_known {t = t} s x list i sound few is h = single_known sound x is (of list.origin h)
  where
    of : (o : Origin) → KnowsOrigin t o → InValue t.knows (element_from (by_sources sound) s o i)
    of (origins.List m k) h = element_in_list sound few k.0 (reference_by Source m.0) (pos i)
    of (origins.Set xs) h = named_in t.knows (map (single_by (by_sources sound)) xs) i (singles_in sound xs h)

pub element_there : {S : Type 0} {r m : State S} (c : Context) (x : CodedSingle) (list : Elements) (i : ℕ) → Advances (program_of c.system.now) r m → length (program_of c.system.now).tree ≤ most_nodes → ByEachNaming (program_of c.system.now) (λ n. single_by n x ≡ element_in n c.system.now list i)
    → KnowsElements r.told list → KnowsSingle m.told x
element_there c x list i g few is h = element_known c.system.now x list i g.sound.sound few is (elements_later g list h)

-- what is said at the next element was taken in
pub taken_in : {S : Type 0} {t : Told S} {m : Making} {b : Expression} {list : Elements} {now : Stand} (c : Context) (then : Stand) (x : CodedSingle) (said : CodedValue) → IsSound (program_of c.system.now) t → ByEachNaming (program_of c.system.now) (λ n. single_by n x ≡ element_in n c.system.now list now.next)
    → KnowsSingle t x → Stands c.system.now t (place_in c) m b list now → now.next < list.count → Given (program_of c.system.now) t (reads_at (program_of c.system.now) (places_with c x) b) said → ((n : Naming) → then.next ≡ done m list.count now.next (value_by n said))
    → TakesIn c.system.now m x said now.so_far then.so_far → AreElements (program_of c.system.now) then.so_far → Stands c.system.now t (place_in c) m b list then
taken_in {t = t} {m = m} {b = b} {list = list} {now = now} c then x said sound is element h within given next value coded =
    let s = c.system.now in
    let p = program_of s in
    let here : ByEachIn t (λ n. single_by n x ≡ element_in n s list now.next) = λ n at. is n (sound.named n at) in
    let ends : ByEachIn t (λ n. Comes t.has (read_with p (place_in c n) b (element_in n s list now.next)) (value_by n said)) = λ n at. subst (λ y. Comes t.has (read_with p (place_in c n) b y) (value_by n said)) (here n at) (given.comes n at) in
    let taken = made_in t.knows m (single_by (by_sources sound) x) (value_by (by_sources sound) now.so_far) (value_by (by_sources sound) said) (single_in sound x element) (value_in sound now.so_far h.known) (value_in sound said given.known) in
    let known = value_known sound then.so_far value taken in
    let few = subst (λ k. k ≤ list.count) (sym (next any_names)) (done_within list.count m now.next (value_by any_names said) within) in
    stands_further then (λ n. value_by n said) h within ends few next (λ n at. value n (sound.named n at) ∙ ap (λ y. made m y (value_by n now.so_far) (value_by n said)) (here n at)) coded known
  where
    any_names : Naming
    any_names = source_names (λ k. [])
