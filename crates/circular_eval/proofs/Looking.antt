-- What an evaluation under a local set reads.
use Rattle.std.proofs.Common.{◌≡◌, ℕ, false, true, [], refl, sym, ap, subst, ◌∙◌, arith, le_refl}
use Rattle.std.specs.declared.cmp.Ordering.{Ordering}
use Rattle.ast_grammar.specs.declared.grammar.ClassId.{ClassId}
use Rattle.attr_rules.specs.declared.kinds.Kind.{Kind}
use Rattle.attr_rules.specs.declared.kinds.Kind.TheVariants as kinds
use Rattle.equation_law.specs.declared.coding.NodeRef.{NodeRef}
use Rattle.equation_law.specs.declared.coding.Up.{Up}
use Rattle.equation_law.specs.declared.system.System.{System}
use Rattle.equation_law.specs.Checked.{HasSourcesAlone}
use Rattle.equation_law.specs.Codes.{IsNamingOf, Naming}
use Rattle.equation_law.specs.Equations.{is_declared}
use Rattle.equation_law.specs.Names.{Instance}
use Rattle.equation_law.specs.Orders.{FitsKind}
use Rattle.equation_law.specs.Program.{Program}
use Rattle.equation_law.specs.Reading.{ArgumentBy, ChildBy, ClassBy, Grows, IsSound, OrderBy, TokenBy, Told, UpBy, code_above}
use Rattle.equation_law.specs.Systems.{program_of}
use Rattle.equation_law.specs.Values.{Value, as_kind}
use Rattle.equation_law.proofs.Bare.{argument_bare, child_bare, class_bare, token_bare, trees_fit, up_bare}
use Rattle.equation_law.proofs.Grown.{grows_itself}
use Rattle.equation_law.proofs.Solution.{one}
use Rattle.equation_law.proofs.Tied.{never_makes}
use Rattle.expr_eval.specs.declared.saved.Saved.{Saved}
use Rattle.expr_eval.specs.Saved.{AreSaved}
use Rattle.expr_eval.proofs.Growing.{saved_more}
use Rattle.made_trees.specs.Made.{naming_by_makers}
use Rattle.memo_cells.specs.declared.view.Frame.{Frame}
use Rattle.memo_cells.specs.declared.view.View.{View}
use Rattle.memo_cells.specs.Agreeing.{Agrees}
use Rattle.memo_cells.specs.Working.{Held, IsKnown, IsOwn, ReadsOn, TellsPass, program_at}
use Rattle.memo_cells.proofs.Agreeing.{IsOpen, agrees_before, node_known_later, own_open}
use Rattle.memo_cells.proofs.Showing.{not_both}
use Rattle.circular_eval.specs.Local.{AreKnownMembers, AreReadable, IsMemberOf, MayRead, MayReadByEach, Members, ReadsByEach, ReadsHere, here, present, reads_here, settled, solved}
use Rattle.circular_eval.specs.Looking.{told_here}
use Rattle.circular_eval.proofs.Knowing.{source_known}
use Rattle.circular_eval.proofs.Later.{read_later}
use Rattle.circular_eval.proofs.Tied.{may_other, readable_later}

-- a work is a reader for the program of its cells
pub work_sound : {W : Type 0} (held : W → Held) (x : W) (r : Told W) → TellsPass held x r → IsOwn (held x) → IsSound (program_at (held x)) r
work_sound held x r t own =
    let p = program_at (held x) in
    let ms = (held x).view.made in
    record {
      for = t.for own;
      within = λ i v h. t.may i v (t.known i v h).1;
      one_value = λ i v w a b. one p i v w (t.can i v a) (t.can i w b);
      named = λ n is. (t.named n is).named;
      some = (naming_by_makers p ms, t.each (naming_by_makers p ms) (own_open (held x).frame (held x).view [] own));
      sources = λ c low. t.knows c (source_known ms c low);
      fit = trees_fit p own.bare;
      trees = λ a o xs v may m is. absurd (let none = never_makes p own.bare a o in cc);
    }

-- what reads with it goes on
pub work_reads : {W : Type 0} (held : W → Held) (x y : W) (r s : Told W) → TellsPass held x r → TellsPass held y s → IsOwn (held x) → Grows (program_at (held x)) r s → ReadsOn (held x) (held y)
work_reads held x y r s t u own g = u.keeps x (g.kept x (t.itself own))

-- an undeclared instance that is read is known
pub known_read : {p : Program} {names : Naming} {v : View} {es : Members} {i : Instance} {w : Value} → is_declared p i ≡ false → ReadsHere p names v es i w → IsKnown p v i w
known_read d (settled n k) = k
known_read d (here n k) = absurd (not_both d n)

-- a value that fits the type is read as it is
pub fits_read : (k : Kind) (x : Value) → FitsKind k x → as_kind k x ≡ x
fits_read kinds.Truth x f = ap (as_kind kinds.Truth) f.1 ∙ sym f.1
fits_read kinds.Int x f = elim f [ ]
fits_read kinds.Text x f = elim f [ ]
fits_read (kinds.Node c) x f = elim f [ ]
fits_read kinds.Texts x f = ap (as_kind kinds.Texts) f.1 ∙ sym f.1
fits_read (kinds.Nodes c) x f = ap (as_kind (kinds.Nodes c)) f.1 ∙ sym f.1

pub none_read : {p : Program} {names : Naming} {v : View} {es : Members} {i : Instance} {w : Value} → is_declared p i ≡ true → ¬ IsMemberOf p names es i → ReadsHere p names v es i w → ⊥
none_read e none (settled n k) = not_both n e
none_read e none (here n m) = none m

-- what may be read of an instance is one value
read_once : {p : Program} {names : Naming} {es : Members} {j : Instance} {v w : Value} → MayRead p names es j v → MayRead p names es j w → v ≡ w
read_once {p} {names} {es} {j} {v} {w} (solved n a) (solved m b) = one p j v w a b
read_once (solved n a) (present m) = absurd (not_both n m)
read_once (present n) (solved m b) = absurd (not_both m n)
read_once (present n) (present m) = refl

may_read : {p : Program} {names : Naming} {v : View} {es : Members} {j : Instance} {w : Value} → ReadsHere p names v es j w → MayRead p names es j w
may_read (settled n k) = solved n k.1
may_read (here n k) = present n

-- an evaluation under a local set has a sound reader
pub here_sound : {S : Type 0} (d : Held) (s : System) (es : Members) (keeps : S → Type 0) (p : Program) → p ≡ program_at d → d.frame.system.value ≡ s → IsOwn d → AreReadable p d.view.made es → IsSound p (told_here d s es keeps)
here_sound d s es keeps p e same own kept = record {
  for = (e, same, own, kept);
  within = λ i v h names agrees. may_read (h names agrees);
  one_value = λ i v w a b. let by = own_open d.frame d.view [] own in read_once (a (naming_by_makers (program_at d) d.view.made) by) (b (naming_by_makers (program_at d) d.view.made) by);
  named = λ n is. subst (λ (q : Program). IsNamingOf q n) (sym e) is.named;
  some = (naming_by_makers (program_at d) d.view.made, own_open d.frame d.view [] own);
  sources = source_known d.view.made;
  fit = trees_fit p (subst HasSourcesAlone (sym e) own.bare);
  trees = λ a o xs v may m is. absurd (let none = never_makes p (subst HasSourcesAlone (sym e) own.bare) a o in cc);
}

-- and goes on with one, where what is held goes on
pub here_grows : {S : Type 0} (d e : Held) (s : System) (es : Members) (keeps more : S → Type 0) → ReadsOn d e → ((x : S) → keeps x → more x) → (p : Program) → IsSound p (told_here d s es keeps) → Grows p (told_here d s es keeps) (told_here e s es more)
here_grows d e s es keeps more on kept p sound =
    let q = program_at d in
    let made = on.on.kept.made in
    let same : program_at e ≡ q = ap (λ (f : Frame). program_of f.system.value) on.on.cells in
    let by : IsOpen q e.view.made = subst (λ (u : Program). IsOpen u e.view.made) same (own_open e.frame e.view [] on.on.own) in
    let known : AreKnownMembers q d.view.made es = subst (λ (u : Program). AreKnownMembers u d.view.made es) sound.for.0 sound.for.3.1 in
    record {
      sound = here_sound e s es more p (sound.for.0 ∙ sym same) (ap (λ (f : Frame). f.system.value) on.on.cells ∙ sound.for.1) on.on.own (readable_later p made es sound.for.3);
      values = λ i v h. subst (λ (q : Program). ReadsByEach q e.view es i v) (sym same) (λ names agrees. read_later q names d.view e.view on.on.kept es i v (h names (agrees_before q made agrees)));
      bound = λ i v h names agrees. may_other q d.view.made (agrees_before q made by) agrees es known i v (subst (λ (u : Program). MayReadByEach u e.view.made es i v) same h (naming_by_makers q e.view.made) by);
      kept = kept;
      names = λ n is. agrees_before q made (subst (λ (u : Program). Agrees u e.view.made n) same is);
      known = node_known_later q made;
      heights = λ c. le_refl c;
    }

-- where nothing is read, it is the same
pub here_same : {S : Type 0} (d : Held) (s : System) (es : Members) (keeps : S → Type 0) (p : Program) → IsSound p (told_here d s es keeps) → Grows p (told_here d s es keeps) (told_here d s es keeps)
here_same d s es keeps p sound = grows_itself sound

-- nodes that were made there are none
module _ {S : Type 0} (d : Held) (s : System) (es : Members) (keeps : S → Type 0) where
  abbrev told : Told S
  told = told_here d s es keeps

  its_bare : (p : Program) → IsSound p told → (p ≡ program_of d.frame.system.value) × HasSourcesAlone p
  its_bare p sound = (sound.for.0, subst HasSourcesAlone (sym sound.for.0) sound.for.2.bare)

  pub here_class : (node : NodeRef) (c : ClassId) → c.0 ≡ 65535 → ClassBy told told node c
  here_class = class_bare told d.frame.system.value its_bare

  pub here_child : (node : NodeRef) (k : ℕ) (result : NodeRef) → result.0 ≡ 0 → ChildBy told told node k result
  here_child = child_bare told d.frame.system.value its_bare

  pub here_token : (node : NodeRef) (k result : ℕ) → TokenBy told told node k result
  here_token = token_bare told d.frame.system.value its_bare

  pub here_up : (node : NodeRef) (result : Up) → code_above result ≡ 0 → UpBy told told node result
  here_up = up_bare told d.frame.system.value its_bare (λ c past. omega (arith, past))

  pub here_argument : (node : NodeRef) (k result : ℕ) → ArgumentBy told told node k result
  here_argument = argument_bare told d.frame.system.value its_bare

-- nodes are in the order that a work tells
pub work_order : {W S : Type 0} (held : W → Held) (x y : W) (r t : Told W) → TellsPass held x r → TellsPass held y t → (s : System) (es : Members) (keeps more : S → Type 0) → ((z : S) → ReadsOn (held x) (held y) → keeps z → more z) → (first second : NodeRef) (result : Ordering) → OrderBy r t first second result → OrderBy (told_here (held x) s es keeps) (told_here (held y) s es more) first second result
work_order held x y r t a b s es keeps more goes first second result h = record {
  kept = λ p sound.
      let on = work_reads held x y r t a b sound.for.2 (h.kept (program_at (held x)) (work_sound held x r a sound.for.2)) in
      here_grows (held x) (held y) s es keeps more on (λ z. goes z on) p sound;
  answer = λ p sound one other names agrees.
      let work : IsSound p r = subst (λ (q : Program). IsSound q r) (sym sound.for.0) (work_sound held x r a sound.for.2) in
      h.answer p work (a.knows first.0 one) (a.knows second.0 other) names (b.each names agrees);
}

-- what is saved is so whatever a reader kept
pub saved_there : {S : Type 0} (d : Held) (s : System) (es : Members) (keeps : S → Type 0) (q : System) (x : Saved) → AreSaved q (reads_here (program_at d) d.view es) x → AreSaved q (told_here d s es keeps) x
saved_there d s es keeps q x h = saved_more {r = reads_here (program_at d) d.view es} {t = told_here d s es keeps} (λ i v r. r) (λ n is. is) (λ c k. k) x h

pub saved_here : {S : Type 0} (d : Held) (s : System) (es : Members) (keeps : S → Type 0) (q : System) (x : Saved) → AreSaved q (told_here d s es keeps) x → AreSaved q (reads_here (program_at d) d.view es) x
saved_here d s es keeps q x h = saved_more {r = told_here d s es keeps} {t = reads_here (program_at d) d.view es} (λ i v r. r) (λ n is. is) (λ c k. k) x h
