-- For some words and the files that a shelf holds there is one answer.
use Rattle.std.proofs.Common.{◌≡◌, ◌≢◌, ◌≤◌, ℕ, List, ◌++◌, length, Some, None, codes, refl, sym, ap, subst, ◌∙◌, arith}
use Rattle.rag_io.specs.Outside.{Named, IsLong, IsShort}
use Rattle.broken_rules.specs.declared.broken.Broken.{Broken}
use Rattle.ast_grammar.specs.Grammar.{Class}
use Rattle.ast_grammar.proofs.OneFile.{same_broken, same_grammar, says_or_breaks}
use Rattle.attr_types.specs.Phases.{rules_of}
use Rattle.aspect_items.specs.Items.{Item as AspectItem}
use Rattle.jrag_reader.proofs.OneFile.{same_aspects, same_broken as same_aspects_broken, says_or_breaks as aspects_or_break}
use Rattle.tree_arena.specs.Terms.{Forest}
use Rattle.tree_arena.proofs.AccessorsOnce.{one_term}
use Rattle.tree_arena.proofs.AccessorsTrees.{term_alone}
use Rattle.tree_reader.proofs.OneFile.{same_broken as same_tree_broken, says_or_breaks as reads_or_breaks}
use Rattle.tree_writer.specs.Canonical.{canonical}
use Rattle.equation_law.specs.Program.{Program}
use Rattle.program_reader.specs.Files as files
use Rattle.run_io.specs.Files.{PairContents, Contents, File}
use Rattle.program_reader.specs.Files.{IsBroken, IsCheckBroken, IsNotBuilt, IsTreeBroken, SaysCounts, SaysProgram, SaysText, counts_of, forms, no_queries}
use Rattle.run_io.specs.Holding.{here, later}
use Rattle.query_runner.specs.Output.{Answers, CheckOutput, IsRefused, Output, TreeOutput, broken, broken_check, broken_line, broken_tree, counted, full, misused, not_built, printed, refused, replied, too_long}
use Rattle.query_replies.specs.Replies.{AreReplies}
use Rattle.run_io.specs.Holding.{HoldsAll, HoldsPair, HoldsShort, IsFirstLong}
use Rattle.run_io.specs.Files.{pair_in_order, pair_name_of, files_of, in_order, name_of}
use Rattle.run_io.specs.Words.{Check, PairNames, Command, FileNames, PrintTree, Run, command_of}
use Rattle.program_reader.proofs.OneReading.{accepted_or_refused, accepted_there, both_rules, both_texts, both_trees, breaks_there, broken_there, built_or_not, clean_or_broken, first_there, nodes_there, one_first, one_refusal, queries_there, refused_there, same_program, unbuilt_there}
use Rattle.query_replies.proofs.OneReply.{one_replies}

-- a file is held once
same_bytes : {files : List Named} {name a b : List ℕ} → HoldsShort files name a → HoldsShort files name b → a ≡ b
same_bytes {files} {name} {a} {b} h k = let e : Some a ≡ Some b = sym h.held ∙ k.held in cc

-- the contents of the files
contents : List ℕ → List ℕ → List ℕ → List ℕ → Contents
contents a j t q = record { ast = a; jrag = j; tree = t; queries = q }

same_files : {a b i j s t p q : List ℕ} → a ≡ b → i ≡ j → s ≡ t → p ≡ q → contents a i s p ≡ contents b j t q
same_files a b c d = cc

same_contents : {files : List Named} {names : FileNames} {c d : Contents} → HoldsAll files names c → HoldsAll files names d → c ≡ d
unfolding contents
same_contents {c = c} {d = d} a b = same_files (same_bytes a.ast b.ast) (same_bytes a.jrag b.jrag) (same_bytes a.tree b.tree) (same_bytes a.queries b.queries)

pair : List ℕ → List ℕ → PairContents
pair a t = record { ast = a; other = t }

same_pair : {a b s t : List ℕ} → a ≡ b → s ≡ t → pair a s ≡ pair b t
same_pair a b = cc

same_both : {files : List Named} {names : PairNames} {c d : PairContents} → HoldsPair files names c → HoldsPair files names d → c ≡ d
unfolding pair
same_both a b = same_pair (same_bytes a.ast b.ast) (same_bytes a.other b.other)

long_or_short : {files : List Named} {name : List ℕ} → IsLong files name → IsShort files name → ⊥
long_or_short l s =
    let e : Some l.bytes ≡ Some s.bytes = sym l.held ∙ s.held in
    let f : l.bytes ≡ s.bytes = cc in
    let n = ap length f in
    absurd (omega (arith, l.too_long, s.fits))

one_long : {files : List Named} {names : List (List ℕ)} {a b : List ℕ} → IsFirstLong files names a → IsFirstLong files names b → a ≡ b
one_long (here l) (here m) = refl
one_long (here l) (later s m) = absurd (long_or_short l s)
one_long (later s l) (here m) = absurd (long_or_short m s)
one_long (later s l) (later t m) = one_long l m

as_short : {files : List Named} {name bytes : List ℕ} → HoldsShort files name bytes → IsShort files name
as_short {bytes = bytes} h = record { bytes = bytes; held = h.held; fits = h.fits }

not_long : {files : List Named} {names : FileNames} {c : Contents} {name : List ℕ} → HoldsAll files names c → IsFirstLong files (in_order names) name → ⊥
not_long h (here l) = long_or_short l (as_short h.ast)
not_long h (later s (here l)) = long_or_short l (as_short h.jrag)
not_long h (later s (later t (here l))) = long_or_short l (as_short h.tree)
not_long h (later s (later t (later u (here l)))) = long_or_short l (as_short h.queries)
not_long h (later s (later t (later u (later v l)))) = elim l [ ]

not_long_both : {files : List Named} {names : PairNames} {c : PairContents} {name : List ℕ} → HoldsPair files names c → IsFirstLong files (pair_in_order names) name → ⊥
not_long_both h (here l) = long_or_short l (as_short h.ast)
not_long_both h (later s (here l)) = long_or_short l (as_short h.other)
not_long_both h (later s (later t l)) = elim l [ ]

-- a file that isn't built says nothing, and no other file is refused before it
module _ (held : Contents) where
  one_file : {f g : File} → IsNotBuilt held f → IsNotBuilt held g → f ≡ g
  one_file (forms g i a) (forms h j b) = refl
  one_file (forms g i a) (no_queries h j s t b) = let u = accepted_there g h i j s in absurd (built_or_not u.built a)
  one_file (no_queries g i s t a) (forms h j b) = let u = accepted_there h g j i s in absurd (built_or_not u.built b)
  one_file (no_queries g i s t a) (no_queries h j r u b) = refl

  -- one file breaks a rule first, and one rule
  one_breaking : {f g : File} {b c : Broken} → IsBroken held f b → IsBroken held g c → (f ≡ g) × (b ≡ c)
  one_breaking (files.IsBroken.grammar a) (files.IsBroken.grammar b) = (refl, same_broken a b)
  one_breaking (files.IsBroken.grammar a) (files.IsBroken.aspects g b) = absurd (says_or_breaks g a)
  one_breaking (files.IsBroken.grammar a) (files.IsBroken.checked g i b) = absurd (says_or_breaks g a)
  one_breaking (files.IsBroken.grammar a) (files.IsBroken.tree g i s b) = absurd (says_or_breaks g a)
  one_breaking (files.IsBroken.aspects g a) (files.IsBroken.grammar b) = absurd (says_or_breaks g b)
  one_breaking (files.IsBroken.aspects g a) (files.IsBroken.aspects h b) = (refl, same_aspects_broken a b)
  one_breaking (files.IsBroken.aspects g a) (files.IsBroken.checked h i b) = absurd (aspects_or_break i a)
  one_breaking (files.IsBroken.aspects g a) (files.IsBroken.tree h i s b) = absurd (aspects_or_break i a)
  one_breaking (files.IsBroken.checked g i a) (files.IsBroken.grammar b) = absurd (says_or_breaks g b)
  one_breaking (files.IsBroken.checked g i a) (files.IsBroken.aspects h b) = absurd (aspects_or_break i b)
  one_breaking (files.IsBroken.checked g i a) (files.IsBroken.checked h j b) = (refl, one_refusal a (refused_there g h i j b))
  one_breaking (files.IsBroken.checked g i a) (files.IsBroken.tree h j s b) = absurd (accepted_or_refused (accepted_there g h i j s) a)
  one_breaking (files.IsBroken.tree g i s a) (files.IsBroken.grammar b) = absurd (says_or_breaks g b)
  one_breaking (files.IsBroken.tree g i s a) (files.IsBroken.aspects h b) = absurd (aspects_or_break i b)
  one_breaking (files.IsBroken.tree g i s a) (files.IsBroken.checked h j b) = absurd (accepted_or_refused s (refused_there g h i j b))
  one_breaking (files.IsBroken.tree g i s a) (files.IsBroken.tree h j r b) = (refl, same_tree_broken a (broken_there g h i j b))

  breaks_or_refuses : {f g : File} {b : Broken} → IsBroken held f b → IsNotBuilt held g → ⊥
  breaks_or_refuses (files.IsBroken.grammar a) (forms g i never) = says_or_breaks g a
  breaks_or_refuses (files.IsBroken.grammar a) (no_queries g i s t never) = says_or_breaks g a
  breaks_or_refuses (files.IsBroken.aspects g a) (forms h i never) = aspects_or_break i a
  breaks_or_refuses (files.IsBroken.aspects g a) (no_queries h i s t never) = aspects_or_break i a
  breaks_or_refuses (files.IsBroken.checked g i a) (forms h j never) = built_or_not a.built (unbuilt_there g h i j never)
  breaks_or_refuses (files.IsBroken.checked g i a) (no_queries h j s t never) = accepted_or_refused (accepted_there g h i j s) a
  breaks_or_refuses (files.IsBroken.tree g i s a) (forms h j never) = built_or_not s.built (unbuilt_there g h i j never)
  breaks_or_refuses (files.IsBroken.tree g i s a) (no_queries h j r t never) = reads_or_breaks t (broken_there h g j i a)

  module _ (p : Program) (a : SaysProgram held p) where
    says_or_refuses : {f : File} → IsNotBuilt held f → ⊥
    says_or_refuses (forms g i never) = built_or_not a.accepted.built (unbuilt_there a.grammar g a.aspects i never)
    says_or_refuses (no_queries g i s t never) =
        let rules = both_rules g a.grammar i a.aspects ∙ sym a.rules in
        never _ (queries_there (same_grammar g a.grammar) rules (nodes_there g a.grammar i a.aspects t a.tree) a.queries)

    program_or_broken : {f : File} {b : Broken} → IsBroken held f b → ⊥
    program_or_broken (files.IsBroken.grammar b) = says_or_breaks a.grammar b
    program_or_broken (files.IsBroken.aspects g b) = aspects_or_break a.aspects b
    program_or_broken (files.IsBroken.checked g i b) = accepted_or_refused a.accepted (refused_there a.grammar g a.aspects i b)
    program_or_broken (files.IsBroken.tree g i s b) = reads_or_breaks a.tree (broken_there a.grammar g a.aspects i b)

-- the same of a grammar and aspects alone
module _ (held : PairContents) where
  one_check_breaking : {f g : File} {b c : Broken} → IsCheckBroken held f b → IsCheckBroken held g c → (f ≡ g) × (b ≡ c)
  one_check_breaking (files.IsCheckBroken.grammar a) (files.IsCheckBroken.grammar b) = (refl, same_broken a b)
  one_check_breaking (files.IsCheckBroken.grammar a) (files.IsCheckBroken.aspects g b) = absurd (says_or_breaks g a)
  one_check_breaking (files.IsCheckBroken.grammar a) (files.IsCheckBroken.checked g i b) = absurd (says_or_breaks g a)
  one_check_breaking (files.IsCheckBroken.aspects g a) (files.IsCheckBroken.grammar b) = absurd (says_or_breaks g b)
  one_check_breaking (files.IsCheckBroken.aspects g a) (files.IsCheckBroken.aspects h b) = (refl, same_aspects_broken a b)
  one_check_breaking (files.IsCheckBroken.aspects g a) (files.IsCheckBroken.checked h i b) = absurd (aspects_or_break i a)
  one_check_breaking (files.IsCheckBroken.checked g i a) (files.IsCheckBroken.grammar b) = absurd (says_or_breaks g b)
  one_check_breaking (files.IsCheckBroken.checked g i a) (files.IsCheckBroken.aspects h b) = absurd (aspects_or_break i b)
  one_check_breaking (files.IsCheckBroken.checked g i a) (files.IsCheckBroken.checked h j b) = (refl, one_first a (first_there g h i j b))

  module _ {t : List ℕ} (a : SaysCounts held t) where
    counts_or_broken : {f : File} {b : Broken} → IsCheckBroken held f b → ⊥
    counts_or_broken (files.IsCheckBroken.grammar b) = says_or_breaks a.grammar b
    counts_or_broken (files.IsCheckBroken.aspects g b) = aspects_or_break a.written b
    counts_or_broken (files.IsCheckBroken.checked g i b) = clean_or_broken a.clean (first_there a.grammar g a.written i b)

    one_counts : {u : List ℕ} → SaysCounts held u → t ≡ u
    one_counts b =
        a.counted ∙ ap (λ (g : List Class). counts_of g (rules_of g a.aspects) a.aspects) (same_grammar a.grammar b.grammar)
        ∙ ap (λ (w : List AspectItem). counts_of b.classes (rules_of b.classes w) w) (same_aspects a.written b.written) ∙ sym b.counted

-- the same of a grammar and a tree alone
module _ (held : PairContents) where
  one_tree_breaking : {f g : File} {b c : Broken} → IsTreeBroken held f b → IsTreeBroken held g c → (f ≡ g) × (b ≡ c)
  one_tree_breaking (files.IsTreeBroken.grammar a) (files.IsTreeBroken.grammar b) = (refl, same_broken a b)
  one_tree_breaking (files.IsTreeBroken.grammar a) (files.IsTreeBroken.tree g b) = absurd (says_or_breaks g a)
  one_tree_breaking (files.IsTreeBroken.tree g a) (files.IsTreeBroken.grammar b) = absurd (says_or_breaks g b)
  one_tree_breaking (files.IsTreeBroken.tree g a) (files.IsTreeBroken.tree h b) = (refl, same_tree_broken a (breaks_there (same_grammar g h) refl b))

  text_or_broken : {t : List ℕ} {f : File} {b : Broken} → SaysText held t → IsTreeBroken held f b → ⊥
  text_or_broken a (files.IsTreeBroken.grammar b) = says_or_breaks a.grammar b
  text_or_broken a (files.IsTreeBroken.tree g b) = reads_or_breaks a.tree (breaks_there (same_grammar a.grammar g) refl b)

  same_canonical : {g h : List Class} {x y : List (List ℕ)} {s t : Forest} → g ≡ h → x ≡ y → s ≡ t → canonical g x s ≡ canonical h y t
  same_canonical a b c = cc

  one_tree_text : {t u : List ℕ} → SaysText held t → SaysText held u → t ≡ u
  one_tree_text a b =
      let grammar = same_grammar a.grammar b.grammar in
      let nodes = both_trees grammar refl a.tree b.tree in
      let term : a.term ≡ b.term = one_term a.term b.term (term_alone _ _ a.term a.grown) (term_alone _ _ b.term b.grown) (sym a.are ∙ nodes ∙ b.are) in
      a.written ∙ same_canonical grammar (both_texts grammar refl a.tree b.tree) term ∙ sym b.written

module _ (words : List (List ℕ)) (files : List Named) where
  -- the words ask for one thing
  one_command : {c d : Command} → command_of words ≡ Some c → command_of words ≡ Some d → c ≡ d
  one_command {c} {d} a b = let e : Some c ≡ Some d = sym a ∙ b in cc

  run_or_check : {T : Type 0} {n : FileNames} {m : PairNames} → command_of words ≡ Some (Run n) → command_of words ≡ Some (Check m) → T
  run_or_check {n = n} {m = m} a b = let e : Some (Run n) ≡ Some (Check m) = sym a ∙ b in cc

  check_or_tree : {T : Type 0} {n : PairNames} {m : PairNames} → command_of words ≡ Some (Check n) → command_of words ≡ Some (PrintTree m) → T
  check_or_tree {n = n} {m = m} a b = let e : Some (Check n) ≡ Some (PrintTree m) = sym a ∙ b in cc

  run_or_tree : {T : Type 0} {n : FileNames} {m : PairNames} → command_of words ≡ Some (Run n) → command_of words ≡ Some (PrintTree m) → T
  run_or_tree {n = n} {m = m} a b = let e : Some (Run n) ≡ Some (PrintTree m) = sym a ∙ b in cc

  same_names : {n m : FileNames} → command_of words ≡ Some (Run n) → command_of words ≡ Some (Run m) → n ≡ m
  same_names {n} {m} a b = let e : Some (Run n) ≡ Some (Run m) = sym a ∙ b in cc

  same_tree_names : {n m : PairNames} → command_of words ≡ Some (PrintTree n) → command_of words ≡ Some (PrintTree m) → n ≡ m
  same_tree_names {n} {m} a b = let e : Some (PrintTree n) ≡ Some (PrintTree m) = sym a ∙ b in cc

  holds_there : {n m : FileNames} {c : Contents} → command_of words ≡ Some (Run n) → command_of words ≡ Some (Run m) → HoldsAll files m c → HoldsAll files n c
  holds_there {c = c} a b h = subst (λ (x : FileNames). HoldsAll files x c) (same_names b a) h

  both_there : {n m : PairNames} {c : PairContents} → command_of words ≡ Some (PrintTree n) → command_of words ≡ Some (PrintTree m) → HoldsPair files m c → HoldsPair files n c
  both_there {c = c} a b h = subst (λ (x : PairNames). HoldsPair files x c) (same_tree_names b a) h

  same_check_names : {n m : PairNames} → command_of words ≡ Some (Check n) → command_of words ≡ Some (Check m) → n ≡ m
  same_check_names {n} {m} a b = let e : Some (Check n) ≡ Some (Check m) = sym a ∙ b in cc

  check_there : {n m : PairNames} {c : PairContents} → command_of words ≡ Some (Check n) → command_of words ≡ Some (Check m) → HoldsPair files m c → HoldsPair files n c
  check_there {c = c} a b h = subst (λ (x : PairNames). HoldsPair files x c) (same_check_names b a) h

  check_once : {n m : PairNames} {c d : PairContents} → command_of words ≡ Some (Check n) → command_of words ≡ Some (Check m) → HoldsPair files n c → HoldsPair files m d → d ≡ c
  check_once a b h k = same_both (check_there a b k) h

  held_once : {n m : FileNames} {c d : Contents} → command_of words ≡ Some (Run n) → command_of words ≡ Some (Run m) → HoldsAll files n c → HoldsAll files m d → d ≡ c
  held_once a b h k = same_contents (holds_there a b k) h

  pair_once : {n m : PairNames} {c d : PairContents} → command_of words ≡ Some (PrintTree n) → command_of words ≡ Some (PrintTree m) → HoldsPair files n c → HoldsPair files m d → d ≡ c
  pair_once a b h k = same_both (both_there a b k) h

  -- the files of the command aren't too long where they are held
  none_long : {c : Command} {n : FileNames} {held : Contents} {name : List ℕ} → command_of words ≡ Some c → command_of words ≡ Some (Run n) → IsFirstLong files (files_of c) name → HoldsAll files n held → ⊥
  none_long {name = name} r s l h = not_long h (subst (λ (x : Command). IsFirstLong files (files_of x) name) (one_command r s) l)

  pair_long : {c : Command} {n : PairNames} {held : PairContents} {name : List ℕ} → command_of words ≡ Some c → command_of words ≡ Some (PrintTree n) → IsFirstLong files (files_of c) name → HoldsPair files n held → ⊥
  pair_long {name = name} r s l h = not_long_both h (subst (λ (x : Command). IsFirstLong files (files_of x) name) (one_command r s) l)

  check_long : {c : Command} {n : PairNames} {held : PairContents} {name : List ℕ} → command_of words ≡ Some c → command_of words ≡ Some (Check n) → IsFirstLong files (files_of c) name → HoldsPair files n held → ⊥
  check_long {name = name} r s l h = not_long_both h (subst (λ (x : Command). IsFirstLong files (files_of x) name) (one_command r s) l)

  one_output : (t u : List ℕ) → Output words files t → Output words files u → t ≡ u
  one_output t u a b =
      let held = held_once a.read b.read a.held b.held in
      let programs : b.program ≡ a.program = same_program a.contents b.program a.program (subst (λ (c : Contents). SaysProgram c b.program) held b.said) a.said in
      one_replies a.program a.replies (subst (λ (p : Program). AreReplies p 0 p.queries u) programs b.replies)

  one_tree_output : (t u : List ℕ) → TreeOutput words files t → TreeOutput words files u → t ≡ u
  one_tree_output t u a b = one_tree_text a.contents a.said (subst (λ (c : PairContents). SaysText c u) (pair_once a.read b.read a.held b.held) b.said)

  one_check_output : (t u : List ℕ) → CheckOutput words files t → CheckOutput words files u → t ≡ u
  one_check_output t u a b = one_counts a.contents a.said (subst (λ (c : PairContents). SaysCounts c u) (check_once a.read b.read a.held b.held) b.said)

  one_line : {t u : List ℕ} → IsRefused words files t → IsRefused words files u → t ≡ u
  one_line (too_long {name = n} r l) (too_long {name = m} s k) =
      ap (λ (x : List ℕ). x ++ codes ": too long\n") (one_long l (subst (λ (x : Command). IsFirstLong files (files_of x) m) (one_command s r) k))
  one_line (too_long r l) (broken s h b) = absurd (none_long r s l h)
  one_line (too_long r l) (not_built s h b) = absurd (none_long r s l h)
  one_line (too_long r l) (broken_check s h b) = absurd (check_long r s l h)
  one_line (too_long r l) (broken_tree s h b) = absurd (pair_long r s l h)
  one_line (broken r h a) (too_long s l) = absurd (none_long s r l h)
  one_line (broken {names = n} {contents = c} {file = f} {b = x} r h a) (broken {names = m} {file = g} {b = y} s k b) =
      let both = one_breaking c a (subst (λ (z : Contents). IsBroken z g y) (held_once r s h k) b) in
      ap (λ (z : FileNames). broken_line (name_of z f) x) (same_names r s) ∙ ap (λ (z : File). broken_line (name_of m z) x) both.0 ∙ ap (broken_line (name_of m g)) both.1
  one_line (broken {contents = c} r h a) (not_built {file = f} s k b) = absurd (breaks_or_refuses c a (subst (λ (z : Contents). IsNotBuilt z f) (held_once r s h k) b))
  one_line (broken r h a) (broken_check s k b) = run_or_check r s
  one_line (broken r h a) (broken_tree s k b) = run_or_tree r s
  one_line (not_built r h a) (too_long s l) = absurd (none_long s r l h)
  one_line (not_built {file = f} r h a) (broken {contents = d} s k b) = absurd (breaks_or_refuses d b (subst (λ (z : Contents). IsNotBuilt z f) (held_once s r k h) a))
  one_line (not_built {names = n} {contents = c} {file = f} r h a) (not_built {names = m} {file = g} s k b) =
      let names : n ≡ m = same_names r s in
      let file : f ≡ g = one_file c a (subst (λ (x : Contents). IsNotBuilt x g) (held_once r s h k) b) in
      cc
  one_line (not_built r h a) (broken_check s k b) = run_or_check r s
  one_line (not_built r h a) (broken_tree s k b) = run_or_tree r s
  one_line (broken_check r h a) (too_long s l) = absurd (check_long s r l h)
  one_line (broken_check r h a) (broken s k b) = run_or_check s r
  one_line (broken_check r h a) (not_built s k b) = run_or_check s r
  one_line (broken_check {names = n} {contents = c} {file = f} {b = x} r h a) (broken_check {names = m} {file = g} {b = y} s k b) =
      let both = one_check_breaking c a (subst (λ (z : PairContents). IsCheckBroken z g y) (check_once r s h k) b) in
      ap (λ (z : PairNames). broken_line (pair_name_of z f) x) (same_check_names r s) ∙ ap (λ (z : File). broken_line (pair_name_of m z) x) both.0 ∙ ap (broken_line (pair_name_of m g)) both.1
  one_line (broken_check r h a) (broken_tree s k b) = check_or_tree r s
  one_line (broken_tree r h a) (too_long s l) = absurd (pair_long s r l h)
  one_line (broken_tree r h a) (broken s k b) = run_or_tree s r
  one_line (broken_tree r h a) (not_built s k b) = run_or_tree s r
  one_line (broken_tree r h a) (broken_check s k b) = check_or_tree s r
  one_line (broken_tree {names = n} {contents = c} {file = f} {b = x} r h a) (broken_tree {names = m} {file = g} {b = y} s k b) =
      let both = one_tree_breaking c a (subst (λ (z : PairContents). IsTreeBroken z g y) (pair_once r s h k) b) in
      ap (λ (z : PairNames). broken_line (pair_name_of z f) x) (same_tree_names r s) ∙ ap (λ (z : File). broken_line (pair_name_of m z) x) both.0 ∙ ap (broken_line (pair_name_of m g)) both.1

  -- where four files say a program, none of them is refused
  module _ {n : FileNames} {c : Contents} {p : Program} (read : command_of words ≡ Some (Run n)) (held : HoldsAll files n c) (said : SaysProgram c p) where
    program_or_line : {u : List ℕ} → IsRefused words files u → ⊥
    program_or_line (too_long r l) = none_long r read l held
    program_or_line (broken {file = f} {b = b} r h breaks) = program_or_broken c p said (subst (λ (x : Contents). IsBroken x f b) (held_once read r held h) breaks)
    program_or_line (not_built {file = f} r h b) = says_or_refuses c p said (subst (λ (x : Contents). IsNotBuilt x f) (held_once read r held h) b)
    program_or_line (broken_check r h b) = run_or_check read r
    program_or_line (broken_tree r h b) = run_or_tree read r

  output_or_line : (t : List ℕ) {u : List ℕ} → Output words files t → IsRefused words files u → ⊥
  output_or_line t a b = program_or_line a.read a.held a.said b

  check_or_line : (t : List ℕ) {u : List ℕ} → CheckOutput words files t → IsRefused words files u → ⊥
  check_or_line t a (too_long r l) = check_long r a.read l a.held
  check_or_line t a (broken r h b) = run_or_check r a.read
  check_or_line t a (not_built r h b) = run_or_check r a.read
  check_or_line t a (broken_check {file = f} {b = b} r h breaks) = counts_or_broken a.contents a.said (subst (λ (x : PairContents). IsCheckBroken x f b) (check_once a.read r a.held h) breaks)
  check_or_line t a (broken_tree r h b) = check_or_tree a.read r

  tree_or_line : (t : List ℕ) {u : List ℕ} → TreeOutput words files t → IsRefused words files u → ⊥
  tree_or_line t a (too_long r l) = pair_long r a.read l a.held
  tree_or_line t a (broken r h b) = run_or_tree r a.read
  tree_or_line t a (not_built r h b) = run_or_tree r a.read
  tree_or_line t a (broken_check r h b) = check_or_tree r a.read
  tree_or_line t a (broken_tree {file = f} {b = b} r h breaks) = text_or_broken a.contents a.said (subst (λ (x : PairContents). IsTreeBroken x f b) (pair_once a.read r a.held h) breaks)

  -- something is asked for, or nothing
  given : {c : Command} → command_of words ≡ Some c → command_of words ≡ None → ⊥
  given {c} a b = let e : Some c ≡ None = sym a ∙ b in cc

  command_refused : {t : List ℕ} → IsRefused words files t → command_of words ≡ None → ⊥
  command_refused (too_long r l) e = given r e
  command_refused (broken r h b) e = given r e
  command_refused (not_built r h b) e = given r e
  command_refused (broken_check r h b) e = given r e
  command_refused (broken_tree r h b) e = given r e

  pub one_answer : (s r : ℕ) (t u : List ℕ) → Answers words files s t → Answers words files r u → s ≤ 2 → r ≤ 2 → (s ≡ r) × (t ≡ u)
  one_answer s r t u (replied a) (replied b) le me = (refl, one_output t u a b)
  one_answer s r t u (replied a) (counted b) le me = run_or_check a.read b.read
  one_answer s r t u (replied a) (printed b) le me = run_or_tree a.read b.read
  one_answer s r t u (replied a) (refused b) le me = absurd (output_or_line t a b)
  one_answer s r t u (replied a) (full b) le me = absurd (omega (arith, me))
  one_answer s r t u (replied a) (misused e) le me = absurd (given a.read e)
  one_answer s r t u (counted a) (replied b) le me = run_or_check b.read a.read
  one_answer s r t u (counted a) (counted b) le me = (refl, one_check_output t u a b)
  one_answer s r t u (counted a) (printed b) le me = check_or_tree a.read b.read
  one_answer s r t u (counted a) (refused b) le me = absurd (check_or_line t a b)
  one_answer s r t u (counted a) (full b) le me = absurd (omega (arith, me))
  one_answer s r t u (counted a) (misused e) le me = absurd (given a.read e)
  one_answer s r t u (printed a) (replied b) le me = run_or_tree b.read a.read
  one_answer s r t u (printed a) (counted b) le me = check_or_tree b.read a.read
  one_answer s r t u (printed a) (printed b) le me = (refl, one_tree_output t u a b)
  one_answer s r t u (printed a) (refused b) le me = absurd (tree_or_line t a b)
  one_answer s r t u (printed a) (full b) le me = absurd (omega (arith, me))
  one_answer s r t u (printed a) (misused e) le me = absurd (given a.read e)
  one_answer s r t u (refused a) (replied b) le me = absurd (output_or_line u b a)
  one_answer s r t u (refused a) (counted b) le me = absurd (check_or_line u b a)
  one_answer s r t u (refused a) (printed b) le me = absurd (tree_or_line u b a)
  one_answer s r t u (refused a) (refused b) le me = (refl, one_line a b)
  one_answer s r t u (refused a) (full b) le me = absurd (omega (arith, me))
  one_answer s r t u (refused a) (misused e) le me = absurd (command_refused a e)
  one_answer s r t u (misused e) (replied b) le me = absurd (given b.read e)
  one_answer s r t u (misused e) (counted b) le me = absurd (given b.read e)
  one_answer s r t u (misused e) (printed b) le me = absurd (given b.read e)
  one_answer s r t u (misused e) (refused b) le me = absurd (command_refused b e)
  one_answer s r t u (misused e) (misused f) le me = (refl, refl)
  one_answer s r t u (misused e) (full b) le me = absurd (omega (arith, me))
  one_answer s r t u (full a) b le me = absurd (omega (arith, le))

  -- full cells go with no refusal
  full_with : (s r : ℕ) (t u : List ℕ) → Answers words files s t → Answers words files r u → s ≡ 4 → (r ≢ 1) × (r ≢ 2)
  full_with s r t u (full a) (replied b) four = (λ e. omega (arith, e), λ e. omega (arith, e))
  full_with s r t u (full a) (counted b) four = (λ e. omega (arith, e), λ e. omega (arith, e))
  full_with s r t u (full a) (printed b) four = (λ e. omega (arith, e), λ e. omega (arith, e))
  full_with s r t u (full a) (refused b) four = absurd (program_or_line a.read a.held a.said b)
  full_with s r t u (full a) (misused e) four = absurd (given a.read e)
  full_with s r t u (full a) (full b) four = (λ e. omega (arith, e), λ e. omega (arith, e))
  full_with s r t u (replied a) b four = absurd (omega (arith, four))
  full_with s r t u (counted a) b four = absurd (omega (arith, four))
  full_with s r t u (printed a) b four = absurd (omega (arith, four))
  full_with s r t u (refused a) b four = absurd (omega (arith, four))
  full_with s r t u (misused e) b four = absurd (omega (arith, four))

  pub full_or_refused : (s : ℕ) (t u : List ℕ) → Answers words files 4 t → Answers words files s u → (s ≢ 1) × (s ≢ 2)
  full_or_refused s t u a b = full_with 4 s t u a b refl
