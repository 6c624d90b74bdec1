-- Tables of forms, row by row.
use Rattle.std.proofs.Common.{◌≡◌, ℕ, Bool, true, false, ◌||◌, ◌==◌, List, [], ◌∷◌, ◌++◌, Option, Some, None, is_some, reverse, refl, subst, sym, if◌then◌else◌}
use Rattle.std.proofs.lemmas.Bool.{and_parts, eqb-true}
use Rattle.ll_parser.specs.Table.{member, every}
use Rattle.jrag_syntax.specs.declared.classes.Start.{Start}
use Rattle.jrag_reader.specs.Forms.{Form}
use Rattle.jrag_reader.specs.Parts.{Part}
use Rattle.jrag_reader.specs.Saying.{IsAmong, here, there}
use Rattle.jrag_reader.proofs.Fits.{MakesOne}
use Rattle.jrag_reader.proofs.SideBySide.{Stand, never}

-- An action makes one part of those that a form asks for.
abbrev pub Makes : Start → ℕ → Form → Type 0
Makes start action f = (parts : List Part) → Stand start (reverse f.parts) parts → MakesOne start action parts f.whole

-- what holds of all members holds of one
pub holds_of_member : (P : ℕ → Bool) (cs : List ℕ) (c : ℕ) → every P cs ≡ true → member c cs ≡ true → P c ≡ true
holds_of_member P [] c all among = never among
holds_of_member P (d ∷ cs) c all among = let both = and_parts (P d) (every P cs) all in go (c == d) refl among both.0 (holds_of_member P cs c both.1)
  where
    go : (b : Bool) → (c == d) ≡ b → (b || member c cs) ≡ true → P d ≡ true → (member c cs ≡ true → P c ≡ true) → P c ≡ true
    go true same among first others = subst (λ x. P x ≡ true) (sym (eqb-true c d same)) first
    go false same among first others = others among

-- what is there
pub found : {A : Type 0} (o : Option A) → is_some o ≡ true → (x : A) × (o ≡ Some x)
found None known = never known
found (Some x) known = (x, refl)

module _ (start : Start) where
  -- the only form of an action
  pub one : (n : ℕ) (g : Form) → Makes start n g → (f : Form) → IsAmong f (g ∷ []) → Makes start n f
  one n g makes f here = makes
  one n g makes f (there more) = elim more [ ]

  pub two : (n : ℕ) (g h : Form) → Makes start n g → Makes start n h → (f : Form) → IsAmong f (g ∷ h ∷ []) → Makes start n f
  two n g h first second f here = first
  two n g h first second f (there more) = one n h second f more

  -- A row of a table, and those behind it.
  pub row : (a n : ℕ) (f : Form) (xs ys : List Form) → ((f : Form) → IsAmong f xs → Makes start n f) → (IsAmong f ys → Makes start a f)
      → IsAmong f (if a == n then xs else ys) → Makes start a f
  row a n f xs ys first others among = go (a == n) refl among
    where
      go : (b : Bool) → (a == n) ≡ b → IsAmong f (if b then xs else ys) → Makes start a f
      go true same among = subst (λ m. Makes start m f) (sym (eqb-true a n same)) (first f among)
      go false same among = others among

-- no form of a table is among what follows the last row
pub no_more : {A : Type 0} {f : Form} → IsAmong f [] → A
no_more among = elim among [ ]

-- a form of two tables is of one of them
pub split : {A : Type 0} (f : Form) (xs ys : List Form) → (IsAmong f xs → A) → (IsAmong f ys → A) → IsAmong f (xs ++ ys) → A
split f [] ys first second among = second among
split f (x ∷ xs) ys first second here = first here
split f (x ∷ xs) ys first second (there more) = split f xs ys (λ among. first (there among)) second more
