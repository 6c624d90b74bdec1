-- Pieces of a tree's text, with what their tokens write.
use Rattle.std.proofs.Common.{◌≡◌, ℕ, List, [], ◌∷◌, ◌++◌, Bool, true, false, codes, Option, Some, is_none, is_some, ◌&&◌, nat_le, length, if◌then◌else◌, refl, ap, ◌∙◌, append_assoc}
use Rattle.std.proofs.lemmas.List.Sums.{AllPass-from_list_all}
use Rattle.broken_rules.specs.Notes.{at, broken_if}
use Rattle.broken_rules.specs.declared.rule.Rule.TheVariants.{N7}
use Rattle.rag_io.specs.declared.token.Place.{Place}
use Rattle.rag_io.specs.declared.token.TokenKind.TheVariants as kinds
use Rattle.rag_io.specs.Lexemes.{goes_on_name}
use Rattle.rag_io.specs.Pool.{most_texts, number_of, with_text}
use Rattle.rag_io.specs.Quoting.{quoted}
use Rattle.rag_io.specs.Tokens.{Lexed, moved}
use Rattle.rag_io.specs.Unquoted.{meant}
use Rattle.tree_syntax.specs.Written.{Mode, Start, Argument, Behind, Written, Nothing, Node, Brackets, Valued, WritesText, WritesInt, WritesTruth, AreNodes, Spells, truth_word}
use Rattle.tree_syntax.specs.Written as written
use Rattle.token_texts.specs.Texts.{pooled, pooled_texts, is_past, texts_broken}
use Rattle.rag_io.specs.Words.{IsWord}
use Rattle.tree_writer.specs.Again.{IsWritable}
use Rattle.tree_writer.specs.Canonical.{further}
use Rattle.tree_writer.proofs.Integers.{WritesNumber}
use Rattle.tree_writer.proofs.Scans.{Scan, follows_further, scan_as, scan_nothing, scan_both, scan_token, scan_space}
use Rattle.tree_writer.proofs.Steps.{opening, closing, opening_bracket, closing_bracket, comma_sign, minus, word_token, digits_token, text_token}
use Rattle.tree_writer.proofs.Texts.{printed_meant}

-- Some text at a place has tokens that write this, and each text among them is in the pool.
pub record Reads (pool : List (List ℕ)) (m : Mode) (p : Place) (text : List ℕ) (w : Written) : Type 0 where
  pub tokens : List Lexed → List Lexed
  pub scanned : Scan p text tokens
  pub spells : (rest : List Lexed) → Spells m w (tokens rest) rest
  pub pooled : (more : List Lexed) → pooled_texts pool (tokens more) ≡ pooled_texts pool more
  pub clean : (more : List Lexed) → texts_broken N7 pool (tokens more) ≡ texts_broken N7 pool more

-- a node and what stands behind it, piece by piece
pub regroup_node : (name inner outer : List ℕ) → (name ++ (codes "(" ++ (inner ++ codes ")"))) ++ outer ≡ name ++ (codes "(" ++ (inner ++ (codes ")" ++ outer)))
regroup_node name inner outer =
    append_assoc name (codes "(" ++ (inner ++ codes ")")) outer
    ∙ ap (λ (bytes : List ℕ). name ++ (codes "(" ++ bytes)) (append_assoc inner (codes ")") outer)

-- brackets and what stands behind them
pub regroup_brackets : (inner outer : List ℕ) → (codes "[" ++ (inner ++ codes "]")) ++ outer ≡ codes "[" ++ (inner ++ (codes "]" ++ outer))
regroup_brackets inner outer = ap (λ (bytes : List ℕ). codes "[" ++ bytes) (append_assoc inner (codes "]") outer)

-- a text of a pool is not past it
there_not_past : (pool : List (List ℕ)) (text : List ℕ) (number : ℕ) → number_of pool text ≡ Some number → is_past pool text ≡ false
there_not_past pool text number there = ap (λ (n : Option ℕ). is_none n && nat_le most_texts (length pool)) there

-- and is not added
there_same_pool : (pool : List (List ℕ)) (text : List ℕ) (number : ℕ) → number_of pool text ≡ Some number → pooled pool text ≡ pool
there_same_pool pool text number there =
    ap (λ (past : Bool). if past then pool else with_text pool text) (there_not_past pool text number there)
    ∙ ap (λ (n : Option ℕ). if is_some n then pool else (pool ++ text ∷ [])) there

module _ (pool : List (List ℕ)) where
  -- the same of a text in its quotes
  not_past : (bytes : List ℕ) (number : ℕ) → IsWritable bytes → number_of pool bytes ≡ Some number → is_past pool (meant (quoted bytes)) ≡ false
  not_past bytes number is there = there_not_past pool (meant (quoted bytes)) number (ap (number_of pool) (printed_meant bytes is) ∙ there)

  same_pool : (bytes : List ℕ) (number : ℕ) → IsWritable bytes → number_of pool bytes ≡ Some number → pooled pool (meant (quoted bytes)) ≡ pool
  same_pool bytes number is there = there_same_pool pool (meant (quoted bytes)) number (ap (number_of pool) (printed_meant bytes is) ∙ there)

  -- no arguments
  pub reads_none : (p : Place) → Reads pool Start p [] Nothing
  reads_none p = record { tokens = λ more. more; scanned = scan_nothing p; spells = λ rest. written.none; pooled = λ more. refl; clean = λ more. refl }

  -- no further argument
  pub reads_over : (p : Place) → Reads pool Behind p [] Nothing
  reads_over p = record { tokens = λ more. more; scanned = scan_nothing p; spells = λ rest. written.over; pooled = λ more. refl; clean = λ more. refl }

  -- the first argument, with those behind it
  pub reads_some : {p : Place} {text : List ℕ} {w : Written} → Reads pool Argument p text w → Reads pool Start p text w
  reads_some r = record { tokens = r.tokens; scanned = r.scanned; spells = λ rest. written.some (r.spells rest); pooled = r.pooled; clean = r.clean }

  -- a further one
  pub reads_comma : {p : Place} {text : List ℕ} {w : Written} → Reads pool Argument (moved (moved p (codes ",")) (codes " ")) text w
      → Reads pool Behind p (codes ", " ++ text) w
  reads_comma {p} {text} r = record {
    tokens = λ more. record { kind = kinds.Symbol; text = codes ","; place = p } ∷ r.tokens more;
    scanned = scan_token kinds.Symbol (λ rest stops. comma_sign ((codes " " ++ text) ++ rest)) (scan_space r.scanned);
    spells = λ rest. written.comma (record { kind = refl; text = refl }) (r.spells rest);
    pooled = r.pooled;
    clean = r.clean;
  }

  module _ (p : Place) (texts : List (List ℕ)) (behind : Written) where
    -- the truth values
    pub reads_truth : (b : Bool) → Reads pool Behind (moved p (truth_word b)) (further texts) behind
        → Reads pool Argument p (truth_word b ++ further texts) (Valued (WritesTruth b) p behind)
    reads_truth b r = record {
      tokens = λ more. record { kind = kinds.Name; text = truth_word b; place = p } ∷ r.tokens more;
      scanned = scan_token kinds.Name (λ rest stops. word_token (truth_word b) (further texts ++ rest) (word b)
          ((follows_further texts).follows rest stops)) r.scanned;
      spells = λ rest. written.truth refl refl (r.spells rest);
      pooled = r.pooled;
      clean = r.clean;
    }
      where
        word : (b : Bool) → IsWord (truth_word b)
        word true = record { first = 116; more = codes "rue"; are = refl; begins = refl; goes_on = AllPass-from_list_all goes_on_name (codes "rue") refl }
        word false = record { first = 102; more = codes "alse"; are = refl; begins = refl; goes_on = AllPass-from_list_all goes_on_name (codes "alse") refl }

    -- an integer
    pub reads_int : (digits : List ℕ) (n : ℕ) → WritesNumber digits n → Reads pool Behind (moved p digits) (further texts) behind
        → Reads pool Argument p (digits ++ further texts) (Valued (WritesInt false digits) p behind)
    reads_int digits n is r = record {
      tokens = λ more. record { kind = kinds.Int; text = digits; place = p } ∷ r.tokens more;
      scanned = scan_token kinds.Int (λ rest stops. digits_token digits (further texts ++ rest) n is ((follows_further texts).follows rest stops)) r.scanned;
      spells = λ rest. written.int refl (r.spells rest);
      pooled = r.pooled;
      clean = r.clean;
    }

    -- a negative one
    pub reads_negative : (digits : List ℕ) (n : ℕ) → WritesNumber digits n → Reads pool Behind (moved (moved p (codes "-")) digits) (further texts) behind
        → Reads pool Argument p (codes "-" ++ (digits ++ further texts)) (Valued (WritesInt true digits) p behind)
    reads_negative digits n is r = record {
      tokens = λ more. record { kind = kinds.Symbol; text = codes "-"; place = p }
          ∷ record { kind = kinds.Int; text = digits; place = moved p (codes "-") } ∷ r.tokens more;
      scanned = scan_token kinds.Symbol (λ rest stops. minus ((digits ++ further texts) ++ rest))
          (scan_token kinds.Int (λ rest stops. digits_token digits (further texts ++ rest) n is ((follows_further texts).follows rest stops)) r.scanned);
      spells = λ rest. written.negative (record { kind = refl; text = refl }) refl (r.spells rest);
      pooled = r.pooled;
      clean = r.clean;
    }

    -- a text of the pool
    pub reads_text : (bytes : List ℕ) (number : ℕ) → IsWritable bytes → number_of pool bytes ≡ Some number
        → Reads pool Behind (moved p (quoted bytes)) (further texts) behind
        → Reads pool Argument p (quoted bytes ++ further texts) (Valued (WritesText (quoted bytes)) p behind)
    reads_text bytes number is there r = record {
      tokens = λ more. record { kind = kinds.Text; text = quoted bytes; place = p } ∷ r.tokens more;
      scanned = scan_token kinds.Text (λ rest stops. text_token bytes (further texts ++ rest) is) r.scanned;
      spells = λ rest. written.text refl (r.spells rest);
      pooled = λ more. ap (λ (texts : List (List ℕ)). pooled_texts texts (r.tokens more)) (same_pool bytes number is there) ∙ r.pooled more;
      clean = λ more.
          (λ i. broken_if (not_past bytes number is there i) (at p N7) ++ texts_broken N7 (same_pool bytes number is there i) (r.tokens more)) ∙ r.clean more;
    }

    -- a node: its name, its arguments in parentheses, and what stands behind it
    pub reads_node : {arguments : Written} (name inner : List ℕ) → IsWord name → Reads pool Start (moved (moved p name) (codes "(")) inner arguments
        → Reads pool Behind (moved (moved (moved (moved p name) (codes "(")) inner) (codes ")")) (further texts) behind
        → Reads pool Argument p ((name ++ (codes "(" ++ (inner ++ codes ")"))) ++ further texts) (Node name p arguments behind)
    reads_node name inner is a r = record {
      tokens = λ more. record { kind = kinds.Name; text = name; place = p } ∷ record { kind = kinds.Symbol; text = codes "("; place = moved p name }
          ∷ a.tokens (record { kind = kinds.Symbol; text = codes ")"; place = moved (moved (moved p name) (codes "(")) inner } ∷ r.tokens more);
      scanned = scan_as (regroup_node name inner (further texts))
          (scan_token kinds.Name (λ rest stops. word_token name ((codes "(" ++ (inner ++ (codes ")" ++ further texts))) ++ rest) is refl)
          (scan_token kinds.Symbol (λ rest stops. opening ((inner ++ (codes ")" ++ further texts)) ++ rest))
          (scan_both a.scanned (record { follows = λ rest stops. refl }) (scan_token kinds.Symbol (λ rest stops. closing (further texts ++ rest)) r.scanned))));
      spells = λ rest. written.node refl (record { kind = refl; text = refl }) (a.spells _) (record { kind = refl; text = refl }) (r.spells rest);
      pooled = λ more. a.pooled _ ∙ r.pooled more;
      clean = λ more. a.clean _ ∙ r.clean more;
    }

    -- nodes in brackets
    pub reads_brackets : {nodes : Written} (inner : List ℕ) → AreNodes nodes → Reads pool Start (moved p (codes "[")) inner nodes
        → Reads pool Behind (moved (moved (moved p (codes "[")) inner) (codes "]")) (further texts) behind
        → Reads pool Argument p ((codes "[" ++ (inner ++ codes "]")) ++ further texts) (Brackets p nodes behind)
    reads_brackets inner are a r = record {
      tokens = λ more. record { kind = kinds.Symbol; text = codes "["; place = p }
          ∷ a.tokens (record { kind = kinds.Symbol; text = codes "]"; place = moved (moved p (codes "[")) inner } ∷ r.tokens more);
      scanned = scan_as (regroup_brackets inner (further texts))
          (scan_token kinds.Symbol (λ rest stops. opening_bracket ((inner ++ (codes "]" ++ further texts)) ++ rest))
          (scan_both a.scanned (record { follows = λ rest stops. refl })
          (scan_token kinds.Symbol (λ rest stops. closing_bracket (further texts ++ rest)) r.scanned)));
      spells = λ rest. written.brackets (record { kind = refl; text = refl }) are (a.spells _) (record { kind = refl; text = refl }) (r.spells rest);
      pooled = λ more. a.pooled _ ∙ r.pooled more;
      clean = λ more. a.clean _ ∙ r.clean more;
    }
