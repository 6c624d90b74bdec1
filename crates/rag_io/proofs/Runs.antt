-- A run takes the front that passes the test, and what follows it stops there.
use Rattle.std.proofs.Common.{◌≡◌, ℕ, suc, ◌+◌, List, [], ◌∷◌, ◌++◌, length, take, drop, Bool, true, false, one-add, refl, sym, ap, ◌∙◌, arith}
use Rattle.std.specs.List.{AllPass, prefix_len}
use Rattle.std.proofs.lemmas.Bool.{cond-true, cond-false, not-true, not_from_false}
use Rattle.std.proofs.lemmas.List.Elements.{All-nil, All-cons}
use Rattle.std.proofs.lemmas.List.Folds.{length-prefix_len}
use Rattle.rag_io.specs.Lexemes.{Stops}
use Rattle.rag_io.specs.Fronts.{run}

module _ (test : ℕ → Bool) where
  -- the byte passes, so the run goes on behind it
  pub run-cons : (b : ℕ) (bytes : List ℕ) → test b ≡ true → run test (b ∷ bytes) ≡ suc (run test bytes)
  run-cons b bytes passes =
      length-prefix_len test (b ∷ bytes) ∙ cond-true (test b) (1 + prefix_len test bytes) 0 passes ∙ one-add (prefix_len test bytes)
      ∙ ap suc (sym (length-prefix_len test bytes))

  -- the byte fails, so there is no run
  run-none : (b : ℕ) (bytes : List ℕ) → test b ≡ false → run test (b ∷ bytes) ≡ 0
  run-none b bytes fails = length-prefix_len test (b ∷ bytes) ∙ cond-false (test b) (1 + prefix_len test bytes) 0 fails

  -- what stands behind the first byte passes too
  all_behind : (b : ℕ) (bytes : List ℕ) → AllPass test (b ∷ bytes) → AllPass test bytes
  all_behind b bytes all = λ k d h. all (suc k) d (omega arith)

  -- the run of bytes that all pass, and of what stops there
  pub run-append : (more rest : List ℕ) → AllPass test more → Stops test rest → run test (more ++ rest) ≡ length more
  run-append [] [] all stops = refl
  run-append [] (b ∷ rest) all stops = run-none b rest (not-true (test b) stops)
  run-append (b ∷ more) rest all stops = run-cons b (more ++ rest) (all 0 0 (omega arith)) ∙ ap suc (run-append more rest (all_behind b more all) stops)

  -- each byte of the run passes
  pub run_passes : (bytes : List ℕ) → AllPass test (take (run test bytes) bytes)
  run_passes [] = All-nil (λ b. test b ≡ true)
  run_passes (b ∷ bytes) = go (test b) refl (run_passes bytes)
    where
      go : (passes : Bool) → test b ≡ passes → AllPass test (take (run test bytes) bytes) → AllPass test (take (run test (b ∷ bytes)) (b ∷ bytes))
      go true e rest = rw (run-cons b bytes e) (All-cons (λ x. test x ≡ true) b (take (run test bytes) bytes) e rest)
      go false e rest = rw (run-none b bytes e) (All-nil (λ x. test x ≡ true))

  -- what follows the run stops there
  pub run_stops : (bytes : List ℕ) → Stops test (drop (run test bytes) bytes)
  run_stops [] = tt
  run_stops (b ∷ bytes) = go (test b) refl (run_stops bytes)
    where
      go : (passes : Bool) → test b ≡ passes → Stops test (drop (run test bytes) bytes) → Stops test (drop (run test (b ∷ bytes)) (b ∷ bytes))
      go true e rest = rw (run-cons b bytes e) rest
      go false e rest = rw (run-none b bytes e) (not_from_false (test b) e)
