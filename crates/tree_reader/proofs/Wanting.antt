-- What is wanted behind some arguments.
use Rattle.std.proofs.Common.{◌≡◌, ◌+◌, ◌<◌, ℕ, zero, suc, List, [], ◌∷◌, not, nat_le, ◌==◌, Option, Some, None, drop, length, slice_get, refl, sym, ap, ◌∙◌, arith}
use Rattle.std.proofs.lemmas.List.{drop_more}
use Rattle.std.proofs.Math.Dec.{eqb-suc-suc, eqb-suc-zero, eqb-zero-suc, leb-suc-suc, leb-suc-zero, leb-zero}
use Rattle.std.specs.Option.{option_map}
use Rattle.ast_grammar.specs.Grammar.{Class, Component, components_of, nameless}
use Rattle.ast_grammar.specs.declared.grammar.Component as kept_component
use Rattle.tree_syntax.specs.Written.{Written, Nothing, Node, Brackets, Valued}
use Rattle.tree_reader.specs.Breaking.{count, miscounts}
use Rattle.tree_reader.specs.Steps.{is_done, is_uneven}
use Rattle.tree_reader.specs.Wants.{Wants, Components, Unknown, At, arguments_of, next_of, wanted_by}

-- what is wanted at a component of a class
pub wanted_dropped : (xs : List Component) (k : ℕ) (x : kept_component.Component) → option_map nameless (slice_get xs k) ≡ Some x
    → At x.shape x.class ≡ wanted_by (Components (drop k xs))
wanted_dropped [] k x h = let none : None ≡ Some x = h in cc
wanted_dropped (y ∷ xs) zero x h = let same : Some (nameless y) ≡ Some x = h in let is : nameless y ≡ x = cc in ap (λ (m : kept_component.Component). At m.shape m.class) (sym is)
wanted_dropped (y ∷ xs) (suc k) x h = wanted_dropped xs k x h

-- and behind it
pub next_dropped : (xs : List Component) (k : ℕ) → k < length xs → Components (drop (k + 1) xs) ≡ next_of (Components (drop k xs))
next_dropped [] k h = absurd (omega arith)
next_dropped (x ∷ xs) k h = sym (ap (λ ys. next_of (Components ys)) (drop_more (x ∷ xs) k x h))

-- behind the last component nothing is wanted
pub done_dropped : (xs : List Component) (k : ℕ) → nat_le (length xs) k ≡ is_done (Components (drop k xs))
done_dropped [] zero = refl
done_dropped [] (suc k) = leb-zero (suc k)
done_dropped (x ∷ xs) zero = leb-suc-zero (length xs)
done_dropped (x ∷ xs) (suc k) = leb-suc-suc (length xs) k ∙ done_dropped xs k

-- what is wanted behind some arguments
abbrev pub over : Wants → Written → Wants
over wants Nothing = wants
over wants (Node name p arguments behind) = over (next_of wants) behind
over wants (Brackets p nodes behind) = over (next_of wants) behind
over wants (Valued leaf p behind) = over (next_of wants) behind

-- where nothing is known, nothing is known behind
unknown_over : (w : Written) → over Unknown w ≡ Unknown
unknown_over Nothing = refl
unknown_over (Node name p arguments behind) = unknown_over behind
unknown_over (Brackets p nodes behind) = unknown_over behind
unknown_over (Valued leaf p behind) = unknown_over behind

too_many : (w : Written) (n : ℕ) → is_done (over Unknown w) ≡ (suc n == 0)
too_many w n = ap is_done (unknown_over w) ∙ sym (eqb-suc-zero n)

-- each component had its argument where there are as many
done_over : (xs : List Component) (w : Written) → is_done (over (Components xs) w) ≡ (count w == length xs)
done_over [] Nothing = refl
done_over (x ∷ xs) Nothing = sym (eqb-zero-suc (length xs))
done_over [] (Node name p arguments behind) = too_many behind (count behind)
done_over (x ∷ xs) (Node name p arguments behind) = done_over xs behind ∙ sym (eqb-suc-suc (count behind) (length xs))
done_over [] (Brackets p nodes behind) = too_many behind (count behind)
done_over (x ∷ xs) (Brackets p nodes behind) = done_over xs behind ∙ sym (eqb-suc-suc (count behind) (length xs))
done_over [] (Valued leaf p behind) = too_many behind (count behind)
done_over (x ∷ xs) (Valued leaf p behind) = done_over xs behind ∙ sym (eqb-suc-suc (count behind) (length xs))

-- the arguments of a node aren't as many as its class has components where something else than nothing is wanted behind them
pub uneven_over : (g : List Class) (class : Option ℕ) (w : Written) → is_uneven class (over (arguments_of g class) w) ≡ miscounts g class (count w)
uneven_over g None w = refl
uneven_over g (Some c) w = ap not (done_over (components_of g c) w)
