-- What is saved of forms over elements.
use Rattle.std.proofs.Common.{◌≡◌, ◌&&◌, Bool, true, false, List, [], ◌∷◌, refl, ap}
use Rattle.std.proofs.lemmas.Bool.{eqb-true}
use Rattle.std.proofs.lemmas.Bool.Decides.{Decides-int_eq}
use Rattle.std.specs.Cmp.Lexicographic.{pointwise}
use Rattle.equation_law.specs.declared.coding.Single.{Single as CodedSingle}
use Rattle.equation_law.specs.declared.coding.Single.TheVariants as singles
use Rattle.equation_law.specs.contracts.coding.SinglePartialEq.TheImpl as equality

pub same_single : (x y : CodedSingle) → equality.ghosts.eq x y ≡ true → x ≡ y
same_single (singles.Truth true) (singles.Truth true) h = refl
same_single (singles.Truth true) (singles.Truth false) h = cc
same_single (singles.Truth false) (singles.Truth true) h = cc
same_single (singles.Truth false) (singles.Truth false) h = refl
same_single (singles.Int a) (singles.Int b) h = ap singles.Int ((Decides-int_eq a b).0 h)
same_single (singles.Text a) (singles.Text b) h = ap (λ k. singles.Text (record { 0 = k })) (eqb-true a.0 b.0 h)
same_single (singles.Node a) (singles.Node b) h = λ i. singles.Node (record { 0 = eqb-true a.0 b.0 h i })
same_single _ _ h = cc

both : (a b : Bool) → (a && b) ≡ true → (a ≡ true) × (b ≡ true)
both true b h = (refl, h)
both false b h = cc

pub same_names : (xs ys : List CodedSingle) → pointwise equality.ghosts.eq xs ys ≡ true → xs ≡ ys
same_names [] [] h = refl
same_names [] (y ∷ ys) h = cc
same_names (x ∷ xs) [] h = cc
same_names (x ∷ xs) (y ∷ ys) h =
    let parts = both (equality.ghosts.eq x y) (pointwise equality.ghosts.eq xs ys) h in
    λ i. same_single x y parts.0 i ∷ same_names xs ys parts.1 i
