-- The arguments of a call are smaller than the call, those of a `new` than the `new`, and the parts of a form over a list than the form.
use Rattle.std.proofs.Common.{◌≡◌, ◌<◌, ℕ, zero, suc, max, List, Box, Vec, Global, arith}
use Rattle.std.proofs.Math.Nat.{max-le}
use Rattle.rag_io.specs.declared.token.Place.{Place}
use Rattle.aspect_items.specs.declared.expression.Quantifier.{Quantifier}
use denote.Param.Weighed.{most}
use Rattle.aspect_items.proofs.expression.Expr.TheLaws.{the_size}
use Rattle.aspect_items.specs.declared.expression.Expr as kept_expr
use Rattle.aspect_items.specs.declared.expression.Expr.TheFolds.{the_lemmas}
use Rattle.aspect_items.specs.declared.expression.Expr.TheVariants as kept
use Rattle.aspect_items.specs.declared.expression.Name as kept_name

pub arguments_smaller : (e : kept_expr.Expr) (r : Box kept_expr.Expr Global) (n : kept_name.Name) (es : Vec kept_expr.Expr Global) (xs : List kept_expr.Expr) → e ≡ kept.Member r n es → xs ≡ es.items → most the_size xs < the_size e
arguments_smaller e r n es xs is i = grind (the_lemmas, arith)

pub given_smaller : (e : kept_expr.Expr) (p : Place) (n : kept_name.Name) (es : Vec kept_expr.Expr Global) (xs : List kept_expr.Expr) → e ≡ kept.New p n es → xs ≡ es.items → most the_size xs < the_size e
given_smaller e p n es xs is i = grind (the_lemmas, arith)

max_smaller : (a b m : ℕ) → a < m → b < m → max a b < m
max_smaller a b zero h g = absurd (omega (arith, h))
max_smaller a b (suc k) h g = let below = max-le {a = a} {b = b} {k = k} (omega (arith, h)) (omega (arith, g)) in omega (arith, below)

pub parts_smaller : (e : kept_expr.Expr) (q : Quantifier) (p : Place) (n : kept_name.Name) (r c : Box kept_expr.Expr Global) (x y : kept_expr.Expr) → e ≡ kept.Quantified q p n r c → x ≡ r.value → y ≡ c.value
    → max (the_size x) (the_size y) < the_size e
parts_smaller e q p n r c x y is i j =
    let range : the_size x < the_size e = grind (the_lemmas, arith) in
    let condition : the_size y < the_size e = grind (the_lemmas, arith) in
    max_smaller (the_size x) (the_size y) (the_size e) range condition
