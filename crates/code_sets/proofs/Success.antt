-- What holds where a call succeeded.
use Rattle.std.proofs.Common.{◌≡◌, cond, Result, Ok, Err, OnOk, OnErr, is_ok, sym, subst}

pub on_ok : {T E A B : Type 0} (r : Result T E) → (A → B) → OnOk r A → OnOk r B
on_ok (Ok t) f a = f a
on_ok (Err t) f a = tt

pub if_ok : {T E A : Type 0} {x : A} (y z : A) (r : Result T E) → x ≡ cond (is_ok r) y z → OnOk r (x ≡ y)
if_ok y z (Ok t) e = e
if_ok y z (Err t) e = tt

pub either_way : {X T E : Type 0} (P : X → Type 0) (r : Result T E) (x a b : X) → OnOk r (x ≡ a) → OnErr r (x ≡ b) → P a → P b → P x
either_way P (Ok t) x a b e f p q = subst P (sym e) p
either_way P (Err t) x a b e f p q = subst P (sym f) q
