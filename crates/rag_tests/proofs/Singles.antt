-- What is no collection.
use Rattle.std.proofs.Common.{◌≡◌, ◌∙◌, Bool, false, Option, None, Some, refl, sym}
use Rattle.std.specs.Option.{is_some}

-- there is nothing where nothing is found
none_of : {A : Type 0} (o : Option A) → is_some o ≡ false → o ≡ None
none_of None e = refl
none_of (Some x) e = absurd (cc)

pub none_is : {A : Type 0} (o : Option A) (b : Bool) → b ≡ is_some o → b ≡ false → o ≡ None
none_is o b is unsaid = none_of o (sym is ∙ unsaid)
