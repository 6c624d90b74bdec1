-- What was taken from a stack, and what is made of it.
use Rattle.std.proofs.Common.{◌≡◌, List, Option, Some, None, Result, Ok, Err, sym, ap, subst, ◌∙◌}
use Rattle.std.specs.Result.{IsErr, IsErrAnd}
use Rattle.jrag_reader.specs.Parts.{Part, take}
use Rattle.jrag_reader.specs.Stack.{Makes, Takes}
use Rattle.jrag_reader.specs.declared.parts.Unbuilt.{Unbuilt}
use Rattle.jrag_reader.specs.declared.parts.Unbuilt.TheVariants.{Misfit, Memory}

-- What was taken goes on with the parts below.
pub taking : {A B M : Type 0} (seen : M → A) (o : Option (A × List Part)) (k : A → List Part → Option B) (x : M) (new : List Part)
    → Takes seen o (Ok x) new → take o k ≡ k (seen x) new
taking seen None k x new taken = elim taken [ ]
taking seen (Some (a, parts)) k x new taken = sym (ap (λ z. k z new) taken.0 ∙ ap (k a) taken.1)

-- What is made of what was taken and of the parts below is made of the whole.
pub making : {A B M : Type 0} (seen : M → A) (o : Option (A × List Part)) (k : A → List Part → Option B) (x : M) (below : List Part)
    (r : Result (Unit {0}) Unbuilt) (new : B) → Takes seen o (Ok x) below → Makes (k (seen x) below) r new → Makes (take o k) r new
making seen o k x below r new taken made = subst (λ z. Makes z r new) (sym (taking seen o k x below taken)) made

-- Where what is asked for isn't there, nothing is made.
pub refusing : {A B M : Type 0} (seen : M → A) (o : Option (A × List Part)) (k : A → List Part → Option B) (u : Unbuilt) (below : List Part)
    (r : Result (Unit {0}) Unbuilt) (new : B) → Takes seen o (Err u) below → IsErr r → Makes (take o k) r new
refusing seen None k u below (Ok x) new missed failed = absurd (cc)
refusing seen None k u below (Err v) new missed failed = tt
refusing seen (Some a) k u below r new missed failed = elim missed [ ]

-- Want of memory is an answer to whatever is to be made.
wants_memory : {A : Type 0} (o : Option A) (new : A) → Makes o (Err Memory) new
wants_memory None new = tt
wants_memory (Some made) new = tt

pub unmade : {A : Type 0} (o : Option A) (u : Unbuilt) (new : A) → u ≡ Memory → Makes o (Err u) new
unmade o u new is = subst (λ (v : Unbuilt). Makes o (Err v) new) (sym is) (wants_memory o new)

-- Where what is asked for isn't there, an error is the answer.
pub missing : {A B M : Type 0} (seen : M → A) (o : Option (A × List Part)) (k : A → List Part → Option B) (u v : Unbuilt) (below : List Part) (new : B)
    → Takes seen o (Err u) below → Makes (take o k) (Err v) new
missing seen None k u v below new missed = tt
missing seen (Some a) k u v below new missed = elim missed [ ]

-- What is taken from what was taken and from the parts below is taken from the whole.
pub handing : {A B M N : Type 0} (seen : M → A) (o : Option (A × List Part)) (k : A → List Part → Option (B × List Part)) (whole : N → B) (x : M)
    (below : List Part) (r : Result N Unbuilt) (new : List Part) → Takes seen o (Ok x) below → Takes whole (k (seen x) below) r new
    → Takes whole (take o k) r new
handing seen o k whole x below r new taken given = subst (λ z. Takes whole z r new) (sym (taking seen o k x below taken)) given

-- Where a part of it isn't there, the whole isn't.
pub lacking : {A B M N : Type 0} (seen : M → A) (o : Option (A × List Part)) (k : A → List Part → Option (B × List Part)) (whole : N → B) (u v : Unbuilt)
    (below new : List Part) → Takes seen o (Err u) below → v ≡ Misfit → Takes whole (take o k) (Err v) new
lacking seen None k whole u v below new missed is = subst (λ (w : Unbuilt). Takes whole None (Err w) new) (sym is) tt
lacking seen (Some a) k whole u v below new missed is = elim missed [ ]

-- The same of an error that `?` hands on.
pub unmade_there : {A : Type 0} (o : Option A) (r : Result (Unit {0}) Unbuilt) (new : A) → IsErr r × IsErrAnd r (λ u. u ≡ Memory) → Makes o r new
unmade_there o (Ok x) new failed = let missing = failed.0 in cc
unmade_there o (Err u) new failed = unmade o u new failed.1
