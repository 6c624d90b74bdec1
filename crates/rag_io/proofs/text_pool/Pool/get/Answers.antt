use Rattle.std.proofs.Common.{◌≡◌, ◌<◌, length, get_or, List, ℕ, Vec, sym, ap, ◌∙◌, subst}
use Rattle.std.specs.declared.alloc.Global.{Global}
use Rattle.rag_io.specs.Pool.{number_of}
use Rattle.rag_io.proofs.Numbers.{number_at, slice_get-keys}
use Rattle.rag_io.proofs.text_pool.Pool.get.Goals as goal

pub returns-clause-number : goal.returns-clause-number
returns-clause-number c =
    let key = c.index-as_slice-number.result in
    let within = subst (λ (texts : List (List ℕ)). c.args.number < length texts) (sym c.self.view_is) c.requires in
    let is : key ≡ get_or c.self.inside.texts.keys c.args.number key = c.index-as_slice-number.is ∙ ap (λ (keys : List (Vec ℕ Global)). get_or keys c.args.number key) c.as_slice.ensures.keys in
    let numbered = number_at key.items _ c.args.number c.self.invariant.distinct (slice_get-keys c.self.inside.texts.keys c.args.number key within is) in
    ap (λ (text : List ℕ). number_of c.args.self.now text) c.as_slice-2.ensures.value ∙ ap (λ (texts : List (List ℕ)). number_of texts key.items) (sym c.self.view_is) ∙ numbered
