-- The keys of all queries are those of each.
use Rattle.std.proofs.Common.{◌≡◌, ℕ, ◌<◌, length, refl, subst}
use Rattle.equation_law.specs.Keys.{IsAsked, IsJust, IsKey, IsPrefix, IsReached, Member, Part, Prefix, Word}
use Rattle.equation_law.specs.Loops.{Chain}
use Rattle.equation_law.specs.Names.{Attribute, Instance, Query}
use Rattle.equation_law.specs.Program.{Program}

module _ (p : Program) where
  pub reached_one : (i j : Instance) → IsReached p (IsJust i) j → Chain p i j
  reached_one i j r = subst (λ (k : Instance). Chain p k j) r.1 r.2

  pub one_reached : (i j : Instance) → Chain p i j → IsReached p (IsJust i) j
  one_reached i j chain = (i, refl, chain)

  query_asked : (i : Instance) → IsAsked p i → (q : ℕ) × (q < length p.queries) × (i ≡ Query q)
  query_asked (Attribute a r xs) asked = absurd asked
  query_asked (Query q) asked = (q, asked, refl)

  reached_by : (j : Instance) → IsReached p (IsAsked p) j → (q : ℕ) × (q < length p.queries) × IsReached p (IsJust (Query q)) j
  reached_by j r = let a = query_asked r.0 r.1 in (a.0, a.1, one_reached (Query a.0) j (subst (λ (k : Instance). Chain p k j) a.2 r.2))

  reached_back : (q : ℕ) (j : Instance) → q < length p.queries → IsReached p (IsJust (Query q)) j → IsReached p (IsAsked p) j
  reached_back q j low r = (Query q, low, reached_one (Query q) j r)

  pub key_asked : (x : Part) → IsKey p (IsAsked p) x → (q : ℕ) × (q < length p.queries) × IsKey p (IsJust (Query q)) x
  key_asked (Prefix x) k = let r = reached_by k.0 k.2 in (r.0, r.1, (k.0, k.1, r.2))
  key_asked (Word j w) k = let r = reached_by j k.0 in (r.0, r.1, (r.2, k.1))
  key_asked (Member j m) k = let r = reached_by j k.0 in (r.0, r.1, (r.2, k.1))

  pub asked_key : (x : Part) (q : ℕ) → q < length p.queries → IsKey p (IsJust (Query q)) x → IsKey p (IsAsked p) x
  asked_key (Prefix x) q low k = (k.0, k.1, reached_back q k.0 low k.2)
  asked_key (Word j w) q low k = (reached_back q j low k.0, k.1)
  asked_key (Member j m) q low k = (reached_back q j low k.0, k.1)

  pub prefix_key : (i x : Instance) → IsKey p (IsJust i) (Prefix x) → (j : Instance) × IsPrefix x j × Chain p i j
  prefix_key i x k = (k.0, k.1, reached_one i k.0 k.2)

  pub key_prefix : (i x j : Instance) → IsPrefix x j → Chain p i j → IsKey p (IsJust i) (Prefix x)
  key_prefix i x j front chain = (j, front, one_reached i j chain)
