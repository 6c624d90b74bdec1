-- A walk over what is offered in a subtree goes from node to node, and at each from contribution to contribution.
use Rattle.std.proofs.Common.{◌≡◌, ℕ, zero, suc, ◌+◌, ◌-◌, ◌<◌, ◌≤◌, Bool, true, false, cond, List, [], ◌∷◌, ◌++◌, map, Some, length, slice_get, take, drop, refl, sym, ap, ◌∙◌, append-nil, arith}
use Rattle.std.specs.List.{filter, flat_map, range_with_len}
use Rattle.std.proofs.lemmas.List.{append_assoc, map-append, take-append-drop, take_more}
use Rattle.std.proofs.lemmas.List.Concat.{flat_map-append}
use Rattle.std.proofs.lemmas.List.Elements.{filter-append}
use Rattle.std.proofs.lemmas.Option.{get_or_from_slice_get, slice_get_within}
use Rattle.attr_rules.specs.Rules.{Contribution}
use Rattle.tree_arena.specs.Nodes.{end_in}
use Rattle.equation_law.specs.Collections.{Offer}
use Rattle.equation_law.specs.Equations.{is_offered, offers_at, offers_below}
use Rattle.equation_law.specs.Program.{Program}
use Rattle.collection_attrs.specs.Passed.{offers_before}

-- a range in two parts
range_parts : (a m n t b : ℕ) → m + n ≡ t → a + m ≡ b → range_with_len a t ≡ range_with_len a m ++ range_with_len b n
range_parts a zero n t b f e = let same : a ≡ b = omega (arith, e) in let all : t ≡ n = omega (arith, f) in (λ i. range_with_len (same i) (all i))
range_parts a (suc m) n zero b f e = absurd (omega (arith, f))
range_parts a (suc m) n (suc t) b f e = ap (λ (xs : List ℕ). a ∷ xs) (range_parts (a + 1) m n t b (omega (arith, f)) (omega (arith, e)))

module _ (p : Program) (a : ℕ) where
  abbrev offer : ℕ → Contribution → Offer
  offer k c = record { contribution = c; node = k }

  -- what some contributions offer at a node
  abbrev Some_at : ℕ → List Contribution → List Offer
  Some_at k cs = map (offer k) (filter (is_offered p a k) cs)

  some_both : (k : ℕ) (cs ds : List Contribution) → Some_at k (cs ++ ds) ≡ Some_at k cs ++ Some_at k ds
  some_both k cs ds = ap (map (offer k)) (filter-append (is_offered p a k) cs ds) ∙ map-append (offer k) (filter (is_offered p a k) cs) (filter (is_offered p a k) ds)

  some_one : (k : ℕ) (c : Contribution) → Some_at k (c ∷ []) ≡ cond (is_offered p a k c) (offer k c ∷ []) []
  some_one k c = elim (is_offered p a k c) as (λ b. map (offer k) (cond b (c ∷ []) []) ≡ cond b (offer k c ∷ []) []) [ true ↦ refl | false ↦ refl ]

  module _ (r : ℕ) where
    abbrev Nodes_before : ℕ → List Offer
    Nodes_before node = flat_map (offers_at p a) (range_with_len r (node - r))

    -- nothing stands before the first contribution at the root
    pub before_none : offers_before p a r r 0 ≡ []
    before_none = let none : r - r ≡ 0 = omega arith in ap (λ (n : ℕ). flat_map (offers_at p a) (range_with_len r n) ++ []) none

    more_at : (node k : ℕ) (c : Contribution) → slice_get p.rules.contributions k ≡ Some c → Some_at node (take (k + 1) p.rules.contributions) ≡ Some_at node (take k p.rules.contributions) ++ cond (is_offered p a node c) (offer node c ∷ []) []
    more_at node k c e =
        let cs = p.rules.contributions in
        let more : take (k + 1) cs ≡ take k cs ++ c ∷ [] = take_more cs k c (slice_get_within cs k c e) ∙ ap (λ (x : Contribution). take k cs ++ x ∷ []) (get_or_from_slice_get cs k c c e) in
        ap (Some_at node) more ∙ some_both node (take k cs) (c ∷ []) ∙ ap (λ (os : List Offer). Some_at node (take k cs) ++ os) (some_one node c)

    -- a contribution that isn't offered at the node adds nothing, one that is adds its offer
    pub before_skipped : (node k : ℕ) (c : Contribution) → slice_get p.rules.contributions k ≡ Some c → is_offered p a node c ≡ false → offers_before p a r node (k + 1) ≡ offers_before p a r node k
    before_skipped node k c e off =
        let here = Some_at node (take k p.rules.contributions) in
        let more : Some_at node (take (k + 1) p.rules.contributions) ≡ here ++ [] = more_at node k c e ∙ ap (λ (b : Bool). here ++ cond b (offer node c ∷ []) []) off in
        ap (λ (os : List Offer). Nodes_before node ++ os) (more ∙ append-nil here)

    pub before_offered : (node k : ℕ) (c : Contribution) → slice_get p.rules.contributions k ≡ Some c → is_offered p a node c ≡ true → offers_before p a r node (k + 1) ≡ offers_before p a r node k ++ offer node c ∷ []
    before_offered node k c e on =
        let here = Some_at node (take k p.rules.contributions) in
        let more : Some_at node (take (k + 1) p.rules.contributions) ≡ here ++ offer node c ∷ [] = more_at node k c e ∙ ap (λ (b : Bool). here ++ cond b (offer node c ∷ []) []) on in
        ap (λ (os : List Offer). Nodes_before node ++ os) more ∙ sym (append_assoc (Nodes_before node) here (offer node c ∷ []))

    nodes_more : (node : ℕ) → r ≤ node → Nodes_before (node + 1) ≡ Nodes_before node ++ offers_at p a node
    nodes_more node l =
        let count : node + 1 - r ≡ (node - r) + 1 = omega (arith, l) in
        let last : r + (node - r) ≡ node = omega (arith, l) in
        ap (λ (n : ℕ). flat_map (offers_at p a) (range_with_len r n)) count
        ∙ ap (flat_map (offers_at p a)) (range_parts r (node - r) 1 ((node - r) + 1) node refl last)
        ∙ flat_map-append (offers_at p a) (range_with_len r (node - r)) (node ∷ []) ∙ ap (λ (os : List Offer). Nodes_before node ++ os) (append-nil (offers_at p a node))

    -- behind the last contribution the walk stands at the next node
    pub before_next : (node : ℕ) → r ≤ node → offers_before p a r node (length p.rules.contributions) ≡ offers_before p a r (node + 1) 0
    before_next node l = ap (λ (cs : List Contribution). Nodes_before node ++ Some_at node cs) (all_taken p.rules.contributions) ∙ sym (nodes_more node l) ∙ sym (append-nil (Nodes_before (node + 1)))
      where
        all_taken : (cs : List Contribution) → take (length cs) cs ≡ cs
        all_taken [] = refl
        all_taken (c ∷ cs) = ap (λ (ds : List Contribution). c ∷ ds) (all_taken cs)

    -- at the end of the subtree all has been passed
    pub before_all : offers_before p a r (end_in p.tree r) 0 ≡ offers_below p a (Some r)
    before_all = append-nil (Nodes_before (end_in p.tree r))

    -- what is left where the walk stands at a node of the subtree
    abbrev pub Left : ℕ → ℕ → List Offer
    Left node k = Some_at node (drop k p.rules.contributions) ++ flat_map (offers_at p a) (range_with_len (node + 1) (end_in p.tree r - (node + 1)))

    pub before_left : (node k : ℕ) → r ≤ node → node < end_in p.tree r → offers_before p a r node k ++ Left node k ≡ offers_below p a (Some r)
    before_left node k l u =
        let cs = p.rules.contributions in
        let front = Nodes_before node in
        let back = flat_map (offers_at p a) (range_with_len (node + 1) (end_in p.tree r - (node + 1))) in
        let whole : Some_at node (take k cs) ++ Some_at node (drop k cs) ≡ offers_at p a node = sym (some_both node (take k cs) (drop k cs)) ∙ ap (Some_at node) (take-append-drop k cs) in
        let count : end_in p.tree r - r ≡ (node + 1 - r) + (end_in p.tree r - (node + 1)) = omega (arith, l, u) in
        let last : r + (node + 1 - r) ≡ node + 1 = omega (arith, l) in
        append_assoc front (Some_at node (take k cs)) (Some_at node (drop k cs) ++ back)
        ∙ ap (λ (os : List Offer). front ++ os) (sym (append_assoc (Some_at node (take k cs)) (Some_at node (drop k cs)) back) ∙ ap (λ (os : List Offer). os ++ back) whole)
        ∙ sym (append_assoc front (offers_at p a node) back) ∙ ap (λ (os : List Offer). os ++ back) (sym (nodes_more node l))
        ∙ sym (flat_map-append (offers_at p a) (range_with_len r (node + 1 - r)) (range_with_len (node + 1) (end_in p.tree r - (node + 1))))
        ∙ ap (flat_map (offers_at p a)) (sym (range_parts r (node + 1 - r) (end_in p.tree r - (node + 1)) (end_in p.tree r - r) (node + 1) (sym count) last))

    drop_first : (cs : List Contribution) (k : ℕ) (c : Contribution) → slice_get cs k ≡ Some c → drop k cs ≡ c ∷ drop (suc k) cs
    drop_first [] k c e = cc
    drop_first (x ∷ cs) zero c e = let same : x ≡ c = cc in ap (λ (y : Contribution). y ∷ cs) same
    drop_first (x ∷ cs) (suc k) c e = drop_first cs k c e

    -- the next offer is that of the contribution at which the walk stands, where it is offered at the node
    pub left_offered : (node k : ℕ) (c : Contribution) → slice_get p.rules.contributions k ≡ Some c → is_offered p a node c ≡ true → (rest : List Offer) × (Left node k ≡ offer node c ∷ rest)
    left_offered node k c e on =
        let cs = p.rules.contributions in
        let back = flat_map (offers_at p a) (range_with_len (node + 1) (end_in p.tree r - (node + 1))) in
        let others = Some_at node (drop (suc k) cs) in
        (others ++ back, ap (λ (ds : List Contribution). Some_at node ds ++ back) (drop_first cs k c e) ∙ ap (λ (b : Bool). map (offer node) (cond b (c ∷ filter (is_offered p a node) (drop (suc k) cs)) (filter (is_offered p a node) (drop (suc k) cs))) ++ back) on)
