-- Members by their instances and by their numbers.
use Rattle.std.proofs.Common.{◌≡◌, ℕ, zero, suc, Bool, true, false, cond, Option, Some, None, [], ◌∷◌, ◌++◌, slice_get, inl, inr, refl, sym, ap, subst, ◌∙◌}
use Rattle.std.specs.Map.{lookup, lookup_key, values_of}
use Rattle.rag_io.specs.Pool.{ArePooled}
use Rattle.indexmap.specs.IndexMap.{insert_entry, set_value_at}
use Rattle.equation_law.specs.contracts.coding.InstancePartialEq.TheImpl as equality
use Rattle.equation_law.specs.declared.coding.Instance.{Instance as CodedInstance}
use Rattle.equation_law.specs.declared.coding.Value.{Value as CodedValue}
use Rattle.equation_law.specs.Codes.{IsCoded, IsNamingOf, Naming, instance_by, value_by}
use Rattle.equation_law.specs.Names.{same_instance}
use Rattle.equation_law.specs.Program.{Program}
use Rattle.equation_law.proofs.Keys.{both_ways, key_is, key_self, one_key_by}
use Rattle.equation_law.proofs.Names.{same_instance_is, same_instance_self}
use Rattle.memo_cells.specs.Views.{Has}
use Rattle.memo_cells.proofs.Showing.{not_both}
use Rattle.circular_eval.specs.declared.members.Member.{Member}
use Rattle.circular_eval.specs.Local.{AreKept, IsAbsent, IsMemberOf, Members, local_value, with_value}
use Rattle.circular_eval.specs.Parts.{without_slot}
use Rattle.circular_eval.specs.Sealed.{IsMemberAt}

-- what is found is an entry
pub found : (es : Members) (i : CodedInstance) (m : Member) → lookup (equality.ghosts.eq i) es ≡ Some m → (e : CodedInstance × Member) × Has es e × (e.0 ≡ i) × (e.1 ≡ m)
found [] i m h = cc
found (e ∷ es) i m h =
    elim (equality.ghosts.eq i e.0) as (λ b. equality.ghosts.eq i e.0 ≡ b → cond b (Some e.1) (lookup (equality.ghosts.eq i) es) ≡ Some m → (d : CodedInstance × Member) × Has (e ∷ es) d × (d.0 ≡ i) × (d.1 ≡ m)) [
      | true ↦ λ q g. let is : e.1 ≡ m = cc in (e, inl refl, sym (key_is i e.0 q), is)
      | false ↦ λ q g. let r = found es i m g in (r.0, inr r.1, r.2, r.3)
    ] refl h

-- where nothing is found, no entry has the key
none_first : (b : Bool) (m : Member) (o : Option Member) → None ≡ cond b (Some m) o → (b ≡ false) × (None ≡ o)
none_first true m o h = cc
none_first false m o h = (refl, h)

pub not_found : (es : Members) (i : CodedInstance) → None ≡ lookup (equality.ghosts.eq i) es → IsAbsent es i
not_found [] i h e there is = there
not_found (d ∷ es) i h e (inl s) is =
    let n = none_first (equality.ghosts.eq i d.0) d.1 (lookup (equality.ghosts.eq i) es) h in
    not_both n.0 (ap (λ (x : CodedInstance). equality.ghosts.eq i x) (ap (λ (x : CodedInstance × Member). x.0) (sym s) ∙ is) ∙ key_self i)
not_found (d ∷ es) i h e (inr s) is =
    let n = none_first (equality.ghosts.eq i d.0) d.1 (lookup (equality.ghosts.eq i) es) h in
    not_found es i n.1 e s is

module _ (p : Program) {names : Naming} (named : IsNamingOf p names) (pooled : ArePooled p.texts) where
  pub absent_member : (es : Members) (i : CodedInstance) → AreKept p names es → IsCoded p i → IsAbsent es i → ¬ IsMemberOf p names es (instance_by p names i)
  absent_member es i kept c absent (e, there, is) = absent e there (one_key_by p pooled named e.0 i (kept e there).0 c is)

  -- well coded instances are equal where they stand for one instance
  key_same_by : (a b : CodedInstance) → IsCoded p a → IsCoded p b → equality.ghosts.eq a b ≡ same_instance (instance_by p names a) (instance_by p names b)
  key_same_by a b v w =
      both_ways (equality.ghosts.eq a b) (same_instance (instance_by p names a) (instance_by p names b))
      (λ e. subst (λ (x : CodedInstance). same_instance (instance_by p names a) (instance_by p names x) ≡ true) (key_is a b e) (same_instance_self (instance_by p names a)))
      (λ e. subst (λ (x : CodedInstance). equality.ghosts.eq a x ≡ true) (one_key_by p pooled named a b v w (same_instance_is (instance_by p names a) (instance_by p names b) e)) (key_self a))

  -- the value of the entry that is found
  pub found_value : (es : Members) (i : CodedInstance) (m : Member) → AreKept p names es → IsCoded p i → lookup (equality.ghosts.eq i) es ≡ Some m → local_value p names es (instance_by p names i) ≡ value_by names m.value
  found_value [] i m kept c h = cc
  found_value (e ∷ es) i m kept c h =
      ap (λ b. cond b (value_by names e.1.value) (local_value p names es (instance_by p names i))) (sym (key_same_by i e.0 c (kept e (inl refl)).0))
      ∙ elim (equality.ghosts.eq i e.0) as (λ b. cond b (Some e.1) (lookup (equality.ghosts.eq i) es) ≡ Some m → cond b (value_by names e.1.value) (local_value p names es (instance_by p names i)) ≡ value_by names m.value) [
        | true ↦ λ g. let is : e.1 ≡ m = cc in ap (λ (x : Member). value_by names x.value) is
        | false ↦ λ g. found_value es i m (λ d there. kept d (inr there)) c g
      ] h

pub member_at : (p : Program) (names : Naming) (es : Members) (i : CodedInstance) (m : Member) → lookup (equality.ghosts.eq i) es ≡ Some m → IsMemberOf p names es (instance_by p names i)
member_at p names es i m h = let r = found es i m h in (r.0, r.1, ap (λ (x : CodedInstance). instance_by p names x) r.2)

-- a new one comes last
pub comes_last : (es : Members) (i : CodedInstance) (m : Member) → IsAbsent es i → insert_entry equality.ghosts.eq es i m ≡ es ++ (i, m) ∷ []
comes_last [] i m h = refl
comes_last (e ∷ es) i m h =
    elim (equality.ghosts.eq i e.0) as (λ b. equality.ghosts.eq i e.0 ≡ b → cond b ((e.0, m) ∷ es) (e ∷ insert_entry equality.ghosts.eq es i m) ≡ e ∷ (es ++ (i, m) ∷ [])) [
      | true ↦ λ q. absurd (h e (inl refl) (sym (key_is i e.0 q)))
      | false ↦ λ q. ap (λ l. e ∷ l) (comes_last es i m (λ d there. h d (inr there)))
    ] refl

-- another value at a place
pub set_with : (es : Members) (n : ℕ) (m : Member) (x : CodedValue) → slice_get (values_of es) n ≡ Some m → set_value_at es n (record { slot = m.slot; value = x; by = m.by }) ≡ with_value es n x
set_with [] n m x h = refl
set_with (e ∷ es) zero m x h = let is : m ≡ e.1 = cc in ap (λ (y : Member). (e.0, record { slot = y.slot; value = x; by = y.by }) ∷ es) is
set_with (e ∷ es) (suc n) m x h = ap (λ l. e ∷ l) (set_with es n m x h)

pub with_none : (es : Members) (n : ℕ) (x : CodedValue) → None ≡ slice_get (values_of es) n → es ≡ with_value es n x
with_none [] n x h = refl
with_none (e ∷ es) zero x h = cc
with_none (e ∷ es) (suc n) x h = ap (λ l. e ∷ l) (with_none es n x h)

-- and no cell at a place
pub shut_with : (es : Members) (n : ℕ) (m : Member) → slice_get (values_of es) n ≡ Some m → set_value_at es n (record { slot = None; value = m.value; by = m.by }) ≡ without_slot es n
shut_with [] n m h = refl
shut_with (e ∷ es) zero m h = let is : m ≡ e.1 = cc in ap (λ (y : Member). (e.0, record { slot = None; value = y.value; by = y.by }) ∷ es) is
shut_with (e ∷ es) (suc n) m h = ap (λ l. e ∷ l) (shut_with es n m h)

pub shut_none : (es : Members) (n : ℕ) → None ≡ slice_get (values_of es) n → es ≡ without_slot es n
shut_none [] n h = refl
shut_none (e ∷ es) zero h = cc
shut_none (e ∷ es) (suc n) h = ap (λ l. e ∷ l) (shut_none es n h)

-- the key that is found is the one that is looked for
key_found : (es : Members) (i k : CodedInstance) → lookup_key (equality.ghosts.eq i) es ≡ Some k → k ≡ i
key_found [] i k h = cc
key_found (e ∷ es) i k h =
    elim (equality.ghosts.eq i e.0) as (λ b. equality.ghosts.eq i e.0 ≡ b → cond b (Some e.0) (lookup_key (equality.ghosts.eq i) es) ≡ Some k → k ≡ i) [
      | true ↦ λ q g. let is : e.0 ≡ k = cc in sym is ∙ sym (key_is i e.0 q)
      | false ↦ λ q g. key_found es i k g
    ] refl h

pub found_at : (es : Members) (i : CodedInstance) (n : ℕ) {k : CodedInstance} (m : Member) → slice_get es n ≡ Some (k, m) → Some k ≡ lookup_key (equality.ghosts.eq i) es → IsMemberAt es n i m.value
found_at es i n {k} m at key = record { entry = (k, m); at = at; is = key_found es i k (sym key); value = refl }
