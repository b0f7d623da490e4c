-- Where each call is placed in the order of a key; the order follows versions and notes.
use Rattle.std.proofs.Common.{◌≡◌, ℕ, zero, suc, ◌<◌, ◌≤◌, Bool, true, false, ◌&&◌, ◌⊎◌, List, [], ◌∷◌, ◌++◌, Option, None, Some, eqb, eqb-true, eq-eqb, arith, ap, refl, inl, inr, sym, ◌∙◌, subst}
use Rattle.ens_base.proofs.Lists.{in_append, in_left, in_right, bytes_same}
use Rattle.std.specs.Prelude.{if◌then◌else◌}
use Rattle.std.proofs.lemmas.Bool.{cases_order, and_parts}
use Rattle.ens_base.specs.Lists.{same_bytes, ◌∈◌}
use Rattle.ens_base.specs.declared.epoch.Version.{Version}
use Rattle.register_model.specs.declared.note.Note.{Note as Noted}
use Rattle.register_model.specs.declared.note.Note.TheVariants.{Proposed, Settled as SettledNote, Read}
use Rattle.register_model.specs.Orders.{rank_or_none, parent_in, call_in, newest_in, reads_on, chain, write_of, block, blocks, settled_chain, order}
use Rattle.protocol_laws.proofs.Epochs.{not_both}
use Rattle.protocol_laws.proofs.Maps.{epoch_mono, eq_same_bytes}
use Rattle.protocol_laws.proofs.Ranks.{rank-version_of, rank-version_or_none}
use Rattle.protocol_laws.proofs.Ordered.{Ordered, ordered_append, ordered_more}
use Rattle.protocol_laws.proofs.Dead.{settled_alive}
use Rattle.protocol_laws.proofs.Descent.{Whole}
use Rattle.protocol_laws.specs.Entries.{EntriesAreSafe}
use Rattle.protocol_laws.proofs.Noted.{ReadHolds, SettledHolds, Rises, Listed}
use Rattle.protocol_laws.proofs.Chains.{IsOf, IsOfOrNone, positive, parent_of, told, newest_most, newest_is, low_member, has_ancestor, member_descends, chain_climbs, line}
use Rattle.protocol_laws.specs.Objects.{epoch_of}
use Rattle.protocol_laws.specs.Book.{version_of, version_or_none, Wrote}
use Rattle.protocol_laws.specs.Versions.{IsDead, Descends, itself}
use Rattle.protocol_laws.specs.Protocol.{State}

-- the call is the write of the version, or a noted read of it
abbrev pub Stands : State → ℕ → ℕ → Type 0
Stands s i v = Wrote s.objects s.book i v ⊎ ((s.book.noted i ≡ true) × ((s.book.seen i).base ≡ v))

-- the first call is placed at a lower version, or at the same one and the second is a read that was
-- noted no earlier
pub record Before (s : State) (i j : ℕ) : Type 0 where
  pub left : ℕ
  pub right : ℕ
  pub first : Stands s i left
  pub second : Stands s j right
  pub order : (left < right) ⊎ ((left ≡ right) × (s.book.noted j ≡ true) × (s.book.noted i ≡ true → (s.book.seen i).event ≤ (s.book.seen j).event))
  pub differ : i ≡ j → ⊥

module _ (s : State) (w : Whole s.objects) (entries : EntriesAreSafe s) (listed : Listed s) (k : List ℕ) where
  -- ## The chain

  told_of : (v : ℕ) → IsOf s k v → (parent_in s.book.notes k v ≡ s.objects.parent v) × (call_in s.book.notes k v ≡ s.book.call v)
  told_of v g = told s w.basics k s.book.notes listed.holds v g (version_of v) (version_or_none (s.objects.parent v)) (s.book.call v) (rank-version_of v (positive s w.basics k v g))
      (subst (λ (j : List ℕ). Proposed j (version_of v) (version_or_none (s.objects.parent v)) (s.book.call v) ∈ s.book.notes) g.1 (listed.proposed_in v g.0))

  pub parent_told : (v : ℕ) → IsOf s k v → parent_in s.book.notes k v ≡ s.objects.parent v
  parent_told v g = (told_of v g).0

  pub call_told : (v : ℕ) → IsOf s k v → call_in s.book.notes k v ≡ s.book.call v
  call_told v g = (told_of v g).1

  newest_settled : (newest_in s.book.notes k ≡ 0) ⊎ SettledHolds s k (newest_in s.book.notes k)
  newest_settled = newest_is s w.basics k s.book.notes listed.holds

  pub newest_of : IsOfOrNone s k (newest_in s.book.notes k)
  newest_of = by_settled newest_settled
    where
      by_settled : (newest_in s.book.notes k ≡ 0) ⊎ SettledHolds s k (newest_in s.book.notes k) → IsOfOrNone s k (newest_in s.book.notes k)
      by_settled (inl z) = inl z
      by_settled (inr h) = inr (w.settled.proposed (newest_in s.book.notes k) h.settled, h.key)

  newest_above : (v : ℕ) → s.objects.settled v ≡ true → IsOf s k v → v ≤ newest_in s.book.notes k
  newest_above v h g = subst (λ n. n ≤ newest_in s.book.notes k) (rank-version_of v (positive s w.basics k v g)) (newest_most s w.basics k s.book.notes (version_of v) (subst (λ (j : List ℕ). SettledNote j (version_of v) ∈ s.book.notes) g.1 (listed.settled_in v h)))

  chain_same : (n v : ℕ) → IsOfOrNone s k v → chain n (parent_in s.book.notes k) v ≡ chain n s.objects.parent v
  chain_same zero v g = refl
  chain_same (suc n) v g = by_zero (chain_same n (s.objects.parent v)) (eqb v 0) refl g
    where
      by_zero : (IsOfOrNone s k (s.objects.parent v) → chain n (parent_in s.book.notes k) (s.objects.parent v) ≡ chain n s.objects.parent (s.objects.parent v)) → (b : Bool) → eqb v 0 ≡ b → IsOfOrNone s k v →
          (elim b as (λ (c : Bool). List ℕ) [ true ↦ [] | false ↦ chain n (parent_in s.book.notes k) (parent_in s.book.notes k v) ++ v ∷ [] ]) ≡ (elim b as (λ (c : Bool). List ℕ) [ true ↦ [] | false ↦ chain n s.objects.parent (s.objects.parent v) ++ v ∷ [] ])
      by_zero rest true t g = refl
      by_zero rest false t (inl z) = absurd (not_both (eq-eqb v 0 z) t)
      by_zero rest false t (inr g) = ap (λ (u : ℕ). chain n (parent_in s.book.notes k) u ++ v ∷ []) (parent_told v g) ∙ ap (λ (l : List ℕ). l ++ v ∷ []) (rest (parent_of s w.basics k v g))

  pub versions_same : settled_chain s.book.notes k ≡ chain (newest_in s.book.notes k) s.objects.parent (newest_in s.book.notes k)
  versions_same = chain_same (newest_in s.book.notes k) (newest_in s.book.notes k) newest_of

  pub version_is_of : (v : ℕ) → v ∈ settled_chain s.book.notes k → IsOf s k v
  version_is_of v h = (low_member s w.basics k (newest_in s.book.notes k) (newest_in s.book.notes k) v newest_of (subst (λ (l : List ℕ). v ∈ l) versions_same h)).1

  -- a settled version descends from each lower settled one
  pub settled_line : (x v : ℕ) → s.objects.settled x ≡ true → IsOf s k x → s.objects.settled v ≡ true → IsOf s k v → v ≤ x → Descends s.objects.parent x v
  settled_line x v hx gx hv gv l = by_order (cases_order v x)
    where
      alive : Descends s.objects.parent x v ⊎ IsDead s.objects v → Descends s.objects.parent x v
      alive (inl d) = d
      alive (inr d) = absurd (settled_alive s.objects v w.settled hv d)

      by_epoch : v < x → (epoch_of v ≡ epoch_of x) ⊎ ((epoch_of v < epoch_of x) ⊎ (epoch_of x < epoch_of v)) → Descends s.objects.parent x v
      by_epoch m (inl e) = (w.chain x v gx.0 gv.0 (gv.1 ∙ sym gx.1) e m).descends
      by_epoch m (inr (inl h)) = alive (w.descent x v gx.0 gv.0 (gv.1 ∙ sym gx.1) h)
      by_epoch m (inr (inr h)) = absurd (too_high (epoch_mono v x l))
        where
          too_high : epoch_of v ≤ epoch_of x → ⊥
          too_high a = omega arith

      by_order : (v ≡ x) ⊎ ((v < x) ⊎ (x < v)) → Descends s.objects.parent x v
      by_order (inl e) = subst (λ u. Descends s.objects.parent x u) (sym e) (itself x)
      by_order (inr (inl m)) = by_epoch m (cases_order (epoch_of v) (epoch_of x))
      by_order (inr (inr m)) = absurd (omega arith)

  -- each settled version of the key is in the chain
  pub settled_in_chain : (v : ℕ) → s.objects.settled v ≡ true → IsOf s k v → v ∈ settled_chain s.book.notes k
  settled_in_chain v h g = subst (λ (l : List ℕ). v ∈ l) (sym versions_same) (by_settled newest_settled)
    where
      none_above : newest_in s.book.notes k ≡ 0 → v ≤ newest_in s.book.notes k → 0 < v → ⊥
      none_above a b c = omega arith

      le_itself : (n : ℕ) → n ≤ n
      le_itself n = omega arith

      by_settled : (newest_in s.book.notes k ≡ 0) ⊎ SettledHolds s k (newest_in s.book.notes k) → v ∈ chain (newest_in s.book.notes k) s.objects.parent (newest_in s.book.notes k)
      by_settled (inl z) = absurd (none_above z (newest_above v h g) (positive s w.basics k v g))
      by_settled (inr n) = has_ancestor s w.basics k (newest_in s.book.notes k) (newest_in s.book.notes k) v (le_itself (newest_in s.book.notes k)) newest_of g (settled_line (newest_in s.book.notes k) v n.settled (w.settled.proposed (newest_in s.book.notes k) n.settled, n.key) h g (newest_above v h g))

  -- a version of the chain descends from each lower one
  pub chain_line : (x v : ℕ) → x ∈ settled_chain s.book.notes k → v ∈ settled_chain s.book.notes k → v ≤ x → Descends s.objects.parent x v
  chain_line x v hx hv l = line s w.basics k (newest_in s.book.notes k) v x newest_of (descends x hx) (descends v hv) l
    where
      descends : (u : ℕ) → u ∈ settled_chain s.book.notes k → Descends s.objects.parent (newest_in s.book.notes k) u
      descends u h = member_descends s w.basics k (newest_in s.book.notes k) (newest_in s.book.notes k) u (subst (λ (l : List ℕ). u ∈ l) versions_same h)

  -- ## The reads on one version

  in_reads : (ns : List Noted) (v i : ℕ) → i ∈ reads_on ns k v → (b : Option Version) × (Read i k b ∈ ns) × (rank_or_none b ≡ v)
  in_reads [] v i h = absurd h
  in_reads (Read j l b ∷ ns) v i h = by_test (in_reads ns v i) (same_bytes l k && eqb (rank_or_none b) v) refl h
    where
      later : (c : Option Version) × (Read i k c ∈ ns) × (rank_or_none c ≡ v) → (c : Option Version) × (Read i k c ∈ (Read j l b ∷ ns)) × (rank_or_none c ≡ v)
      later r = (r.0, inr r.1, r.2)

      same_note : (i ≡ j) → (l ≡ k) → Read i k b ≡ Read j l b
      same_note e f = cc

      by_test : (i ∈ reads_on ns k v → (c : Option Version) × (Read i k c ∈ ns) × (rank_or_none c ≡ v)) → (t : Bool) → (same_bytes l k && eqb (rank_or_none b) v) ≡ t → i ∈ (if t then j ∷ reads_on ns k v else reads_on ns k v) → (c : Option Version) × (Read i k c ∈ (Read j l b ∷ ns)) × (rank_or_none c ≡ v)
      by_test rest true t (inl e) = (b, inl (same_note e (bytes_same l k ((and_parts (same_bytes l k) (eqb (rank_or_none b) v) t).0))), eqb-true (rank_or_none b) v ((and_parts (same_bytes l k) (eqb (rank_or_none b) v) t).1))
      by_test rest true t (inr p) = later (rest p)
      by_test rest false t p = later (rest p)
  in_reads (Proposed l x p c ∷ ns) v i h = let r = in_reads ns v i h in (r.0, inr r.1, r.2)
  in_reads (SettledNote l x ∷ ns) v i h = let r = in_reads ns v i h in (r.0, inr r.1, r.2)

  reads_in : (ns : List Noted) (v i : ℕ) (b : Option Version) → Read i k b ∈ ns → rank_or_none b ≡ v → i ∈ reads_on ns k v
  reads_in [] v i b h e = absurd h
  reads_in (Read j l c ∷ ns) v i b h e = by_test (reads_in ns v i b) (same_bytes l k && eqb (rank_or_none c) v) refl h
    where
      test_holds : l ≡ k → rank_or_none c ≡ v → (same_bytes l k && eqb (rank_or_none c) v) ≡ true
      test_holds e f = rw (eq_same_bytes l k e, eq-eqb (rank_or_none c) v f) refl

      same_key : Read i k b ≡ Read j l c → l ≡ k
      same_key m = cc

      same_base : Read i k b ≡ Read j l c → c ≡ b
      same_base m = cc

      same_id : Read i k b ≡ Read j l c → i ≡ j
      same_id m = cc

      by_test : (Read i k b ∈ ns → rank_or_none b ≡ v → i ∈ reads_on ns k v) → (t : Bool) → (same_bytes l k && eqb (rank_or_none c) v) ≡ t → (Read i k b ≡ Read j l c) ⊎ (Read i k b ∈ ns) → i ∈ (if t then j ∷ reads_on ns k v else reads_on ns k v)
      by_test rest true t (inl m) = inl (same_id m)
      by_test rest true t (inr m) = inr (rest m e)
      by_test rest false t (inl m) = absurd (not_both (test_holds (same_key m) (ap rank_or_none (same_base m) ∙ e)) t)
      by_test rest false t (inr m) = rest m e
  reads_in (Proposed l x p c ∷ ns) v i b (inl m) e = absurd (cc)
  reads_in (Proposed l x p c ∷ ns) v i b (inr m) e = reads_in ns v i b m e
  reads_in (SettledNote l x ∷ ns) v i b (inl m) e = absurd (cc)
  reads_in (SettledNote l x ∷ ns) v i b (inr m) e = reads_in ns v i b m e

  -- of two reads of one version, the second is of another call and was noted no earlier
  abbrev NotedBefore : ℕ → ℕ → Type 0
  NotedBefore i j = (i ≡ j → ⊥) × ((s.book.seen i).event ≤ (s.book.seen j).event)

  reads_ordered : (ns : List Noted) (v : ℕ) → Ordered (Rises s) ns → Ordered NotedBefore (reads_on ns k v)
  reads_ordered [] v o = tt
  reads_ordered (Read j l b ∷ ns) v o = by_test (reads_ordered ns v o.1) (same_bytes l k && eqb (rank_or_none b) v)
    where
      rises : (i : ℕ) → i ∈ reads_on ns k v → NotedBefore j i
      rises i h = let r = in_reads ns v i h in o.0 (Read i k r.0) r.1 j i l k b r.0 refl refl

      by_test : Ordered NotedBefore (reads_on ns k v) → (t : Bool) → Ordered NotedBefore (if t then j ∷ reads_on ns k v else reads_on ns k v)
      by_test rest true = (rises, rest)
      by_test rest false = rest
  reads_ordered (Proposed l x p c ∷ ns) v o = reads_ordered ns v o.1
  reads_ordered (SettledNote l x ∷ ns) v o = reads_ordered ns v o.1

  read_held : (v i : ℕ) → i ∈ reads_on s.book.notes k v → ReadHolds s i k v
  read_held v i h = let r = in_reads s.book.notes v i h in subst (ReadHolds s i k) r.2 (listed.holds (Read i k r.0) r.1)

  pub noted_read : (v i : ℕ) → s.book.noted i ≡ true → (s.book.seen i).key ≡ k → (s.book.seen i).base ≡ v → i ∈ reads_on s.book.notes k v
  noted_read v i n e f = reads_in s.book.notes v i (version_or_none (s.book.seen i).base) (subst (λ (j : List ℕ). Read i j (version_or_none (s.book.seen i).base) ∈ s.book.notes) e (listed.read_in i n)) (rank-version_or_none (s.book.seen i).base ∙ f)

  -- ## Where a call is placed

  pub stands_once : (i u v : ℕ) → Stands s i u → Stands s i v → u ≡ v
  stands_once i u v (inl a) (inl b) = entries.once.once u v i a b
  stands_once i u v (inl a) (inr b) = absurd (entries.once.apart u i a b.0)
  stands_once i u v (inr a) (inl b) = absurd (entries.once.apart v i b a.0)
  stands_once i u v (inr a) (inr b) = sym a.1 ∙ b.1

  in_write : (c : Option ℕ) (i : ℕ) → i ∈ write_of c → c ≡ Some i
  in_write None i h = absurd h
  in_write (Some j) i (inl e) = ap Some (sym e)
  in_write (Some j) i (inr h) = absurd h

  write_in : (c : Option ℕ) (i : ℕ) → c ≡ Some i → i ∈ write_of c
  write_in None i e = absurd (cc)
  write_in (Some j) i e = inl (cc)

  write_stands : (v i : ℕ) → IsOf s k v → i ∈ write_of (call_in s.book.notes k v) → Wrote s.objects s.book i v
  write_stands v i g h = (g.0, sym (call_told v g) ∙ in_write (call_in s.book.notes k v) i h)

  pub block_stands : (v i : ℕ) → IsOf s k v → i ∈ block s.book.notes k v → Wrote s.objects s.book i v ⊎ ReadHolds s i k v
  block_stands v i g h = by_side (in_append (write_of (call_in s.book.notes k v)) (reads_on s.book.notes k v) i h)
    where
      by_side : (i ∈ write_of (call_in s.book.notes k v)) ⊎ (i ∈ reads_on s.book.notes k v) → Wrote s.objects s.book i v ⊎ ReadHolds s i k v
      by_side (inl p) = inl (write_stands v i g p)
      by_side (inr p) = inr (read_held v i p)

  stands : (v i : ℕ) → Wrote s.objects s.book i v ⊎ ReadHolds s i k v → Stands s i v
  stands v i (inl a) = inl a
  stands v i (inr r) = inr (r.noted, r.base)

  pub in_blocks : (vs : List ℕ) (i : ℕ) → i ∈ blocks s.book.notes k vs → (v : ℕ) × (v ∈ vs) × (i ∈ block s.book.notes k v)
  in_blocks [] i h = absurd h
  in_blocks (v ∷ vs) i h = by_side (in_blocks vs i) (in_append (block s.book.notes k v) (blocks s.book.notes k vs) i h)
    where
      by_side : (i ∈ blocks s.book.notes k vs → (u : ℕ) × (u ∈ vs) × (i ∈ block s.book.notes k u)) → (i ∈ block s.book.notes k v) ⊎ (i ∈ blocks s.book.notes k vs) → (u : ℕ) × (u ∈ (v ∷ vs)) × (i ∈ block s.book.notes k u)
      by_side rest (inl p) = (v, inl refl, p)
      by_side rest (inr p) = let r = rest p in (r.0, inr r.1, r.2)

  blocks_in : (vs : List ℕ) (v i : ℕ) → v ∈ vs → i ∈ block s.book.notes k v → i ∈ blocks s.book.notes k vs
  blocks_in [] v i h p = absurd h
  blocks_in (u ∷ vs) v i (inl e) p = in_left (block s.book.notes k u) (blocks s.book.notes k vs) i (subst (λ (x : ℕ). i ∈ block s.book.notes k x) e p)
  blocks_in (u ∷ vs) v i (inr h) p = in_right (block s.book.notes k u) (blocks s.book.notes k vs) i (blocks_in vs v i h p)

  -- ## The order is a linear order

  reads_before : (v : ℕ) → Ordered (Before s) (reads_on s.book.notes k v)
  reads_before v = ordered_more NotedBefore (Before s) (reads_on s.book.notes k v) before (reads_ordered s.book.notes v listed.rises)
    where
      before : (i j : ℕ) → i ∈ reads_on s.book.notes k v → j ∈ reads_on s.book.notes k v → NotedBefore i j → Before s i j
      before i j p q b =
          let a = read_held v i p in
          let c = read_held v j q in
          record { left = v; right = v; first = inr (a.noted, a.base); second = inr (c.noted, c.base); order = inr (refl, c.noted, λ n. b.1); differ = b.0 }

  write_before : (c : Option ℕ) (v : ℕ) → ((i : ℕ) → i ∈ write_of c → Wrote s.objects s.book i v) → Ordered (Before s) (write_of c ++ reads_on s.book.notes k v)
  write_before None v f = reads_before v
  write_before (Some i) v f = (λ j h. here j h, reads_before v)
    where
      here : (j : ℕ) → j ∈ reads_on s.book.notes k v → Before s i j
      here j h =
          let a = f i (inl refl) in
          let c = read_held v j h in
          record { left = v; right = v; first = inl a; second = inr (c.noted, c.base); order = inr (refl, c.noted, λ n. absurd (entries.once.apart v i a n)); differ = λ e. entries.once.apart v i a (subst (λ x. s.book.noted x ≡ true) (sym e) c.noted) }

  block_before : (v : ℕ) → IsOf s k v → Ordered (Before s) (block s.book.notes k v)
  block_before v g = write_before (call_in s.book.notes k v) v (λ i h. write_stands v i g h)

  lower_before : (u v i j : ℕ) → u < v → Stands s i u → Stands s j v → Before s i j
  lower_before u v i j l a b = record { left = u; right = v; first = a; second = b; order = inl l; differ = λ e. not_same (stands_once j u v (subst (λ x. Stands s x u) e a) b) }
    where
      not_same : u ≡ v → ⊥
      not_same e = omega arith

  blocks_before : (vs : List ℕ) → ((v : ℕ) → v ∈ vs → IsOf s k v) → Ordered (λ a b. a < b) vs → Ordered (Before s) (blocks s.book.notes k vs)
  blocks_before [] f o = tt
  blocks_before (v ∷ vs) f o = ordered_append (Before s) (block s.book.notes k v) (blocks s.book.notes k vs) (block_before v (f v (inl refl))) (blocks_before vs (λ u h. f u (inr h)) o.1) apart
    where
      apart : (i j : ℕ) → i ∈ block s.book.notes k v → j ∈ blocks s.book.notes k vs → Before s i j
      apart i j p q =
          let r = in_blocks vs j q in
          lower_before v r.0 i j (o.0 r.0 r.1) (stands v i (block_stands v i (f v (inl refl)) p)) (stands r.0 j (block_stands r.0 j (f r.0 (inr r.1)) r.2))

  pub order_before : Ordered (Before s) (order s.book.notes k)
  order_before = ordered_append (Before s) (reads_on s.book.notes k 0) (blocks s.book.notes k (settled_chain s.book.notes k)) (reads_before 0)
      (blocks_before (settled_chain s.book.notes k) version_is_of (subst (λ (l : List ℕ). Ordered (λ a b. a < b) l) (sym versions_same) (chain_climbs s w.basics k (newest_in s.book.notes k) (newest_in s.book.notes k) newest_of)))
      apart
    where
      apart : (i j : ℕ) → i ∈ reads_on s.book.notes k 0 → j ∈ blocks s.book.notes k (settled_chain s.book.notes k) → Before s i j
      apart i j p q =
          let r = in_blocks (settled_chain s.book.notes k) j q in
          let g = version_is_of r.0 r.1 in
          let a = read_held 0 i p in
          lower_before 0 r.0 i j (positive s w.basics k r.0 g) (inr (a.noted, a.base)) (stands r.0 j (block_stands r.0 j g r.2))

  -- a call of the order is a write of a version of the chain, a read of one, or a read that saw
  -- nothing
  pub in_order : (i : ℕ) → i ∈ order s.book.notes k → ReadHolds s i k 0 ⊎ ((v : ℕ) × (v ∈ settled_chain s.book.notes k) × (Wrote s.objects s.book i v ⊎ ReadHolds s i k v))
  in_order i h = by_side (in_append (reads_on s.book.notes k 0) (blocks s.book.notes k (settled_chain s.book.notes k)) i h)
    where
      by_side : (i ∈ reads_on s.book.notes k 0) ⊎ (i ∈ blocks s.book.notes k (settled_chain s.book.notes k)) → ReadHolds s i k 0 ⊎ ((v : ℕ) × (v ∈ settled_chain s.book.notes k) × (Wrote s.objects s.book i v ⊎ ReadHolds s i k v))
      by_side (inl p) = inl (read_held 0 i p)
      by_side (inr p) = let r = in_blocks (settled_chain s.book.notes k) i p in inr (r.0, r.1, block_stands r.0 i (version_is_of r.0 r.1) r.2)

  pub write_in_order : (v i : ℕ) → v ∈ settled_chain s.book.notes k → s.book.call v ≡ Some i → i ∈ order s.book.notes k
  write_in_order v i h e = in_right (reads_on s.book.notes k 0) (blocks s.book.notes k (settled_chain s.book.notes k)) i (blocks_in (settled_chain s.book.notes k) v i h
      (in_left (write_of (call_in s.book.notes k v)) (reads_on s.book.notes k v) i (write_in (call_in s.book.notes k v) i (call_told v (version_is_of v h) ∙ e))))

  pub read_in_order : (v i : ℕ) → (v ≡ 0) ⊎ (v ∈ settled_chain s.book.notes k) → i ∈ reads_on s.book.notes k v → i ∈ order s.book.notes k
  read_in_order v i (inl z) p = in_left (reads_on s.book.notes k 0) (blocks s.book.notes k (settled_chain s.book.notes k)) i (subst (λ x. i ∈ reads_on s.book.notes k x) z p)
  read_in_order v i (inr h) p = in_right (reads_on s.book.notes k 0) (blocks s.book.notes k (settled_chain s.book.notes k)) i (blocks_in (settled_chain s.book.notes k) v i h (in_right (write_of (call_in s.book.notes k v)) (reads_on s.book.notes k v) i p))
