-- The best of the replies of a round has the greatest version, and the object of a reply with it.
use Rattle.std.specs.Prelude.{max}
use Rattle.std.proofs.Common.{List, ◌≡◌, ◌⊎◌, inl, inr, ℕ, ◌<◌, ◌+◌, ◌*◌, ◌^◌, Option, None, Some, arith, refl, sym, ap, subst, ◌∙◌}
use Rattle.std.proofs.lemmas.Bool.{cases_order}
use Rattle.std.proofs.lemmas.Map.Lookups.{exact_bytes}
use Rattle.std.specs.Ordering.{nat_cmp, ordering_then}
use Rattle.std.specs.declared.cmp.Ordering.{Ordering}
use Rattle.std.specs.declared.cmp.Ordering.TheVariants.{Less, Equal, Greater}
use Rattle.ens_base.proofs.Orders.{cmp_less, cmp_greater, epochs_compared, ranks_compared}
use Rattle.ens_base.specs.Epochs.{version_cmp}
use Rattle.ens_base.specs.Lists.{bytes_cmp}
use Rattle.ens_base.specs.declared.entry.Entry.{Entry}
use Rattle.ens_base.specs.declared.epoch.Version.{Version}
use Rattle.stored_formats.specs.declared.object.Object.{Object}
use Rattle.protocol_laws.specs.Book.{version_of}
use Rattle.protocol_laws.specs.Numbers.{epoch_number, IsVersion}
use Rattle.call_table.specs.Best.{entry_cmp, either_object, better_at, better}
use Rattle.call_table.specs.declared.row.Found.{Found}
use Rattle.role_laws.specs.Tables as theory
use Rattle.leader_refinement.proofs.Numbers.{rank_back, rank_some}
use Rattle.leader_refinement.specs.Seen.{rank, content_or_none, best_rank, best_object, entry_rank, shown}
use Rattle.leader_refinement.specs.Follows.{FoundFits, FoundNames, Hash}
use Rattle.leader_refinement.specs.Laws.{EntryFits}

-- ## Versions compare as their numbers

compared : (u v : Version) → IsVersion u → IsVersion v → version_cmp u v ≡ nat_cmp (rank u) (rank v)
unfolding theory.version_at epoch_number
compared u v h k =
    ap (λ (o : Ordering). ordering_then o (nat_cmp u.seq v.seq)) (epochs_compared u.epoch.count v.epoch.count u.epoch.proposer v.epoch.proposer h.0 k.0)
    ∙ ranks_compared (u.epoch.count * 2 ^ 32 + u.epoch.proposer) (v.epoch.count * 2 ^ 32 + v.epoch.proposer) u.seq v.seq h.1 k.1

same_rank : (u v : Version) → IsVersion u → IsVersion v → rank u ≡ rank v → u ≡ v
same_rank u v h k e = sym (rank_back u h) ∙ ap version_of e ∙ rank_back v k

-- ## One more reply

-- the number of the better reply is the greater one, and its object is that of a reply of this
-- number
pub record IsBetter (best : Option Found) (entry : Option Entry) (object : Option Object) (found : Option Found) : Type 0 where
  pub rank_is : max (best_rank best) (entry_rank entry) ≡ best_rank found
  pub object_of : (x : theory.Object) → best_object found ≡ Some x → ((best_rank best ≡ best_rank found) × (best_object best ≡ Some x)) ⊎ ((entry_rank entry ≡ best_rank found) × (shown entry object ≡ Some x))

max_right : (a b : ℕ) → a < b → max a b ≡ b
max_right a b h = omega arith

max_left : (a b : ℕ) → b < a → max a b ≡ a
max_left a b h = omega arith

max_same : (a b : ℕ) → a ≡ b → max a b ≡ a
max_same a b e = omega arith

module _ (f : Found) (e : Entry) (object : Option Object) (f_fits : IsVersion f.entry.version) (e_fits : IsVersion e.version) where
  at_order : (o : Ordering) → entry_cmp f.entry e ≡ o → IsBetter (Some f) (Some e) object (Some (better_at o f e object)) → IsBetter (Some f) (Some e) object (Some (better_at (entry_cmp f.entry e) f e object))
  at_order o is better = subst (λ (p : Ordering). IsBetter (Some f) (Some e) object (Some (better_at p f e object))) (sym is) better

  -- the order of the versions decides
  decides : (o : Ordering) → version_cmp f.entry.version e.version ≡ o → entry_cmp f.entry e ≡ ordering_then o (ordering_then (bytes_cmp f.entry.digest e.digest) (bytes_cmp f.entry.key e.key))
  decides o is = ap (λ (p : Ordering). ordering_then p (ordering_then (bytes_cmp f.entry.digest e.digest) (bytes_cmp f.entry.key e.key))) is

  -- of two entries of one version either is the better one
  either : rank f.entry.version ≡ rank e.version → (o : Ordering) → IsBetter (Some f) (Some e) object (Some (better_at o f e object))
  either same Less = record { rank_is = max_same (rank f.entry.version) (rank e.version) same ∙ same; object_of = λ x h. inr (refl, h) }
  either same Equal = record { rank_is = max_same (rank f.entry.version) (rank e.version) same; object_of = λ x h. by_object f.object refl x h }
    where
      by_object : (mine : Option Object) → f.object ≡ mine → (x : theory.Object) → content_or_none (either_object mine object) ≡ Some x → ((rank f.entry.version ≡ rank f.entry.version) × (content_or_none f.object ≡ Some x)) ⊎ ((rank e.version ≡ rank f.entry.version) × (content_or_none object ≡ Some x))
      by_object None is x h = inr (sym same, h)
      by_object (Some o) is x h = inl (refl, ap content_or_none is ∙ h)
  either same Greater = record { rank_is = max_same (rank f.entry.version) (rank e.version) same; object_of = λ x h. inl (refl, h) }

  by_ranks : (rank f.entry.version ≡ rank e.version) ⊎ ((rank f.entry.version < rank e.version) ⊎ (rank e.version < rank f.entry.version)) → IsBetter (Some f) (Some e) object (Some (better_at (entry_cmp f.entry e) f e object))
  by_ranks (inl same) = either same (entry_cmp f.entry e)
  by_ranks (inr (inl less)) = at_order Less (decides Less (compared f.entry.version e.version f_fits e_fits ∙ cmp_less (rank f.entry.version) (rank e.version) less)) (record {
    rank_is = max_right (rank f.entry.version) (rank e.version) less;
    object_of = λ x h. inr (refl, h);
  })
  by_ranks (inr (inr more)) = at_order Greater (decides Greater (compared f.entry.version e.version f_fits e_fits ∙ cmp_greater (rank f.entry.version) (rank e.version) more)) (record {
    rank_is = max_left (rank f.entry.version) (rank e.version) more;
    object_of = λ x h. inl (refl, h);
  })

pub better_seen : (best : Option Found) (entry : Option Entry) (object : Option Object) → FoundFits best → EntryFits entry → IsBetter best entry object (better best entry object)
better_seen None None object fits entry_fits = record { rank_is = max_same 0 0 refl; object_of = λ x h. inl (refl, h) }
better_seen None (Some e) object fits entry_fits = record { rank_is = max_right 0 (rank e.version) (rank_some e.version); object_of = λ x h. inr (refl, h) }
better_seen (Some f) None object fits entry_fits = record { rank_is = max_left (rank f.entry.version) 0 (rank_some f.entry.version); object_of = λ x h. inl (refl, h) }
better_seen (Some f) (Some e) object fits entry_fits = by_ranks f e object fits entry_fits (cases_order (rank f.entry.version) (rank e.version))

pub better_fits : (best : Option Found) (entry : Option Entry) (object : Option Object) → FoundFits best → EntryFits entry → FoundFits (better best entry object)
better_fits None None object fits entry_fits = tt
better_fits None (Some e) object fits entry_fits = entry_fits
better_fits (Some f) None object fits entry_fits = fits
better_fits (Some f) (Some e) object fits entry_fits = by_order (entry_cmp f.entry e)
  where
    by_order : (o : Ordering) → FoundFits (Some (better_at o f e object))
    by_order Less = entry_fits
    by_order Equal = fits
    by_order Greater = fits

-- ## Digests

nat_equal : (a b : ℕ) → nat_cmp a b ≡ Equal → a ≡ b
nat_equal a b h = by_order (cases_order a b)
  where
    by_order : (a ≡ b) ⊎ ((a < b) ⊎ (b < a)) → a ≡ b
    by_order (inl e) = e
    by_order (inr (inl f)) = absurd (less_is_not (sym (cmp_less a b f) ∙ h))
      where
        less_is_not : Less ≡ Equal → ⊥
        less_is_not e = cc
    by_order (inr (inr f)) = absurd (greater_is_not (sym (cmp_greater a b f) ∙ h))
      where
        greater_is_not : Greater ≡ Equal → ⊥
        greater_is_not e = cc

both_equal : (a b : Ordering) → ordering_then a b ≡ Equal → (a ≡ Equal) × (b ≡ Equal)
both_equal Less b h = absurd cc
both_equal Equal b h = (refl, h)
both_equal Greater b h = absurd cc

-- entries that compare as equal have one version and one digest
equal_entries : (e f : Entry) → IsVersion e.version → IsVersion f.version → entry_cmp e f ≡ Equal → (e.version ≡ f.version) × (e.digest ≡ f.digest)
equal_entries e f h k is = let parts = both_equal (version_cmp e.version f.version) (ordering_then (bytes_cmp e.digest f.digest) (bytes_cmp e.key f.key)) is in
    (same_rank e.version f.version h k (nat_equal (rank e.version) (rank f.version) (sym (compared e.version f.version h k) ∙ parts.0)), exact_bytes e.digest f.digest (both_equal (bytes_cmp e.digest f.digest) (bytes_cmp e.key f.key) parts.1).0)

pub better_names : (hash : Hash) (key : List ℕ) (best : Option Found) (entry : Option Entry) (object : Option Object) → FoundFits best → EntryFits entry → FoundNames hash key best → FoundNames hash key (better None entry object) → FoundNames hash key (better best entry object)
better_names hash key None None object fits entry_fits names new = tt
better_names hash key None (Some e) object fits entry_fits names new = new
better_names hash key (Some f) None object fits entry_fits names new = names
better_names hash key (Some f) (Some e) object fits entry_fits names new = by_order (entry_cmp f.entry e) refl
  where
    theirs : (o : Object) → (f.entry.version ≡ e.version) × (f.entry.digest ≡ e.digest) → object ≡ Some o → (o.version ≡ f.entry.version) × (f.entry.digest ≡ hash f.entry.version key o.stamp o.value)
    theirs o same h = ((new o h).0 ∙ sym same.0, same.1 ∙ (new o h).1 ∙ ap (λ (v : Version). hash v key o.stamp o.value) (sym same.0))

    by_object : (f.entry.version ≡ e.version) × (f.entry.digest ≡ e.digest) → (mine : Option Object) → f.object ≡ mine → (o : Object) → either_object mine object ≡ Some o → (o.version ≡ f.entry.version) × (f.entry.digest ≡ hash f.entry.version key o.stamp o.value)
    by_object same None is o h = theirs o same h
    by_object same (Some p) is o h = names o (is ∙ h)

    by_order : (o : Ordering) → entry_cmp f.entry e ≡ o → FoundNames hash key (Some (better_at o f e object))
    by_order Less is = new
    by_order Equal is = by_object (equal_entries f.entry e fits entry_fits is) f.object refl
    by_order Greater is = names
