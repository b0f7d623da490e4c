-- What sufficient sources tell.
use Rattle.std.proofs.Common.{◌≡◌, ℕ, Bool, true, false, List, [], ◌∷◌, ◌++◌, arith, refl, inl, inr}
use Rattle.ens_base.specs.Lists.{◌∈◌}
use Rattle.ens_base.specs.declared.entry.Entry.{Entry}
use Rattle.quorums.specs.Quorums.{is_majority, has_all, Meet}
use Rattle.quorums.proofs.Majorities.{majority_more, meet_of_majorities}
use Rattle.tree_sync.specs.Sources.{suffice, HasTeller}
use Rattle.tree_sync.specs.Syncs.{is_source, is_trusted_source, has_finished, is_trusted, is_awaited, with_source, is_over}
use Rattle.tree_sync.specs.declared.sync.Source.{Source}
use Rattle.tree_sync.specs.declared.sync.Sync.{Sync}

pub all_have : (finished : ℕ → Bool) (view : List ℕ) (p : ℕ) → has_all finished view ≡ true → p ∈ view → finished p ≡ true
all_have finished [] p h m = absurd m
all_have finished (x ∷ xs) p h (inl e) = grind arith
all_have finished (x ∷ xs) p h (inr m) = all_have finished xs p (grind arith) m

pub teller : (trusted finished sound holders : ℕ → Bool) (view : List ℕ) → suffice trusted finished view ≡ true → ((p : ℕ) → trusted p ≡ true → finished p ≡ true)
    → is_majority sound view ≡ true → is_majority holders view ≡ true → HasTeller trusted finished sound holders view
teller trusted finished sound holders view over done most held = by (is_majority trusted view) refl
  where
    by : (b : Bool) → is_majority trusted view ≡ b → HasTeller trusted finished sound holders view
    by true e = let m : Meet trusted holders view = meet_of_majorities trusted holders view e held in
        record { peer = m.peer; member = m.member; done = done m.peer m.in_left; holds = m.in_right; reliable = inl m.in_left }
    by false e = let m : Meet sound holders view = meet_of_majorities sound holders view most held in
        record { peer = m.peer; member = m.member; done = all_have finished view m.peer (grind (arith, over, e)) m.member; holds = m.in_right; reliable = inr m.in_left }

trusted_is_source : (ss : List Source) (p : ℕ) → is_trusted_source ss p ≡ true → is_source ss p ≡ true
trusted_is_source [] p h = h
trusted_is_source (s ∷ ss) p h = grind (arith, trusted_is_source ss p)

pub trusted_has_finished : (sync : Sync) (p : ℕ) → is_trusted sync p ≡ true → has_finished sync p ≡ true
trusted_has_finished sync p h = grind (arith, trusted_is_source sync.sources p)

more_sources : (ss : List Source) (s : Source) (p : ℕ) → is_source ss p ≡ true → is_source (ss ++ s ∷ []) p ≡ true
more_sources [] s p h = grind arith
more_sources (x ∷ ss) s p h = grind (arith, more_sources ss s p)

more_trusted : (ss : List Source) (s : Source) (p : ℕ) → is_trusted_source ss p ≡ true → is_trusted_source (ss ++ s ∷ []) p ≡ true
more_trusted [] s p h = grind arith
more_trusted (x ∷ ss) s p h = grind (arith, more_trusted ss s p)

all_more : (s t : ℕ → Bool) (view : List ℕ) → ((p : ℕ) → s p ≡ true → t p ≡ true) → has_all s view ≡ true → has_all t view ≡ true
all_more s t [] f h = refl
all_more s t (x ∷ xs) f h = grind (arith, f x, all_more s t xs f)

suffice_more : (trusted finished trusted_now finished_now : ℕ → Bool) (view : List ℕ) → ((p : ℕ) → trusted p ≡ true → trusted_now p ≡ true) → ((p : ℕ) → finished p ≡ true → finished_now p ≡ true)
    → suffice trusted finished view ≡ true → suffice trusted_now finished_now view ≡ true
suffice_more trusted finished trusted_now finished_now view f g h = grind (arith, majority_more trusted trusted_now f view, all_more finished finished_now view g)

pub still_over : (sync : Sync) (peer : ℕ) (trusted : Bool) (entries : List Entry) → is_over sync ≡ true → is_over (with_source peer trusted entries sync) ≡ true
still_over sync peer trusted entries h = by (is_awaited sync peer) refl
  where
    source : Source
    source = record { peer = peer; trusted = trusted; entries = entries }

    now : Sync
    now = record sync { sources = sync.sources ++ source ∷ [] }

    by : (b : Bool) → is_awaited sync peer ≡ b → is_over (with_source peer trusted entries sync) ≡ true
    by true e = rw e (suffice_more (is_trusted sync) (has_finished sync) (is_trusted now) (has_finished now) sync.view
        (λ p q. grind (arith, q, more_trusted sync.sources source p)) (λ p q. grind (arith, q, more_sources sync.sources source p)) h)
    by false e = rw e h
