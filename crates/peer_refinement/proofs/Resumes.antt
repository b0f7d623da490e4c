-- A sync asks again: sources that have not finished are asked, and what was received stays.
use Rattle.std.proofs.Common.{◌≡◌, ◌⊎◌, ℕ, Bool, true, false, ◌&&◌, List, [], ◌∷◌, map, refl, ap, sym, ◌∙◌, subst, inl, inr}
use Rattle.std.specs.Prelude.{◌==◌, if◌then◌else◌}
use Rattle.protocol_laws.specs.Numbers.{epoch_number}
use Rattle.protocol_laws.specs.Objects.{Map, Objects}
use Rattle.protocol_laws.specs.Protocol.{State, Step, IsRun, state_after}
use Rattle.ens_base.proofs.Lists.{in-map}
use Rattle.ens_base.specs.Lists.{◌∈◌, AreDistinct}
use Rattle.tree_exchange.specs.Asked.{Asked}
use Rattle.tree_sync.specs.Asks.{is_finished, resumed}
use Rattle.tree_sync.specs.declared.asking.Asking.{Asking}
use Rattle.tree_sync.specs.declared.asking.Stage.{Stage}
use Rattle.tree_sync.specs.declared.asking.Stage.TheVariants as stages
use Rattle.role_laws.specs.Facts.{Lines}
use Rattle.role_laws.specs.Syncs as syncs
use Rattle.tree_sync.specs.declared.sync.Source.{Source}
use Rattle.peer_refinement.specs.SyncLaws.{SyncsResume}
use Rattle.peer_refinement.specs.Seen.{ranks, seen_stage, seen_ask, ask_of}
use Rattle.peer_refinement.specs.Syncs.{EntriesSay}
use Rattle.peer_refinement.proofs.Asks.{peers_of}
use Rattle.protocol_laws.proofs.Epochs.{not_both}

-- ## One ask

finished_seen : (stage : Stage) → syncs.is_finished (seen_stage stage) ≡ is_finished stage
finished_seen stages.Open = refl
finished_seen stages.Finished = refl
finished_seen stages.Dropped = refl

-- the ask is as it was, or was not finished and is open
abbrev Resumes : syncs.Asking → syncs.Asking → Type 0
Resumes a b = (b ≡ a) ⊎ ((syncs.is_finished a.stage ≡ false) × (b ≡ record a { stage = syncs.Open }))

resumed_keeps : (a : Asking) → ((resumed a).peer ≡ a.peer) × ((resumed a).ask ≡ a.ask)
resumed_keeps a = by_stage (is_finished a.stage)
  where
    by_stage : (b : Bool) → ((if b then a else record a { stage = stages.Open }).peer ≡ a.peer) × ((if b then a else record a { stage = stages.Open }).ask ≡ a.ask)
    by_stage true = (refl, refl)
    by_stage false = (refl, refl)

resumed_seen : (a : Asking) → Resumes (seen_ask a) (seen_ask (resumed a))
resumed_seen a = by_stage (is_finished a.stage) refl
  where
    by_stage : (b : Bool) → is_finished a.stage ≡ b → Resumes (seen_ask a) (seen_ask (if b then a else record a { stage = stages.Open }))
    by_stage true h = inl refl
    by_stage false h = inr (finished_seen a.stage ∙ h, refl)

-- ## All asks

resumed_of : (asks : List Asking) (q : ℕ) → Resumes (ask_of asks q) (ask_of (map resumed asks) q)
resumed_of [] q = inl refl
resumed_of (a ∷ asks) q = by_peer (a.peer == q) ((resumed a).peer == q) (ap (λ (p : ℕ). p == q) (resumed_keeps a).0) (resumed_of asks q)
  where
    by_peer : (b c : Bool) → c ≡ b → Resumes (ask_of asks q) (ask_of (map resumed asks) q) → Resumes (if b then seen_ask a else ask_of asks q) (if c then seen_ask (resumed a) else ask_of (map resumed asks) q)
    by_peer true true h rest = resumed_seen a
    by_peer false false h rest = rest
    by_peer true false h rest = absurd cc
    by_peer false true h rest = absurd cc

resumed_peers : (asks : List Asking) → peers_of (map resumed asks) ≡ peers_of asks
resumed_peers [] = refl
resumed_peers (a ∷ asks) = λ i. (resumed_keeps a).0 i ∷ resumed_peers asks i

-- an ask of these is one of the old ones, resumed
resumed_in : (asks : List Asking) (x : Asking) → x ∈ map resumed asks → (a : Asking) × (a ∈ asks) × (x ≡ resumed a)
resumed_in [] x at = absurd at
resumed_in (a ∷ asks) x (inl same) = (a, inl refl, same)
resumed_in (a ∷ asks) x (inr at) = let found = resumed_in asks x at in (found.0, inr found.1, found.2)

-- ## The sync

resumes_hold : (g : Lines) (o : Objects) (d : ℕ) (scan : Map) (q : ℕ) (a b : syncs.Asking) → Resumes a b → syncs.AskHolds g o d scan q a → syncs.AskHolds g o d scan q b
resumes_hold g o d scan q a b (inl same) old = subst (syncs.AskHolds g o d scan q) (sym same) old
resumes_hold g o d scan q a b (inr (waits, is)) old = subst (syncs.AskHolds g o d scan q) (sym is) (record { genuine = old.genuine; reached = old.reached; covered = old.covered; done = λ h. absurd (not_both h refl) })

resumes_finished : (a b : syncs.Asking) → Resumes a b → syncs.is_finished a.stage ≡ syncs.is_finished b.stage
resumes_finished a b (inl same) = ap (λ (x : syncs.Asking). syncs.is_finished x.stage) (sym same)
resumes_finished a b (inr (waits, is)) = waits ∙ ap (λ (x : syncs.Asking). syncs.is_finished x.stage) (sym is)

resumes_flagged : (a b : syncs.Asking) → Resumes a b → (syncs.is_finished a.stage && a.flagged) ≡ (syncs.is_finished b.stage && b.flagged)
resumes_flagged a b (inl same) = ap (λ (x : syncs.Asking). syncs.is_finished x.stage && x.flagged) (sym same)
resumes_flagged a b (inr (waits, is)) = ap (λ t. t && a.flagged) waits ∙ ap (λ (x : syncs.Asking). syncs.is_finished x.stage && x.flagged) (sym is)

resumes_say : (g : Lines) (s : State) → SyncsResume g s
resumes_say g s version strings p fact trusted m r old = record {
  me = old.me;
  trust = old.trust;
  view = old.view;
  scan = old.scan;
  positions = old.positions;
  seen = old.seen;
  distinct = subst AreDistinct (sym (resumed_peers r.asks)) old.distinct;
  others = λ x at same. let found = resumed_in r.asks x at in old.others found.0 found.1 (sym (resumed_keeps found.0).0 ∙ ap (λ (a : Asking). a.peer) (sym found.2) ∙ same);
  sources = record {
    finished = λ q. old.sources.finished q ∙ resumes_finished (ask_of r.asks q) (ask_of (map resumed r.asks) q) (resumed_of r.asks q);
    flagged = λ q. old.sources.flagged q ∙ resumes_flagged (ask_of r.asks q) (ask_of (map resumed r.asks) q) (resumed_of r.asks q);
    given = given;
    among = old.sources.among;
  };
  received = λ x at. let found = resumed_in r.asks x at in subst (EntriesSay s strings) (sym (ap (λ (a : Asking). a.ask.received) found.2 ∙ ap (λ (k : Asked). k.received) (resumed_keeps found.0).1)) (old.received found.0 found.1);
  holds = record {
    first = old.holds.first;
    stands = old.holds.stands;
    newer = old.holds.newer;
    found = old.holds.found;
    scanned = old.holds.scanned;
    whole = old.holds.whole;
    asks = λ q. resumes_hold g s.objects (epoch_number r.fact.epoch) (ranks r.sync.scan.entries) q (ask_of r.asks q) (ask_of (map resumed r.asks) q) (resumed_of r.asks q) (old.holds.asks q);
  };
}
  where
    given : (source : Source) → source ∈ r.sync.sources → (x : Asking) × (x ∈ map resumed r.asks) × (x.peer ≡ source.peer) × (source.entries ≡ x.ask.received)
    given source at =
        let (a, there, peer, entries) = old.sources.given source at in
        (resumed a, in-map resumed r.asks a there, (resumed_keeps a).0 ∙ peer, entries ∙ ap (λ (k : Asked). k.received) (sym (resumed_keeps a).1))

-- a sync that asks again says what it said
pub resumes : (g : Lines) (view : List ℕ) (steps : List Step) → IsRun view steps → SyncsResume g (state_after view steps)
resumes g view steps run = resumes_say g (state_after view steps)
