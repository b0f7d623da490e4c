-- What is said of versions, entries, trees, syncs and gives stays so in later states.
use Rattle.std.proofs.Common.{◌≡◌, ℕ, Bool, List, ap, ◌∙◌, subst, le_trans}
use Rattle.protocol_laws.specs.Numbers.{epoch_number}
use Rattle.protocol_laws.specs.Objects.{Map}
use Rattle.protocol_laws.specs.Protocol.{State}
use Rattle.ens_base.specs.Lists.{◌∈◌}
use Rattle.ens_base.specs.declared.entry.Entry.{Entry}
use Rattle.ens_base.specs.declared.epoch.Epoch.{Epoch}
use Rattle.ens_base.specs.declared.epoch.Version.{Version}
use Rattle.stored_formats.specs.Objects.{IsObject, object_spelling}
use Rattle.stored_formats.specs.declared.object.Object.{Object}
use Rattle.protocol_laws.specs.Stays.{EntriesStay}
use Rattle.tree_exchange.specs.declared.question.Question.{Question}
use Rattle.peer_refinement.specs.LeaderRefinement.{rank}
use Rattle.stored_formats.specs.declared.fact.Fact.{Fact}
use Rattle.peer_refinement.specs.Naming.{VersionSays, EntrySays}
use Rattle.tree_sync.specs.Running.{Running}
use Rattle.role_laws.proofs.Peers.{sync_stays, give_stays}
use Rattle.role_laws.specs.Facts.{Lines}
use Rattle.tree_node.specs.declared.body.TreeBody.{TreeBody}
use Rattle.tree_node.specs.declared.body.TreeBody.TheVariants as bodies
use Rattle.tree_node.specs.declared.version.TreeVersion.{TreeVersion}
use Rattle.peer_refinement.proofs.RequestStaying.{same_object, entry_stays as same_entry}
use Rattle.peer_refinement.specs.SyncLaws.{SyncsStay}
use Rattle.peer_refinement.specs.Seen.{ranks, seen_fact, seen_tree, seen_sync}
use Rattle.peer_refinement.specs.Syncs.{EntriesSay, TreeSays, MayReturn, SyncSays, GiveShows, GiveFits}

-- ## Versions and entries

module _ (s t : State) (strings : List (List ℕ)) (stay : EntriesStay s t) where
  -- so a version says what it said
  pub version_stays : (v : Version) → VersionSays s strings v → VersionSays t strings v
  version_stays v says = record {
    proposed = stay.versions.proposed (rank v) says.proposed;
    object = subst IsObject (same_object s t v stay says.proposed) says.object;
    hashed = subst (λ (x : Object). object_spelling x ∈ strings) (same_object s t v stay says.proposed) says.hashed;
  }

  -- so does an entry
  pub entry_stays : (e : Entry) → EntrySays s strings e → EntrySays t strings e
  entry_stays e says = same_entry s t strings strings e stay (λ x h. h) says

  -- and all entries of a map
  pub entries_stay : (m : List Entry) → EntriesSay s strings m → EntriesSay t strings m
  entries_stay m say e i = entry_stays e (say e i)

  -- a tree that shows what it showed says what it said
  pub tree_says_stay : (q : ℕ) (m : List Entry) → t.objects.visible q ≡ s.objects.visible q → TreeSays s strings q m → TreeSays t strings q m
  tree_says_stay q m same says = record { entries = entries_stay m says.entries; visible = λ k. ap (λ (f : Map). f k) same ∙ says.visible k }

  -- a map that a tree may be put back to stays such a map
  pub return_stays : (q : ℕ) (m : List Entry) → MayReturn s strings q m → MayReturn t strings q m
  return_stays q m may = record { entries = entries_stay m may.entries; reached = λ e i. le_trans (may.reached e i) (stay.versions.ledger.ballot q) }

  -- ## Syncs and gives

  module _ (g : Lines) where
    -- what a sync says
    pub sync_says_stay : (version : TreeVersion) (p : ℕ) (fact : Fact) (trusted : Bool) (m : List Entry) (r : Running) → s.objects.ledger.ballot p ≡ epoch_number fact.ballot → SyncSays version g s strings p fact trusted m r → SyncSays version g t strings p fact trusted m r
    sync_says_stay version p fact trusted m r stands says = record {
      me = says.me;
      trust = says.trust;
      view = says.view;
      scan = says.scan;
      positions = says.positions;
      seen = says.seen;
      distinct = says.distinct;
      others = says.others;
      sources = says.sources;
      received = λ a i. entries_stay a.ask.received (says.received a i);
      holds = sync_stays g s.objects t.objects stay.versions p (seen_fact fact) (seen_tree m) trusted (seen_sync r) stands says.holds;
    }

    -- what a source showed
    pub give_shows_stay : (version : TreeVersion) (q : ℕ) (ballot : Epoch) (question : Question) (trusted : Bool) (body : TreeBody) → GiveShows version g s strings q ballot question trusted body → GiveShows version g t strings q ballot question trusted body
    give_shows_stay version q ballot question trusted body shows = record {
      map = shows.map;
      is_map = shows.is_map;
      body_is = shows.body_is;
      hashed = shows.hashed;
      entries = entries_stay shows.map shows.entries;
      says = give_stays g s.objects t.objects stay.versions q (epoch_number ballot) trusted (ranks shows.map) shows.says;
    }

    -- and what it sent, which may be a report of damage
    pub give_fits_stay : (version : TreeVersion) (q : ℕ) (ballot : Epoch) (question : Question) (trusted : Bool) (body : TreeBody) → GiveFits version g s strings q ballot question trusted body → GiveFits version g t strings q ballot question trusted body
    give_fits_stay version q ballot question trusted (bodies.Damaged at) fits = tt
    give_fits_stay version q ballot question trusted body fits = give_shows_stay version q ballot question trusted body fits

-- what syncs and gives say, and what may return, stays so
pub stays : (g : Lines) (s t : State) → EntriesStay s t → SyncsStay g s t
stays g s t stay = record {
  syncs = λ version strings. sync_says_stay s t strings stay g version;
  gives = λ version strings. give_fits_stay s t strings stay g version;
  returns = λ strings. return_stays s t strings stay;
}
