-- What entries, maps and replies say stays so.
use Rattle.std.proofs.Common.{◌≡◌, inl, inr, ◌⊎◌, ℕ, Bool, true, false, cond, List, [], ◌∷◌, Option, None, Some, refl, sym, ap, subst, ◌∙◌}
use Rattle.md5.specs.Md5.{md5}
use Rattle.ens_base.specs.Lists.{◌∈◌, same_bytes}
use Rattle.ens_base.specs.declared.entry.Entry.{Entry}
use Rattle.ens_base.specs.declared.epoch.Version.{Version}
use Rattle.stored_formats.specs.Objects.{IsObject, object_spelling}
use Rattle.stored_formats.specs.declared.object.Object.{Object}
use Rattle.synctree.specs.Entries.{lookup, put}
use Rattle.wire_frames.specs.declared.message.Message.TheVariants as messages
use Rattle.protocol_laws.specs.Ledger as ledger
use Rattle.protocol_laws.specs.Numbers.{epoch_number}
use Rattle.protocol_laws.specs.Objects.{Map, set_entry}
use Rattle.protocol_laws.specs.Protocol.{State, Step, Write, Install, Revert, IsRun, state_after, happens, after}
use Rattle.protocol_laws.proofs.Later.{stay_after}
use Rattle.protocol_laws.specs.Stays.{EntriesStay}
use Rattle.protocol_laws.proofs.Maps.{put_here, put_other}
use Rattle.role_laws.proofs.Runs.{run_tables}
use Rattle.role_laws.specs.LeaderLaws.{TablesStay}
use Rattle.role_laws.specs.LeaderMessages.{PutSays}
use Rattle.leader_refinement.specs.Seen.{rank, content_of, entry_rank, shown}
use Rattle.peer_refinement.specs.Trees.{AreAmong}
use Rattle.peer_refinement.proofs.Lookups.{lookup_put, in_put}
use Rattle.peer_refinement.specs.Naming.{object_of_version, EntrySays, EntryMaySay}
use Rattle.peer_refinement.specs.Replies.{SparesTree, AllSpareTree}
use Rattle.peer_refinement.specs.RequestLaws.{PutsAreEntries, WritesShow, EntriesStaySo, MapsStaySo, RepliesStaySo}

-- ## Entries

pub object_from : (o : Object) (stamp : Version) (key : List ℕ) (value : Option (List ℕ)) → stamp ≡ o.stamp → key ≡ o.key → value ≡ o.value → (let made : Object = record { version = o.version; stamp = stamp; key = key; value = value } in made) ≡ o
object_from o stamp key value a b c = λ i. record { version = o.version; stamp = a i; key = b i; value = c i }

-- the object of a put is that of its version
pub put_object : (s : State) (d : ℕ) (o : Object) → PutSays s d o.key (rank o.version) (content_of o) → object_of_version s o.version ≡ o
put_object s d o says = object_from o (s.book.stamp (rank o.version)) (s.objects.key (rank o.version)) (s.book.content (rank o.version)) (sym says.object.stamp) says.key (sym says.object.content)

pub put_entry : (s : State) → PutsAreEntries s
put_entry s strings d o digest says obeys hashed is = let own : o ≡ object_of_version s o.version = sym (put_object s d o says) in record {
  version = record {
    proposed = says.proposed;
    object = subst IsObject own obeys;
    hashed = subst (λ (x : Object). object_spelling x ∈ strings) own hashed;
  };
  key = sym says.key;
  digest = is ∙ ap (λ (x : Object). md5 (object_spelling x)) own;
}

-- the version keeps its object
pub same_object : (s t : State) (v : Version) → EntriesStay s t → s.objects.proposed (rank v) ≡ true → object_of_version s v ≡ object_of_version t v
same_object s t v stay proposed = sym (object_from (object_of_version s v) (t.book.stamp (rank v)) (t.objects.key (rank v)) (t.book.content (rank v)) (stay.stamp (rank v) proposed) (stay.versions.key (rank v) proposed) (stay.content (rank v) proposed))

pub entry_stays : (s t : State) (strings more : List (List ℕ)) (e : Entry) → EntriesStay s t → AreAmong strings more → EntrySays s strings e → EntrySays t more e
entry_stays s t strings more e stay among says = record {
  version = record {
    proposed = stay.versions.proposed (rank e.version) says.version.proposed;
    object = subst IsObject same says.version.object;
    hashed = subst (λ (x : Object). object_spelling x ∈ more) same (among (object_spelling (object_of_version s e.version)) says.version.hashed);
  };
  key = says.key ∙ sym (stay.versions.key (rank e.version) says.version.proposed);
  digest = says.digest ∙ ap (λ (x : Object). md5 (object_spelling x)) same;
}
  where
    same : object_of_version s e.version ≡ object_of_version t e.version
    same = same_object s t e.version stay says.version.proposed

pub entries_stay : (s : State) → EntriesStaySo s
entries_stay s strings more steps e may among says = entry_stays s (after s steps) strings more e (stay_after s steps may) among says

may_stay : (s t : State) (strings more : List (List ℕ)) (entry : Option Entry) → EntriesStay s t → AreAmong strings more → EntryMaySay s strings entry → EntryMaySay t more entry
may_stay s t strings more None stay among says = tt
may_stay s t strings more (Some e) stay among says = entry_stays s t strings more e stay among says

-- ## Maps

-- a map with an entry set is the map of the list with that entry put
set_shows : (f : Map) (m : List Entry) (e : Entry) (j : List ℕ) → e.key ≡ j → ((k : List ℕ) → f k ≡ entry_rank (lookup k m)) → (k : List ℕ) → set_entry f j (rank e.version) k ≡ entry_rank (lookup k (put e m))
set_shows f m e j on_key shows k = subst (λ (i : List ℕ). set_entry f i (rank e.version) k ≡ entry_rank (lookup k (put e m))) on_key (by_same (same_bytes e.key k) (shows k) ∙ sym (ap entry_rank (lookup_put e m k)))
  where
    by_same : (b : Bool) → f k ≡ entry_rank (lookup k m) → cond b (rank e.version) (f k) ≡ entry_rank (cond b (Some e) (lookup k m))
    by_same true h = refl
    by_same false h = h

pub write_shows : (s : State) → WritesShow s
write_shows s strings more q m e among says here = record {
  entries = λ f h. by_place f (in_put f e m h);
  map = λ k. ap (λ (f : Map). f k) (put_here s.objects.map q (set_entry (s.objects.map q) (s.objects.key (rank e.version)) (rank e.version))) ∙ set_shows (s.objects.map q) m e (s.objects.key (rank e.version)) here.key says.map k;
  visible = λ k. ap (λ (f : Map). f k) (put_here s.objects.visible q (set_entry (s.objects.visible q) (s.objects.key (rank e.version)) (rank e.version))) ∙ set_shows (s.objects.visible q) m e (s.objects.key (rank e.version)) here.key says.visible k;
}
  where
    written : (f : Entry) → EntrySays s more f → EntrySays (happens s (Write q (rank e.version))) more f
    written f old = record { version = record { proposed = old.version.proposed; object = old.version.object; hashed = old.version.hashed }; key = old.key; digest = old.digest }

    more_hashed : (f : Entry) → EntrySays s strings f → EntrySays s more f
    more_hashed f old = record { version = record { proposed = old.version.proposed; object = old.version.object; hashed = among (object_spelling (object_of_version s f.version)) old.version.hashed }; key = old.key; digest = old.digest }

    by_place : (f : Entry) → (f ≡ e) ⊎ (f ∈ m) → EntrySays (happens s (Write q (rank e.version))) more f
    by_place f (inl same) = written f (subst (λ (x : Entry). EntrySays s more x) (sym same) here)
    by_place f (inr there) = written f (more_hashed f (says.entries f there))

-- the peer has the same map, and its tree shows the same
record SameMap (q : ℕ) (s t : State) : Type 0 where
  map : (k : List ℕ) → t.objects.map q k ≡ s.objects.map q k
  visible : (k : List ℕ) → t.objects.visible q k ≡ s.objects.visible q k

other_map : (f : ℕ → Map) (p q : ℕ) (x : Map) → (p ≡ q → ⊥) → (k : List ℕ) → ledger.put f p x q k ≡ f q k
other_map f p q x other k = ap (λ (m : Map). m k) (put_other f p x q other)

map_step : (q : ℕ) (s : State) (e : Step) → SparesTree q e → SameMap q s (happens s e)
map_step q s (Write p v) other = record { map = other_map s.objects.map p q (set_entry (s.objects.map p) (s.objects.key v) v) other; visible = other_map s.objects.visible p q (set_entry (s.objects.visible p) (s.objects.key v) v) other }
map_step q s (Install p d merged) other = record { map = other_map s.objects.map p q merged other; visible = other_map s.objects.visible p q merged other }
map_step q s (Revert p tree) other = record { map = λ k. refl; visible = other_map s.objects.visible p q tree other }
map_step q s e spares = record { map = λ k. refl; visible = λ k. refl }

map_after : (q : ℕ) (s : State) (steps : List Step) → AllSpareTree q steps → SameMap q s (after s steps)
map_after q s [] spares = record { map = λ k. refl; visible = λ k. refl }
map_after q s (e ∷ steps) spares = then_so (map_step q s e spares.0) (map_after q (happens s e) steps spares.1)
  where
    then_so : SameMap q s (happens s e) → SameMap q (happens s e) (after (happens s e) steps) → SameMap q s (after (happens s e) steps)
    then_so first rest = record { map = λ k. rest.map k ∙ first.map k; visible = λ k. rest.visible k ∙ first.visible k }

pub maps_stay : (s : State) → MapsStaySo s
maps_stay s strings more steps q m may spares among says = record {
  entries = λ e h. entry_stays s (after s steps) strings more e (stay_after s steps may) among (says.entries e h);
  map = λ k. same.map k ∙ says.map k;
  visible = λ k. same.visible k ∙ says.visible k;
}
  where
    same : SameMap q s (after s steps)
    same = map_after q s steps spares

-- ## Replies

replies_so : (s : State) → TablesStay s → RepliesStaySo s
replies_so s tables g h strings more steps q (messages.GetReply ballot round key entry object) may ghosts turns among says = record {
  reply = tables.replies g h steps q (epoch_number ballot) round key (entry_rank entry) (shown entry object) may ghosts turns says.reply;
  entry_says = may_stay s (after s steps) strings more entry (stay_after s steps may) among says.entry_says;
  fits = says.fits;
}
replies_so s tables g h strings more steps q (messages.CheckReply ballot round) may ghosts turns among says = tables.checks g h steps q (epoch_number ballot) round may ghosts turns says
replies_so s tables g h strings more steps q (messages.PutReply ballot key version) may ghosts turns among says = tables.acks steps (rank version) q may says
replies_so s tables g h strings more steps q (messages.Nack ballot cause) may ghosts turns among says = tt
replies_so s tables g h strings more steps q message may ghosts turns among says = absurd says

pub run_replies_stay : (view : List ℕ) (steps : List Step) → IsRun view steps → RepliesStaySo (state_after view steps)
run_replies_stay view steps run = replies_so (state_after view steps) (run_tables view steps run)
