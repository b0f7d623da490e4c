-- What the small changes of a leader keep: of its rows and of its numbers.
use Rattle.std.proofs.Common.{◌≡◌, ◌⊎◌, ◌≤◌, ◌<◌, ◌^◌, ◌+◌, inl, inr, refl, ap, sym, ◌∙◌, subst, arith, ℕ, suc, Bool, true, false, cond, List, [], ◌∷◌, length, map, Option, None, Some, Ordering, Less, Equal, Greater, is_eq}
use Rattle.std.specs.BTreeMap.{is_at, insert_entry}
use Rattle.std.specs.Map.{lookup as find_at}
use Rattle.std.specs.Ordering.{nat_cmp, match_ordering}
use Rattle.std.proofs.lemmas.Bool.{false≢true}
use Rattle.std.proofs.lemmas.List.{length-map}
use Rattle.call_table.specs.Rows.{Rows, Checks, row_at, check_at, with_check, with_known, with_stage}
use Rattle.call_table.specs.Tables.{ended, rested}
use Rattle.call_table.specs.declared.row.KeyRow.{KeyRow}
use Rattle.call_table.specs.declared.row.Known.{Known}
use Rattle.call_table.specs.declared.row.Known.TheVariants as knowns
use Rattle.call_table.specs.declared.row.Stage.{Stage}
use Rattle.call_table.specs.declared.row.Stage.TheVariants as stages
use Rattle.call_table.specs.declared.table.CallTable.{CallTable}
use Rattle.ens_base.proofs.Lists.{bytes_same, bytes_itself}
use Rattle.ens_base.proofs.Orders.{cmp_equal}
use Rattle.ens_base.specs.Lists.{◌∈◌, same_bytes}
use Rattle.ens_base.specs.declared.entry.Entry.{Entry}
use Rattle.ens_base.specs.declared.epoch.Version.{Version}
use Rattle.stored_formats.specs.Objects.{IsObject, object_spelling}
use Rattle.stored_formats.specs.declared.object.Object.{Object}
use Rattle.environment.proofs.MapLaws.{others_after}
use Rattle.environment.specs.Maps.{value_at}
use Rattle.calm_step_laws.specs.WorldSpec.{Held, HeldStores}
use Rattle.object_commands.specs.Kept.{entry_of}
use Rattle.leader_laws.proofs.Lookups.{row_here, known_other, stage_here, stage_other, known_here}
use Rattle.md5.specs.Md5.{md5}
use Rattle.world_refinement.proofs.PeerRefinement.{lookup_put, in_put}
use Rattle.world_refinement.proofs.StepRefinement.{images_few, distinct_keys}
use Rattle.synctree.proofs.Names.{md5_run}
use Rattle.synctree.proofs.Parts.{ascends-put}
use Rattle.synctree.specs.Entries.{Ascends, lookup, put}
use Rattle.calm_step_laws.specs.PeerRefinement.{IsWhole}
use Rattle.calm_step_laws.proofs.Requests.{HasWritten}
use Rattle.calm_laws.proofs.ServedMembers.{with_map, each_map}
use Rattle.calm_laws.proofs.ServedPuts.{Fits}
use Rattle.calm_laws.proofs.ServedWorlds.{Scene, Knows, IsUnknown, IsPast, Holds, version_at}

-- ## Rows

-- a stage changes no knowledge
pub known_stays : (key k : List ℕ) (stage : Stage) (rows : Rows) → (row_at k (with_stage key stage rows)).known ≡ (row_at k rows).known
unfolding with_stage
known_stays key k stage rows = by (same_bytes key k) refl where
  by : (b : Bool) → same_bytes key k ≡ b → (row_at k (with_stage key stage rows)).known ≡ (row_at k rows).known
  by true same = subst (λ (j : List ℕ). (row_at j (with_stage key stage rows)).known ≡ (row_at j rows).known) (bytes_same key k same) (ap (λ (row : KeyRow). row.known) (row_here key (record (row_at key rows) { stage = stage }) rows))
  by false apart = ap (λ (row : KeyRow). row.known) (stage_other key k stage rows apart)

pub ended_rows : (key : List ℕ) (t : CallTable) → (ended key t).rows ≡ with_stage key stages.Idle t.rows
unfolding ended rested
ended_rows key t = refl

-- a check is found by its round
pub check_here : (r : ℕ) (key : List ℕ) (checks : Checks) → check_at r (with_check r key checks) ≡ Some key
unfolding check_at with_check
check_here r key [] = ap (λ (b : Bool). cond b (Some key) None) (ap is_eq (cmp_equal r r refl))
check_here r key (c ∷ checks) = by (nat_cmp r c.0) refl (check_here r key checks) where
  by : (o : Ordering) → nat_cmp r c.0 ≡ o → find_at (is_at (nat_cmp r)) (insert_entry nat_cmp checks r key) ≡ Some key
      → find_at (is_at (nat_cmp r)) (match_ordering o ((r, key) ∷ c ∷ checks) ((c.0, key) ∷ checks) (c ∷ insert_entry nat_cmp checks r key)) ≡ Some key
  by Less order rest = ap (λ (b : Bool). cond b (Some key) (find_at (is_at (nat_cmp r)) (c ∷ checks))) (ap is_eq (cmp_equal r r refl))
  by Equal order rest = ap (λ (b : Bool). cond b (Some key) (find_at (is_at (nat_cmp r)) checks)) (ap is_eq order)
  by Greater order rest = ap (λ (b : Bool). cond b (Some c.1) (find_at (is_at (nat_cmp r)) (insert_entry nat_cmp checks r key))) (ap is_eq order) ∙ rest

-- ## A map has no more entries than keys were called

-- a key of the map is that of an entry
keyed_by : (m : List Entry) (k : List ℕ) → k ∈ map (λ (e : Entry). e.key) m → (e : Entry) × (e ∈ m) × (e.key ≡ k)
keyed_by [] k is = absurd is
keyed_by (e ∷ m) k (inl same) = (e, inl refl, sym same)
keyed_by (e ∷ m) k (inr more) = let it = keyed_by m k more in (it.0, inr it.1, it.2)

few_entries : (m : List Entry) (keys : List (List ℕ)) → Ascends m → ((e : Entry) → e ∈ m → e.key ∈ keys) → length m ≤ length keys
few_entries m keys ascends listed =
    subst (λ k. k ≤ length keys) (length-map m (λ (e : Entry). e.key)) (images_few (λ (k : List ℕ). k) keys (map (λ (e : Entry). e.key) m) (distinct_keys m ascends)
    (λ k is. let it = keyed_by m k is in (k, subst (λ (j : List ℕ). j ∈ keys) it.2 (listed it.0 it.1), refl)))

-- the object of a called key fits into a map of called keys
pub fits_in : (n : Scene) (h : Held) (m : List Entry) (o : Object) → IsWhole h m → IsObject o → o.key ∈ n.called → ((e : Entry) → e ∈ m → e.key ∈ n.called) → Fits o m
fits_in n h m o whole valid called listed =
    let entry : Entry = entry_of o (md5 (object_spelling o)) in
    (record { key = valid.key; version = valid.version; digest = md5_run (object_spelling o) }, within n.small n.few (few_entries (put entry m) n.called (ascends-put entry m whole.shows.stands.is_map.ascends) (λ e is. by e (in_put e entry m is))))
  where
    within : (n.count < 2 ^ 32) → (length n.called ≤ n.count) → length (put (entry_of o (md5 (object_spelling o))) m) ≤ length n.called → length (put (entry_of o (md5 (object_spelling o))) m) < 2 ^ 32
    within small few all = omega (arith, small, few, all)

    by : (e : Entry) → (e ≡ entry_of o (md5 (object_spelling o))) ⊎ (e ∈ m) → e.key ∈ n.called
    by e (inl new) = subst (λ (f : Entry). f.key ∈ n.called) (sym new) called
    by e (inr old) = listed e old

-- ## What the leader's numbers and rows hold

module _ (me : ℕ) (view : List ℕ) (n : Scene) where
  module _ (seq round : ℕ) (rows : Rows) (stores : HeldStores) (maps : ℕ → List Entry) where
    abbrev Now : Option (List ℕ) → Type 0
    Now busy = Holds me view n seq round rows stores maps busy

    known_as : (k : List ℕ) (more : Rows) → row_at k more ≡ row_at k rows → Knows me view rows stores k → Knows me view more stores k
    known_as k more same knows = rw same knows

    -- a new stage of the busy key
    pub staged : (key : List ℕ) (stage : Stage) → Now (Some key) → Holds me view n seq round (with_stage key stage rows) stores maps (Some key)
    staged key stage h = record {
      seqs = h.seqs;
      rounds = h.rounds;
      past = h.past;
      idle = λ k apart. ap (λ (row : KeyRow). row.stage) (stage_other key k stage rows apart) ∙ h.idle k apart;
      knows = λ k apart. known_as k (with_stage key stage rows) (stage_other key k stage rows apart) (h.knows k apart);
      unknown = λ k is. h.unknown k (sym (known_stays key k stage rows) ∙ is);
    }

    -- something is known of the busy key
    pub learned : (key : List ℕ) (known : Known) → (known ≡ knowns.Unknown → ⊥) → Now (Some key) → Holds me view n seq round (with_known key known rows) stores maps (Some key)
    learned key known some h = record {
      seqs = h.seqs;
      rounds = h.rounds;
      past = h.past;
      idle = λ k apart. ap (λ (row : KeyRow). row.stage) (known_other key k known rows apart) ∙ h.idle k apart;
      knows = λ k apart. known_as k (with_known key known rows) (known_other key k known rows apart) (h.knows k apart);
      unknown = λ k is. by k (same_bytes key k) refl is;
    }
      where
        by : (k : List ℕ) (b : Bool) → same_bytes key k ≡ b → IsUnknown me view (with_known key known rows) k → (q : ℕ) → q ∈ view → lookup k (maps q) ≡ None
        by k true same is = absurd (some (sym (known_here key known rows) ∙ subst (λ (j : List ℕ). IsUnknown me view (with_known key known rows) j) (sym (bytes_same key k same)) is))
        by k false apart is = h.unknown k (ap (λ (row : KeyRow). row.known) (sym (known_other key k known rows apart)) ∙ is)

    -- a number was given to a write
    pub numbered : (busy : Option (List ℕ)) → suc seq ≤ n.count → Now busy → Holds me view n (seq + 1) round rows stores maps busy
    numbered busy room h = record {
      seqs = omega (arith, room);
      rounds = h.rounds;
      past = λ q e listed is. let p = h.past q e listed is in (p.0, omega (arith, p.1), p.2);
      idle = h.idle;
      knows = h.knows;
      unknown = h.unknown;
    }

    -- a new round
    pub rounded : (busy : Option (List ℕ)) → suc round ≤ n.count → Now busy → Holds me view n seq (round + 1) rows stores maps busy
    rounded busy room h = record { seqs = h.seqs; rounds = omega (arith, room); past = h.past; idle = h.idle; knows = h.knows; unknown = h.unknown }

    -- a call begins
    pub busied : (key : List ℕ) → Now None → Now (Some key)
    busied key h = record { seqs = h.seqs; rounds = h.rounds; past = h.past; idle = λ k apart. h.idle k tt; knows = λ k apart. h.knows k tt; unknown = h.unknown }

    -- the call of the busy key ended
    pub freed : (key : List ℕ) → Knows me view rows stores key → Now (Some key) → Holds me view n seq round (with_stage key stages.Idle rows) stores maps None
    freed key known h = record {
      seqs = h.seqs;
      rounds = h.rounds;
      past = h.past;
      idle = λ k apart. idles k (same_bytes key k) refl;
      knows = λ k apart. knows_it k (same_bytes key k) refl;
      unknown = λ k is. h.unknown k (sym (known_stays key k stages.Idle rows) ∙ is);
    }
      where
        idles : (k : List ℕ) (b : Bool) → same_bytes key k ≡ b → (row_at k (with_stage key stages.Idle rows)).stage ≡ stages.Idle
        idles k true same = subst (λ (j : List ℕ). (row_at j (with_stage key stages.Idle rows)).stage ≡ stages.Idle) (bytes_same key k same) (stage_here key stages.Idle rows)
        idles k false apart = ap (λ (row : KeyRow). row.stage) (stage_other key k stages.Idle rows apart) ∙ h.idle k apart

        knows_it : (k : List ℕ) (b : Bool) → same_bytes key k ≡ b → Knows me view (with_stage key stages.Idle rows) stores k
        knows_it k true same = subst (λ (j : List ℕ). Knows me view (with_stage key stages.Idle rows) stores j) (bytes_same key k same) (rw (known_stays key key stages.Idle rows) known)
        knows_it k false apart = known_as k (with_stage key stages.Idle rows) (stage_other key k stages.Idle rows apart) (h.knows k apart)

  -- the object of a write stands in the leader's own tree and backend
  pub stored : me ∈ view → (seq round : ℕ) (rows : Rows) (key : List ℕ) (o : Object) (h g : Held) (maps : ℕ → List Entry) → o.key ≡ key → o.version ≡ version_at me view seq → (IsUnknown me view rows key → ⊥) → key ∈ n.called → HasWritten o (maps me) h g
      → Holds me view n seq round rows h.stores maps (Some key) → Holds me view n seq round rows g.stores (with_map me (put (entry_of o (md5 (object_spelling o))) (maps me)) maps) (Some key)
  stored listed_me seq round rows key o h g maps keyed version known called has holds_before = record {
    seqs = holds_before.seqs;
    rounds = holds_before.rounds;
    past = λ q e listed is. each_map me (put entry (maps me)) maps (λ es. e ∈ es → IsPast me view seq n.called e) q (λ apart. holds_before.past q e listed) (past e) is;
    idle = holds_before.idle;
    knows = λ k apart. kept k apart (holds_before.knows k apart);
    unknown = λ k is q listed. each_map me (put entry (maps me)) maps (λ es. lookup k es ≡ None) q (λ apart. holds_before.unknown k is q listed) (unknown_here k is);
  }
    where
      entry : Entry
      entry = entry_of o (md5 (object_spelling o))

      past : (e : Entry) → e ∈ put entry (maps me) → IsPast me view seq n.called e
      past e is = by (in_put e entry (maps me) is) where
        by : (e ≡ entry) ⊎ (e ∈ maps me) → IsPast me view seq n.called e
        by (inr old) = holds_before.past me e listed_me old
        by (inl same) = subst (λ (x : Entry). IsPast me view seq n.called x) (sym same) (ap (λ (v : Version). v.epoch) version, subst (λ s. s ≤ seq) (sym (ap (λ (v : Version). v.seq) version)) (omega arith), subst (λ (k : List ℕ). k ∈ n.called) (sym keyed) called)

      kept : (k : List ℕ) → same_bytes key k ≡ false → Knows me view rows h.stores k → Knows me view rows g.stores k
      kept k apart (inl unknown) = inl unknown
      kept k apart (inr (inl absent)) = inr (inl absent)
      kept k apart (inr (inr it)) = inr (inr (record {
        object = it.object;
        valid = it.valid;
        keyed = it.keyed;
        is = it.is;
        has = ap (λ es. value_at k es) has.backend ∙ (others_after o.key k (object_spelling o) h.stores.backend.entries (λ same. false≢true (sym apart ∙ subst (λ (j : List ℕ). same_bytes key j ≡ true) (sym (same ∙ keyed)) (bytes_itself key))) ∙ it.has);
      }))

      unknown_here : (k : List ℕ) → IsUnknown me view rows k → lookup k (put entry (maps me)) ≡ None
      unknown_here k is = lookup_put entry (maps me) k ∙ by (same_bytes o.key k) refl where
        by : (b : Bool) → same_bytes o.key k ≡ b → cond b (Some entry) (lookup k (maps me)) ≡ None
        by true same = absurd (known (subst (λ (j : List ℕ). IsUnknown me view rows j) (sym (bytes_same o.key k same) ∙ keyed) is))
        by false apart = holds_before.unknown k is me listed_me
