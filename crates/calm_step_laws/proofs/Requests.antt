-- Rules 21 and 22 of a peer that follows, over a whole tree.
use Rattle.std.proofs.Common.{◌≡◌, ◌<◌, refl, ap, sym, ◌∙◌, subst, ℕ, ◌^◌, Bool, true, false, List, [], length, Option, None, is_some, Ok}
use Rattle.synctree.specs.Entries.{lookup, put}
use Rattle.ens_base.specs.declared.epoch.Epoch.{Epoch}
use Rattle.ens_base.specs.declared.entry.Entry.{Entry}
use Rattle.stored_formats.specs.declared.object.Object.{Object}
use Rattle.fields.specs.Entries.{IsEntry}
use Rattle.stored_formats.specs.Objects.{object_spelling}
use Rattle.environment.specs.Maps.{with_value}
use Rattle.object_commands.specs.Kept.{entry_of}
use Rattle.phase_rules.specs.Requests.{row_21, row_22, puts_at, acknowledges}
use Rattle.peer_refinement.specs.WorldSpec.{answered, Held}
use Rattle.md5.specs.Md5.{md5}
use Rattle.peer_refinement.specs.PeerSpec.{step_of, row_done, put_done, after_put, found_at, looked_at, entered, written, stored, resealed}
use Rattle.peer_state.specs.declared.event.Event.TheVariants as events
use Rattle.peer_state.specs.declared.state.State.{State}
use Rattle.stored_formats.specs.declared.fact.Fact.{Fact}
use Rattle.stored_formats.specs.declared.saved.SavedFact.{SavedFact}
use Rattle.phase_rows.specs.Orders.{is_below, is_same}
use Rattle.register_model.specs.declared.note.Note.{Note}
use Rattle.step_plans.specs.Calls.{Root, Save, Find, Enter, Put, Hash}
use Rattle.step_plans.specs.Plans.{Out, Rest, nothing, asked}
use Rattle.step_plans.specs.Saved.{with_seal}
use Rattle.step_plans.specs.declared.walked.Walked.TheVariants.{Reached}
use Rattle.peer_refinement.specs.Trees.{AreFree}
use Rattle.peer_refinement.specs.Whole.{IsWhole}
use Rattle.wire_frames.specs.declared.message.Message.TheVariants as messages
use Rattle.phase_rows.specs.declared.phase.Seen.{Seen}
use Rattle.phase_rows.specs.declared.phase.Seen.TheVariants as seens
use Rattle.phase_rows.specs.declared.phase.Then.TheVariants as thens
use Rattle.calm_step_laws.proofs.Bystanders.{tells, rest, following}
use Rattle.calm_step_laws.proofs.Ends.{over}
use Rattle.calm_step_laws.proofs.Keeping.{Keeping}
use Rattle.calm_step_laws.proofs.Lands.{Aim, Lands, lands_ask}
use Rattle.calm_step_laws.proofs.TreeCalls.{serves, finds, enters, keeps, spares}

module _ (q p : ℕ) (strings : List (List ℕ)) (P : Aim) (keep : Keeping) where
  -- rule 21: a peer that accepted the epoch and has no entry says so
  pub on_get : (fact : Fact) (d : Epoch) (r : ℕ) (key : List ℕ) (h : Held) (m : List Entry) → is_below d fact.ballot ≡ false → is_same fact.epoch d ≡ true → IsWhole h m → lookup key m ≡ None
      → P (rest q p strings P fact keep) (answered (Find key) h).held (tells p (messages.GetReply d r key None None)) []
      → Lands strings P (step_of q (events.Deliver p (messages.Get d r key)) (rest q p strings P fact keep)) h []
  unfolding asked
  on_get fact d r key h m not_below same whole absent holds =
      rw (not_below, same) (lands_ask strings P (Find key) (λ found. looked_at key found (rest q p strings P fact keep) nothing (λ seen y o. row_done q (row_21 y.fact y.trusted p d r key seen) y o (following q p strings P))) h [] (λ among. record {
        answer = Reached None;
        is = finds h m key whole ∙ ap (λ (e : Option Entry). Ok (Reached e)) absent;
        goes = rw (not_below, same) (subst (λ z. Lands strings P z (answered (Find key) h).held []) (sym (over q (rest q p strings P fact keep) (tells p (messages.GetReply d r key None None)) tt)) (λ within. holds));
      }))

-- the stores after an object was written: the tree is whole, and the backend has the object
pub record HasWritten (o : Object) (m : List Entry) (h g : Held) : Type 0 where
  pub whole : IsWhole g (put (entry_of o (md5 (object_spelling o))) m)
  pub backend : g.stores.backend.entries ≡ with_value o.key (object_spelling o) h.stores.backend.entries

module _ (strings : List (List ℕ)) (P : Aim) (free : AreFree strings) where
  -- the bytes of an object go into the backend, after its entry went into the tree
  bytes_land : (o : Object) (x : State) (out : Out) (next : Rest State Seen) (h f : Held) (m : List Entry) (ns : List Note) → f.stores.backend.entries ≡ h.stores.backend.entries → IsWhole f (put (entry_of o (md5 (object_spelling o))) m)
      → ((g : Held) → HasWritten o m h g → Lands strings P (next (seens.Stored (md5 (object_spelling o))) x out) g ns) → Lands strings P (stored o (object_spelling o) (md5 (object_spelling o)) x out next) f ns
  unfolding asked
  bytes_land o x out next h f m ns same whole go =
      let bytes : List ℕ = object_spelling o in
      lands_ask strings P (Put o.key bytes) (λ v. next (seens.Stored (md5 bytes)) x out) f ns (λ among. record {
        answer = tt;
        is = ap (λ a. a.result) (serves (Put o.key bytes) f whole.no_faults);
        goes = go (answered (Put o.key bytes) f).held (record {
          whole = keeps (Put o.key bytes) f (put (entry_of o (md5 bytes)) m) tt whole;
          backend = ap (λ a. a.held.stores.backend.entries) (serves (Put o.key bytes) f whole.no_faults) ∙ ap (λ entries. with_value o.key bytes entries) same;
        });
      })

  -- a peer with a seal saves its fact before, with the root of the tree as its seal
  seals_land : (o : Object) (x : State) (out : Out) (next : Rest State Seen) (h f : Held) (m : List Entry) (ns : List Note) → f.stores.backend.entries ≡ h.stores.backend.entries → IsWhole f (put (entry_of o (md5 (object_spelling o))) m)
      → ((seal : Option (List ℕ)) (g : Held) → HasWritten o m h g → Lands strings P (next (seens.Stored (md5 (object_spelling o))) (record x { seal = seal }) out) g ns)
      → (seals : Bool) → Lands strings P (resealed seals x out (λ v y p. stored o (object_spelling o) (md5 (object_spelling o)) y p next)) f ns
  unfolding asked
  seals_land o x out next h f m ns same whole go false = bytes_land o x out next h f m ns same whole (go x.seal)
  seals_land o x out next h f m ns same whole go true =
      let root : Option (List ℕ) = f.stores.tree.top in
      let saved : SavedFact = with_seal root x.fact in
      let bytes : List ℕ = object_spelling o in
      lands_ask strings P Root (λ seal. asked (Save (with_seal seal x.fact)) x out (λ u z p. stored o bytes (md5 bytes) (record z { fact = x.fact; seal = seal }) p next)) f ns (λ among1. record {
        answer = root;
        is = refl;
        goes = lands_ask strings P (Save saved) (λ u. stored o bytes (md5 bytes) (record x { seal = root }) out next) f ns (λ among2. record {
          answer = tt;
          is = ap (λ a. a.result) (serves (Save saved) f whole.no_faults);
          goes = bytes_land o (record x { seal = root }) out next h (answered (Save saved) f).held m ns (ap (λ a. a.held.stores.backend.entries) (serves (Save saved) f whole.no_faults) ∙ same)
              (keeps (Save saved) f (put (entry_of o (md5 bytes)) m) tt whole) (go root);
        });
      })

  -- an object is written; a peer with a seal has another one then
  pub written_lands : (o : Object) (x : State) (out : Out) (next : Rest State Seen) (h : Held) (m : List Entry) (ns : List Note) → IsWhole h m → IsEntry (entry_of o (md5 (object_spelling o))) → length (put (entry_of o (md5 (object_spelling o))) m) < 2 ^ 32
      → ((seal : Option (List ℕ)) (g : Held) → HasWritten o m h g → Lands strings P (next (seens.Stored (md5 (object_spelling o))) (record x { seal = seal }) out) g ns) → Lands strings P (written o x out next) h ns
  unfolding asked
  written_lands o x out next h m ns whole is_entry few go =
      let bytes : List ℕ = object_spelling o in
      let e : Entry = entry_of o (md5 bytes) in
      let h1 : Held = (answered (Hash bytes) h).held in
      let h2 : Held = (answered (Enter e) h1).held in
      let whole1 : IsWhole h1 m = keeps (Hash bytes) h m tt whole in
      lands_ask strings P (Hash bytes) (λ digest. asked (Enter (entry_of o digest)) x out (λ end z p. entered o bytes digest end z p next)) h ns (λ among1. record {
        answer = md5 bytes;
        is = refl;
        goes = lands_ask strings P (Enter e) (λ end. entered o bytes (md5 bytes) end x out next) h1 ns (λ among2.
            let en = enters strings h1 m e free among2 is_entry few whole1 in
            record {
              answer = Reached tt;
              is = en.0;
              goes = seals_land o x out next h h2 m ns (ap (λ b. b.entries) (spares (Enter e) h1).0) en.1 go (is_some x.seal);
            });
      })

module _ (q p : ℕ) (strings : List (List ℕ)) (P : Aim) (free : AreFree strings) (keep : Keeping) where
  -- rule 22: a peer that accepted the epoch, and has no later version, writes the object
  pub on_put : (fact : Fact) (d : Epoch) (o : Object) (h : Held) (m : List Entry) → is_below d fact.ballot ≡ false → is_same fact.epoch d ≡ true → IsWhole h m → IsEntry (entry_of o (md5 (object_spelling o))) → length (put (entry_of o (md5 (object_spelling o))) m) < 2 ^ 32
      → puts_at p d o (lookup o.key m) ≡ acknowledges p d o thens.Put
      → ((seal : Option (List ℕ)) (f g : Held) → HasWritten o m f g → P (rest q p strings P fact (record keep { seal = seal })) g (tells p (messages.PutReply d o.key o.version)) [])
      → Lands strings P (step_of q (events.Deliver p (messages.Put d o)) (rest q p strings P fact keep)) h []
  unfolding asked
  on_put fact d o h m not_below same whole is_entry few takes holds =
      let x : State = rest q p strings P fact keep in
      let f : Held = (answered (Find o.key) h).held in
      let row = acknowledges p d o thens.Put in
      rw (not_below, same) (lands_ask strings P (Find o.key) (λ end. put_done (row_22 fact true p d o (found_at end)).then q p d o (row_22 fact true p d o (found_at end)) x nothing (following q p strings P)) h [] (λ among. record {
        answer = Reached (lookup o.key m);
        is = finds h m o.key whole;
        goes = rw (not_below, same, takes) (written_lands strings P free o x nothing (λ seen y k. row_done q (after_put p d row seen) y k (following q p strings P)) f m []
            (keeps (Find o.key) h m tt whole) is_entry few
            (λ seal g has. subst (λ z. Lands strings P z g []) (sym (over q (record x { seal = seal }) (tells p (messages.PutReply d o.key o.version)) tt)) (λ within. holds seal f g has)));
      }))
