-- Further steps of a peer that follows: messages that come again or late, and requests about a key
-- that its tree has.
use Rattle.std.proofs.Common.{◌≡◌, ◌⊎◌, ◌≤◌, inl, inr, refl, ap, sym, ◌∙◌, subst, arith, ℕ, Bool, true, false, List, [], Option, None, Some, Ok}
use Rattle.std.proofs.lemmas.Bool.Decides.{nat_tests}
use Rattle.ens_base.specs.Epochs.{same_version}
use Rattle.ens_base.specs.declared.entry.Entry.{Entry}
use Rattle.ens_base.specs.declared.epoch.Epoch.{Epoch}
use Rattle.stored_formats.specs.declared.object.Object.{Object}
use Rattle.environment.specs.Maps.{value_at}
use Rattle.phase_rules.specs.Requests.{row_21, row_22, puts_at, acknowledges, is_version_below}
use Rattle.peer_refinement.specs.WorldSpec.{answered, Held}
use Rattle.object_commands.specs.Kept.{object_in, matching}
use Rattle.md5.specs.Md5.{md5}
use Rattle.peer_refinement.specs.PeerSpec.{step_of, row_done, put_done, found_at, looked_at, digested, read}
use Rattle.peer_state.specs.declared.event.Event.TheVariants as events
use Rattle.peer_state.specs.declared.state.State.{State}
use Rattle.stored_formats.specs.declared.fact.Fact.{Fact}
use Rattle.phase_rows.specs.Orders.{is_below, is_same}
use Rattle.phase_rows.specs.declared.phase.Seen.{Seen}
use Rattle.phase_rows.specs.declared.phase.Seen.TheVariants as seens
use Rattle.phase_rows.specs.declared.phase.Then.TheVariants as thens
use Rattle.step_plans.specs.Calls.{Find, Fetch, Hash}
use Rattle.step_plans.specs.Plans.{Plan, Out, nothing, asked}
use Rattle.step_plans.specs.declared.walked.Walked.TheVariants.{Reached}
use Rattle.synctree.specs.Entries.{lookup}
use Rattle.peer_refinement.specs.Whole.{IsWhole}
use Rattle.wire_frames.specs.declared.message.Message.TheVariants as messages
use Rattle.calm_step_laws.proofs.Bystanders.{tells, rest, following, lands_done}
use Rattle.calm_step_laws.proofs.Ends.{over}
use Rattle.calm_step_laws.proofs.Keeping.{Keeping}
use Rattle.calm_step_laws.proofs.Lands.{Aim, Lands, lands_ask}
use Rattle.calm_step_laws.proofs.TreeCalls.{finds, keeps, serves}

module _ (q p : ℕ) (strings : List (List ℕ)) (P : Aim) (keep : Keeping) where
  abbrev x : Fact → State
  x fact = rest q p strings P fact keep

  -- rule 11: the promised ballot again is not answered
  pub on_prepare_again : (fact : Fact) (d : Epoch) (h : Held) → is_below fact.ballot d ≡ false → is_same d fact.ballot ≡ true → P (x fact) h nothing [] → Lands strings P (step_of q (events.Deliver p (messages.Prepare d)) (x fact)) h []
  on_prepare_again fact d h not_below same holds = rw (not_below, same) (lands_done q p strings P (x fact) h nothing _ (over q (x fact) nothing tt) holds)

  -- rule 16: the accepted epoch is acknowledged again
  pub on_epoch_again : (fact new : Fact) (h : Held) → is_below new.epoch fact.ballot ≡ false → is_same new.epoch fact.epoch ≡ true → P (x fact) h (tells p (messages.Accepted new.epoch 1)) []
      → Lands strings P (step_of q (events.Deliver p (messages.NewEpoch new)) (x fact)) h []
  on_epoch_again fact new h not_below same holds = rw (not_below, same) (lands_done q p strings P (x fact) h (tells p (messages.Accepted new.epoch 1)) _ (over q (x fact) (tells p (messages.Accepted new.epoch 1)) tt) holds)

  -- rule 22: an object of the version in the tree is acknowledged, and not written again
  pub on_put_again : (fact : Fact) (d : Epoch) (o : Object) (h : Held) (m : List Entry) → is_below d fact.ballot ≡ false → is_same fact.epoch d ≡ true → IsWhole h m → puts_at p d o (lookup o.key m) ≡ acknowledges p d o thens.Stay
      → ((g : Held) → IsWhole g m → P (x fact) g (tells p (messages.PutReply d o.key o.version)) []) → Lands strings P (step_of q (events.Deliver p (messages.Put d o)) (x fact)) h []
  unfolding asked
  on_put_again fact d o h m not_below same whole stays holds =
      let f : Held = (answered (Find o.key) h).held in
      rw (not_below, same) (lands_ask strings P (Find o.key) (λ end. put_done (row_22 fact true p d o (found_at end)).then q p d o (row_22 fact true p d o (found_at end)) (x fact) nothing (following q p strings P)) h [] (λ among. record {
        answer = Reached (lookup o.key m);
        is = finds h m o.key whole;
        goes = rw (not_below, same, stays) (subst (λ z. Lands strings P z f []) (sym (over q (x fact) (tells p (messages.PutReply d o.key o.version)) tt)) (λ within. holds f (keeps (Find o.key) h m tt whole)));
      }))

  -- rule 21: what the tree has is returned, with an object or without one
  module _ (fact : Fact) (d : Epoch) (r : ℕ) (key : List ℕ) (e : Entry) (m : List Entry) (not_below : is_below d fact.ballot ≡ false) (same : is_same fact.epoch d ≡ true)
      (holds : (object : Option Object) (g : Held) → IsWhole g m → P (x fact) g (tells p (messages.GetReply d r key (Some e) object)) []) where
    abbrev replies : Seen → State → Out → Plan State
    replies seen y o = row_done q (row_21 y.fact y.trusted p d r key seen) y o (following q p strings P)

    replied : (object : Option Object) (g : Held) → IsWhole g m → Lands strings P (replies (seens.Held (Some e) object) (x fact) nothing) g []
    replied object g whole = rw (not_below, same) (subst (λ z. Lands strings P z g []) (sym (over q (x fact) (tells p (messages.GetReply d r key (Some e) object)) tt)) (λ within. holds object g whole))

    hashed : (found : Option Object) (bytes : List ℕ) (g : Held) → IsWhole g m → Lands strings P (digested found bytes (x fact) nothing (λ kept y o. replies (seens.Held (Some e) (matching e kept)) y o)) g []
    unfolding asked
    hashed None bytes g whole = replied None g whole
    hashed (Some o) bytes g whole = lands_ask strings P (Hash bytes) (λ digest. replies (seens.Held (Some e) (matching e (Some (o, digest)))) (x fact) nothing) g [] (λ among. record {
      answer = md5 bytes;
      is = refl;
      goes = replied (matching e (Some (o, md5 bytes))) (answered (Hash bytes) g).held (keeps (Hash bytes) g m tt whole);
    })

    read_lands : (bytes : Option (List ℕ)) (g : Held) → IsWhole g m → Lands strings P (read bytes (x fact) nothing (λ kept y o. replies (seens.Held (Some e) (matching e kept)) y o)) g []
    read_lands None g whole = replied None g whole
    read_lands (Some bytes) g whole = hashed (object_in bytes) bytes g whole

    pub on_get_found : (h : Held) → IsWhole h m → lookup key m ≡ Some e → Lands strings P (step_of q (events.Deliver p (messages.Get d r key)) (x fact)) h []
    unfolding asked
    on_get_found h whole has =
        let f : Held = (answered (Find key) h).held in
        let whole_f : IsWhole f m = keeps (Find key) h m tt whole in
        rw (not_below, same) (lands_ask strings P (Find key) (λ found. looked_at key found (x fact) nothing replies) h [] (λ among. record {
          answer = Reached (Some e);
          is = finds h m key whole ∙ ap (λ (o : Option Entry). Ok (Reached o)) has;
          goes = lands_ask strings P (Fetch key) (λ bytes. read bytes (x fact) nothing (λ kept y o. replies (seens.Held (Some e) (matching e kept)) y o)) f [] (λ within. record {
            answer = value_at key f.stores.backend.entries;
            is = ap (λ a. a.result) (serves (Fetch key) f whole_f.no_faults);
            goes = read_lands (value_at key f.stores.backend.entries) (answered (Fetch key) f).held (keeps (Fetch key) f m tt whole_f);
          });
        }))

-- a put over an entry of the same epoch whose number is not greater: the object is written, or acknowledged at once
pub put_over : (p : ℕ) (d : Epoch) (o : Object) (e : Entry) → e.version.epoch ≡ o.version.epoch → e.version.seq ≤ o.version.seq
    → (puts_at p d o (Some e) ≡ acknowledges p d o thens.Put) ⊎ (puts_at p d o (Some e) ≡ acknowledges p d o thens.Stay)
put_over p d o e epoch seq = by (same_version e.version o.version) refl where
  by : (b : Bool) → same_version e.version o.version ≡ b → (puts_at p d o (Some e) ≡ acknowledges p d o thens.Put) ⊎ (puts_at p d o (Some e) ≡ acknowledges p d o thens.Stay)
  by true same = inr (rw same refl)
  by false other = inl (rw (other, not_above) refl) where
    not_above : is_version_below o.version e.version ≡ false
    not_above = grind (arith, nat_tests)
