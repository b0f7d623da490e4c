-- What a leader finds in its own backend: the settled object (rule 28).
use Rattle.std.proofs.Common.{◌≡◌, refl, ap, sym, subst, ℕ, List, Option, Some, Ok}
use Rattle.stored_formats.proofs.ObjectLaws.{object_again}
use Rattle.stored_formats.specs.Objects.{IsObject, object_spelling}
use Rattle.stored_formats.specs.declared.object.Object.{Object}
use Rattle.environment.specs.Maps.{value_at}
use Rattle.peer_refinement.specs.WorldSpec.{answered, Held}
use Rattle.object_commands.specs.Kept.{object_in}
use Rattle.md5.specs.Md5.{md5}
use Rattle.peer_refinement.specs.PeerSpec.{fetched, read, digested}
use Rattle.peer_state.specs.declared.state.State.{State}
use Rattle.register_model.specs.declared.note.Note.{Note}
use Rattle.step_plans.specs.Calls.{Fetch, Hash}
use Rattle.step_plans.specs.Plans.{Out, Rest, asked}
use Rattle.phase_rows.specs.declared.phase.Seen.{Seen}
use Rattle.phase_rows.specs.declared.phase.Seen.TheVariants as seens
use Rattle.calm_step_laws.proofs.Lands.{Aim, Lands, lands_ask}

-- the spelling of an object is read as that object
pub read_again : (o : Object) → IsObject o → object_in (object_spelling o) ≡ Some o
read_again o valid = rw (object_again (object_spelling o) o valid refl) refl

module _ (strings : List (List ℕ)) (P : Aim) where
  -- the own backend is asked, and has the object
  pub fetched_lands : (o : Object) (key : List ℕ) (x : State) (out : Out) (next : Rest State Seen) (h : Held) (ns : List Note) → IsObject o → value_at key h.stores.backend.entries ≡ Some (object_spelling o)
      → Lands strings P (next (seens.Kept (Some (o, md5 (object_spelling o)))) x out) (answered (Hash (object_spelling o)) h).held ns → Lands strings P (fetched key x out next) h ns
  unfolding asked
  fetched_lands o key x out next h ns valid has lands =
      lands_ask strings P (Fetch key) (λ bytes. read bytes x out (λ k y p. next (seens.Kept k) y p)) h ns (λ among. record {
        answer = Some (object_spelling o);
        is = ap (λ (v : Option (List ℕ)). Ok v) has;
        goes = subst (λ (k : Option Object). Lands strings P (digested k (object_spelling o) x out (λ j y p. next (seens.Kept j) y p)) h ns) (sym (read_again o valid))
            (lands_ask strings P (Hash (object_spelling o)) (λ digest. next (seens.Kept (Some (o, digest))) x out) h ns (λ within. record { answer = md5 (object_spelling o); is = refl; goes = lands }));
      })
