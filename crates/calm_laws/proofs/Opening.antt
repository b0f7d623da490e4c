-- The world before the first event: each peer of the view has started over empty stores, and is quiet.
use Rattle.std.proofs.Common.{◌≡◌, ◌≤◌, ◌<◌, refl, sym, ap, ◌∙◌, subst, arith, ℕ, zero, suc, List, [], Some}
use Rattle.std.specs.Prelude.{slice_get, replicate}
use Rattle.std.proofs.lemmas.Option.{none-some}
use Rattle.ens_base.proofs.Lists.{in_right}
use Rattle.ens_base.specs.Lists.{◌∈◌}
use Rattle.ens_base.specs.View.{IsPeer}
use Rattle.calm_step_laws.specs.WorldSpec.{empty_stores}
use Rattle.stored_formats.specs.Facts.{opening_fact}
use Rattle.schedule_text.specs.declared.form.Form.{Form}
use Rattle.calm_step_laws.specs.PeerRefinement.{AreAmong, HasNoFaults}
use Rattle.world_refinement.specs.WorldSpec.{Node, opening_node, opening_strings, tree_first, opening_mode, place_of, repeated, opening_run}
use Rattle.world_refinement.proofs.OpeningWorld.{first, fresh, seal, saved, node_is, strings_are}
use Rattle.calm_step_laws.proofs.Keeping.{Keeping}
use Rattle.calm_step_laws.proofs.TreeCalls.{makes}
use Rattle.calm_laws.proofs.Elections.{Quiet, Elects, rests}
use Rattle.calm_laws.proofs.Standing.{Stands, whole_saved}
use Rattle.calm_laws.proofs.Worlds.{whole_grows}

get_replicated : {A : Type 0} (n k : ℕ) (x : A) → k < n → slice_get (replicate n x) k ≡ Some x
get_replicated zero k x within = absurd (omega (arith, within))
get_replicated (suc n) zero x within = refl
get_replicated (suc n) (suc k) x within = get_replicated n k x (omega (arith, within))

started_among : (n : ℕ) (strings : List (List ℕ)) → 0 < n → AreAmong strings (repeated n strings)
started_among zero strings some s there = absurd (omega (arith, some))
started_among (suc n) strings some s there = in_right (repeated n strings) strings s there

module _ (form : Form) (view : List ℕ) where
  -- what each peer keeps after its start
  abbrev keep : Keeping
  keep = record { seal = seal form view; mode = opening_mode form }

  no_faults : HasNoFaults empty_stores
  no_faults = record { facts = refl; backend = refl; tree = refl }

  stands_first : (peers q : ℕ) → IsPeer q → q ≤ peers → Stands (opening_run form peers view) q (rests (opening_fact view)) []
  stands_first peers q peer within = record {
    keep = keep;
    stores = (saved form view).stores;
    at = get_replicated peers (place_of q) (opening_node (opening_mode form) view) (omega (arith, peer.0, within)) ∙ ap (λ (n : Node). Some n) (sym (node_is form view));
    whole = whole_grows (saved form view).stores (fresh form view).hashed (repeated peers (opening_strings (opening_mode form) view)) []
        (subst (λ (s : List (List ℕ)). AreAmong s (repeated peers (opening_strings (opening_mode form) view))) (strings_are form view) (started_among peers (opening_strings (opening_mode form) view) (omega (arith, peer.0, within))))
        (whole_saved (seal form view) (opening_fact view) (fresh form view) [] (makes (tree_first form) (first form view) no_faults).1);
  }

  -- the election has not begun
  pub opening_elects : (me peers : ℕ) → me ∈ view → ((q : ℕ) → q ∈ view → IsPeer q × (q ≤ peers)) → Elects me view (Quiet 0) (opening_run form peers view)
  opening_elects me peers listed all = record {
    printed = refl;
    leader = stands_first peers me (all me listed).0 (all me listed).1;
    under = tt;
    crowd = record {
      mail = refl;
      others = λ q is. record { fact = opening_fact view; stands = stands_first peers q (all q is.0).0 (all q is.0).1; may = refl; heard = tt };
      kinds = λ f w. absurd (none-some f w.sent);
    };
  }
