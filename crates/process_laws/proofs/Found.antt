-- A peer that is down and has a seal is as well off over any nodes, top records and objects.
use Rattle.std.proofs.Common.{◌≡◌, ℕ, true, List, sym, ap, ◌∙◌, subst}
use Rattle.protocol_laws.specs.Protocol.{State}
use Rattle.step_plans.specs.Saved.{bare, kept_seal}
use Rattle.step_refinement.proofs.ShownMaps.{last_under, last_sealed}
use Rattle.step_refinement.specs.Peers.{DownHolds, SealFits}
use Rattle.role_laws.specs.Facts.{Lines}
use Rattle.peer_refinement.specs.WorldSpec.{HeldStores}
use Rattle.peer_refinement.specs.Tops.{tops_of}

-- only the saved fact matters where every peer has a seal
pub found_holds : (lines : Lines) (s : State) (strings hashed : List (List ℕ)) (q : ℕ) (old new : HeldStores) → lines.sealed ≡ true → new.facts.kept ≡ old.facts.kept → DownHolds lines s strings hashed q old → DownHolds lines s strings hashed q new
found_holds lines s strings hashed q old new sealed same down = record {
  fact = down.fact;
  kept = ap bare same ∙ down.kept;
  saved = down.saved;
  listed = down.listed;
  seal = subst (SealFits lines) (sym (ap kept_seal same)) down.seal;
  blind = down.blind;
  last = last_under strings q s hashed (kept_seal old.facts.kept) (kept_seal new.facts.kept) (tops_of new) (ap kept_seal same) (last_sealed strings q s hashed hashed (kept_seal old.facts.kept) (tops_of old) (tops_of new) (down.seal sealed) (λ x i. i) down.last);
}
