-- How a put and the end of a sync come out, whichever of their writes is refused, with or without
-- effect, and which steps of the protocol these are.
use Rattle.std.specs.Prelude.{ℕ, Bool, true, false, List, [], ◌∷◌, ◌++◌, Option, None, Some}
use Rattle.protocol_laws.specs.Objects.{Map}
use Rattle.protocol_laws.specs.Protocol.{Step, Write, Install, EndSync, Lose}
use Rattle.role_laws.specs.Kept.{Kept}

-- how a write of a store goes: it is done, or refused and leaves what was there, or refused although
-- it took effect
pub data Goes : Type 0 where
  Done : Goes
  LeavesOld : Goes
  LeavesNew : Goes

-- what the stores keep afterwards, the root of the tree if the peer runs on, and the steps
pub record Ended : Type 0 where
  pub kept : Kept
  pub runs : Bool
  pub root : Option (List ℕ)
  pub steps : List Step

-- the peer is down
abbrev pub stops : ℕ → Kept → List Step → Ended
stops q c steps = record { kept = c; runs = false; root = None; steps = steps ++ Lose q ∷ [] }

-- it runs on, with this root of its tree
abbrev pub goes_on : Kept → Option (List ℕ) → List Step → Ended
goes_on c root steps = record { kept = c; runs = true; root = root; steps = steps }

abbrev pub with_top : List ℕ → Kept → Kept
with_top digest c = record c { tops = digest ∷ c.tops }

abbrev pub with_seal : Option (List ℕ) → Kept → Kept
with_seal seal c = record c { seal = seal }

-- ## A put of version v: its new top record is `digest`

-- the fact is saved with the new seal, and this save is the write of the protocol
abbrev pub seal_put : Goes → ℕ → ℕ → List ℕ → Kept → Ended
seal_put LeavesOld q v digest c = stops q c []
seal_put LeavesNew q v digest c = stops q (with_seal (Some digest) c) (Write q v ∷ [])
seal_put Done q v digest c = goes_on (with_seal (Some digest) c) (Some digest) (Write q v ∷ [])

-- in a peer with a seal: the top record is written, and then the fact is saved with it as seal
abbrev pub put_sealed : Goes → Goes → ℕ → ℕ → List ℕ → Kept → Ended
put_sealed LeavesOld fact q v digest c = stops q c []
put_sealed LeavesNew fact q v digest c = stops q (with_top digest c) []
put_sealed Done fact q v digest c = seal_put fact q v digest (with_top digest c)

-- in a peer without a seal: the write of the top record is that of the protocol
abbrev pub put_unsealed : Goes → ℕ → ℕ → List ℕ → Kept → Ended
put_unsealed LeavesOld q v digest c = stops q c []
put_unsealed LeavesNew q v digest c = stops q (with_top digest c) (Write q v ∷ [])
put_unsealed Done q v digest c = goes_on (with_top digest c) (Some digest) (Write q v ∷ [])

-- ## The end of a sync on epoch d, with the merged map

-- the seal that the end of a sync saves: the digest of the tree, if the start of the peer had sealing
-- on, or the fact had a seal
abbrev pub seal_after : Bool → Option (List ℕ) → List ℕ → Option (List ℕ)
seal_after sealing (Some seal) digest = Some digest
seal_after true None digest = Some digest
seal_after false None digest = None

-- The fact of the sync is saved. `first` are the steps that were taken before, `later` those that the
-- save takes, and `seal` is what it saves.
abbrev pub save_end : Goes → ℕ → Option (List ℕ) → List ℕ → List Step → List Step → Kept → Ended
save_end LeavesOld q seal digest first later c = stops q c first
save_end LeavesNew q seal digest first later c = stops q (with_seal seal c) (first ++ later)
save_end Done q seal digest first later c = goes_on (with_seal seal c) (Some digest) (first ++ later)

abbrev pub install_then_end : ℕ → ℕ → Map → List Step
install_then_end q d merged = Install q d merged ∷ EndSync q d ∷ []

-- In a peer with a seal the tree may be built: then its top record is `digest`. The save of the fact
-- takes both steps.
abbrev pub end_sealed : Goes → Goes → ℕ → ℕ → Map → List ℕ → Kept → Ended
end_sealed LeavesOld fact q d merged digest c = stops q c []
end_sealed LeavesNew fact q d merged digest c = stops q (with_top digest c) []
end_sealed Done fact q d merged digest c = save_end fact q (Some digest) digest [] (install_then_end q d merged) (with_top digest c)

-- In a peer without one the write of the top record installs the map, and the save ends the sync.
abbrev pub end_unsealed : Bool → Goes → Goes → ℕ → ℕ → Map → List ℕ → Kept → Ended
end_unsealed sealing LeavesOld fact q d merged digest c = stops q c []
end_unsealed sealing LeavesNew fact q d merged digest c = stops q (with_top digest c) (Install q d merged ∷ [])
end_unsealed sealing Done fact q d merged digest c = save_end fact q (seal_after sealing None digest) digest (Install q d merged ∷ []) (EndSync q d ∷ []) (with_top digest c)

-- the tree has the merged map already, under this top record, and is not built
abbrev pub end_unbuilt : Bool → Goes → ℕ → ℕ → Map → List ℕ → Kept → Ended
end_unbuilt sealing fact q d merged digest c = save_end fact q (seal_after sealing c.seal digest) digest [] (install_then_end q d merged) c
