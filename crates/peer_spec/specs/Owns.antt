-- What a rule asks of the peer's own tree and backend.
use Rattle.std.specs.Option.{is_some}
use Rattle.std.specs.Prelude.{ℕ, Bool, true, false, List, Option, Some, None}
use Rattle.ens_base.specs.declared.entry.Entry.{Entry}
use Rattle.stored_formats.specs.Objects.{object_spelling}
use Rattle.stored_formats.specs.declared.object.Object.{Object}
use Rattle.object_commands.specs.Kept.{entry_of, matching, object_in}
use Rattle.step_plans.specs.Calls.{Find, Enter, Fetch, Put, Hash}
use Rattle.step_plans.specs.Plans.{Part, asked}
use Rattle.step_plans.specs.declared.walked.Walked.{Walked}
use Rattle.step_plans.specs.declared.walked.Walked.TheVariants.{Reached, Broken}
use Rattle.phase_rows.specs.declared.phase.Seen.{Seen}
use Rattle.phase_rows.specs.declared.phase.Seen.TheVariants as seens
use Rattle.peer_spec.specs.Syncs.{sealed}
use Rattle.peer_state.specs.declared.state.State.{State}

-- the object in these bytes, if they are one, with their digest
abbrev pub digested : Option Object → List ℕ → Part State (Option (Object × List ℕ))
digested None bytes x out next = next None x out
digested (Some o) bytes x out next = asked (Hash bytes) x out (λ digest y p. next (Some (o, digest)) y p)

-- the object in what the backend returned
abbrev pub read : Option (List ℕ) → Part State (Option (Object × List ℕ))
read None x out next = next None x out
read (Some bytes) x out next = digested (object_in bytes) bytes x out next

-- the object that the backend keeps under a key, with the digest of its bytes
abbrev pub kept : List ℕ → Part State (Option (Object × List ℕ))
kept key x out next = asked (Fetch key) x out (λ bytes y p. read bytes y p next)

-- rule 28: the backend's object, whatever the tree has
abbrev pub fetched : List ℕ → Part State Seen
fetched key x out next = kept key x out (λ o y p. next (seens.Kept o) y p)

-- an entry, with the backend's object if the entry names it
abbrev pub held : List ℕ → Option Entry → Part State Seen
held key None x out next = next (seens.Held None None) x out
held key (Some entry) x out next = kept key x out (λ o y p. next (seens.Held (Some entry) (matching entry o)) y p)

abbrev pub looked_at : List ℕ → Walked (Option Entry) → Part State Seen
looked_at key (Broken at) x out next = next (seens.Damaged at) x out
looked_at key (Reached entry) x out next = held key entry x out next

-- rules 21 and 29: the entry and the object of a key, or the damage on its path
abbrev pub looked : List ℕ → Part State Seen
looked key x out next = asked (Find key) x out (λ found y p. looked_at key found y p next)

abbrev pub found_at : Walked (Option Entry) → Seen
found_at (Broken at) = seens.Damaged at
found_at (Reached entry) = seens.Held entry None

-- rule 22: the entry of a key, or the damage on its path
abbrev pub found : List ℕ → Part State Seen
found key x out next = asked (Find key) x out (λ end y p. next (found_at end) y p)

-- the object's bytes are put in the backend
abbrev pub stored : Object → List ℕ → List ℕ → Part State Seen
stored o bytes digest x out next = asked (Put o.key bytes) x out (λ u y p. next (seens.Stored digest) y p)

-- a peer with a seal saves its fact again, with the new root as its seal
abbrev pub resealed : Bool → Part State (Unit {0})
resealed true x out next = sealed x.fact x out next
resealed false x out next = next tt x out

-- the object's entry is in the tree, and its bytes follow, unless the path of its key was damaged
abbrev pub entered : Object → List ℕ → List ℕ → Walked (Unit {0}) → Part State Seen
entered o bytes digest (Broken at) x out next = next (seens.Damaged at) x out
entered o bytes digest (Reached u) x out next = resealed (is_some x.seal) x out (λ v y p. stored o bytes digest y p next)

-- an object of these bytes is written: its entry in the tree, then the fact in a peer with a seal, and then
-- the bytes in the backend
abbrev pub written_as : Object → List ℕ → Part State Seen
written_as o bytes x out next = asked (Hash bytes) x out (λ digest y p. asked (Enter (entry_of o digest)) y p (λ end z q. entered o bytes digest end z q next))

-- rules 22 and 35: an object is written
abbrev pub written : Object → Part State Seen
written o x out next = written_as o (object_spelling o) x out next

-- an object of these bytes, if the entry names it
abbrev pub confirmed_as : Entry → Object → List ℕ → Part State (Option Object)
confirmed_as entry o bytes x out next = asked (Hash bytes) x out (λ digest y p. next (matching entry (Some (o, digest))) y p)

-- rule 29: the object of a reply, if the entry of the reply names it
abbrev pub confirmed : Option Entry → Option Object → Part State (Option Object)
confirmed None object x out next = next None x out
confirmed (Some entry) None x out next = next None x out
confirmed (Some entry) (Some o) x out next = confirmed_as entry o (object_spelling o) x out next
