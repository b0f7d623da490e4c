-- The best of the replies of a round: the greatest entry by version, digest and key, and its
-- object.
use Rattle.std.specs.Prelude.{◌≡◌, Option, Some, None, List, [], ◌∷◌}
use Rattle.std.specs.Ordering.{on, then_cmp}
use Rattle.std.specs.declared.cmp.Ordering.{Ordering}
use Rattle.std.specs.declared.cmp.Ordering.TheVariants.{Less, Equal, Greater}
use Rattle.ens_base.specs.Epochs.{version_cmp}
use Rattle.ens_base.specs.Lists.{bytes_cmp, ◌∈◌}
use Rattle.ens_base.specs.declared.entry.Entry.{Entry}
use Rattle.stored_formats.specs.declared.object.Object.{Object}
use Rattle.call_table.specs.declared.row.Found.{Found}

-- by version, then by digest, then by key
abbrev pub entry_cmp : Entry → Entry → Ordering
entry_cmp = then_cmp (on (λ e. e.version) version_cmp) (then_cmp (on (λ e. e.digest) bytes_cmp) (on (λ e. e.key) bytes_cmp))

-- the first object, or the second if there is no first
abbrev pub either_object : Option Object → Option Object → Option Object
either_object (Some o) p = Some o
either_object None p = p

-- the better of what was found and a reply with an entry; of equal entries, with an object of
-- either
abbrev pub better_at : Ordering → Found → Entry → Option Object → Found
better_at Less best entry object = record { entry = entry; object = object }
better_at Equal best entry object = record best { object = either_object best.object object }
better_at Greater best entry object = best

-- the best after one more reply
abbrev pub better : Option Found → Option Entry → Option Object → Option Found
better best None object = best
better None (Some entry) object = Some (record { entry = entry; object = object })
better (Some best) (Some entry) object = Some (better_at (entry_cmp best.entry entry) best entry object)

-- the best of the replies, the newest first
abbrev pub best_of : List (Option Entry × Option Object) → Option Found
best_of [] = None
best_of (r ∷ replies) = better (best_of replies) r.0 r.1

-- f has the greatest entry of the replies, and an object exactly if a reply with this entry has one
pub record IsGreatest (replies : List (Option Entry × Option Object)) (f : Found) : Type 0 where
  pub entry : (object : Option Object) × ((Some f.entry, object) ∈ replies)
  pub greatest : (e : Entry) (object : Option Object) → (Some e, object) ∈ replies → ¬ (entry_cmp f.entry e ≡ Less)
  pub object : (o : Object) → f.object ≡ Some o → (Some f.entry, Some o) ∈ replies
  pub no_object : f.object ≡ None → (o : Object) → ¬ ((Some f.entry, Some o) ∈ replies)

abbrev pub IsBest : List (Option Entry × Option Object) → Option Found → Type 0
IsBest replies None = (e : Entry) (object : Option Object) → ¬ ((Some e, object) ∈ replies)
IsBest replies (Some f) = IsGreatest replies f
