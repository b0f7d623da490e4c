-- Lists of stamps.
use Rattle.std.specs.Prelude.{Bool, List, [], ◌∷◌, ◌++◌, if◌then◌else◌}
use Rattle.std.specs.List.{list_any, list_all}
use Rattle.ens_base.specs.Epochs.{same_version}
use Rattle.ens_base.specs.declared.epoch.Version.{Version}

-- whether the stamp is in the list
abbrev pub has : List Version → Version → Bool
has stamps stamp = list_any (λ s. same_version s stamp) stamps

-- whether each stamp of one list is in the other
abbrev pub within : List Version → List Version → Bool
within some all = list_all (λ s. has all s) some

-- the list with this stamp in it
abbrev pub with_stamp : List Version → Version → List Version
with_stamp stamps stamp = if has stamps stamp then stamps else stamps ++ stamp ∷ []
