-- What an error leaves in the top record.
use Rattle.std.specs.Prelude.{◌⊎◌, ℕ, List, Option, Result, IsErrOf, OnErr}
use Rattle.environment.specs.Told.{StaysTold}
use Rattle.synctree.specs.declared.error.TreeError.{TreeError}
use Rattle.synctree.specs.declared.error.TreeError.TheVariants.{Failed}

-- after every error but a failure of the store, the top record is as it was, as far as it is known
abbrev pub KeptUnlessFailed : {A : Type 0} → Option (Option (List ℕ)) → Option (Option (List ℕ)) → Result A TreeError → Type 0
KeptUnlessFailed old new result = OnErr result (IsErrOf result Failed ⊎ StaysTold old new)
