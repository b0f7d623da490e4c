-- The forms of an ensemble: their first lines, and what they say of every start.
use Rattle.std.specs.Prelude.{ℕ, Bool, true, false, List, [], ◌∷◌, codes, find, Option}
use Rattle.ens_base.specs.Lists.{same_bytes}
use Rattle.schedule_text.specs.declared.form.Form.{Form}
use Rattle.schedule_text.specs.declared.form.Form.TheVariants.{One, Two, Three}

-- the first line of a schedule of each form
abbrev pub ensemble_line : Form → List ℕ
ensemble_line One = codes "ensemble 1"
ensemble_line Two = codes "ensemble 2"
ensemble_line Three = codes "ensemble 3"

-- every form
abbrev pub forms : List Form
forms = One ∷ Two ∷ Three ∷ []

-- the form whose first line this is, if it is one
abbrev pub form_named : List ℕ → Option Form
form_named line = find (λ form. same_bytes (ensemble_line form) line) forms

-- whether every start has sealing on
abbrev pub is_sealed : Form → Bool
is_sealed One = false
is_sealed Two = true
is_sealed Three = true

-- whether every start has a tree of version 2
abbrev pub is_deep : Form → Bool
is_deep One = false
is_deep Two = false
is_deep Three = true
