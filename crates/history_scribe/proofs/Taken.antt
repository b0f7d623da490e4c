-- Notes that are added one after another.
use Rattle.std.specs.Prelude.{OnErr}
use Rattle.std.proofs.Common.{◌≡◌, ◌++◌, [], ℕ, List, Result, Ok, Err, length, take, sym, ap, ◌∙◌, arith}
use Rattle.std.proofs.lemmas.List.{append-nil, take-append-le, take_all}
use Rattle.register_model.specs.declared.note.Note.{Note}

-- some of the notes have been added, and these are left
pub record Taking (old all now left : List Note) : Type 0 where
  pub taken : List Note
  pub split : all ≡ taken ++ left
  pub so_far : now ≡ old ++ taken

pub all_taken : (old all now left : List Note) → left ≡ [] → Taking old all now left → now ≡ old ++ all
all_taken old all now left is t = t.so_far ∙ ap (λ (l : List Note). old ++ l) (sym (append-nil t.taken) ∙ ap (λ (l : List Note). t.taken ++ l) (sym is) ∙ sym t.split)

prefix : (taken left all : List Note) → all ≡ taken ++ left → take (length taken) all ≡ taken
prefix taken left all split = ap (λ (l : List Note). take (length taken) l) split ∙ take-append-le (length taken) taken left (omega arith) ∙ take_all (length taken) taken (omega arith)

-- if the next note is not added, a prefix of all has been
pub prefix_taken : {A E : Type 0} (r : Result A E) (old all now left : List Note) → Taking old all now left → OnErr r ((taken : ℕ) × (now ≡ old ++ take taken all))
prefix_taken (Ok a) old all now left t = tt
prefix_taken (Err e) old all now left t = (length t.taken, t.so_far ∙ ap (λ (l : List Note). old ++ l) (sym (prefix t.taken left all t.split)))
