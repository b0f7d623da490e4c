-- The endings of a cluster that did not record its script, as they are made.
use Rattle.std.proofs.Common.{◌≡◌, ℕ, List, [], ◌∷◌, ◌++◌, codes, Option, Result, string_bytes, refl, sym, subst}
use Rattle.std.specs.Prelude.{IfOk}
use Rattle.std.proofs.lemmas.Result.{IfOk-weaker}
use Rattle.ens_base.specs.declared.status.Status.{Status}
use Rattle.environment.specs.declared.errors.LinkError.{LinkError}
use Rattle.environment.specs.declared.errors.LinkError.TheVariants as links
use Rattle.scripts.specs.ClusterReading.{Refuses}
use Rattle.scripts.specs.declared.cluster_read.ReadError.{ReadError}
use Rattle.scripts.specs.declared.cluster_read.ReadError.TheVariants as read
use Rattle.replay.specs.Jobs.{clash_line}
use Rattle.schedule_input.specs.Endings.{bad_line}
use Rattle.schedule_input.specs.declared.ending.Ending.{Ending}
use Rattle.world_model.specs.declared.error.WorldError.{WorldError}
use Rattle.world_model.specs.declared.error.WorldError.TheVariants as worlds
use Rattle.cluster.specs.Endings.{IsStopText, IsUnread}
use Rattle.cluster.specs.declared.stop.Stop.{Stop}
use Rattle.cluster.specs.declared.stop.Stop.TheVariants.{Lines, World as OfWorld, Link as OfLink}

-- an ending with this status and this line
abbrev pub IsMadeOf : Status → List ℕ → Ending → Type 0
IsMadeOf status line e = (e.status ≡ status) × (string_bytes e.text ≡ line)

-- the text is printed for such an error, whatever the source held
abbrev pub Reports : ReadError → Status → List ℕ → Type 0
Reports error status text = (peers : ℕ) (source : Option (List ℕ)) → Refuses peers source [] error → IsUnread peers source error status text

pub bad_reports : (error : ReadError) (line cause : ℕ) (text : List ℕ) → error ≡ read.Bad line cause → text ≡ bad_line line cause → Reports error Status.Schedule text
bad_reports error line cause text is are = subst (λ (e : ReadError). Reports e Status.Schedule text) (sym is) (λ peers source refuses. (refl, refuses, are))

pub failed_reports : (error : ReadError) → error ≡ read.Failed → Reports error Status.ReadFault (codes "read fault" ++ 10 ∷ [])
failed_reports error is = subst (λ (e : ReadError). Reports e Status.ReadFault (codes "read fault" ++ 10 ∷ [])) (sym is) (λ peers source refuses. (refl, refl))

pub lines_reports : (error : ReadError) → error ≡ read.Lines → Reports error Status.Limit (codes "limit lines 200000" ++ 10 ∷ [])
lines_reports error is = subst (λ (e : ReadError). Reports e Status.Limit (codes "limit lines 200000" ++ 10 ∷ [])) (sym is) (λ peers source refuses. (refl, refuses, refl))

pub reports_made : {E : Type 0} (r : Result Ending E) (error : ReadError) (status : Status) (line : List ℕ) → Reports error status line → IfOk r (IsMadeOf status line) → IfOk r (λ e. Reports error e.status (string_bytes e.text))
reports_made r error status line reports made =
    IfOk-weaker r (IsMadeOf status line) (λ e. Reports error e.status (string_bytes e.text))
    (λ e is. subst (λ (st : Status). Reports error st (string_bytes e.text)) (sym is.0) (subst (λ (t : List ℕ). Reports error status t) (sym is.1) reports)) made

pub lines_text : (stop : Stop) → stop ≡ Lines → IsStopText stop Status.Limit (codes "limit lines 200000" ++ 10 ∷ [])
lines_text stop is = subst (λ (s : Stop). IsStopText s Status.Limit (codes "limit lines 200000" ++ 10 ∷ [])) (sym is) (refl, refl)

pub link_stops : (e : LinkError) → e ≡ links.Failed → IsStopText (OfLink e) Status.LinkFault (codes "link fault" ++ 10 ∷ [])
link_stops e is = subst (λ (x : LinkError). IsStopText (OfLink x) Status.LinkFault (codes "link fault" ++ 10 ∷ [])) (sym is) (refl, refl)

pub clash_stops : (e : WorldError) (first second text : List ℕ) → e ≡ worlds.Clash first second → text ≡ clash_line first second → IsStopText (OfWorld e) Status.Clash text
clash_stops e first second text is are = subst (λ (x : WorldError). IsStopText (OfWorld x) Status.Clash text) (sym is) (refl, are)

pub book_stops : (e : WorldError) (bytes : ℕ) → e ≡ worlds.BookFull bytes → IsStopText (OfWorld e) Status.Limit (codes "limit book 1073741824" ++ 10 ∷ [])
book_stops e bytes is = subst (λ (x : WorldError). IsStopText (OfWorld x) Status.Limit (codes "limit book 1073741824" ++ 10 ∷ [])) (sym is) (refl, refl)

pub messages_stop : (e : WorldError) → e ≡ worlds.MessageLimit → IsStopText (OfWorld e) Status.Limit (codes "limit messages 500000" ++ 10 ∷ [])
messages_stop e is = subst (λ (x : WorldError). IsStopText (OfWorld x) Status.Limit (codes "limit messages 500000" ++ 10 ∷ [])) (sym is) (refl, refl)

pub stop_made : {E : Type 0} (r : Result Ending E) (stop : Stop) (status : Status) (line : List ℕ) → IsStopText stop status line → IfOk r (IsMadeOf status line) → IfOk r (λ e. IsStopText stop e.status (string_bytes e.text))
stop_made r stop status line is made =
    IfOk-weaker r (IsMadeOf status line) (λ e. IsStopText stop e.status (string_bytes e.text))
    (λ e of. subst (λ (st : Status). IsStopText stop st (string_bytes e.text)) (sym of.0) (subst (λ (t : List ℕ). IsStopText stop status t) (sym of.1) is)) made

-- the same of a reason that is this one
pub made_as : {E : Type 0} (r : Result Ending E) (stop same : Stop) → stop ≡ same → IfOk r (λ e. IsStopText same e.status (string_bytes e.text)) → IfOk r (λ e. IsStopText stop e.status (string_bytes e.text))
made_as r stop same is made = subst (λ (s : Stop). IfOk r (λ e. IsStopText s e.status (string_bytes e.text))) (sym is) made
