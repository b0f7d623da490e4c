-- A connection after an answer that was written.
use Rattle.std.proofs.Common.{◌≡◌, ℕ, Bool, false, List, [], ◌++◌, Result, Ok, Err, refl, sym, ap, ◌∙◌}
use Rattle.std.specs.Prelude.{IsOkAnd}
use Rattle.http1.specs.declared.conn.Writing.{Writing}
use Rattle.http1.specs.declared.conn.Writing.TheVariants as Writes
use Rattle.http1.specs.declared.error.WriteError.{WriteError}
use Rattle.http1.specs.declared.server.Server.{Server}
use Rattle.http1.specs.Fields.{Header}
use Rattle.http_exchange.specs.declared.stage.Stage.{Stage}
use Rattle.http_exchange.specs.declared.stage.Stage.TheVariants.{Open, Asked}
use Rattle.http_exchange.specs.Exchanges.{Connection, Written, stage_after, after_answer, answer_text, answered_at, answered_by}

pub stays_open : (w : Writing) → ¬ (w ≡ Writes.Closed) → stage_after w ≡ Open false
stays_open Writes.Head other = refl
stays_open (Writes.Body e) other = refl
stays_open Writes.Done other = refl
stays_open Writes.Upgraded other = refl
stays_open Writes.Closed other = absurd (other refl)

after_written : (c : Connection) (result : Result Written WriteError) (text : List ℕ) (after : Server) (stage : Stage)
    → IsOkAnd result (λ w. (text ≡ [] ++ w.text) × (after ≡ w.server)) → stage ≡ stage_after after.writing
    → record c { stage = stage; pending = c.pending ++ text } ≡ after_answer c result
after_written c (Ok w) text after stage x is =
    λ i. record c { stage = (is ∙ ap (λ (s : Server). stage_after s.writing) x.1) i; pending = c.pending ++ x.0 i }
after_written c (Err e) text after stage x is = absurd x

pub answered : (c : Connection) (server : Server) (bodiless : Bool) (status : ℕ) (reason : List ℕ) (headers : List Header) (body text : List ℕ) (after : Server) (stage : Stage)
    → c.stage ≡ Asked server bodiless
    → IsOkAnd (answer_text server bodiless status reason headers body) (λ w. (text ≡ [] ++ w.text) × (after ≡ w.server))
    → stage ≡ stage_after after.writing
    → record c { stage = stage; pending = c.pending ++ text } ≡ answered_by c status reason headers body
answered c server bodiless status reason headers body text after stage asked x is =
    after_written c (answer_text server bodiless status reason headers body) text after stage x is
    ∙ sym (ap (λ s. answered_at s c status reason headers body) asked)
