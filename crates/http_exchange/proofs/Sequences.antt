-- A stream that begins with requests is found to begin with them, however it comes, and with no other ones.
use Rattle.std.proofs.Common.{◌≡◌, ℕ, List, [], ◌∷◌, ◌++◌, length, refl, sym, ap, ◌∙◌, subst, arith, append_assoc, append-nil}
use Rattle.http1.proofs.OneParse.{request_message_unique}
use Rattle.http_exchange.specs.declared.limits.TheConstants.{LIMITS}
use Rattle.http_exchange.specs.Requests.{RequestParts, parts_of, BeginsWith, BeginsWithAll}
use Rattle.http_exchange.specs.Runs.{Act, Receive, Take, Other, IsRun, stream_of, requests_of}
use Rattle.http_exchange.proofs.Streams.{ReadsRequestMessage-append}

BeginsWith-append : (stream : List ℕ) (r : RequestParts) (rest more : List ℕ) → BeginsWith stream r rest → BeginsWith (stream ++ more) r (rest ++ more)
BeginsWith-append stream r rest more x =
    record { message = x.message; reads = ReadsRequestMessage-append x.reads more; parts = x.parts; short = x.short }

-- the unread bytes, and then all that is received from here on, begin with the requests that are handed out from here on
run_begins : (unread : List ℕ) (acts : List Act) (after : List ℕ) → IsRun unread acts after → BeginsWithAll (unread ++ stream_of acts) (requests_of acts) after
run_begins unread [] after run = append-nil unread ∙ run
run_begins unread (Receive more ∷ acts) after run =
    subst (λ (t : List ℕ). BeginsWithAll t (requests_of acts) after) (append_assoc unread more (stream_of acts)) (run_begins (unread ++ more) acts after run)
run_begins unread (Take r ∷ acts) after run =
    (run.0 ++ stream_of acts, BeginsWith-append unread r run.0 (stream_of acts) run.1, run_begins run.0 acts after run.2)
run_begins unread (Other ∷ acts) after run = run_begins unread acts after run

pub run_from_start : (acts : List Act) (unread : List ℕ) → IsRun [] acts unread → BeginsWithAll (stream_of acts) (requests_of acts) unread
run_from_start acts unread run = run_begins [] acts unread run

begins_once : (stream : List ℕ) (a b : RequestParts) (rest left : List ℕ) → BeginsWith stream a rest → BeginsWith stream b left → (a ≡ b) × (rest ≡ left)
begins_once stream a b rest left x y =
    let same = request_message_unique LIMITS stream x.message y.message rest left x.reads y.reads in
    (x.parts ∙ ap parts_of same.0 ∙ sym y.parts, same.1)

pub begins_alike : (stream : List ℕ) (a b : List RequestParts) (rest left : List ℕ) → BeginsWithAll stream a rest → BeginsWithAll stream b left → length a ≡ length b → (a ≡ b) × (rest ≡ left)
begins_alike stream [] [] rest left x y count = (refl, sym x ∙ y)
begins_alike stream [] (r ∷ b) rest left x y count = absurd (omega (arith, count))
begins_alike stream (r ∷ a) [] rest left x y count = absurd (omega (arith, count))
begins_alike stream (r ∷ a) (q ∷ b) rest left x y count =
    let first = begins_once stream r q x.0 y.0 x.1 y.1 in
    let later = begins_alike x.0 a b rest left x.2 (subst (λ (t : List ℕ). BeginsWithAll t b left) (sym first.1) y.2) (omega (arith, count)) in
    ((λ i. first.0 i ∷ later.0 i), later.1)
