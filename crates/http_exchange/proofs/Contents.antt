-- What each read does to the place in a body.
use Rattle.std.proofs.Common.{◌≡◌, ◌≢◌, ℕ, ◌-◌, ◌<◌, Bool, true, false, ◌&&◌, not, ◌==◌, List, [], ◌++◌, length, take, drop, refl, sym, ap, ◌∙◌, subst, arith, append_assoc, append-nil, length-append, length-drop}
use Rattle.std.proofs.lemmas.List.{take_all}
use Rattle.httparse.specs.declared.spans.Span.{Span}
use Rattle.httparse.specs.declared.spans.HeaderSpan.{HeaderSpan}
use Rattle.httparse.specs.declared.spans.RequestSpans.{RequestSpans}
use Rattle.httparse.specs.Spans.{span_bytes}
use Rattle.http1.specs.declared.conn.Event.{Event}
use Rattle.http1.specs.declared.conn.Event.TheVariants.{NeedMore, Head, Informational, Data, End, Paused, Closed}
use Rattle.http1.specs.declared.conn.Event.TheVariants as Found
use Rattle.http1.specs.declared.conn.Progress.{Progress}
use Rattle.http1.specs.declared.conn.Reading.{Reading}
use Rattle.http1.specs.declared.conn.Reading.TheVariants as Reads
use Rattle.http1.specs.declared.conn.Writing.TheVariants as Writes
use Rattle.http1.specs.declared.decode.Decoder.{Decoder}
use Rattle.http1.specs.declared.decode.Decoder.TheVariants.{Length, Chunked, UntilClose}
use Rattle.http1.specs.declared.error.ReadError.{ReadError}
use Rattle.http1.specs.declared.server.Server.{Server}
use Rattle.http1.specs.Body.{Body, body_of}
use Rattle.http1.specs.Conn.{is_read}
use Rattle.http1.specs.Decoder.{IsLive, Completes, Continues, Runs, with_front}
use Rattle.http1.specs.Server.{reading, cycle_at, after_piece, ReadsAt, ServerReads, ServerRefuses}
use Rattle.http1.proofs.DecoderLemmas.{Continues-live}
use Rattle.http_exchange.specs.declared.limits.TheConstants.{MAX_BODY, MAX_FIELDS}
use Rattle.http_exchange.specs.Fronts.{NextContentIs}

-- from the start of a body the decoder gave these bytes, and waits for just the remainder
pub record Leads (old : Decoder) (stream : List ℕ) (new : Decoder) (unread given : List ℕ) : Type 0 where
  pub live : IsLive new
  pub ends : old ≢ UntilClose → new ≢ UntilClose
  pub back : (more : List ℕ) (body : Body) (rest : List ℕ) → Completes new (unread ++ more) body rest → Completes old (stream ++ more) (with_front given body) rest
  pub forth : (more : List ℕ) (whole : Body) (rest : List ℕ) → Completes old (stream ++ more) whole rest → (body : Body) × (whole ≡ with_front given body) × Completes new (unread ++ more) body rest

kept_end : (old new : Decoder) (input : List ℕ) (len : ℕ) (piece : List ℕ) → Runs old input new len piece → old ≢ UntilClose → new ≢ UntilClose
kept_end (Length left) new input len piece runs other is = let same = sym runs ∙ is in cc
kept_end (Chunked chunks max_len) new input len piece runs other is = let same = sym runs.1 ∙ is in cc
kept_end UntilClose new input len piece runs other is = other refl

Leads-start : (d : Decoder) (stream : List ℕ) → IsLive d → Leads d stream d stream []
Leads-start d stream l = record { live = l; ends = λ e. e; back = λ more body rest x. x; forth = λ more whole rest x. (whole, refl, x) }

Leads-step : {first old new : Decoder} {stream given : List ℕ} (unread piece : List ℕ) (len : ℕ) → Leads first stream old unread given → Continues old unread new len piece → Leads first stream new (drop len unread) (given ++ piece)
Leads-step {first} {old} {new} {stream} {given} unread piece len x y = record {
  live = Continues-live old new unread len piece y;
  ends = λ other. kept_end old new unread len piece y.runs (x.ends other);
  back = λ more body rest z.
      subst (λ (t : List ℕ). Completes first (stream ++ more) (record body { bytes = t }) rest)
      (sym (append_assoc given piece body.bytes)) (x.back more _ rest (y.back more body rest z));
  forth = λ more whole rest z.
      let a = x.forth more whole rest z in
      let b = y.forth more a.0 rest a.2 in (
        b.0,
        a.1 ∙ ap (with_front given) b.1 ∙ ap (λ (t : List ℕ). record (b.0) { bytes = t }) (sym (append_assoc given piece b.0.bytes)),
        b.2,
      );
}

-- the server, in a body that this decoder goes on with
abbrev pub in_body : Server → Reading → Bool → Server
in_body old next waits = record old { reading = next; request = record (old.request) { expects_continue = waits } }

pub record InContent (d : Decoder) (old : Server) (input : List ℕ) (now : Server) (unread given : List ℕ) : Type 0 where
  pub decoder : Decoder
  pub waits : Bool
  pub server : now ≡ in_body old (Reads.Body decoder) waits
  pub leads : Leads d input decoder unread given

-- what holds before each read, where the server was waiting for a body
abbrev pub InLoop : Server → List ℕ → Server → List ℕ → List ℕ → Type 0
InLoop old input now unread given = (d : Decoder) → old.reading ≡ Reads.Body d → old.writing ≡ Writes.Head → IsLive d → InContent d old input now unread given

pub loop_start : (old : Server) (input : List ℕ) → InLoop old input old input []
loop_start old input d is head live = record {
  decoder = d;
  waits = old.request.expects_continue;
  server = λ i. record old { reading = is i };
  leads = Leads-start d input live;
}

never : (a b : Bool) → (a && (b && false)) ≡ false
never true true = refl
never true false = refl
never false b = refl

module _ {d : Decoder} {old now : Server} {input unread given : List ℕ} (x : InContent d old input now unread given) (head : old.writing ≡ Writes.Head) where
  next_server : (next : Reading) → after_piece now unread next ≡ in_body old next (x.waits && ((length unread == 0) && not (is_read next)))
  next_server next =
      ap (λ s. after_piece s unread next) x.server
      ∙ ap (λ w. cycle_at w (in_body old next (x.waits && ((length unread == 0) && not (is_read next))))) head

  -- what each event leaves
  abbrev pub Leaves : Event RequestSpans → List HeaderSpan → Server → ℕ → Type 0
  Leaves (Data s) spans new len = InContent d old input new (drop len unread) (given ++ span_bytes unread s) × (len ≡ s.end) × (s.start < s.end)
  Leaves (End count) spans new len = (body : Body) × (body.bytes ≡ given) × Completes d input body (drop len unread) × (new ≡ in_body old Reads.Done false)
  Leaves other spans new len = d ≢ UntilClose → (b : Body) (rest : List ℕ) → ¬ (Completes d input b rest)

  left_body : (e : Event RequestSpans) (spans : List HeaderSpan) (new : Server) (len : ℕ) → ReadsAt (Reads.Body x.decoder) now unread spans new (record { consumed = len; event = e }) → Leaves e spans new len
  left_body NeedMore spans new len did = λ other b rest whole.
      let found = x.leads.forth [] b rest (rw append-nil whole) in
      did.1.2.unfinished (x.leads.ends other) found.0 rest (rw append-nil at found.2)
  left_body (Data s) spans new len did = (
    record {
      decoder = did.1.0;
      waits = _;
      server = did.2 ∙ next_server did.0 ∙ (λ i. in_body old (did.1.1 i) (x.waits && ((length unread == 0) && not (is_read (did.1.1 i)))));
      leads = subst (λ (n : ℕ). Leads d input did.1.0 (drop n unread) (given ++ span_bytes unread s)) (sym did.1.2) (Leads-step unread (span_bytes unread s) s.end x.leads did.1.4);
    },
    did.1.2,
    did.1.3,
  )
  left_body (End count) spans new len did =
      let ends = did.1.1 in
      let body = body_of [] ends.trailers in
      let whole : Completes d (input ++ []) (with_front given body) (drop len unread) = x.leads.back [] body (drop len unread) (subst (Completes x.decoder (unread ++ []) body) (append-nil _) (ends.completes [])) in (
        with_front given body,
        append-nil given,
        subst (λ (t : List ℕ). Completes d t (with_front given body) (drop len unread)) (append-nil input) whole,
        did.2 ∙ next_server did.0 ∙ (λ i. in_body old (did.1.0 i) (x.waits && ((length unread == 0) && not (is_read (did.1.0 i))))) ∙ ap (in_body old Reads.Done) (never x.waits (length unread == 0)),
      )
  left_body (Head r) spans new len did = absurd did.1
  left_body (Informational r) spans new len did = absurd did.1
  left_body Paused spans new len did = absurd did.1
  left_body Found.Upgraded spans new len did = absurd did.1
  left_body Closed spans new len did = absurd did.1

  pub left_by : (e : Event RequestSpans) (read : Progress RequestSpans) (spans : List HeaderSpan) (new : Server) → read.event ≡ e → ServerReads now unread spans new read → Leaves e spans new read.consumed
  left_by e read spans new is did =
      subst (λ t. Leaves t spans new read.consumed) is (left_body read.event spans new read.consumed (subst (λ r. ReadsAt r now unread spans new read) (ap reading x.server) did))

  pub left_other : (e : Event RequestSpans) (spans : List HeaderSpan) (new : Server) (len : ℕ) → ((s : Span) → e ≢ Data s) → ((count : ℕ) → e ≢ End count) → Leaves e spans new len → d ≢ UntilClose → (b : Body) (rest : List ℕ) → ¬ (Completes d input b rest)
  left_other NeedMore spans new len a b left = left
  left_other (Data s) spans new len a b left = absurd (a s refl)
  left_other (End count) spans new len a b left = absurd (b count refl)
  left_other (Head r) spans new len a b left = left
  left_other (Informational r) spans new len a b left = left
  left_other Paused spans new len a b left = left
  left_other Found.Upgraded spans new len a b left = left
  left_other Closed spans new len a b left = left

  pub unreadable : (e : ReadError) → ServerRefuses now unread 64 e → NextContentIs d input (λ b. MAX_FIELDS < length b.trailers)
  unreadable e refuses more b rest z =
      let why = subst (λ s. ServerRefuses s unread 64 e) x.server refuses in
      let found = x.leads.forth more b rest z in
      rw found.1 (why.0 more found.0 rest found.2)

  pub too_long : MAX_BODY < length given → NextContentIs d input (λ b. MAX_BODY < length b.bytes)
  too_long over more b rest z =
      let found = x.leads.forth more b rest z in
      omega (arith, over, ap (λ (t : Body). length t.bytes) found.1, length-append given found.0.bytes)

-- data takes at least a byte, whatever the server was reading
pub data_takes : (r : Reading) (s : Server) (input : List ℕ) (spans : List HeaderSpan) (new : Server) (len : ℕ) (piece : Span) → ReadsAt r s input spans new (record { consumed = len; event = Data piece }) → 0 < len
data_takes Reads.Head s input spans new len piece did = absurd did
data_takes (Reads.Body d) s input spans new len piece did = let at = did.1.2 in let some = did.1.3 in omega (arith, at, some)
data_takes Reads.Done s input spans new len piece did = absurd (let same = ap (λ (p : Progress RequestSpans). p.event) did.0 in cc)
data_takes Reads.Upgraded s input spans new len piece did = absurd (let same = ap (λ (p : Progress RequestSpans). p.event) did.0 in cc)
data_takes Reads.Closed s input spans new len piece did = absurd (let same = ap (λ (p : Progress RequestSpans). p.event) did.0 in cc)
data_takes (Reads.Failed e) s input spans new len piece did = absurd did

-- what is left of a slice from a place on
pub slice_rest : (at : ℕ) (bytes : List ℕ) → take (length bytes - at) (drop at bytes) ≡ drop at bytes
slice_rest at bytes = take_all _ _ (omega (arith, length-drop {A = ℕ}))
