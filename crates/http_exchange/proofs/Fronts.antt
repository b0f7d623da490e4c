-- What a head and the body after it say of the request at the front of a stream.
use Rattle.std.proofs.Common.{◌≡◌, ◌≢◌, ◌↔◌, ℕ, ◌+◌, ◌-◌, ◌<◌, ◌≤◌, Bool, true, false, ◌&&◌, ◌==◌, List, [], ◌++◌, length, map, take, drop, IsTrue, refl, sym, ap, ◌∙◌, subst, subst₂, arith, append-nil, length-drop, inl, inr}
use Rattle.std.proofs.lemmas.Bool.{ltb-true, eq-eqb, eqb-true}
use Rattle.std.proofs.lemmas.List.{drop-drop}
use Rattle.std.proofs.Math.Seq.{drop-length}
use Rattle.httparse.specs.declared.spans.HeaderSpan.{HeaderSpan}
use Rattle.httparse.specs.declared.spans.RequestSpans.{RequestSpans}
use Rattle.httparse.specs.Spans.{span_bytes, header_bytes}
use Rattle.http1.specs.declared.conn.Event.{Event}
use Rattle.http1.specs.declared.conn.Event.TheVariants.{NeedMore, Head, Informational, Data, End, Paused, Closed}
use Rattle.http1.specs.declared.conn.Event.TheVariants as Found
use Rattle.http1.specs.declared.conn.Reading.TheVariants as Reads
use Rattle.http1.specs.declared.decode.Decoder.{Decoder}
use Rattle.http1.specs.declared.decode.Decoder.TheVariants as Decoding
use Rattle.http1.specs.declared.error.ReadError.{ReadError}
use Rattle.http1.specs.declared.framing.Framing.{Framing}
use Rattle.http1.specs.declared.framing.Framing.TheVariants as Framed
use Rattle.http1.specs.declared.server.Server.{Server}
use Rattle.http1.specs.Body.{Body, ReadsBody}
use Rattle.http1.specs.Conn.{unread_size}
use Rattle.http1.specs.Decoder.{Completes, decoder_for}
use Rattle.http1.specs.Framing.{method_kind}
use Rattle.http1.specs.Message as Wire
use Rattle.http1.specs.Message.{AcceptsRequest, ReadsRequestMessage}
use Rattle.http1.specs.declared.conn.Progress.{Progress}
use Rattle.http1.specs.Server.{new_server, request_of, reading, writing, ServerReads, expects_continue, has_codings, is_head, TakesHead, ReadsHead, ServerRefuses}
use Rattle.http1.proofs.DecoderLemmas.{decoder_for-live}
use Rattle.http1.proofs.OneParse.{completes_from_body, body_from_completes}
use Rattle.http_exchange.specs.declared.front.Content.{Content}
use Rattle.http_exchange.specs.declared.front.Front.TheVariants as Front
use Rattle.http_exchange.specs.declared.front.Whole.{Whole}
use Rattle.http_exchange.specs.declared.limits.TheConstants.{LIMITS, MAX_BODY}
use Rattle.http_exchange.specs.declared.refusal.Refusal.{Refusal}
use Rattle.http_exchange.specs.declared.refusal.Refusal.TheVariants.{Unreadable, BodyTooLong, TextTooLong, UnknownCoding, InvalidAnswer}
use Rattle.http_exchange.specs.Fronts.{IsWhole, IsFront, is_long, HasContent, NextContentIs, RefusesContent, FindsContent, IsContent}
use Rattle.http_exchange.specs.Refusals.{Justifies}
use Rattle.http_exchange.specs.Requests.{RequestParts, HasNoRequest, AwaitsContinue}
use Rattle.http_exchange.proofs.Contents.{slice_rest}
use Rattle.http_exchange.proofs.Streams.{AcceptsRequest-append, accepts_unique, has_an_end}

pub refused_head : (input : List ℕ) (e : ReadError) → ServerRefuses (new_server LIMITS) input 64 e → Justifies input (Unreadable e)
refused_head input e why = (λ more m rest z. inl (why.0 more m.head z.framing z.after_head z.head), inl why.1)

module _ (input : List ℕ) (spans : List HeaderSpan) (server : Server) (len : ℕ) where
  pub no_head : (e : Event RequestSpans) → ((r : RequestSpans) → e ≢ Head r) → ReadsHead (new_server LIMITS) input spans server len e → IsFront input (Front.Partial false)
  no_head NeedMore other did =
      ((λ m rest z. did.2 m.head z.after_head z.head.reads), ((λ wrong. cc), (λ w. absurd (did.2 w.0 [] w.2.reads))))
  no_head (Head r) other did = absurd (other r refl)
  no_head (Informational r) other did = absurd did
  no_head (Data s) other did = absurd did
  no_head (End count) other did = absurd did
  no_head Paused other did = absurd did
  no_head Found.Upgraded other did = absurd did
  no_head Closed other did = absurd did

no_close : (framing : Framing) → framing ≢ Framed.UntilClose → decoder_for LIMITS framing ≢ Decoding.UntilClose
no_close Framed.NoBody ends is = cc
no_close (Framed.Length n) ends is = cc
no_close Framed.Chunked ends is = cc
no_close Framed.UntilClose ends is = ends refl

long_content : (d : Decoder) (input : List ℕ) → is_long (unread_size (Reads.Body d)) ≡ true → NextContentIs d input (λ b. MAX_BODY < length b.bytes)
long_content (Decoding.Length left) input is more b rest z = let over = ltb-true MAX_BODY left is in omega (arith, over, z.0)
long_content (Decoding.Chunked chunks max_len) input is more b rest z = cc
long_content Decoding.UntilClose input is more b rest z = cc

none_left : (n : ℕ) (input : List ℕ) → n ≡ length input → drop n input ≡ []
none_left n input is = rw is (drop-length input)

both : (a b : Bool) → (a && b) ≡ true → (a ≡ true) × (b ≡ true)
both true b is = (refl, is)
both false b is = cc

pub took : (input : List ℕ) (spans : List HeaderSpan) (s server : Server) (read : Progress RequestSpans) (r : RequestSpans) → s ≡ new_server LIMITS → read.event ≡ Head r → ServerReads s input spans server read → TakesHead (new_server LIMITS) input spans server r.len r
took input spans s server read r is event did =
    let at : ReadsHead (new_server LIMITS) input spans server read.consumed read.event = subst (λ t. ServerReads t input spans server read) is did in
    let x = subst (λ e. ReadsHead (new_server LIMITS) input spans server read.consumed e) event at in
    subst (λ n. TakesHead (new_server LIMITS) input spans server n r) x.consumed x

module _ (input : List ℕ) (spans : List HeaderSpan) (server : Server) (r : RequestSpans)
    (x : TakesHead (new_server LIMITS) input spans server r.len r) where
  -- what was found in the bytes after the head
  pub found : (new : Server) (content e : Content) → content ≡ e → IsContent server (take (length input - r.len) (drop r.len input)) new content → FindsContent (decoder_for LIMITS x.framing) server (drop r.len input) new e
  found new content e is did =
      subst (FindsContent (decoder_for LIMITS x.framing) server (drop r.len input) new) is
      (subst (λ (t : List ℕ). FindsContent (decoder_for LIMITS x.framing) server t new content) (slice_rest r.len input)
      (did (decoder_for LIMITS x.framing) (ap reading x.next) (ap writing x.next) (decoder_for-live LIMITS x.framing)))

  pub coded : has_codings server ≡ true → Justifies input UnknownCoding
  coded is more m rest z =
      rw (accepts_unique z.head (AcceptsRequest-append x.accepts more)).0 (sym (ap has_codings x.next) ∙ is)

  -- the body of a message that begins the stream is one of the decoder
  body_of_next : (more : List ℕ) (m : Wire.Request) (rest : List ℕ) → ReadsRequestMessage LIMITS (input ++ more) m rest → Completes (decoder_for LIMITS x.framing) (drop r.len input ++ more) m.body rest
  body_of_next more m rest z =
      let same = accepts_unique z.head (AcceptsRequest-append x.accepts more) in
      let body = subst₂ (λ f (t : List ℕ). ReadsBody LIMITS f t m.body rest) same.1 same.2 z.body in
      completes_from_body LIMITS x.framing _ m.body rest body

  pub long : is_long (unread_size (reading server)) ≡ true → Justifies input BodyTooLong
  long is more m rest z =
      long_content (decoder_for LIMITS x.framing) (drop r.len input) (sym (ap (λ s. is_long (unread_size (reading s))) x.next) ∙ is) more m.body rest (body_of_next more m rest z)

  pub refused_content : (why : Refusal) → RefusesContent (decoder_for LIMITS x.framing) (drop r.len input) why → Justifies input why
  refused_content (Unreadable e) content = (
    λ more m rest z. inr (content more m.body rest (body_of_next more m rest z)),
    inr (x.head, x.framing, _, x.accepts),
  )
  refused_content BodyTooLong content = λ more m rest z. content more m.body rest (body_of_next more m rest z)
  refused_content TextTooLong content = absurd content
  refused_content UnknownCoding content = absurd content
  refused_content (InvalidAnswer e) content = absurd content

  no_message : (decoder_for LIMITS x.framing ≢ Decoding.UntilClose → (b : Body) (rest : List ℕ) → ¬ (Completes (decoder_for LIMITS x.framing) (drop r.len input) b rest)) → HasNoRequest input
  no_message none m rest z =
      none (no_close x.framing (has_an_end x.accepts)) m.body rest
      (subst (λ (t : List ℕ). Completes (decoder_for LIMITS x.framing) t m.body rest) (append-nil _)
      (body_of_next [] m rest (subst (λ (t : List ℕ). ReadsRequestMessage LIMITS t m rest) (sym (append-nil input)) z)))

  awaits : (waits : Bool) → waits ≡ (expects_continue server && (r.len == length input)) → IsTrue waits ↔ AwaitsContinue input
  awaits waits is = (
    λ yes.
        let parts = both (expects_continue server) (r.len == length input) (sym is ∙ yes) in
        let none = none_left r.len input (eqb-true r.len (length input) parts.1) in
        (x.head, x.framing, subst (AcceptsRequest LIMITS input x.head x.framing) none x.accepts, sym (ap expects_continue x.next) ∙ parts.0),
    λ w.
        let same = accepts_unique w.2 x.accepts in
        let all : r.len ≡ length input = omega (arith, ap length same.2, length-drop r.len input, x.within.section.len_fits) in
        let expects : expects_continue server ≡ true = ap expects_continue x.next ∙ subst₂ (λ h f. (request_of h f).expects_continue ≡ true) same.0 same.1 w.3 in
        is ∙ (λ i. expects i && eq-eqb r.len (length input) all i),
  )

  pub partial : (waits : Bool) → waits ≡ (expects_continue server && (r.len == length input))
      → (decoder_for LIMITS x.framing ≢ Decoding.UntilClose → (b : Body) (rest : List ℕ) → ¬ (Completes (decoder_for LIMITS x.framing) (drop r.len input) b rest)) → IsFront input (Front.Partial waits)
  partial waits is none = (no_message none, awaits waits is)

  module _ (body : List ℕ) (len : ℕ) (content : HasContent (decoder_for LIMITS x.framing) (drop r.len input) body (drop len (drop r.len input))) where
    pub whole : (w : Whole) → r.len + len ≤ length input → w.len ≡ r.len + len
        → w.request ≡ (record { method = span_bytes input r.method; target = span_bytes input r.path; fields = map (header_bytes input) (take r.headers spans); body = body })
        → w.server ≡ (record server { reading = Reads.Done; request = record (server.request) { expects_continue = false } })
        → w.bodiless ≡ is_head (method_kind (span_bytes input r.method)) → IsWhole input w
    whole w within len_is request_is server_is bodiless_is =
        let found = content.body in
        let message : Wire.Request = record { head = x.head; body = found } in
        let completes = subst (Completes (decoder_for LIMITS x.framing) (drop r.len input) found) (drop-drop len r.len input ∙ ap (λ (n : ℕ). drop n input) (sym len_is)) content.completes in
        record {
          within = rw len_is within;
          begins = record {
            message = message;
            reads = record {
              framing = x.framing;
              after_head = drop r.len input;
              head = x.accepts;
              body = body_from_completes LIMITS x.framing _ found (drop w.len input) completes;
            };
            parts = request_is ∙ (λ i. record { method = x.covered.method i; target = x.covered.path i; fields = x.covered.fields i; body = sym content.bytes i });
            short = rw request_is content.short;
          };
          server = server_is ∙ ap (λ (s : Server). record s { reading = Reads.Done; request = record (s.request) { expects_continue = false } }) x.next;
          bodiless = bodiless_is ∙ sym (ap (λ (t : RequestParts). is_head (method_kind t.method)) request_is);
        }
