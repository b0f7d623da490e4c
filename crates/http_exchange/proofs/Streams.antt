-- What was read of a stream stays read when more comes, and each part follows the one before.
use Rattle.std.proofs.Common.{◌≡◌, ◌≢◌, ℕ, List, ◌++◌, Ok, refl, sym, ap, ◌∙◌, append_assoc}
use Rattle.httparse.specs.Grammar.{RequestHead}
use Rattle.httparse.proofs.GrammarLemmas.{request_unique, ReadsRequest-append}
use Rattle.http1.specs.declared.conn.Limits.{Limits}
use Rattle.http1.specs.declared.framing.Framing.{Framing}
use Rattle.http1.specs.declared.framing.Framing.TheVariants.{NoBody, Length, Chunked, UntilClose}
use Rattle.http1.specs.Body.{Body, ReadsBody}
use Rattle.http1.specs.Framing.{method_kind, request_framing}
use Rattle.http1.specs.Message as Wire
use Rattle.http1.specs.Message.{known_of, AcceptsRequest, ReadsRequestMessage}
use Rattle.http1.proofs.DecoderLemmas.{ReadsTrailers-append}
use Rattle.http1.proofs.FramingFacts.{request_has_an_end}

front_more : (stream front rest more : List ℕ) → stream ≡ front ++ rest → stream ++ more ≡ front ++ (rest ++ more)
front_more stream front rest more is = ap (λ (t : List ℕ). t ++ more) is ∙ append_assoc front rest more

module _ {limits : Limits} {stream : List ℕ} where
  pub AcceptsRequest-append : {h : RequestHead} {framing : Framing} {rest : List ℕ} → AcceptsRequest limits stream h framing rest → (more : List ℕ) → AcceptsRequest limits (stream ++ more) h framing (rest ++ more)
  AcceptsRequest-append {h} {rest} x more =
      record { reads = ReadsRequest-append stream h rest more x.reads; strict = x.strict; host = x.host; framed = x.framed }

  -- a stream begins with at most one head
  pub accepts_unique : {h k : RequestHead} {f g : Framing} {r q : List ℕ} → AcceptsRequest limits stream h f r → AcceptsRequest limits stream k g q → (h ≡ k) × (f ≡ g) × (r ≡ q)
  accepts_unique {h} {k} {f} {g} {r} {q} x y =
      let same = request_unique stream h k r q x.reads y.reads in
      let framed = sym x.framed ∙ ap (λ (t : RequestHead). request_framing (method_kind t.method) t.minor (known_of t.fields)) same.0 ∙ y.framed in
      (same.0, cc, same.1)

  pub has_an_end : {h : RequestHead} {framing : Framing} {rest : List ℕ} → AcceptsRequest limits stream h framing rest → framing ≢ UntilClose
  has_an_end x is = request_has_an_end _ _ _ (x.framed ∙ ap Ok is)

pub ReadsBody-append : (limits : Limits) (framing : Framing) (stream : List ℕ) (body : Body) (rest more : List ℕ) → framing ≢ UntilClose → ReadsBody limits framing stream body rest → ReadsBody limits framing (stream ++ more) body (rest ++ more)
ReadsBody-append limits NoBody stream body rest more ends x = (x.0, front_more stream body.bytes rest more x.1, x.2)
ReadsBody-append limits (Length n) stream body rest more ends x = (x.0, front_more stream body.bytes rest more x.1, x.2)
ReadsBody-append limits Chunked stream body rest more ends x = record {
  chunks = x.chunks;
  after = x.after ++ more;
  reads = (x.reads.0, front_more stream _ x.after more x.reads.1);
  decoded = x.decoded;
  trailers = ReadsTrailers-append _ x.after body.trailers rest more x.trailers;
}
ReadsBody-append limits UntilClose stream body rest more ends x = absurd (ends refl)

pub ReadsRequestMessage-append : {limits : Limits} {stream rest : List ℕ} {m : Wire.Request} → ReadsRequestMessage limits stream m rest → (more : List ℕ) → ReadsRequestMessage limits (stream ++ more) m (rest ++ more)
ReadsRequestMessage-append {limits} {rest} {m} x more = record {
  framing = x.framing;
  after_head = x.after_head ++ more;
  head = AcceptsRequest-append x.head more;
  body = ReadsBody-append limits x.framing x.after_head m.body rest more (has_an_end x.head) x.body;
}
