use Rattle.std.proofs.Common.{◌≡◌, map, take, ap, ◌∙◌}
use Rattle.httparse.specs.Spans.{span_bytes, header_bytes}
use Rattle.http_exchange.proofs.Heads.{span_bytes-take, headers-take}
use Rattle.http_exchange.proofs.request.Request.new.Goals as goal

pub returns : goal.returns
returns c =
    let input = c.args.input.now in
    let spans = c.args.head.now in
    let head = c.in_ok-from_slice.ensures.items in
    let fields = c.in_ok-from_slice-2.ensures.items in
    let within = c.requires.section.headers_fit in
    let same : map (header_bytes c.in_ok-from_slice.field-0.items) c.in_ok-from_slice-2.field-0.items ≡ map (header_bytes input) (take spans.headers c.args.spans.now) =
    rw (head, fields) (headers-take spans.len input (take spans.headers c.args.spans.now) within) in
    λ i. record {
      method = (ap (λ t. span_bytes t spans.method) head ∙ span_bytes-take spans.len input spans.method c.requires.method) i;
      target = (ap (λ t. span_bytes t spans.path) head ∙ span_bytes-take spans.len input spans.path c.requires.path) i;
      fields = same i;
      body = c.args.body.items;
    }
