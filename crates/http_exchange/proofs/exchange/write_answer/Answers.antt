use Rattle.std.proofs.Common.{◌≡◌, ℕ, List, ◌++◌, true, false, not, ◌&&◌, ◌==◌, length, None, sym, ap, ◌∙◌, subst, append_assoc}
use Rattle.http1.specs.Conn.{data_refusal, data_text, after_data}
use Rattle.http1.specs.Head.{pairs}
use Rattle.http1.specs.Server.{writing, with_writing, response_refusal}
use Rattle.http_exchange.specs.Exchanges.{size_of, finish}
use Rattle.http_exchange.proofs.Writes.{not_refused, head_text, after_head, has_body, the_answer, without_body, with_body, ended, not_ended}
use Rattle.http_exchange.proofs.exchange.write_answer.Goals.{then-not-bodiless+then-not-is_empty+in_ok-write_data, else-not-bodiless, else-not-bodiless-via-then-not-bodiless+else-not-is_empty, else-not-bodiless-via-else-not-bodiless}
use Rattle.http_exchange.proofs.exchange.write_answer.Goals as goal

-- what was written before the end, and that the answer is that and the end
abbrev IsSent : goal.After-write_end → Type 0
IsSent c =
    (text : List ℕ)
    × (the_answer c.args.server.now c.args.bodiless c.args.status c.args.reason.now (pairs c.args.headers.now) c.args.body.now ≡ finish c.if-not-bodiless.server text)
    × (c.if-not-bodiless.output.items ≡ c.args.output.now.items ++ text)

sent : (c : goal.After-write_end) → IsSent c
sent c =
    let s = c.args.server.now in
    let status = c.args.status in
    let reason = c.args.reason.now in
    let headers = pairs c.args.headers.now in
    let body = c.args.body.now in
    let head = head_text s c.args.bodiless status reason headers body in
    let after = after_head s c.args.bodiless status reason headers body in
    let size = c.size_of.ensures in
    let valid : response_refusal s status reason (size_of body) headers ≡ None = rw size at (not_refused _ _ _ c.in_ok-write_response.field-0 c.in_ok-write_response.ensures.outcome) in
    let next : c.write_response.new.self ≡ after = rw size at c.in_ok-write_response.ensures.next in
    let text : c.write_response.new.output.items ≡ c.args.output.now.items ++ head = rw size at c.in_ok-write_response.ensures.ok in
    elim c.if-not-bodiless.branch [
      | then-not-bodiless+then-not-is_empty+in_ok-write_data w ↦
          let some : has_body s c.args.bodiless status reason headers body ≡ true = λ i. not (w.if-not-bodiless.true i) && not ((sym w.is_empty.ensures ∙ w.if-not-is_empty.true) i) in
          let taken = subst (λ t. data_refusal (writing t) (length body) ≡ None) next (not_refused _ _ _ w.in_ok-write_data.field-0 w.in_ok-write_data.ensures.outcome) in
          let server = w.server-is ∙ w.in_ok-write_data.ensures.counted ∙ ap (λ t. with_writing t (after_data (writing t) (length body))) next in
          let whole = head ++ data_text (writing after) body in (
            whole,
            with_body s c.args.bodiless status reason headers body valid some taken ∙ sym (ap (λ t. finish t whole) server),
            ap (λ o. o.items) w.output-is ∙ w.in_ok-write_data.ensures.ok ∙ (λ i. text i ++ data_text (writing (next i)) body) ∙ append_assoc c.args.output.now.items head (data_text (writing after) body),
          )
      | else-not-bodiless w ↦
          let none : has_body s c.args.bodiless status reason headers body ≡ false = elim w.else-not-bodiless.branch [
            | else-not-bodiless-via-then-not-bodiless+else-not-is_empty v ↦ λ i. not (v.if-not-bodiless.true i) && not ((sym v.is_empty.ensures ∙ v.if-not-is_empty.false) i)
            | else-not-bodiless-via-else-not-bodiless v ↦ λ i. not (v.if-not-bodiless.false i) && not (length body == 0)
          ] in (
            head,
            without_body s c.args.bodiless status reason headers body valid none ∙ sym (ap (λ t. finish t head) (w.server-is ∙ next)),
            ap (λ o. o.items) w.output-is ∙ text,
          )
    ]

pub returns-clause-ok : goal.returns-clause-ok
returns-clause-ok c =
    let x = sent c in
    ended c.args.server.now c.args.bodiless c.args.status c.args.reason.now (pairs c.args.headers.now) c.args.body.now c.if-not-bodiless.server x.0
    c.if-not-bodiless.output.items c.args.output.now.items c.write_end.new.output.items c.write_end.new.self _ _ x.1 x.2 c.write_end.result
    c.write_end.ensures.outcome c.write_end.ensures.ok c.write_end.ensures.done

pub returns-clause-err : goal.returns-clause-err
returns-clause-err c =
    let x = sent c in
    not_ended c.args.server.now c.args.bodiless c.args.status c.args.reason.now (pairs c.args.headers.now) c.args.body.now c.if-not-bodiless.server x.0
    c.if-not-bodiless.output.items c.args.output.now.items c.write_end.new.output.items c.write_end.new.self _ _ x.1 x.2 c.write_end.result
    c.write_end.ensures.outcome
