use Rattle.std.proofs.Common.{◌≡◌, ℕ, ◌&&◌, ◌==◌, List, ◌+◌, ◌-◌, ◌≤◌, length, take, drop, sym, ap, ◌∙◌, subst, arith, length-drop}
use Rattle.http1.specs.Framing.{method_kind}
use Rattle.http1.specs.Server.{is_head, expects_continue, ServerRefuses}
use Rattle.http_exchange.specs.declared.front.Content.TheVariants.{Whole, Partial, Refused}
use Rattle.http_exchange.specs.Fronts.{EndsWithin}
use Rattle.http_exchange.proofs.Contents.{slice_rest}
use Rattle.http_exchange.proofs.Fronts.{refused_head, took, found, coded, long, refused_content, partial, whole}
use Rattle.http_exchange.proofs.front.read_front.Goals.{then-expects_continue, else-expects_continue}
use Rattle.http_exchange.proofs.front.read_front.Goals as goal

pub returns-in-Err : goal.returns-in-Err
returns-in-Err c =
    refused_head c.args.input.now c.in-Err.e (subst (λ s. ServerRefuses s c.args.input.now 64 c.in-Err.e) c.new-server.ensures c.in-Err.ensures.err)

pub returns-then-has_codings : goal.returns-then-has_codings
returns-then-has_codings c =
    let x = took c.args.input.now c.read.new.headers c.new-server.result c.read.new.self c.in-Ok.read c.in-Head.head c.new-server.ensures c.in-Head.is c.in-Ok.ensures.ok in
    coded _ _ _ _ x (sym c.has_codings.ensures ∙ c.if-has_codings.true)

pub returns-then-is_long : goal.returns-then-is_long
returns-then-is_long c =
    let x = took c.args.input.now c.read.new.headers c.new-server.result c.read.new.self c.in-Ok.read c.in-Head.head c.new-server.ensures c.in-Head.is c.in-Ok.ensures.ok in
    long _ _ _ _ x (sym c.is_long.ensures ∙ c.if-is_long.true)

pub returns-in_ok-new-in-Whole : goal.returns-in_ok-new-in-Whole
returns-in_ok-new-in-Whole c =
    let x = took c.args.input.now c.read.new.headers c.new-server.result c.read.new.self c.in-Ok.read c.in-Head.head c.new-server.ensures c.in-Head.is c.in-Ok.ensures.ok in
    let content = found _ _ _ _ x c.read_content.new.server c.in_ok-body.field-0 (Whole c.in-Whole.body c.in-Whole.len) c.in-Whole.is c.in_ok-body.ensures.content in
    let ends = subst (EndsWithin (take (length c.args.input.now - c.in-Head.head.len) (drop c.in-Head.head.len c.args.input.now))) c.in-Whole.is c.in_ok-body.ensures.within in
    let within : c.in-Head.head.len + c.in-Whole.len ≤ length c.args.input.now = omega (arith, rw (slice_rest c.in-Head.head.len c.args.input.now) at ends, length-drop c.in-Head.head.len c.args.input.now, x.within.section.len_fits) in
    whole _ _ _ _ x c.in-Whole.body.items c.in-Whole.len content.0 _ within (λ i. c.in-Head.head.len + c.in-Whole.len) c.in_ok-new-in-Whole.ensures content.1
    (c.is_head.ensures ∙ ap (λ (t : List ℕ). is_head (method_kind t)) c.of.ensures)

-- the client waits for 100 Continue, and sent nothing past the head
waits_is : (c : goal.In-Partial) → c.if-expects_continue.waits ≡ (expects_continue c.read.new.self && (c.in-Head.head.len == length c.args.input.now))
waits_is c = elim c.if-expects_continue.branch [
  | then-expects_continue w ↦ w.waits-is ∙ ap (λ b. b && (c.in-Head.head.len == length c.args.input.now)) w.if-expects_continue.ensures
  | else-expects_continue w ↦ w.waits-is ∙ w.if-expects_continue.false ∙ ap (λ b. b && (c.in-Head.head.len == length c.args.input.now)) w.if-expects_continue.ensures
]

pub returns-in-Partial : goal.returns-in-Partial
returns-in-Partial c =
    let x = took c.args.input.now c.read.new.headers c.new-server.result c.read.new.self c.in-Ok.read c.in-Head.head c.new-server.ensures c.in-Head.is c.in-Ok.ensures.ok in
    partial _ _ _ _ x c.if-expects_continue.waits (waits_is c) (found _ _ _ _ x c.read_content.new.server c.in_ok-body.field-0 Partial c.in-Partial.is c.in_ok-body.ensures.content)

pub returns-in-Refused : goal.returns-in-Refused
returns-in-Refused c =
    let x = took c.args.input.now c.read.new.headers c.new-server.result c.read.new.self c.in-Ok.read c.in-Head.head c.new-server.ensures c.in-Head.is c.in-Ok.ensures.ok in
    refused_content _ _ _ _ x c.in-Refused.why (found _ _ _ _ x c.read_content.new.server c.in_ok-body.field-0 (Refused c.in-Refused.why) c.in-Refused.is c.in_ok-body.ensures.content)
