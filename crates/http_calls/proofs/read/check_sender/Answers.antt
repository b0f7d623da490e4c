use Rattle.std.proofs.Common.{sym, ◌∙◌}
use Rattle.std.proofs.lemmas.Result.{err_from_is_err_and}
use Rattle.http1.specs.Head.{pairs}
use Rattle.http_calls.proofs.Senders.{repeated_host, repeated_origin}
use Rattle.http_calls.proofs.read.check_sender.Goals as goal

pub returns-in_err-host : goal.returns-in_err-host
returns-in_err-host c =
    let p = err_from_is_err_and c.from_residual.result c.from_residual.ensures.1 in
    rw (p.1, p.2) (sym c.is_unknown.ensures ∙ c.if-is_unknown.false, repeated_host c.args.names.now c.args.method (pairs c.args.headers.now) c.in_err-host.field-0.0 c.in_err-host.ensures)

pub returns-in_err-origin : goal.returns-in_err-origin
returns-in_err-origin c =
    let p = err_from_is_err_and c.from_residual-in_err-origin.result c.from_residual-in_err-origin.ensures.1 in
    rw (p.1, p.2) (sym c.is_unknown.ensures ∙ c.if-is_unknown.false, repeated_origin c.args.names.now c.args.method (pairs c.args.headers.now) c.in_err-origin.field-0.0 c.in_err-origin.ensures)
