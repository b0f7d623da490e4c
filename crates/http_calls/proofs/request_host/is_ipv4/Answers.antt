use Rattle.http_calls.proofs.request_host.is_ipv4.Goals as goal

pub returns-in-Err : goal.returns-in-Err
returns-in-Err c = (λ wrong. cc, λ found. absurd (c.in-Err.ensures found.0 found.1))
