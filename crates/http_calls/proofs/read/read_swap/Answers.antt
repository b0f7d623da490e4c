use Rattle.std.proofs.Common.{◌≡◌, ℕ, false, not, ◌||◌, List, length, take, drop, Err, Ok, nat_lt, codes, sym, ap, ◌∙◌, subst}
use Rattle.std.specs.Str.{bytes_eq}
use Rattle.std.proofs.lemmas.Bool.{le-ltb}
use Rattle.std.proofs.lemmas.Result.{err_from_is_err_and}
use Rattle.ens_base.specs.declared.command.Command.{Command}
use Rattle.ens_base.specs.declared.command.Command.TheVariants.{Swap}
use Rattle.http_calls.specs.Outcomes.{◌>>=◌, Gives}
use Rattle.http_calls.specs.Targets.{escaped_value}
use Rattle.http_calls.proofs.Swaps.{slice_rest, swapped, swap_is, no_old, no_value}
use Rattle.http_calls.proofs.read.read_swap.Goals as goal

test : (query : List ℕ) (fits : nat_lt (length query) 12 ≡ false) → not (bytes_eq (take 12 query) (codes "do=swap&old=")) ≡ false
    → (nat_lt (length query) 12 || not (bytes_eq (take 12 query) (codes "do=swap&old="))) ≡ false
test query fits same = λ i. fits i || same i

pub returns-in_err-old : goal.returns-in_err-old
returns-in_err-old c =
    let query = c.args.query.now in
    let body = c.args.body.now in
    let p = err_from_is_err_and c.from_residual.result c.from_residual.ensures.1 in
    let same = ap (λ (t : List ℕ). not (bytes_eq (take 12 query) t)) (sym c.as_slice.ensures) ∙ sym c.ne.ensures ∙ c.if-ne.false in
    let is = swap_is query body (test query (le-ltb (length query) 12 c.if-query-lt12.false) same) in
    let old : Gives {T = List ℕ} (escaped_value (drop 12 query)) (Err c.in_err-old.field-0.0) = subst (λ (t : List ℕ). Gives {T = List ℕ} (escaped_value t) (Err c.in_err-old.field-0.0)) (slice_rest 12 query) c.in_err-old.ensures in
    rw (p.1, p.2) (subst (λ r. Gives {T = Command} r (Err c.in_err-old.field-0.0)) (sym is) (no_old (escaped_value (drop 12 query)) body c.in_err-old.field-0.0 old))

pub returns-in_err-read_value : goal.returns-in_err-read_value
returns-in_err-read_value c =
    let query = c.args.query.now in
    let body = c.args.body.now in
    let p = err_from_is_err_and c.from_residual-in_err-read_value.result c.from_residual-in_err-read_value.ensures.1 in
    let same = ap (λ (t : List ℕ). not (bytes_eq (take 12 query) t)) (sym c.as_slice.ensures) ∙ sym c.ne.ensures ∙ c.if-ne.false in
    let is = swap_is query body (test query (le-ltb (length query) 12 c.if-query-lt12.false) same) in
    let old : escaped_value (drop 12 query) ≡ Ok c.in_ok-old.old = rw (slice_rest 12 query) at c.in_ok-old.ensures in
    rw (p.1, p.2) (subst (λ r. Gives {T = Command} r (Err c.in_err-read_value.field-0.0)) (sym (is ∙ ap (λ o. swapped o body) old))
    (no_value c.in_ok-old.old body c.in_err-read_value.field-0.0 c.in_err-read_value.ensures))

pub returns : goal.returns
returns c =
    let query = c.args.query.now in
    let body = c.args.body.now in
    let same = ap (λ (t : List ℕ). not (bytes_eq (take 12 query) t)) (sym c.as_slice.ensures) ∙ sym c.ne.ensures ∙ c.if-ne.false in
    let is = swap_is query body (test query (le-ltb (length query) 12 c.if-query-lt12.false) same) in
    let old : escaped_value (drop 12 query) ≡ Ok c.in_ok-old.old = rw (slice_rest 12 query) at c.in_ok-old.ensures in
    is ∙ ap (λ o. swapped o body) old ∙ ap (λ v. v >>= (λ value. Ok (Swap c.in_ok-old.old value))) c.in_ok-read_value.ensures
