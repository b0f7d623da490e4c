-- Datagrams, as they go over the link below.
use Rattle.std.proofs.Common.{◌≡◌, ◌∙◌, ◌+◌, ◌<◌, ◌≤◌, ◌++◌, ℕ, suc, append_assoc, List, [], ◌∷◌, Result, Ok, Err, sym, ap, arith, length, drop, get_or}
use Rattle.std.specs.Prelude.{OnErr}
use Rattle.std.proofs.lemmas.List.{append-nil, at_drop_all, at_drop_more}
use Rattle.repeat_link.specs.Sendings.{part_datagram, first_parts, due_of, all_due}
use Rattle.repeat_link.specs.declared.header.Header.{Header}
use Rattle.repeat_link.specs.declared.send_queue.Queued.{Queued}

plus_one : (n : ℕ) → suc n ≡ n + 1
plus_one n = omega arith

pub one_part_more : (h : Header) (count n : ℕ) (frame : List ℕ) (out parts : List (List ℕ)) → parts ≡ out ++ first_parts h count n frame → parts ++ part_datagram h count n frame ∷ [] ≡ out ++ first_parts h count (n + 1) frame
one_part_more h count n frame out parts is = ap (λ ps. ps ++ part_datagram h count n frame ∷ []) is ∙ append_assoc out (first_parts h count n frame) _ ∙ ap (λ k. out ++ first_parts h count k frame) (plus_one n)

pub one_frame_more : (h : Header) (first now : ℕ) (qs : List Queued) (i : ℕ) (q : Queued) (out : List (List ℕ)) → i < length qs → q ≡ get_or qs i q → out ++ all_due h first now (drop i qs) ≡ all_due h first now qs → (out ++ due_of h first now q) ++ all_due h first now (drop (i + 1) qs) ≡ all_due h first now qs
one_frame_more h first now qs i q out within is so_far =
    append_assoc out (due_of h first now q) _
    ∙ ap (λ ds. out ++ ds) (sym (at_drop_more (all_due h first now) qs i q within ∙ ap (λ x. due_of h first now x ++ all_due h first now (drop (i + 1) qs)) (sym is)))
    ∙ so_far

pub no_frame_more : (h : Header) (first now : ℕ) (qs : List Queued) (i : ℕ) (out : List (List ℕ)) → length qs ≤ i → out ++ all_due h first now (drop i qs) ≡ all_due h first now qs → out ≡ all_due h first now qs
no_frame_more h first now qs i out end so_far = sym (append-nil out) ∙ ap (λ ds. out ++ ds) (sym (at_drop_all (all_due h first now) qs i end)) ∙ so_far

-- a fact that holds, after an error too
pub on_err : {T E P : Type 0} (r : Result T E) → P → OnErr r P
on_err (Ok x) holds = tt
on_err (Err e) holds = holds
