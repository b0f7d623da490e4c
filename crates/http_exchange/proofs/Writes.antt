-- An answer is written as its three parts, and its text is theirs.
use Rattle.std.proofs.Common.{◌≡◌, ◌≢◌, ℕ, ◌⊎◌, Bool, true, false, not, ◌&&◌, ◌==◌, List, [], ◌++◌, length, Option, Some, None, Result, Ok, Err, OnOk, IfErr, refl, sym, ap, ◌∙◌, subst, append_assoc, inl, inr}
use Rattle.std.specs.Prelude.{IsOkAnd}
use Rattle.http1.specs.declared.error.WriteError.{WriteError}
use Rattle.http1.specs.declared.error.WriteError.TheVariants.{OutOfMemory}
use Rattle.http1.specs.declared.server.Server.{Server}
use Rattle.http1.specs.Conn.{data_refusal, data_text, after_data, finish_refusal, finish_text}
use Rattle.http1.specs.Fields.{Header}
use Rattle.http1.specs.Output.{GivesOrRefuses}
use Rattle.http1.specs.Server.{writing, with_writing, after_end, response_refusal, planned_response, after_response}
use Rattle.http_exchange.specs.Exchanges.{size_of, Written, unless, then_unless, finish, add_body, answer_text}

pub not_refused : (refusal : Option WriteError) (spare len : ℕ) (a : Unit {0}) → GivesOrRefuses refusal spare len (Ok a) → refusal ≡ None
not_refused None spare len a outcome = refl
not_refused (Some e) spare len a outcome = cc

pub refused_by : (refusal : Option WriteError) (spare len : ℕ) (e : WriteError) → GivesOrRefuses {T = Unit {0}} refusal spare len (Err e) → (e ≡ OutOfMemory) ⊎ (refusal ≡ Some e)
refused_by None spare len e outcome = inl outcome.0
refused_by (Some x) spare len e outcome = inr cc

module _ (s : Server) (bodiless : Bool) (status : ℕ) (reason : List ℕ) (headers : List Header) (body : List ℕ) where
  abbrev pub Refusal : Option WriteError
  Refusal = response_refusal s status reason (size_of body) headers

  abbrev pub head_text : List ℕ
  head_text = planned_response s status reason (size_of body) headers

  abbrev pub after_head : Server
  after_head = after_response s status (size_of body) headers

  abbrev pub has_body : Bool
  has_body = not bodiless && not (length body == 0)

  abbrev pub the_answer : Result Written WriteError
  the_answer = answer_text s bodiless status reason headers body

  pub without_body : Refusal ≡ None → has_body ≡ false → the_answer ≡ finish after_head head_text
  without_body valid none =
      ap (λ r. then_unless r (add_body has_body after_head body head_text)) valid ∙ ap (λ b. add_body b after_head body head_text) none

  pub with_body : Refusal ≡ None → has_body ≡ true → data_refusal (writing after_head) (length body) ≡ None
      → the_answer ≡ finish (with_writing after_head (after_data (writing after_head) (length body))) (head_text ++ data_text (writing after_head) body)
  with_body valid some taken =
      ap (λ r. then_unless r (add_body has_body after_head body head_text)) valid ∙ ap (λ b. add_body b after_head body head_text) some
      ∙ ap (λ r. then_unless r (finish (with_writing after_head (after_data (writing after_head) (length body))) (head_text ++ data_text (writing after_head) body))) taken

  module _ (before : Server) (text held old out : List ℕ) (new : Server) (spare len : ℕ) (sent : the_answer ≡ finish before text) (is : held ≡ old ++ text) where
    pub ended : (result : Result (Unit {0}) WriteError) → GivesOrRefuses (finish_refusal (writing before) []) spare len result
        → OnOk result (out ≡ held ++ finish_text (writing before) []) → OnOk result (new ≡ after_end before)
        → OnOk result (IsOkAnd the_answer (λ w. (out ≡ old ++ w.text) × (new ≡ w.server)))
    ended (Ok a) outcome wrote next =
        let none = not_refused (finish_refusal (writing before) []) spare len a outcome in
        let whole : Written = record { text = text ++ finish_text (writing before) []; server = after_end before } in
        subst (λ r. IsOkAnd r (λ w. (out ≡ old ++ w.text) × (new ≡ w.server))) (sym (sent ∙ ap (λ r. unless r whole) none)) (
          wrote ∙ ap (λ (t : List ℕ). t ++ finish_text (writing before) []) is ∙ append_assoc old text (finish_text (writing before) []),
          next,
        )
    ended (Err e) outcome wrote next = tt

    pub not_ended : (result : Result (Unit {0}) WriteError) → GivesOrRefuses (finish_refusal (writing before) []) spare len result
        → IfErr result (λ e. e ≢ OutOfMemory → the_answer ≡ Err e)
    not_ended (Ok a) outcome = tt
    not_ended (Err e) outcome = λ other. elim (refused_by (finish_refusal (writing before) []) spare len e outcome) [
      | inl memory ↦ absurd (other memory)
      | inr why ↦ sent ∙ ap (λ r. unless r (record { text = text ++ finish_text (writing before) []; server = after_end before })) why
    ]
