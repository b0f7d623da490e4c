-- What statuses say, case by case.
use Rattle.std.proofs.Common.{◌≡◌, ◌↔◌, ℕ, Bool, true, false, cond, List, Option, Some, None, IsTrue, refl, arith}
use Rattle.ens_base.specs.declared.command.Command.{Command}
use Rattle.ens_base.specs.declared.command.Command.TheVariants.{Get, PutOnce, Update, Append, Add, Swap, Over, Delete}
use Rattle.ens_base.specs.declared.reply.Reply.{Reply}
use Rattle.ens_base.specs.declared.reply.Reply.TheVariants.{Value, NotFound, Ok, Failed, Unavailable, Busy, Lost, Timeout}
use Rattle.http_calls.specs.declared.answer.Leader.{Leader}
use Rattle.http_calls.specs.declared.call.Call.{Call}
use Rattle.http_calls.specs.declared.problem.Problem.{Problem}
use Rattle.http_calls.specs.declared.problem.Problem.TheVariants.{BadTarget, BadKey, BadParameter, BadCondition, BadNumber, BadBody, RepeatedField, ForeignOrigin, UnknownPath, UnknownMethod, TooLong, UnknownHost, UnknownCondition, Late, Full, Silent}
use Rattle.http_calls.specs.Answers.{Answered, is_known, done_status, failed_status, at_leader, answer_of, problem_answer}
use Rattle.http_calls.specs.Meanings.{Completed, Unchanged, NoEffect, meaning_of, status_says, is_success, is_silent}

known_says : (b : Bool) (x y : Answered) → status_says x.status ≡ Some Completed → status_says y.status ≡ Some Completed
    → status_says (cond b x y).status ≡ Some Completed
known_says true x y a b = a
known_says false x y a b = b

done_says : (c : Command) → status_says (done_status c) ≡ Some Completed
done_says Get = refl
done_says (PutOnce value) = refl
done_says (Update v value) = refl
done_says (Append value) = refl
done_says (Add n) = refl
done_says (Swap old value) = refl
done_says (Over value) = refl
done_says Delete = refl

failed_says : (c : Command) → status_says (failed_status c) ≡ Some Unchanged
failed_says Get = refl
failed_says (PutOnce value) = refl
failed_says (Update v value) = refl
failed_says (Append value) = refl
failed_says (Add n) = refl
failed_says (Swap old value) = refl
failed_says (Over value) = refl
failed_says Delete = refl

leader_says : (target : List ℕ) (peer : ℕ) (url : Option (List ℕ)) → status_says (at_leader target peer url).status ≡ Some NoEffect
leader_says target peer None = refl
leader_says target peer (Some url) = refl

pub says : (call : Call) (target : List ℕ) (reply : Reply) (leader : Option Leader) → status_says (answer_of call target reply leader).status ≡ Some (meaning_of reply)
says call target (Value v value) leader = known_says (is_known call.known v) _ _ refl refl
says call target NotFound leader = refl
says call target (Ok v) leader = done_says call.command
says call target Failed leader = failed_says call.command
says call target Unavailable None = refl
says call target Unavailable (Some leader) = leader_says target leader.peer leader.url
says call target Busy leader = refl
says call target Lost leader = refl
says call target Timeout leader = refl

pub no_success : (p : Problem) → is_success (problem_answer p).status ≡ false
no_success BadTarget = refl
no_success BadKey = refl
no_success BadParameter = refl
no_success BadCondition = refl
no_success BadNumber = refl
no_success BadBody = refl
no_success RepeatedField = refl
no_success ForeignOrigin = refl
no_success UnknownPath = refl
no_success (UnknownMethod allowed) = refl
no_success TooLong = refl
no_success UnknownHost = refl
no_success UnknownCondition = refl
no_success Late = refl
no_success Full = refl
no_success Silent = refl

-- two statuses that differ, and a word that is false
apart : (n : ℕ) → ¬ (n ≡ 504) → (n ≡ 504) ↔ IsTrue false
apart n other = (λ is. absurd (other is), λ wrong. cc)

pub silence : (p : Problem) → ((problem_answer p).status ≡ 504) ↔ IsTrue (is_silent p)
silence BadTarget = apart 400 (λ is. omega (arith, is))
silence BadKey = apart 400 (λ is. omega (arith, is))
silence BadParameter = apart 400 (λ is. omega (arith, is))
silence BadCondition = apart 400 (λ is. omega (arith, is))
silence BadNumber = apart 400 (λ is. omega (arith, is))
silence BadBody = apart 400 (λ is. omega (arith, is))
silence RepeatedField = apart 400 (λ is. omega (arith, is))
silence ForeignOrigin = apart 403 (λ is. omega (arith, is))
silence UnknownPath = apart 404 (λ is. omega (arith, is))
silence (UnknownMethod allowed) = apart 405 (λ is. omega (arith, is))
silence TooLong = apart 413 (λ is. omega (arith, is))
silence UnknownHost = apart 421 (λ is. omega (arith, is))
silence UnknownCondition = apart 501 (λ is. omega (arith, is))
silence Late = apart 503 (λ is. omega (arith, is))
silence Full = apart 507 (λ is. omega (arith, is))
silence Silent = (λ is. refl, λ is. refl)
