-- What a world sends and prints after a step.
use Rattle.std.proofs.Common.{◌≡◌, ◌++◌, ℕ, List, [], ◌∷◌, map, append-nil, refl, ap, ◌∙◌}
use Rattle.process_laws.proofs.RealTime.{answers_append, changes_none}
use Rattle.process_laws.specs.Moments.{answers_in}
use Rattle.register_model.specs.declared.answer.Answer.{Answer}
use Rattle.step_plans.specs.LeaderOutput.{AnswerOut}
use Rattle.step_plans.specs.Plans.{Out}
use Rattle.world_spec.specs.Runs.{answer_line, change_line, printed_by}
use Rattle.process_laws.specs.Acts.{given_at}

lines_given : (number : ℕ) (answers : List AnswerOut) → answers_in (map (answer_line number) answers) ≡ map (given_at number) answers
lines_given number [] = refl
lines_given number (a ∷ answers) = ap (λ (rest : List Answer). given_at number a ∷ rest) (lines_given number answers)

-- the answers among the lines that a step prints are those that it gave
pub answers_printed : (number peer : ℕ) (out : Out) → answers_in (printed_by number peer out) ≡ map (given_at number) out.answers
answers_printed number peer out =
    answers_append (map (answer_line number) out.answers) (map (change_line number peer) out.changes)
    ∙ ap (λ (xs : List Answer). xs ++ answers_in (map (change_line number peer) out.changes)) (lines_given number out.answers)
    ∙ ap (λ (xs : List Answer). map (given_at number) out.answers ++ xs) (changes_none number peer out.changes)
    ∙ append-nil (map (given_at number) out.answers)
