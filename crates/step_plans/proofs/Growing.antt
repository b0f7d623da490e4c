-- Outboxes that grow.
use Rattle.std.proofs.Common.{◌≡◌, ◌≤◌, ◌∙◌, Bool, List, length, take, refl, sym, ap, arith}
use Rattle.std.proofs.lemmas.List.{take-take, take_all, length-take}
use Rattle.step_plans.specs.Outboxes.{Grows, IsMark, out_of}
use Rattle.step_plans.specs.Plans.{Out}
use Rattle.leader_output.specs.declared.out.AnswerOut.{AnswerOut}
use Rattle.step_plans.specs.declared.outbox.Mark.{Mark}
use Rattle.step_plans.specs.declared.outbox.Outbox.{Outbox}
use Rattle.leader_output.specs.declared.out.Outgoing.{Outgoing}

pub begins_same : {A : Type 0} (xs ys : List A) → ys ≡ xs → take (length xs) ys ≡ xs
begins_same xs ys is = rw is (take_all (length xs) xs (omega arith))

shorter : {A : Type 0} (xs ys : List A) → take (length xs) ys ≡ xs → length xs ≤ length ys
shorter xs ys is = omega (arith, length-take (length xs) ys, ap length is)

pub begins_after : {A : Type 0} (xs ys zs : List A) → take (length xs) ys ≡ xs → take (length ys) zs ≡ ys → take (length xs) zs ≡ xs
begins_after xs ys zs first then = sym (take-take (length xs) (length ys) zs (shorter xs ys first)) ∙ ap (take (length xs)) then ∙ first

pub grows_after : (o p q : Outbox) → Grows o p → Grows p q → Grows o q
grows_after o p q first then = record {
  sends = begins_after o.sends.items p.sends.items q.sends.items first.sends then.sends;
  answers = begins_after o.answers.items p.answers.items q.answers.items first.answers then.answers;
  changes = begins_after o.changes.items p.changes.items q.changes.items first.changes then.changes;
  capacity = omega (arith, first.capacity, then.capacity);
}

-- the lists cut back to the lengths that they had
pub restored : (o p : Outbox) (m : Mark) (sends : List Outgoing) (answers : List AnswerOut) (changes : List Bool) → IsMark m o → Grows o p
    → sends ≡ take m.sends p.sends.items → answers ≡ take m.answers p.answers.items → changes ≡ take m.changes p.changes.items
    → (let now : Out = record { sends = sends; answers = answers; changes = changes } in now ≡ out_of o)
restored o p m sends answers changes mark grows s a c =
    rw s (rw a (rw c (rw mark.sends (rw mark.answers (rw mark.changes (rw grows.sends (rw grows.answers (rw grows.changes refl))))))))
