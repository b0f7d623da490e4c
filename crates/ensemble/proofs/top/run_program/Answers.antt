use Rattle.std.proofs.Common.{rules, ◌≡◌, ◌∷◌, [], ◌++◌, Err, codes, refl, inr}
use Rattle.ens_base.specs.declared.status.Status.TheVariants as Status
use Rattle.command_line.specs.declared.job.Job.TheVariants as jobs
use Rattle.ensemble.specs.Arguments.{words_given}
use Rattle.ensemble.specs.declared.arguments.ArgumentsError.TheVariants.{NotText, Memory}
use Rattle.ensemble.proofs.Endings.{did_read_at, prefix_given, given_did_read, memory_did_read, not_to_read, printed_given, unread_ends, usage_did_read}
use Rattle.ensemble.proofs.Serving.{finished, given_alone, given_asked, given_one, unread_given}
use Rattle.ensemble.proofs.top.run_program.Goals as goal

pub returns-in-Ok-words_of-clause-printed : goal.returns-in-Ok-words_of-clause-printed
returns-in-Ok-words_of-clause-printed g c = λ wrote. printed_given (words_given c.args.all.now) _ _ _ _ (c.ensemble_main.ensures.printed wrote) (search rules)

pub returns-in-Ok-words_of-clause-prefix : goal.returns-in-Ok-words_of-clause-prefix
returns-in-Ok-words_of-clause-prefix g c = λ fault. prefix_given _ _ _ _ _ (c.ensemble_main.ensures.prefix fault) (search rules)

pub returns-in-Ok-words_of-clause-input : goal.returns-in-Ok-words_of-clause-input
returns-in-Ok-words_of-clause-input g c = λ wrote. given_did_read (words_given c.args.all.now) _ _ (c.ensemble_main.ensures.input wrote) (search rules)

pub returns-in-Ok-words_of-clause-completes : goal.returns-in-Ok-words_of-clause-completes
returns-in-Ok-words_of-clause-completes g c = given_did_read (words_given c.args.all.now) _ _ c.ensemble_main.ensures.completes (search rules)

pub returns-in-Ok-words_of-clause-untouched : goal.returns-in-Ok-words_of-clause-untouched
returns-in-Ok-words_of-clause-untouched g c = not_to_read (words_given c.args.all.now) _ _ c.ensemble_main.ensures.untouched (search rules)

pub returns-in-Err-clause-prefix : goal.returns-in-Err-clause-prefix
returns-in-Err-clause-prefix g c = rw c.in-Ok.is (λ fault. (Status.Memory, _, refl, λ job asks. memory_did_read job _ _ _, c.finish.ensures.prefix fault))

pub returns-in-Err-NotText-clause-prefix : goal.returns-in-Err-NotText-clause-prefix
returns-in-Err-NotText-clause-prefix g c = λ fault.
    let given : words_given c.args.all.now ≡ Err NotText = search rules in
    (Status.Usage, codes "usage" ++ 10 ∷ [], unread_ends (words_given c.args.all.now) NotText _ _ _ given refl, λ job asks. usage_did_read job _ _ _, c.finish-in-Err-NotText.ensures.prefix fault)

pub returns-in-Err-Memory-clause-prefix : goal.returns-in-Err-Memory-clause-prefix
returns-in-Err-Memory-clause-prefix g c = λ fault.
    let given : words_given c.args.all.now ≡ Err Memory = search rules in
    (Status.Memory, codes "memory" ++ 10 ∷ [], unread_ends (words_given c.args.all.now) Memory _ _ _ given refl, λ job asks. memory_did_read job _ _ _, c.finish-in-Err-Memory.ensures.prefix fault)

pub returns-in-Err-clause-input : goal.returns-in-Err-clause-input
returns-in-Err-clause-input g c = λ wrote job asks. did_read_at job _ _ _ _ _ _ (c.finish.ensures.written wrote).0 (memory_did_read job _ _ _)

pub returns-in-Err-NotText-clause-input : goal.returns-in-Err-NotText-clause-input
returns-in-Err-NotText-clause-input g c = λ wrote job asks. did_read_at job _ _ _ _ _ _ (c.finish-in-Err-NotText.ensures.written wrote).0 (usage_did_read job _ _ _)

pub returns-in-Err-Memory-clause-input : goal.returns-in-Err-Memory-clause-input
returns-in-Err-Memory-clause-input g c = λ wrote job asks. did_read_at job _ _ _ _ _ _ (c.finish-in-Err-Memory.ensures.written wrote).0 (memory_did_read job _ _ _)

pub returns-in-Ok-words_of-clause-served : goal.returns-in-Ok-words_of-clause-served
returns-in-Ok-words_of-clause-served g c = given_asked (words_given c.args.all.now) _ (λ w. jobs.Peer w) _ c.ensemble_main.ensures.served (search rules)

pub returns-in-Ok-words_of-clause-recorded : goal.returns-in-Ok-words_of-clause-recorded
returns-in-Ok-words_of-clause-recorded g c = given_asked (words_given c.args.all.now) _ (λ w. jobs.Cluster w) _ c.ensemble_main.ensures.recorded (search rules)

pub returns-in-Err-clause-recorded : goal.returns-in-Err-clause-recorded
returns-in-Err-clause-recorded g c = λ w asks. inr ((refl, refl, refl), finished _ _ _ _ _ _ _ c.finish.ensures.written c.finish.ensures.prefix c.finish.ensures.failed)

pub returns-in-Err-NotText-clause-recorded : goal.returns-in-Err-NotText-clause-recorded
returns-in-Err-NotText-clause-recorded g c = λ w asks.
    let given : words_given c.args.all.now ≡ Err NotText = search rules in
    absurd (unread_given (words_given c.args.all.now) NotText (jobs.Cluster w) given asks)

pub returns-in-Err-Memory-clause-recorded : goal.returns-in-Err-Memory-clause-recorded
returns-in-Err-Memory-clause-recorded g c = λ w asks.
    let given : words_given c.args.all.now ≡ Err Memory = search rules in
    absurd (unread_given (words_given c.args.all.now) Memory (jobs.Cluster w) given asks)

pub returns-in-Ok-words_of-clause-alone : goal.returns-in-Ok-words_of-clause-alone
returns-in-Ok-words_of-clause-alone g c = given_alone (words_given c.args.all.now) _ _ c.ensemble_main.ensures.alone (search rules)

pub returns-in-Err-clause-served : goal.returns-in-Err-clause-served
returns-in-Err-clause-served g c = λ w asks. inr ((refl, refl, refl), finished _ _ _ _ _ _ _ c.finish.ensures.written c.finish.ensures.prefix c.finish.ensures.failed)

pub returns-in-Err-NotText-clause-served : goal.returns-in-Err-NotText-clause-served
returns-in-Err-NotText-clause-served g c = λ w asks.
    let given : words_given c.args.all.now ≡ Err NotText = search rules in
    absurd (unread_given (words_given c.args.all.now) NotText (jobs.Peer w) given asks)

pub returns-in-Err-Memory-clause-served : goal.returns-in-Err-Memory-clause-served
returns-in-Err-Memory-clause-served g c = λ w asks.
    let given : words_given c.args.all.now ≡ Err Memory = search rules in
    absurd (unread_given (words_given c.args.all.now) Memory (jobs.Peer w) given asks)

pub returns-in-Ok-words_of-clause-backed : goal.returns-in-Ok-words_of-clause-backed
returns-in-Ok-words_of-clause-backed g c = given_one (words_given c.args.all.now) _ jobs.Backup _ c.ensemble_main.ensures.backed (search rules)

pub returns-in-Err-clause-backed : goal.returns-in-Err-clause-backed
returns-in-Err-clause-backed g c = λ asks. inr ((refl, refl, refl), finished _ _ _ _ _ _ _ c.finish.ensures.written c.finish.ensures.prefix c.finish.ensures.failed)

pub returns-in-Err-NotText-clause-backed : goal.returns-in-Err-NotText-clause-backed
returns-in-Err-NotText-clause-backed g c = λ asks.
    let given : words_given c.args.all.now ≡ Err NotText = search rules in
    absurd (unread_given (words_given c.args.all.now) NotText jobs.Backup given asks)

pub returns-in-Err-Memory-clause-backed : goal.returns-in-Err-Memory-clause-backed
returns-in-Err-Memory-clause-backed g c = λ asks.
    let given : words_given c.args.all.now ≡ Err Memory = search rules in
    absurd (unread_given (words_given c.args.all.now) Memory jobs.Backup given asks)

pub returns-in-Ok-words_of-clause-restored : goal.returns-in-Ok-words_of-clause-restored
returns-in-Ok-words_of-clause-restored g c = given_one (words_given c.args.all.now) _ jobs.Restore _ c.ensemble_main.ensures.restored (search rules)

pub returns-in-Err-clause-restored : goal.returns-in-Err-clause-restored
returns-in-Err-clause-restored g c = λ asks. inr ((refl, refl, refl), finished _ _ _ _ _ _ _ c.finish.ensures.written c.finish.ensures.prefix c.finish.ensures.failed)

pub returns-in-Err-NotText-clause-restored : goal.returns-in-Err-NotText-clause-restored
returns-in-Err-NotText-clause-restored g c = λ asks.
    let given : words_given c.args.all.now ≡ Err NotText = search rules in
    absurd (unread_given (words_given c.args.all.now) NotText jobs.Restore given asks)

pub returns-in-Err-Memory-clause-restored : goal.returns-in-Err-Memory-clause-restored
returns-in-Err-Memory-clause-restored g c = λ asks.
    let given : words_given c.args.all.now ≡ Err Memory = search rules in
    absurd (unread_given (words_given c.args.all.now) Memory jobs.Restore given asks)
