use Rattle.std.proofs.Common.{◌≡◌, Err, ap, ◌∙◌}
use Rattle.lexemes.specs.Words.{words_of}
use Rattle.scripts.specs.Events.{in_ensemble, own_event}
use Rattle.scripts.proofs.Lines.{at_words}
use Rattle.scripts.proofs.event_lines.at_line.Goals as goal

pub returns-in-Err-Bad : goal.returns-in-Err-Bad
returns-in-Err-Bad c =
    let bad : own_event c.args.peers (words_of c.in-Some.line.now) ≡ Err c.in-Err-Bad.cause = rw c.in-Err-Bad.field-0-is at c.in-Err-Bad.ensures in
    at_words c.args.peers (words_of c.args.words.now) c.in-Some.word.now c.in-Some.line.now c.in-Some.ensures.parts ∙ ap (in_ensemble c.in-Some.word.now) bad ∙ c.first_cause.ensures
