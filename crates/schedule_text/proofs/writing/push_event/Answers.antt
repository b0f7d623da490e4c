use Rattle.std.proofs.Common.{string_bytes}
use Rattle.schedule_text.specs.Keywords.{keyword_word}
use Rattle.schedule_text.specs.Spelling.{argument_words, event_words}
use Rattle.schedule_text.proofs.Spaced.{line_written}
use Rattle.schedule_text.proofs.writing.push_event.Goals as goal

pub returns : goal.returns
returns c =
    line_written c.push_arguments.result (string_bytes c.args.out.now) _ _ (keyword_word c.keyword.result) (argument_words c.args.event.now) (event_words c.args.event.now)
    (rw c.word.ensures at c.in_ok-push_str.ensures.bytes) c.push_arguments.ensures c.keyword.ensures
