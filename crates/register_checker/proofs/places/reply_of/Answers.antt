use Rattle.std.proofs.Common.{nat_eq}
use Rattle.indexmap.specs.IndexMap.{get}
use Rattle.register_checker.proofs.Ids.{no_answer, no_answer_at, reply_found, reply_none}
use Rattle.register_checker.proofs.places.reply_of.Goals as goal

pub returns-in-None-clause-none : goal.returns-in-None-clause-none
returns-in-None-clause-none c = no_answer c.args.answers.now (get nat_eq c.args.places.now.at) c.args.id c.requires.places c.requires.once c.in-None.ensures

pub returns-in-None-get-clause-none : goal.returns-in-None-get-clause-none
returns-in-None-get-clause-none c = absurd (no_answer_at c.args.answers.now (get nat_eq c.args.places.now.at) c.args.id c.requires.places c.requires.once c.in-Some.place c.in-Some.ensures c.in-None-get.ensures.lookup.3)

pub returns-in-Some-get-clause-found : goal.returns-in-Some-get-clause-found
returns-in-Some-get-clause-found c = reply_found c.args.answers.now (get nat_eq c.args.places.now.at) c.args.id c.requires.places c.requires.once c.in-Some.place c.in-Some-get.answer.now c.in-Some.ensures c.in-Some-get.ensures.lookup.1 c.done.result c.done.ensures.found

pub returns-in-Some-get-clause-none : goal.returns-in-Some-get-clause-none
returns-in-Some-get-clause-none c = reply_none c.args.answers.now (get nat_eq c.args.places.now.at) c.args.id c.requires.places c.requires.once c.in-Some.place c.in-Some-get.answer.now c.in-Some.ensures c.in-Some-get.ensures.lookup.1 c.done.result c.done.ensures.none
