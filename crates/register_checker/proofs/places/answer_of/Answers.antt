use Rattle.std.proofs.Common.{nat_eq}
use Rattle.indexmap.specs.IndexMap.{get}
use Rattle.register_checker.proofs.Ids.{no_item, item_found, item_there}
use Rattle.register_checker.proofs.places.answer_of.Goals as goal

pub returns-in-None-clause-none : goal.returns-in-None-clause-none
returns-in-None-clause-none c = no_item (λ x. x.id) c.args.answers.now (get nat_eq c.args.places.now.at) c.args.id c.requires c.in-None.ensures

pub returns-in-Some-clause-found : goal.returns-in-Some-clause-found
returns-in-Some-clause-found c = item_found (λ x. x.id) c.args.answers.now (get nat_eq c.args.places.now.at) c.args.id c.requires c.in-Some.place c.get.result c.in-Some.ensures c.get.ensures.lookup.1

pub returns-in-Some-clause-none : goal.returns-in-Some-clause-none
returns-in-Some-clause-none c = item_there (λ x. x.id) c.args.answers.now (get nat_eq c.args.places.now.at) c.args.id c.requires c.in-Some.place c.get.result c.in-Some.ensures c.get.ensures.lookup.0
