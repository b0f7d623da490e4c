use Rattle.std.proofs.Common.{◌≡◌, ◌∙◌, rules, tests}
use Rattle.std.specs.List.{list_any}
use Rattle.std.proofs.lemmas.Iterator.{YieldsList-from_slice}
use Rattle.std.proofs.lemmas.Iterator.Search.{any_from_yields_List}
use Rattle.clap.proofs.WalkLemmas.{list_any-map}
use Rattle.command_line.specs.Split.{is_option}
use Rattle.command_line.proofs.command.has_option.Goals as goal

pub returns : goal.returns
returns c =
    let any : c.any.result ≡ list_any (λ word. is_option word.now) c.args.words.now =
    any_from_yields_List (λ word. is_option word.now) _ _ c.any.result c.any.ensures.ran (YieldsList-from_slice c.args.words.now (cc)) (λ x b q called. search (rules, tests)) in
    any ∙ list_any-map is_option (λ word. word.now) c.args.words.now
