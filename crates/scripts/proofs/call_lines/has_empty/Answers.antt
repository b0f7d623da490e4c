use Rattle.std.proofs.Common.{◌≡◌, ◌==◌, length, sym, ◌∙◌, rules, tests}
use Rattle.std.specs.List.{list_any}
use Rattle.std.proofs.lemmas.Iterator.{YieldsList-from_slice}
use Rattle.std.proofs.lemmas.Iterator.Search.{any_from_yields_List}
use Rattle.schedule_text.proofs.Lookups.{list_any-map}
use Rattle.scripts.proofs.call_lines.has_empty.Goals as goal

pub returns : goal.returns
returns c =
    let any : c.any.result ≡ list_any (λ word. length word.now == 0) c.args.words.now =
    any_from_yields_List (λ word. length word.now == 0) _ _ c.any.result c.any.ensures.ran (YieldsList-from_slice c.args.words.now (cc)) (λ x b q called. search (rules, tests)) in
    any ∙ sym (list_any-map (λ word. length word == 0) (λ word. word.now) c.args.words.now)
