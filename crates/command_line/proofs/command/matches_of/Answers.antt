use Rattle.std.proofs.Common.{◌≡◌, ◌∙◌, ap, ap₂, map, rules, true, List}
use Rattle.std.proofs.lemmas.Result.{IfErr-weaker, IfOk-weaker}
use Rattle.clap.specs.Simple.{App, app_of, app_of_fields, is_simple, matches_of, on_top, with_rule}
use Rattle.clap.specs.Takes.{takes}
use Rattle.clap.specs.Walk.{Text, rule_of}
use Rattle.command_line.proofs.Walk.{command, no_rules, rest, splits, takes_all, verb}
use Rattle.command_line.proofs.command.matches_of.Goals as goal

pub returns : goal.returns
returns c =
    let verb_is : rule_of c.new-verb.result ≡ verb = search rules in
    let rest_is : rule_of c.action-rest.result ≡ rest = search rules in
    let unnamed_is = ap app_of_fields c.no_binary_name.ensures ∙ ap (on_top (λ s. record s { no_binary_name = true })) c.new-2.ensures.app in
    let no_rules_is : app_of c.disable_help_flag.result ≡ no_rules =
    ap app_of_fields c.disable_help_flag.ensures ∙ ap (on_top (λ s. record s { disable_help_flag = true })) unnamed_is in
    let command_is : app_of c.in_ok-command.command ≡ command = c.in_ok-command.ensures.shape (search rules)
    ∙ ap₂ with_rule (c.in_ok-arg.ensures.shape (search rules) ∙ ap₂ with_rule no_rules_is verb_is) rest_is in
    let words : List Text = map (λ w. w.now) c.args.words.now in
    let parse = c.try_get_matches_from in
    record {
      ok = IfOk-weaker parse.result _ _
          (λ m h plain. splits m words plain ((h (ap is_simple command_is)).0 ∙ ap (λ (a : App). matches_of a words) command_is)) parse.ensures.matches;
      err = IfErr-weaker parse.result _ _ (λ e h plain. h (ap (λ (a : App). takes a words) command_is ∙ takes_all words plain)) parse.ensures.passes;
    }
