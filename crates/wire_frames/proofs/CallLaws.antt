-- The grammars of commands and replies.
use Rattle.std.proofs.Common.{◌≡◌, ℕ, ◌<◌, ◌≤◌, true, List, refl, sym, ap, ◌∙◌, arith}
use Rattle.std.specs.Prelude.{nat_le, ◌&&◌}
use Rattle.std.proofs.lemmas.Bool.Decides.{nat_tests}
use Rattle.ens_base.specs.declared.epoch.Version.{Version}
use Rattle.ens_base.specs.declared.command.Command.{Command}
use Rattle.ens_base.specs.declared.command.Command.TheVariants as commands
use Rattle.ens_base.specs.declared.reply.Reply.{Reply}
use Rattle.ens_base.specs.declared.reply.Reply.TheVariants as replies
use Rattle.fields.specs.declared.field_error.FieldError.TheVariants.{Rule}
use Rattle.fields.specs.Grammar.{IsGrammar}
use Rattle.fields.proofs.GrammarLaws.{valid_as, field_then, tested}
use Rattle.fields.proofs.NumberLaws.{byte_grammar, u64_grammar}
use Rattle.fields.proofs.FieldLaws.{version_grammar, key_grammar, value_grammar}
use Rattle.ens_base.specs.Limits.{IsCommand}
use Rattle.wire_frames.specs.Calls.{command_tag, arguments_spelling, once_at, update_at, append_at, add_at, swap_at, over_at, arguments_at, IsCall, call_spelling, call_at, IsReply, reply_tag, reply_rest, reply_spelling, value_reply_at, ok_reply_at, tagged_reply_at, reply_at}
use Rattle.wire_frames.proofs.ReaderLaws.{both_grammar, variant_grammar, empty_grammar, choice, no_choice, tagged_grammar}

command_1 : (m : Command) → command_tag m ≡ 1 → commands.Get ≡ m
command_1 commands.Get e = refl
command_1 m e = absurd (omega arith)

command_2 : (m : Command) → command_tag m ≡ 2 → (x : List ℕ) × (commands.PutOnce x ≡ m)
command_2 (commands.PutOnce value) e = (value, refl)
command_2 m e = absurd (omega arith)

command_3 : (m : Command) → command_tag m ≡ 3 → (x : Version × List ℕ) × (commands.Update x.0 x.1 ≡ m)
command_3 (commands.Update stamp value) e = ((stamp, value), refl)
command_3 m e = absurd (omega arith)

command_4 : (m : Command) → command_tag m ≡ 4 → (x : List ℕ) × (commands.Append x ≡ m)
command_4 (commands.Append value) e = (value, refl)
command_4 m e = absurd (omega arith)

command_5 : (m : Command) → command_tag m ≡ 5 → (x : ℕ) × (commands.Add x ≡ m)
command_5 (commands.Add number) e = (number, refl)
command_5 m e = absurd (omega arith)

command_6 : (m : Command) → command_tag m ≡ 6 → (x : List ℕ × List ℕ) × (commands.Swap x.0 x.1 ≡ m)
command_6 (commands.Swap old new) e = ((old, new), refl)
command_6 m e = absurd (omega arith)

command_7 : (m : Command) → command_tag m ≡ 7 → (x : List ℕ) × (commands.Over x ≡ m)
command_7 (commands.Over value) e = (value, refl)
command_7 m e = absurd (omega arith)

command_8 : (m : Command) → command_tag m ≡ 8 → commands.Delete ≡ m
command_8 commands.Delete e = refl
command_8 m e = absurd (omega arith)

command_other : (t : ℕ) → (t ≡ 1 → ⊥) → (t ≡ 2 → ⊥) → (t ≡ 3 → ⊥) → (t ≡ 4 → ⊥) → (t ≡ 5 → ⊥) → (t ≡ 6 → ⊥) → (t ≡ 7 → ⊥) → (t ≡ 8 → ⊥) → (x : Command) → command_tag x ≡ t → ⊥
command_other t n1 n2 n3 n4 n5 n6 n7 n8 commands.Get e = n1 (sym e)
command_other t n1 n2 n3 n4 n5 n6 n7 n8 (commands.PutOnce value) e = n2 (sym e)
command_other t n1 n2 n3 n4 n5 n6 n7 n8 (commands.Update stamp value) e = n3 (sym e)
command_other t n1 n2 n3 n4 n5 n6 n7 n8 (commands.Append value) e = n4 (sym e)
command_other t n1 n2 n3 n4 n5 n6 n7 n8 (commands.Add number) e = n5 (sym e)
command_other t n1 n2 n3 n4 n5 n6 n7 n8 (commands.Swap old new) e = n6 (sym e)
command_other t n1 n2 n3 n4 n5 n6 n7 n8 (commands.Over value) e = n7 (sym e)
command_other t n1 n2 n3 n4 n5 n6 n7 n8 commands.Delete e = n8 (sym e)

pub arguments_grammar : (t start : ℕ) → IsGrammar (λ m. (command_tag m ≡ t) × IsCommand m) arguments_spelling (arguments_at t start)
unfolding arguments_at once_at update_at append_at add_at swap_at over_at
arguments_grammar t start = choice command_tag IsCommand arguments_spelling t 1 (empty_grammar command_tag IsCommand arguments_spelling commands.Get 1 refl command_1 tt refl)
    (λ n1. choice command_tag IsCommand arguments_spelling t 2 (variant_grammar (value_grammar) command_tag IsCommand arguments_spelling (λ x. commands.PutOnce x) 2 (λ _. refl) command_2 (λ x v. v) (λ x v. v) (λ _. refl))
    (λ n2. choice command_tag IsCommand arguments_spelling t 3 (variant_grammar (both_grammar version_grammar value_grammar) command_tag IsCommand arguments_spelling (λ x. commands.Update x.0 x.1) 3 (λ _. refl) command_3 (λ x v. v) (λ x v. v) (λ _. refl))
    (λ n3. choice command_tag IsCommand arguments_spelling t 4 (variant_grammar (value_grammar) command_tag IsCommand arguments_spelling (λ x. commands.Append x) 4 (λ _. refl) command_4 (λ x v. v) (λ x v. v) (λ _. refl))
    (λ n4. choice command_tag IsCommand arguments_spelling t 5 (variant_grammar (u64_grammar) command_tag IsCommand arguments_spelling (λ x. commands.Add x) 5 (λ _. refl) command_5 (λ x v. v) (λ x v. v) (λ _. refl))
    (λ n5. choice command_tag IsCommand arguments_spelling t 6 (variant_grammar (both_grammar value_grammar value_grammar) command_tag IsCommand arguments_spelling (λ x. commands.Swap x.0 x.1) 6 (λ _. refl) command_6 (λ x v. v) (λ x v. v) (λ _. refl))
    (λ n6. choice command_tag IsCommand arguments_spelling t 7 (variant_grammar (value_grammar) command_tag IsCommand arguments_spelling (λ x. commands.Over x) 7 (λ _. refl) command_7 (λ x v. v) (λ x v. v) (λ _. refl))
    (λ n7. choice command_tag IsCommand arguments_spelling t 8 (empty_grammar command_tag IsCommand arguments_spelling commands.Delete 8 refl command_8 tt refl)
    (λ n8. no_choice command_tag IsCommand arguments_spelling t (λ _. Rule start) (command_other t n1 n2 n3 n4 n5 n6 n7 n8)))))))))

in_range : (n : ℕ) → (1 ≤ n) × (n ≤ 8) → nat_le 1 n && nat_le n 8 ≡ true
in_range n h = grind (arith, nat_tests)

command_range : (x : Command) → (1 ≤ command_tag x) × (command_tag x ≤ 8)
command_range commands.Get = (omega arith, omega arith)
command_range (commands.PutOnce value) = (omega arith, omega arith)
command_range (commands.Update stamp value) = (omega arith, omega arith)
command_range (commands.Append value) = (omega arith, omega arith)
command_range (commands.Add number) = (omega arith, omega arith)
command_range (commands.Swap old new) = (omega arith, omega arith)
command_range (commands.Over value) = (omega arith, omega arith)
command_range commands.Delete = (omega arith, omega arith)

pub call_grammar : IsGrammar IsCall call_spelling call_at
unfolding call_at
call_grammar =
    let parts : IsGrammar (λ (x : List ℕ × Command). Unit {0} × ((command_tag x.1 < 256) × IsCall x)) call_spelling call_at =
    field_then byte_grammar (λ (x : List ℕ × Command). command_tag x.1) _
    (λ t start _. valid_as
    (λ x h. ((tt, h.1.1.0), (h.1.0, h.1.1.1)))
    (λ x h. (ap (λ (n : ℕ). nat_le 1 n && nat_le n 8) (sym h.0.1) ∙ in_range (command_tag x.1) (command_range x.1), (h.1.0, (h.0.1, h.1.1))))
    (tested (nat_le 1 t && nat_le t 8) (Rule start) (both_grammar key_grammar (arguments_grammar t start)))) in
    valid_as (λ x h. h.1.1) (λ x h. (tt, (omega (arith, (command_range x.1).1), h))) parts

reply_1 : (m : Reply) → reply_tag m ≡ 1 → (x : Version × List ℕ) × (replies.Value x.0 x.1 ≡ m)
reply_1 (replies.Value stamp value) e = ((stamp, value), refl)
reply_1 m e = absurd (omega arith)

reply_2 : (m : Reply) → reply_tag m ≡ 2 → replies.NotFound ≡ m
reply_2 replies.NotFound e = refl
reply_2 m e = absurd (omega arith)

reply_3 : (m : Reply) → reply_tag m ≡ 3 → (x : Version) × (replies.Ok x ≡ m)
reply_3 (replies.Ok stamp) e = (stamp, refl)
reply_3 m e = absurd (omega arith)

reply_4 : (m : Reply) → reply_tag m ≡ 4 → replies.Failed ≡ m
reply_4 replies.Failed e = refl
reply_4 m e = absurd (omega arith)

reply_5 : (m : Reply) → reply_tag m ≡ 5 → replies.Unavailable ≡ m
reply_5 replies.Unavailable e = refl
reply_5 m e = absurd (omega arith)

reply_6 : (m : Reply) → reply_tag m ≡ 6 → replies.Busy ≡ m
reply_6 replies.Busy e = refl
reply_6 m e = absurd (omega arith)

reply_7 : (m : Reply) → reply_tag m ≡ 7 → replies.Lost ≡ m
reply_7 replies.Lost e = refl
reply_7 m e = absurd (omega arith)

reply_8 : (m : Reply) → reply_tag m ≡ 8 → replies.Timeout ≡ m
reply_8 replies.Timeout e = refl
reply_8 m e = absurd (omega arith)

reply_other : (t : ℕ) → (t ≡ 1 → ⊥) → (t ≡ 2 → ⊥) → (t ≡ 3 → ⊥) → (t ≡ 4 → ⊥) → (t ≡ 5 → ⊥) → (t ≡ 6 → ⊥) → (t ≡ 7 → ⊥) → (t ≡ 8 → ⊥) → (x : Reply) → reply_tag x ≡ t → ⊥
reply_other t n1 n2 n3 n4 n5 n6 n7 n8 (replies.Value stamp value) e = n1 (sym e)
reply_other t n1 n2 n3 n4 n5 n6 n7 n8 replies.NotFound e = n2 (sym e)
reply_other t n1 n2 n3 n4 n5 n6 n7 n8 (replies.Ok stamp) e = n3 (sym e)
reply_other t n1 n2 n3 n4 n5 n6 n7 n8 replies.Failed e = n4 (sym e)
reply_other t n1 n2 n3 n4 n5 n6 n7 n8 replies.Unavailable e = n5 (sym e)
reply_other t n1 n2 n3 n4 n5 n6 n7 n8 replies.Busy e = n6 (sym e)
reply_other t n1 n2 n3 n4 n5 n6 n7 n8 replies.Lost e = n7 (sym e)
reply_other t n1 n2 n3 n4 n5 n6 n7 n8 replies.Timeout e = n8 (sym e)

reply_small : (x : Reply) → reply_tag x < 256
reply_small (replies.Value stamp value) = omega arith
reply_small replies.NotFound = omega arith
reply_small (replies.Ok stamp) = omega arith
reply_small replies.Failed = omega arith
reply_small replies.Unavailable = omega arith
reply_small replies.Busy = omega arith
reply_small replies.Lost = omega arith
reply_small replies.Timeout = omega arith

tagged_reply_grammar : (t start : ℕ) → IsGrammar (λ m. (reply_tag m ≡ t) × IsReply m) reply_rest (tagged_reply_at t start)
unfolding tagged_reply_at value_reply_at ok_reply_at
tagged_reply_grammar t start = choice reply_tag IsReply reply_rest t 1 (variant_grammar (both_grammar version_grammar value_grammar) reply_tag IsReply reply_rest (λ x. replies.Value x.0 x.1) 1 (λ _. refl) reply_1 (λ x v. v) (λ x v. v) (λ _. refl))
    (λ n1. choice reply_tag IsReply reply_rest t 2 (empty_grammar reply_tag IsReply reply_rest replies.NotFound 2 refl reply_2 tt refl)
    (λ n2. choice reply_tag IsReply reply_rest t 3 (variant_grammar (version_grammar) reply_tag IsReply reply_rest (λ x. replies.Ok x) 3 (λ _. refl) reply_3 (λ x v. v) (λ x v. v) (λ _. refl))
    (λ n3. choice reply_tag IsReply reply_rest t 4 (empty_grammar reply_tag IsReply reply_rest replies.Failed 4 refl reply_4 tt refl)
    (λ n4. choice reply_tag IsReply reply_rest t 5 (empty_grammar reply_tag IsReply reply_rest replies.Unavailable 5 refl reply_5 tt refl)
    (λ n5. choice reply_tag IsReply reply_rest t 6 (empty_grammar reply_tag IsReply reply_rest replies.Busy 6 refl reply_6 tt refl)
    (λ n6. choice reply_tag IsReply reply_rest t 7 (empty_grammar reply_tag IsReply reply_rest replies.Lost 7 refl reply_7 tt refl)
    (λ n7. choice reply_tag IsReply reply_rest t 8 (empty_grammar reply_tag IsReply reply_rest replies.Timeout 8 refl reply_8 tt refl)
    (λ n8. no_choice reply_tag IsReply reply_rest t (λ _. Rule start) (reply_other t n1 n2 n3 n4 n5 n6 n7 n8)))))))))

pub reply_grammar : IsGrammar IsReply reply_spelling reply_at
unfolding reply_at
reply_grammar = tagged_grammar reply_tag IsReply reply_rest reply_small _ (λ t start. tagged_reply_grammar t start)
