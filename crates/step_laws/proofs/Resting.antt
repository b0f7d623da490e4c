-- The keys that a tick makes idle.
use Rattle.std.proofs.Common.{◌≡◌, ◌∙◌, ap, sym, refl, ℕ, List, [], ◌∷◌, ◌++◌, append_assoc, append-nil, Option, Some, None}
use Rattle.ens_base.specs.declared.reply.Reply.TheVariants as replies
use Rattle.call_table.specs.declared.waiting.DueCall.{DueCall}
use Rattle.leader_output.specs.Outs.{and_answer, and_key}
use Rattle.leader_output.specs.declared.out.LeadOut.{LeadOut}
use Rattle.leader.specs.Ticks.{and_key_if, timed_out}

abbrev pub key_list : Option (List ℕ) → List (List ℕ)
key_list None = []
key_list (Some key) = key ∷ []

-- the keys whose running call is among these
abbrev pub keys_of_due : List DueCall → List (List ℕ)
keys_of_due [] = []
keys_of_due (d ∷ ds) = key_list d.running ++ keys_of_due ds

-- the keys on which the next rule runs, once these calls are answered
pub timed_out_keys : (ds : List DueCall) (o : LeadOut) → (timed_out ds o).keys ≡ o.keys ++ keys_of_due ds
timed_out_keys [] o = sym (append-nil o.keys)
timed_out_keys (d ∷ ds) o = by_key d.running refl (timed_out_keys ds)
  where
    by_key : (key : Option (List ℕ)) → d.running ≡ key → ((p : LeadOut) → (timed_out ds p).keys ≡ p.keys ++ keys_of_due ds) → (timed_out ds (and_key_if key (and_answer d.from d.id replies.Timeout o))).keys ≡ o.keys ++ (key_list d.running ++ keys_of_due ds)
    by_key None e later = later (and_answer d.from d.id replies.Timeout o) ∙ ap (λ (k : Option (List ℕ)). o.keys ++ (key_list k ++ keys_of_due ds)) (sym e)
    by_key (Some key) e later =
        later (and_key key (and_answer d.from d.id replies.Timeout o)) ∙ append_assoc o.keys (key ∷ []) (keys_of_due ds) ∙ ap (λ (k : Option (List ℕ)). o.keys ++ (key_list k ++ keys_of_due ds)) (sym e)
