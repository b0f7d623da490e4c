-- Every place that reading names lies within the bytes.
use Rattle.std.proofs.Common.{◌≡◌, ℕ, zero, suc, ◌+◌, ◌-◌, ◌<◌, ◌≤◌, ◌^◌, Bool, true, false, cond, eqb, ltb, List, [], length, take, drop, Some, Result, Ok, Err, refl, subst, arith}
use Rattle.std.proofs.lemmas.Bool.{ltb-true, ltb-false}
use Rattle.std.specs.Prelude.{slice_index, count_ones}
use Rattle.byteorder.specs.Endian.{big_number}
use Rattle.fields.specs.declared.field_error.FieldError.{FieldError}
use Rattle.fields.specs.declared.field_error.FieldError.TheVariants.{Short, Rule, Memory}
use Rattle.fields.specs.declared.fault.Fault.{Fault}
use Rattle.fields.specs.declared.fault.Fault.TheVariants.{Ended, Broken, NoMemory}
use Rattle.ens_base.specs.Results.{◌>>=◌}
use Rattle.fields.specs.Reading.{Gives}
use Rattle.fields.specs.Faults.{with_rule, plain, without_rule}
use Rattle.fields.specs.Numbers.{byte_at, number_at, run_at}
use Rattle.fields.specs.Versions.{epoch_at, version_at}
use Rattle.fields.specs.Strings.{key_at, value_at}
use Rattle.fields.specs.Views.{member_at, members_at, view_at, one_view_at, two_views_at, views_at}
use Rattle.fields.specs.Entries.{entry_at}
use Rattle.fields.proofs.GrammarLaws.{Reader, right}
use Rattle.ens_base.specs.declared.command.Command.TheVariants as commands
use Rattle.ens_base.specs.declared.reply.Reply.TheVariants as replies
use Rattle.stored_formats.specs.declared.fact.Change.TheVariants as changes
use Rattle.stored_formats.specs.declared.fact_error.FactRule.TheVariants as rules
use Rattle.stored_formats.specs.declared.object_error.ObjectRule.{ObjectRule}
use Rattle.stored_formats.specs.Objects.{held_at, content_at, object_at}
use Rattle.stored_formats.specs.declared.fact_error.FactRule.{FactRule}
use Rattle.stored_formats.specs.FactBytes.{added_at, change_at, fields_at, fact_at}
use Rattle.tree_node.specs.declared.version.TreeVersion.TheVariants.{Two}
use Rattle.tree_node.specs.Repeats.{list_at}
use Rattle.tree_node.specs.Positions.{level_at, index_at, position_at}
use Rattle.tree_node.specs.Entries.{rest_at, next_at, entries_at, digests_at}
use Rattle.wire_frames.specs.declared.message.Message.{Message}
use Rattle.wire_frames.specs.declared.message.Message.TheVariants as messages
use Rattle.wire_frames.specs.Readers.{both, made}
use Rattle.wire_frames.specs.Parts.{flag_at, optional_at, option_key_at, children_at, page_at, inner_body_at, page_body_at, damaged_body_at, body_at, greater_at, damaged_at, cause_at}
use Rattle.wire_frames.specs.Calls.{once_at, update_at, append_at, add_at, swap_at, over_at, arguments_at, call_at, value_reply_at, ok_reply_at, tagged_reply_at, reply_at}
use Rattle.wire_frames.specs.Messages.{any_fact_at, any_object_at, probe_reply_at, prepare_at, promise_at, nack_at, new_epoch_at, accepted_at, get_at, get_reply_at, put_at, put_reply_at, check_at, check_reply_at, tree_ask_at, tree_give_at, commit_at, beat_at, call_frame_at, answer_frame_at, late_message_at, message_at}
use Rattle.wire_frames.specs.Frames.{HasPlaces}

abbrev PlacesWithin : {A : Type 0} → ℕ → Result (A × ℕ) FieldError → Type 0
PlacesWithin n (Ok x) = x.1 ≤ n
PlacesWithin n (Err (Short p)) = p ≤ n
PlacesWithin n (Err (Rule p)) = p ≤ n
PlacesWithin n (Err Memory) = Unit {0}

record Within {A : Type 0} (n : ℕ) (r : Result (A × ℕ) FieldError) : Type 0 where
  within : PlacesWithin n r

abbrev Safe : {A : Type 0} → Reader A FieldError → Type 0
Safe read = (bytes : List ℕ) (at : ℕ) → at ≤ length bytes → Within (length bytes) (read bytes at)

abbrev FaultPlacesWithin : {A R : Type 0} → ℕ → Result (A × ℕ) (Fault R) → Type 0
FaultPlacesWithin n (Ok x) = x.1 ≤ n
FaultPlacesWithin n (Err (Ended p)) = p ≤ n
FaultPlacesWithin n (Err (Broken rule p)) = p ≤ n
FaultPlacesWithin n (Err NoMemory) = Unit {0}

record FaultWithin {A R : Type 0} (n : ℕ) (r : Result (A × ℕ) (Fault R)) : Type 0 where
  within : FaultPlacesWithin n r

abbrev FaultSafe : {A R : Type 0} → Reader A (Fault R) → Type 0
FaultSafe read = (bytes : List ℕ) (at : ℕ) → at ≤ length bytes → FaultWithin (length bytes) (read bytes at)

here : {A : Type 0} {n : ℕ} {x : A × ℕ} → x.1 ≤ n → Within n (Ok x)
here h = record { within = h }

rule : {A : Type 0} {n p : ℕ} → p ≤ n → Within {A = A} n (Err (Rule p))
rule h = record { within = h }

short : {A : Type 0} {n p : ℕ} → p ≤ n → Within {A = A} n (Err (Short p))
short h = record { within = h }

fault_here : {A R : Type 0} {n : ℕ} {x : A × ℕ} → x.1 ≤ n → FaultWithin {R = R} n (Ok x)
fault_here h = record { within = h }

broken : {A R : Type 0} {n p : ℕ} {r : R} → p ≤ n → FaultWithin {A = A} n (Err (Broken r p))
broken h = record { within = h }

step : {A B : Type 0} (n : ℕ) (r : Result (A × ℕ) FieldError) (f : A × ℕ → Result (B × ℕ) FieldError) → Within n r → ((x : A × ℕ) → x.1 ≤ n → Within n (f x)) → Within n (r >>= f)
step n (Ok x) f h k = k x h.within
step n (Err (Short p)) f h k = record { within = h.within }
step n (Err (Rule p)) f h k = record { within = h.within }
step n (Err Memory) f h k = record { within = tt }

either : {A : Type 0} (n : ℕ) (b : Bool) (r s : Result (A × ℕ) FieldError) → Within n r → Within n s → Within n (cond b r s)
either n true r s h k = h
either n false r s h k = k

fault_step : {A B R : Type 0} (n : ℕ) (r : Result (A × ℕ) (Fault R)) (f : A × ℕ → Result (B × ℕ) (Fault R)) → FaultWithin n r → ((x : A × ℕ) → x.1 ≤ n → FaultWithin n (f x)) → FaultWithin n (r >>= f)
fault_step n (Ok x) f h k = k x h.within
fault_step n (Err (Ended p)) f h k = record { within = h.within }
fault_step n (Err (Broken rule p)) f h k = record { within = h.within }
fault_step n (Err NoMemory) f h k = record { within = tt }

fault_either : {A R : Type 0} (n : ℕ) (b : Bool) (r s : Result (A × ℕ) (Fault R)) → FaultWithin n r → FaultWithin n s → FaultWithin n (cond b r s)
fault_either n true r s h k = h
fault_either n false r s h k = k

with_rule_within : {A R : Type 0} (rule : R) (n : ℕ) (r : Result (A × ℕ) FieldError) → Within n r → FaultWithin n (with_rule rule r)
with_rule_within rule n (Ok x) h = record { within = h.within }
with_rule_within rule n (Err (Short p)) h = record { within = h.within }
with_rule_within rule n (Err (Rule p)) h = record { within = h.within }
with_rule_within rule n (Err Memory) h = record { within = tt }

plain_within : {A : Type 0} (R : Type 0) (n : ℕ) (r : Result (A × ℕ) FieldError) → Within n r → FaultWithin n (plain {R = R} r)
plain_within R n (Ok x) h = record { within = h.within }
plain_within R n (Err (Short p)) h = record { within = h.within }
plain_within R n (Err (Rule p)) h = record { within = h.within }
plain_within R n (Err Memory) h = record { within = tt }

without_rule_within : {A R : Type 0} (n : ℕ) (r : Result (A × ℕ) (Fault R)) → FaultWithin n r → Within n (without_rule r)
without_rule_within n (Ok x) h = record { within = h.within }
without_rule_within n (Err (Ended p)) h = record { within = h.within }
without_rule_within n (Err (Broken rule p)) h = record { within = h.within }
without_rule_within n (Err NoMemory) h = record { within = tt }

byte_safe : Safe byte_at
byte_safe bytes at le = by (ltb at (length bytes)) refl
  where
    by : (b : Bool) → ltb at (length bytes) ≡ b → Within (length bytes) (cond b (right FieldError (slice_index bytes at, at + 1)) (Err (Short at)))
    by true e = let lt = ltb-true _ _ e in here (omega arith)
    by false e = short le

number_safe : (n : ℕ) → Safe (number_at n)
number_safe n bytes at le = by (ltb (length bytes - at) n) refl
  where
    by : (b : Bool) → ltb (length bytes - at) n ≡ b → Within (length bytes) (cond b (Err (Short at)) (right FieldError (big_number n (drop at bytes), at + n)))
    by true e = short le
    by false e = let long = ltb-false _ _ e in here (omega arith)

run_safe : (n : ℕ) → Safe (run_at n)
run_safe n bytes at le = by (ltb (length bytes - at) n) refl
  where
    by : (b : Bool) → ltb (length bytes - at) n ≡ b → Within (length bytes) (cond b (Err (Short at)) (right FieldError (take n (drop at bytes), at + n)))
    by true e = short le
    by false e = let long = ltb-false _ _ e in here (omega arith)

epoch_safe : Safe epoch_at
unfolding epoch_at
epoch_safe bytes at le = step _ _ _ (number_safe 8 bytes at le) (λ x h. step _ _ _ (number_safe 4 bytes x.1 h) (λ y k. here k))

version_safe : Safe version_at
unfolding version_at
version_safe bytes at le = step _ _ _ (epoch_safe bytes at le) (λ x h. step _ _ _ (number_safe 8 bytes x.1 h) (λ y k. here k))

key_safe : Safe key_at
unfolding key_at
key_safe bytes at le = step _ _ _ (byte_safe bytes at le) (λ x h. either _ _ _ _ (run_safe x.0 bytes x.1 h) (rule le))

value_safe : Safe value_at
unfolding value_at
value_safe bytes at le = step _ _ _ (number_safe 2 bytes at le) (λ x h. either _ _ _ _ (run_safe x.0 bytes x.1 h) (rule le))

member_safe : (low : ℕ) → Safe (member_at low)
unfolding member_at
member_safe low bytes at le = step _ _ _ (number_safe 4 bytes at le) (λ x h. either _ _ _ _ (here h) (rule le))

members_safe : (n low : ℕ) → Safe (members_at n low)
unfolding members_at
members_safe zero low bytes at le = here le
members_safe (suc n) low bytes at le = step _ _ _ (member_safe low bytes at le) (λ x h. step _ _ _ (members_safe n x.0 bytes x.1 h) (λ y k. here k))

view_safe : Safe view_at
unfolding view_at
view_safe bytes at le = step _ _ _ (byte_safe bytes at le) (λ x h. either _ _ _ _ (members_safe x.0 0 bytes x.1 h) (rule le))

one_safe : Safe one_view_at
unfolding one_view_at
one_safe bytes at le = step _ _ _ (view_safe bytes at le) (λ x h. here h)

two_safe : Safe two_views_at
unfolding two_views_at
two_safe bytes at le = step _ _ _ (view_safe bytes at le) (λ x h. step _ _ _ (view_safe bytes x.1 h) (λ y k. here k))

views_safe : Safe views_at
unfolding views_at
views_safe bytes at le = step _ _ _ (byte_safe bytes at le) (λ x h. either _ _ _ _ (one_safe bytes x.1 h) (either _ _ _ _ (two_safe bytes x.1 h) (rule le)))

entry_safe : Safe entry_at
unfolding entry_at
entry_safe bytes at le = step _ _ _ (key_safe bytes at le) (λ x h. step _ _ _ (version_safe bytes x.1 h) (λ y k. step _ _ _ (run_safe 16 bytes y.1 k) (λ z j. here j)))

held_safe : FaultSafe held_at
unfolding held_at
held_safe bytes at le = fault_step _ _ _ (with_rule_within _ _ _ (value_safe bytes at le)) (λ x h. fault_here h)

content_safe : FaultSafe content_at
unfolding content_at
content_safe bytes at le = fault_step _ _ _ (plain_within ObjectRule _ _ (byte_safe bytes at le)) (λ x h. fault_either _ _ _ _ (fault_here h) (fault_either _ _ _ _ (held_safe bytes x.1 h) (broken le)))

object_safe : FaultSafe object_at
unfolding object_at
object_safe bytes at le =
    fault_step _ _ _ (plain_within ObjectRule _ _ (version_safe bytes at le)) (λ x h. fault_step _ _ _ (plain_within ObjectRule _ _ (version_safe bytes x.1 h))
    (λ y k. fault_step _ _ _ (with_rule_within _ _ _ (key_safe bytes y.1 k)) (λ z j. fault_step _ _ _ (content_safe bytes z.1 j) (λ w i. fault_here i))))

any_object_safe : Safe any_object_at
any_object_safe bytes at le = without_rule_within _ _ (object_safe bytes at le)

added_safe : FaultSafe added_at
unfolding added_at
added_safe bytes at le = fault_step _ _ _ (with_rule_within _ _ _ (view_safe bytes at le)) (λ x h. fault_here h)

change_safe : FaultSafe change_at
unfolding change_at
change_safe bytes at le = fault_step _ _ _ (plain_within FactRule _ _ (byte_safe bytes at le)) (λ x h. fault_either (length bytes) (eqb x.0 0) (right (Fault FactRule) (changes.None, x.1)) (cond (eqb x.0 1) (added_at bytes x.1) (cond (eqb x.0 2) (right (Fault FactRule) (changes.Drop, x.1)) (Err (Broken rules.Tag at)))) (fault_here h) (fault_either (length bytes) (eqb x.0 1) (added_at bytes x.1) (cond (eqb x.0 2) (right (Fault FactRule) (changes.Drop, x.1)) (Err (Broken rules.Tag at))) (added_safe bytes x.1 h) (fault_either (length bytes) (eqb x.0 2) (right (Fault FactRule) (changes.Drop, x.1)) (Err (Broken rules.Tag at)) (fault_here h) (broken le))))

fields_safe : FaultSafe fields_at
unfolding fields_at
fields_safe bytes at le =
    fault_step _ _ _ (plain_within FactRule _ _ (epoch_safe bytes at le)) (λ a h1. fault_step _ _ _ (plain_within FactRule _ _ (epoch_safe bytes a.1 h1))
    (λ b h2. fault_step _ _ _ (plain_within FactRule _ _ (number_safe 8 bytes b.1 h2)) (λ c h3. fault_step _ _ _ (plain_within FactRule _ _ (number_safe 4 bytes c.1 h3))
    (λ d h4. fault_step _ _ _ (with_rule_within _ _ _ (views_safe bytes d.1 h4)) (λ e h5. fault_step _ _ _ (change_safe bytes e.1 h5) (λ f h6. fault_here h6))))))

fact_safe : FaultSafe fact_at
unfolding fact_at
fact_safe bytes at le = fault_step _ _ _ (plain_within FactRule _ _ (byte_safe bytes at le)) (λ x h. fault_either _ _ _ _ (fields_safe bytes x.1 h) (broken le))

any_fact_safe : Safe any_fact_at
any_fact_safe bytes at le = without_rule_within _ _ (fact_safe bytes at le)

level_safe : Safe (level_at Two)
unfolding level_at
level_safe bytes at le = step _ _ _ (byte_safe bytes at le) (λ x h. either _ _ _ _ (here h) (rule le))

index_safe : (level : ℕ) → Safe (index_at level)
unfolding index_at
index_safe level bytes at le = step _ _ _ (number_safe 4 bytes at le) (λ x h. either _ _ _ _ (here h) (rule le))

position_safe : Safe (position_at Two)
unfolding position_at
position_safe bytes at le = step _ _ _ (level_safe bytes at le) (λ x h. step _ _ _ (index_safe x.0 bytes x.1 h) (λ y k. here k))

rest_safe : (key : List ℕ) → Safe (rest_at key)
unfolding rest_at
rest_safe key bytes at le = step _ _ _ (version_safe bytes at le) (λ x h. step _ _ _ (run_safe 16 bytes x.1 h) (λ y k. here k))

next_safe : (low : List ℕ) → Safe (next_at low)
unfolding next_at
next_safe low bytes at le = step _ _ _ (key_safe bytes at le) (λ x h. either _ _ _ _ (rest_safe x.0 bytes x.1 h) (rule le))

list_safe : {B A : Type 0} (item : B → Reader A FieldError) (after : A → B) → ((b : B) → Safe (item b)) → (n : ℕ) (b : B) → Safe (list_at item after n b)
unfolding list_at
list_safe item after safe zero b bytes at le = here le
list_safe item after safe (suc n) b bytes at le = step _ _ _ (safe b bytes at le) (λ x h. step _ _ _ (list_safe item after safe n (after x.0) bytes x.1 h) (λ y k. here k))

entries_safe : (n : ℕ) → Safe (entries_at n)
entries_safe n = list_safe next_at (λ e. e.key) next_safe n []

digests_safe : (n : ℕ) → Safe (digests_at n)
digests_safe n = list_safe {B = Unit {0}} (λ _. run_at 16) (λ _. tt) (λ _. run_safe 16) n tt

both_safe : {A B : Type 0} {a : Reader A FieldError} {b : Reader B FieldError} → Safe a → Safe b → Safe (both a b)
both_safe p q bytes at le = step _ _ _ (p bytes at le) (λ x h. step _ _ _ (q bytes x.1 h) (λ y k. here k))

made_safe : {A B : Type 0} (make : A → B) {a : Reader A FieldError} → Safe a → Safe (made make a)
made_safe make p bytes at le = step _ _ _ (p bytes at le) (λ x h. here h)

flag_safe : Safe flag_at
unfolding flag_at
flag_safe bytes at le = step _ _ _ (byte_safe bytes at le) (λ x h. either (length bytes) (eqb x.0 0) (right FieldError (false, x.1)) (cond (eqb x.0 1) (right FieldError (true, x.1)) (Err (Rule at))) (here h) (either (length bytes) (eqb x.0 1) (right FieldError (true, x.1)) (Err (Rule at)) (here h) (rule le)))

optional_safe : {A : Type 0} {read : Reader A FieldError} → Safe read → Safe (optional_at read)
unfolding optional_at
optional_safe p bytes at le = step _ _ _ (byte_safe bytes at le) (λ x h. either _ _ _ _ (here h) (either _ _ _ _ (made_safe (λ y. Some y) p bytes x.1 h) (rule le)))

option_key_safe : Safe option_key_at
unfolding option_key_at
option_key_safe bytes at le = step _ _ _ (byte_safe bytes at le) (λ x h. either _ _ _ _ (here h) (made_safe (λ y. Some y) key_safe bytes at le))

children_safe : Safe children_at
unfolding children_at
children_safe bytes at le = step _ _ _ (number_safe 2 bytes at le) (λ x h. step _ _ _ (digests_safe (count_ones x.0) bytes x.1 h) (λ y k. here k))

page_safe : Safe page_at
unfolding page_at
page_safe bytes at le = step _ _ _ (byte_safe bytes at le) (λ x h. either _ _ _ _ (both_safe (entries_safe x.0) flag_safe bytes x.1 h) (rule le))

body_safe : Safe body_at
unfolding body_at inner_body_at page_body_at damaged_body_at
body_safe bytes at le = step _ _ _ (byte_safe bytes at le) (λ x h. either _ _ _ _ (made_safe _ children_safe bytes x.1 h) (either _ _ _ _ (made_safe _ page_safe bytes x.1 h) (either _ _ _ _ (made_safe _ position_safe bytes x.1 h) (rule le))))

cause_safe : Safe cause_at
unfolding cause_at greater_at damaged_at
cause_safe bytes at le = step _ _ _ (byte_safe bytes at le) (λ x h. either _ _ _ _ (made_safe _ epoch_safe bytes x.1 h) (either _ _ _ _ (here h) (either _ _ _ _ (made_safe _ position_safe bytes x.1 h) (rule le))))

arguments_safe : (t start : ℕ) (bytes : List ℕ) (at : ℕ) → start ≤ length bytes → at ≤ length bytes → Within (length bytes) (arguments_at t start bytes at)
unfolding arguments_at once_at update_at append_at add_at swap_at over_at
arguments_safe t start bytes at early le = (either (length bytes) (eqb t 1) (right FieldError (commands.Get, at)) (cond (eqb t 2) (once_at bytes at) (cond (eqb t 3) (update_at bytes at) (cond (eqb t 4) (append_at bytes at) (cond (eqb t 5) (add_at bytes at) (cond (eqb t 6) (swap_at bytes at) (cond (eqb t 7) (over_at bytes at) (cond (eqb t 8) (right FieldError (commands.Delete, at)) (Err (Rule start))))))))) (here le) (either (length bytes) (eqb t 2) (once_at bytes at) (cond (eqb t 3) (update_at bytes at) (cond (eqb t 4) (append_at bytes at) (cond (eqb t 5) (add_at bytes at) (cond (eqb t 6) (swap_at bytes at) (cond (eqb t 7) (over_at bytes at) (cond (eqb t 8) (right FieldError (commands.Delete, at)) (Err (Rule start)))))))) (made_safe _ value_safe bytes at le) (either (length bytes) (eqb t 3) (update_at bytes at) (cond (eqb t 4) (append_at bytes at) (cond (eqb t 5) (add_at bytes at) (cond (eqb t 6) (swap_at bytes at) (cond (eqb t 7) (over_at bytes at) (cond (eqb t 8) (right FieldError (commands.Delete, at)) (Err (Rule start))))))) (made_safe _ (both_safe version_safe value_safe) bytes at le) (either (length bytes) (eqb t 4) (append_at bytes at) (cond (eqb t 5) (add_at bytes at) (cond (eqb t 6) (swap_at bytes at) (cond (eqb t 7) (over_at bytes at) (cond (eqb t 8) (right FieldError (commands.Delete, at)) (Err (Rule start)))))) (made_safe _ value_safe bytes at le) (either (length bytes) (eqb t 5) (add_at bytes at) (cond (eqb t 6) (swap_at bytes at) (cond (eqb t 7) (over_at bytes at) (cond (eqb t 8) (right FieldError (commands.Delete, at)) (Err (Rule start))))) (made_safe _ (number_safe 8) bytes at le) (either (length bytes) (eqb t 6) (swap_at bytes at) (cond (eqb t 7) (over_at bytes at) (cond (eqb t 8) (right FieldError (commands.Delete, at)) (Err (Rule start)))) (made_safe _ (both_safe value_safe value_safe) bytes at le) (either (length bytes) (eqb t 7) (over_at bytes at) (cond (eqb t 8) (right FieldError (commands.Delete, at)) (Err (Rule start))) (made_safe _ value_safe bytes at le) (either (length bytes) (eqb t 8) (right FieldError (commands.Delete, at)) (Err (Rule start)) (here le) (rule early)))))))))

call_safe : Safe call_at
unfolding call_at
call_safe bytes at le = step _ _ _ (byte_safe bytes at le) (λ x h. either _ _ _ _ (step _ _ _ (key_safe bytes x.1 h) (λ y k. step _ _ _ (arguments_safe x.0 at bytes y.1 le k) (λ z j. here j))) (rule le))

tagged_reply_safe : (t start : ℕ) (bytes : List ℕ) (at : ℕ) → start ≤ length bytes → at ≤ length bytes → Within (length bytes) (tagged_reply_at t start bytes at)
unfolding tagged_reply_at value_reply_at ok_reply_at
tagged_reply_safe t start bytes at early le = (either (length bytes) (eqb t 1) (value_reply_at bytes at) (cond (eqb t 2) (right FieldError (replies.NotFound, at)) (cond (eqb t 3) (ok_reply_at bytes at) (cond (eqb t 4) (right FieldError (replies.Failed, at)) (cond (eqb t 5) (right FieldError (replies.Unavailable, at)) (cond (eqb t 6) (right FieldError (replies.Busy, at)) (cond (eqb t 7) (right FieldError (replies.Lost, at)) (cond (eqb t 8) (right FieldError (replies.Timeout, at)) (Err (Rule start))))))))) (made_safe _ (both_safe version_safe value_safe) bytes at le) (either (length bytes) (eqb t 2) (right FieldError (replies.NotFound, at)) (cond (eqb t 3) (ok_reply_at bytes at) (cond (eqb t 4) (right FieldError (replies.Failed, at)) (cond (eqb t 5) (right FieldError (replies.Unavailable, at)) (cond (eqb t 6) (right FieldError (replies.Busy, at)) (cond (eqb t 7) (right FieldError (replies.Lost, at)) (cond (eqb t 8) (right FieldError (replies.Timeout, at)) (Err (Rule start)))))))) (here le) (either (length bytes) (eqb t 3) (ok_reply_at bytes at) (cond (eqb t 4) (right FieldError (replies.Failed, at)) (cond (eqb t 5) (right FieldError (replies.Unavailable, at)) (cond (eqb t 6) (right FieldError (replies.Busy, at)) (cond (eqb t 7) (right FieldError (replies.Lost, at)) (cond (eqb t 8) (right FieldError (replies.Timeout, at)) (Err (Rule start))))))) (made_safe _ version_safe bytes at le) (either (length bytes) (eqb t 4) (right FieldError (replies.Failed, at)) (cond (eqb t 5) (right FieldError (replies.Unavailable, at)) (cond (eqb t 6) (right FieldError (replies.Busy, at)) (cond (eqb t 7) (right FieldError (replies.Lost, at)) (cond (eqb t 8) (right FieldError (replies.Timeout, at)) (Err (Rule start)))))) (here le) (either (length bytes) (eqb t 5) (right FieldError (replies.Unavailable, at)) (cond (eqb t 6) (right FieldError (replies.Busy, at)) (cond (eqb t 7) (right FieldError (replies.Lost, at)) (cond (eqb t 8) (right FieldError (replies.Timeout, at)) (Err (Rule start))))) (here le) (either (length bytes) (eqb t 6) (right FieldError (replies.Busy, at)) (cond (eqb t 7) (right FieldError (replies.Lost, at)) (cond (eqb t 8) (right FieldError (replies.Timeout, at)) (Err (Rule start)))) (here le) (either (length bytes) (eqb t 7) (right FieldError (replies.Lost, at)) (cond (eqb t 8) (right FieldError (replies.Timeout, at)) (Err (Rule start))) (here le) (either (length bytes) (eqb t 8) (right FieldError (replies.Timeout, at)) (Err (Rule start)) (here le) (rule early)))))))))

reply_safe : Safe reply_at
unfolding reply_at
reply_safe bytes at le = step _ _ _ (byte_safe bytes at le) (λ x h. tagged_reply_safe x.0 at bytes x.1 le h)

probe_reply_safe : Safe probe_reply_at
unfolding probe_reply_at
probe_reply_safe bytes at le = made_safe (λ x. messages.ProbeReply x) (any_fact_safe) bytes at le

prepare_safe : Safe prepare_at
unfolding prepare_at
prepare_safe bytes at le = made_safe (λ x. messages.Prepare x) (epoch_safe) bytes at le

promise_safe : Safe promise_at
unfolding promise_at
promise_safe bytes at le = made_safe (λ x. messages.Promise x.0 x.1) (both_safe epoch_safe any_fact_safe) bytes at le

nack_safe : Safe nack_at
unfolding nack_at
nack_safe bytes at le = made_safe (λ x. messages.Nack x.0 x.1) (both_safe epoch_safe cause_safe) bytes at le

new_epoch_safe : Safe new_epoch_at
unfolding new_epoch_at
new_epoch_safe bytes at le = made_safe (λ x. messages.NewEpoch x) (any_fact_safe) bytes at le

accepted_safe : Safe accepted_at
unfolding accepted_at
accepted_safe bytes at le = made_safe (λ x. messages.Accepted x.0 x.1) (both_safe epoch_safe (number_safe 8)) bytes at le

get_safe : Safe get_at
unfolding get_at
get_safe bytes at le = made_safe (λ x. messages.Get x.0 x.1.0 x.1.1) (both_safe epoch_safe (both_safe (number_safe 8) key_safe)) bytes at le

get_reply_safe : Safe get_reply_at
unfolding get_reply_at
get_reply_safe bytes at le = made_safe (λ x. messages.GetReply x.0 x.1.0 x.1.1.0 x.1.1.1.0 x.1.1.1.1) (both_safe epoch_safe (both_safe (number_safe 8) (both_safe key_safe (both_safe (optional_safe entry_safe) (optional_safe any_object_safe))))) bytes at le

put_safe : Safe put_at
unfolding put_at
put_safe bytes at le = made_safe (λ x. messages.Put x.0 x.1) (both_safe epoch_safe any_object_safe) bytes at le

put_reply_safe : Safe put_reply_at
unfolding put_reply_at
put_reply_safe bytes at le = made_safe (λ x. messages.PutReply x.0 x.1.0 x.1.1) (both_safe epoch_safe (both_safe key_safe version_safe)) bytes at le

check_safe : Safe check_at
unfolding check_at
check_safe bytes at le = made_safe (λ x. messages.Check x.0 x.1) (both_safe epoch_safe (number_safe 8)) bytes at le

check_reply_safe : Safe check_reply_at
unfolding check_reply_at
check_reply_safe bytes at le = made_safe (λ x. messages.CheckReply x.0 x.1) (both_safe epoch_safe (number_safe 8)) bytes at le

tree_ask_safe : Safe tree_ask_at
unfolding tree_ask_at
tree_ask_safe bytes at le = made_safe (λ x. messages.TreeAsk x.0 x.1.0 x.1.1) (both_safe epoch_safe (both_safe position_safe option_key_safe)) bytes at le

tree_give_safe : Safe tree_give_at
unfolding tree_give_at
tree_give_safe bytes at le = made_safe (λ x. messages.TreeGive x.0 x.1.0 x.1.1.0 x.1.1.1.0 x.1.1.1.1) (both_safe epoch_safe (both_safe position_safe (both_safe option_key_safe (both_safe flag_safe body_safe)))) bytes at le

commit_safe : Safe commit_at
unfolding commit_at
commit_safe bytes at le = made_safe (λ x. messages.Commit x) (any_fact_safe) bytes at le

beat_safe : Safe beat_at
unfolding beat_at
beat_safe bytes at le = made_safe (λ x. messages.Beat x) (epoch_safe) bytes at le

call_frame_safe : Safe call_frame_at
unfolding call_frame_at
call_frame_safe bytes at le = made_safe (λ x. messages.CallFrame x.0 x.1.0 x.1.1) (both_safe (number_safe 8) call_safe) bytes at le

answer_frame_safe : Safe answer_frame_at
unfolding answer_frame_at
answer_frame_safe bytes at le = made_safe (λ x. messages.AnswerFrame x.0 x.1) (both_safe (number_safe 8) reply_safe) bytes at le

late_safe : (t : ℕ) → Safe (late_message_at t)
unfolding late_message_at
late_safe t bytes at le = (either (length bytes) (eqb t 10) (put_at bytes at) (cond (eqb t 11) (put_reply_at bytes at) (cond (eqb t 12) (check_at bytes at) (cond (eqb t 13) (check_reply_at bytes at) (cond (eqb t 14) (tree_ask_at bytes at) (cond (eqb t 15) (tree_give_at bytes at) (cond (eqb t 16) (commit_at bytes at) (cond (eqb t 17) (beat_at bytes at) (cond (eqb t 18) (call_frame_at bytes at) (cond (eqb t 19) (answer_frame_at bytes at) (Err (Rule at))))))))))) (put_safe bytes at le)
    (either (length bytes) (eqb t 11) (put_reply_at bytes at) (cond (eqb t 12) (check_at bytes at) (cond (eqb t 13) (check_reply_at bytes at) (cond (eqb t 14) (tree_ask_at bytes at) (cond (eqb t 15) (tree_give_at bytes at) (cond (eqb t 16) (commit_at bytes at) (cond (eqb t 17) (beat_at bytes at) (cond (eqb t 18) (call_frame_at bytes at) (cond (eqb t 19) (answer_frame_at bytes at) (Err (Rule at)))))))))) (put_reply_safe bytes at le)
    (either (length bytes) (eqb t 12) (check_at bytes at) (cond (eqb t 13) (check_reply_at bytes at) (cond (eqb t 14) (tree_ask_at bytes at) (cond (eqb t 15) (tree_give_at bytes at) (cond (eqb t 16) (commit_at bytes at) (cond (eqb t 17) (beat_at bytes at) (cond (eqb t 18) (call_frame_at bytes at) (cond (eqb t 19) (answer_frame_at bytes at) (Err (Rule at))))))))) (check_safe bytes at le)
    (either (length bytes) (eqb t 13) (check_reply_at bytes at) (cond (eqb t 14) (tree_ask_at bytes at) (cond (eqb t 15) (tree_give_at bytes at) (cond (eqb t 16) (commit_at bytes at) (cond (eqb t 17) (beat_at bytes at) (cond (eqb t 18) (call_frame_at bytes at) (cond (eqb t 19) (answer_frame_at bytes at) (Err (Rule at)))))))) (check_reply_safe bytes at le)
    (either (length bytes) (eqb t 14) (tree_ask_at bytes at) (cond (eqb t 15) (tree_give_at bytes at) (cond (eqb t 16) (commit_at bytes at) (cond (eqb t 17) (beat_at bytes at) (cond (eqb t 18) (call_frame_at bytes at) (cond (eqb t 19) (answer_frame_at bytes at) (Err (Rule at))))))) (tree_ask_safe bytes at le)
    (either (length bytes) (eqb t 15) (tree_give_at bytes at) (cond (eqb t 16) (commit_at bytes at) (cond (eqb t 17) (beat_at bytes at) (cond (eqb t 18) (call_frame_at bytes at) (cond (eqb t 19) (answer_frame_at bytes at) (Err (Rule at)))))) (tree_give_safe bytes at le)
    (either (length bytes) (eqb t 16) (commit_at bytes at) (cond (eqb t 17) (beat_at bytes at) (cond (eqb t 18) (call_frame_at bytes at) (cond (eqb t 19) (answer_frame_at bytes at) (Err (Rule at))))) (commit_safe bytes at le)
    (either (length bytes) (eqb t 17) (beat_at bytes at) (cond (eqb t 18) (call_frame_at bytes at) (cond (eqb t 19) (answer_frame_at bytes at) (Err (Rule at)))) (beat_safe bytes at le)
    (either (length bytes) (eqb t 18) (call_frame_at bytes at) (cond (eqb t 19) (answer_frame_at bytes at) (Err (Rule at))) (call_frame_safe bytes at le)
    (either (length bytes) (eqb t 19) (answer_frame_at bytes at) (Err (Rule at)) (answer_frame_safe bytes at le)
    (rule le)))))))))))

message_safe : (t : ℕ) → Safe (message_at t)
unfolding message_at
message_safe t bytes at le = (either (length bytes) (eqb t 1) (right FieldError (messages.Probe, at)) (cond (eqb t 2) (probe_reply_at bytes at) (cond (eqb t 3) (prepare_at bytes at) (cond (eqb t 4) (promise_at bytes at) (cond (eqb t 5) (nack_at bytes at) (cond (eqb t 6) (new_epoch_at bytes at) (cond (eqb t 7) (accepted_at bytes at) (cond (eqb t 8) (get_at bytes at) (cond (eqb t 9) (get_reply_at bytes at) (late_message_at t bytes at))))))))) (here le)
    (either (length bytes) (eqb t 2) (probe_reply_at bytes at) (cond (eqb t 3) (prepare_at bytes at) (cond (eqb t 4) (promise_at bytes at) (cond (eqb t 5) (nack_at bytes at) (cond (eqb t 6) (new_epoch_at bytes at) (cond (eqb t 7) (accepted_at bytes at) (cond (eqb t 8) (get_at bytes at) (cond (eqb t 9) (get_reply_at bytes at) (late_message_at t bytes at)))))))) (probe_reply_safe bytes at le)
    (either (length bytes) (eqb t 3) (prepare_at bytes at) (cond (eqb t 4) (promise_at bytes at) (cond (eqb t 5) (nack_at bytes at) (cond (eqb t 6) (new_epoch_at bytes at) (cond (eqb t 7) (accepted_at bytes at) (cond (eqb t 8) (get_at bytes at) (cond (eqb t 9) (get_reply_at bytes at) (late_message_at t bytes at))))))) (prepare_safe bytes at le)
    (either (length bytes) (eqb t 4) (promise_at bytes at) (cond (eqb t 5) (nack_at bytes at) (cond (eqb t 6) (new_epoch_at bytes at) (cond (eqb t 7) (accepted_at bytes at) (cond (eqb t 8) (get_at bytes at) (cond (eqb t 9) (get_reply_at bytes at) (late_message_at t bytes at)))))) (promise_safe bytes at le)
    (either (length bytes) (eqb t 5) (nack_at bytes at) (cond (eqb t 6) (new_epoch_at bytes at) (cond (eqb t 7) (accepted_at bytes at) (cond (eqb t 8) (get_at bytes at) (cond (eqb t 9) (get_reply_at bytes at) (late_message_at t bytes at))))) (nack_safe bytes at le)
    (either (length bytes) (eqb t 6) (new_epoch_at bytes at) (cond (eqb t 7) (accepted_at bytes at) (cond (eqb t 8) (get_at bytes at) (cond (eqb t 9) (get_reply_at bytes at) (late_message_at t bytes at)))) (new_epoch_safe bytes at le)
    (either (length bytes) (eqb t 7) (accepted_at bytes at) (cond (eqb t 8) (get_at bytes at) (cond (eqb t 9) (get_reply_at bytes at) (late_message_at t bytes at))) (accepted_safe bytes at le)
    (either (length bytes) (eqb t 8) (get_at bytes at) (cond (eqb t 9) (get_reply_at bytes at) (late_message_at t bytes at)) (get_safe bytes at le)
    (either (length bytes) (eqb t 9) (get_reply_at bytes at) (late_message_at t bytes at) (get_reply_safe bytes at le)
    (late_safe t bytes at le))))))))))

places_of : (n : ℕ) (r read : Result (Message × ℕ) FieldError) → n < 2 ^ 32 → Gives r read → Within n read → HasPlaces r
places_of n (Ok x) read small g h = let le : x.1 ≤ n = (subst (Within n) g h).within in omega arith
places_of n (Err (Short p)) read small g h = let le : p ≤ n = (subst (Within n) g h).within in omega arith
places_of n (Err (Rule p)) read small g h = let le : p ≤ n = (subst (Within n) g h).within in omega arith
places_of n (Err Memory) read small g h = tt

-- what reading a message answers names places of four bytes
pub message_places : (t : ℕ) (bytes : List ℕ) (r : Result (Message × ℕ) FieldError) → 14 ≤ length bytes → length bytes < 2 ^ 32 → Gives r (message_at t bytes 14) → HasPlaces r
message_places t bytes r long small g = places_of (length bytes) r (message_at t bytes 14) small g (message_safe t bytes 14 long)
