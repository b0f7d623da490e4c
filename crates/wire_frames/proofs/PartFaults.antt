-- The first faults of the parts of messages, of calls and of replies.
use Rattle.std.proofs.Common.{◌≡◌, ℕ, ◌+◌, ◌≤◌, ◌<◌, Bool, true, false, cond, eqb, ltb, List, length, take, get_or, None, Some, Ok, Err, refl, sym, ap, ◌∙◌, arith, inl, inr, length-take}
use Rattle.std.specs.Prelude.{nat_le, count_ones, ◌&&◌}
use Rattle.std.proofs.lemmas.Bool.{eqb-true, ltb-true, lt-ltb}
use Rattle.std.proofs.lemmas.Bool.Decides.{nat_tests}
use Rattle.std.proofs.lemmas.List.{get_or-take}
use Rattle.ens_base.specs.declared.command.Command.TheVariants as commands
use Rattle.ens_base.specs.declared.reply.Reply.TheVariants as replies
use Rattle.fields.specs.declared.field_error.FieldError.{FieldError}
use Rattle.fields.specs.declared.field_error.FieldError.TheVariants.{Short, Rule}
use Rattle.fields.specs.Grammar.{IsGrammar}
use Rattle.fields.specs.Strings.{key_at}
use Rattle.fields.proofs.GrammarLaws.{Reader}
use Rattle.fields.proofs.NumberLaws.{byte_grammar, u16_grammar}
use Rattle.fields.proofs.FieldLaws.{key_grammar, value_grammar, version_grammar}
use Rattle.fields.proofs.FirstFaultLaws.{IsOne, Faults, IsRule, ok_no_err, faultless, faults_then, faults_last}
use Rattle.fields.proofs.FieldFaults.{Follows, or_else, rejects, byte_faults, number_faults, epoch_faults, version_faults, key_faults, value_faults}
use Rattle.tree_node.specs.declared.version.TreeVersion.TheVariants.{Two}
use Rattle.tree_node.specs.declared.body.TreeBody.TheVariants as bodies
use Rattle.tree_node.proofs.EntryLaws.{entries_grammar}
use Rattle.tree_node.proofs.NodeFaults.{position_faults, entries_faults, digests_faults}
use Rattle.wire_frames.specs.declared.message.NackCause.TheVariants as causes
use Rattle.wire_frames.specs.Readers.{both, made}
use Rattle.wire_frames.specs.Parts.{flag_at, optional_at, option_key_at, children_at, page_at, inner_body_at, page_body_at, damaged_body_at, body_at, greater_at, damaged_at, cause_at}
use Rattle.wire_frames.specs.Calls.{once_at, update_at, append_at, add_at, swap_at, over_at, arguments_at, call_at, value_reply_at, ok_reply_at, tagged_reply_at, reply_at}

pub both_faults : {A B : Type 0} {IsA : A → Type 0} {a_spelling : A → List ℕ} {read_a : Reader A FieldError} {read_b : Reader B FieldError} → IsGrammar IsA a_spelling read_a → Faults Short IsRule read_a → Faults Short IsRule read_b → Faults Short IsRule (both read_a read_b)
both_faults g f h = faults_then g f _ (λ a start. inl (faults_last h (λ b. (a, b))))

pub made_faults : {A B : Type 0} {read : Reader A FieldError} (make : A → B) → Faults Short IsRule read → Faults Short IsRule (made make read)
made_faults make f = faults_last f make

-- one reader where a number is this one, and else another
pub pick : {M : Type 0} (t k : ℕ) {this others : Reader M FieldError} → Faults Short IsRule this → (eqb t k ≡ false → Faults Short IsRule others) → Faults Short IsRule (λ bytes at. cond (eqb t k) (this bytes at) (others bytes at))
pick {M = M} t k {this = this} {others = others} f g = by (eqb t k) refl
  where
    by : (b : Bool) → eqb t k ≡ b → Faults Short IsRule (λ bytes at. cond b (this bytes at) (others bytes at))
    by true e = record { one = f.one }
    by false e = record { one = (g e).one }

pub flag_faults : Faults Short IsRule flag_at
unfolding flag_at
flag_faults = faults_then byte_grammar (byte_faults IsRule) _ (λ n start. or_else 1 start (eqb n 0) (faultless false) (or_else 1 start (eqb n 1) (faultless true) (rejects 1 start (Rule start) (omega arith) refl)))

pub optional_faults : {A : Type 0} {read : Reader A FieldError} → Faults Short IsRule read → Faults Short IsRule (optional_at read)
unfolding optional_at
optional_faults f = faults_then byte_grammar (byte_faults IsRule) _ (λ n start. or_else 1 start (eqb n 0) (faultless None) (or_else 1 start (eqb n 1) (made_faults (λ x. Some x) f) (rejects 1 start (Rule start) (omega arith) refl)))

children_faults : Faults Short IsRule children_at
unfolding children_at
children_faults = faults_then u16_grammar (number_faults IsRule 2) _ (λ mask start. inl (faults_last (digests_faults IsRule (count_ones mask)) (λ digests. (mask, digests))))

page_faults : Faults Short IsRule page_at
unfolding page_at
page_faults = faults_then byte_grammar (byte_faults IsRule) _ (λ n start. or_else 1 start (nat_le n 32) (both_faults (entries_grammar n) (entries_faults n) flag_faults) (rejects 1 start (Rule start) (omega arith) refl))

inner_body_faults : Faults Short IsRule inner_body_at
unfolding inner_body_at
inner_body_faults = made_faults (λ x. bodies.Inner x.0 x.1) children_faults

page_body_faults : Faults Short IsRule page_body_at
unfolding page_body_at
page_body_faults = made_faults (λ x. bodies.Page x.0 x.1) page_faults

damaged_body_faults : Faults Short IsRule damaged_body_at
unfolding damaged_body_at
damaged_body_faults = made_faults bodies.Damaged (position_faults Two)

pub body_faults : Faults Short IsRule body_at
unfolding body_at
body_faults =
    faults_then byte_grammar (byte_faults IsRule) _
    (λ n start. or_else 1 start (eqb n 1) inner_body_faults (or_else 1 start (eqb n 2) page_body_faults (or_else 1 start (eqb n 3) damaged_body_faults (rejects 1 start (Rule start) (omega arith) refl))))

greater_faults : Faults Short IsRule greater_at
unfolding greater_at
greater_faults = made_faults causes.Greater (epoch_faults IsRule)

damaged_faults : Faults Short IsRule damaged_at
unfolding damaged_at
damaged_faults = made_faults causes.Damaged (position_faults Two)

pub cause_faults : Faults Short IsRule cause_at
unfolding cause_at
cause_faults =
    faults_then byte_grammar (byte_faults IsRule) _
    (λ n start. or_else 1 start (eqb n 1) greater_faults (or_else 1 start (eqb n 2) (faultless causes.Untrusted) (or_else 1 start (eqb n 3) damaged_faults (rejects 1 start (Rule start) (omega arith) refl))))

-- ---- a key that may be absent: its length byte is read twice

-- the bytes have a zero at this place
abbrev HasZero : List ℕ → ℕ → Type 0
HasZero bytes at = (at < length bytes) × (get_or bytes at 0 ≡ 0)

zero_is_none : (bytes : List ℕ) (at : ℕ) → HasZero bytes at → option_key_at bytes at ≡ Ok (None, at + 1)
unfolding option_key_at
zero_is_none bytes at h = let inside : ltb at (length bytes) ≡ true = lt-ltb _ _ h.0 in rw (inside, h.1) refl

else_key : (bytes : List ℕ) (at : ℕ) → (HasZero bytes at → ⊥) → option_key_at bytes at ≡ made Some key_at bytes at
unfolding option_key_at key_at
else_key bytes at none = by (ltb at (length bytes)) refl (eqb (get_or bytes at 0) 0) refl
  where
    by : (inside : Bool) → ltb at (length bytes) ≡ inside → (zero : Bool) → eqb (get_or bytes at 0) 0 ≡ zero → option_key_at bytes at ≡ made Some key_at bytes at
    by false i z e = rw i refl
    by true i false e = rw (i, e) refl
    by true i true e = absurd (none (ltb-true _ _ i, eqb-true _ _ e))

kept_zero : (bytes other : List ℕ) (at n : ℕ) → at < n → n ≤ length bytes → take n other ≡ take n bytes → HasZero other at → HasZero bytes at
kept_zero bytes other at n lt inside same h = (omega arith, sym (get_or-take n bytes at 0 lt) ∙ ap (λ (l : List ℕ). get_or l at 0) (sym same) ∙ get_or-take n other at 0 lt ∙ h.1)

cut_zero : (bytes : List ℕ) (at n : ℕ) → HasZero (take n bytes) at → HasZero bytes at
cut_zero bytes at n h =
    let lt : at < n = omega (arith, h.0, length-take n bytes) in
    (omega (arith, h.0, length-take n bytes), sym (get_or-take n bytes at 0 lt) ∙ h.1)

pub option_key_faults : Faults Short IsRule option_key_at
option_key_faults = record { one = λ bytes at e fits le h. by bytes at e h (some bytes at e h) ((made_faults Some key_faults).one bytes at e fits le (sym (else_key bytes at (some bytes at e h)) ∙ h)) }
  where
    some : (bytes : List ℕ) (at : ℕ) (e : FieldError) → option_key_at bytes at ≡ Err e → HasZero bytes at → ⊥
    some bytes at e h zero = ok_no_err (None, at + 1) e (sym (zero_is_none bytes at zero) ∙ h)

    by : (bytes : List ℕ) (at : ℕ) (e : FieldError) → option_key_at bytes at ≡ Err e → (HasZero bytes at → ⊥) → IsOne Short IsRule (made Some key_at) bytes at e → IsOne Short IsRule option_key_at bytes at e
    by bytes at e h none (inl s) = inl (s.0, s.1, record { start = s.2.start; within = s.2.within; cut = λ n after. else_key (take n bytes) at (λ zero. none (cut_zero bytes at n zero)) ∙ s.2.cut n after })
    by bytes at e h none (inr b) = inr (
      b.0,
      b.1,
      b.2,
      record {
        start = b.3.start;
        part = b.3.part;
        within = b.3.within;
        alike = λ other same. else_key other at (λ zero. none (kept_zero bytes other at b.1 (omega (arith, b.3.start, b.3.part)) b.3.within same zero)) ∙ b.3.alike other same;
        cut = λ n after before. let c = b.3.cut n after before in (c.0, c.1, else_key (take n bytes) at (λ zero. none (cut_zero bytes at n zero)) ∙ c.2);
      },
    )

-- ---- calls and replies

once_faults : Faults Short IsRule once_at
unfolding once_at
once_faults = made_faults commands.PutOnce value_faults

update_faults : Faults Short IsRule update_at
unfolding update_at
update_faults = made_faults (λ x. commands.Update x.0 x.1) (both_faults version_grammar (version_faults IsRule) value_faults)

append_faults : Faults Short IsRule append_at
unfolding append_at
append_faults = made_faults commands.Append value_faults

add_faults : Faults Short IsRule add_at
unfolding add_at
add_faults = made_faults commands.Add (number_faults IsRule 8)

swap_faults : Faults Short IsRule swap_at
unfolding swap_at
swap_faults = made_faults (λ x. commands.Swap x.0 x.1) (both_faults value_grammar value_faults value_faults)

over_faults : Faults Short IsRule over_at
unfolding over_at
over_faults = made_faults commands.Over value_faults

no_command : (t : ℕ) → (nat_le 1 t && nat_le t 8) ≡ true → eqb t 1 ≡ false → eqb t 2 ≡ false → eqb t 3 ≡ false → eqb t 4 ≡ false → eqb t 5 ≡ false → eqb t 6 ≡ false → eqb t 7 ≡ false → eqb t 8 ≡ false → ⊥
no_command t h a b c d e f g i = grind (arith, nat_tests)

arguments_faults : (t start : ℕ) → (nat_le 1 t && nat_le t 8) ≡ true → Faults Short IsRule (arguments_at t start)
unfolding arguments_at
arguments_faults t start h =
    pick t 1 (faultless commands.Get) (λ a. pick t 2 once_faults (λ b. pick t 3 update_faults (λ c. pick t 4 append_faults (λ d. pick t 5 add_faults (λ e. pick t 6 swap_faults (λ f. pick t 7 over_faults (λ g. pick t 8 (faultless commands.Delete) (λ i. absurd (no_command t h a b c d e f g i)))))))))

pub call_faults : Faults Short IsRule call_at
unfolding call_at
call_faults = faults_then byte_grammar (byte_faults IsRule) _ (λ t start. by t start (nat_le 1 t && nat_le t 8) refl)
  where
    by : (t start : ℕ) (b : Bool) → (nat_le 1 t && nat_le t 8) ≡ b → Follows Short IsRule (λ bytes at. cond b (both key_at (arguments_at t start) bytes at) (Err (Rule start))) 1 start
    by t start true e = or_else 1 start true (both_faults key_grammar key_faults (arguments_faults t start e)) (rejects 1 start (Rule start) (omega arith) refl)
    by t start false e = rejects 1 start (Rule start) (omega arith) refl

value_reply_faults : Faults Short IsRule value_reply_at
unfolding value_reply_at
value_reply_faults = made_faults (λ x. replies.Value x.0 x.1) (both_faults version_grammar (version_faults IsRule) value_faults)

ok_reply_faults : Faults Short IsRule ok_reply_at
unfolding ok_reply_at
ok_reply_faults = made_faults replies.Ok (version_faults IsRule)

pub reply_faults : Faults Short IsRule reply_at
unfolding reply_at tagged_reply_at
reply_faults =
    faults_then byte_grammar (byte_faults IsRule) _
    (λ t start. or_else 1 start (eqb t 1) value_reply_faults
    (or_else 1 start (eqb t 2) (faultless replies.NotFound)
    (or_else 1 start (eqb t 3) ok_reply_faults
    (or_else 1 start (eqb t 4) (faultless replies.Failed)
    (or_else 1 start (eqb t 5) (faultless replies.Unavailable)
    (or_else 1 start (eqb t 6) (faultless replies.Busy)
    (or_else 1 start (eqb t 7) (faultless replies.Lost)
    (or_else 1 start (eqb t 8) (faultless replies.Timeout)
    (rejects 1 start (Rule start) (omega arith) refl)))))))))
