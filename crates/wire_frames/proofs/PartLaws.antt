-- The grammars of the parts of messages.
use Rattle.std.proofs.Common.{◌≡◌, ℕ, ◌+◌, ◌<◌, ◌≤◌, ◌^◌, Bool, true, false, cond, eqb, List, [], ◌∷◌, ◌++◌, length, drop, Option, None, Some, Ok, refl, sym, subst, arith, get_or}
use Rattle.std.specs.Prelude.{nat_le, count_ones}
use Rattle.std.proofs.lemmas.Bool.{eqb-true}
use Rattle.std.proofs.lemmas.Bool.Decides.{nat_tests}
use Rattle.byteorder.specs.Endian.{big_bytes}
use Rattle.ens_base.specs.declared.entry.Entry.{Entry}
use Rattle.ens_base.specs.declared.epoch.Epoch.{Epoch}
use Rattle.tree_node.specs.declared.version.TreeVersion.TheVariants.{Two}
use Rattle.tree_node.specs.declared.position.Position.{Position}
use Rattle.fields.specs.Numbers.{byte_at}
use Rattle.fields.specs.declared.field_error.FieldError.{FieldError}
use Rattle.fields.specs.declared.field_error.FieldError.TheVariants.{Rule}
use Rattle.fields.specs.Places.{Spells}
use Rattle.fields.specs.Grammar.{IsGrammar}
use Rattle.ens_base.specs.Limits.{IsKey}
use Rattle.fields.specs.Strings.{key_at}
use Rattle.fields.proofs.GrammarLaws.{Reader, bind_ok, ok_is, right, valid_as, spelled_as, field_then, field_last, tested}
use Rattle.fields.proofs.NumberLaws.{byte_grammar, u16_grammar}
use Rattle.fields.proofs.FieldLaws.{epoch_grammar, key_grammar}
use Rattle.tree_node.specs.declared.body.TreeBody.{TreeBody}
use Rattle.tree_node.specs.declared.body.TreeBody.TheVariants as bodies
use Rattle.tree_node.specs.Entries.{AreDigests, digests_spelling}
use Rattle.tree_node.proofs.EntryLaws.{entries_grammar, digests_grammar}
use Rattle.tree_node.proofs.PositionLaws.{position_grammar}
use Rattle.wire_frames.specs.declared.message.NackCause.{NackCause}
use Rattle.wire_frames.specs.declared.message.NackCause.TheVariants as causes
use Rattle.wire_frames.specs.Readers.{made}
use Rattle.wire_frames.specs.Parts.{flag_spelling, flag_at, IsOptional, optional_spelling, optional_at, option_key_spelling, option_key_at, AreChildren, children_at, IsPage, page_spelling, page_at, IsBody, body_tag, body_rest, body_spelling, inner_body_at, page_body_at, damaged_body_at, body_at, IsCause, cause_tag, cause_rest, cause_spelling, greater_at, damaged_at, cause_at}
use Rattle.wire_frames.proofs.ReaderLaws.{both_grammar, variant_grammar, empty_grammar, choice, no_choice, tagged_grammar}

abbrev flag_tag : Bool → ℕ
flag_tag false = 0
flag_tag true = 1

flag_small : (b : Bool) → flag_tag b < 256
flag_small true = omega arith
flag_small false = omega arith

flag_false : (b : Bool) → flag_tag b ≡ 0 → false ≡ b
flag_false false e = refl
flag_false true e = absurd (omega arith)

flag_true : (b : Bool) → flag_tag b ≡ 1 → true ≡ b
flag_true true e = refl
flag_true false e = absurd (omega arith)

flag_none : (t : ℕ) → (t ≡ 0 → ⊥) → (t ≡ 1 → ⊥) → (b : Bool) → flag_tag b ≡ t → ⊥
flag_none t a b true e = b (sym e)
flag_none t a b false e = a (sym e)

flag_spelled : (b : Bool) → flag_tag b ∷ [] ≡ flag_spelling b
flag_spelled true = refl
flag_spelled false = refl

abbrev IsAny : Bool → Type 0
IsAny b = Unit {0}

pub flag_grammar : IsGrammar (λ (b : Bool). Unit {0}) flag_spelling flag_at
unfolding flag_at
flag_grammar = spelled_as (λ b _. flag_spelled b) (tagged_grammar flag_tag IsAny (λ _. []) flag_small _
    (λ t start. choice flag_tag IsAny (λ _. []) t 0 (empty_grammar flag_tag IsAny (λ _. []) false 0 refl flag_false tt refl)
    (λ a. choice flag_tag IsAny (λ _. []) t 1 (empty_grammar flag_tag IsAny (λ _. []) true 1 refl flag_true tt refl)
    (λ b. no_choice flag_tag IsAny (λ _. []) t (λ _. Rule start) (flag_none t a b)))))

abbrev optional_tag : {A : Type 0} → Option A → ℕ
optional_tag None = 0
optional_tag (Some x) = 1

abbrev optional_rest : {A : Type 0} → (A → List ℕ) → Option A → List ℕ
optional_rest spelling None = []
optional_rest spelling (Some x) = spelling x

optional_small : {A : Type 0} (o : Option A) → optional_tag o < 256
optional_small None = omega arith
optional_small (Some x) = omega arith

optional_none : {A : Type 0} (o : Option A) → optional_tag o ≡ 0 → None ≡ o
optional_none None e = refl
optional_none (Some x) e = absurd (omega arith)

optional_some : {A : Type 0} (o : Option A) → optional_tag o ≡ 1 → (x : A) × (Some x ≡ o)
optional_some None e = absurd (omega arith)
optional_some (Some x) e = (x, refl)

optional_other : {A : Type 0} (t : ℕ) → (t ≡ 0 → ⊥) → (t ≡ 1 → ⊥) → (o : Option A) → optional_tag o ≡ t → ⊥
optional_other t a b None e = a (sym e)
optional_other t a b (Some x) e = b (sym e)

optional_spelled : {A : Type 0} (spelling : A → List ℕ) (o : Option A) → optional_tag o ∷ optional_rest spelling o ≡ optional_spelling spelling o
optional_spelled spelling None = refl
optional_spelled spelling (Some x) = refl

pub optional_grammar : {A : Type 0} {IsValid : A → Type 0} {spelling : A → List ℕ} {read : Reader A FieldError} → IsGrammar IsValid spelling read → IsGrammar (IsOptional IsValid) (optional_spelling spelling) (optional_at read)
unfolding optional_at
optional_grammar {A = A} {IsValid = IsValid} {spelling = spelling} {read = read} g =
    let V : Option A → Type 0 = IsOptional IsValid in
    let s : Option A → List ℕ = optional_rest spelling in
    spelled_as (λ o _. optional_spelled spelling o) (tagged_grammar optional_tag (IsOptional IsValid) (optional_rest spelling) optional_small _
    (λ t start. choice optional_tag (IsOptional IsValid) (optional_rest spelling) t 0 (empty_grammar optional_tag (IsOptional IsValid) (optional_rest spelling) None 0 refl optional_none tt refl)
    (λ a. choice optional_tag (IsOptional IsValid) (optional_rest spelling) t 1 (variant_grammar g optional_tag (IsOptional IsValid) (optional_rest spelling) (λ x. Some x) 1 (λ _. refl) optional_some (λ x v. v) (λ x v. v) (λ _. refl))
    (λ b. no_choice optional_tag (IsOptional IsValid) (optional_rest spelling) t (λ _. Rule start) (optional_other t a b)))))

long : (n : ℕ) → 1 ≤ n → eqb n 0 ≡ false
long n h = grind (arith, nat_tests)

pub option_key_grammar : IsGrammar (IsOptional IsKey) option_key_spelling option_key_at
unfolding option_key_at
option_key_grammar = record { found = found; again = again }
  where
    found_by : (bytes : List ℕ) (at : ℕ) (x : Option (List ℕ)) (end : ℕ) (size : ℕ × ℕ) (zero : Bool) → eqb size.0 0 ≡ zero → Spells bytes at (size.0 ∷ []) size.1 → ((i : ℕ) → get_or bytes i 0 < 256)
        → cond zero (right FieldError (None, size.1)) (made (λ k. Some k) key_at bytes at) ≡ Ok (x, end) → Spells bytes at (option_key_spelling x) end × IsOptional IsKey x
    found_by bytes at x end size true is spelled fits e =
        let none : Spells bytes at (0 ∷ []) size.1 = subst (λ (n : ℕ). Spells bytes at (n ∷ []) size.1) (eqb-true _ _ is) spelled in
        subst (λ (p : Option (List ℕ) × ℕ). Spells bytes at (option_key_spelling p.0) p.1 × IsOptional IsKey p.0) (ok_is FieldError (None, size.1) (x, end) e) (none, tt)
    found_by bytes at x end size false is spelled fits e =
        let step = bind_ok (key_at bytes at) (λ (y : List ℕ × ℕ). Ok (Some y.0, y.1)) (x, end) e in
        let key = key_grammar.found bytes at step.0.0 step.0.1 fits step.1 in
        subst (λ (p : Option (List ℕ) × ℕ). Spells bytes at (option_key_spelling p.0) p.1 × IsOptional IsKey p.0) (ok_is FieldError (Some step.0.0, step.0.1) (x, end) step.2) key

    found : (bytes : List ℕ) (at : ℕ) (x : Option (List ℕ)) (end : ℕ) → ((i : ℕ) → get_or bytes i 0 < 256) → option_key_at bytes at ≡ Ok (x, end) → Spells bytes at (option_key_spelling x) end × IsOptional IsKey x
    found bytes at x end fits e =
        let step = bind_ok (byte_at bytes at) (λ (size : ℕ × ℕ). cond (eqb size.0 0) (right FieldError (None, size.1)) (made (λ k. Some k) key_at bytes at)) (x, end) e in
        found_by bytes at x end step.0 (eqb step.0.0 0) refl (byte_grammar.found bytes at step.0.0 step.0.1 fits step.1).0 fits step.2

    again : (bytes : List ℕ) (at : ℕ) (x : Option (List ℕ)) (rest : List ℕ) → IsOptional IsKey x → drop at bytes ≡ option_key_spelling x ++ rest → option_key_at bytes at ≡ Ok (x, at + length (option_key_spelling x))
    again bytes at None rest good e = rw (byte_grammar.again bytes at 0 rest (omega arith) e) refl
    again bytes at (Some k) rest good e =
        let some : eqb (length k) 0 ≡ false = long (length k) good.size.0 in
        rw (byte_grammar.again bytes at (length k) (k ++ rest) (omega (arith, good.size)) e, some, key_grammar.again bytes at k rest good e) refl

remade_children : (x : ℕ × List (List ℕ)) (mask : ℕ) → mask ≡ x.0 → (let made : ℕ × List (List ℕ) = (mask, x.1) in made) ≡ x
remade_children x mask e = λ i. (e i, x.1)

pub children_grammar : IsGrammar AreChildren (λ x. big_bytes 2 x.0 ++ digests_spelling x.1) children_at
unfolding children_at
children_grammar =
    let parts : IsGrammar (λ (x : ℕ × List (List ℕ)). Unit {0} × ((x.0 < 2 ^ 16) × (AreDigests x.1 × (length x.1 ≡ count_ones x.0)))) (λ x. big_bytes 2 x.0 ++ digests_spelling x.1) children_at =
    field_then u16_grammar (λ (x : ℕ × List (List ℕ)). x.0) _
    (λ mask _ _. valid_as
    (λ x h. (h.0, (h.1.0, subst (λ (m : ℕ). length x.1 ≡ count_ones m) (sym h.0.1) h.1.1)))
    (λ x h. (h.0, (h.1.0, subst (λ (m : ℕ). length x.1 ≡ count_ones m) h.0.1 h.1.1)))
    (field_last (digests_grammar (count_ones mask)) (λ (x : ℕ × List (List ℕ)). x.1) (λ digests. (mask, digests)) {P = λ x. Unit {0} × (x.0 ≡ mask)} (λ _. refl) (λ _. (tt, refl)) (λ x h. remade_children x mask (sym h.1)))) in
    valid_as (λ x h. h.1) (λ x h. (tt, h)) parts

few_enough : (n : ℕ) → n ≤ 32 → nat_le n 32 ≡ true
few_enough n h = grind (arith, nat_tests)

from_few : (n : ℕ) → nat_le n 32 ≡ true → n ≤ 32
from_few n h = grind (arith, nat_tests)

pub page_grammar : IsGrammar IsPage page_spelling page_at
unfolding page_at
page_grammar =
    let parts : IsGrammar (λ (x : List Entry × Bool). Unit {0} × ((length x.0 < 256) × IsPage x)) page_spelling page_at =
    field_then byte_grammar (λ (x : List Entry × Bool). length x.0) _
    (λ n start _. valid_as
    (λ x h. ((tt, h.1.0.1), (from_few (length x.0) (rw h.1.0.1 h.0), h.1.0.0)))
    (λ x h. (rw (← h.0.1) (few_enough (length x.0) h.1.0), ((h.1.1, h.0.1), tt)))
    (tested (nat_le n 32) (Rule start) (both_grammar (entries_grammar n) flag_grammar))) in
    valid_as (λ x h. h.1.1) (λ x h. (tt, (omega (arith, h.0), h))) parts

body_small : (b : TreeBody) → body_tag b < 256
body_small (bodies.Inner mask digests) = omega arith
body_small (bodies.Page entries more) = omega arith
body_small (bodies.Damaged position) = omega arith

body_inner : (b : TreeBody) → body_tag b ≡ 1 → (x : ℕ × List (List ℕ)) × (bodies.Inner x.0 x.1 ≡ b)
body_inner (bodies.Inner mask digests) e = ((mask, digests), refl)
body_inner b e = absurd (omega arith)

body_page : (b : TreeBody) → body_tag b ≡ 2 → (x : List Entry × Bool) × (bodies.Page x.0 x.1 ≡ b)
body_page (bodies.Page entries more) e = ((entries, more), refl)
body_page b e = absurd (omega arith)

body_damaged : (b : TreeBody) → body_tag b ≡ 3 → (p : Position) × (bodies.Damaged p ≡ b)
body_damaged (bodies.Damaged position) e = (position, refl)
body_damaged b e = absurd (omega arith)

body_other : (t : ℕ) → (t ≡ 1 → ⊥) → (t ≡ 2 → ⊥) → (t ≡ 3 → ⊥) → (b : TreeBody) → body_tag b ≡ t → ⊥
body_other t x y z (bodies.Inner mask digests) e = x (sym e)
body_other t x y z (bodies.Page entries more) e = y (sym e)
body_other t x y z (bodies.Damaged position) e = z (sym e)

pub body_grammar : IsGrammar IsBody body_spelling body_at
unfolding body_at inner_body_at page_body_at damaged_body_at
body_grammar = tagged_grammar body_tag IsBody body_rest body_small _
    (λ t start. choice body_tag IsBody body_rest t 1 (variant_grammar children_grammar body_tag IsBody body_rest (λ x. bodies.Inner x.0 x.1) 1 (λ _. refl) body_inner (λ x v. v) (λ x v. v) (λ _. refl))
    (λ x. choice body_tag IsBody body_rest t 2 (variant_grammar page_grammar body_tag IsBody body_rest (λ x. bodies.Page x.0 x.1) 2 (λ _. refl) body_page (λ x v. v) (λ x v. v) (λ _. refl))
    (λ y. choice body_tag IsBody body_rest t 3 (variant_grammar (position_grammar Two) body_tag IsBody body_rest (λ p. bodies.Damaged p) 3 (λ _. refl) body_damaged (λ x v. v) (λ x v. v) (λ _. refl))
    (λ z. no_choice body_tag IsBody body_rest t (λ _. Rule start) (body_other t x y z)))))

cause_small : (x : NackCause) → cause_tag x < 256
cause_small (causes.Greater ballot) = omega arith
cause_small causes.Untrusted = omega arith
cause_small (causes.Damaged position) = omega arith

cause_greater : (x : NackCause) → cause_tag x ≡ 1 → (b : Epoch) × (causes.Greater b ≡ x)
cause_greater (causes.Greater ballot) e = (ballot, refl)
cause_greater x e = absurd (omega arith)

cause_untrusted : (x : NackCause) → cause_tag x ≡ 2 → causes.Untrusted ≡ x
cause_untrusted causes.Untrusted e = refl
cause_untrusted x e = absurd (omega arith)

cause_damaged : (x : NackCause) → cause_tag x ≡ 3 → (p : Position) × (causes.Damaged p ≡ x)
cause_damaged (causes.Damaged position) e = (position, refl)
cause_damaged x e = absurd (omega arith)

cause_other : (t : ℕ) → (t ≡ 1 → ⊥) → (t ≡ 2 → ⊥) → (t ≡ 3 → ⊥) → (x : NackCause) → cause_tag x ≡ t → ⊥
cause_other t a b d (causes.Greater ballot) e = a (sym e)
cause_other t a b d causes.Untrusted e = b (sym e)
cause_other t a b d (causes.Damaged position) e = d (sym e)

pub cause_grammar : IsGrammar IsCause cause_spelling cause_at
unfolding cause_at greater_at damaged_at
cause_grammar = tagged_grammar cause_tag IsCause cause_rest cause_small _
    (λ t start. choice cause_tag IsCause cause_rest t 1 (variant_grammar epoch_grammar cause_tag IsCause cause_rest (λ b. causes.Greater b) 1 (λ _. refl) cause_greater (λ x v. v) (λ x v. v) (λ _. refl))
    (λ a. choice cause_tag IsCause cause_rest t 2 (empty_grammar cause_tag IsCause cause_rest causes.Untrusted 2 refl cause_untrusted tt refl)
    (λ b. choice cause_tag IsCause cause_rest t 3 (variant_grammar (position_grammar Two) cause_tag IsCause cause_rest (λ p. causes.Damaged p) 3 (λ _. refl) cause_damaged (λ x v. v) (λ x v. v) (λ _. refl))
    (λ d. no_choice cause_tag IsCause cause_rest t (λ _. Rule start) (cause_other t a b d)))))
