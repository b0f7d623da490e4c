-- The first faults of fields.
use Rattle.std.proofs.Common.{◌≡◌, ℕ, zero, suc, ◌+◌, ◌≤◌, ◌<◌, Bool, true, false, cond, eqb, ltb, List, [], ◌∷◌, length, take, drop, get_or, Result, Ok, Err, refl, sym, ap, subst, ◌∙◌, arith, ◌⊎◌, inl, inr, length-take}
use Rattle.std.specs.Prelude.{nat_le, nat_lt, ◌&&◌}
use Rattle.std.proofs.lemmas.Bool.{ltb-false, le-ltb}
use Rattle.byteorder.specs.Endian.{big_number}
use Rattle.ens_base.specs.declared.epoch.Epoch.{Epoch}
use Rattle.ens_base.specs.declared.epoch.Version.{Version}
use Rattle.ens_base.specs.declared.entry.Entry.{Entry}
use Rattle.fields.specs.declared.field_error.FieldError.{FieldError}
use Rattle.fields.specs.declared.field_error.FieldError.TheVariants.{Short, Rule, Memory}
use Rattle.fields.specs.declared.fault.Fault.{Fault}
use Rattle.fields.specs.declared.fault.Fault.TheVariants.{Ended, Broken, NoMemory}
use Rattle.fields.specs.Faults.{with_rule, plain, without_rule}
use Rattle.fields.specs.Numbers.{byte_at, number_at, run_at}
use Rattle.fields.specs.Versions.{epoch_at, version_at}
use Rattle.fields.specs.Strings.{key_at, value_at}
use Rattle.fields.specs.Views.{member_at, members_at, view_at, one_view_at, two_views_at, views_at}
use Rattle.fields.specs.Entries.{entry_at}
use Rattle.fields.proofs.GrammarLaws.{Reader}
use Rattle.fields.proofs.NumberLaws.{byte_grammar, u16_grammar, u32_grammar, u64_grammar}
use Rattle.fields.proofs.FieldLaws.{epoch_grammar, version_grammar, key_grammar}
use Rattle.fields.proofs.ViewLaws.{member_grammar, view_grammar}
use Rattle.fields.specs.Grammar.{IsGrammar}
use Rattle.fields.specs.FirstFaults.{EndsInside, BreaksRule, IsFirstNamed, NamesFirst}
use Rattle.fields.proofs.FirstFaultLaws.{IsOne, Faults, Rejects, IsRule, err_is, ok_no_err, faultless, faults_then, faults_last, ends_only, faults_as, none_begins}

-- what the choice of a reader by a field comes to
abbrev pub Follows : {A E : Type 0} → (ℕ → E) → (ℕ → E → Type 0) → Reader A E → ℕ → ℕ → Type 0
Follows short IsBroken read width start = Faults short IsBroken read ⊎ ((0 < width) × Rejects IsBroken read start)

-- one reader where a test passes, and else another
pub or_else : {A E : Type 0} {short : ℕ → E} {IsBroken : ℕ → E → Type 0} {read rest : Reader A E} (width start : ℕ) (b : Bool) → Faults short IsBroken read → Follows short IsBroken rest width start
    → Follows short IsBroken (λ bytes at. cond b (read bytes at) (rest bytes at)) width start
or_else width start true f r = inl (record { one = f.one })
or_else width start false f (inl r) = inl (record { one = r.one })
or_else width start false f (inr r) = inr (r.0, record { fault = r.1.fault; broken = r.1.broken; always = r.1.always })

-- the fault where no test passes
pub rejects : {A E : Type 0} {short : ℕ → E} {IsBroken : ℕ → E → Type 0} (width start : ℕ) (fault : E) → 0 < width → IsBroken start fault → Follows {A = A} short IsBroken (λ _ _. Err fault) width start
rejects width start fault some broken = inr (some, record { fault = fault; broken = broken; always = λ _ _. refl })

pub byte_faults : (IsBroken : ℕ → FieldError → Type 0) → Faults Short IsBroken byte_at
byte_faults IsBroken = record { one = λ bytes at e fits le h. by bytes at e le (ltb at (length bytes)) refl h }
  where
    still : (bytes : List ℕ) (at n : ℕ) → length bytes ≤ at → byte_at (take n bytes) at ≡ Err (Short at)
    still bytes at n le = let past : ltb at (length (take n bytes)) ≡ false = le-ltb _ _ (omega (arith, length-take n bytes)) in rw past refl

    by : (bytes : List ℕ) (at : ℕ) (e : FieldError) → at ≤ length bytes → (b : Bool) → ltb at (length bytes) ≡ b → cond {A = Result (ℕ × ℕ) FieldError} b (Ok (get_or bytes at 0, at + 1)) (Err (Short at)) ≡ Err e → IsOne Short IsBroken byte_at bytes at e
    by bytes at e le true t h = absurd (ok_no_err (get_or bytes at 0, at + 1) e h)
    by bytes at e le false t h =
        let same : Short at ≡ e = err_is (ℕ × ℕ) (Short at) e h in
        inl (at, sym same, record { start = omega arith; within = le; cut = λ n after. still bytes at n (ltb-false _ _ t) ∙ ap (λ z. Err z) same })

pub number_faults : (IsBroken : ℕ → FieldError → Type 0) (n : ℕ) → Faults Short IsBroken (number_at n)
number_faults IsBroken n = ends_only Short IsBroken n (λ bytes at. big_number n (drop at bytes))

pub run_faults : (IsBroken : ℕ → FieldError → Type 0) (n : ℕ) → Faults Short IsBroken (run_at n)
run_faults IsBroken n = ends_only Short IsBroken n (λ bytes at. take n (drop at bytes))

pub epoch_faults : (IsBroken : ℕ → FieldError → Type 0) → Faults Short IsBroken epoch_at
unfolding epoch_at
epoch_faults IsBroken = faults_then u64_grammar (number_faults IsBroken 8) _ (λ count start. inl (faults_last (number_faults IsBroken 4) (λ proposer. let made : Epoch = record { count = count; proposer = proposer } in made)))

pub version_faults : (IsBroken : ℕ → FieldError → Type 0) → Faults Short IsBroken version_at
unfolding version_at
version_faults IsBroken = faults_then epoch_grammar (epoch_faults IsBroken) _ (λ epoch start. inl (faults_last (number_faults IsBroken 8) (λ seq. let made : Version = record { epoch = epoch; seq = seq } in made)))

pub key_faults : Faults Short IsRule key_at
unfolding key_at
key_faults = faults_then byte_grammar (byte_faults IsRule) _ (λ n start. or_else 1 start (nat_le 1 n && nat_le n 64) (run_faults IsRule n) (rejects 1 start (Rule start) (omega arith) refl))

pub value_faults : Faults Short IsRule value_at
unfolding value_at
value_faults = faults_then u16_grammar (number_faults IsRule 2) _ (λ n start. or_else 2 start (nat_le n 1024) (run_faults IsRule n) (rejects 2 start (Rule start) (omega arith) refl))

member_faults : (low : ℕ) → Faults Short IsRule (member_at low)
unfolding member_at
member_faults low = faults_then u32_grammar (number_faults IsRule 4) _ (λ m start. or_else 4 start (nat_lt low m && nat_le m 31) (faultless m) (rejects 4 start (Rule start) (omega arith) refl))

members_faults : (n low : ℕ) → Faults Short IsRule (members_at n low)
unfolding members_at
members_faults zero low = faultless []
members_faults (suc n) low = faults_then (member_grammar low) (member_faults low) _ (λ m start. inl (faults_last (members_faults n m) (λ ms. m ∷ ms)))

pub view_faults : Faults Short IsRule view_at
unfolding view_at
view_faults = faults_then byte_grammar (byte_faults IsRule) _ (λ n start. or_else 1 start (nat_le 1 n && nat_le n 9) (members_faults n 0) (rejects 1 start (Rule start) (omega arith) refl))

one_faults : Faults Short IsRule one_view_at
unfolding one_view_at
one_faults = faults_last view_faults (λ view. view ∷ [])

two_faults : Faults Short IsRule two_views_at
unfolding two_views_at
two_faults = faults_then view_grammar view_faults _ (λ new start. inl (faults_last view_faults (λ old. new ∷ old ∷ [])))

pub views_faults : Faults Short IsRule views_at
unfolding views_at
views_faults = faults_then byte_grammar (byte_faults IsRule) _ (λ n start. or_else 1 start (eqb n 1) one_faults (or_else 1 start (eqb n 2) two_faults (rejects 1 start (Rule start) (omega arith) refl)))

pub entry_faults : Faults Short IsRule entry_at
unfolding entry_at
entry_faults =
    faults_then key_grammar key_faults _ (λ key start. inl
    (faults_then version_grammar (version_faults IsRule) _ (λ version start. inl
    (faults_last (run_faults IsRule 16) (λ digest. let made : Entry = record { key = key; version = version; digest = digest } in made)))))

-- ---- faults with the name of a rule, and without

abbrev pub IsNamed : {R : Type 0} → ℕ → Fault R → Type 0
IsNamed {R = R} p e = (rule : R) × (e ≡ Broken rule p)

abbrev named : {R : Type 0} → R → FieldError → Fault R
named rule (Short p) = Ended p
named rule (Rule p) = Broken rule p
named rule Memory = NoMemory

abbrev unruled : {R : Type 0} → FieldError → Fault R
unruled (Short p) = Ended p
unruled (Rule p) = Ended p
unruled Memory = NoMemory

abbrev unnamed : {R : Type 0} → Fault R → FieldError
unnamed (Ended p) = Short p
unnamed (Broken rule p) = Rule p
unnamed NoMemory = Memory

pub with_rule_faults : {A R : Type 0} {read : Reader A FieldError} (rule : R) → Faults Short IsRule read → Faults Ended IsNamed (λ bytes at. with_rule rule (read bytes at))
with_rule_faults {A = A} {R = R} rule f = faults_as (with_rule rule) (named rule) back forth (λ p. refl) (λ p d is. (rule, ap (named rule) is)) f
  where
    back : (r : Result (A × ℕ) FieldError) (e : Fault R) → with_rule rule r ≡ Err e → (d : FieldError) × (r ≡ Err d) × (named rule d ≡ e)
    back (Ok x) e h = absurd (ok_no_err x e h)
    back (Err (Short p)) e h = (Short p, refl, err_is (A × ℕ) (Ended p) e h)
    back (Err (Rule p)) e h = (Rule p, refl, err_is (A × ℕ) (Broken rule p) e h)
    back (Err Memory) e h = (Memory, refl, err_is (A × ℕ) NoMemory e h)

    forth : (d : FieldError) → with_rule {X = A × ℕ} rule (Err d) ≡ Err (named rule d)
    forth (Short p) = refl
    forth (Rule p) = refl
    forth Memory = refl

pub plain_faults : {A : Type 0} (R : Type 0) {read : Reader A FieldError} → Faults Short (λ _ _. ⊥) read → Faults Ended (IsNamed {R = R}) (λ bytes at. plain {R = R} (read bytes at))
plain_faults {A = A} R f = faults_as (plain {R = R}) (unruled {R = R}) back forth (λ p. refl) (λ p d is. absurd is) f
  where
    back : (r : Result (A × ℕ) FieldError) (e : Fault R) → plain r ≡ Err e → (d : FieldError) × (r ≡ Err d) × (unruled d ≡ e)
    back (Ok x) e h = absurd (ok_no_err x e h)
    back (Err (Short p)) e h = (Short p, refl, err_is (A × ℕ) (Ended p) e h)
    back (Err (Rule p)) e h = (Rule p, refl, err_is (A × ℕ) (Ended p) e h)
    back (Err Memory) e h = (Memory, refl, err_is (A × ℕ) NoMemory e h)

    forth : (d : FieldError) → plain {X = A × ℕ} {R = R} (Err d) ≡ Err (unruled d)
    forth (Short p) = refl
    forth (Rule p) = refl
    forth Memory = refl

pub without_rule_faults : {A R : Type 0} {read : Reader A (Fault R)} → Faults Ended IsNamed read → Faults Short IsRule (λ bytes at. without_rule (read bytes at))
without_rule_faults {A = A} {R = R} f = faults_as without_rule unnamed back forth (λ p. refl) (λ p d is. ap unnamed is.1) f
  where
    back : (r : Result (A × ℕ) (Fault R)) (e : FieldError) → without_rule r ≡ Err e → (d : Fault R) × (r ≡ Err d) × (unnamed d ≡ e)
    back (Ok x) e h = absurd (ok_no_err x e h)
    back (Err (Ended p)) e h = (Ended p, refl, err_is (A × ℕ) (Short p) e h)
    back (Err (Broken rule p)) e h = (Broken rule p, refl, err_is (A × ℕ) (Rule p) e h)
    back (Err NoMemory) e h = (NoMemory, refl, err_is (A × ℕ) Memory e h)

    forth : (d : Fault R) → without_rule {X = A × ℕ} (Err d) ≡ Err (unnamed d)
    forth (Ended p) = refl
    forth (Broken rule p) = refl
    forth NoMemory = refl

-- the law of a value that is made of fields
pub named_faults : {A R : Type 0} {IsValid : A → Type 0} {spelling : A → List ℕ} {read : Reader A (Fault R)} → IsGrammar IsValid spelling read → Faults Ended IsNamed read → NamesFirst IsValid spelling read
named_faults {R = R} {IsValid = IsValid} {spelling = spelling} {read = read} g f bytes at e fits le h = by e (f.one bytes at e fits le h)
  where
    by : (e : Fault R) → IsOne Ended IsNamed read bytes at e → IsFirstNamed IsValid spelling read bytes at e
    by e (inl s) = subst (IsFirstNamed IsValid spelling read bytes at) (sym s.1) (subst (EndsInside read bytes at s.0) s.1 s.2)
    by e (inr b) = subst (IsFirstNamed IsValid spelling read bytes at) (sym b.2.1) (let broken = subst (BreaksRule Ended read bytes at b.0 b.1) b.2.1 b.3 in (b.1, broken, none_begins g bytes at b.0 b.1 (Broken b.2.0 b.0) broken))
