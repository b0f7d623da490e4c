-- First faults from the first faults of parts.
use Rattle.std.proofs.Common.{◌≡◌, ℕ, zero, suc, ◌+◌, ◌-◌, ◌≤◌, ◌<◌, Bool, true, false, cond, ltb, List, [], ◌∷◌, ◌++◌, length, take, drop, Result, Ok, Err, refl, sym, ap, subst, ◌∙◌, arith, ◌⊎◌, inl, inr, length-append, length-drop, length-take, take-append-drop}
use Rattle.std.proofs.lemmas.Bool.{ltb-true, lt-ltb}
use Rattle.std.proofs.lemmas.List.{drop-take, take_at}
use Rattle.std.proofs.Math.Seq.{take-add}
use Rattle.ens_base.specs.Results.{◌>>=◌}
use Rattle.fields.specs.declared.field_error.FieldError.{FieldError}
use Rattle.fields.specs.declared.field_error.FieldError.TheVariants.{Short, Rule}
use Rattle.ens_base.specs.Limits.{IsBytes}
use Rattle.fields.specs.Grammar.{IsGrammar}
use Rattle.fields.specs.FirstFaults.{EndsInside, BreaksRule, NoneBegins, IsFirstFault, FaultsFirst}
use Rattle.fields.proofs.ByteLaws.{IsBytes-take}
use Rattle.fields.proofs.GrammarLaws.{Reader, ok_is}

take_take : {A : Type 0} (m n : ℕ) (xs : List A) → m ≤ n → take m (take n xs) ≡ take m xs
take_take zero n xs le = refl
take_take (suc m) zero xs le = absurd (omega arith)
take_take (suc m) (suc n) [] le = refl
take_take {A = A} (suc m) (suc n) (x ∷ xs) le = ap (λ (l : List A). x ∷ l) (take_take m n xs (omega arith))

take_fewer : {A : Type 0} (m n : ℕ) (xs ys : List A) → m ≤ n → take n xs ≡ take n ys → take m xs ≡ take m ys
take_fewer {A = A} m n xs ys le e = sym (take_take m n xs le) ∙ ap (λ (l : List A). take m l) e ∙ take_take m n ys le

pub err_is : (A : Type 0) {E : Type 0} (d e : E) → (let left : Result A E = Err d in left) ≡ Err e → d ≡ e
err_is A d e h = cc

pub ok_no_err : {A E : Type 0} (x : A) (e : E) → (let left : Result A E = Ok x in left) ≡ Err e → ⊥
ok_no_err x e h = cc

bind_err : {A B E : Type 0} (r : Result A E) (f : A → Result B E) (e : E) → (r >>= f) ≡ Err e → (r ≡ Err e) ⊎ ((x : A) × (r ≡ Ok x) × (f x ≡ Err e))
bind_err (Ok x) f e h = inr (x, refl, h)
bind_err {A = A} {B = B} (Err d) f e h = inl (ap (λ z. Err z) (err_is B d e h))

-- what was read takes the bytes from `at` to `end`, and depends on no others
pub record Taken {A E : Type 0} (read : Reader A E) (bytes : List ℕ) (at : ℕ) (x : A) (end : ℕ) : Type 0 where
  pub forward : at ≤ end
  pub within : end ≤ length bytes
  pub alike : (other : List ℕ) → take end other ≡ take end bytes → read other at ≡ Ok (x, end)

pub taken : {A E : Type 0} {IsValid : A → Type 0} {spelling : A → List ℕ} {read : Reader A E} → IsGrammar IsValid spelling read
    → (bytes : List ℕ) (at : ℕ) (x : A) (end : ℕ) → IsBytes bytes → at ≤ length bytes → read bytes at ≡ Ok (x, end) → Taken read bytes at x end
taken {E = E} {spelling = spelling} {read = read} g bytes at x end fits le e =
    let s = g.found bytes at x end fits e in
    let inside : end ≤ length bytes = omega (arith, s.0.place, ap length s.0.parts, length-append (spelling x) (drop end bytes), length-drop at bytes, length-drop end bytes) in
    let from : at ≤ end = omega (arith, s.0.place) in
    let width : at + length (spelling x) ≡ end = sym s.0.place in
    let here : take (length (spelling x)) (drop at bytes) ≡ spelling x = ap (λ (l : List ℕ). take (length (spelling x)) l) s.0.parts ∙ take_at (spelling x) (drop end bytes) (length (spelling x)) refl in
    record {
      forward = from;
      within = inside;
      alike = λ other same.
          let there : take (length (spelling x)) (drop at other) ≡ spelling x =
          sym (drop-take at (length (spelling x)) other) ∙ ap (λ (n : ℕ). drop at (take n other)) width ∙ ap (λ (l : List ℕ). drop at l) same ∙ ap (λ (n : ℕ). drop at (take n bytes)) (sym width) ∙ drop-take at (length (spelling x)) bytes ∙ here in
          let spelled : drop at other ≡ spelling x ++ drop (length (spelling x)) (drop at other) = sym (take-append-drop (length (spelling x)) (drop at other)) ∙ ap (λ (l : List ℕ). l ++ drop (length (spelling x)) (drop at other)) there in
          g.again other at x (drop (length (spelling x)) (drop at other)) s.1 spelled ∙ ap (λ (n : ℕ). Ok (x, n)) width;
    }

-- a fault is an early end, or a broken rule, and says so
abbrev pub IsOne : {A E : Type 0} → (ℕ → E) → (ℕ → E → Type 0) → Reader A E → List ℕ → ℕ → E → Type 0
IsOne short IsBroken read bytes at e = ((p : ℕ) × (e ≡ short p) × EndsInside read bytes at p e) ⊎ ((p : ℕ) × (q : ℕ) × IsBroken p e × BreaksRule short read bytes at p q e)

pub record Faults {A E : Type 0} (short : ℕ → E) (IsBroken : ℕ → E → Type 0) (read : Reader A E) : Type 0 where
  pub one : (bytes : List ℕ) (at : ℕ) (e : E) → IsBytes bytes → at ≤ length bytes → read bytes at ≡ Err e → IsOne short IsBroken read bytes at e

-- a reader that gives one fault, whatever the bytes are
pub record Rejects {A E : Type 0} (IsBroken : ℕ → E → Type 0) (read : Reader A E) (start : ℕ) : Type 0 where
  pub fault : E
  pub broken : IsBroken start fault
  pub always : (bytes : List ℕ) (at : ℕ) → read bytes at ≡ Err fault

-- what is read never fails
pub faultless : {A E : Type 0} {short : ℕ → E} {IsBroken : ℕ → E → Type 0} (x : A) → Faults short IsBroken (λ bytes at. Ok (x, at))
faultless x = record { one = λ bytes at e fits le h. absurd (ok_no_err (x, at) e h) }

long_enough : (at n : ℕ) (bytes : List ℕ) → at ≤ n → at ≤ length bytes → at ≤ length (take n bytes)
long_enough at n bytes le fits = omega (arith, length-take n bytes)

-- bytes that are cut inside a spelling end too early
cut_short : {A E : Type 0} {short : ℕ → E} {IsBroken : ℕ → E → Type 0} {IsValid : A → Type 0} {spelling : A → List ℕ} {read : Reader A E} → IsGrammar IsValid spelling read → Faults short IsBroken read
    → (bytes : List ℕ) (at : ℕ) (x : A) (end : ℕ) → IsBytes bytes → at ≤ length bytes → read bytes at ≡ Ok (x, end) → (n : ℕ) → at ≤ n → n < end → (p : ℕ) × (at ≤ p) × (read (take n bytes) at ≡ Err (short p))
cut_short {A = A} {E = E} {short = short} {IsBroken = IsBroken} {read = read} g f bytes at x end fits le e n from lt = by (read (take n bytes) at) refl
  where
    shorter : length (take n bytes) ≤ n
    shorter = omega (arith, length-take n bytes)

    few : IsBytes (take n bytes)
    few = IsBytes-take n bytes fits

    whole : (m : ℕ) → m ≤ n → take m bytes ≡ take m (take n bytes)
    whole m small = sym (take_take m n bytes small)

    one_of : (d : E) → IsOne short IsBroken read (take n bytes) at d → read (take n bytes) at ≡ Err d → (p : ℕ) × (at ≤ p) × (read (take n bytes) at ≡ Err (short p))
    one_of d (inl s) h = (s.0, s.2.start, h ∙ ap (λ z. Err z) s.1)
    one_of d (inr b) h = absurd (ok_no_err (x, end) d (sym e ∙ b.3.alike bytes (whole b.1 (omega (arith, b.3.within, shorter)))))

    by : (r : Result (A × ℕ) E) → read (take n bytes) at ≡ r → (p : ℕ) × (at ≤ p) × (read (take n bytes) at ≡ Err (short p))
    by (Ok y) h =
        let t = taken g (take n bytes) at y.0 y.1 few (long_enough at n bytes from le) h in
        let again : read bytes at ≡ Ok (y.0, y.1) = t.alike bytes (whole y.1 (omega (arith, t.within, shorter))) in
        let same : end ≡ y.1 = ap (λ (p : A × ℕ). p.1) (ok_is E (x, end) (y.0, y.1) (sym e ∙ again)) in
        absurd (omega (arith, same, t.within, shorter))
    by (Err d) h = one_of d (f.one (take n bytes) at d few (long_enough at n bytes from le) h) h

-- a field and what follows it
pub faults_then : {A B E : Type 0} {short : ℕ → E} {IsBroken : ℕ → E → Type 0} {IsPart : A → Type 0} {spelling : A → List ℕ} {part : Reader A E} → IsGrammar IsPart spelling part → Faults short IsBroken part
    → (next : A × ℕ → ℕ → List ℕ → Result (B × ℕ) E) → ((a : A) (start : ℕ) → Faults short IsBroken (λ bytes at. next (a, at) start bytes) ⊎ ((0 < length (spelling a)) × Rejects IsBroken (λ bytes at. next (a, at) start bytes) start))
    → Faults short IsBroken (λ bytes at. part bytes at >>= λ x. next x at bytes)
faults_then {A = A} {B = B} {E = E} {short = short} {IsBroken = IsBroken} {spelling = spelling} {part = part} g f next rest = record { one = λ bytes at e fits le h. by bytes at e fits le (bind_err (part bytes at) (λ x. next x at bytes) e h) }
  where
    whole : Reader B E
    whole bytes at = part bytes at >>= λ x. next x at bytes

    failed : (bytes : List ℕ) (at : ℕ) (e : E) → part bytes at ≡ Err e → whole bytes at ≡ Err e
    failed bytes at e h = ap (λ (r : Result (A × ℕ) E). r >>= λ x. next x at bytes) h

    passed : (bytes : List ℕ) (at : ℕ) (x : A × ℕ) → part bytes at ≡ Ok x → whole bytes at ≡ next x at bytes
    passed bytes at x h = ap (λ (r : Result (A × ℕ) E). r >>= λ y. next y at bytes) h

    in_part : (bytes : List ℕ) (at : ℕ) (e : E) → IsOne short IsBroken part bytes at e → IsOne short IsBroken whole bytes at e
    in_part bytes at e (inl s) = inl (s.0, s.1, record { start = s.2.start; within = s.2.within; cut = λ n after. failed (take n bytes) at e (s.2.cut n after) })
    in_part bytes at e (inr b) = inr (
      b.0,
      b.1,
      b.2,
      record {
        start = b.3.start;
        part = b.3.part;
        within = b.3.within;
        alike = λ other same. failed other at e (b.3.alike other same);
        cut = λ n after before. let c = b.3.cut n after before in (c.0, c.1, failed (take n bytes) at (short c.0) c.2);
      },
    )

    in_rest : (bytes : List ℕ) (at : ℕ) (e : E) (x : A × ℕ) → Taken part bytes at x.0 x.1 → IsOne short IsBroken (λ bytes mid. next (x.0, mid) at bytes) bytes x.1 e → IsOne short IsBroken whole bytes at e
    in_rest bytes at e x t (inl s) = inl (
      s.0,
      s.1,
      record {
        start = omega (arith, t.forward, s.2.start);
        within = s.2.within;
        cut = λ n after. passed (take n bytes) at x (t.alike (take n bytes) (take_take x.1 n bytes (omega (arith, s.2.start)))) ∙ s.2.cut n after;
      },
    )
    in_rest bytes at e x t (inr b) = inr (
      b.0,
      b.1,
      b.2,
      record {
        start = omega (arith, t.forward, b.3.start);
        part = b.3.part;
        within = b.3.within;
        alike = λ other same. passed other at x (t.alike other (take_fewer x.1 b.1 other bytes (omega (arith, b.3.start, b.3.part)) same)) ∙ b.3.alike other same;
        cut = λ n after before.
            let c = b.3.cut n after before in
            (c.0, c.1, passed (take n bytes) at x (t.alike (take n bytes) (take_take x.1 n bytes (omega (arith, b.3.start)))) ∙ c.2);
      },
    )

    rejected : (bytes : List ℕ) (at : ℕ) (e : E) (x : A × ℕ) → IsBytes bytes → at ≤ length bytes → part bytes at ≡ Ok x → Taken part bytes at x.0 x.1 → 0 < length (spelling x.0) → next x at bytes ≡ Err e
        → Rejects IsBroken (λ bytes mid. next (x.0, mid) at bytes) at → IsOne short IsBroken whole bytes at e
    rejected bytes at e x fits le h t some err r =
        let same : r.fault ≡ e = err_is (B × ℕ) r.fault e (sym (r.always bytes x.1) ∙ err) in
        let s = g.found bytes at x.0 x.1 fits h in
        inr (
          at,
          x.1,
          subst (IsBroken at) same r.broken,
          record {
            start = omega arith;
            part = omega (arith, s.0.place, some);
            within = t.within;
            alike = λ other alike. passed other at x (t.alike other alike) ∙ r.always other x.1 ∙ ap (λ z. Err z) same;
            cut = λ n after before. let c = cut_short g f bytes at x.0 x.1 fits le h n after before in (c.0, c.1, failed (take n bytes) at (short c.0) c.2);
          },
        )

    chosen : (bytes : List ℕ) (at : ℕ) (e : E) (x : A × ℕ) → IsBytes bytes → at ≤ length bytes → part bytes at ≡ Ok x → Taken part bytes at x.0 x.1 → next x at bytes ≡ Err e
        → Faults short IsBroken (λ bytes mid. next (x.0, mid) at bytes) ⊎ ((0 < length (spelling x.0)) × Rejects IsBroken (λ bytes mid. next (x.0, mid) at bytes) at) → IsOne short IsBroken whole bytes at e
    chosen bytes at e x fits le h t err (inl k) = in_rest bytes at e x t (k.one bytes x.1 e fits t.within err)
    chosen bytes at e x fits le h t err (inr r) = rejected bytes at e x fits le h t r.0 err r.1

    by : (bytes : List ℕ) (at : ℕ) (e : E) → IsBytes bytes → at ≤ length bytes → (part bytes at ≡ Err e) ⊎ ((x : A × ℕ) × (part bytes at ≡ Ok x) × (next x at bytes ≡ Err e)) → IsOne short IsBroken whole bytes at e
    by bytes at e fits le (inl h) = in_part bytes at e (f.one bytes at e fits le h)
    by bytes at e fits le (inr s) = chosen bytes at e s.0 fits le s.1 (taken g bytes at s.0.0 s.0.1 fits le s.1) s.2 (rest s.0.0 at)

-- a number, a byte or a run: it breaks no rule
pub ends_only : {A E : Type 0} (short : ℕ → E) (IsBroken : ℕ → E → Type 0) (width : ℕ) (value : List ℕ → ℕ → A) → Faults short IsBroken (λ bytes at. cond (ltb (length bytes - at) width) (Err (short at)) (Ok (value bytes at, at + width)))
ends_only {A = A} {E = E} short IsBroken width value = record { one = λ bytes at e fits le h. by bytes at e le (ltb (length bytes - at) width) refl h }
  where
    reads : Reader A E
    reads bytes at = cond (ltb (length bytes - at) width) (Err (short at)) (Ok (value bytes at, at + width))

    still : (bytes : List ℕ) (at n : ℕ) → length bytes - at < width → reads (take n bytes) at ≡ Err (short at)
    still bytes at n lt = let few : ltb (length (take n bytes) - at) width ≡ true = lt-ltb _ _ (omega (arith, length-take n bytes)) in rw few refl

    by : (bytes : List ℕ) (at : ℕ) (e : E) → at ≤ length bytes → (b : Bool) → ltb (length bytes - at) width ≡ b → cond {A = Result (A × ℕ) E} b (Err (short at)) (Ok (value bytes at, at + width)) ≡ Err e → IsOne short IsBroken reads bytes at e
    by bytes at e le true t h =
        let same : short at ≡ e = err_is (A × ℕ) (short at) e h in
        inl (at, sym same, record { start = omega arith; within = le; cut = λ n after. still bytes at n (ltb-true _ _ t) ∙ ap (λ z. Err z) same })
    by bytes at e le false t h = absurd (ok_no_err (value bytes at, at + width) e h)

-- a reader that tells what another one read, and its faults in other words
pub faults_as : {A B D E : Type 0} {low : ℕ → D} {IsLow : ℕ → D → Type 0} {short : ℕ → E} {IsBroken : ℕ → E → Type 0} {read : Reader A D} (tell : Result (A × ℕ) D → Result (B × ℕ) E) (fault : D → E)
    → ((r : Result (A × ℕ) D) (e : E) → tell r ≡ Err e → (d : D) × (r ≡ Err d) × (fault d ≡ e)) → ((d : D) → tell (Err d) ≡ Err (fault d)) → ((p : ℕ) → fault (low p) ≡ short p) → ((p : ℕ) (d : D) → IsLow p d → IsBroken p (fault d))
    → Faults low IsLow read → Faults short IsBroken (λ bytes at. tell (read bytes at))
faults_as {A = A} {B = B} {D = D} {E = E} {low = low} {IsLow = IsLow} {short = short} {IsBroken = IsBroken} {read = read} tell fault back forth ends breaks f = record { one = λ bytes at e fits le h. by bytes at e fits le (back (read bytes at) e h) }
  where
    told : (bytes : List ℕ) (at : ℕ) (d : D) → read bytes at ≡ Err d → tell (read bytes at) ≡ Err (fault d)
    told bytes at d h = ap tell h ∙ forth d

    one_in : (bytes : List ℕ) (at : ℕ) (d : D) → IsOne low IsLow read bytes at d → IsOne short IsBroken (λ bytes at. tell (read bytes at)) bytes at (fault d)
    one_in bytes at d (inl s) = inl (s.0, ap fault s.1 ∙ ends s.0, record { start = s.2.start; within = s.2.within; cut = λ n after. told (take n bytes) at d (s.2.cut n after) })
    one_in bytes at d (inr b) = inr (
      b.0,
      b.1,
      breaks b.0 d b.2,
      record {
        start = b.3.start;
        part = b.3.part;
        within = b.3.within;
        alike = λ other same. told other at d (b.3.alike other same);
        cut = λ n after before. let c = b.3.cut n after before in (c.0, c.1, told (take n bytes) at (low c.0) c.2 ∙ ap (λ z. Err z) (ends c.0));
      },
    )

    by : (bytes : List ℕ) (at : ℕ) (e : E) → IsBytes bytes → at ≤ length bytes → (d : D) × (read bytes at ≡ Err d) × (fault d ≡ e) → IsOne short IsBroken (λ bytes at. tell (read bytes at)) bytes at e
    by bytes at e fits le s = subst (λ (z : E). IsOne short IsBroken (λ bytes at. tell (read bytes at)) bytes at z) s.2 (one_in bytes at s.0 (f.one bytes at s.0 fits le s.1))

-- the last field
pub faults_last : {A B E : Type 0} {short : ℕ → E} {IsBroken : ℕ → E → Type 0} {part : Reader A E} → Faults short IsBroken part → (make : A → B) → Faults short IsBroken (λ bytes at. part bytes at >>= λ x. Ok (make x.0, x.1))
faults_last {A = A} {B = B} {E = E} f make = faults_as tell (λ e. e) back (λ d. refl) (λ p. refl) (λ p d is. is) f
  where
    tell : Result (A × ℕ) E → Result (B × ℕ) E
    tell r = r >>= λ x. Ok (make x.0, x.1)

    back : (r : Result (A × ℕ) E) (e : E) → tell r ≡ Err e → (d : E) × (r ≡ Err d) × (d ≡ e)
    back (Ok x) e h = absurd (ok_no_err (make x.0, x.1) e h)
    back (Err d) e h = (d, refl, err_is (B × ℕ) d e h)

-- no valid spelling begins as the bytes do up to the end of the part that breaks a rule
pub none_begins : {A E : Type 0} {IsValid : A → Type 0} {spelling : A → List ℕ} {short : ℕ → E} {read : Reader A E} → IsGrammar IsValid spelling read
    → (bytes : List ℕ) (at p q : ℕ) (e : E) → BreaksRule short read bytes at p q e → NoneBegins IsValid spelling (take (q - at) (drop at bytes))
none_begins {E = E} {spelling = spelling} {read = read} g bytes at p q e b x rest good same =
    let other : List ℕ = take at bytes ++ spelling x in
    let prefix : length (take at bytes) ≡ at = omega (arith, length-take at bytes, b.start, b.part, b.within) in
    let at_end : at + (q - at) ≡ q = omega (arith, b.start, b.part) in
    let behind : drop at other ≡ spelling x = drop_prefix (take at bytes) (spelling x) at prefix in
    let again = g.again other at x [] good (behind ∙ sym (append_nil (spelling x))) in
    let parts : take q other ≡ take q bytes =
    ap (λ (n : ℕ). take n other) (sym at_end) ∙ take_add at (q - at) other ∙ ap (λ (l : List ℕ). l ++ take (q - at) (drop at other)) (take_at (take at bytes) (spelling x) at prefix)
    ∙ ap (λ (l : List ℕ). take at bytes ++ take (q - at) l) (behind ∙ same) ∙ ap (λ (l : List ℕ). take at bytes ++ l) (take_at (take (q - at) (drop at bytes)) rest (q - at) width) ∙ sym (take_add at (q - at) bytes) ∙ ap (λ (n : ℕ). take n bytes) at_end in
    ok_no_err _ e (sym again ∙ b.alike other parts)
  where
    width : length (take (q - at) (drop at bytes)) ≡ q - at
    width = omega (arith, length-take (q - at) (drop at bytes), length-drop at bytes, b.start, b.part, b.within)

    append_nil : (l : List ℕ) → l ++ [] ≡ l
    append_nil [] = refl
    append_nil (a ∷ l) = ap (λ (m : List ℕ). a ∷ m) (append_nil l)

    drop_prefix : (l m : List ℕ) (n : ℕ) → length l ≡ n → drop n (l ++ m) ≡ m
    drop_prefix [] m zero e = refl
    drop_prefix [] m (suc n) e = absurd (omega arith)
    drop_prefix (a ∷ l) m zero e = absurd (omega arith)
    drop_prefix (a ∷ l) m (suc n) e = drop_prefix l m n (omega arith)

    take_add : (m n : ℕ) (l : List ℕ) → take (m + n) l ≡ take m l ++ take n (drop m l)
    take_add m n l = take-add m n l

-- the law of a field
abbrev pub IsRule : ℕ → FieldError → Type 0
IsRule p e = e ≡ Rule p

pub field_faults : {A : Type 0} {IsValid : A → Type 0} {spelling : A → List ℕ} {read : Reader A FieldError} → IsGrammar IsValid spelling read → Faults Short IsRule read → FaultsFirst IsValid spelling read
field_faults {A = A} {IsValid = IsValid} {spelling = spelling} {read = read} g f bytes at e fits le h = by e (f.one bytes at e fits le h)
  where
    by : (e : FieldError) → IsOne Short IsRule read bytes at e → IsFirstFault IsValid spelling read bytes at e
    by e (inl s) = subst (IsFirstFault IsValid spelling read bytes at) (sym s.1) (subst (EndsInside read bytes at s.0) s.1 s.2)
    by e (inr b) = subst (IsFirstFault IsValid spelling read bytes at) (sym b.2) (let broken = subst (BreaksRule Short read bytes at b.0 b.1) b.2 b.3 in (b.1, broken, none_begins g bytes at b.0 b.1 (Rule b.0) broken))
