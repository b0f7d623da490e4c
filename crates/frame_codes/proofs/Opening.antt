-- Sealed frames open, and nothing else does.
use Rattle.std.proofs.Common.{◌≡◌, ◌∙◌, ◌+◌, ◌-◌, ◌≤◌, ◌<◌, ◌++◌, ◌||◌, ℕ, Bool, true, false, List, [], ◌∷◌, Option, Some, None, refl, sym, ap, arith, inl, inr, length, take, drop, if◌then◌else◌}
use Rattle.std.proofs.Math.Seq.{take-append_seam}
use Rattle.std.proofs.lemmas.List.{append_cancel_left, length-append, length-take-le, take-append-drop}
use Rattle.std.specs.List.{list_any}
use Rattle.sha2.proofs.Facts256.{length-sha256}
use Rattle.ens_base.specs.Lists.{◌∈◌}
use Rattle.frame_codes.specs.Hmac.{hmac}
use Rattle.frame_codes.specs.Seals.{Keys, name_of, sealed, sent_as, keys_of, and_second, IsSealed, front_of, is_sealed, opened}
use lib.Pointwise.{bytes_decides}

pub code_length : (name key frame : List ℕ) → length (take 16 (hmac key (name ++ frame))) ≡ 16
code_length name key frame = let whole : length (hmac key (name ++ frame)) ≡ 32 = length-sha256 _ in length-take-le 16 (hmac key (name ++ frame)) (omega arith)

pub sealed_length : (name key frame : List ℕ) → length (sealed name key frame) ≡ length frame + 16
sealed_length name key frame = let code = code_length name key frame in length-append frame _ ∙ ap (λ n. length frame + n) code

-- the front of a sealed frame is the frame
pub front_of_sealed : (name key frame : List ℕ) → front_of (sealed name key frame) ≡ frame
front_of_sealed name key frame =
    let whole = sealed_length name key frame in
    let at : length (sealed name key frame) - 16 ≡ length frame = omega arith in
    ap (λ n. take n (sealed name key frame)) at ∙ take-append_seam frame _

pub tested : (name key frame : List ℕ) → is_sealed name (sealed name key frame) key ≡ true
tested name key frame = (bytes_decides _ _).1 (sym (ap (sealed name key) (front_of_sealed name key frame)))

pub sealed_of_test : (name key bytes : List ℕ) → is_sealed name bytes key ≡ true → bytes ≡ sealed name key (front_of bytes)
sealed_of_test name key bytes holds = (bytes_decides _ _).0 holds

some_key : (name bytes : List ℕ) (keys : List (List ℕ)) → list_any (is_sealed name bytes) keys ≡ true → (key : List ℕ) × (key ∈ keys) × (bytes ≡ sealed name key (front_of bytes))
some_key name bytes [] holds = absurd cc
some_key name bytes (key ∷ keys) holds = by (is_sealed name bytes key) refl (some_key name bytes keys) holds
  where
    by : (b : Bool) → is_sealed name bytes key ≡ b → (list_any (is_sealed name bytes) keys ≡ true → (k : List ℕ) × (k ∈ keys) × (bytes ≡ sealed name k (front_of bytes))) → (b || list_any (is_sealed name bytes) keys) ≡ true → (k : List ℕ) × (k ∈ (key ∷ keys)) × (bytes ≡ sealed name k (front_of bytes))
    by true is later holds = (key, inl refl, sealed_of_test name key bytes is)
    by false is later holds = let found = later holds in (found.0, inr found.1, found.2)

pub any_key : (name frame key : List ℕ) (keys : List (List ℕ)) → key ∈ keys → list_any (is_sealed name (sealed name key frame)) keys ≡ true
any_key name frame key [] absent = absurd absent
any_key name frame key (k ∷ keys) (inl is) = rw (← is) (ap (λ b. b || list_any (is_sealed name (sealed name key frame)) keys) (tested name key frame))
any_key name frame key (k ∷ keys) (inr later) = or_true (is_sealed name (sealed name key frame) k) (any_key name frame key keys later)
  where
    or_true : (b : Bool) {c : Bool} → c ≡ true → (b || c) ≡ true
    or_true true {c} holds = refl
    or_true false {c} holds = holds

pub sealed_of_opened : (k : Keys) (frame bytes : List ℕ) → opened k bytes ≡ Some frame → IsSealed k frame bytes
sealed_of_opened k frame bytes is = by (list_any (is_sealed (name_of k.ensemble) bytes) (keys_of k.file)) refl is
  where
    by : (b : Bool) → list_any (is_sealed (name_of k.ensemble) bytes) (keys_of k.file) ≡ b → (if b then Some (front_of bytes) else None) ≡ Some frame → IsSealed k frame bytes
    by true holds is = let found = some_key (name_of k.ensemble) bytes (keys_of k.file) holds in
        let same : front_of bytes ≡ frame = cc is in
        (found.0, found.1, found.2 ∙ ap (sealed (name_of k.ensemble) found.0) same)
    by false fails is = absurd cc

pub opened_of_sealed : (k : Keys) (frame bytes : List ℕ) → IsSealed k frame bytes → opened k bytes ≡ Some frame
opened_of_sealed k frame bytes is =
    let name = name_of k.ensemble in
    let key = is.0 in
    rw (is.2, any_key name frame key (keys_of k.file) is.1) (ap Some (front_of_sealed name key frame))

pub sent_opens : (k : Keys) (frame : List ℕ) → opened k (sent_as k frame) ≡ Some frame
sent_opens k frame = opened_of_sealed k frame (sent_as k frame) (k.file.first, first_in k.file.second, refl)
  where
    first_in : (second : Option (List ℕ)) → k.file.first ∈ and_second k.file.first second
    first_in None = inl refl
    first_in (Some s) = inl refl

-- bytes that are too short for a code
pub test_is_short : (name key bytes : List ℕ) → length bytes < 16 → is_sealed name bytes key ≡ false
test_is_short name key bytes short = by (is_sealed name bytes key) refl
  where
    by : (b : Bool) → is_sealed name bytes key ≡ b → is_sealed name bytes key ≡ false
    by false is = is
    by true is = let long = ap length (sealed_of_test name key bytes is) ∙ sealed_length name key (front_of bytes) in absurd (omega arith)

-- bytes whose last 16 are the code of what stands before them
pub test_of_code : (name key bytes : List ℕ) → 16 ≤ length bytes → take 16 (hmac key (name ++ front_of bytes)) ≡ drop (length bytes - 16) bytes → is_sealed name bytes key ≡ true
test_of_code name key bytes long code = (bytes_decides _ _).1 (sym (ap (λ d. front_of bytes ++ d) code ∙ take-append-drop (length bytes - 16) bytes))

pub code_of_test : (name key bytes : List ℕ) → 16 ≤ length bytes → is_sealed name bytes key ≡ true → take 16 (hmac key (name ++ front_of bytes)) ≡ drop (length bytes - 16) bytes
code_of_test name key bytes long test =
    let whole : front_of bytes ++ take 16 (hmac key (name ++ front_of bytes)) ≡ front_of bytes ++ drop (length bytes - 16) bytes = sym (sealed_of_test name key bytes test) ∙ sym (take-append-drop (length bytes - 16) bytes) in
    append_cancel_left _ _ _ whole

-- what opens has room for a code
pub opened_is_long : (name bytes : List ℕ) (keys : List (List ℕ)) → list_any (is_sealed name bytes) keys ≡ true → 16 ≤ length bytes
opened_is_long name bytes keys holds =
    let found = some_key name bytes keys holds in
    let long = ap length found.2 ∙ sealed_length name found.0 (front_of bytes) in
    omega arith
