-- The numbers of the messages that wait and pass a test, as messages are sent and received.
use Rattle.std.proofs.Common.{◌≡◌, ◌+◌, ◌&&◌, ◌∙◌, ℕ, suc, Bool, true, false, List, [], ◌∷◌, ◌++◌, length, Option, None, Some, refl, sym, ap, subst, arith, slice_get}
use Rattle.std.specs.Prelude.{if◌then◌else◌, drop, slice_set}
use Rattle.std.specs.Option.{option_map}
use Rattle.std.proofs.lemmas.Bool.{and_right}
use Rattle.std.proofs.lemmas.Option.{none-some, same_Some}
use Rattle.ens_base.specs.Lists.{same_bytes}
use Rattle.ens_base.proofs.Lists.{bytes_same}
use Rattle.network.specs.Mail.{IsMail, Mail, least, oldest, posted, settled}
use Rattle.wire_frames.specs.Frames.{frame_spelling}
use Rattle.wire_frames.specs.declared.frame.Frame.{Frame}
use Rattle.network.specs.Indexes.{is_spelled, numbers_from, waiting_numbers}

-- ---- the first number is that of the least message

moved : (n : ℕ) (found : Option ℕ) → option_map (λ (k : ℕ). k + (n + 1)) found ≡ option_map (λ (k : ℕ). k + n) (option_map (λ (k : ℕ). suc k) found)
moved n None = refl
moved n (Some k) = ap (λ (j : ℕ). Some j) (omega arith)

first_from : (test : Frame → Bool) (n : ℕ) (sent : List Frame) (waits : List Bool) → slice_get (numbers_from test n sent waits) 0 ≡ option_map (λ (k : ℕ). k + n) (least test sent waits)
first_from test n [] waits = refl
first_from test n (f ∷ sent) [] = refl
first_from test n (f ∷ sent) (w ∷ waits) = by (w && test f) (first_from test (n + 1) sent waits ∙ moved n (least test sent waits))
  where
    by : (b : Bool) → slice_get (numbers_from test (n + 1) sent waits) 0 ≡ option_map (λ (k : ℕ). k + n) (option_map (λ (k : ℕ). suc k) (least test sent waits))
        → slice_get (if b then n ∷ numbers_from test (n + 1) sent waits else numbers_from test (n + 1) sent waits) 0 ≡ option_map (λ (k : ℕ). k + n) (if b then Some 0 else option_map (λ (k : ℕ). suc k) (least test sent waits))
    by true rest = ap (λ (j : ℕ). Some j) (omega arith)
    by false rest = rest

pub first_waits : (bytes : List ℕ) (m : Mail) → slice_get (waiting_numbers bytes m) 0 ≡ option_map (λ n. n + 1) (oldest (is_spelled bytes) m)
first_waits bytes m = first_from (is_spelled bytes) 1 m.sent m.waits

-- ---- one more message is sent

one_more : (test : Frame → Bool) (n : ℕ) (f : Frame) → (if true && test f then n ∷ [] else []) ≡ (if test f then n ∷ [] else [])
one_more test n f = refl

joined : (b : Bool) (n : ℕ) (prefix : List ℕ) → prefix ++ (if b then n ∷ [] else []) ≡ (if b then prefix ++ n ∷ [] else prefix)
joined true n prefix = refl
joined false n [] = refl
joined false n (x ∷ prefix) = ap (λ (l : List ℕ). x ∷ l) (joined false n prefix)

behind : (b : Bool) (n : ℕ) (some more last : List ℕ) → some ≡ more ++ last → (if b then n ∷ some else some) ≡ (if b then n ∷ more else more) ++ last
behind true n some more last same = ap (λ (l : List ℕ). n ∷ l) same
behind false n some more last same = same

posted_from : (test : Frame → Bool) (n : ℕ) (sent : List Frame) (waits : List Bool) (f : Frame) → length waits ≡ length sent
    → numbers_from test n (sent ++ f ∷ []) (waits ++ true ∷ []) ≡ numbers_from test n sent waits ++ (if test f then (n + length sent) ∷ [] else [])
posted_from test n [] [] f same = ap (λ (k : ℕ). if test f then k ∷ [] else []) (omega arith)
posted_from test n [] (w ∷ waits) f same = absurd (omega (arith, same))
posted_from test n (g ∷ sent) [] f same = absurd (omega (arith, same))
posted_from test n (g ∷ sent) (w ∷ waits) f same =
    let place : n + 1 + length sent ≡ n + suc (length sent) = omega arith in
    behind (w && test g) n _ _ _ (posted_from test (n + 1) sent waits f (omega (arith, same)) ∙ ap (λ (k : ℕ). numbers_from test (n + 1) sent waits ++ (if test f then k ∷ [] else [])) place)

pub posted_waits : (bytes : List ℕ) (m : Mail) (f : Frame) → IsMail m → waiting_numbers bytes (posted m f) ≡ (if same_bytes (frame_spelling f) bytes then waiting_numbers bytes m ++ (length m.sent + 1) ∷ [] else waiting_numbers bytes m)
unfolding is_spelled
posted_waits bytes m f is =
    posted_from (is_spelled bytes) 1 m.sent m.waits f is ∙ joined (same_bytes (frame_spelling f) bytes) (1 + length m.sent) (waiting_numbers bytes m)
    ∙ ap (λ (k : ℕ). if same_bytes (frame_spelling f) bytes then waiting_numbers bytes m ++ k ∷ [] else waiting_numbers bytes m) (omega arith)

-- ---- the least message no longer waits

-- of the rest the least is one less
least_rest : (found : Option ℕ) (k : ℕ) (P : Type 0) → option_map (λ (j : ℕ). suc j) found ≡ Some k → ((j : ℕ) → found ≡ Some j → k ≡ suc j → P) → P
least_rest None k P is go = absurd (none-some k is)
least_rest (Some j) k P is go = go j refl (sym (same_Some (suc j) k is))

-- what comes of the messages behind the first one
abbrev Behind : (Frame → Bool) → (Frame → Bool) → (List ℕ → List ℕ) → ℕ → List Frame → List Bool → Type 0
Behind test other change n sent waits = (j : ℕ) → least test sent waits ≡ Some j → numbers_from other n sent (slice_set waits j false) ≡ change (numbers_from other n sent waits)

-- the numbers of the same test lose their first
settled_same : (test : Frame → Bool) (n : ℕ) (sent : List Frame) (waits : List Bool) → Behind test test (drop 1) n sent waits
settled_same test n [] waits k is = absurd (none-some k is)
settled_same test n (f ∷ sent) [] k is = absurd (none-some k is)
settled_same test n (f ∷ sent) (w ∷ waits) k is = by (w && test f) refl is (settled_same test (n + 1) sent waits)
  where
    here : (j : ℕ) → (w && test f) ≡ true → j ≡ 0 → numbers_from test n (f ∷ sent) (slice_set (w ∷ waits) j false) ≡ drop 1 (numbers_from test n (f ∷ sent) (w ∷ waits))
    here j passes none = rw none (rw passes refl)

    later : (j : ℕ) → (w && test f) ≡ false → Behind test test (drop 1) (n + 1) sent waits → least test sent waits ≡ Some j → k ≡ suc j → numbers_from test n (f ∷ sent) (slice_set (w ∷ waits) k false) ≡ drop 1 (numbers_from test n (f ∷ sent) (w ∷ waits))
    later j passes rest found next = rw next (rw passes (rest j found))

    by : (b : Bool) → (w && test f) ≡ b → (if b then Some 0 else option_map (λ (j : ℕ). suc j) (least test sent waits)) ≡ Some k → Behind test test (drop 1) (n + 1) sent waits
        → numbers_from test n (f ∷ sent) (slice_set (w ∷ waits) k false) ≡ drop 1 (numbers_from test n (f ∷ sent) (w ∷ waits))
    by true passes is rest = here k passes (sym (same_Some 0 k is))
    by false passes is rest = least_rest (least test sent waits) k _ is (λ j found next. later j passes rest found next)

-- those of a test that no message of the first passes stay
module _ (test other : Frame → Bool) (apart : (f : Frame) → test f ≡ true → other f ≡ false) where
  passed : (w : Bool) (f : Frame) → (w && test f) ≡ true → test f ≡ true
  passed true f h = h
  passed false f h = absurd cc

  settled_other : (n : ℕ) (sent : List Frame) (waits : List Bool) → Behind test other (λ l. l) n sent waits
  settled_other n [] waits k is = absurd (none-some k is)
  settled_other n (f ∷ sent) [] k is = absurd (none-some k is)
  settled_other n (f ∷ sent) (w ∷ waits) k is = by (w && test f) refl is (settled_other (n + 1) sent waits)
    where
      here : (j : ℕ) → (w && test f) ≡ true → j ≡ 0 → numbers_from other n (f ∷ sent) (slice_set (w ∷ waits) j false) ≡ numbers_from other n (f ∷ sent) (w ∷ waits)
      here j passes none = rw none (rw (and_right w (other f) (apart f (passed w f passes))) refl)

      later : (j : ℕ) → Behind test other (λ l. l) (n + 1) sent waits → least test sent waits ≡ Some j → k ≡ suc j → numbers_from other n (f ∷ sent) (slice_set (w ∷ waits) k false) ≡ numbers_from other n (f ∷ sent) (w ∷ waits)
      later j rest found next = rw next (ap (λ (l : List ℕ). if w && other f then n ∷ l else l) (rest j found))

      by : (b : Bool) → (w && test f) ≡ b → (if b then Some 0 else option_map (λ (j : ℕ). suc j) (least test sent waits)) ≡ Some k → Behind test other (λ l. l) (n + 1) sent waits
          → numbers_from other n (f ∷ sent) (slice_set (w ∷ waits) k false) ≡ numbers_from other n (f ∷ sent) (w ∷ waits)
      by true passes is rest = here k passes (sym (same_Some 0 k is))
      by false passes is rest = least_rest (least test sent waits) k _ is (λ j found next. later j rest found next)

-- bytes that differ spell no frame both
spelled_apart : (bytes other : List ℕ) → same_bytes bytes other ≡ false → (f : Frame) → is_spelled bytes f ≡ true → is_spelled other f ≡ false
unfolding is_spelled
spelled_apart bytes other differ f is = subst (λ (b : List ℕ). same_bytes b other ≡ false) (sym (bytes_same (frame_spelling f) bytes is)) differ

pub settled_waits : (bytes other : List ℕ) (m : Mail) (n : ℕ) → oldest (is_spelled bytes) m ≡ Some n → waiting_numbers other (settled m n) ≡ (if same_bytes bytes other then drop 1 (waiting_numbers other m) else waiting_numbers other m)
settled_waits bytes other m n is = by (same_bytes bytes other) refl
  where
    by : (b : Bool) → same_bytes bytes other ≡ b → waiting_numbers other (settled m n) ≡ (if b then drop 1 (waiting_numbers other m) else waiting_numbers other m)
    by true same = settled_same (is_spelled other) 1 m.sent m.waits n (subst (λ (b : List ℕ). oldest (is_spelled b) m ≡ Some n) (bytes_same bytes other same) is)
    by false differ = settled_other (is_spelled bytes) (is_spelled other) (spelled_apart bytes other differ) 1 m.sent m.waits n is
