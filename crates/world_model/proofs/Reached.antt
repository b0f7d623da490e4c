-- What a call that was to lead to a run says of a longer run.
use Rattle.std.proofs.Common.{◌≡◌, ◌∙◌, ◌<◌, ◌-◌, ◌⊎◌, ℕ, suc, List, [], ◌∷◌, ◌++◌, Option, Result, Ok, Err, inl, inr, refl, sym, ap, subst, arith}
use Rattle.std.specs.Prelude.{IfErr, OnOk}
use Rattle.std.specs.Result.{IsErrAnd}
use Rattle.std.proofs.lemmas.List.{append-nil}
use Rattle.world_spec.proofs.Taken.{hashed_none, rejected_further, rejected_after}
use Rattle.world_spec.specs.Held.{Account, HasHashed, StartsWith}
use Rattle.world_spec.proofs.Growth.{IsFurther, changed_hashed, changed_mail, fewer_first}
use Rattle.world_spec.specs.Lines.{with_damage}
use Rattle.world_spec.specs.Messages.{IsPastMessages, IsWithinMessages}
use Rattle.world_spec.specs.Nodes.{Node, over_stores, started}
use Rattle.world_spec.specs.Runs.{Run, in_front, unhashed, repeated, changed, with_start, mode_at}
use Rattle.world_spec.specs.Stores.{segment_spoiled}
use Rattle.world_model.specs.Refusals.{IsCutOff}
use Rattle.world_model.specs.Worlds.{run_of, MayRefuse, MayStop, Adds, Reaches, RunReaches}
use Rattle.world_model.specs.declared.error.WorldError.{WorldError}
use Rattle.world_model.specs.declared.error.WorldError.TheVariants.{Clash, BookFull, MessageLimit, Memory}
use Rattle.world_model.specs.declared.world.World.{World}
use Rattle.ens_base.proofs.Causes.{rose_later}

-- what cuts off some strings cuts off more of them
pub cut_off_further : (xs ys : List (List ℕ)) (first now : Account) (e : WorldError) → StartsWith xs ys → IsCutOff xs first now e → IsCutOff ys first now e
cut_off_further xs ys first now MessageLimit starts cut = absurd cut
cut_off_further xs ys first now Memory starts cut = tt
cut_off_further xs ys first now (Clash kept new) starts cut = (rejected_further xs ys first new now starts cut.0, cut.1, cut.2, cut.3)
cut_off_further xs ys first now (BookFull bytes) starts cut = (let filled = cut.0 in (filled.0, rejected_further xs ys first filled.0 now starts filled.1, filled.2, filled.3), cut.1)

-- the same after other strings that were taken
pub cut_off_after : (xs ys : List (List ℕ)) (first mid now : Account) (e : WorldError) → HasHashed xs first mid → IsCutOff ys mid now e → IsCutOff (xs ++ ys) first now e
cut_off_after xs ys first mid now MessageLimit has cut = absurd cut
cut_off_after xs ys first mid now Memory has cut = tt
cut_off_after xs ys first mid now (Clash kept new) has cut = (rejected_after xs ys first mid new now has cut.0, cut.1, cut.2, rose_later first.clashes mid.clashes now.clashes has.clashes cut.3)
cut_off_after xs ys first mid now (BookFull bytes) has cut = (let filled = cut.0 in (filled.0, rejected_after xs ys first mid filled.0 now has filled.1, rose_later first.fulls mid.fulls now.fulls has.fulls filled.2, filled.3), cut.1)

-- an error that was passed on
pub errs : {T : Type 0} (P : WorldError → Type 0) (r : Result T WorldError) (G : WorldError → Type 0) (e : WorldError) → IsErrAnd r G → ((d : WorldError) → G d → d ≡ e) → P e → IfErr r P
errs P (Ok x) G e and same holds = absurd and
errs P (Err d) G e and same holds = subst P (sym (same d and)) holds

-- a start that was cut off, among several
pub start_cut_off : {T : Type 0} (n count : ℕ) (strings : List (List ℕ)) (first mid now : Account) (e : WorldError) (r : Result T WorldError) (G : WorldError → Type 0) → n < count → HasHashed (repeated n strings) first mid
    → IsErrAnd r G → ((d : WorldError) → G d → d ≡ e) → IsCutOff strings mid now e → IfErr r (IsCutOff (repeated count strings) first now)
start_cut_off n count strings first mid now e r G below has and same cut = errs (IsCutOff (repeated count strings) first now) r G e and same
    (cut_off_further (repeated (suc n) strings) (repeated count strings) first now e (fewer_first (count - suc n) (suc n) count strings (omega (arith, below)))
    (cut_off_after (repeated n strings) strings first mid now e has cut))

refused : (first : Account) (near far : Run) (now : Account) (e : WorldError) → IsFurther near far → MayRefuse first near now e → MayRefuse first far now e
refused first near far now MessageLimit longer past = omega (arith, longer.sent, past)
refused first near far now Memory longer past = tt
refused first near far now (Clash kept new) longer past = cut_off_further near.hashed far.hashed first now (Clash kept new) longer.hashed past
refused first near far now (BookFull bytes) longer past = cut_off_further near.hashed far.hashed first now (BookFull bytes) longer.hashed past

refused_after : (xs : List (List ℕ)) (first mid now : Account) (due : Run) (e : WorldError) → HasHashed xs first mid → MayRefuse mid due now e → MayRefuse first (in_front xs due) now e
refused_after xs first mid now due MessageLimit has past = past
refused_after xs first mid now due Memory has past = tt
refused_after xs first mid now due (Clash kept new) has past = cut_off_after xs due.hashed first mid now (Clash kept new) has past
refused_after xs first mid now due (BookFull bytes) has past = cut_off_after xs due.hashed first mid now (BookFull bytes) has past

-- a call refused on the way to one run, after these strings were taken, is refused on the way to a
-- longer one
module _ (xs : List (List ℕ)) (near far : Run) (first mid now : Account) (e : WorldError) (has : HasHashed xs first mid) (longer : IsFurther (in_front xs near) far) (may : MayRefuse mid near now e) where
  further : MayRefuse first far now e
  further = refused first (in_front xs near) far now e longer (refused_after xs first mid now near e has may)

  pub refused_further : {T : Type 0} (reached : Run) (r : Result T WorldError) (G : WorldError → Type 0) → IsErrAnd r G → ((d : WorldError) → G d → d ≡ e) → Reaches first far r reached now
  refused_further reached (Ok x) G and same = absurd and
  refused_further reached (Err d) G and same = subst (MayRefuse first far now) (sym (same d and)) further

  -- the same of a call that returns a world
  pub refused_run : (r : Result World WorldError) (G : WorldError → Type 0) → IsErrAnd r G → ((d : WorldError) → G d → d ≡ e) → RunReaches first far r now
  refused_run (Ok w) G and same = absurd and
  refused_run (Err d) G and same = subst (MayRefuse first far now) (sym (same d and)) further

-- a step that was cut off refuses a call that is to lead to a run with these strings
pub cut_off_refuses : (first : Account) (due : Run) (now : Account) (e : WorldError) → IsCutOff due.hashed first now e → MayRefuse first due now e
cut_off_refuses first due now MessageLimit cut = absurd cut
cut_off_refuses first due now Memory cut = tt
cut_off_refuses first due now (Clash kept new) cut = cut
cut_off_refuses first due now (BookFull bytes) cut = cut

stop_refuses : (first : Account) (due : Run) (now : Account) (e : WorldError) → MayStop (unhashed due) e → MayRefuse first due now e
stop_refuses first due now MessageLimit may = may
stop_refuses first due now Memory may = tt
stop_refuses first due now (Clash kept new) may = absurd may
stop_refuses first due now (BookFull bytes) may = absurd may

-- a call that needs no hasher is refused as one that does
pub adds_reaches : {T : Type 0} (first : Account) (due : Run) (now : Account) (r : Result T WorldError) (reached added : Run) → Adds added r reached → added ≡ unhashed due → HasHashed due.hashed first now → Reaches first due r reached now
adds_reaches first due now (Ok x) reached added adds same has = (adds.0 ∙ same, subst IsWithinMessages same adds.1, has)
adds_reaches first due now (Err e) reached added adds same has = stop_refuses first due now e (subst (λ (k : Run). MayStop k e) same adds)

-- a run in which nothing was hashed
pub none_hashed : (w : Run) → w.hashed ≡ [] → w ≡ unhashed w
none_hashed w none = ap (λ h. record w { hashed = h }) none

-- a call that needs no hasher, and is to lead to a run in which nothing is hashed
pub quiet_reaches : {T : Type 0} (first : Account) (due : Run) (r : Result T WorldError) (reached : Run) → due.hashed ≡ [] → Adds due r reached → Reaches first due r reached first
quiet_reaches first due r reached none adds = adds_reaches first due first r reached due adds (none_hashed due none) (rw none (hashed_none first))

-- the same of a call that did what it was to do
pub quiet_led : (first : Account) (due reached : Run) → due.hashed ≡ [] → reached ≡ due → IsWithinMessages due → (reached ≡ unhashed due) × IsWithinMessages due × HasHashed due.hashed first first
quiet_led first due reached none is within = (is ∙ none_hashed due none, within, rw none (hashed_none first))

-- a world that is to stay as it is
pub still_reaches : (first : Account) (w : World) (due : Run) → run_of w ≡ due → IsWithinMessages (run_of w) → (run_of w ≡ unhashed due) × IsWithinMessages due × HasHashed due.hashed first first
still_reaches first w due is within = subst (λ (v : Run). (run_of w ≡ unhashed v) × IsWithinMessages v × HasHashed v.hashed first first) is (refl, within, hashed_none first)

-- a call for one run is a call for an equal run
pub reaches_same : {T : Type 0} (first : Account) (due same : Run) (r : Result T WorldError) (reached : Run) (now : Account) → due ≡ same → Reaches first due r reached now → Reaches first same r reached now
reaches_same first due same r reached now is reaches = subst (λ (d : Run). Reaches first d r reached now) is reaches

-- the world and the strings lead to the whole run
pub led_to : (strings : List (List ℕ)) (w : World) (whole : Run) (first now : Account) → in_front strings (run_of w) ≡ whole → IsWithinMessages (run_of w) → HasHashed strings first now
    → (run_of w ≡ unhashed whole) × IsWithinMessages whole × HasHashed whole.hashed first now
led_to strings w whole first now is within has =
    (ap unhashed is, subst IsWithinMessages is within, subst (λ (v : Run). HasHashed v.hashed first now) is (subst (λ h. HasHashed h first now) (sym (append-nil strings)) has))

-- a call that starts a peer leads to the run in which it has started, or was cut off
pub reaches_started : {T : Type 0} (first now : Account) (peer : ℕ) (w : Run) (strings : List (List ℕ)) (r : Result T WorldError) (reached : Run) (Did : Type 0) → (with_start peer w).hashed ≡ strings → IsWithinMessages w
    → OnOk r Did → (Did → reached ≡ unhashed (with_start peer w)) → (Did → HasHashed strings first now) → IfErr r (IsCutOff strings first now) → Reaches first (with_start peer w) r reached now
reaches_started first now peer w strings (Ok x) reached Did are within ok led has cut = (led ok, rw (changed_mail peer (started (mode_at peer w) w.view) w) within, rw are (has ok))
reaches_started first now peer w strings (Err e) reached Did are within ok led has cut = cut_off_refuses first (with_start peer w) now e (subst (λ h. IsCutOff h first now e) (sym are) cut)

-- a call that hashed a key, and then damages its segment unless memory runs out
pub reaches_damaged : {T : Type 0} (first now : Account) (peer : ℕ) (key : List ℕ) (bytes : Option (List ℕ)) (w : Run) (r : Result T WorldError) (reached : Run) (Did : Type 0) → w.hashed ≡ [] → IsWithinMessages w → HasHashed (key ∷ []) first now
    → OnOk r Did → (Did → reached ≡ changed peer (over_stores (segment_spoiled key bytes)) w) → IfErr r (λ e. e ≡ Memory) → Reaches first (with_damage peer key bytes w) r reached now
reaches_damaged first now peer key bytes w (Ok x) reached Did none within has ok led memory =
    let v = changed peer (over_stores (segment_spoiled key bytes)) w in
    let unmarked : v.hashed ≡ [] = changed_hashed peer (over_stores (segment_spoiled key bytes)) w ∙ none in
    (led ok ∙ none_hashed v unmarked, rw (changed_mail peer (over_stores (segment_spoiled key bytes)) w) within, rw unmarked has)
reaches_damaged first now peer key bytes w (Err e) reached Did none within has ok led memory = rw memory tt

-- a call that sends messages is refused at the limit, or out of memory
pub refused_sending : {T : Type 0} (due : Run) (e : WorldError) (b : Run) (r : Result T WorldError) (G : WorldError → Type 0) → IsErrAnd r G → ((d : WorldError) → G d → d ≡ e)
    → (e ≡ MessageLimit) ⊎ (e ≡ Memory) → (e ≡ MessageLimit → IsPastMessages due) → Adds due r b
refused_sending due e b (Ok x) G and same why past = absurd and
refused_sending due e b (Err d) G and same why past = subst (MayStop due) (sym (same d and)) (by why) where
  by : (e ≡ MessageLimit) ⊎ (e ≡ Memory) → MayStop due e
  by (inl limit) = subst (MayStop due) (sym limit) (past limit)
  by (inr memory) = subst (MayStop due) (sym memory) tt

-- a call that changes one node and needs no hasher
pub adds_changed : {T : Type 0} (peer : ℕ) (change : Node → Node) (w : Run) (r : Result T WorldError) (now : Run) (Did : Type 0) → IsWithinMessages w → OnOk r Did → (Did → now ≡ changed peer change w) → IfErr r (λ e. e ≡ Memory)
    → Adds (changed peer change w) r now
adds_changed peer change w (Ok x) now Did within ok led memory = (led ok, rw (changed_mail peer change w) within)
adds_changed peer change w (Err e) now Did within ok led memory = subst (MayStop (changed peer change w)) (sym memory) tt
