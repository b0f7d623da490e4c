-- What the outcomes of the commands show, and what they never do.
use Rattle.std.proofs.Common.{◌≡◌, ℕ, Bool, true, false, List, [], ◌∷◌, ◌++◌, ◌⊎◌, inl, inr, refl, sym, ap, subst, ◌∙◌}
use Rattle.std.specs.Prelude.{if◌then◌else◌, Option, Some}
use Rattle.std.proofs.lemmas.Bool.{and_parts, and_from, false≢true}
use Rattle.ens_base.proofs.Orders.{version_same, version_itself}
use Rattle.ens_base.specs.Lists.{◌∈◌, same_bytes}
use Rattle.ens_base.specs.Epochs.{same_version}
use Rattle.ens_base.specs.declared.epoch.Version.{Version}
use Rattle.ens_base.specs.declared.command.Command.{Command}
use Rattle.ens_base.specs.declared.command.Command.TheVariants.{Get, PutOnce, Update, Append, Add, Swap, Over, Delete}
use Rattle.ens_base.specs.declared.reply.Reply.{Reply}
use Rattle.register_model.specs.Registers.{Outcome, Keeps, Writes, outcome, stamps_after}
use Rattle.register_model.specs.declared.register.Register.TheVariants.{Absent, Present}
use Rattle.register_checker.specs.Stamps.{with_stamp}
use Rattle.register_checker.specs.Guesses.{same_reply, learned, with_wanted}
use Rattle.register_checker.proofs.Fresh.{Has}
use Rattle.register_checker.proofs.Stands.{in_with, with_old, with_new}
use Rattle.ens_base.proofs.Lists.{bytes_same, bytes_itself, in_left, in_right, in_append}

-- ## Equal replies

pub reply_itself : (a : Reply) → same_reply a a ≡ true
reply_itself (Reply.Value s b) = and_from (same_version s s) (same_bytes b b) (version_itself s) (bytes_itself b)
reply_itself Reply.NotFound = refl
reply_itself (Reply.Ok s) = version_itself s
reply_itself Reply.Failed = refl
reply_itself Reply.Unavailable = refl
reply_itself Reply.Busy = refl
reply_itself Reply.Lost = refl
reply_itself Reply.Timeout = refl

pub reply_same : (a b : Reply) → same_reply a b ≡ true → a ≡ b
reply_same (Reply.Value s b) (Reply.Value t c) h =
    let parts = and_parts (same_version s t) (same_bytes b c) h in
    ap (λ (v : Version). Reply.Value v b) (version_same s t parts.0) ∙ ap (λ (d : List ℕ). Reply.Value t d) (bytes_same b c parts.1)
reply_same Reply.NotFound Reply.NotFound h = refl
reply_same (Reply.Ok s) (Reply.Ok t) h = ap (λ (v : Version). Reply.Ok v) (version_same s t h)
reply_same Reply.Failed Reply.Failed h = refl
reply_same Reply.Unavailable Reply.Unavailable h = refl
reply_same Reply.Busy Reply.Busy h = refl
reply_same Reply.Lost Reply.Lost h = refl
reply_same Reply.Timeout Reply.Timeout h = refl
reply_same a b h = absurd (false≢true h)

-- ## The stamps that an outcome shows

-- the stamp that an update asks for
abbrev pub Wanted : Command → Version → Type 0
Wanted (Update wanted new) x = x ≡ wanted
Wanted command x = ⊥

-- the reply shows only these stamps, and is not that of a write
abbrev pub ShowsOf : List Version → Reply → Type 0
ShowsOf stamps (Reply.Value t b) = t ∈ stamps
ShowsOf stamps (Reply.Ok t) = ⊥
ShowsOf stamps reply = Unit {0}

-- the outcome shows only these stamps, and the stamp that a successful update asked for is one of
-- them
abbrev pub Fits : List Version → Command → Outcome → Type 0
Fits stamps command (Keeps answer) = ShowsOf stamps answer
Fits stamps command (Writes content) = (x : Version) → Wanted command x → x ∈ stamps

fits_if : (stamps : List Version) (c : Command) (b : Bool) (done failed : Outcome) → (b ≡ true → Fits stamps c done) → Fits stamps c failed → Fits stamps c (if b then done else failed)
fits_if stamps c true done failed y n = y refl
fits_if stamps c false done failed y n = n

fits_blind : (stamps : List Version) (c : Command) (b : Bool) (content : Option (List ℕ)) → ((x : Version) → ¬ (Wanted c x)) → Fits stamps c (if b then Writes content else Keeps Reply.Failed)
fits_blind stamps c true content bare = λ x w. absurd (bare x w)
fits_blind stamps c false content bare = tt

pub fits_absent : (stamps : List Version) (c : Command) → Fits stamps c (outcome c Absent)
fits_absent stamps Get = tt
fits_absent stamps (PutOnce v) = λ x h. absurd h
fits_absent stamps (Update w v) = tt
fits_absent stamps (Append v) = tt
fits_absent stamps (Add n) = tt
fits_absent stamps (Swap a b) = tt
fits_absent stamps (Over v) = λ x h. absurd h
fits_absent stamps Delete = λ x h. absurd h

pub fits_present : (stamps : List Version) (c : Command) (s : Version) (b : List ℕ) → s ∈ stamps → Fits stamps c (outcome c (Present s b))
fits_present stamps Get s b h = h
fits_present stamps (PutOnce v) s b h = tt
fits_present stamps (Update w v) s b h = fits_if stamps (Update w v) (same_version w s) (Writes (Some v)) (Keeps Reply.Failed) done tt
  where
    done : same_version w s ≡ true → (x : Version) → x ≡ w → x ∈ stamps
    done same x e = let P : Version → Type 0 = λ y. y ∈ stamps in subst P (sym (e ∙ version_same w s same)) h
fits_present stamps (Append v) s b h = fits_blind stamps (Append v) _ _ (λ x w. w)
fits_present stamps (Add n) s b h = fits_blind stamps (Add n) _ _ (λ x w. w)
fits_present stamps (Swap old new) s b h = fits_blind stamps (Swap old new) _ _ (λ x w. w)
fits_present stamps (Over v) s b h = λ x w. absurd w
fits_present stamps Delete s b h = λ x w. absurd w

-- a command that does not look at the stamp writes or fails
abbrev pub IsBlind : Outcome → Type 0
IsBlind (Keeps Reply.Failed) = Unit {0}
IsBlind (Keeps answer) = ⊥
IsBlind (Writes content) = Unit {0}

pub blind_if : (b : Bool) (content : _) → IsBlind (if b then Writes content else Keeps Reply.Failed)
blind_if true content = tt
blind_if false content = tt

-- ## What a reply teaches

pub in_wanted : (known : List Version) (c : Command) (x : Version) → x ∈ with_wanted known c → (x ∈ known) ⊎ Wanted c x
in_wanted known (Update w v) x h = turned (in_with known w x h)
  where
    turned : (x ≡ w) ⊎ (x ∈ known) → (x ∈ known) ⊎ (x ≡ w)
    turned (inl e) = inr e
    turned (inr there) = inl there
in_wanted known c x h = inl h

pub wanted_old : (known : List Version) (c : Command) (x : Version) → x ∈ known → x ∈ with_wanted known c
wanted_old known (Update w v) x h = with_old known w x h
wanted_old known c x h = h

pub learned_old : (known : List Version) (c : Command) (r : Reply) (x : Version) → x ∈ known → x ∈ learned known c r
learned_old known c (Reply.Ok t) x h = wanted_old (with_stamp known t) c x (with_old known t x h)
learned_old known c (Reply.Value t b) x h = with_old known t x h
learned_old known c r x h = h

pub either_of : {A B C : Type 0} → A ⊎ B → (A → C) → (B → C) → C
either_of (inl a) f g = f a
either_of (inr b) f g = g b

module _ (named known : List Version) (c : Command) where
  -- more is known after a reply
  pub learned_more : (r : Reply) → Has (named ++ learned known c r) (named ++ known)
  learned_more r x h = either_of (in_append named known x h) (λ l. in_left named (learned known c r) x l) (λ k. in_right named (learned known c r) x (learned_old known c r x k))

  -- a reply that shows no further stamp teaches none
  pub learned_shown : (a : Reply) → ShowsOf (named ++ known) a → Has (named ++ known) (named ++ learned known c a)
  learned_shown (Reply.Value t b) shown x h =
      either_of (in_append named (with_stamp known t) x h) (λ l. in_left named known x l) (λ k. either_of (in_with known t x k) (λ e. let P : Version → Type 0 = λ y. y ∈ (named ++ known) in subst P (sym e) shown) (λ old. in_right named known x old))
  learned_shown (Reply.Ok t) shown x h = absurd shown
  learned_shown a shown x h = h

  -- the reply to a write teaches its stamp, and the one that it asked for
  pub learned_write : (t : Version) (taken : List Version) → Has taken (named ++ known) → t ∈ taken → ((x : Version) → Wanted c x → x ∈ taken) → Has taken (named ++ learned known c (Reply.Ok t))
  learned_write t taken old new wanted x h =
      either_of (in_append named (with_wanted (with_stamp known t) c) x h)
      (λ l. old x (in_left named known x l))
      (λ k. either_of (in_wanted (with_stamp known t) c x k)
      (λ s. either_of (in_with known t x s) (λ e. let P : Version → Type 0 = λ y. y ∈ taken in subst P (sym e) new) (λ before. old x (in_right named known x before)))
      (wanted x))

  pub learned_stamp : (t : Version) → t ∈ (named ++ learned known c (Reply.Ok t))
  learned_stamp t = in_right named (learned known c (Reply.Ok t)) t (wanted_old (with_stamp known t) c t (with_new known t))

  pub write_learned : (t : Version) → Has (named ++ learned known c (Reply.Ok t)) (t ∷ (named ++ known))
  write_learned t x (inl e) = let P : Version → Type 0 = λ y. y ∈ (named ++ learned known c (Reply.Ok t)) in subst P (sym e) (learned_stamp t)
  write_learned t x (inr h) = learned_more (Reply.Ok t) x h

  -- the same for a stamp that a read shows
  pub shown_under : (t : Version) → Has (t ∷ (named ++ known)) (named ++ with_stamp known t)
  shown_under t x h =
      either_of (in_append named (with_stamp known t) x h) (λ l. inr (in_left named known x l)) (λ k. either_of (in_with known t x k) (λ e. inl e) (λ old. inr (in_right named known x old)))

  pub shown_over : (t : Version) → Has (named ++ with_stamp known t) (t ∷ (named ++ known))
  shown_over t x (inl e) = in_right named (with_stamp known t) x (let P : Version → Type 0 = λ y. y ∈ with_stamp known t in subst P (sym e) (with_new known t))
  shown_over t x (inr h) = either_of (in_append named known x h) (λ l. in_left named (with_stamp known t) x l) (λ k. in_right named (with_stamp known t) x (with_old known t x k))

-- ## An outcome that leaves the register unchanged takes no stamp

pub shown_quiet : (stamps S : List Version) (a : Reply) → ShowsOf stamps a → Has S (stamps_after a S)
shown_quiet stamps S (Reply.Ok t) shown x h = absurd shown
shown_quiet stamps S a shown x h = h

kept_fits : (stamps : List Version) (c : Command) (o : Outcome) (a : Reply) → o ≡ Keeps a → Fits stamps c o → ShowsOf stamps a
kept_fits stamps c o a e fits = let P : Outcome → Type 0 = λ p. Fits stamps c p in subst P e fits

pub quiet_absent : (S : List Version) (c : Command) (a : Reply) → outcome c Absent ≡ Keeps a → Has S (stamps_after a S)
quiet_absent S c a e = shown_quiet [] S a (kept_fits [] c (outcome c Absent) a e (fits_absent [] c))

pub quiet_present : (S : List Version) (c : Command) (s : Version) (b : List ℕ) (a : Reply) → outcome c (Present s b) ≡ Keeps a → Has S (stamps_after a S)
quiet_present S c s b a e = shown_quiet (s ∷ []) S a (kept_fits (s ∷ []) c (outcome c (Present s b)) a e (fits_present (s ∷ []) c s b (inl refl)))
