-- What a call with a printed reply leaves of one possible register.
use Rattle.std.proofs.Common.{◌≡◌, ℕ, Bool, true, false, List, [], ◌∷◌, ◌++◌, inl, inr, refl, sym, ap, subst, ◌∙◌, Option, None, Some}
use Rattle.std.specs.Prelude.{if◌then◌else◌, not, ◌&&◌}
use Rattle.std.proofs.lemmas.Bool.{and_parts, and_from, false≢true, not-true, not_from_false, false_from_ne_true}
use Rattle.ens_base.proofs.Orders.{version_same, version_itself}
use Rattle.ens_base.specs.Lists.{◌∈◌, same_bytes}
use Rattle.ens_base.specs.Epochs.{same_version}
use Rattle.ens_base.specs.declared.epoch.Version.{Version}
use Rattle.ens_base.specs.declared.command.Command.{Command}
use Rattle.ens_base.specs.declared.command.Command.TheVariants.{Get, PutOnce, Update, Append, Add, Swap, Over, Delete}
use Rattle.ens_base.specs.declared.reply.Reply.{Reply}
use Rattle.object_commands.specs.Commands.{verdict_of}
use Rattle.register_model.specs.Registers.{Outcome, Keeps, Writes, outcome, written, stamps_after}
use Rattle.register_model.specs.declared.register.Register.{Register}
use Rattle.register_model.specs.declared.register.Register.TheVariants as register
use Rattle.register_model.specs.declared.register.Register.TheVariants.{Present}
use Rattle.register_checker.specs.Stamps.{with_stamp}
use Rattle.register_checker.specs.Guesses.{answered, left_told, write_told, get_told, update_told, told_content, is_new, may_be, nowhere, learned, same_reply}
use Rattle.register_checker.specs.Meanings.{OfSome, IsTaken}
use Rattle.register_checker.specs.declared.guess.Guess.{Guess}
use Rattle.register_checker.specs.declared.guess.Guess.TheVariants.{Absent, Told, Untold}
use Rattle.register_checker.specs.declared.guess.Possible.{Possible}
use Rattle.register_checker.proofs.Stands.{in_with, with_old, with_new, unused, same_of}
use Rattle.register_checker.proofs.Fresh.{Has, IsFree}
use Rattle.register_checker.proofs.Outcomes.{IsBlind, blind_if, Fits, fits_absent, fits_present, Wanted, either_of, reply_itself, reply_same, shown_quiet, learned_more, learned_shown, learned_write, write_learned, shown_under, shown_over}
use Rattle.register_checker.proofs.Silent.{new_true, new_gives, may_true, may_gives, StepTo, Step, Leaves, after_old, moved, single}
use Rattle.ens_base.proofs.Lists.{bytes_same, bytes_itself, in_left, in_right}

-- one more stamp in front of both lists
beside : (u : Version) (S T : List Version) → Has S T → Has (u ∷ S) (u ∷ T)
beside u S T sub x (inl e) = inl e
beside u S T sub x (inr h) = inr (sub x h)

module _ (P : List Version → Register → Type 0) (fewer : (S T : List Version) (r : Register) → Has S T → P S r → P T r) (free : (S : List Version) (r : Register) → P S r → IsFree P S r) where
  chosen : (K : List Version) (b : Bool) (x : Possible) → b ≡ true → OfSome P (x.named ++ K) x.held → Leaves P K (if b then x ∷ [] else [])
  chosen K true x e h = (x, inl refl, h)
  chosen K false x e h = absurd (false≢true e)

  chose : (K : List Version) (b : Bool) (x : Possible) → Leaves P K (if b then x ∷ [] else []) → (b ≡ true) × OfSome P (x.named ++ K) x.held
  chose K true x h = (refl, single P fewer free K x h.0 h.1 h.2)
  chose K false x h = absurd h.1

  content_told : (content : Option (List ℕ)) (S : List Version) (t : Version) → P S (written t content) → OfSome P S (told_content t content)
  content_told None S t p = p
  content_told (Some b) S t p = p

  content_back : (content : Option (List ℕ)) (S : List Version) (t : Version) → OfSome P S (told_content t content) → P S (written t content)
  content_back None S t p = p
  content_back (Some b) S t p = p

  -- ## A register that is known

  known_to : (c : Command) (o : Outcome) (K N : List Version) (held : Guess) (reg : Register) (r : Reply) → Fits (N ++ K) c o → ((S : List Version) → P S reg → OfSome P S held) → StepTo P (Some r) o (N ++ K) reg → Leaves P (learned K c r) (left_told K (verdict_of o) r held N)
  known_to c (Keeps a) K N held reg r fits hold h =
      let is : a ≡ r = sym h.3.0 ∙ h.2 in
      let x : Possible = record { held = held; named = N } in
      let Q : Reply → Type 0 = λ y. Leaves P (learned K c y) (if same_reply a y then x ∷ [] else []) in
      let p = fewer (stamps_after a (N ++ K)) (N ++ K) reg (after_old a (N ++ K)) (moved P (N ++ K) h.0 a h.1 reg h.3.0 h.3.1 h.4) in
      subst Q is (chosen (learned K c a) (same_reply a a) x (reply_itself a) (hold (N ++ learned K c a) (fewer (N ++ K) (N ++ learned K c a) reg (learned_shown N K c a fits) p)))
  known_to c (Writes content) K N held reg r fits hold h =
      let t = h.3.0 in
      let is : Reply.Ok t ≡ r = sym h.3.1 ∙ h.2 in
      let Q : Reply → Type 0 = λ y. Leaves P (learned K c y) (write_told K N content y) in
      let p = moved P (N ++ K) h.0 (Reply.Ok t) h.1 (written t content) h.3.1 h.3.3 h.4 in
      let sub = learned_write N K c t (t ∷ (N ++ K)) (λ x there. inr there) (inl refl) (λ x w. inr (fits x w)) in
      subst Q is (chosen (learned K c (Reply.Ok t)) (is_new K N t) (record { held = told_content t content; named = N }) (new_true K N t h.3.2) (content_told content (N ++ learned K c (Reply.Ok t)) t (fewer (t ∷ (N ++ K)) (N ++ learned K c (Reply.Ok t)) (written t content) sub p)))

  write_from : (c : Command) (K N : List Version) (content : Option (List ℕ)) (reg : Register) (r : Reply) → Leaves P (learned K c r) (write_told K N content r) → StepTo P (Some r) (Writes content) (N ++ K) reg
  write_from c K N content reg (Reply.Ok t) h =
      let g = chose (learned K c (Reply.Ok t)) (is_new K N t) (record { held = told_content t content; named = N }) h in
      (Reply.Ok t, written t content, refl, (t, refl, new_gives K N t g.0, refl), fewer (N ++ learned K c (Reply.Ok t)) (t ∷ (N ++ K)) (written t content) (write_learned N K c t) (content_back content (N ++ learned K c (Reply.Ok t)) t g.1))
  write_from c K N content reg r h = absurd h.1

  known_from : (c : Command) (o : Outcome) (K N : List Version) (held : Guess) (reg : Register) (r : Reply) → Fits (N ++ K) c o → ((S : List Version) → OfSome P S held → P S reg) → Leaves P (learned K c r) (left_told K (verdict_of o) r held N) → StepTo P (Some r) o (N ++ K) reg
  known_from c (Keeps a) K N held reg r fits back h =
      let g = chose (learned K c r) (same_reply a r) (record { held = held; named = N }) h in
      (a, reg, reply_same a r g.0, (refl, refl), fewer (N ++ K) (stamps_after a (N ++ K)) reg (shown_quiet (N ++ K) (N ++ K) a fits) (fewer (N ++ learned K c r) (N ++ K) reg (learned_more N K c r) (back (N ++ learned K c r) g.1)))
  known_from c (Writes content) K N held reg r fits back h = write_from c K N content reg r h

  -- ## A value under an unknown stamp, and a command that does not look at it

  unknown_to : (c : Command) (o : Outcome) (K N E : List Version) (b : List ℕ) (r : Reply) → ((x : Version) → ¬ (Wanted c x)) → IsBlind o → OfSome (λ S q. StepTo P (Some r) o S q) (N ++ K) (Untold b E) → Leaves P (learned K c r) (left_told K (verdict_of o) r (Untold b E) N)
  unknown_to c (Keeps Reply.Failed) K N E b r bare blind h =
      let s = h.3 in
      let is : Reply.Failed ≡ r = sym s.3.0 ∙ s.2 in
      let x : Possible = record { held = Untold b E; named = N } in
      let Q : Reply → Type 0 = λ y. Leaves P (learned K c y) (if same_reply Reply.Failed y then x ∷ [] else []) in
      subst Q is (x, inl refl, (h.0, h.1, h.2, moved P (h.0 ∷ (N ++ K)) s.0 Reply.Failed s.1 (Present h.0 b) s.3.0 s.3.1 s.4))
  unknown_to c (Keeps a) K N E b r bare blind h = absurd blind
  unknown_to c (Writes content) K N E b r bare blind h =
      let s = h.3 in
      let t = s.3.0 in
      let is : Reply.Ok t ≡ r = sym s.3.1 ∙ s.2 in
      let Q : Reply → Type 0 = λ y. Leaves P (learned K c y) (write_told K N content y) in
      let p = moved P (h.0 ∷ (N ++ K)) s.0 (Reply.Ok t) s.1 (written t content) s.3.1 s.3.3 s.4 in
      let sub = learned_write N K c t (t ∷ h.0 ∷ (N ++ K)) (λ x there. inr (inr there)) (inl refl) (λ x w. absurd (bare x w)) in
      subst Q is (chosen (learned K c (Reply.Ok t)) (is_new K N t) (record { held = told_content t content; named = N }) (new_true K N t (λ there. s.3.2 (inr there))) (content_told content (N ++ learned K c (Reply.Ok t)) t (fewer (t ∷ h.0 ∷ (N ++ K)) (N ++ learned K c (Reply.Ok t)) (written t content) sub p)))

  unknown_write : (c : Command) (K N E : List Version) (b : List ℕ) (content : Option (List ℕ)) (r : Reply) → Leaves P (learned K c r) (write_told K N content r) → OfSome (λ S q. StepTo P (Some r) (Writes content) S q) (N ++ K) (Untold b E)
  unknown_write c K N E b content (Reply.Ok t) h =
      let g = chose (learned K c (Reply.Ok t)) (is_new K N t) (record { held = told_content t content; named = N }) h in
      let more = free (N ++ learned K c (Reply.Ok t)) (written t content) (content_back content (N ++ learned K c (Reply.Ok t)) t g.1) in
      let u = unused (more.0 ++ (E ++ (t ∷ (N ++ K)))) in
      let out : ¬ (u.0 ∈ (E ++ (t ∷ (N ++ K)))) = λ there. u.1 (in_right more.0 (E ++ (t ∷ (N ++ K))) u.0 there) in
      let apart : ¬ (u.0 ∈ (t ∷ (N ++ K))) = λ there. out (in_right E (t ∷ (N ++ K)) u.0 there) in (
        u.0,
        λ there. out (in_left E (t ∷ (N ++ K)) u.0 there),
        λ there. apart (inr there),
        (
          Reply.Ok t,
          written t content,
          refl,
          (t, refl, fresh u.0 apart (new_gives K N t g.0), refl),
          fewer (u.0 ∷ (N ++ learned K c (Reply.Ok t))) (t ∷ u.0 ∷ (N ++ K)) (written t content) (under u.0) (more.1 u.0 (λ there. u.1 (in_left more.0 (E ++ (t ∷ (N ++ K))) u.0 there))),
        ),
      )
    where
      fresh : (u : Version) → ¬ (u ∈ (t ∷ (N ++ K))) → ¬ (t ∈ (N ++ K)) → ¬ (t ∈ (u ∷ (N ++ K)))
      fresh u apart new (inl e) = apart (inl (sym e))
      fresh u apart new (inr there) = new there

      under : (u : Version) → Has (u ∷ (N ++ learned K c (Reply.Ok t))) (t ∷ u ∷ (N ++ K))
      under u x (inl e) = inr (write_learned N K c t x (inl e))
      under u x (inr (inl e)) = inl e
      under u x (inr (inr there)) = inr (write_learned N K c t x (inr there))
  unknown_write c K N E b content r h = absurd h.1

  unknown_from : (c : Command) (o : Outcome) (K N E : List Version) (b : List ℕ) (r : Reply) → IsBlind o → Leaves P (learned K c r) (left_told K (verdict_of o) r (Untold b E) N) → OfSome (λ S q. StepTo P (Some r) o S q) (N ++ K) (Untold b E)
  unknown_from c (Keeps Reply.Failed) K N E b r blind h =
      let g = chose (learned K c r) (same_reply Reply.Failed r) (record { held = Untold b E; named = N }) h in
      let v = g.1 in (
        v.0,
        v.1,
        λ there. v.2 (learned_more N K c r v.0 there),
        (Reply.Failed, Present v.0 b, reply_same Reply.Failed r g.0, (refl, refl), fewer (v.0 ∷ (N ++ learned K c r)) (v.0 ∷ (N ++ K)) (Present v.0 b) (beside v.0 (N ++ learned K c r) (N ++ K) (learned_more N K c r)) v.3),
      )
  unknown_from c (Keeps a) K N E b r blind h = absurd blind
  unknown_from c (Writes content) K N E b r blind h = unknown_write c K N E b content r h

  -- ## A read of a value under an unknown stamp

  read_to : (K N E : List Version) (b : List ℕ) (r : Reply) → OfSome (λ S q. Step P (Some r) Get S q) (N ++ K) (Untold b E) → Leaves P (learned K Get r) (get_told K N r b E)
  read_to K N E b r h =
      let s = h.3 in
      let u = h.0 in
      let is : Reply.Value u b ≡ r = sym s.3.0 ∙ s.2 in
      let Q : Reply → Type 0 = λ y. Leaves P (learned K Get y) (get_told K N y b E) in
      let p = moved P (u ∷ (N ++ K)) s.0 (Reply.Value u b) s.1 (Present u b) s.3.0 s.3.1 s.4 in
      let test = and_from (same_bytes b b) (may_be K N E u) (bytes_itself b) (may_true K N E u h.1 h.2) in
      subst Q is (chosen (with_stamp K u) (same_bytes b b && may_be K N E u) (record { held = Told u b; named = N }) test (fewer (u ∷ (N ++ K)) (N ++ with_stamp K u) (Present u b) (shown_under N K Get u) p))

  read_from : (K N E : List Version) (b : List ℕ) (r : Reply) → Leaves P (learned K Get r) (get_told K N r b E) → OfSome (λ S q. Step P (Some r) Get S q) (N ++ K) (Untold b E)
  read_from K N E b (Reply.Value t d) h =
      let g = chose (with_stamp K t) (same_bytes d b && may_be K N E t) (record { held = Told t b; named = N }) h in
      let parts = and_parts (same_bytes d b) (may_be K N E t) g.0 in
      let gives = may_gives K N E t parts.1 in
      let is : Reply.Value t b ≡ Reply.Value t d = ap (λ (e : List ℕ). Reply.Value t e) (sym (bytes_same d b parts.0)) in
      (t, gives.0, gives.1, (Reply.Value t b, Present t b, is, (refl, refl), fewer (N ++ with_stamp K t) (t ∷ (N ++ K)) (Present t b) (shown_over N K Get t) g.1))
  read_from K N E b r h = absurd h.1

  -- ## An update of a value under an unknown stamp

  abbrev UpdateStep : Reply → Bool → List ℕ → List Version → Version → List ℕ → Type 0
  UpdateStep r same new S u b = StepTo P (Some r) (if same then Writes (Some new) else Keeps Reply.Failed) (u ∷ S) (Present u b)

  update_to : (K N E : List Version) (w u : Version) (new b : List ℕ) (same : Bool) (r : Reply) → same_version w u ≡ same → ¬ (u ∈ E) → ¬ (u ∈ (N ++ K)) → UpdateStep r same new (N ++ K) u b → Leaves P (learned K (Update w new) r) (update_told K N w new r b E)
  update_to K N E w u new b true r e out fresh s =
      let t = s.3.0 in
      let at : u ≡ w = sym (version_same w u e) in
      let is : Reply.Ok t ≡ r = sym s.3.1 ∙ s.2 in
      let c : Command = Update w new in
      let Q : Reply → Type 0 = λ y. Leaves P (learned K c y) (update_told K N w new y b E) in
      let A : Version → Type 0 = λ v. ¬ (v ∈ E) in
      let B : Version → Type 0 = λ v. ¬ (v ∈ (N ++ K)) in
      let p = moved P (u ∷ (N ++ K)) s.0 (Reply.Ok t) s.1 (Present t new) s.3.1 s.3.3 s.4 in
      let sub = learned_write N K c t (t ∷ u ∷ (N ++ K)) (λ x there. inr (inr there)) (inl refl) (λ x f. inr (inl (f ∙ sym at))) in
      let differ : same_version t w ≡ false = false_from_ne_true (same_version t w) (λ f. s.3.2 (inl (version_same t w f ∙ sym at))) in
      let tests = and_from (is_new K N t) (not (same_version t w)) (new_true K N t (λ there. s.3.2 (inr there))) (not_from_false (same_version t w) differ) in
      let test = and_from (may_be K N E w) (is_new K N t && not (same_version t w)) (may_true K N E w (subst A at out) (subst B at fresh)) tests in
      subst Q is (chosen (learned K c (Reply.Ok t)) (may_be K N E w && (is_new K N t && not (same_version t w))) (record { held = Told t new; named = N }) test (fewer (t ∷ u ∷ (N ++ K)) (N ++ learned K c (Reply.Ok t)) (Present t new) sub p))
  update_to K N E w u new b false r e out fresh s =
      let is : Reply.Failed ≡ r = sym s.3.0 ∙ s.2 in
      let Q : Reply → Type 0 = λ y. Leaves P (learned K (Update w new) y) (update_told K N w new y b E) in
      let p = moved P (u ∷ (N ++ K)) s.0 Reply.Failed s.1 (Present u b) s.3.0 s.3.1 s.4 in
      subst Q is (record { held = Untold b (with_stamp E w); named = N }, inl refl, (u, still, fresh, p))
    where
      still : ¬ (u ∈ with_stamp E w)
      still there = either_of (in_with E w u there) (λ f. false≢true (sym e ∙ same_of w u (sym f))) out

  update_from : (K N E : List Version) (w : Version) (new b : List ℕ) (r : Reply) → Leaves P (learned K (Update w new) r) (update_told K N w new r b E) → OfSome (λ S q. Step P (Some r) (Update w new) S q) (N ++ K) (Untold b E)
  update_from K N E w new b (Reply.Ok t) h =
      let c : Command = Update w new in
      let g = chose (learned K c (Reply.Ok t)) (may_be K N E w && (is_new K N t && not (same_version t w))) (record { held = Told t new; named = N }) h in
      let first = and_parts (may_be K N E w) (is_new K N t && not (same_version t w)) g.0 in
      let second = and_parts (is_new K N t) (not (same_version t w)) first.1 in
      let gives = may_gives K N E w first.0 in
      let Q : Bool → Type 0 = λ same. UpdateStep (Reply.Ok t) same new (N ++ K) w b in (
        w,
        gives.0,
        gives.1,
        subst Q (sym (version_itself w)) (
          Reply.Ok t,
          Present t new,
          refl,
          (t, refl, apart (not-true (same_version t w) second.1) (new_gives K N t second.0), refl),
          fewer (N ++ learned K c (Reply.Ok t)) (t ∷ w ∷ (N ++ K)) (Present t new) over g.1,
        ),
      )
    where
      apart : same_version t w ≡ false → ¬ (t ∈ (N ++ K)) → ¬ (t ∈ (w ∷ (N ++ K)))
      apart differ n (inl e) = false≢true (sym differ ∙ same_of t w e)
      apart differ n (inr there) = n there

      over : Has (N ++ learned K (Update w new) (Reply.Ok t)) (t ∷ w ∷ (N ++ K))
      over x (inl e) = write_learned N K (Update w new) t x (inl e)
      over x (inr (inl e)) = in_right N (learned K (Update w new) (Reply.Ok t)) x (let A : Version → Type 0 = λ y. y ∈ with_stamp (with_stamp K t) w in subst A (sym e) (with_new (with_stamp K t) w))
      over x (inr (inr there)) = write_learned N K (Update w new) t x (inr there)
  update_from K N E w new b Reply.Failed h =
      let g = single P fewer free K (record { held = Untold b (with_stamp E w); named = N }) h.0 h.1 h.2 in
      let differ : same_version w g.0 ≡ false = false_from_ne_true (same_version w g.0) (λ e. g.1 (let A : Version → Type 0 = λ y. y ∈ with_stamp E w in subst A (version_same w g.0 e) (with_new E w))) in
      let Q : Bool → Type 0 = λ same. UpdateStep Reply.Failed same new (N ++ K) g.0 b in
      (g.0, λ there. g.1 (with_old E w g.0 there), g.2, subst Q (sym differ) (Reply.Failed, Present g.0 b, refl, (refl, refl), g.3))
  update_from K N E w new b r h = absurd h.1

  -- ## Any call with a printed reply

  pub answered_to : (K N : List Version) (held : Guess) (c : Command) (r : Reply) → IsTaken (N ++ K) held → OfSome (λ S q. Step P (Some r) c S q) (N ++ K) held → Leaves P (learned K c r) (answered K N held c r)
  answered_to K N Absent c r taken h = known_to c (outcome c register.Absent) K N Absent register.Absent r (fits_absent (N ++ K) c) (λ S p. p) h
  answered_to K N (Told s b) c r taken h = known_to c (outcome c (Present s b)) K N (Told s b) (Present s b) r (fits_present (N ++ K) c s b taken) (λ S p. p) h
  answered_to K N (Untold b E) (Update w new) r taken h = update_to K N E w h.0 new b (same_version w h.0) r refl h.1 h.2 h.3
  answered_to K N (Untold b E) Get r taken h = read_to K N E b r h
  answered_to K N (Untold b E) (PutOnce v) r taken h = unknown_to (PutOnce v) (outcome (PutOnce v) (Present nowhere b)) K N E b r (λ x w. w) tt h
  answered_to K N (Untold b E) (Append v) r taken h = unknown_to (Append v) (outcome (Append v) (Present nowhere b)) K N E b r (λ x w. w) (blind_if _ _) h
  answered_to K N (Untold b E) (Add n) r taken h = unknown_to (Add n) (outcome (Add n) (Present nowhere b)) K N E b r (λ x w. w) (blind_if _ _) h
  answered_to K N (Untold b E) (Swap old new) r taken h = unknown_to (Swap old new) (outcome (Swap old new) (Present nowhere b)) K N E b r (λ x w. w) (blind_if _ _) h
  answered_to K N (Untold b E) (Over v) r taken h = unknown_to (Over v) (outcome (Over v) (Present nowhere b)) K N E b r (λ x w. w) tt h
  answered_to K N (Untold b E) Delete r taken h = unknown_to Delete (outcome Delete (Present nowhere b)) K N E b r (λ x w. w) tt h

  pub answered_from : (K N : List Version) (held : Guess) (c : Command) (r : Reply) → IsTaken (N ++ K) held → Leaves P (learned K c r) (answered K N held c r) → OfSome (λ S q. Step P (Some r) c S q) (N ++ K) held
  answered_from K N Absent c r taken h = known_from c (outcome c register.Absent) K N Absent register.Absent r (fits_absent (N ++ K) c) (λ S p. p) h
  answered_from K N (Told s b) c r taken h = known_from c (outcome c (Present s b)) K N (Told s b) (Present s b) r (fits_present (N ++ K) c s b taken) (λ S p. p) h
  answered_from K N (Untold b E) (Update w new) r taken h = update_from K N E w new b r h
  answered_from K N (Untold b E) Get r taken h = read_from K N E b r h
  answered_from K N (Untold b E) (PutOnce v) r taken h = unknown_from (PutOnce v) (outcome (PutOnce v) (Present nowhere b)) K N E b r tt h
  answered_from K N (Untold b E) (Append v) r taken h = unknown_from (Append v) (outcome (Append v) (Present nowhere b)) K N E b r (blind_if _ _) h
  answered_from K N (Untold b E) (Add n) r taken h = unknown_from (Add n) (outcome (Add n) (Present nowhere b)) K N E b r (blind_if _ _) h
  answered_from K N (Untold b E) (Swap old new) r taken h = unknown_from (Swap old new) (outcome (Swap old new) (Present nowhere b)) K N E b r (blind_if _ _) h
  answered_from K N (Untold b E) (Over v) r taken h = unknown_from (Over v) (outcome (Over v) (Present nowhere b)) K N E b r tt h
  answered_from K N (Untold b E) Delete r taken h = unknown_from Delete (outcome Delete (Present nowhere b)) K N E b r tt h
