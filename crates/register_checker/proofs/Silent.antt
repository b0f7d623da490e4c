-- What a call without a printed reply leaves of one possible register.
use Rattle.std.proofs.Common.{◌≡◌, ℕ, Bool, true, false, List, [], ◌∷◌, ◌++◌, inl, inr, refl, sym, subst, ◌∙◌, Option, None, Some}
use Rattle.ens_base.proofs.Lists.{in_left, in_right, in_append}
use Rattle.std.specs.Prelude.{if◌then◌else◌, not}
use Rattle.std.proofs.lemmas.Bool.{and_parts, and_from, false≢true, true≢false, not-true, not_from_false, false_from_ne_true}
use Rattle.ens_base.proofs.Orders.{version_same, version_itself}
use Rattle.ens_base.specs.Lists.{◌∈◌}
use Rattle.ens_base.specs.Epochs.{same_version}
use Rattle.ens_base.specs.declared.epoch.Version.{Version}
use Rattle.ens_base.specs.declared.command.Command.{Command}
use Rattle.ens_base.specs.declared.command.Command.TheVariants.{Get, PutOnce, Update, Append, Add, Swap, Over, Delete}
use Rattle.ens_base.specs.declared.reply.Reply.{Reply}
use Rattle.object_commands.specs.Commands.{verdict_of}
use Rattle.register_model.specs.Registers.{Outcome, Keeps, Writes, Comes, outcome, written, stamps_after}
use Rattle.register_model.specs.declared.register.Register.{Register}
use Rattle.register_model.specs.declared.register.Register.TheVariants as register
use Rattle.register_model.specs.declared.register.Register.TheVariants.{Present}
use Rattle.register_checker.specs.Stamps.{has}
use Rattle.register_checker.specs.Guesses.{silent, left_untold, untold_content, is_new, may_be, nowhere}
use Rattle.register_checker.specs.Meanings.{OfSome}
use Rattle.register_checker.specs.declared.guess.Guess.{Guess}
use Rattle.register_checker.specs.declared.guess.Guess.TheVariants.{Absent, Told, Untold}
use Rattle.register_checker.specs.declared.guess.Possible.{Possible}
use Rattle.register_checker.proofs.Stands.{not_in, has_not, unused, same_of}
use Rattle.register_checker.proofs.Fresh.{Has, IsFree}
use Rattle.register_checker.proofs.Outcomes.{IsBlind, blind_if, either_of, quiet_absent, quiet_present}

-- ## Stamps that are new

pub new_true : (known named : List Version) (t : Version) → ¬ (t ∈ (named ++ known)) → is_new known named t ≡ true
new_true known named t n =
    and_from (not (has known t)) (not (has named t))
    (not_from_false (has known t) (has_not known t (λ h. n (in_right named known t h))))
    (not_from_false (has named t) (has_not named t (λ h. n (in_left named known t h))))

pub new_gives : (known named : List Version) (t : Version) → is_new known named t ≡ true → ¬ (t ∈ (named ++ known))
new_gives known named t e h =
    let parts = and_parts (not (has known t)) (not (has named t)) e in
    either_of (in_append named known t h) (λ l. not_in named t (not-true (has named t) parts.1) l) (λ k. not_in known t (not-true (has known t) parts.0) k)

pub may_true : (known named excluded : List Version) (t : Version) → ¬ (t ∈ excluded) → ¬ (t ∈ (named ++ known)) → may_be known named excluded t ≡ true
may_true known named excluded t out n = and_from (is_new known named t) (not (has excluded t)) (new_true known named t n) (not_from_false (has excluded t) (has_not excluded t out))

pub may_gives : (known named excluded : List Version) (t : Version) → may_be known named excluded t ≡ true → (¬ (t ∈ excluded)) × (¬ (t ∈ (named ++ known)))
may_gives known named excluded t e =
    let parts = and_parts (is_new known named t) (not (has excluded t)) e in
    (not_in excluded t (not-true (has excluded t) parts.1), new_gives known named t parts.0)

-- ## A step by its outcome

-- the reply is the printed one, if there is one
abbrev pub Tells : Option Reply → Reply → Type 0
Tells None reply = Unit {0}
Tells (Some told) reply = reply ≡ told

-- a step with this outcome, after which P holds
abbrev pub StepTo : (List Version → Register → Type 0) → Option Reply → Outcome → List Version → Register → Type 0
StepTo P told o stamps old = (reply : Reply) × (new : Register) × Tells told reply × Comes stamps old o reply new × P (stamps_after reply stamps) new

-- a step of the command, after which P holds
abbrev pub Step : (List Version → Register → Type 0) → Option Reply → Command → List Version → Register → Type 0
Step P told c stamps old = StepTo P told (outcome c old) stamps old

-- P holds of some register in the list
abbrev pub Leaves : (List Version → Register → Type 0) → List Version → List Possible → Type 0
Leaves P known list = (m : Possible) × (m ∈ list) × OfSome P (m.named ++ known) m.held

pub after_old : (a : Reply) (S : List Version) → Has (stamps_after a S) S
after_old (Reply.Ok t) S x h = inr h
after_old a S x h = h

pub blind_same : (a : Reply) (S : List Version) → IsBlind (Keeps a) → Has S (stamps_after a S)
blind_same Reply.Failed S blind x h = h
blind_same a S blind x h = absurd blind

pub moved : (P : List Version → Register → Type 0) (S : List Version) (a b : Reply) (r q : Register) → a ≡ b → r ≡ q → P (stamps_after a S) r → P (stamps_after b S) q
moved P S a b r q e f p = let Q : Register → Type 0 = λ x. P (stamps_after b S) x in subst Q f (let R : Reply → Type 0 = λ x. P (stamps_after x S) r in subst R e p)

pub excluded_not : (E : List Version) (u w : Version) → ¬ (u ∈ E) → ¬ (u ≡ w) → ¬ (u ∈ (E ++ w ∷ []))
excluded_not E u w out differ h = either_of (in_append E (w ∷ []) u h) out last
  where
    last : ¬ (u ∈ (w ∷ []))
    last (inl e) = differ e
    last (inr h) = h

module _ (P : List Version → Register → Type 0) (fewer : (S T : List Version) (r : Register) → Has S T → P S r → P T r) (free : (S : List Version) (r : Register) → P S r → IsFree P S r) where
  -- what an outcome without a printed reply leaves
  abbrev After : Outcome → List Version → Guess → Type 0
  After (Keeps answer) S held = OfSome P S held
  After (Writes content) S held = OfSome P S (untold_content content)

  left_to : (o : Outcome) (K N : List Version) (held : Guess) → After o (N ++ K) held → Leaves P K (left_untold (verdict_of o) held N)
  left_to (Keeps a) K N held h = (record { held = held; named = N }, inl refl, h)
  left_to (Writes content) K N held h = (record { held = untold_content content; named = N }, inl refl, h)

  pub single : (K : List Version) (x m : Possible) → m ∈ (x ∷ []) → OfSome P (m.named ++ K) m.held → OfSome P (x.named ++ K) x.held
  single K x m (inl e) h = let Q : Possible → Type 0 = λ p. OfSome P (p.named ++ K) p.held in subst Q e h
  single K x m (inr there) h = absurd there

  left_from : (o : Outcome) (K N : List Version) (held : Guess) → Leaves P K (left_untold (verdict_of o) held N) → After o (N ++ K) held
  left_from (Keeps a) K N held h = single K (record { held = held; named = N }) h.0 h.1 h.2
  left_from (Writes content) K N held h = single K (record { held = untold_content content; named = N }) h.0 h.1 h.2

  content_to : (content : Option (List ℕ)) (S : List Version) (t : Version) → ¬ (t ∈ S) → P (t ∷ S) (written t content) → OfSome P S (untold_content content)
  content_to None S t new p = fewer (t ∷ S) S register.Absent (λ x h. inr h) p
  content_to (Some b) S t new p = (t, λ h. h, new, p)

  -- ## A register that is known

  known_to : (o : Outcome) (S : List Version) (held : Guess) (r : Register) → (P S r → OfSome P S held) → StepTo P None o S r → After o S held
  known_to (Keeps a) S held r hold h = hold (fewer (stamps_after a S) S r (after_old a S) (moved P S h.0 a h.1 r h.3.0 h.3.1 h.4))
  known_to (Writes content) S held r hold h = content_to content S h.3.0 h.3.2 (moved P S h.0 (Reply.Ok h.3.0) h.1 (written h.3.0 content) h.3.1 h.3.3 h.4)

  -- a write under a new stamp
  write_from : (content : Option (List ℕ)) (S : List Version) (r : Register) → OfSome P S (untold_content content) → StepTo P None (Writes content) S r
  write_from None S r h =
      let more = free S register.Absent h in
      let u = unused (more.0 ++ S) in
      (Reply.Ok u.0, register.Absent, tt, (u.0, refl, λ there. u.1 (in_right more.0 S u.0 there), refl), more.1 u.0 (λ there. u.1 (in_left more.0 S u.0 there)))
  write_from (Some b) S r h = (Reply.Ok h.0, Present h.0 b, tt, (h.0, refl, h.2, refl), h.3)

  known_from : (o : Outcome) (S : List Version) (held : Guess) (r : Register) → ((a : Reply) → o ≡ Keeps a → Has S (stamps_after a S)) → (OfSome P S held → P S r) → After o S held → StepTo P None o S r
  known_from (Keeps a) S held r quiet back h = (a, r, tt, (refl, refl), fewer S (stamps_after a S) r (quiet a refl) (back h))
  known_from (Writes content) S held r quiet back h = write_from content S r h

  -- ## A value under an unknown stamp, and a command that does not look at it

  unknown_to : (o : Outcome) (S E : List Version) (b : List ℕ) → OfSome (λ T r. StepTo P None o T r) S (Untold b E) → After o S (Untold b E)
  unknown_to (Keeps a) S E b h =
      let s = h.3 in
      (h.0, h.1, h.2, fewer (stamps_after a (h.0 ∷ S)) (h.0 ∷ S) (Present h.0 b) (after_old a (h.0 ∷ S)) (moved P (h.0 ∷ S) s.0 a s.1 (Present h.0 b) s.3.0 s.3.1 s.4))
  unknown_to (Writes content) S E b h =
      let s = h.3 in
      let t = s.3.0 in
      content_to content S t (λ there. s.3.2 (inr there)) (fewer (t ∷ h.0 ∷ S) (t ∷ S) (written t content) (beside t h.0 S) (moved P (h.0 ∷ S) s.0 (Reply.Ok t) s.1 (written t content) s.3.1 s.3.3 s.4))
    where
      beside : (t u : Version) (S : List Version) → Has (t ∷ u ∷ S) (t ∷ S)
      beside t u S x (inl e) = inl e
      beside t u S x (inr there) = inr (inr there)

  turned : (t u : Version) (S : List Version) → Has (u ∷ t ∷ S) (t ∷ u ∷ S)
  turned t u S x (inl e) = inr (inl e)
  turned t u S x (inr (inl e)) = inl e
  turned t u S x (inr (inr h)) = inr (inr h)

  unknown_write : (content : Option (List ℕ)) (S E : List Version) (b : List ℕ) → OfSome P S (untold_content content) → OfSome (λ T r. StepTo P None (Writes content) T r) S (Untold b E)
  unknown_write None S E b h =
      let more = free S register.Absent h in
      let u = unused (more.0 ++ (E ++ S)) in
      let out : ¬ (u.0 ∈ (E ++ S)) = λ there. u.1 (in_right more.0 (E ++ S) u.0 there) in (
        u.0,
        λ there. out (in_left E S u.0 there),
        λ there. out (in_right E S u.0 there),
        write_from None (u.0 ∷ S) (Present u.0 b) (more.1 u.0 (λ there. u.1 (in_left more.0 (E ++ S) u.0 there))),
      )
  unknown_write (Some d) S E b h =
      let t = h.0 in
      let more = free (t ∷ S) (Present t d) h.3 in
      let u = unused (more.0 ++ (E ++ (t ∷ S))) in
      let out : ¬ (u.0 ∈ (E ++ (t ∷ S))) = λ there. u.1 (in_right more.0 (E ++ (t ∷ S)) u.0 there) in
      let new : ¬ (u.0 ∈ (t ∷ S)) = λ there. out (in_right E (t ∷ S) u.0 there) in (
        u.0,
        λ there. out (in_left E (t ∷ S) u.0 there),
        λ there. new (inr there),
        write_from (Some d) (u.0 ∷ S) (Present u.0 b) (
          t,
          λ none. none,
          apart t u.0 S h.2 new,
          fewer (u.0 ∷ t ∷ S) (t ∷ u.0 ∷ S) (Present t d) (turned t u.0 S) (more.1 u.0 (λ there. u.1 (in_left more.0 (E ++ (t ∷ S)) u.0 there))),
        ),
      )
    where
      apart : (t u : Version) (S : List Version) → ¬ (t ∈ S) → ¬ (u ∈ (t ∷ S)) → ¬ (t ∈ (u ∷ S))
      apart t u S n m (inl e) = m (inl (sym e))
      apart t u S n m (inr there) = n there

  unknown_from : (o : Outcome) (S E : List Version) (b : List ℕ) → IsBlind o → After o S (Untold b E) → OfSome (λ T r. StepTo P None o T r) S (Untold b E)
  unknown_from (Keeps a) S E b blind h = (h.0, h.1, h.2, (a, Present h.0 b, tt, (refl, refl), fewer (h.0 ∷ S) (stamps_after a (h.0 ∷ S)) (Present h.0 b) (blind_same a (h.0 ∷ S) blind) h.3))
  unknown_from (Writes content) S E b blind h = unknown_write content S E b h

  -- ## An update of a value under an unknown stamp

  -- a step of an update that asks for w, on a value with stamp u, by whether the two are equal
  abbrev UpdateStep : Option Reply → Bool → List ℕ → List Version → Version → List ℕ → Type 0
  UpdateStep told same new S u b = StepTo P told (if same then Writes (Some new) else Keeps Reply.Failed) (u ∷ S) (Present u b)

  abbrev failed_of : List Version → List Version → Version → List ℕ → Possible
  failed_of N E w b = record { held = Untold b (E ++ w ∷ []); named = N }

  abbrev done_of : List Version → Version → List ℕ → Possible
  done_of N w new = record { held = Untold new []; named = N ++ w ∷ [] }

  abbrev stays_of : List Version → List Version → List ℕ → Possible
  stays_of N E b = record { held = Untold b E; named = N }

  update_to : (K N E : List Version) (w u : Version) (new b : List ℕ) (same may : Bool) → same_version w u ≡ same → may_be K N E w ≡ may → ¬ (u ∈ E) → ¬ (u ∈ (N ++ K)) → UpdateStep None same new (N ++ K) u b → Leaves P K (if may then failed_of N E w b ∷ done_of N w new ∷ [] else stays_of N E b ∷ [])
  update_to K N E w u new b true true e m out fresh s =
      let t = s.3.0 in
      let p = moved P (u ∷ (N ++ K)) s.0 (Reply.Ok t) s.1 (Present t new) s.3.1 s.3.3 s.4 in
      (done_of N w new, inr (inl refl), (t, λ none. none, λ there. s.3.2 (inside t there), fewer (t ∷ u ∷ (N ++ K)) (t ∷ ((N ++ w ∷ []) ++ K)) (Present t new) (under t) p))
    where
      inside : (x : Version) → x ∈ ((N ++ w ∷ []) ++ K) → x ∈ (u ∷ (N ++ K))
      inside x h =
          either_of (in_append (N ++ w ∷ []) K x h)
          (λ l. either_of (in_append N (w ∷ []) x l) (λ n. inr (in_left N K x n)) (λ o. inl (alone x o ∙ version_same w u e)))
          (λ k. inr (in_right N K x k))
        where
          alone : (x : Version) → x ∈ (w ∷ []) → x ≡ w
          alone x (inl e) = e
          alone x (inr h) = absurd h

      under : (t : Version) → Has (t ∷ u ∷ (N ++ K)) (t ∷ ((N ++ w ∷ []) ++ K))
      under t x (inl e) = inl e
      under t x (inr h) = inr (inside x h)
  update_to K N E w u new b true false e m out fresh s =
      let is : u ≡ w = sym (version_same w u e) in
      let Q : Version → Type 0 = λ v. ¬ (v ∈ E) in
      let R : Version → Type 0 = λ v. ¬ (v ∈ (N ++ K)) in
      absurd (true≢false (sym (may_true K N E w (subst Q is out) (subst R is fresh)) ∙ m))
  update_to K N E w u new b false true e m out fresh s =
      let p = moved P (u ∷ (N ++ K)) s.0 Reply.Failed s.1 (Present u b) s.3.0 s.3.1 s.4 in
      (failed_of N E w b, inl refl, (u, excluded_not E u w out (λ is. false≢true (sym e ∙ same_of w u (sym is))), fresh, p))
  update_to K N E w u new b false false e m out fresh s =
      let p = moved P (u ∷ (N ++ K)) s.0 Reply.Failed s.1 (Present u b) s.3.0 s.3.1 s.4 in
      (stays_of N E b, inl refl, (u, out, fresh, p))

  -- the update failed, on a value with another stamp
  fails_from : (S : List Version) (w u : Version) (new b : List ℕ) → ¬ (u ≡ w) → P (u ∷ S) (Present u b) → UpdateStep None (same_version w u) new S u b
  fails_from S w u new b differ p =
      let e : same_version w u ≡ false = false_from_ne_true (same_version w u) (λ h. differ (sym (version_same w u h))) in
      let Q : Bool → Type 0 = λ same. UpdateStep None same new S u b in
      subst Q (sym e) (Reply.Failed, Present u b, tt, (refl, refl), p)

  abbrev UpdateFrom : (K N E : List Version) (w : Version) (new b : List ℕ) → Type 0
  UpdateFrom K N E w new b = (u : Version) × ¬ (u ∈ E) × ¬ (u ∈ (N ++ K)) × UpdateStep None (same_version w u) new (N ++ K) u b

  update_from : (K N E : List Version) (w : Version) (new b : List ℕ) (may : Bool) → may_be K N E w ≡ may → Leaves P K (if may then failed_of N E w b ∷ done_of N w new ∷ [] else stays_of N E b ∷ []) → UpdateFrom K N E w new b
  update_from K N E w new b true m h = by h.0 h.1 h.2
    where
      failed : OfSome P (N ++ K) (Untold b (E ++ w ∷ [])) → UpdateFrom K N E w new b
      failed f = (f.0, λ there. f.1 (in_left E (w ∷ []) f.0 there), f.2, fails_from (N ++ K) w f.0 new b (λ is. f.1 (in_right E (w ∷ []) f.0 (inl is))) f.3)

      done : OfSome P ((N ++ w ∷ []) ++ K) (Untold new []) → UpdateFrom K N E w new b
      done d =
          let gives = may_gives K N E w m in
          let t = d.0 in
          let Q : Bool → Type 0 = λ same. UpdateStep None same new (N ++ K) w b in
          (w, gives.0, gives.1, subst Q (sym (version_itself w)) (Reply.Ok t, Present t new, tt, (t, refl, apart t d.2, refl), fewer (t ∷ ((N ++ w ∷ []) ++ K)) (t ∷ w ∷ (N ++ K)) (Present t new) (over t) d.3))
        where
          back : (x : Version) → x ∈ (w ∷ (N ++ K)) → x ∈ ((N ++ w ∷ []) ++ K)
          back x (inl e) = in_left (N ++ w ∷ []) K x (in_right N (w ∷ []) x (inl e))
          back x (inr h) = either_of (in_append N K x h) (λ l. in_left (N ++ w ∷ []) K x (in_left N (w ∷ []) x l)) (λ k. in_right (N ++ w ∷ []) K x k)

          apart : (t : Version) → ¬ (t ∈ ((N ++ w ∷ []) ++ K)) → ¬ (t ∈ (w ∷ (N ++ K)))
          apart t n h = n (back t h)

          over : (t : Version) → Has (t ∷ ((N ++ w ∷ []) ++ K)) (t ∷ w ∷ (N ++ K))
          over t x (inl e) = inl e
          over t x (inr h) = inr (back x h)

      by : (p : Possible) → p ∈ (failed_of N E w b ∷ done_of N w new ∷ []) → OfSome P (p.named ++ K) p.held → UpdateFrom K N E w new b
      by p (inl e) g = failed (let Q : Possible → Type 0 = λ q. OfSome P (q.named ++ K) q.held in subst Q e g)
      by p (inr (inl e)) g = done (let Q : Possible → Type 0 = λ q. OfSome P (q.named ++ K) q.held in subst Q e g)
      by p (inr (inr no_more)) g = absurd no_more
  update_from K N E w new b false m h =
      let g = single K (stays_of N E b) h.0 h.1 h.2 in
      (g.0, g.1, g.2, fails_from (N ++ K) w g.0 new b (differs g.0 g.1 g.2) g.3)
    where
      differs : (u : Version) → ¬ (u ∈ E) → ¬ (u ∈ (N ++ K)) → ¬ (u ≡ w)
      differs u out fresh is =
          let Q : Version → Type 0 = λ v. ¬ (v ∈ E) in
          let R : Version → Type 0 = λ v. ¬ (v ∈ (N ++ K)) in
          false≢true (sym m ∙ may_true K N E w (subst Q is out) (subst R is fresh))

  -- ## Any call without a printed reply

  pub silent_to : (K N : List Version) (held : Guess) (c : Command) → OfSome (λ S r. Step P None c S r) (N ++ K) held → Leaves P K (silent K N held c)
  silent_to K N Absent c h = left_to (outcome c register.Absent) K N Absent (known_to (outcome c register.Absent) (N ++ K) Absent register.Absent (λ p. p) h)
  silent_to K N (Told s b) c h = left_to (outcome c (Present s b)) K N (Told s b) (known_to (outcome c (Present s b)) (N ++ K) (Told s b) (Present s b) (λ p. p) h)
  silent_to K N (Untold b E) (Update w new) h = update_to K N E w h.0 new b (same_version w h.0) (may_be K N E w) refl refl h.1 h.2 h.3
  silent_to K N (Untold b E) Get h = (stays_of N E b, inl refl, (h.0, h.1, h.2, moved P (h.0 ∷ (N ++ K)) h.3.0 (Reply.Value h.0 b) h.3.1 (Present h.0 b) h.3.3.0 h.3.3.1 h.3.4))
  silent_to K N (Untold b E) c h = left_to (outcome c (Present nowhere b)) K N (Untold b E) (unknown_to (outcome c (Present nowhere b)) (N ++ K) E b h)

  pub silent_from : (K N : List Version) (held : Guess) (c : Command) → Leaves P K (silent K N held c) → OfSome (λ S r. Step P None c S r) (N ++ K) held
  silent_from K N Absent c h = known_from (outcome c register.Absent) (N ++ K) Absent register.Absent (λ a e. quiet_absent (N ++ K) c a e) (λ p. p) (left_from (outcome c register.Absent) K N Absent h)
  silent_from K N (Told s b) c h = known_from (outcome c (Present s b)) (N ++ K) (Told s b) (Present s b) (λ a e. quiet_present (N ++ K) c s b a e) (λ p. p) (left_from (outcome c (Present s b)) K N (Told s b) h)
  silent_from K N (Untold b E) (Update w new) h = update_from K N E w new b (may_be K N E w) refl h
  silent_from K N (Untold b E) Get h = let g = single K (stays_of N E b) h.0 h.1 h.2 in (g.0, g.1, g.2, (Reply.Value g.0 b, Present g.0 b, tt, (refl, refl), g.3))
  silent_from K N (Untold b E) (PutOnce v) h = unknown_from (outcome (PutOnce v) (Present nowhere b)) (N ++ K) E b tt (left_from (outcome (PutOnce v) (Present nowhere b)) K N (Untold b E) h)
  silent_from K N (Untold b E) (Append v) h = unknown_from (outcome (Append v) (Present nowhere b)) (N ++ K) E b (blind_if _ _) (left_from (outcome (Append v) (Present nowhere b)) K N (Untold b E) h)
  silent_from K N (Untold b E) (Add n) h = unknown_from (outcome (Add n) (Present nowhere b)) (N ++ K) E b (blind_if _ _) (left_from (outcome (Add n) (Present nowhere b)) K N (Untold b E) h)
  silent_from K N (Untold b E) (Swap old new) h = unknown_from (outcome (Swap old new) (Present nowhere b)) (N ++ K) E b (blind_if _ _) (left_from (outcome (Swap old new) (Present nowhere b)) K N (Untold b E) h)
  silent_from K N (Untold b E) (Over v) h = unknown_from (outcome (Over v) (Present nowhere b)) (N ++ K) E b tt (left_from (outcome (Over v) (Present nowhere b)) K N (Untold b E) h)
  silent_from K N (Untold b E) Delete h = unknown_from (outcome Delete (Present nowhere b)) (N ++ K) E b tt (left_from (outcome Delete (Present nowhere b)) K N (Untold b E) h)
