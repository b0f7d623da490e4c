-- What a call leaves of a whole list of possible registers.
use Rattle.std.proofs.Common.{◌≡◌, ℕ, Bool, true, false, List, [], ◌∷◌, ◌++◌, ◌⊎◌, inl, inr, refl, sym, subst}
use Rattle.std.specs.Prelude.{if◌then◌else◌, fold}
use Rattle.std.specs.List.{list_any}
use Rattle.std.proofs.lemmas.Bool.{and_parts, or_cases, false≢true}
use Rattle.ens_base.proofs.Orders.{version_same}
use Rattle.ens_base.specs.Lists.{◌∈◌, same_bytes}
use Rattle.ens_base.specs.Epochs.{same_version}
use Rattle.ens_base.specs.declared.epoch.Version.{Version}
use Rattle.register_model.specs.declared.register.Register.{Register}
use Rattle.register_model.specs.declared.register.Register.TheVariants as register
use Rattle.register_model.specs.declared.register.Register.TheVariants.{Present}
use Rattle.register_checker.specs.Stamps.{within}
use Rattle.register_checker.specs.Guesses.{covers, held_within, added}
use Rattle.register_checker.specs.Meanings.{OfSome}
use Rattle.register_checker.specs.declared.guess.Guess.{Guess}
use Rattle.register_checker.specs.declared.guess.Guess.TheVariants.{Absent, Told, Untold}
use Rattle.register_checker.specs.declared.guess.Possible.{Possible}
use Rattle.register_checker.proofs.Stands.{in_within}
use Rattle.register_checker.proofs.Fresh.{Has}
use Rattle.register_checker.proofs.Outcomes.{either_of}
use Rattle.ens_base.proofs.Lists.{bytes_same, in_left, in_right, in_append}

-- ## A register that covers another can go on like it

module _ (P : List Version → Register → Type 0) (fewer : (S T : List Version) (r : Register) → Has S T → P S r → P T r) where
  held_cover : (g h : Guess) (S T : List Version) → Has S T → held_within g h ≡ true → OfSome P S h → OfSome P T g
  held_cover Absent Absent S T sub e p = fewer S T register.Absent sub p
  held_cover (Told s b) (Told t c) S T sub e p =
      let parts = and_parts (same_version s t) (same_bytes b c) e in
      let Q : Version → Type 0 = λ v. P S (Present v b) in
      let R : List ℕ → Type 0 = λ d. P S (Present t d) in
      fewer S T (Present s b) sub (subst Q (sym (version_same s t parts.0)) (subst R (sym (bytes_same b c parts.1)) p))
  held_cover (Untold b E) (Untold c F) S T sub e p =
      let parts = and_parts (same_bytes b c) (within E F) e in
      let R : List ℕ → Type 0 = λ d. P (p.0 ∷ S) (Present p.0 d) in
      (p.0, λ there. p.1 (in_within E F p.0 parts.1 there), λ there. p.2 (sub p.0 there), fewer (p.0 ∷ S) (p.0 ∷ T) (Present p.0 b) (beside p.0) (subst R (sym (bytes_same b c parts.0)) p.3))
    where
      beside : (u : Version) → Has (u ∷ S) (u ∷ T)
      beside u x (inl f) = inl f
      beside u x (inr there) = inr (sub x there)
  held_cover g h S T sub e p = absurd (false≢true e)

  pub covers_on : (K : List Version) (p q : Possible) → covers p q ≡ true → OfSome P (q.named ++ K) q.held → OfSome P (p.named ++ K) p.held
  covers_on K p q e h = held_cover p.held q.held (q.named ++ K) (p.named ++ K) under parts.0 h
    where
      parts : (held_within p.held q.held ≡ true) × (within p.named q.named ≡ true)
      parts = and_parts (held_within p.held q.held) (within p.named q.named) e

      under : Has (q.named ++ K) (p.named ++ K)
      under x there = either_of (in_append p.named K x there) (λ l. in_left q.named K x (in_within p.named q.named x parts.1 l)) (λ k. in_right q.named K x k)

-- ## Some register of a list

abbrev pub Any : (Possible → Type 0) → List Possible → Type 0
Any G list = (p : Possible) × (p ∈ list) × G p

abbrev pub AnyOf : (Possible → Type 0) → (Possible → List Possible) → List Possible → Type 0
AnyOf G f list = (p : Possible) × (p ∈ list) × Any G (f p)

module _ (G : Possible → Type 0) where
  added_from : (b : Bool) (done : List Possible) (p : Possible) → Any G (if b then done else done ++ p ∷ []) → Any G done ⊎ G p
  added_from true done p h = inl h
  added_from false done p h = by (in_append done (p ∷ []) h.0 h.1)
    where
      by : (h.0 ∈ done) ⊎ (h.0 ∈ (p ∷ [])) → Any G done ⊎ G p
      by (inl there) = inl (h.0, there, h.2)
      by (inr (inl e)) = inr (subst G e h.2)
      by (inr (inr no_more)) = absurd no_more

  fold_from : (ms done : List Possible) → Any G (fold added done ms) → Any G done ⊎ Any G ms
  fold_from [] done h = inl h
  fold_from (m ∷ ms) done h = by (fold_from ms (added done m) h)
    where
      by : Any G (added done m) ⊎ Any G ms → Any G done ⊎ Any G (m ∷ ms)
      by (inl a) = either_of (added_from (list_any (λ q. covers q m) done) done m a) (λ d. inl d) (λ g. inr (m, inl refl, g))
      by (inr x) = inr (x.0, inr x.1, x.2)

  all_from : (f : Possible → List Possible) (list done : List Possible) → Any G (fold (λ d p. fold added d (f p)) done list) → Any G done ⊎ AnyOf G f list
  all_from f [] done h = inl h
  all_from f (p ∷ list) done h = by (all_from f list (fold added done (f p)) h)
    where
      by : Any G (fold added done (f p)) ⊎ AnyOf G f list → Any G done ⊎ AnyOf G f (p ∷ list)
      by (inl a) = either_of (fold_from (f p) done a) (λ d. inl d) (λ m. inr (p, inl refl, m))
      by (inr x) = inr (x.0, inr x.1, x.2)

  pub some_from : (f : Possible → List Possible) (list : List Possible) → Any G (fold (λ d p. fold added d (f p)) [] list) → AnyOf G f list
  some_from f list h = either_of (all_from f list [] h) (λ d. absurd d.1) (λ x. x)

module _ (G : Possible → Type 0) (cover : (p q : Possible) → covers p q ≡ true → G q → G p) where
  covered : (done : List Possible) (p : Possible) → list_any (λ q. covers q p) done ≡ true → G p → Any G done
  covered [] p h g = absurd (false≢true h)
  covered (q ∷ done) p h g = by (or_cases (covers q p) (list_any (λ o. covers o p) done) h) (λ (e : list_any (λ o. covers o p) done ≡ true). covered done p e g)
    where
      by : (covers q p ≡ true) ⊎ (list_any (λ o. covers o p) done ≡ true) → (list_any (λ o. covers o p) done ≡ true → Any G done) → Any G (q ∷ done)
      by (inl e) rest = (q, inl refl, cover q p e g)
      by (inr e) rest = let r = rest e in (r.0, inr r.1, r.2)

  added_to : (b : Bool) (done : List Possible) (p : Possible) → list_any (λ q. covers q p) done ≡ b → Any G done ⊎ G p → Any G (if b then done else done ++ p ∷ [])
  added_to true done p e (inl d) = d
  added_to true done p e (inr g) = covered done p e g
  added_to false done p e (inl d) = (d.0, in_left done (p ∷ []) d.0 d.1, d.2)
  added_to false done p e (inr g) = (p, in_right done (p ∷ []) p (inl refl), g)

  fold_to : (ms done : List Possible) → Any G done ⊎ Any G ms → Any G (fold added done ms)
  fold_to [] done (inl d) = d
  fold_to [] done (inr x) = absurd x.1
  fold_to (m ∷ ms) done h = fold_to ms (added done m) (next h)
    where
      later : (x : Possible) → x ∈ (m ∷ ms) → G x → Any G (added done m) ⊎ Any G ms
      later x (inl e) g = inl (added_to (list_any (λ q. covers q m) done) done m refl (inr (subst G e g)))
      later x (inr there) g = inr (x, there, g)

      next : Any G done ⊎ Any G (m ∷ ms) → Any G (added done m) ⊎ Any G ms
      next (inl d) = inl (added_to (list_any (λ q. covers q m) done) done m refl (inl d))
      next (inr x) = later x.0 x.1 x.2

  all_to : (f : Possible → List Possible) (list done : List Possible) → Any G done ⊎ AnyOf G f list → Any G (fold (λ d p. fold added d (f p)) done list)
  all_to f [] done (inl d) = d
  all_to f [] done (inr x) = absurd x.1
  all_to f (p ∷ list) done h = all_to f list (fold added done (f p)) (next h)
    where
      later : (x : Possible) → x ∈ (p ∷ list) → Any G (f x) → Any G (fold added done (f p)) ⊎ AnyOf G f list
      later x (inl e) m = inl (fold_to (f p) done (inr (let Q : Possible → Type 0 = λ y. Any G (f y) in subst Q e m)))
      later x (inr there) m = inr (x, there, m)

      next : Any G done ⊎ AnyOf G f (p ∷ list) → Any G (fold added done (f p)) ⊎ AnyOf G f list
      next (inl d) = inl (fold_to (f p) done (inl d))
      next (inr x) = later x.0 x.1 x.2

  pub some_to : (f : Possible → List Possible) (list : List Possible) → AnyOf G f list → Any G (fold (λ d p. fold added d (f p)) [] list)
  some_to f list h = all_to f list [] (inr h)
