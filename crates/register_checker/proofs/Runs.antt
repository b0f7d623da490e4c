-- The walk decides whether the order is a run.
use Rattle.std.proofs.Common.{◌≡◌, ◌≢◌, ℕ, ◌+◌, ◌<◌, Bool, true, false, List, [], ◌∷◌, ◌++◌, length, get_or, take, drop, map, Option, None, Some, Bor, inl, inr, refl, sym, ap, subst, ◌∙◌, arith}
use Rattle.ens_base.proofs.Lists.{in_left, in_right}
use Rattle.std.specs.Prelude.{IfSome, IfNone, MatchOption, ◌↔◌, ◌==◌, IsTrue}
use Rattle.std.proofs.lemmas.Bool.{false≢true, true≢false, eq-eqb, ne_eqb}
use Rattle.std.proofs.lemmas.List.{take_more, append_assoc, append-nil, take-append-drop}
use Rattle.ens_base.specs.Lists.{◌∈◌, AreDistinct}
use Rattle.ens_base.specs.declared.epoch.Version.{Version}
use Rattle.ens_base.specs.declared.reply.Reply.{Reply}
use Rattle.register_model.specs.Registers.{Comes, outcome}
use Rattle.register_model.specs.Histories.{RunsFrom, IsRun, MayHave}
use Rattle.register_model.specs.declared.answer.Answer.{Answer}
use Rattle.register_model.specs.declared.call.Call.{Call}
use Rattle.register_model.specs.declared.register.Register.{Register}
use Rattle.register_model.specs.declared.register.Register.TheVariants as register
use Rattle.register_model.specs.declared.register.Register.TheVariants.{Present}
use Rattle.register_checker.specs.Guesses.{silent, answered, all_silent, all_answered, learned}
use Rattle.register_checker.specs.Meanings.{OfSome, Goes, IsTaken, AreTaken}
use Rattle.register_checker.specs.Prefixes.{StopsAt}
use Rattle.register_checker.specs.Walks.{PassesSilent, PassesAnswered}
use Rattle.register_checker.specs.declared.guess.Guess.{Guess}
use Rattle.register_checker.specs.declared.guess.Guess.TheVariants.{Absent, Told, Untold}
use Rattle.register_checker.specs.declared.guess.Possible.{Possible}
use Rattle.register_checker.specs.declared.walk.Walk.{Walk}
use Rattle.register_checker.proofs.Stands.{unused}
use Rattle.register_checker.proofs.Fresh.{runs_fewer, runs_free}
use Rattle.register_checker.proofs.Silent.{Tells, Step, silent_to, silent_from}
use Rattle.register_checker.proofs.Answered.{answered_to, answered_from}
use Rattle.register_checker.proofs.Lists.{covers_on, some_to, some_from}
use Rattle.register_checker.proofs.Taken.{all_silent_taken, all_answered_taken}
use Rattle.register_checker.proofs.Ids.{one_of}

pub no_true_false : {P : Type 0} → ¬ P → IsTrue false ↔ P
no_true_false n = (λ t. absurd (false≢true t), λ p. absurd (n p))

map_some : (Q R : List Version → Register → Type 0) → ((S : List Version) (r : Register) → Q S r → R S r) → (S : List Version) (held : Guess) → OfSome Q S held → OfSome R S held
map_some Q R f S Absent h = f S register.Absent h
map_some Q R f S (Told s b) h = f S (Present s b) h
map_some Q R f S (Untold b E) h = (h.0, h.1, h.2, f (h.0 ∷ S) (Present h.0 b) h.3)

-- an order that is a run begins with runs
runs_prefix : (calls : List Call) (answers : List Answer) (xs ys : List ℕ) (stamps : List Version) (old : Register) → RunsFrom calls answers stamps old (xs ++ ys) → RunsFrom calls answers stamps old xs
runs_prefix calls answers [] ys stamps old h = tt
runs_prefix calls answers (id ∷ xs) ys stamps old h = (h.0, h.1, h.2, h.3, h.4, h.5, h.6, runs_prefix calls answers xs ys _ h.2 h.7)

-- the walk passed the first n calls of the order, which are a run
pub record HasGone (calls : List Call) (answers : List Answer) (order : List ℕ) (walk : Walk) (n : ℕ) : Type 0 where
  pub same : (rest : List ℕ) → IsRun calls answers (take n order ++ rest) ↔ Goes calls answers walk.known walk.possible.items rest
  pub taken : AreTaken walk.known walk.possible.items
  pub run : IsRun calls answers (take n order)

-- the walk passed one call more, with which the order may stop
pub record HasBegun (calls : List Call) (answers : List Answer) (order : List ℕ) (walk : Walk) (n : ℕ) : Type 0 where
  pub same : (rest : List ℕ) → IsRun calls answers (take (n + 1) order ++ rest) ↔ Goes calls answers walk.known walk.possible.items rest
  pub taken : AreTaken walk.known walk.possible.items

module _ (calls : List Call) (answers : List Answer) where
  abbrev Future : List ℕ → List Version → Register → Type 0
  Future rest stamps old = RunsFrom calls answers stamps old rest

  -- ## One call of the order

  module _ (id : ℕ) (call : Call) (there : call ∈ calls) (named : call.id ≡ id) (distinct : AreDistinct (map (λ c. c.id) calls)) where
    module _ (told : Option Reply) (may_to : (reply : Reply) → MayHave answers id reply → Tells told reply) (may_from : (reply : Reply) → Tells told reply → MayHave answers id reply) (rest : List ℕ) where
      step_to : (S : List Version) (r : Register) → Future (id ∷ rest) S r → Step (Future rest) told call.command S r
      step_to S r h =
          let is : h.0 ≡ call = one_of (λ c. c.id) calls h.0 call distinct h.3 there (h.4 ∙ sym named) in
          let Q : Call → Type 0 = λ c. Comes S r (outcome c.command r) h.1 h.2 in
          (h.1, h.2, may_to h.1 h.5, subst Q is h.6, h.7)

      step_from : (S : List Version) (r : Register) → Step (Future rest) told call.command S r → Future (id ∷ rest) S r
      step_from S r s = (call, s.0, s.1, there, named, may_from s.0 s.2, s.3, s.4)

    module _ (none : (reply : Reply) → MayHave answers id reply) (K : List Version) (list : List Possible) (rest : List ℕ) where
      abbrev silently : Possible → List Possible
      silently p = silent K p.named p.held call.command

      silent_goes : Goes calls answers K list (id ∷ rest) → Goes calls answers K (all_silent K call.command list) rest
      silent_goes h =
          let steps = map_some (Future (id ∷ rest)) (Step (Future rest) None call.command) (step_to None (λ reply may. tt) (λ reply t. none reply) rest) (h.0.named ++ K) h.0.held h.2 in
          some_to (λ q. OfSome (Future rest) (q.named ++ K) q.held) (covers_on (Future rest) (runs_fewer calls answers rest) K) silently list
          (h.0, h.1, silent_to (Future rest) (runs_fewer calls answers rest) (runs_free calls answers rest) K h.0.named h.0.held call.command steps)

      silent_came : Goes calls answers K (all_silent K call.command list) rest → Goes calls answers K list (id ∷ rest)
      silent_came h =
          let x = some_from (λ q. OfSome (Future rest) (q.named ++ K) q.held) silently list h in
          let steps = silent_from (Future rest) (runs_fewer calls answers rest) (runs_free calls answers rest) K x.0.named x.0.held call.command x.2 in
          (x.0, x.1, map_some (Step (Future rest) None call.command) (Future (id ∷ rest)) (step_from None (λ reply may. tt) (λ reply t. none reply) rest) (x.0.named ++ K) x.0.held steps)

    module _ (printed : Reply) (may : (reply : Reply) → MayHave answers id reply ↔ (reply ≡ printed)) (K : List Version) (list : List Possible) (taken : AreTaken K list) (rest : List ℕ) where
      abbrev answering : Possible → List Possible
      answering p = answered K p.named p.held call.command printed

      abbrev after : List Version
      after = learned K call.command printed

      answered_goes : Goes calls answers K list (id ∷ rest) → Goes calls answers after (all_answered K call.command printed list) rest
      answered_goes h =
          let steps = map_some (Future (id ∷ rest)) (Step (Future rest) (Some printed) call.command) (step_to (Some printed) (λ reply m. (may reply).0 m) (λ reply t. (may reply).1 t) rest) (h.0.named ++ K) h.0.held h.2 in
          some_to (λ q. OfSome (Future rest) (q.named ++ after) q.held) (covers_on (Future rest) (runs_fewer calls answers rest) after) answering list
          (h.0, h.1, answered_to (Future rest) (runs_fewer calls answers rest) (runs_free calls answers rest) K h.0.named h.0.held call.command printed (taken h.0 h.1) steps)

      answered_came : Goes calls answers after (all_answered K call.command printed list) rest → Goes calls answers K list (id ∷ rest)
      answered_came h =
          let x = some_from (λ q. OfSome (Future rest) (q.named ++ after) q.held) answering list h in
          let steps = answered_from (Future rest) (runs_fewer calls answers rest) (runs_free calls answers rest) K x.0.named x.0.held call.command printed (taken x.0 x.1) x.2 in
          (x.0, x.1, map_some (Step (Future rest) (Some printed) call.command) (Future (id ∷ rest)) (step_from (Some printed) (λ reply m. (may reply).0 m) (λ reply t. (may reply).1 t) rest) (x.0.named ++ K) x.0.held steps)

  carried : (K L : List Version) (list more : List Possible) (rest : List ℕ) → L ≡ K → more ≡ list → Goes calls answers K list rest → Goes calls answers L more rest
  carried K L list more rest e f h =
      let Q : List Version → Type 0 = λ k. Goes calls answers k more rest in
      let R : List Possible → Type 0 = λ l. Goes calls answers K l rest in
      subst Q (sym e) (subst R (sym f) h)

  taken_by : (K L : List Version) (list more : List Possible) → L ≡ K → more ≡ list → AreTaken K list → AreTaken L more
  taken_by K L list more e f h =
      let Q : List Version → Type 0 = λ k. AreTaken k more in
      let R : List Possible → Type 0 = λ l. AreTaken K l in
      subst Q (sym e) (subst R (sym f) h)

  -- ## The walk

  module _ (distinct : AreDistinct (map (λ c. c.id) calls)) (order : List ℕ) where
    abbrev Over : Walk → Walk → ℕ → List ℕ → Type 0
    Over old new id rest = (Goes calls answers old.known old.possible.items (id ∷ rest) ↔ Goes calls answers new.known new.possible.items rest) × AreTaken new.known new.possible.items

    over : (id : ℕ) (call : Call) → call ∈ calls → call.id ≡ id → (o : Option (Bor Reply)) → IfSome o (λ r. (reply : Reply) → MayHave answers id reply ↔ (reply ≡ r.now)) → IfNone o ((reply : Reply) → MayHave answers id reply) → (old new : Walk) → MatchOption o (PassesSilent old call.command new) (λ r. PassesAnswered old call.command r.now new) → AreTaken old.known old.possible.items → (rest : List ℕ) → Over old new id rest
    over id call there named None some none old new passes taken rest = (
      (
        λ h. carried old.known new.known (all_silent old.known call.command old.possible.items) new.possible.items rest passes.0 passes.1 (silent_goes id call there named distinct none old.known old.possible.items rest h),
        λ h. silent_came id call there named distinct none old.known old.possible.items rest (carried new.known old.known new.possible.items (all_silent old.known call.command old.possible.items) rest (sym passes.0) (sym passes.1) h),
      ),
      taken_by old.known new.known (all_silent old.known call.command old.possible.items) new.possible.items passes.0 passes.1 (all_silent_taken old.known call.command old.possible.items taken),
    )
    over id call there named (Some r) some none old new passes taken rest = (
      (
        λ h. carried (learned old.known call.command r.now) new.known (all_answered old.known call.command r.now old.possible.items) new.possible.items rest passes.0 passes.1 (answered_goes id call there named distinct r.now some old.known old.possible.items taken rest h),
        λ h. answered_came id call there named distinct r.now some old.known old.possible.items taken rest (carried new.known (learned old.known call.command r.now) new.possible.items (all_answered old.known call.command r.now old.possible.items) rest (sym passes.0) (sym passes.1) h),
      ),
      taken_by (learned old.known call.command r.now) new.known (all_answered old.known call.command r.now old.possible.items) new.possible.items passes.0 passes.1 (all_answered_taken old.known call.command r.now old.possible.items taken),
    )

    at_next : (n d : ℕ) → n < length order → (rest : List ℕ) → take (n + 1) order ++ rest ≡ take n order ++ (get_or order n d ∷ rest)
    at_next n d lt rest = ap (λ (l : List ℕ). l ++ rest) (take_more order n d lt) ∙ append_assoc (take n order) (get_or order n d ∷ []) rest

    pub gone_next : (n d : ℕ) (call : Call) → n < length order → call ∈ calls → call.id ≡ get_or order n d → (o : Option (Bor Reply)) → IfSome o (λ r. (reply : Reply) → MayHave answers (get_or order n d) reply ↔ (reply ≡ r.now)) → IfNone o ((reply : Reply) → MayHave answers (get_or order n d) reply) → (old new : Walk) → MatchOption o (PassesSilent old call.command new) (λ r. PassesAnswered old call.command r.now new) → HasGone calls answers order old n → HasBegun calls answers order new n
    gone_next n d call lt there named o some none old new passes gone = record { same = same; taken = (over (get_or order n d) call there named o some none old new passes gone.taken []).1 }
      where
        same : (rest : List ℕ) → IsRun calls answers (take (n + 1) order ++ rest) ↔ Goes calls answers new.known new.possible.items rest
        same rest =
            let goes = over (get_or order n d) call there named o some none old new passes gone.taken rest in
            let Q : List ℕ → Type 0 = λ l. IsRun calls answers l in
            (λ run. goes.0.0 ((gone.same (get_or order n d ∷ rest)).0 (subst Q (at_next n d lt rest) run)), λ h. subst Q (sym (at_next n d lt rest)) ((gone.same (get_or order n d ∷ rest)).1 (goes.0.1 h)))

    pub gone_first : (walk : Walk) → walk.known ≡ [] → walk.possible.items ≡ record { held = Absent; named = [] } ∷ [] → HasGone calls answers order walk 0
    gone_first walk known first = record {
      same = λ rest. (
        λ run. carried [] walk.known (begin ∷ []) walk.possible.items rest known first (begin, inl refl, run),
        λ h. only rest (carried walk.known [] walk.possible.items (begin ∷ []) rest (sym known) (sym first) h),
      );
      taken = taken_by [] walk.known (begin ∷ []) walk.possible.items known first none_told;
      run = tt;
    }
      where
        begin : Possible
        begin = record { held = Absent; named = [] }

        only : (rest : List ℕ) → Goes calls answers [] (begin ∷ []) rest → IsRun calls answers rest
        only rest h = by h.0 h.1 h.2
          where
            by : (p : Possible) → p ∈ (begin ∷ []) → OfSome (Future rest) (p.named ++ []) p.held → IsRun calls answers rest
            by p (inl e) g = let Q : Possible → Type 0 = λ q. OfSome (Future rest) (q.named ++ []) q.held in subst Q e g
            by p (inr no_more) g = absurd no_more

        none_told : AreTaken [] (begin ∷ [])
        none_told p (inl e) = let Q : Possible → Type 0 = λ q. IsTaken (q.named ++ []) q.held in subst Q (sym e) tt
        none_told p (inr no_more) = absurd no_more

    no_run : (id : ℕ) → ((c : Call) → c ∈ calls → c.id ≢ id) → (rest : List ℕ) (S : List Version) (held : Guess) → OfSome (Future (id ∷ rest)) S held → ⊥
    no_run id none rest S Absent h = none h.0 h.3 h.4
    no_run id none rest S (Told s b) h = none h.0 h.3 h.4
    no_run id none rest S (Untold b E) h = none h.3.0 h.3.3 h.3.4

    -- no call has the next id
    pub gone_astray : (n d : ℕ) → n < length order → ((c : Call) → c ∈ calls → c.id ≢ get_or order n d) → (walk : Walk) → HasGone calls answers order walk n → StopsAt calls answers order n
    gone_astray n d lt none walk gone = record {
      within = lt;
      before = gone.run;
      stops = λ run.
          let Q : List ℕ → Type 0 = λ l. IsRun calls answers l in
          let h = (gone.same (get_or order n d ∷ [])).0 (subst Q (take_more order n d lt) run) in
          no_run (get_or order n d) none [] (h.0.named ++ walk.known) h.0.held h.2;
    }

    at_end : (S : List Version) (held : Guess) → OfSome (Future []) S held
    at_end S Absent = tt
    at_end S (Told s b) = tt
    at_end S (Untold b E) = let u = unused (E ++ S) in (u.0, λ there. u.1 (in_left E S u.0 there), λ there. u.1 (in_right E S u.0 there), tt)

    not_empty : (K : List Version) (list : List Possible) → list ≢ [] → Goes calls answers K list []
    not_empty K [] some = absurd (some refl)
    not_empty K (p ∷ list) some = (p, inl refl, at_end (p.named ++ K) p.held)

    has_one : (K : List Version) (list : List Possible) → Goes calls answers K list [] → list ≢ []
    has_one K [] h e = h.1
    has_one K (p ∷ list) h e = let bad : p ∷ list ≡ [] = e in absurd cc

    pub is_empty : (list : List Possible) (empty : Bool) (len : ℕ) → len ≡ length list → empty ≡ (len == 0) → empty ≡ true → list ≡ []
    is_empty [] empty len counted is full = refl
    is_empty (p ∷ list) empty len counted is full =
        let apart : len ≢ 0 = λ zero. (let count : length (p ∷ list) ≡ 0 = sym counted ∙ zero in omega arith) in
        absurd (false≢true (sym (is ∙ ne_eqb len 0 apart) ∙ full))

    pub is_not_empty : (list : List Possible) (empty : Bool) (len : ℕ) → len ≡ length list → empty ≡ (len == 0) → empty ≡ false → list ≢ []
    is_not_empty [] empty len counted is some e = absurd (true≢false (sym (is ∙ eq-eqb len 0 counted) ∙ some))
    is_not_empty (p ∷ list) empty len counted is some e = let bad : p ∷ list ≡ [] = e in absurd cc

    -- the calls passed are no run
    pub gone_stops : (n : ℕ) → n < length order → (old new : Walk) → HasGone calls answers order old n → HasBegun calls answers order new n → new.possible.items ≡ [] → StopsAt calls answers order n
    gone_stops n lt old new gone begun none = record {
      within = lt;
      before = gone.run;
      stops = λ run.
          let Q : List ℕ → Type 0 = λ l. IsRun calls answers l in
          has_one new.known new.possible.items ((begun.same []).0 (subst Q (sym (append-nil (take (n + 1) order))) run)) none;
    }

    -- the calls passed are a run
    pub gone_on : (n : ℕ) → (new : Walk) → HasBegun calls answers order new n → new.possible.items ≢ [] → HasGone calls answers order new (n + 1)
    gone_on n new begun some = record {
      same = begun.same;
      taken = begun.taken;
      run = let Q : List ℕ → Type 0 = λ l. IsRun calls answers l in subst Q (append-nil (take (n + 1) order)) ((begun.same []).1 (not_empty new.known new.possible.items some));
    }

    -- an order that stops is no run
    pub stops_no_run : (n : ℕ) → StopsAt calls answers order n → ¬ (IsRun calls answers order)
    stops_no_run n stop run = let Q : List ℕ → Type 0 = λ l. IsRun calls answers l in stop.stops (runs_prefix calls answers (take (n + 1) order) (drop (n + 1) order) [] register.Absent (subst Q (sym (take-append-drop (n + 1) order)) run))
