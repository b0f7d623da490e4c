-- Where each printed answer comes from.
use Rattle.std.proofs.Common.{◌≡◌, ℕ, ◌+◌, ◌≤◌, ◌⊎◌, inl, inr, nat_lt, drop, Bool, true, false, if◌then◌else◌, List, [], ◌∷◌, ◌++◌, map, Option, Some, None, refl, sym, ap, subst, ◌∙◌, arith}
use Rattle.std.specs.Prelude.{filter}
use Rattle.std.proofs.lemmas.Bool.Decides.{nat_tests}
use Rattle.ens_base.specs.Lists.{◌∈◌}
use Rattle.ens_base.specs.declared.command.Command.{Command}
use Rattle.ens_base.specs.declared.reply.Reply.{Reply}
use Rattle.ens_base.proofs.Lists.{in-map, in_append, from_map}
use Rattle.register_model.specs.Parts.{numbered_answer, numbered_call}
use Rattle.register_model.proofs.Openings.{one_call}
use Rattle.history_record.specs.Calls.{calls_from}
use Rattle.register_model.specs.Histories.{IsDone}
use Rattle.register_model.specs.declared.answer.Answer.{Answer}
use Rattle.register_model.specs.declared.call.Call.{Call}
use Rattle.register_model.specs.declared.printed.Printed.{Printed}
use Rattle.register_model.specs.declared.printed.Printed.TheVariants as printed
use Rattle.scripts.specs.Spelling.{IsScript}
use Rattle.scripts.specs.declared.slots.Ensemble.{Ensemble}
use Rattle.scripts.specs.declared.slots.Ensemble.TheVariants.{Root, Slot}
use Rattle.scripts.specs.declared.event.RootEvent.{RootEvent}
use Rattle.scripts.specs.declared.event.RootEvent.TheVariants.{At, Open, Look, Route}
use Rattle.scripts.specs.declared.script.RootScript.{RootScript}
use Rattle.root_laws.specs.Legal.{HaveLegalStories, answers_of, routed_calls_from, slot_calls_from}
use Rattle.root_laws.specs.Lines.{ensemble_of, events_of, number_of}
use Rattle.root_laws.specs.Openings.{Opening}
use Rattle.root_laws.specs.Runs.{RootPrinted, by, ensemble_printed, ensemble_story, is_at, lines_of, lines_with, numbered, opening_of, opens_before, outside, printed_at, printed_from, printed_of, unrouted}
use Rattle.root_laws.specs.Slots.{slot_of}
use Rattle.root_laws.specs.Worlds.{Worlds, answers_in}
use Rattle.root_laws.proofs.Calls.{calls_above, not_both, root_calls, routed_behind, routed_calls_apart, routed_more, slot_calls, stand_behind}
use Rattle.root_laws.proofs.Lines.{line_calls, lines_ascend, own_calls}

-- ---- answers among what was printed

printed_answer : (ps : List Printed) (a : Answer) → a ∈ answers_in ps → printed.Answer a ∈ ps
printed_answer [] a m = absurd m
printed_answer (printed.Answer b ∷ more) a (inl is) = inl (ap (λ (x : Answer). printed.Answer x) is)
printed_answer (printed.Answer b ∷ more) a (inr m) = inr (printed_answer more a m)
printed_answer (printed.Change event peer taken ∷ more) a m = inr (printed_answer more a m)

answer_printed : (ps : List Printed) (a : Answer) → printed.Answer a ∈ ps → a ∈ answers_in ps
answer_printed [] a m = absurd m
answer_printed (printed.Answer b ∷ more) a (inl is) = let same : a ≡ b = cc is in inl same
answer_printed (printed.Answer b ∷ more) a (inr m) = inr (answer_printed more a m)
answer_printed (printed.Change event peer taken ∷ more) a (inl is) = absurd (cc is)
answer_printed (printed.Change event peer taken ∷ more) a (inr m) = answer_printed more a m

pub answers_told : (f : ℕ → ℕ) (ps : List Printed) → answers_in (map (numbered f) ps) ≡ map (numbered_answer f) (answers_in ps)
answers_told f [] = refl
answers_told f (printed.Answer a ∷ more) = ap (λ (l : List Answer). numbered_answer f a ∷ l) (answers_told f more)
answers_told f (printed.Change event peer taken ∷ more) = answers_told f more

filter_in : {A : Type 0} (p : A → Bool) (xs : List A) (x : A) → x ∈ filter p xs → x ∈ xs
filter_in p [] x m = m
filter_in {A = A} p (y ∷ ys) x m = choose (p y) m (λ k. filter_in p ys x k)
  where
    choose : (b : Bool) → x ∈ (if b then y ∷ filter p ys else filter p ys) → (x ∈ filter p ys → x ∈ ys) → (x ≡ y) ⊎ (x ∈ ys)
    choose true (inl is) later = inl is
    choose true (inr k) later = inr (later k)
    choose false k later = inr (later k)

module _ (worlds : Worlds) (s : RootScript) where
  -- the answers of an ensemble
  abbrev pub own_answers : Ensemble → List Answer
  own_answers e = answers_in (ensemble_printed worlds s e)

  -- the answer to a call that was routed to a slot that is not open
  abbrev IsOutside : ℕ → List RootEvent → Answer → Type 0
  IsOutside n events a = (d : Call) × (d ∈ routed_calls_from n events) × (a.id ≡ d.id) × (a.reply ≡ Reply.Unavailable) × (opens_before d.event (opening_of worlds s (Slot (slot_of d.key))) ≡ false)

  -- an answer is one of an ensemble, or to such a call
  abbrev Source : ℕ → List RootEvent → Answer → Type 0
  Source n events a = ((e : Ensemble) × (a ∈ own_answers e)) ⊎ IsOutside n events a

  from_unrouted : (a : Answer) (n id : ℕ) (key : List ℕ) (command : Command) (more : List RootEvent) (peer : ℕ) (b : Bool) → opens_before n (opening_of worlds s (Slot (slot_of key))) ≡ b
      → printed.Answer a ∈ unrouted n id b → IsOutside n (Route peer id key command ∷ more) a
  from_unrouted a n id key command more peer true e m = absurd m
  from_unrouted a n id key command more peer false e (inr m) = absurd m
  from_unrouted a n id key command more peer false e (inl is) =
      let given : Answer = record { id = id; event = n; reply = Reply.Unavailable } in
      let same : a ≡ given = cc is in
      (record { id = id; key = key; command = command; event = n }, inl refl, ap (λ (x : Answer). x.id) same, ap (λ (x : Answer). x.reply) same, e)

  from_outside : (a : Answer) (n : ℕ) (event : RootEvent) (more : List RootEvent) → printed.Answer a ∈ outside worlds s n event → IsOutside n (event ∷ more) a
  from_outside a n (At ensemble event) more m = absurd m
  from_outside a n (Open peer id slot view) more m = absurd m
  from_outside a n (Look peer id slot) more m = absurd m
  from_outside a n (Route peer id key command) more m = from_unrouted a n id key command more peer (opens_before n (opening_of worlds s (Slot (slot_of key)))) refl m

  from_printed_at : (a : Answer) (p : RootPrinted) (n : ℕ) (event : RootEvent) (more : List RootEvent) → p.line ≡ printed.Answer a → p ∈ printed_at worlds s n event → Source n (event ∷ more) a
  from_printed_at a p n event more is m = choose (in_append (filter (is_at n) (ensemble_printed worlds s (ensemble_of event))) (outside worlds s n event) x.0 x.1)
    where
      x : (x : Printed) × (x ∈ (filter (is_at n) (ensemble_printed worlds s (ensemble_of event)) ++ outside worlds s n event)) × (p ≡ by (ensemble_of event) x)
      x = from_map (by (ensemble_of event)) (filter (is_at n) (ensemble_printed worlds s (ensemble_of event)) ++ outside worlds s n event) p m

      line : x.0 ≡ printed.Answer a
      line = sym (ap (λ (q : RootPrinted). q.line) x.2) ∙ is

      choose : (x.0 ∈ filter (is_at n) (ensemble_printed worlds s (ensemble_of event))) ⊎ (x.0 ∈ outside worlds s n event) → Source n (event ∷ more) a
      choose (inl k) =
          let In : Printed → Type 0 = λ q. q ∈ ensemble_printed worlds s (ensemble_of event) in
          inl (ensemble_of event, answer_printed (ensemble_printed worlds s (ensemble_of event)) a (subst In line (filter_in (is_at n) (ensemble_printed worlds s (ensemble_of event)) x.0 k)))
      choose (inr k) =
          let In : Printed → Type 0 = λ q. q ∈ outside worlds s n event in
          inr (from_outside a n event more (subst In line k))

  source_more : (a : Answer) (n : ℕ) (event : RootEvent) (more : List RootEvent) → Source (n + 1) more a → Source n (event ∷ more) a
  source_more a n event more (inl own) = inl own
  source_more a n event more (inr (d, there, id, reply, closed)) = inr (d, routed_more n event more d there, id, reply, closed)

  from_printed : (a : Answer) (p : RootPrinted) (n : ℕ) (events : List RootEvent) → p.line ≡ printed.Answer a → p ∈ printed_from worlds s n events → Source n events a
  from_printed a p n [] is m = absurd m
  from_printed a p n (event ∷ more) is m =
      choose (in_append (printed_at worlds s n event) (printed_from worlds s (n + 1) more) p m) (λ k. from_printed a p (n + 1) more is k)
    where
      choose : (p ∈ printed_at worlds s n event) ⊎ (p ∈ printed_from worlds s (n + 1) more) → (p ∈ printed_from worlds s (n + 1) more → Source (n + 1) more a) → Source n (event ∷ more) a
      choose (inl here) later = from_printed_at a p n event more is here
      choose (inr k) later = source_more a n event more (later k)

  pub source : (a : Answer) → a ∈ answers_of worlds s → Source 1 s.events a
  source a m =
      let lines : List Printed = map (λ (p : RootPrinted). p.line) (printed_of worlds s) in
      let p = from_map (λ (p : RootPrinted). p.line) (printed_of worlds s) (printed.Answer a) (printed_answer lines a m) in
      from_printed a p.0 1 s.events (sym p.2) p.1

  module _ (script : IsScript s) (stories : HaveLegalStories worlds s) where
    -- an answer of an ensemble is to a call of its lines
    called : (e : Ensemble) (a : Answer) → a ∈ own_answers e → (c : Call) × (c ∈ line_calls (lines_of worlds s e)) × (c.id ≡ a.id)
    called e a m =
        let f = number_of (lines_of worlds s e) in
        let InCalls : List Call → Type 0 = λ l. numbered_call f c.0 ∈ l in
        (numbered_call f c.0, subst InCalls (own_calls (lines_of worlds s e)) (in-map (numbered_call f) (calls_from 1 (events_of (lines_of worlds s e))) c.0 c.1), c.2 ∙ sym (ap (λ (x : Answer). x.id) b.2))
      where
        b : (b : Answer) × (b ∈ answers_in (ensemble_story worlds s e).printed) × (a ≡ numbered_answer (number_of (lines_of worlds s e)) b)
        b =
            let In : List Answer → Type 0 = λ l. a ∈ l in
            from_map (numbered_answer (number_of (lines_of worlds s e))) (answers_in (ensemble_story worlds s e).printed) a (subst In (answers_told (number_of (lines_of worlds s e)) (ensemble_story worlds s e).printed) m)

        c : (c : Call) × (c ∈ calls_from 1 (events_of (lines_of worlds s e))) × (c.id ≡ b.0.id)
        c = let found = (stories e).called b.0 b.1 in (found.0, found.1, found.2)

    -- the calls of the root are the openings and the looks
    pub root_called : line_calls (lines_of worlds s Root) ≡ slot_calls_from 1 s.events
    root_called = root_calls s.peers 1 s.events script.events

    -- those of a slot are routed to it while it is open
    pub slot_called : (slot : ℕ) (c : Call) → c ∈ line_calls (lines_of worlds s (Slot slot))
        → (c ∈ routed_calls_from 1 s.events) × (slot_of c.key ≡ slot) × (opens_before c.event (opening_of worlds s (Slot slot)) ≡ true)
    slot_called slot c m = at_opening (opening_of worlds s (Slot slot)) m
      where
        before : (n k : ℕ) → n + 1 ≤ k → nat_lt n k ≡ true
        before n k h = grind (arith, nat_tests)

        at_opening : (o : Option Opening) → c ∈ line_calls (lines_with s (Slot slot) o) → (c ∈ routed_calls_from 1 s.events) × (slot_of c.key ≡ slot) × (opens_before c.event o ≡ true)
        at_opening None m = absurd m
        at_opening (Some o) m =
            let here = slot_calls s.peers (o.event + 1) slot (drop o.event s.events) c (stand_behind s.peers o.event s.events script.events) m in
            let In : ℕ → Type 0 = λ n. c ∈ routed_calls_from n (drop o.event s.events) in
            let same : o.event + 1 ≡ 1 + o.event = omega arith in (
              routed_behind 1 o.event s.events c (subst In same here.0),
              here.1,
              before o.event c.event (calls_above (o.event + 1) _ c (lines_ascend (o.event + 1) (Slot slot) (drop o.event s.events)) m),
            )

    -- two routed calls with one id are one
    pub one_routed : (c d : Call) → c ∈ routed_calls_from 1 s.events → d ∈ routed_calls_from 1 s.events → c.id ≡ d.id → c ≡ d
    one_routed c d p q e = one_call (routed_calls_from 1 s.events) c d (routed_calls_apart 1 s.events script.distinct) p q e

    -- no routed call has the id of an opening or a look
    apart : (c d : Call) → c ∈ slot_calls_from 1 s.events → d ∈ routed_calls_from 1 s.events → c.id ≡ d.id → ⊥
    apart c d p q e = not_both 1 1 s.events c d script.distinct p q e

    -- an answer to an opening or a look is one of the root
    pub root_answer : (c : Call) (a : Answer) → c ∈ slot_calls_from 1 s.events → a ∈ answers_of worlds s → a.id ≡ c.id → a ∈ own_answers Root
    root_answer c a there given same = from (source a given)
      where
        own : (e : Ensemble) → a ∈ own_answers e → a ∈ own_answers Root
        own Root m = m
        own (Slot slot) m =
            let d = called (Slot slot) a m in
            absurd (apart c d.0 there (slot_called slot d.0 d.1).0 (sym same ∙ sym d.2))

        from : Source 1 s.events a → a ∈ own_answers Root
        from (inl (e, m)) = own e m
        from (inr (d, routed, id, reply, closed)) = absurd (apart c d there routed (sym same ∙ id))

    -- an answer to a call of a slot is one of the slot
    pub slot_answer : (slot : ℕ) (c : Call) (a : Answer) → c ∈ line_calls (lines_of worlds s (Slot slot)) → a ∈ answers_of worlds s → a.id ≡ c.id → a ∈ own_answers (Slot slot)
    slot_answer slot c a there given same = from (source a given)
      where
        here : (c ∈ routed_calls_from 1 s.events) × (slot_of c.key ≡ slot) × (opens_before c.event (opening_of worlds s (Slot slot)) ≡ true)
        here = slot_called slot c there

        own : (e : Ensemble) → a ∈ own_answers e → a ∈ own_answers (Slot slot)
        own Root m =
            let d = called Root a m in
            let In : List Call → Type 0 = λ l. d.0 ∈ l in
            absurd (apart d.0 c (subst In root_called d.1) here.0 (d.2 ∙ same))
        own (Slot other) m =
            let d = called (Slot other) a m in
            let at = slot_called other d.0 d.1 in
            let one : d.0 ≡ c = one_routed d.0 c at.0 here.0 (d.2 ∙ same) in
            let slots : other ≡ slot = sym at.1 ∙ ap (λ (x : Call). slot_of x.key) one ∙ here.1 in
            let In : ℕ → Type 0 = λ n. a ∈ own_answers (Slot n) in
            subst In slots m

        from : Source 1 s.events a → a ∈ own_answers (Slot slot)
        from (inl (e, m)) = own e m
        from (inr (d, routed, id, reply, closed)) =
            let one : d ≡ c = one_routed d c routed here.0 (sym id ∙ same) in
            let shut : opens_before c.event (opening_of worlds s (Slot slot)) ≡ false =
            ap (λ (n : ℕ). opens_before c.event (opening_of worlds s (Slot n))) (sym here.1) ∙ ap (λ (x : Call). opens_before x.event (opening_of worlds s (Slot (slot_of x.key)))) (sym one) ∙ closed in
            absurd (cc (shut, here.2))

    -- a routed call that was completed is one of its slot, and so is its answer
    pub routed_done : (d : Call) (a : Answer) → d ∈ routed_calls_from 1 s.events → a ∈ answers_of worlds s → a.id ≡ d.id → IsDone a.reply
        → (d ∈ line_calls (lines_of worlds s (Slot (slot_of d.key)))) × (a ∈ own_answers (Slot (slot_of d.key)))
    routed_done d a there given same done = from (source a given)
      where
        own : (e : Ensemble) → a ∈ own_answers e → (d ∈ line_calls (lines_of worlds s (Slot (slot_of d.key)))) × (a ∈ own_answers (Slot (slot_of d.key)))
        own Root m =
            let c = called Root a m in
            let In : List Call → Type 0 = λ l. c.0 ∈ l in
            absurd (apart c.0 d (subst In root_called c.1) there (c.2 ∙ same))
        own (Slot slot) m =
            let c = called (Slot slot) a m in
            let at = slot_called slot c.0 c.1 in
            let one : c.0 ≡ d = one_routed c.0 d at.0 there (c.2 ∙ same) in
            let slots : slot ≡ slot_of d.key = sym at.1 ∙ ap (λ (x : Call). slot_of x.key) one in
            let InCalls : Call → Type 0 = λ x. x ∈ line_calls (lines_of worlds s (Slot slot)) in
            let Both : ℕ → Type 0 = λ n. (d ∈ line_calls (lines_of worlds s (Slot n))) × (a ∈ own_answers (Slot n)) in
            subst Both slots (subst InCalls one c.1, m)

        from : Source 1 s.events a → (d ∈ line_calls (lines_of worlds s (Slot (slot_of d.key)))) × (a ∈ own_answers (Slot (slot_of d.key)))
        from (inl (e, m)) = own e m
        from (inr (c, routed, id, reply, closed)) = absurd (subst IsDone reply done)
