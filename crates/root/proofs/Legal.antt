-- The run of a script is legal.
use Rattle.std.proofs.Common.{◌≡◌, ℕ, ◌+◌, ◌<◌, ◌^◌, ◌==◌, ◌⊎◌, Bool, true, false, if◌then◌else◌, List, [], ◌∷◌, ◌++◌, length, drop, Option, None, Some, inl, inr, refl, sym, ap, subst, ◌∙◌, append-nil, append_assoc, arith}
use Rattle.std.specs.Prelude.{Contains}
use Rattle.ens_base.proofs.Lists.{in_append, in_left, in_right}
use Rattle.ens_base.specs.Lists.{◌∈◌}
use Rattle.ens_base.specs.View.{IsView}
use Rattle.world_spec.specs.Held.{HasNoClash}
use Rattle.register_model.specs.declared.printed.Printed.{Printed}
use Rattle.register_model.specs.declared.printed.Printed.TheVariants as printed
use Rattle.replay.proofs.Members.{Contains_from_in, in_from_Contains}
use Rattle.root_laws.proofs.Calls.{stand_behind}
use Rattle.root_laws.proofs.Prefixes.{run_openings, run_root_events, run_slot_events}
use Rattle.root_laws.proofs.Histories.{run_legal}
use Rattle.root_laws.proofs.Opened.{few_events}
use Rattle.root_laws.specs.Legal.{HaveLegalStories, IsLegalRun}
use Rattle.root_laws.specs.Lines.{ensemble_of, events_of, lines_behind, own_event}
use Rattle.root_laws.specs.Openings.{Opening, told_by}
use Rattle.root_laws.specs.Runs.{lines_of, lines_with, opening_of, root_answers, story_with}
use Rattle.root_laws.specs.Steps.{Branch, Roots, at_first, in_ensemble, in_slot, open_lines, open_slot, open_told, opened_at, printed_next, roots_after, said, step, steps}
use Rattle.root_laws.specs.Worlds.{IsLegalStory}
use Rattle.scripts.specs.Spelling.{IsScript}
use Rattle.scripts.specs.declared.event.RootEvent.{RootEvent}
use Rattle.scripts.specs.declared.script.RootScript.{RootScript}
use Rattle.scripts.specs.declared.slots.Ensemble.{Ensemble}
use Rattle.scripts.specs.declared.slots.Ensemble.TheVariants.{Root, Slot}
use Rattle.schedule_text.specs.declared.event.ScheduleEvent.{ScheduleEvent}
use Rattle.world_spec.specs.Runs.{Run, opening_run}
use Rattle.root.specs.Hashed.{hashed_by, line_hashed, lines_hashed, opened_hashed, opened_since, own_hashed, routed_hashed}
use Rattle.root.specs.Worlds.{branch_next, branch_run, events_in, newest, world, worlds}
use Rattle.root.proofs.Lists.{drop_prefix}
use Rattle.root.proofs.Own.{behind_distinct, behind_few, events_few, lines_distinct, lines_stand}
use Rattle.root.proofs.Printing.{worlds_grow}
use Rattle.root.proofs.Running.{Opens, hashed_more, lines_open, one_more}
use Rattle.root.proofs.Stories.{silence_legal, story_legal}
use Rattle.root.proofs.Views.{opening_view}

-- ## The strings of each world are among those of the run

module _ (s : RootScript) where
  -- each string of a world is among these
  abbrev Kept : List (List ℕ) → Roots → Type 0
  Kept strings r = (e : Ensemble) (b : Branch) → events_in s r e ≡ Some b → (x : List ℕ) → x ∈ (branch_run s b).hashed → x ∈ strings

  kept_more : (strings others : List (List ℕ)) (r : Roots) → ((x : List ℕ) → x ∈ strings → x ∈ others) → Kept strings r → Kept others r
  kept_more strings others r more kept e b is x m = more x (kept e b is x m)

  same_some : (a b : Branch) → ◌≡◌ {A = Option Branch} (Some a) (Some b) → a ≡ b
  same_some a b h = cc h

  no_branch : (b : Branch) → ◌≡◌ {A = Option Branch} None (Some b) → ⊥
  no_branch b h = cc h

  -- one event more in a world
  longer : (strings : List (List ℕ)) (b : Branch) (event : ScheduleEvent) → ((x : List ℕ) → x ∈ (branch_run s b).hashed → x ∈ strings)
      → (x : List ℕ) → x ∈ (branch_next s b event).hashed → x ∈ (strings ++ own_hashed s event (Some b))
  longer strings b event kept x m =
      choose (in_append (branch_run s b).hashed (own_hashed s event (Some b)) x (subst (λ (w : Run). x ∈ w.hashed) (one_more s.peers b.opening.view b.events event) m))
    where
      choose : (x ∈ (branch_run s b).hashed) ⊎ (x ∈ own_hashed s event (Some b)) → x ∈ (strings ++ own_hashed s event (Some b))
      choose (inl k) = in_left strings (own_hashed s event (Some b)) x (kept x k)
      choose (inr k) = in_right strings (own_hashed s event (Some b)) x k

  -- a slot opens
  kept_slot : (strings : List (List ℕ)) (number slot : ℕ) (view : List ℕ) (o : Option Branch) (r : Roots) → Kept strings r → Kept (strings ++ opened_hashed s (opened_since r (open_slot number slot view o r))) (open_slot number slot view o r)
  kept_slot strings number slot view (Some b) r kept = kept_more strings _ r (λ x m. in_left strings _ x m) kept
  kept_slot strings number slot view None r kept = by
    where
      fresh : Branch
      fresh = record { opening = record { event = number; view = view }; events = [] }

      next : Roots
      next = open_slot number slot view None r

      new : opened_hashed s (opened_since r next) ≡ (opening_run newest s.peers view).hashed
      new = ap (opened_hashed s) (drop_prefix r.opened ((slot, record { event = number; view = view }) ∷ [])) ∙ append-nil (opening_run newest s.peers view).hashed

      at : (t : ℕ) (b : Branch) (c : Bool) → (if c then Some fresh else r.slots t) ≡ Some b → (x : List ℕ) → x ∈ (branch_run s b).hashed → x ∈ (strings ++ opened_hashed s (opened_since r next))
      at t b true is x m =
          let same : fresh ≡ b = same_some fresh b is in
          in_right strings (opened_hashed s (opened_since r next)) x (subst (λ (l : List (List ℕ)). x ∈ l) (sym new) (subst (λ (y : Branch). x ∈ (branch_run s y).hashed) (sym same) m))
      at t b false is x m = in_left strings (opened_hashed s (opened_since r next)) x (kept (Slot t) b is x m)

      by : Kept (strings ++ opened_hashed s (opened_since r next)) next
      by Root b is x m = in_left strings (opened_hashed s (opened_since r next)) x (kept Root b is x m)
      by (Slot t) b is x m = at t b (slot == t) is x m

  kept_told : (strings : List (List ℕ)) (number : ℕ) (t : Option (ℕ × List ℕ)) (r : Roots) → Kept strings r → Kept (strings ++ opened_hashed s (opened_since r (open_told number t r))) (open_told number t r)
  kept_told strings number None r kept = kept_more strings _ r (λ x m. in_left strings _ x m) kept
  kept_told strings number (Some (slot, view)) r kept = kept_slot strings number slot view (r.slots slot) r kept

  told_opens : (number : ℕ) (a : Option (ℕ × List ℕ)) (r : Roots) → Opens r (open_told number a r)
  told_opens number None r = ([], sym (append-nil r.opened))
  told_opens number (Some (slot, view)) r = at (r.slots slot)
    where
      at : (o : Option Branch) → Opens r (open_slot number slot view o r)
      at (Some b) = ([], sym (append-nil r.opened))
      at None = ((slot, record { event = number; view = view }) ∷ [], refl)

  kept_lines : (strings : List (List ℕ)) (number : ℕ) (lines : List Printed) (r : Roots) → Kept strings r → Kept (strings ++ opened_hashed s (opened_since r (open_lines s.events number lines r))) (open_lines s.events number lines r)
  kept_lines strings number [] r kept = kept_more strings _ r (λ x m. in_left strings _ x m) kept
  kept_lines strings number (printed.Change event peer taken ∷ more) r kept = kept_lines strings number more r kept
  kept_lines strings number (printed.Answer a ∷ more) r kept =
      let next : Roots = open_told number (told_by s.events a) r in
      let last : Roots = open_lines s.events number more next in
      let first : List (List ℕ) = opened_hashed s (opened_since r next) in
      let rest : List (List ℕ) = opened_hashed s (opened_since next last) in
      let all : strings ++ opened_hashed s (opened_since r last) ≡ (strings ++ first) ++ rest = ap (λ (l : List (List ℕ)). strings ++ l) (hashed_more s r next last (told_opens number (told_by s.events a) r) (lines_open s.events number more next)) ∙ sym (append_assoc strings first rest) in
      subst (λ (l : List (List ℕ)). Kept l last) (sym all) (kept_lines (strings ++ first) number more next (kept_told strings number (told_by s.events a) r kept))

  -- the strings of a line
  with_routed : (strings routed own opened : List (List ℕ)) (x : List ℕ) → x ∈ ((strings ++ own) ++ opened) → x ∈ (strings ++ (routed ++ (own ++ opened)))
  with_routed strings routed own opened x m = choose (in_append (strings ++ own) opened x m)
    where
      later : x ∈ (own ++ opened) → x ∈ (strings ++ (routed ++ (own ++ opened)))
      later k = in_right strings (routed ++ (own ++ opened)) x (in_right routed (own ++ opened) x k)

      first : (x ∈ strings) ⊎ (x ∈ own) → x ∈ (strings ++ (routed ++ (own ++ opened)))
      first (inl k) = in_left strings (routed ++ (own ++ opened)) x k
      first (inr k) = later (in_left own opened x k)

      choose : (x ∈ (strings ++ own)) ⊎ (x ∈ opened) → x ∈ (strings ++ (routed ++ (own ++ opened)))
      choose (inl k) = first (in_append strings own x k)
      choose (inr k) = later (in_right own opened x k)

  kept_root : (strings : List (List ℕ)) (number : ℕ) (event : ScheduleEvent) (r : Roots) → Kept strings r
      → Kept ((strings ++ own_hashed s event (events_in s r Root)) ++ opened_hashed s (opened_since r (in_ensemble worlds s number event Root r))) (in_ensemble worlds s number event Root r)
  kept_root strings number event r kept = kept_lines (strings ++ own_hashed s event (events_in s r Root)) number lines mid before
    where
      lines : List Printed
      lines = printed_next worlds s.peers s.view r.root event

      mid : Roots
      mid = record r { root = r.root ++ event ∷ []; printed = r.printed ++ said number Root lines }

      root : Branch
      root = record { opening = record { event = 0; view = s.view }; events = r.root }

      next : Branch
      next = record { opening = record { event = 0; view = s.view }; events = r.root ++ event ∷ [] }

      before : Kept (strings ++ own_hashed s event (events_in s r Root)) mid
      before Root b is x m =
          let same : next ≡ b = same_some next b is in
          longer strings root event (kept Root root refl) x (subst (λ (y : Branch). x ∈ (branch_run s y).hashed) (sym same) m)
      before (Slot t) b is x m = in_left strings (own_hashed s event (events_in s r Root)) x (kept (Slot t) b is x m)

  kept_in_slot : (strings : List (List ℕ)) (number slot : ℕ) (event : ScheduleEvent) (o : Option Branch) (r : Roots) → r.slots slot ≡ o → Kept strings r → Kept (strings ++ own_hashed s event o) (in_slot worlds s number slot event o r)
  kept_in_slot strings number slot event None r is kept = at
    where
      at : Kept (strings ++ []) (in_slot worlds s number slot event None r)
      at Root b e x m = in_left strings [] x (kept Root b e x m)
      at (Slot t) b e x m = in_left strings [] x (kept (Slot t) b e x m)
  kept_in_slot strings number slot event (Some old) r is kept = at
    where
      next : Branch
      next = record old { events = old.events ++ event ∷ [] }

      own : List (List ℕ)
      own = own_hashed s event (Some old)

      by : (t : ℕ) (b : Branch) (c : Bool) → (if c then Some next else r.slots t) ≡ Some b → (x : List ℕ) → x ∈ (branch_run s b).hashed → x ∈ (strings ++ own)
      by t b true e x m =
          let same : next ≡ b = same_some next b e in
          longer strings old event (kept (Slot slot) old is) x (subst (λ (y : Branch). x ∈ (branch_run s y).hashed) (sym same) m)
      by t b false e x m = in_left strings own x (kept (Slot t) b e x m)

      at : Kept (strings ++ own) (in_slot worlds s number slot event (Some old) r)
      at Root b e x m = in_left strings own x (kept Root b e x m)
      at (Slot t) b e x m = by t b (slot == t) e x m

  kept_step : (strings : List (List ℕ)) (number : ℕ) (x : RootEvent) (r : Roots) → Kept strings r → Kept (strings ++ line_hashed s number x r) (step worlds s number x r)
  kept_step strings number x r kept = by (ensemble_of x)
    where
      event : ScheduleEvent
      event = own_event x

      by : (e : Ensemble) → Kept (strings ++ (routed_hashed x ++ (own_hashed s event (events_in s r e) ++ opened_hashed s (opened_since r (in_ensemble worlds s number event e r))))) (in_ensemble worlds s number event e r)
      by Root = kept_more _ _ (in_ensemble worlds s number event Root r) (with_routed strings (routed_hashed x) (own_hashed s event (events_in s r Root)) (opened_hashed s (opened_since r (in_ensemble worlds s number event Root r)))) (kept_root strings number event r kept)
      by (Slot slot) = kept_more (strings ++ own_hashed s event (r.slots slot)) _ (in_ensemble worlds s number event (Slot slot) r)
          (λ y m. with_routed strings (routed_hashed x) (own_hashed s event (r.slots slot)) _ y (in_left (strings ++ own_hashed s event (r.slots slot)) _ y m))
          (kept_in_slot strings number slot event (r.slots slot) r refl kept)

  kept_steps : (strings : List (List ℕ)) (number : ℕ) (xs : List RootEvent) (r : Roots) → Kept strings r → Kept (strings ++ lines_hashed s number xs r) (steps worlds s number xs r)
  kept_steps strings number [] r kept = kept_more strings (strings ++ []) r (λ x m. in_left strings [] x m) kept
  kept_steps strings number (x ∷ xs) r kept =
      let next : Roots = step worlds s number x r in
      subst (λ (l : List (List ℕ)). Kept l (steps worlds s (number + 1) xs next)) (append_assoc strings (line_hashed s number x r) (lines_hashed s (number + 1) xs next)) (kept_steps (strings ++ line_hashed s number x r) (number + 1) xs next (kept_step strings number x r kept))

  kept_first : Kept (opening_run newest s.peers s.view).hashed at_first
  kept_first Root b is x m =
      let root : Branch = record { opening = record { event = 0; view = s.view }; events = [] } in
      let same : root ≡ b = same_some root b is in
      subst (λ (y : Branch). x ∈ (branch_run s y).hashed) (sym same) m
  kept_first (Slot t) b is x m = absurd (no_branch b is)

  pub all_kept : Kept (hashed_by s) (roots_after worlds s)
  all_kept = kept_steps (opening_run newest s.peers s.view).hashed 1 s.events at_first kept_first

-- ## Legality

module _ (s : RootScript) (script : IsScript s) (apart : HasNoClash (hashed_by s)) where
  few : length s.events < 2 ^ 32
  few = few_events s script

  abbrev last : Roots
  last = roots_after worlds s

  abbrev own_events : Ensemble → Opening → List ScheduleEvent
  own_events e o = events_of (lines_behind o.event e s.events)

  -- the world of an ensemble that opens is one of the last ones
  is_last : (e : Ensemble) (o : Opening) → opening_of worlds s e ≡ Some o → (b : Branch) × (events_in s last e ≡ Some b) × (branch_run s b ≡ world s.peers o.view (own_events e o))
  is_last Root o is =
      let same : record { event = 0; view = s.view } ≡ o = cc is in
      let root : Branch = record { opening = record { event = 0; view = s.view }; events = last.root } in
      (root, refl, ap (world s.peers s.view) (sym (run_root_events worlds s worlds_grow few script)) ∙ ap (λ (x : Opening). world s.peers x.view (own_events Root x)) same)
  is_last (Slot slot) o is = at (last.slots slot) refl (sym (run_openings worlds s worlds_grow few script slot) ∙ is)
    where
      at : (x : Option Branch) → last.slots slot ≡ x → opened_at (last.slots slot) ≡ Some o → (b : Branch) × (last.slots slot ≡ Some b) × (branch_run s b ≡ world s.peers o.view (own_events (Slot slot) o))
      at None e k = let none : opened_at (last.slots slot) ≡ None = ap opened_at e in absurd (cc (none, k))
      at (Some b) e k =
          let opening : b.opening ≡ o = cc (ap opened_at e, k) in
          let lines : events_of (lines_of worlds s (Slot slot)) ≡ b.events = run_slot_events worlds s worlds_grow few script slot b e in
          let own : own_events (Slot slot) o ≡ b.events = ap (λ (p : Option Opening). events_of (lines_with s (Slot slot) p)) (sym is) ∙ lines in
          (b, e, ap (λ (p : Opening). world s.peers p.view b.events) opening ∙ ap (world s.peers o.view) (sym own))

  strings_apart : (e : Ensemble) (o : Opening) → opening_of worlds s e ≡ Some o → HasNoClash (world s.peers o.view (own_events e o)).hashed
  strings_apart e o is first second in_first in_second same =
      let b = is_last e o is in
      let moved : (x : List ℕ) → Contains (world s.peers o.view (own_events e o)).hashed x → Contains (hashed_by s) x =
      λ x m. Contains_from_in (hashed_by s) x (all_kept s e b.0 b.1 x (subst (λ (w : Run). x ∈ w.hashed) (sym b.2) (in_from_Contains (world s.peers o.view (own_events e o)).hashed x m))) in
      apart first second (moved first in_first) (moved second in_second) same

  is_view : (e : Ensemble) (o : Opening) → opening_of worlds s e ≡ Some o → IsView o.view
  is_view Root o is = let same : record { event = 0; view = s.view } ≡ o = cc is in subst (λ (x : Opening). IsView x.view) same script.view.1
  is_view (Slot slot) o is = opening_view s.peers slot s.events (root_answers worlds s) o script.events is

  legal_stories : HaveLegalStories worlds s
  legal_stories e = at (opening_of worlds s e) refl
    where
      at : (p : Option Opening) → opening_of worlds s e ≡ p → IsLegalStory (events_of (lines_with s e p)) (story_with worlds s e p)
      at None is = silence_legal
      at (Some o) is =
          story_legal s.peers o.view (own_events e o) script.peers.1 (is_view e o is) (omega (arith, events_few (o.event + 1) e (drop o.event s.events), behind_few o.event s.events, few))
          (lines_stand s.peers (o.event + 1) e (drop o.event s.events) (stand_behind s.peers o.event s.events script.events)) (lines_distinct s.peers (o.event + 1) e (drop o.event s.events) (stand_behind s.peers o.event s.events script.events) (behind_distinct o.event s.events script.distinct)) (strings_apart e o is)

  pub script_legal : IsLegalRun worlds s
  script_legal = run_legal worlds s script legal_stories
