-- The slots that opened, in order.
use Rattle.std.proofs.Common.{◌≡◌, ℕ, ◌+◌, ◌<◌, ◌≤◌, ◌^◌, ◌==◌, ◌⊎◌, inl, inr, Bool, true, false, if◌then◌else◌, List, [], ◌∷◌, ◌++◌, length, map, Option, Some, None, refl, sym, ap, subst, ◌∙◌, arith}
use Rattle.std.proofs.lemmas.Bool.Decides.{nat_tests}
use Rattle.ens_base.specs.Lists.{◌∈◌, AreDistinct}
use Rattle.ens_base.proofs.Lists.{in_append, in_left, in_right}
use Rattle.register_model.specs.declared.printed.Printed.{Printed}
use Rattle.register_model.specs.declared.printed.Printed.TheVariants as printed
use Rattle.scripts.specs.Spelling.{IsScript}
use Rattle.scripts.specs.declared.event.RootEvent.{RootEvent}
use Rattle.scripts.specs.declared.script.RootScript.{RootScript}
use Rattle.scripts.specs.declared.slots.Ensemble.{Ensemble}
use Rattle.scripts.specs.declared.slots.Ensemble.TheVariants.{Root, Slot}
use Rattle.root_laws.specs.Lines.{ensemble_of, own_event}
use Rattle.root_laws.specs.Openings.{Opening, told_by}
use Rattle.root_laws.specs.Steps.{AreInOrder, AreOpened, Branch, GrowByLine, Roots, at_first, in_ensemble, in_slot, open_lines, open_slot, open_told, opened_at, printed_next, roots_after, said, step, steps}
use Rattle.root_laws.specs.Worlds.{Worlds}
use Rattle.root_laws.proofs.Prefixes.{run_openings}

abbrev Slots : List (ℕ × Opening) → List ℕ
Slots opened = map (λ x. x.0) opened

-- one slot with its opening
abbrev one : ℕ → Opening → List (ℕ × Opening)
one slot o = (slot, o) ∷ []

-- the list of the open slots is right, and none opened behind the event of this number
record Lists (number : ℕ) (w : Roots) : Type 0 where
  each : (slot : ℕ) (o : Opening) → (slot, o) ∈ w.opened → opened_at (w.slots slot) ≡ Some o
  all : (slot : ℕ) (o : Opening) → opened_at (w.slots slot) ≡ Some o → (slot, o) ∈ w.opened
  once : AreDistinct (Slots w.opened)
  in_order : AreInOrder 0 w.opened
  by_now : (slot : ℕ) (o : Opening) → (slot, o) ∈ w.opened → o.event ≤ number

in_order_end : (low number : ℕ) (xs : List (ℕ × Opening)) (slot : ℕ) (o : Opening) → low ≤ o.event → ((t : ℕ) (p : Opening) → (t, p) ∈ xs → p.event ≤ o.event) → AreInOrder low xs → AreInOrder low (xs ++ (slot, o) ∷ [])
in_order_end low number [] slot o least before h = (least, tt)
in_order_end low number (x ∷ xs) slot o least before h = (h.0, in_order_end x.1.event number xs slot o (before x.0 x.1 (inl refl)) (λ t p m. before t p (inr m)) h.1)

slot_in : (xs : List (ℕ × Opening)) (slot : ℕ) → slot ∈ Slots xs → (o : Opening) × ((slot, o) ∈ xs)
slot_in [] slot m = absurd m
slot_in (x ∷ xs) slot (inl is) = (x.1, inl (ap (λ (k : ℕ). (k, x.1)) is))
slot_in (x ∷ xs) slot (inr m) = let rest = slot_in xs slot m in (rest.0, inr rest.1)

distinct_end : (xs : List (ℕ × Opening)) (slot : ℕ) (o : Opening) → AreDistinct (Slots xs) → ((p : Opening) → (slot, p) ∈ xs → ⊥) → AreDistinct (Slots (xs ++ (slot, o) ∷ []))
distinct_end [] slot o h new = ((λ m. m), tt)
distinct_end (x ∷ xs) slot o h new = (apart, distinct_end xs slot o h.1 (λ p m. new p (inr m)))
  where
    apart : x.0 ∈ Slots (xs ++ (slot, o) ∷ []) → ⊥
    apart m =
        let found = slot_in (xs ++ (slot, o) ∷ []) x.0 m in
        choose found.0 (in_append xs ((slot, o) ∷ []) (x.0, found.0) found.1)
      where
        choose : (p : Opening) → ((x.0, p) ∈ xs) ⊎ ((x.0, p) ∈ one slot o) → ⊥
        choose p (inl k) = h.0 (in_slots xs x.0 p k)
          where
            in_slots : (ys : List (ℕ × Opening)) (t : ℕ) (q : Opening) → (t, q) ∈ ys → t ∈ Slots ys
            in_slots [] t q k = k
            in_slots (y ∷ ys) t q (inl is) = inl (ap (λ (z : ℕ × Opening). z.0) is)
            in_slots (y ∷ ys) t q (inr k) = inr (in_slots ys t q k)
        choose p (inr (inl is)) =
            let same : slot ≡ x.0 = sym (ap (λ (z : ℕ × Opening). z.0) is) in
            new x.1 (inl (ap (λ (k : ℕ). (k, x.1)) same))
        choose p (inr (inr k)) = k

-- a slot that opens comes last
opens_slot : (number slot : ℕ) (view : List ℕ) (b : Option Branch) (w : Roots) → w.slots slot ≡ b → Lists number w → Lists number (open_slot number slot view b w)
opens_slot number slot view (Some b) w is h = h
opens_slot number slot view None w is h = record {
  each = λ t o m. each t o (in_append w.opened ((slot, opening) ∷ []) (t, o) m);
  all = λ t o e. all t o (slot == t) refl e;
  once = distinct_end w.opened slot opening h.once (λ p m. new p m);
  in_order = in_order_end 0 number w.opened slot opening (omega arith) (λ t p m. h.by_now t p m) h.in_order;
  by_now = λ t o m. by_now t o (in_append w.opened ((slot, opening) ∷ []) (t, o) m);
}
  where
    opening : Opening
    opening = record { event = number; view = view }

    fresh : Branch
    fresh = record { opening = opening; events = [] }

    new : (p : Opening) → (slot, p) ∈ w.opened → ⊥
    new p m =
        let shows : opened_at (w.slots slot) ≡ Some p = h.each slot p m in
        let shut : opened_at (w.slots slot) ≡ None = ap opened_at is in
        cc (shows, shut)

    own : (c : Bool) → c ≡ true → opened_at (if c then Some fresh else w.slots slot) ≡ Some opening
    own true e = refl
    own false e = absurd cc

    each : (t : ℕ) (o : Opening) → ((t, o) ∈ w.opened) ⊎ ((t, o) ∈ one slot opening) → opened_at (if slot == t then Some fresh else w.slots t) ≡ Some o
    each t o (inl m) = apart (slot == t) refl
      where
        apart : (c : Bool) → (slot == t) ≡ c → opened_at (if c then Some fresh else w.slots t) ≡ Some o
        apart true e =
            let same : slot ≡ t = grind (arith, nat_tests, e) in
            absurd (new o (subst (λ (k : ℕ). (k, o) ∈ w.opened) (sym same) m))
        apart false e = h.each t o m
    each t o (inr (inl is)) =
        let slots : t ≡ slot = ap (λ (z : ℕ × Opening). z.0) is in
        let openings : o ≡ opening = ap (λ (z : ℕ × Opening). z.1) is in
        let here : (slot == t) ≡ true = grind (arith, nat_tests, slots) in
        ap (λ (c : Bool). opened_at (if c then Some fresh else w.slots t)) here ∙ ap (λ (p : Opening). Some p) (sym openings)
    each t o (inr (inr m)) = absurd m

    all : (t : ℕ) (o : Opening) (c : Bool) → (slot == t) ≡ c → opened_at (if c then Some fresh else w.slots t) ≡ Some o → (t, o) ∈ (w.opened ++ (slot, opening) ∷ [])
    all t o true e shows =
        let same : slot ≡ t = grind (arith, nat_tests, e) in
        let openings : opening ≡ o = cc shows in
        in_right w.opened ((slot, opening) ∷ []) (t, o) (inl (ap (λ (k : ℕ). (k, o)) (sym same) ∙ ap (λ (p : Opening). (slot, p)) (sym openings)))
    all t o false e shows = in_left w.opened ((slot, opening) ∷ []) (t, o) (h.all t o shows)

    by_now : (t : ℕ) (o : Opening) → ((t, o) ∈ w.opened) ⊎ ((t, o) ∈ one slot opening) → o.event ≤ number
    by_now t o (inl m) = h.by_now t o m
    by_now t o (inr (inl is)) = let at : o.event ≡ number = ap (λ (z : ℕ × Opening). z.1.event) is in omega arith
    by_now t o (inr (inr m)) = absurd m

opens_told : (number : ℕ) (t : Option (ℕ × List ℕ)) (w : Roots) → Lists number w → Lists number (open_told number t w)
opens_told number None w h = h
opens_told number (Some (slot, view)) w h = opens_slot number slot view (w.slots slot) w refl h

opens_lines : (events : List RootEvent) (number : ℕ) (lines : List Printed) (w : Roots) → Lists number w → Lists number (open_lines events number lines w)
opens_lines events number [] w h = h
opens_lines events number (printed.Answer a ∷ more) w h = opens_lines events number more (open_told number (told_by events a) w) (opens_told number (told_by events a) w h)
opens_lines events number (printed.Change event peer taken ∷ more) w h = opens_lines events number more w h

-- what else a line changes leaves the openings
lists_same : (number later : ℕ) (old new : Roots) → number ≤ later → new.opened ≡ old.opened → ((slot : ℕ) → opened_at (new.slots slot) ≡ opened_at (old.slots slot)) → Lists number old → Lists later new
lists_same number later old new more list openings h = record {
  each = λ t o m. openings t ∙ h.each t o (was t o m);
  all = λ t o e. subst (λ (l : List (ℕ × Opening)). (t, o) ∈ l) (sym list) (h.all t o (sym (openings t) ∙ e));
  once = subst (λ (l : List (ℕ × Opening)). AreDistinct (Slots l)) (sym list) h.once;
  in_order = subst (λ (l : List (ℕ × Opening)). AreInOrder 0 l) (sym list) h.in_order;
  by_now = λ t o m. let before : o.event ≤ number = h.by_now t o (was t o m) in omega arith;
}
  where
    was : (t : ℕ) (o : Opening) → (t, o) ∈ new.opened → (t, o) ∈ old.opened
    was t o m = subst (λ (l : List (ℕ × Opening)). (t, o) ∈ l) list m

pub few_events : (s : RootScript) → IsScript s → length s.events < 2 ^ 32
few_events s script = omega (arith, script.lines)

module _ (worlds : Worlds) (s : RootScript) where
  step_lists : (number : ℕ) (x : RootEvent) (w : Roots) → Lists number w → Lists (number + 1) (step worlds s (number + 1) x w)
  step_lists number x w h = by_ensemble (ensemble_of x)
    where
      in_branch : (slot : ℕ) (o : Option Branch) → w.slots slot ≡ o → Lists (number + 1) (in_slot worlds s (number + 1) slot (own_event x) o w)
      in_branch slot None is = lists_same number (number + 1) w (in_slot worlds s (number + 1) slot (own_event x) None w) (omega arith) refl (λ t. refl) h
      in_branch slot (Some b) is = lists_same number (number + 1) w (in_slot worlds s (number + 1) slot (own_event x) (Some b) w) (omega arith) refl (λ t. kept t (slot == t) refl) h
        where
          kept : (t : ℕ) (c : Bool) → (slot == t) ≡ c → opened_at (if c then Some (record b { events = b.events ++ own_event x ∷ [] }) else w.slots t) ≡ opened_at (w.slots t)
          kept t true e = let same : slot ≡ t = grind (arith, nat_tests, e) in sym (ap opened_at (ap w.slots (sym same) ∙ is))
          kept t false e = refl

      by_ensemble : (e : Ensemble) → Lists (number + 1) (in_ensemble worlds s (number + 1) (own_event x) e w)
      by_ensemble Root =
          let lines : List Printed = printed_next worlds s.peers s.view w.root (own_event x) in
          let mid : Roots = record w { root = w.root ++ own_event x ∷ []; printed = w.printed ++ said (number + 1) Root lines } in
          opens_lines s.events (number + 1) lines mid (lists_same number (number + 1) w mid (omega arith) refl (λ t. refl) h)
      by_ensemble (Slot slot) = in_branch slot (w.slots slot) refl

  -- so after all lines
  lists_on : (number : ℕ) (rest : List RootEvent) (w : Roots) → Lists number w → (last : ℕ) × Lists last (steps worlds s (number + 1) rest w)
  lists_on number [] w h = (number, h)
  lists_on number (x ∷ rest) w h = lists_on (number + 1) rest (step worlds s (number + 1) x w) (step_lists number x w h)

  first_lists : Lists 0 at_first
  first_lists = record { each = λ t o m. absurd m; all = λ t o e. cc e; once = tt; in_order = tt; by_now = λ t o m. absurd m }

  pub run_opened : GrowByLine worlds → IsScript s → AreOpened worlds s (roots_after worlds s).opened
  run_opened growing script =
      let lists = (lists_on 0 s.events at_first first_lists).1 in
      record {
        each = λ t o m. run_openings worlds s growing (few_events s script) script t ∙ lists.each t o m;
        all = λ t o e. lists.all t o (sym (run_openings worlds s growing (few_events s script) script t) ∙ e);
        once = lists.once;
        in_order = lists.in_order;
      }
